-- Strong points (the Rust's `align_strong_points`), which are ours, beyond document 01: a point that is neither touched nor weak moves with the edges around it. u is its position in
-- font units and v its original; f, o, c are the font positions, originals and currents of the points of an outline, t their touch marks and w their weak marks.
use Rattle.std.specs.Prelude.{Bool, true, false, cond, ◌||◌, List, [], ◌∷◌, ◌++◌, ℕ, zero, suc, ◌+◌, ◌-◌, ◌/◌, leb, ltb, eqb, length, get_or, ℤ, ◌+ℤ◌, ◌-ℤ◌}
use Rattle.std.specs.Int.Signed.{lt_z, le_z}
use Rattle.signed.specs.Equality.{eq_z}
use Rattle.refusals.specs.Refusal.{Test, ◌unless◌, too_long, steep, refusal, answered}
use Rattle.axis.specs.declared.edge.Axis.{Axis}
use Rattle.axis.specs.Edge.{edge_at}
use Rattle.axis.specs.Limits.{most_pos}
use Rattle.axis.specs.Refusals.{within, every, edges_short, edges_indexed, edges_in_range}
use Rattle.fixed.specs.Point.{mul_fix, div_fix}
use Rattle.fixed.specs.Divide.{too_steep}
use Rattle.weak_contour.specs.Limits.{most_points, most_coordinate}
use Rattle.weak_contour.specs.Contour.{at, is_touched}
use Rattle.weak.specs.Weak.{range_tests}
use Rattle.words.specs.Word.{firsts}
use Rattle.strong.specs.declared.place.Place.{Place}
use Rattle.strong.specs.declared.place.Place.TheVariants.{Stays, At, Beyond}

-- ---- the search for the edge at or behind a font position
-- how many edges are searched one by one; more are searched by halving, which finds another one where several have the same `fpos`
abbrev pub most_one_by_one : ℕ
most_one_by_one = 8

-- the first of the n numbers f i, f (i + 1), .. that is not below u; where none is, the place behind them
unfoldable pub one_by_one : (ℕ → ℤ) → ℤ → ℕ → ℕ → ℕ
one_by_one f u i zero = i
one_by_one f u i (suc n) = cond (le_z u (f i)) i (one_by_one f u (suc i) n)

-- the number in the middle
abbrev pub middle : ℕ → ℕ → ℕ
middle lo hi = (lo + hi) / 2

-- the first number met that is u, from the middle of those from lo up to hi on, in the half where it has to be; where none is met, the place where lo and hi meet. Each step leaves fewer,
-- so that as many steps as there are numbers are enough
unfoldable pub by_halving : (ℕ → ℤ) → ℤ → ℕ → ℕ → ℕ → ℕ
by_halving f u zero lo hi = lo
by_halving f u (suc n) lo hi =
    cond (ltb lo hi)
    (cond (lt_z u (f (middle lo hi))) (by_halving f u n lo (middle lo hi))
    (cond (eq_z u (f (middle lo hi))) (middle lo hi) (by_halving f u n (suc (middle lo hi)) hi)))
    lo

-- the font positions of an axis
abbrev pub fpos_at : Axis → ℕ → ℤ
fpos_at axis i = (edge_at axis i).fpos

-- the edge that is found for u
unfoldable pub found : Axis → ℤ → ℕ
found axis u =
    cond (leb axis.len most_one_by_one) (one_by_one (fpos_at axis) u 0 axis.len) (by_halving (fpos_at axis) u axis.len 0 axis.len)

-- ---- where a point comes to
-- as far from the edge as it was; beyond the positions of edges it is refused
unfoldable pub moved_with : ℤ → ℤ → ℤ → Place
moved_with v opos p = cond (within most_pos (p +ℤ (v -ℤ opos))) (At (p +ℤ (v -ℤ opos))) Beyond

-- between two edges with font positions f1 and f2 and positions p1 and p2: the first's position, and u - f1 times the fixed quotient of the positions by the font positions; where that
-- is too steep it is refused
unfoldable pub between : ℤ → ℤ → ℤ → ℤ → ℤ → Place
between u f1 p1 f2 p2 = cond (too_steep (p2 -ℤ p1) (f2 -ℤ f1)) Beyond (At (p1 +ℤ mul_fix (u -ℤ f1) (div_fix (p2 -ℤ p1) (f2 -ℤ f1))))

-- with edge i
abbrev pub with_edge : Axis → ℕ → ℤ → Place
with_edge axis i v = moved_with v (edge_at axis i).opos (edge_at axis i).pos

-- on the edge k that is found it takes its position, and else it comes between the one before it and k
unfoldable pub on_or_before : Axis → ℤ → ℕ → Place
on_or_before axis u k =
    cond (eq_z u (fpos_at axis k)) (At (edge_at axis k).pos)
    (between u (fpos_at axis (k - 1)) (edge_at axis (k - 1)).pos (fpos_at axis k) (edge_at axis k).pos)

-- without edges it stays; at or below the first edge it moves with that, at or above the last with the last; else by the edge that is found
unfoldable pub place_of : Axis → ℤ → ℤ → Place
place_of axis u v =
    cond (eqb axis.len 0) Stays
    (cond (le_z u (fpos_at axis 0)) (with_edge axis 0 v)
    (cond (le_z (fpos_at axis (axis.len - 1)) u) (with_edge axis (axis.len - 1) v)
    (on_or_before axis u (found axis u))))

-- the point i of an outline, which stays where it is touched or weak
unfoldable pub strong_at : Axis → List ℤ → List ℤ → List ℕ → List ℕ → ℕ → Place
strong_at axis f o t w i = cond (is_touched t i || is_touched w i) Stays (place_of axis (at f i) (at o i))

-- ---- what a place makes of a point
-- of its current
unfoldable pub current_after : ℤ → Place → ℤ
current_after z Stays = z
current_after z (At y) = y
current_after z Beyond = z

-- of its touch mark
unfoldable pub mark_after : ℕ → Place → ℕ
mark_after m Stays = m
mark_after m (At y) = 1
mark_after m Beyond = m

-- it is not refused
unfoldable pub is_placed : Place → Bool
is_placed Stays = true
is_placed (At y) = true
is_placed Beyond = false

-- ---- the call
-- the tests of its lists
abbrev pub list_tests : List ℤ → List ℤ → List ℤ → List ℕ → List ℕ → List Test
list_tests f o c t w =
    too_long unless leb (length f) most_points
    ∷ too_long unless eqb (length o) (length f)
    ∷ too_long unless eqb (length c) (length f)
    ∷ too_long unless eqb (length t) (length f)
    ∷ too_long unless eqb (length w) (length f)
    ∷ []

-- no point is refused
unfoldable pub all_placed : Axis → List ℤ → List ℤ → List ℕ → List ℕ → Bool
all_placed axis f o t w = every (λ (i : ℕ). is_placed (strong_at axis f o t w i)) (length f)

-- all its tests in their order: how many edges there are, the lists, the indices and the numbers of the edges, the coordinates, and then each point
abbrev pub strong_tests : Axis → List ℤ → List ℤ → List ℤ → List ℕ → List ℕ → List Test
strong_tests axis f o c t w =
    edges_short axis ∷ (list_tests f o c t w ++ (edges_indexed axis ∷ edges_in_range axis ∷ (range_tests most_coordinate o c ++ (steep unless all_placed axis f o t w ∷ []))))

-- what the call hands back: an answer, the currents and the touch marks
pub record Aligned : Type 0 where
  pub answer : ℕ
  pub currents : List ℤ
  pub touched : List ℕ

-- every point at its place
abbrev pub aligned_all : Axis → List ℤ → List ℤ → List ℤ → List ℕ → List ℕ → Aligned
aligned_all axis f o c t w = record {
  answer = 0;
  currents = firsts (λ i. current_after (at c i) (strong_at axis f o t w i)) (length f);
  touched = firsts (λ i. mark_after (get_or t i 0) (strong_at axis f o t w i)) (length f);
}

-- a refusal beside what was given
abbrev pub refused_by : List ℤ → List ℕ → ℕ → Aligned
refused_by c t k = record { answer = k; currents = c; touched = t }

unfoldable pub align_strong : Axis → List ℤ → List ℤ → List ℤ → List ℕ → List ℕ → Aligned
align_strong axis f o c t w = answered (refusal (strong_tests axis f o c t w)) (refused_by c t) (aligned_all axis f o c t w)
