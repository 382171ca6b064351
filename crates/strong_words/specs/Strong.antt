-- Strong points over lent edges, which are not written, and the lent lists of an outline, of which the currents and the touch marks are.
use Rattle.std.specs.Prelude.{◌≡◌, Bool, true, ◌||◌, List, ◌⊎◌, ℕ, ◌≤◌, ◌<◌, length, get_or, ℤ}
use Rattle.axis.specs.Accepted.{AxisWithin}
use Rattle.axis.specs.Limits.{most_pos}
use Rattle.weak_contour.specs.Contour.{at, is_touched}
use Rattle.weak_contour.specs.Limits.{most_points}
use Rattle.weak_contour.specs.Steps.{Coordinates}
use Rattle.words_call.specs.Lent.{Lent, edges_front, edges_of}
use Rattle.words_edge.specs.Whole.{Whole}
use Rattle.strong.specs.Strong.{Aligned, align_strong, aligned_all, all_placed}

-- ---- the call
-- what it hands back
abbrev pub aligned_by : List ℤ → List ℤ → List ℤ → List ℤ → List ℕ → List ℕ → Aligned
aligned_by ws f o c t w = align_strong (edges_of ws) f o c t w

-- the currents and the touch marks of it
abbrev pub lists : Aligned → List ℤ × List ℕ
lists a = (a.currents, a.touched)

-- what it owes its caller: the answer r, and the currents and touch marks that it leaves, those it was given beside a refusal
abbrev pub StrongLent : List ℤ → List ℤ → List ℤ → List ℤ → List ℕ → List ℕ → ℕ → List ℤ × List ℕ → Type 0
StrongLent ws f o c t w = Lent (edges_front ws true) (aligned_by ws f o c t w).answer (lists (aligned_by ws f o c t w)) (c, t)

-- ---- its steps
-- edges and lists that no other test refuses
pub record Placeable (ws f o : List ℤ) (t w : List ℕ) : Type 0 where
  pub whole : Whole ws
  pub axis : AxisWithin most_pos (edges_of ws)
  pub points : length f ≤ most_points
  pub originals_length : length o ≡ length f
  pub marks_length : length t ≡ length f
  pub weak_length : length w ≡ length f
  pub originals : Coordinates o

-- the lists with every point at its place
pub record PlacedAll (ws f o c : List ℤ) (t w : List ℕ) (c' : List ℤ) (t' : List ℕ) : Type 0 where
  pub currents : c' ≡ (aligned_all (edges_of ws) f o c t w).currents
  pub touched : t' ≡ (aligned_all (edges_of ws) f o c t w).touched

-- whether no point is refused, and where none is those lists
pub record PlacedEach (ws f o c : List ℤ) (t w : List ℕ) (r : Bool) (c' : List ℤ) (t' : List ℕ) : Type 0 where
  pub told : r ≡ all_placed (edges_of ws) f o t w
  pub placed : r ≡ true → PlacedAll ws f o c t w c' t'

-- ---- what it may change
-- the lists keep their lengths; a point that was touched or weak keeps its current and its mark, and every other keeps its mark or has 1
pub record Changes (c : List ℤ) (t w : List ℕ) (c' : List ℤ) (t' : List ℕ) : Type 0 where
  pub currents_length : length c' ≡ length c
  pub marks_length : length t' ≡ length t
  pub left : (i : ℕ) → i < length c → (is_touched t i || is_touched w i) ≡ true → (at c' i ≡ at c i) × (get_or t' i 0 ≡ get_or t i 0)
  pub marks : (i : ℕ) → i < length t → (get_or t' i 0 ≡ get_or t i 0) ⊎ (get_or t' i 0 ≡ 1)
