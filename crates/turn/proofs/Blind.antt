-- An axis is turned over as without marks, which travel with their edges (request #105).
use mathlib.Core.Path.{◌≡◌, refl, sym, ap, ◌∙◌}
use mathlib.Core.List.{List, [], ◌∷◌, ◌++◌, map, reverse, reverse_aux, map-map, map-append}
use Prim.Native.Nat.{ℕ, zero, suc, min}
use lib.ListN.{take, drop, get_or-map}
use Rattle.refusals.specs.Refusal.{◌unless◌, refusal, answered, bad_index, out_of_range}
use Rattle.axis.specs.declared.edge.Edge.{Edge}
use Rattle.axis.specs.declared.edge.Axis.{Axis}
use Rattle.axis.specs.declared.segment.Segments.{Segments}
use Rattle.axis.specs.Edge.{empty_edge}
use Rattle.axis.specs.Limits.{most_edges}
use Rattle.axis.specs.Mark.{unmarked, unmarked_axis, Blind}
use Rattle.axis.specs.Refusals.{every, edges_short, segments_short, segments_indexed, segments_in_range, segments_nexts, edge_segments}
use Rattle.axis.proofs.Alike.{AlikeAxis, unmarked-alike, indices-alike, numbers-alike, blind}
use Rattle.turn.specs.Indices.{segments_edges, edges_segments}
use Rattle.turn.specs.Turning.{turned_edge, turned_edges, turned_axis, turned_segments, turning_tests, beside, without_marks, turn_over}

-- ---- lists
map-reverse : (f : Edge → Edge) (l r : List Edge) → map f (reverse_aux l r) ≡ reverse_aux (map f l) (map f r)
map-reverse f [] r = refl
map-reverse f (x ∷ l) r = map-reverse f l (x ∷ r)

map-take : (f : Edge → Edge) (n : ℕ) (l : List Edge) → map f (take n l) ≡ take n (map f l)
map-take f zero l = refl
map-take f (suc n) [] = refl
map-take f (suc n) (x ∷ l) = ap (λ (r : List Edge). f x ∷ r) (map-take f n l)

map-drop : (f : Edge → Edge) (n : ℕ) (l : List Edge) → map f (drop n l) ≡ drop n (map f l)
map-drop f zero l = refl
map-drop f (suc n) [] = refl
map-drop f (suc n) (x ∷ l) = map-drop f n l

-- ---- tables
edges-unmarked : (m : ℕ) (es : List Edge) → turned_edges m (map unmarked es) ≡ map unmarked (turned_edges m es)
edges-unmarked m es =
    let front = reverse (take m es) in
    let first = ap reverse (sym (map-take unmarked m es)) ∙ sym (map-reverse unmarked (take m es) []) in
    let behind = sym (map-drop unmarked m es) in
    (λ i. map (turned_edge m) (first i) ++ behind i)
    ∙ ap (λ (r : List Edge). r ++ map unmarked (drop m es)) (map-map (turned_edge m) unmarked front ∙ sym (map-map unmarked (turned_edge m) front))
    ∙ sym (map-append unmarked (map (turned_edge m) front) (drop m es))

axis-unmarked : (axis : Axis) → turned_axis (unmarked_axis axis) ≡ unmarked_axis (turned_axis axis)
unfolding turned_axis
axis-unmarked axis = λ i. record { dim = axis.dim; major_dir = axis.major_dir; edges = edges-unmarked axis.len axis.edges i; len = axis.len }

-- ---- the call
module _ (axis : Axis) (t : Segments) where
  segments-same : edges_segments t.len (unmarked_axis axis) ≡ edges_segments t.len axis
  unfolding edges_segments edge_segments
  segments-same = λ j. every (λ (i : ℕ). edge_segments t.len (get_or-map unmarked axis.edges i empty_edge j)) (min axis.len most_edges)

  refusal-same : refusal (turning_tests (unmarked_axis axis) t) ≡ refusal (turning_tests axis t)
  refusal-same =
      let h = unmarked-alike axis in
      λ j. refusal
      (segments_short t ∷ edges_short axis ∷ segments_indexed t ∷ bad_index unless segments_nexts t ∷ bad_index unless segments_edges axis.len t
      ∷ bad_index unless indices-alike _ _ h j ∷ bad_index unless segments-same j ∷ segments_in_range t ∷ out_of_range unless numbers-alike _ _ h j ∷ [])

  -- erasing marks before the call or behind it is the same
  pub turned-unmarked : turn_over (unmarked_axis axis) t ≡ without_marks (turn_over axis t)
  unfolding turn_over
  turned-unmarked =
      (λ j. answered (refusal-same j) (beside (unmarked_axis axis) t) (beside (axis-unmarked axis j) (turned_segments axis.len t) 0))
      ∙ by_answer (refusal (turning_tests axis t))
    where
      by_answer : (k : ℕ) → answered k (beside (unmarked_axis axis) t) (beside (unmarked_axis (turned_axis axis)) (turned_segments axis.len t) 0)
          ≡ without_marks (answered k (beside axis t) (beside (turned_axis axis) (turned_segments axis.len t) 0))
      by_answer zero = refl
      by_answer (suc k) = refl

pub marks-unread : (t : Segments) → Blind (λ (axis : Axis). turn_over axis t) without_marks
marks-unread t =
    blind _ without_marks (λ (a b : Axis) (h : AlikeAxis a b). sym (turned-unmarked a t) ∙ ap (λ (x : Axis). turn_over x t) h.same ∙ turned-unmarked b t)
