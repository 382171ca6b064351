-- The rule on a table that holds a list, empty places behind it, is the rule on the list.
use Rattle.std.specs.Prelude.{None, Some}
use mathlib.Core.Path.{◌≡◌, refl, ap, ◌∙◌}
use mathlib.Core.Bool.{Bool, true, false, cond}
use mathlib.Core.List.{List, [], ◌∷◌, ◌++◌}
use Prim.Native.Nat.{ℕ, zero, suc, ◌≤◌, min}
use native.Mathlib.Omega.{arith}
use borrow.Author.Tests.{leb-true}
use lib.Dec.{leb, eqb}
use lib.IntN.{ℤ}
use lib.ListN.{length, get_or, set, take, replicate}
use Rattle.signed.proofs.Choices.{cond_map}
use Rattle.refusals.specs.Refusal.{◌unless◌, refusal, bad_parameter, bad_index, out_of_range}
use Rattle.axis.specs.Link.{Link}
use Rattle.axis.specs.declared.kinds.Group.{Group}
use Rattle.axis.specs.declared.edge.Edge.{Edge}
use Rattle.axis.specs.declared.edge.Axis.{Axis}
use Rattle.axis.specs.Edge.{empty_edge, edge_at, put_edge, finished}
use Rattle.axis.specs.Limits.{most_edges}
use Rattle.axis.specs.Refusals.{every, edge_indices, edge_numbers, edges_indices, edges_numbers}
use Rattle.lowercase_m.specs.declared.stems.Stems.{Stems}
use Rattle.lowercase_m.specs.M.{delta, applies, applies_to, moved_back, move_done, move_only, move_link, move_serifs, move_stem, aligned, count_holds, mTests}
use Rattle.lowercase_m_list.specs.Table.{axis_with}
use Rattle.lowercase_m_list.specs.M.{axis_of}

-- ---- the table
abbrev pub table_edges : List Edge → List Edge
table_edges l = take most_edges (l ++ replicate most_edges empty_edge)

abbrev pub table_axis : List Edge → Axis
table_axis l = axis_with (table_edges l) (length l)

-- its places are those of the list: behind that they are empty, as a list's are
empty-at : (m k i : ℕ) → get_or (take m (replicate k empty_edge)) i empty_edge ≡ empty_edge
empty-at zero k i = refl
empty-at (suc m) zero i = refl
empty-at (suc m) (suc k) zero = refl
empty-at (suc m) (suc k) (suc i) = empty-at m k i

padded-at : (l : List Edge) (m k i : ℕ) → length l ≤ m → get_or (take m (l ++ replicate k empty_edge)) i empty_edge ≡ get_or l i empty_edge
padded-at [] m k i h = empty-at m k i
padded-at (e ∷ l) zero k i h = absurd (omega arith)
padded-at (e ∷ l) (suc m) k zero h = refl
padded-at (e ∷ l) (suc m) k (suc i) h = padded-at l m k i (omega arith)

-- and its first edges are the list
padded-first : (l : List Edge) (m k : ℕ) → length l ≤ m → take (length l) (take m (l ++ replicate k empty_edge)) ≡ l
padded-first [] m k h = refl
padded-first (e ∷ l) zero k h = absurd (omega arith)
padded-first (e ∷ l) (suc m) k h = ap (λ (rest : List Edge). e ∷ rest) (padded-first l m k (omega arith))

-- ---- the first edges of an axis
abbrev cut : ℕ → Axis → Axis
cut n axis = record { dim = axis.dim; major_dir = axis.major_dir; edges = take n axis.edges; len = axis.len }

-- an edge is changed in its place, before or after
take-set : (f : Edge → Edge) (n : ℕ) (l : List Edge) (i : ℕ) → take n (set l i (f (get_or l i empty_edge))) ≡ set (take n l) i (f (get_or (take n l) i empty_edge))
take-set f zero l i = refl
take-set f (suc n) [] i = refl
take-set f (suc n) (e ∷ l) zero = refl
take-set f (suc n) (e ∷ l) (suc i) = ap (λ (rest : List Edge). e ∷ rest) (take-set f n l i)

cut-put : (f : Edge → Edge) (n : ℕ) (axis : Axis) (i : ℕ) → cut n (put_edge axis i (f (edge_at axis i))) ≡ put_edge (cut n axis) i (f (edge_at (cut n axis) i))
cut-put f n axis i =
    ap (λ (es : List Edge). record { dim = axis.dim; major_dir = axis.major_dir; edges = es; len = axis.len }) (take-set f n axis.edges i)

-- ---- the moves
cut-done : (n : ℕ) (axis : Axis) (i : ℕ) (d : ℤ) → cut n (move_done axis i d) ≡ move_done (cut n axis) i d
unfolding move_done
cut-done n axis i d = cut-put (λ (e : Edge). finished (moved_back e d)) n axis i

cut-only : (n : ℕ) (axis : Axis) (i : ℕ) (d : ℤ) → cut n (move_only axis i d) ≡ move_only (cut n axis) i d
unfolding move_only
cut-only n axis i d = cut-put (λ (e : Edge). moved_back e d) n axis i

cut-link : (n : ℕ) (axis : Axis) (l : Link) (d : ℤ) → cut n (move_link axis l d) ≡ move_link (cut n axis) l d
unfolding move_link
cut-link n axis None d = refl
cut-link n axis (Some k) d = cut-done n axis k d

cut-serifs : (n : ℕ) (axis : Axis) (d : ℤ) → cut n (move_serifs axis d) ≡ move_serifs (cut n axis) d
unfolding move_serifs
cut-serifs n axis d =
    cond_map (cut n) (eqb axis.len 12) (move_only (move_only axis 8 d) 11 d) axis (move_only (move_only (cut n axis) 8 d) 11 d) (cut n axis)
    (cut-only n (move_only axis 8 d) 11 d ∙ ap (λ (a : Axis). move_only a 11 d) (cut-only n axis 8 d))
    refl

module _ (l : List Edge) (few : length l ≤ most_edges) where
  place : (i : ℕ) → edge_at (table_axis l) i ≡ edge_at (axis_of l) i
  place i = padded-at l most_edges most_edges i few

  first : cut (length l) (table_axis l) ≡ axis_of l
  first = ap (λ (es : List Edge). axis_with es (length l)) (padded-first l most_edges most_edges few)

  stem : (i : ℕ) (d : ℤ) → cut (length l) (move_stem (table_axis l) i d) ≡ move_stem (axis_of l) i d
  unfolding move_stem
  stem i d =
      let n = length l in
      let t = table_axis l in
      cut-serifs n (move_link (move_done t i d) (edge_at t i).link d) d
      ∙ ap (λ (a : Axis). move_serifs a d) (cut-link n (move_done t i d) (edge_at t i).link d
      ∙ (λ j. move_link ((cut-done n t i d ∙ ap (λ (a : Axis). move_done a i d) first) j) (place i j).link d))

  -- ---- the rule
  pub aligned-same : (group : Group) (s : Stems) → take (length l) (aligned group (table_axis l) s).edges ≡ (aligned group (axis_of l) s).edges
  unfolding aligned
  aligned-same group s =
      let n = length l in
      let t = table_axis l in
      let a = axis_of l in
      let d = delta (edge_at t s.first).pos (edge_at t s.second).pos (edge_at t s.third).pos in
      ap (λ (x : Axis). x.edges)
      (cond_map (cut n) (applies_to group t s) (move_stem t s.third d) t (move_stem a s.third d) a (stem s.third d) first
      ∙ (λ j. cond (applies group s (place s.first j) (place s.second j) (place s.third j))
      (move_stem a s.third (delta (place s.first j).pos (place s.second j).pos (place s.third j).pos)) a))

  -- ---- the tests
  tests_same : refusal (bad_parameter unless count_holds (length l) ∷ bad_index unless edges_indices (table_axis l) ∷ out_of_range unless edges_numbers (table_axis l)
      ∷ [])
      ≡ refusal (bad_parameter unless count_holds (length l) ∷ bad_index unless edges_indices (axis_of l) ∷ out_of_range unless edges_numbers (axis_of l) ∷ [])
  unfolding edges_indices edges_numbers
  tests_same = λ j.
      refusal (bad_parameter unless count_holds (length l)
      ∷ bad_index unless every (λ (i : ℕ). edge_indices (length l) (place i j)) (min (length l) most_edges)
      ∷ out_of_range unless every (λ (i : ℕ). edge_numbers (place i j)) (min (length l) most_edges)
      ∷ [])

-- a list that is too long is refused before its edges are read
pub refusal-same : (l : List Edge) → refusal (mTests (table_axis l)) ≡ refusal (mTests (axis_of l))
unfolding refusal
refusal-same l = go (leb (length l) most_edges) refl
  where
    go : (b : Bool) → leb (length l) most_edges ≡ b
        → cond b (refusal (bad_parameter unless count_holds (length l) ∷ bad_index unless edges_indices (table_axis l)
        ∷ out_of_range unless edges_numbers (table_axis l) ∷ [])) 1
        ≡ cond b (refusal (bad_parameter unless count_holds (length l) ∷ bad_index unless edges_indices (axis_of l) ∷ out_of_range unless edges_numbers (axis_of l)
        ∷ [])) 1
    go true e = tests_same l (leb-true (length l) most_edges e)
    go false e = refl
