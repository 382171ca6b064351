-- Edges and axes that are alike but for their marks: what is read of them is the same, and stores keep them alike.
use mathlib.Core.Path.{◌≡◌, refl, sym, ap, ◌∙◌}
use mathlib.Core.Bool.{Bool, true, false, cond}
use mathlib.Core.List.{List, [], ◌∷◌, map}
use Prim.Native.Nat.{ℕ, zero, suc, ◌+◌, min}
use native.Mathlib.Omega.{arith}
use lib.IntN.{ℤ}
use lib.ListN.{get_or, set, get_or-map}
use Rattle.refusals.specs.Refusal.{answered}
use Rattle.axis.specs.declared.kinds.Mark.{Mark}
use Rattle.axis.specs.declared.kinds.Mark.TheVariants as Marks
use Rattle.axis.specs.declared.edge.Edge.{Edge}
use Rattle.axis.specs.declared.edge.Axis.{Axis}
use Rattle.axis.specs.Edge.{empty_edge, edge_at, put_edge, placed, finished, fixed_at}
use Rattle.axis.specs.Limits.{most_edges}
use Rattle.axis.specs.Mark.{unmarked, unmarked_axis, Blind}
use Rattle.axis.specs.Refusals.{every, edge_indices, edge_numbers, edges_indices, edges_numbers}
use Rattle.axis.specs.Visits.{visits}

-- two edges are alike
pub record Alike (e f : Edge) : Type 0 where
  pub same : unmarked e ≡ unmarked f

-- two axes are
pub record AlikeAxis (a b : Axis) : Type 0 where
  pub same : unmarked_axis a ≡ unmarked_axis b

-- ---- one edge
-- what is made of an edge by a position, whatever the marks
pub placed_alike : (e f : Edge) (p q : ℤ) (m n : Mark) → Alike e f → p ≡ q → Alike (placed e p m) (placed f q n)
placed_alike e f p q m n h g = record { same = λ i. placed (h.same i) (g i) Marks.Nothing }

pub finished-alike : (e f : Edge) → Alike e f → Alike (finished e) (finished f)
finished-alike e f h = record { same = λ i. finished (h.same i) }

pub fixed_alike : (e f : Edge) (p q : ℤ) (m n : Mark) → Alike e f → p ≡ q → Alike (fixed_at e p m) (fixed_at f q n)
fixed_alike e f p q m n h g = finished-alike _ _ (placed_alike e f p q m n h g)

-- ---- places
map-set : (l : List Edge) (i : ℕ) (e : Edge) → map unmarked (set l i e) ≡ set (map unmarked l) i (unmarked e)
map-set [] i e = refl
map-set (x ∷ l) zero e = refl
map-set (x ∷ l) (suc i) e = ap (λ (es : List Edge). unmarked x ∷ es) (map-set l i e)

pub at-alike : (a b : Axis) (i : ℕ) → AlikeAxis a b → Alike (edge_at a i) (edge_at b i)
at-alike a b i h = record {
  same =
      sym (get_or-map unmarked a.edges i empty_edge) ∙ ap (λ (x : Axis). get_or x.edges i empty_edge) h.same
      ∙ get_or-map unmarked b.edges i empty_edge;
}

pub put-alike : (a b : Axis) (i : ℕ) (e f : Edge) → AlikeAxis a b → Alike e f → AlikeAxis (put_edge a i e) (put_edge b i f)
put-alike a b i e f h g = record {
  same =
      put a e
      ∙ (λ k. record { dim = (h.same k).dim; major_dir = (h.same k).major_dir; edges = set (h.same k).edges i (g.same k); len = (h.same k).len })
      ∙ sym (put b f);
}
  where
    put : (x : Axis) (y : Edge) → unmarked_axis (put_edge x i y) ≡ put_edge (unmarked_axis x) i (unmarked y)
    put x y = ap (λ (es : List Edge). record { dim = x.dim; major_dir = x.major_dir; edges = es; len = x.len }) (map-set x.edges i y)

-- an axis and itself without marks
pub unmarked-alike : (axis : Axis) → AlikeAxis (unmarked_axis axis) axis
unmarked-alike axis =
    record { same = ap (λ (es : List Edge). record { dim = axis.dim; major_dir = axis.major_dir; edges = es; len = axis.len }) (twice axis.edges) }
  where
    twice : (l : List Edge) → map unmarked (map unmarked l) ≡ map unmarked l
    twice [] = refl
    twice (x ∷ l) = ap (λ (es : List Edge). unmarked x ∷ es) (twice l)

pub alike_len : (a b : Axis) → AlikeAxis a b → a.len ≡ b.len
alike_len a b h = ap (λ (x : Axis). x.len) h.same

-- ---- choices and visits
-- a choice by two tests that are the same, over any relation
pub cond-alike : {A : Type 0} (R : A → A → Type 0) (t u : Bool) (a b c d : A) → t ≡ u → R a c → R b d → R (cond t a b) (cond u c d)
cond-alike R true true a b c d e p q = p
cond-alike R false false a b c d e p q = q
cond-alike R true false a b c d e p q = absurd (let z : ◌≡◌ {A = ℕ} 0 1 = cc in omega arith)
cond-alike R false true a b c d e p q = absurd (let z : ◌≡◌ {A = ℕ} 0 1 = cc in omega arith)

-- a pass whose visits keep a relation keeps it
pub visits-alike : {S : Type 0} (R : S → S → Type 0) (f : S → ℕ → S) → ((s t : S) (i : ℕ) → R s t → R (f s i) (f t i)) → (n i : ℕ) (s t : S) → R s t
    → R (visits f n i s) (visits f n i t)
unfolding visits
visits-alike R f h zero i s t r = r
visits-alike R f h (suc n) i s t r = visits-alike R f h n (i + 1) (f s i) (f t i) (h s t i r)

-- ---- the tests of a table
every-same : (p q : ℕ → Bool) → ((i : ℕ) → p i ≡ q i) → (n : ℕ) → every p n ≡ every q n
unfolding every
every-same p q h zero = refl
every-same p q h (suc n) = rw (every-same p q h n, h n)

pub indices-alike : (a b : Axis) → AlikeAxis a b → edges_indices a ≡ edges_indices b
unfolding edges_indices edge_indices
indices-alike a b h =
    let n = alike_len a b h in
    every-same _ _ (λ (i : ℕ). λ k. edge_indices (n k) ((at-alike a b i h).same k)) (min a.len most_edges)
    ∙ ap (λ (c : ℕ). every (λ (i : ℕ). edge_indices b.len (edge_at b i)) (min c most_edges)) n

pub numbers-alike : (a b : Axis) → AlikeAxis a b → edges_numbers a ≡ edges_numbers b
unfolding edges_numbers edge_numbers
numbers-alike a b h =
    every-same _ _ (λ (i : ℕ). ap edge_numbers (at-alike a b i h).same) (min a.len most_edges)
    ∙ ap (λ (c : ℕ). every (λ (i : ℕ). edge_numbers (edge_at b i)) (min c most_edges)) (alike_len a b h)

-- ---- a call
-- two that are refused by the same number, or whose work is the same without marks
pub answered-alike : {R : Type 0} (without : R → R) (k j : ℕ) (refused-a refused-b : ℕ → R) (a b : R) → k ≡ j
    → ((n : ℕ) → without (refused-a n) ≡ without (refused-b n)) → without a ≡ without b → without (answered k refused-a a) ≡ without (answered j refused-b b)
answered-alike without k j refused-a refused-b a b e p q = at k ∙ ap (λ (n : ℕ). without (answered n refused-b b)) e
  where
    at : (n : ℕ) → without (answered n refused-a a) ≡ without (answered n refused-b b)
    at zero = q
    at (suc n) = p (suc n)

-- positions are as without marks where alike axes have outcomes that are the same without marks
pub blind : {R : Type 0} (call : Axis → R) (without : R → R) → ((a b : Axis) → AlikeAxis a b → without (call a) ≡ without (call b)) → Blind call without
blind call without h = record {
  whatever = λ (a b : Axis) (e : unmarked_axis a ≡ unmarked_axis b). h a b (record { same = e });
  before = λ (axis : Axis). h (unmarked_axis axis) axis (unmarked-alike axis);
}
