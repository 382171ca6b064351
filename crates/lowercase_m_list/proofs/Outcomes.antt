-- What is put back is what the promise says.
use mathlib.Core.Path.{◌≡◌, refl, sym, ap, ◌∙◌}
use mathlib.Core.List.{List, [], ◌∷◌, ◌++◌, append-nil}
use Prim.Native.Nat.{ℕ, zero, suc, ◌≤◌, ◌<◌, min}
use native.Mathlib.Omega.{arith}
use borrow.Author.Tests.{leb-true}
use lib.ListN.{length, take, drop, replicate}
use lib.Seq.{drop-length}
use Rattle.refusals.specs.Refusal.{refusal, answered}
use Rattle.refusals.proofs.Tests.{all_hold, answered-no, answered-yes}
use Rattle.axis.specs.declared.kinds.Group.{Group}
use Rattle.axis.specs.declared.edge.Edge.{Edge}
use Rattle.axis.specs.declared.edge.Axis.{Axis}
use Rattle.axis.specs.Edge.{empty_edge}
use Rattle.axis.specs.Limits.{most_edges}
use Rattle.lowercase_m.specs.Answer.{Hinted}
use Rattle.lowercase_m.specs.M.{stems_of, aligned, mTests, hint_lowercase_m, hinted}
use Rattle.lowercase_m_list.specs.Table.{Table}
use Rattle.lowercase_m_list.specs.Table.{empty_table, copied, axis_with, table_of, hint_table}
use Rattle.lowercase_m_list.specs.M.{axis_of, hint_lowercase_m_list, HintsLowercaseMList}
use Rattle.lowercase_m_list.proofs.Tabled.{table_edges, table_axis, aligned-same, refusal-same}

-- ---- the table form's answer
abbrev with_count : Hinted → ℕ → Table
with_count h k = record { answer = h.answer; count = k; edges = h.axis.edges }

-- a refusal puts nothing back
pub refused : (h : Hinted) (edges : List Edge) (len : ℕ) (group : Group) → h ≡ hint_lowercase_m (axis_with edges len) group → 0 < h.answer
    → with_count h 0 ≡ hint_table edges len group
unfolding hint_table
refused h edges len group e p = ap (with_count h) (answered-no h.answer h.answer (λ (k : ℕ). 0) len refl p) ∙ ap (λ (g : Hinted). table_of g len) e

-- otherwise all edges are put back
pub accepted : (h : Hinted) (edges : List Edge) (len : ℕ) (group : Group) → h ≡ hint_lowercase_m (axis_with edges len) group → h.answer ≤ 0
    → with_count h len ≡ hint_table edges len group
unfolding hint_table
accepted h edges len group e p =
    ap (with_count h) (answered-yes h.answer h.answer (λ (k : ℕ). 0) len len refl p refl) ∙ ap (λ (g : Hinted). table_of g len) e

-- ---- the table that is loaded
first-empty : (m k : ℕ) → m ≤ k → replicate m empty_edge ≡ take m (replicate k empty_edge)
first-empty zero k h = refl
first-empty (suc m) zero h = absurd (omega arith)
first-empty (suc m) (suc k) h = ap (λ (l : List Edge). empty_edge ∷ l) (first-empty m k (omega arith))

-- the list in front of m places, and the first m of the list with empty edges behind it
padded : (l : List Edge) (m k : ℕ) → m ≤ k → take (min (length l) m) l ++ drop (min (length l) m) (replicate m empty_edge) ≡ take m (l ++ replicate k empty_edge)
padded [] m k h = let z : min 0 m ≡ 0 = omega arith in ap (λ (i : ℕ). take i [] ++ drop i (replicate m empty_edge)) z ∙ first-empty m k h
padded (e ∷ l) zero k h = let z : min (suc (length l)) 0 ≡ 0 = omega arith in ap (λ (i : ℕ). take i (e ∷ l) ++ drop i []) z
padded (e ∷ l) (suc m) k h =
    let z : min (suc (length l)) (suc m) ≡ suc (min (length l) m) = omega arith in
    ap (λ (i : ℕ). take i (e ∷ l) ++ drop i (replicate (suc m) empty_edge)) z ∙ ap (λ (rest : List Edge). e ∷ rest) (padded l m k (omega arith))

-- what is loaded is the table of the axis that holds the list
pub loaded : (l : List Edge) → copied (min (length l) most_edges) l empty_table ≡ table_edges l
unfolding copied empty_table
loaded l = padded l most_edges most_edges (omega arith)

-- ---- how many edges are put back
answer-is : (axis : Axis) (group : Group) → (hint_lowercase_m axis group).answer ≡ refusal (mTests axis)
unfolding hint_lowercase_m
answer-is axis group = go (refusal (mTests axis)) _
  where
    go : (k : ℕ) (moved : Axis) → (answered k (hinted axis) (hinted moved 0)).answer ≡ k
    go zero moved = refl
    go (suc k) moved = refl

-- what is not refused has few edges
few-edges : (axis : Axis) (group : Group) → (hint_lowercase_m axis group).answer ≡ 0 → axis.len ≤ most_edges
few-edges axis group z = leb-true axis.len most_edges (all_hold (mTests axis) refl (sym (answer-is axis group) ∙ z)).0

at_most : (k len most : ℕ) → (k ≡ 0 → len ≤ most) → (answered k (λ (j : ℕ). 0) len ≤ len) × (answered k (λ (j : ℕ). 0) len ≤ most)
at_most zero len most h = (omega arith, h refl)
at_most (suc k) len most h = (omega arith, omega arith)

-- no more than the list has, nor than the table
pub few-back : (edges : List Edge) (len : ℕ) (group : Group) → ((hint_table edges len group).count ≤ len) × ((hint_table edges len group).count ≤ most_edges)
unfolding hint_table
few-back edges len group = at_most (hint_lowercase_m (axis_with edges len) group).answer len most_edges (few-edges (axis_with edges len) group)

-- ---- the outcome
-- what is put back of a table that holds the list, and the rule on the list
put_back : (k : ℕ) (l : List Edge) (table list moved after : Axis) → list.edges ≡ l → (k ≡ 0 → take (length l) moved.edges ≡ after.edges)
    → copied (answered (answered k (hinted table) (hinted moved 0)).answer (λ (j : ℕ). 0) (length l))
    (answered k (hinted table) (hinted moved 0)).axis.edges l
    ≡ (answered k (hinted list) (hinted after 0)).axis.edges
unfolding copied
put_back zero l table list moved after e h =
    ap (λ (rest : List Edge). take (length l) moved.edges ++ rest) (drop-length l) ∙ append-nil (take (length l) moved.edges) ∙ h refl
put_back (suc k) l table list moved after e h = sym e

back : (l : List Edge) (group : Group)
    → copied (answered (hint_lowercase_m (table_axis l) group).answer (λ (j : ℕ). 0) (length l)) (hint_lowercase_m (table_axis l) group).axis.edges l
    ≡ (hint_lowercase_m (axis_of l) group).axis.edges
unfolding hint_lowercase_m
back l group =
    let s = stems_of (length l) in
    put_back (refusal (mTests (table_axis l))) l (table_axis l) (axis_of l) (aligned group (table_axis l) s) (aligned group (axis_of l) s) refl
    (λ e. aligned-same l (leb-true (length l) most_edges (all_hold (mTests (table_axis l)) refl e).0) group s)
    ∙ ap (λ (k : ℕ). (answered k (hinted (axis_of l)) (hinted (aligned group (axis_of l) s) 0)).axis.edges) (refusal-same l)

-- the table form on what is loaded is the promise, where its edges are put back
pub outcome : (l : List Edge) (group : Group) (t : Table) {m : List Edge}
    → t ≡ hint_table (copied (min (length l) most_edges) l empty_table) (length l) group → m ≡ copied t.count t.edges l
    → HintsLowercaseMList l group t.answer m
unfolding hint_table hint_lowercase_m_list
outcome l group t p e =
    let q : t ≡ table_of (hint_lowercase_m (table_axis l) group) (length l) = p ∙ ap (λ (es : List Edge). hint_table es (length l) group) (loaded l) in
    record {
      answer = ap (λ (u : Table). u.answer) q ∙ answer-is (table_axis l) group ∙ refusal-same l ∙ sym (answer-is (axis_of l) group);
      edges = e ∙ ap (λ (u : Table). copied u.count u.edges l) q ∙ back l group;
    }
