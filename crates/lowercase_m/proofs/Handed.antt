-- What the rule hands on: no edge moves more than twice, so that every position is within `twice_moved`; and which calls it accepts.
use Rattle.std.specs.Prelude.{None, Some}
use mathlib.Core.Path.{◌≡◌, refl, sym, ap, ◌∙◌}
use mathlib.Core.Bool.{Bool, true, false, cond}
use mathlib.Core.List.{List, [], ◌∷◌}
use Prim.Native.Nat.{ℕ, zero, suc, ◌+◌, ◌*◌, ◌≤◌, ◌<◌}
use native.Mathlib.Omega.{arith}
use borrow.Author.Tests.{eq-eqb, eqb-true}
use lib.Dec.{eqb}
use lib.IntN.{ℤ, pos, ◌-ℤ◌, ◌*ℤ◌}
use lib.ListN.{get_or, set}
use Rattle.signed.specs.Range.{Between}
use Rattle.signed.proofs.Signed.{sub-law, mul-up, mul-dn, signed}
use Rattle.signed.proofs.Choices.{cond_cases, either_way}
use Rattle.refusals.specs.Refusal.{refusal}
use Rattle.refusals.proofs.Answers.{none-refused, worked}
use Rattle.refusals.proofs.Tests.{all_hold, no-refusal}
use Rattle.axis.specs.declared.kinds.Group.{Group}
use Rattle.axis.specs.Link.{Link}
use Rattle.axis.specs.declared.edge.Edge.{Edge}
use Rattle.axis.specs.declared.edge.Axis.{Axis}
use Rattle.axis.specs.Accepted.{Below, EdgeWithin, AxisWithin}
use Rattle.axis.specs.Edge.{empty_edge, edge_at, put_edge}
use Rattle.axis.specs.Handed.{EdgesAccepted}
use Rattle.axis.specs.Limits.{most_edges}
use Rattle.axis.specs.Ring.{times}
use Rattle.axis.proofs.Accepting.{edges-within}
use Rattle.lowercase_m.specs.Answer.{Hinted}
use Rattle.lowercase_m.specs.M.{
  stems_of,
  delta,
  most_delta,
  applies_to,
  move_done,
  move_only,
  move_link,
  move_serifs,
  move_stem,
  aligned,
  count_holds,
  mTests,
  hinted,
  hint_lowercase_m,
}
use Rattle.lowercase_m.specs.Steps.{unmoved, twice_moved}
use Rattle.lowercase_m.proofs.Places.{stems-hold}

-- ---- how often an edge is in a list of moves
own : (i : ℕ) (ms : List ℕ) → times i (i ∷ ms) ≡ 1 + times i ms
unfolding times
own i ms = rw (eq-eqb i i refl)

more : (k i : ℕ) (ms : List ℕ) → times k ms ≤ times k (i ∷ ms)
unfolding times
more k i ms = omega arith

-- two different edges are not both k
apart : (k a b : ℕ) → (a ≡ b → ⊥) → cond (eqb k a) 1 0 + cond (eqb k b) 1 0 ≤ 1
apart k a b d = go (eqb k a) refl (eqb k b) refl
  where
    go : (x : Bool) → eqb k a ≡ x → (y : Bool) → eqb k b ≡ y → cond x 1 0 + cond y 1 0 ≤ 1
    go true p true q = absurd (d (let u = eqb-true k a p in let v = eqb-true k b q in omega arith))
    go true p false q = omega arith
    go false p true q = omega arith
    go false p false q = omega arith

one : (k a : ℕ) → cond (eqb k a) 1 0 ≤ 1
one k a = either_way (λ (n : ℕ). n ≤ 1) (eqb k a) 1 0 (omega arith) (omega arith)

-- the stem and its link
two-moves : (k i l : ℕ) → times k (l ∷ i ∷ []) ≤ 2
unfolding times
two-moves k i l = omega (arith, one k i, one k l)

-- and the serifs, where the stem is none of them
four-moves : (k i l : ℕ) → i ≡ 9 → times k (11 ∷ 8 ∷ l ∷ i ∷ []) ≤ 2
unfolding times
four-moves k i l e =
    omega (arith, one k l, apart k 11 8 (λ (h : 11 ≡ 8). omega arith), apart k 11 i (λ (h : 11 ≡ i). omega arith), apart k 8 i (λ (h : 8 ≡ i). omega arith))

-- ---- a store
edge_more : (m c n : ℕ) (e : Edge) → m ≤ c → EdgeWithin m n e → EdgeWithin c n e
edge_more m c n e w h = let p = h.pos in record { opos = h.opos; pos = omega arith; blue = h.blue; link = h.link; serif = h.serif }

set-two : {A : Type 0} (P : A → Type 0) (d y : A) (xs : List A) (m i : ℕ) → (i ≡ m → P y) → P (get_or xs i d) → P (get_or (set xs m y) i d)
set-two P d y [] m i f p = p
set-two P d y (x ∷ xs) zero zero f p = f refl
set-two P d y (x ∷ xs) zero (suc i) f p = p
set-two P d y (x ∷ xs) (suc m) zero f p = p
set-two P d y (x ∷ xs) (suc m) (suc i) f p = set-two P d y xs m i (λ e. f (ap suc e)) p

-- ---- the moves by d of an axis of n edges
-- where a position can be behind so many of them
abbrev reach : ℕ → ℕ
reach often = unmoved + often * most_delta

-- behind the moves of a list
record Moved (n : ℕ) (ms : List ℕ) (axis : Axis) : Type 0 where
  len : axis.len ≡ n
  edge : (k : ℕ) → k < n → EdgeWithin (reach (times k ms)) n (edge_at axis k)

module _ (n : ℕ) (d : ℤ) (g : Between most_delta most_delta d) where
  put : (ms : List ℕ) (axis : Axis) (i : ℕ) (e : Edge) → Moved n ms axis → EdgeWithin (reach (times i (i ∷ ms))) n e → Moved n (i ∷ ms) (put_edge axis i e)
  put ms axis i e h w = record {
    len = h.len;
    edge = λ k l.
        set-two (EdgeWithin (reach (times k (i ∷ ms))) n) empty_edge e axis.edges i k (λ (v : k ≡ i). rw v w)
        (edge_more (reach (times k ms)) (reach (times k (i ∷ ms))) n (edge_at axis k) (omega (arith, more k i ms)) (h.edge k l));
  }

  back : (ms : List ℕ) (axis : Axis) (i : ℕ) → i < n → Moved n ms axis → Between (reach (times i (i ∷ ms))) (reach (times i (i ∷ ms))) ((edge_at axis i).pos -ℤ d)
  back ms axis i q h = let p = (h.edge i q).pos in omega (arith, signed, own i ms, sub-law (edge_at axis i).pos d)

  done-moved : (ms : List ℕ) (axis : Axis) (i : ℕ) → i < n → Moved n ms axis → Moved n (i ∷ ms) (move_done axis i d)
  unfolding move_done
  done-moved ms axis i q h =
      let e = h.edge i q in
      put ms axis i _ h (record { opos = e.opos; pos = back ms axis i q h; blue = e.blue; link = e.link; serif = e.serif })

  only-moved : (ms : List ℕ) (axis : Axis) (i : ℕ) → i < n → Moved n ms axis → Moved n (i ∷ ms) (move_only axis i d)
  unfolding move_only
  only-moved ms axis i q h =
      let e = h.edge i q in
      put ms axis i _ h (record { opos = e.opos; pos = back ms axis i q h; blue = e.blue; link = e.link; serif = e.serif })

  -- no edge is in more than two of them
  few : (ms : List ℕ) (axis : Axis) → n ≤ most_edges → ((k : ℕ) → times k ms ≤ 2) → Moved n ms axis → AxisWithin twice_moved axis
  few ms axis l t h = record {
    few = rw h.len l;
    edge = λ k q. rw h.len (edge_more (reach (times k ms)) twice_moved n (edge_at axis k) (omega (arith, t k)) (h.edge k (rw h.len at q)));
  }

  serifs : (axis : Axis) (i l : ℕ) → n ≤ most_edges → (n ≡ 12 → i ≡ 9) → Moved n (l ∷ i ∷ []) axis → AxisWithin twice_moved (move_serifs axis d)
  unfolding move_serifs
  serifs axis i l m nine h =
      cond_cases (AxisWithin twice_moved) (eqb axis.len 12) _ axis
      (λ e.
      let twelve : n ≡ 12 = sym h.len ∙ eqb-true axis.len 12 e in
      few (11 ∷ 8 ∷ l ∷ i ∷ []) _ m (λ k. four-moves k i l (nine twelve))
      (only-moved (8 ∷ l ∷ i ∷ []) _ 11 (omega arith) (only-moved (l ∷ i ∷ []) axis 8 (omega arith) h)))
      (λ e. few (l ∷ i ∷ []) axis m (λ k. two-moves k i l) h)

  -- an edge without a link moves as one that is linked to none of the edges
  unlinked : (axis : Axis) (i : ℕ) → Moved n (i ∷ []) axis → Moved n (n ∷ i ∷ []) axis
  unlinked axis i h = record {
    len = h.len;
    edge = λ k l. edge_more (reach (times k (i ∷ []))) (reach (times k (n ∷ i ∷ []))) n (edge_at axis k) (omega (arith, more k n (i ∷ []))) (h.edge k l);
  }

  by-link : (axis : Axis) (i : ℕ) (l : Link) → n ≤ most_edges → (n ≡ 12 → i ≡ 9) → Below n l → Moved n (i ∷ []) axis
      → AxisWithin twice_moved (move_serifs (move_link axis l d) d)
  unfolding move_link
  by-link axis i None m nine b h = serifs axis i n m nine (unlinked axis i h)
  by-link axis i (Some k) m nine b h = serifs (move_done axis k d) i k m nine (done-moved (i ∷ []) axis k (b.at k refl) h)

-- ---- the rule
start : (axis : Axis) → AxisWithin unmoved axis → Moved axis.len [] axis
unfolding times
start axis h = record { len = refl; edge = λ k q. edge_more unmoved (reach 0) axis.len (edge_at axis k) (omega arith) (h.edge k q) }

stem-within : (axis : Axis) (i : ℕ) (d : ℤ) → AxisWithin unmoved axis → i < axis.len → (axis.len ≡ 12 → i ≡ 9) → Between most_delta most_delta d
    → AxisWithin twice_moved (move_stem axis i d)
unfolding move_stem
stem-within axis i d h q nine g =
    by-link axis.len d g (move_done axis i d) i (edge_at axis i).link h.few nine (h.edge i q).link
    (done-moved axis.len d g [] axis i q (start axis h))

delta-within : (p1 p2 p3 : ℤ) → Between unmoved unmoved p1 → Between unmoved unmoved p2 → Between unmoved unmoved p3
    → Between most_delta most_delta (delta p1 p2 p3)
delta-within p1 p2 p3 a b c = omega (arith, signed, sub-law p3 ((p2 *ℤ pos 2) -ℤ p1), sub-law (p2 *ℤ pos 2) p1, mul-up p2 2, mul-dn p2 2)

-- of twelve edges the third stem is edge 9
third-is : (n : ℕ) → n ≡ 12 → (stems_of n).third ≡ 9
third-is n e = rw e

aligned-within : (axis : Axis) (group : Group) → AxisWithin unmoved axis → count_holds axis.len ≡ true
    → AxisWithin twice_moved (aligned group axis (stems_of axis.len))
unfolding aligned
aligned-within axis group h c =
    let s = stems_of axis.len in
    let S = stems-hold axis h.few c in
    let p : (i : ℕ) → i < axis.len → Between unmoved unmoved (edge_at axis i).pos = λ i q. (h.edge i q).pos in
    either_way (AxisWithin twice_moved) (applies_to group axis s) _ axis
    (stem-within axis s.third _ h S.third_below (third-is axis.len)
    (delta-within _ _ _ (p _ S.first_below) (p _ S.second_below) (p _ S.third_below)))
    (record { few = h.few; edge = λ k q. edge_more unmoved twice_moved axis.len (edge_at axis k) (omega arith) (h.edge k q) })

-- ---- the call
module _ (axis : Axis) (group : Group) where
  abbrev work : Hinted
  work = hinted (aligned group axis (stems_of axis.len)) 0

  outcome : refusal (mTests axis) ≡ 0 → hint_lowercase_m axis group ≡ work
  unfolding hint_lowercase_m
  outcome e = worked (hinted axis) work (refusal (mTests axis)) e

  -- 6 or 12 edges that are accepted are answered by 0
  pub accepts : EdgesAccepted axis → count_holds axis.len ≡ true → (hint_lowercase_m axis group).answer ≡ 0
  accepts a c = ap (λ (h : Hinted). h.answer) (outcome (no-refusal (mTests axis) (a.short, (c, (a.indexed, (a.in_range, refl))))))

  -- with answer 0 every position is within 9 · 2²⁴, and original positions, zones, links and serifs are as they are in accepted edges
  pub handed-within : (hint_lowercase_m axis group).answer ≡ 0 → AxisWithin twice_moved (hint_lowercase_m axis group).axis
  unfolding hint_lowercase_m
  handed-within e =
      let z = none-refused (hinted axis) work (λ (h : Hinted). h.answer) (λ j. refl) (refusal (mTests axis)) e in
      let t = all_hold (mTests axis) refl z in
      rw z (aligned-within axis group (edges-within axis (record { short = t.0; indexed = t.1.1.0; in_range = t.1.1.1.0 })) t.1.0)
