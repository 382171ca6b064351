-- The calls that place one edge, over lent edges, by what the test of their edges tells.
use Rattle.std.specs.Prelude.{None, Result}
use mathlib.Core.Path.{◌≡◌, refl, sym, ap, ◌∙◌}
use mathlib.Core.Bool.{Bool, true, not}
use mathlib.Core.List.{List}
use Prim.Native.Nat.{ℕ, ◌<◌, ◌≤◌}
use native.Mathlib.Omega.{arith}
use borrow.Author.Tests.{ltb-true}
use lib.Dec.{ltb, leb}
use lib.IntN.{ℤ}
use Rattle.refusals.proofs.Tests.{or-held, none-tested, or-decided}
use Rattle.refusals.specs.declared.order.Refusal.{Refusal}
use Rattle.refusals.specs.Outcome.{number_of, answer_of, Required}
use Rattle.refusals.proofs.Outcomes.{then-last}
use Rattle.refusals.specs.Refusal.{bad_parameter, retired, refusal, or_refused}
use Rattle.fixed.specs.declared.width.WidthRule.{WidthRule}
use Rattle.fixed.specs.Width.{rule_holds}
use Rattle.axis.specs.declared.kinds.Dimension.TheVariants as Dimensions
use Rattle.axis.specs.Link.{Link}
use Rattle.axis.specs.declared.edge.Axis.{Axis}
use Rattle.axis.specs.Edge.{edge_at}
use Rattle.axis.specs.Limits.{most_edges, most_pos}
use Rattle.axis.specs.Accepted.{AxisWithin}
use Rattle.place.specs.declared.adjust.LinkDir.{LinkDir}
use Rattle.place.specs.Placing.{both_below, lower_bound, upper_bound, adjusted}
use Rattle.place.specs.Steps.{InReach}
use Rattle.place.proofs.Reach.{below-first, below-second}
use Rattle.place.specs.Answer.{Bounds}
use Rattle.place.specs.Answer.{Fitted}
use Rattle.place.specs.Fitting.{
  linked_tests,
  serif_tests,
  edge_tests,
  adjust_tests,
  fitted,
  bounds,
  align_linked_edge,
  align_serif_edge,
  latin_remaining_bounds,
  adjust_link,
}
use Rattle.words.specs.Field.{choice_of, link_word, rule_of}
use Rattle.words.specs.Edge.{edges_in, edges_over}
use Rattle.words_shape.specs.Shape.{is_in, choice}
use Rattle.words_call.specs.Lent.{refused_or, edges_front, both_in, named_edge, edges_of}
use Rattle.words_edge.specs.Whole.{Whole, Became}
use Rattle.words_edge.proofs.Wholes.{edges-len}
use Rattle.words_edge.proofs.Became.{became-over}
use Rattle.words_edge_test.specs.Held.{tested}
use Rattle.words_edge_test.proofs.Calls.{ready, call-refused, call-done}
use Rattle.words_edge_test.proofs.Order.{plain-tests, own-tests}
use Rattle.place_words.specs.Placing.{linked_to, serif_to, adjusting}
use Rattle.place_words.proofs.Places.{edge-reach}
use Rattle.place_words.specs.Lent.{link_dir_of, LinkedLent, SerifLent, AdjustLent, bounds_words, BoundsLent}

-- ---- what a call on two edges, or on one, may use
pub record ReadyPair (ws : List ℤ) (i j : ℕ) : Type 0 where
  pub words : Whole ws × (i < edges_in ws) × (j < edges_in ws)
  pub edges : InReach (edge_at (edges_of ws) i) × InReach (edge_at (edges_of ws) j)

pair-ready : (ws : List ℤ) (i j : ℕ) {named : Bool} → named ≡ both_below (edges_in ws) i j → named ≡ true → Whole ws → AxisWithin most_pos (edges_of ws)
    → ReadyPair ws i j
pair-ready ws i j n h w a =
    let p = below-first (edges_in ws) i j (sym n ∙ h) in
    let q = below-second (edges_in ws) i j (sym n ∙ h) in
    record { words = (w, p, q); edges = (edge-reach ws most_pos i (omega arith) a p, edge-reach ws most_pos j (omega arith) a q) }

pub record ReadyOne (ws : List ℤ) (i : ℕ) : Type 0 where
  pub whole : Whole ws
  pub axis : AxisWithin most_pos (edges_of ws)
  pub below : i < edges_in ws

-- a test of the named edges, by the length of the list
pair-named : (ws : List ℤ) {i j k l : ℕ} {named : Bool} → i ≡ k → j ≡ l → named ≡ both_below (edges_in ws) i j → both_below (edges_of ws).len k l ≡ named
pair-named ws p q n = sym (n ∙ (λ x. both_below (sym (edges-len ws) x) (p x) (q x)))

one-named : (ws : List ℤ) {i k : ℕ} {named : Bool} → i ≡ k → named ≡ ltb i (edges_in ws) → ltb k (edges_of ws).len ≡ named
one-named ws p n = sym (n ∙ (λ x. ltb (p x) (sym (edges-len ws) x)))

-- the answer of a call's own test, as its definition has it
pub own-answer : {g h : Bool} {r : Refusal} {o : Result (Unit {0}) Refusal} → Required g r o → g ≡ h → answer_of o ≡ or_refused 0 h (number_of r)
unfolding refusal
own-answer {g} {h} {r} q e = then-last none-tested q e ∙ or-decided 0 (number_of r) h (omega arith)

-- ---- the linked edge
module _ (ws : List ℤ) (rule : ℤ) (xs : List ℤ) (base stem : ℤ) {width : WidthRule} {i j own r : ℕ} {named others : Bool} (w : width ≡ rule_of rule)
    (p : i ≡ named_edge base)
    (q : j ≡ named_edge stem) (n : named ≡ both_below (edges_in ws) i j) (o : own ≡ or_refused 0 (rule_holds width xs) bad_parameter) (t : others ≡ is_in choice rule)
    (e : r ≡ refused_or (edges_front ws others) (tested (edges_of ws) own named true)) where
  abbrev linked : Axis → Axis
  linked = linked_to (rule_of rule) xs (named_edge base) (named_edge stem)

  linked-is :
      r ≡ refused_or (edges_front ws (is_in choice rule))
      (tested (edges_of ws) (or_refused 0 (rule_holds (rule_of rule) xs) bad_parameter) (both_below (edges_of ws).len (named_edge base) (named_edge stem)) true)
  linked-is =
      e ∙ (λ x. refused_or (edges_front ws (t x))
      (tested (edges_of ws) ((o ∙ ap (λ (k : WidthRule). or_refused 0 (rule_holds k xs) bad_parameter) w) x) (sym (pair-named ws p q n) x) true))

  linked-same : leb (edges_of ws).len most_edges ≡ true → refusal (linked_tests (edges_of ws) (rule_of rule) xs (named_edge base) (named_edge stem))
      ≡ tested (edges_of ws) (or_refused 0 (rule_holds (rule_of rule) xs) bad_parameter) (both_below (edges_of ws).len (named_edge base) (named_edge stem)) true
  unfolding refusal
  linked-same h =
      own-tests (edges_of ws) (both_below (edges_of ws).len (named_edge base) (named_edge stem)) true h bad_parameter (rule_holds (rule_of rule) xs) (omega arith)

  pub linked-ready : r ≤ 0 → ReadyPair ws i j
  linked-ready h = let a = ready ws others own named true e h in pair-ready ws i j n a.named_hold a.whole a.axis

  pub linked-right : r ≤ 0 → rule_holds width xs ≡ true
  linked-right h = or-held bad_parameter (rule_holds width xs) (omega arith) (sym o ∙ (ready ws others own named true e h).right)

  pub linked-refused : 0 < r → LinkedLent ws rule xs base stem r ws
  unfolding align_linked_edge
  linked-refused h =
      call-refused ws (is_in choice rule) _ _ true linked-is (λ (x : Fitted). x.answer) (λ (x : Fitted). edges_over ws x.axis)
      (linked_tests (edges_of ws) (rule_of rule) xs (named_edge base) (named_edge stem)) (fitted (edges_of ws)) (fitted (linked (edges_of ws)) 0) (λ k. refl) refl
      linked-same h

  pub linked-done : r ≤ 0 → (now : List ℤ) → Became (linked_to width xs i j) ws now → LinkedLent ws rule xs base stem 0 now
  unfolding align_linked_edge
  linked-done h now b =
      call-done ws (is_in choice rule) _ _ true linked-is (λ (x : Fitted). x.answer) (λ (x : Fitted). edges_over ws x.axis)
      (linked_tests (edges_of ws) (rule_of rule) xs (named_edge base) (named_edge stem)) (fitted (edges_of ws)) (fitted (linked (edges_of ws)) 0) (λ k. refl) refl
      linked-same h
      (became-over (linked-ready h).words.0 b Dimensions.Horizontal ∙ (λ x. edges_over ws (linked_to (w x) xs (p x) (q x) (edges_of ws))))

-- ---- the serif edge
module _ (ws : List ℤ) (base serif : ℤ) {i j r : ℕ} {named : Bool} (p : i ≡ named_edge base) (q : j ≡ named_edge serif) (n : named ≡ both_below (edges_in ws) i j)
    (e : r ≡ refused_or (edges_front ws true) (tested (edges_of ws) 0 named true)) where
  serif-is : r ≡ refused_or (edges_front ws true) (tested (edges_of ws) 0 (both_below (edges_of ws).len (named_edge base) (named_edge serif)) true)
  serif-is = e ∙ (λ x. refused_or (edges_front ws true) (tested (edges_of ws) 0 (sym (pair-named ws p q n) x) true))

  serif-same : leb (edges_of ws).len most_edges ≡ true
      → refusal (serif_tests (edges_of ws) (named_edge base) (named_edge serif))
      ≡ tested (edges_of ws) 0 (both_below (edges_of ws).len (named_edge base) (named_edge serif)) true
  unfolding refusal
  serif-same h = plain-tests (edges_of ws) (both_below (edges_of ws).len (named_edge base) (named_edge serif)) true h

  pub serif-ready : r ≤ 0 → ReadyPair ws i j
  serif-ready h = let a = ready ws true 0 named true e h in pair-ready ws i j n a.named_hold a.whole a.axis

  pub serif-refused : 0 < r → SerifLent ws base serif r ws
  unfolding align_serif_edge
  serif-refused h =
      call-refused ws true 0 _ true serif-is (λ (x : Fitted). x.answer) (λ (x : Fitted). edges_over ws x.axis)
      (serif_tests (edges_of ws) (named_edge base) (named_edge serif))
      (fitted (edges_of ws)) (fitted (serif_to (named_edge base) (named_edge serif) (edges_of ws)) 0) (λ k. refl) refl serif-same h

  pub serif-done : r ≤ 0 → (now : List ℤ) → Became (serif_to i j) ws now → SerifLent ws base serif 0 now
  unfolding align_serif_edge
  serif-done h now b =
      call-done ws true 0 _ true serif-is (λ (x : Fitted). x.answer) (λ (x : Fitted). edges_over ws x.axis)
      (serif_tests (edges_of ws) (named_edge base) (named_edge serif))
      (fitted (edges_of ws)) (fitted (serif_to (named_edge base) (named_edge serif) (edges_of ws)) 0) (λ k. refl) refl serif-same h
      (became-over (serif-ready h).words.0 b Dimensions.Horizontal ∙ (λ x. edges_over ws (serif_to (p x) (q x) (edges_of ws))))

-- ---- the adjustment
module _ (ws : List ℤ) (edge dir ttb : ℤ) {i own r : ℕ} {named others order : Bool} (p : i ≡ named_edge edge) (n : named ≡ ltb i (edges_in ws))
    (v : order ≡ choice_of ttb) (o : own ≡ or_refused 0 (not order) retired) (t : others ≡ both_in choice dir ttb)
    (e : r ≡ refused_or (edges_front ws others) (tested (edges_of ws) own named true)) where
  adjust-is : r ≡ refused_or (edges_front ws (both_in choice dir ttb))
      (tested (edges_of ws) (or_refused 0 (not (choice_of ttb)) retired) (ltb (named_edge edge) (edges_of ws).len) true)
  adjust-is =
      e ∙ (λ x. refused_or (edges_front ws (t x))
      (tested (edges_of ws) ((o ∙ ap (λ (k : Bool). or_refused 0 (not k) retired) v) x) (sym (one-named ws p n) x) true))

  adjust-same : leb (edges_of ws).len most_edges ≡ true → refusal (adjust_tests (edges_of ws) (named_edge edge) (choice_of ttb))
      ≡ tested (edges_of ws) (or_refused 0 (not (choice_of ttb)) retired) (ltb (named_edge edge) (edges_of ws).len) true
  unfolding refusal
  adjust-same h = own-tests (edges_of ws) (ltb (named_edge edge) (edges_of ws).len) true h retired (not (choice_of ttb)) (omega arith)

  pub adjust-ready : r ≤ 0 → ReadyOne ws i
  adjust-ready h =
      let a = ready ws others own named true e h in
      record { whole = a.whole; axis = a.axis; below = ltb-true i (edges_in ws) (sym n ∙ a.named_hold) }

  pub adjust-refused : 0 < r → AdjustLent ws edge dir ttb r ws
  unfolding adjust_link
  adjust-refused h =
      call-refused ws (both_in choice dir ttb) _ _ true adjust-is (λ (x : Fitted). x.answer) (λ (x : Fitted). edges_over ws x.axis)
      (adjust_tests (edges_of ws) (named_edge edge) (choice_of ttb)) (fitted (edges_of ws)) (fitted (adjusted (edges_of ws) (named_edge edge) (link_dir_of dir)) 0)
      (λ k. refl) refl adjust-same h

  pub adjust-done : r ≤ 0 → {to : LinkDir} → to ≡ link_dir_of dir → (now : List ℤ) → Became (adjusting i to) ws now → AdjustLent ws edge dir ttb 0 now
  unfolding adjust_link
  adjust-done h {to} g now b =
      call-done ws (both_in choice dir ttb) _ _ true adjust-is (λ (x : Fitted). x.answer) (λ (x : Fitted). edges_over ws x.axis)
      (adjust_tests (edges_of ws) (named_edge edge) (choice_of ttb)) (fitted (edges_of ws)) (fitted (adjusted (edges_of ws) (named_edge edge) (link_dir_of dir)) 0)
      (λ k. refl) refl adjust-same h
      (became-over (adjust-ready h).whole b Dimensions.Horizontal ∙ (λ x. edges_over ws (adjusted (edges_of ws) (p x) (g x))))

-- ---- the bounds
module _ (ws : List ℤ) (edge : ℤ) (old : ℤ × ℤ) {i r : ℕ} {named : Bool} (p : i ≡ named_edge edge) (n : named ≡ ltb i (edges_in ws))
    (e : r ≡ refused_or (edges_front ws true) (tested (edges_of ws) 0 named true)) where
  bounds-is : r ≡ refused_or (edges_front ws true) (tested (edges_of ws) 0 (ltb (named_edge edge) (edges_of ws).len) true)
  bounds-is = e ∙ (λ x. refused_or (edges_front ws true) (tested (edges_of ws) 0 (sym (one-named ws p n) x) true))

  bounds-same : leb (edges_of ws).len most_edges ≡ true → refusal (edge_tests (edges_of ws) (named_edge edge))
      ≡ tested (edges_of ws) 0 (ltb (named_edge edge) (edges_of ws).len) true
  unfolding refusal
  bounds-same h = plain-tests (edges_of ws) (ltb (named_edge edge) (edges_of ws).len) true h

  pub bounds-ready : r ≤ 0 → ReadyOne ws i
  bounds-ready h =
      let a = ready ws true 0 named true e h in
      record { whole = a.whole; axis = a.axis; below = ltb-true i (edges_in ws) (sym n ∙ a.named_hold) }

  pub bounds-refused : 0 < r → BoundsLent ws edge old r old
  unfolding latin_remaining_bounds
  bounds-refused h =
      call-refused ws true 0 _ true bounds-is (λ (x : Bounds). x.answer) (λ (x : Bounds). bounds_words x) (edge_tests (edges_of ws) (named_edge edge))
      (bounds None None) (bounds (lower_bound (named_edge edge)) (upper_bound (edges_of ws) (named_edge edge)) 0) (λ k. refl) refl bounds-same h

  pub bounds-done : r ≤ 0 → {lower upper : Link} → lower ≡ lower_bound i → upper ≡ upper_bound (edges_of ws) i → (a b : ℤ) → a ≡ link_word lower
      → b ≡ link_word upper → BoundsLent ws edge old 0 (a, b)
  unfolding latin_remaining_bounds
  bounds-done h {lower} {upper} l u a b x y =
      call-done ws true 0 _ true bounds-is (λ (z : Bounds). z.answer) (λ (z : Bounds). bounds_words z) (edge_tests (edges_of ws) (named_edge edge))
      (bounds None None) (bounds (lower_bound (named_edge edge)) (upper_bound (edges_of ws) (named_edge edge)) 0) (λ k. refl) refl bounds-same h
      (λ k. ((x ∙ ap (λ (z : Link). link_word z) (l ∙ ap lower_bound p)) k, (y ∙ ap (λ (z : Link). link_word z) (u ∙ ap (upper_bound (edges_of ws)) p)) k))
