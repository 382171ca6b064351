-- Blue zones, by what the test of the edges tells.
use Rattle.std.specs.Prelude.{None}
use mathlib.Core.Path.{◌≡◌, refl, sym, ap, subst, ◌∙◌}
use mathlib.Core.Bool.{Bool, true}
use mathlib.Core.List.{List}
use Prim.Native.Nat.{ℕ, ◌<◌, ◌≤◌}
use native.Mathlib.Omega.{arith}
use lib.Dec.{leb}
use lib.IntN.{ℤ}
use Rattle.refusals.proofs.Tests.{or-held}
use Rattle.refusals.specs.Refusal.{bad_parameter, refusal, or_refused}
use Rattle.fixed.specs.declared.width.WidthRule.{WidthRule}
use Rattle.fixed.specs.Width.{rule_holds}
use Rattle.axis.specs.declared.kinds.Dimension.{Dimension}
use Rattle.axis.specs.declared.kinds.Group.{Group}
use Rattle.axis.specs.Link.{Link}
use Rattle.axis.specs.declared.edge.Axis.{Axis}
use Rattle.axis.specs.Limits.{most_edges, most_pos}
use Rattle.axis.specs.Accepted.{AxisWithin}
use Rattle.axis.specs.Refusals.{edges_indices, edges_numbers}
use Rattle.zones.specs.Answer.{Anchored}
use Rattle.zones.specs.Pass.{anchored}
use Rattle.zones.specs.Call.{has_blues, blues_where, blues_tests, align_edges_to_blues}
use Rattle.zones.proofs.Changed.{accepted}
use Rattle.words.specs.Field.{dimension_of, group_of, rule_of, link_word}
use Rattle.words.specs.Edge.{axis_run, flat_axis}
use Rattle.words_call.specs.Lent.{refused_or, edges_front, choices, edges_of}
use Rattle.words_edge.specs.Whole.{Whole, axis_in}
use Rattle.words_edge.proofs.Became.{axis-over}
use Rattle.words_edge_test.specs.Held.{tested}
use Rattle.words_edge_test.proofs.Calls.{ready, call-refused, call-done}
use Rattle.words_edge_test.proofs.Order.{own-tests}
use Rattle.zones_words.specs.Blues.{ZonedWhere}
use Rattle.zones_words.specs.Lent.{zones_words, ZonesLent}

-- by the words that are read as dimension, group and rule
zoned-as : {d d' : Dimension} {g g' : Group} {k k' : WidthRule} {xs : List ℤ} {l : Link} {ws now : List ℤ} → d ≡ d' → g ≡ g' → k ≡ k'
    → ZonedWhere d g k xs l ws now
    → ZonedWhere d' g' k' xs l ws now
zoned-as {d} {d'} {g} {g'} {k} {k'} {xs} {l} {ws} {now} p q r z =
    subst (λ (x : Dimension). ZonedWhere x g' k' xs l ws now) p
    (subst (λ (x : Group). ZonedWhere d x k' xs l ws now) q (subst (λ (x : WidthRule). ZonedWhere d g x xs l ws now) r z))

module _ (ws : List ℤ) (dim group rule : ℤ) (xs : List ℤ) (anchor-old : ℤ) {width : WidthRule} {own r : ℕ} {others : Bool} (w : width ≡ rule_of rule)
    (o : own ≡ or_refused 0 (rule_holds width xs) bad_parameter) (t : others ≡ choices dim group rule)
    (e : r ≡ refused_or (edges_front ws others) (tested (edges_of ws) own true true)) where
  abbrev Z : Axis
  Z = axis_in ws (dimension_of dim)

  -- what the call may use
  pub zones-ready : r ≤ 0 → (rule_holds width xs ≡ true) × (Whole ws × AxisWithin most_pos (edges_of ws))
  zones-ready h = let a = ready ws others own true true e h in (or-held bad_parameter (rule_holds width xs) (omega arith) (sym o ∙ a.right), (a.whole, a.axis))

  -- the answer, by the call's words
  zones-is : r ≡ refused_or (edges_front ws (choices dim group rule)) (tested (edges_of ws) (or_refused 0 (rule_holds (rule_of rule) xs) bad_parameter) true true)
  zones-is =
      e ∙ (λ x. refused_or (edges_front ws (t x)) (tested (edges_of ws) ((o ∙ ap (λ (k : WidthRule). or_refused 0 (rule_holds k xs) bad_parameter) w) x) true true))

  zones-same : leb (edges_of ws).len most_edges ≡ true → refusal (blues_tests Z (rule_of rule) xs)
      ≡ tested (edges_of ws) (or_refused 0 (rule_holds (rule_of rule) xs) bad_parameter) true true
  unfolding refusal edges_indices edges_numbers flat_axis axis_run
  zones-same h = own-tests (edges_of ws) true true h bad_parameter (rule_holds (rule_of rule) xs) (omega arith)

  abbrev aligned : Anchored
  aligned = blues_where Z (group_of group) (rule_of rule) xs

  none-refused : aligned.answer ≡ 0
  none-refused = accepted Z (rule_of rule) xs (has_blues (group_of group) Z.dim)

  pub zones-refused : 0 < r → ZonesLent ws dim group rule xs anchor-old r (ws, anchor-old)
  unfolding align_edges_to_blues
  zones-refused h =
      call-refused ws (choices dim group rule) _ _ _ zones-is (λ (x : Anchored). x.answer) (λ (x : Anchored). zones_words ws x)
      (blues_tests Z (rule_of rule) xs) (anchored Z None) aligned
      (λ k. refl) none-refused zones-same h

  pub zones-done : r ≤ 0 → {d : Dimension} {g : Group} {l : Link} {y : ℤ} {now : List ℤ} → d ≡ dimension_of dim → g ≡ group_of group → y ≡ link_word l
      → ZonedWhere d g width xs l ws now
      → ZonesLent ws dim group rule xs anchor-old 0 (now, y)
  unfolding align_edges_to_blues
  zones-done h {d} {g} {l} {y} {now} p q u z =
      let a = zoned-as p q w z in
      let words = axis-over ws now (dimension_of dim) (zones-ready h).1.0 a.whole a.long (ap (λ (x : Anchored). x.axis) a.pass) in
      call-done ws (choices dim group rule) _ _ _ zones-is (λ (x : Anchored). x.answer) (λ (x : Anchored). zones_words ws x) (blues_tests Z (rule_of rule) xs)
      (anchored Z None) aligned
      (λ k. refl) none-refused zones-same h (λ k. (words k, (u ∙ ap (λ (x : Anchored). link_word x.anchor) a.pass) k))
