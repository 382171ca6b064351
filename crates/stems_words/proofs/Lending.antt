-- The stem pass, by what the test of its edges tells.
use Rattle.std.specs.Prelude.{None, Result, Ok, Err}
use Rattle.std.specs.Result.{result_and}
use mathlib.Core.Path.{◌≡◌, refl, sym, ap, ◌∙◌}
use mathlib.Core.Bool.{Bool, true, ◌&&◌}
use mathlib.Core.List.{List, [], ◌∷◌, ◌++◌}
use Prim.Native.Nat.{ℕ, ◌<◌, ◌≤◌}
use native.Mathlib.Omega.{arith}
use lib.Dec.{leb}
use lib.ListN.{length}
use lib.IntN.{ℤ, pos}
use Rattle.refusals.specs.Refusal.{Test, ◌unless◌, bad_parameter, refusal}
use Rattle.refusals.specs.declared.order.Refusal.{Refusal}
use Rattle.refusals.specs.Outcome.{number_of, answer_of, Required}
use Rattle.refusals.proofs.Tests.{Tested, all_held, answered-no, own_first}
use Rattle.refusals.proofs.Outcomes.{number-above, then-last}
use Rattle.fixed.specs.declared.width.WidthRule.{WidthRule}
use Rattle.fixed.specs.Width.{rule_holds}
use Rattle.axis.specs.declared.kinds.Dimension.{Dimension}
use Rattle.axis.specs.declared.kinds.Group.{Group}
use Rattle.axis.specs.Link.{Link}
use Rattle.axis.specs.declared.edge.Axis.{Axis}
use Rattle.axis.specs.Limits.{most_edges, most_pos}
use Rattle.axis.specs.Accepted.{Below, AxisWithin}
use Rattle.axis.specs.Refusals.{link_holds, edges_indices, edges_numbers, bottom_to_top}
use Rattle.axis.proofs.Acceptance.{link-below}
use Rattle.stems.specs.declared.kinds.Mode.{Mode}
use Rattle.stems.specs.Answer.{Stems}
use Rattle.stems.specs.Stems.{stems, stems_of, mode_of, stems_tests, align_stem_edges}
use Rattle.words.specs.Field.{choice_of, dimension_of, group_of, rule_of, link_word}
use Rattle.words.specs.Edge.{axis_run, flat_axis, edges_in, edges_over}
use Rattle.words_shape.specs.Shape.{choice}
use Rattle.words_call.specs.Lent.{refused_or, edges_front, both_in, choices, named_anchor, edges_of}
use Rattle.words_edge.specs.Whole.{Whole, axis_in}
use Rattle.words_edge.proofs.Wholes.{edges-len}
use Rattle.words_edge.proofs.Became.{axis-over}
use Rattle.words_edge_test.specs.Held.{tested}
use Rattle.words_edge_test.proofs.Calls.{ready, call-refused, call-done}
use Rattle.words_edge_test.proofs.Order.{call-tests}
use Rattle.stems_words.specs.declared.pass.Passed.{Passed}
use Rattle.stems_words.specs.Stems.{StemsPassed}
use Rattle.stems_words.specs.Lent.{stems_words, StemsLent}

-- what the pass hands back, as words over those that were lent
pub passed_words : (ws : List ℤ) (d : Dimension) {m : Mode} {xs : List ℤ} {start : Link} {p : Passed} {w1 now : List ℤ} {s : Stems} {c f : ℤ} → Whole ws
    → length w1 ≡ length ws
    → StemsPassed m xs start p w1 now → stems_of m xs start (axis_in w1 d) ≡ s → c ≡ pos p.count → f ≡ link_word p.anchor
    → ◌≡◌ {A = List ℤ × (ℤ × ℤ)} (now, (c, f)) (stems_words ws s)
passed_words ws d {m} {xs} {start} {p} {w1} {now} {s} {c} {f} w l b same x y = λ n. (words n, (count n, anchor n))
  where
    words : now ≡ edges_over ws s.axis
    words = axis-over ws now d w b.words.whole (b.words.long ∙ l) (b.words.table d ∙ ap (λ (r : Stems). r.axis) same)

    count : c ≡ pos s.count
    count = x ∙ ap pos (b.count d) ∙ ap (λ (r : Stems). pos r.count) same

    anchor : f ≡ link_word s.anchor
    anchor = y ∙ ap (λ (k : Link). link_word k) (b.anchor d) ∙ ap (λ (r : Stems). link_word r.anchor) same

-- ---- one test more
-- what the library's `and` hands on: the refusal so far, or that of the test behind it
pub and-answer : {ts : List Test} {g h : Bool} {r : Refusal} (a q : Result (Unit {0}) Refusal) {o : Result (Unit {0}) Refusal} → Tested (answer_of a) ts
    → Required g r q → g ≡ h → o ≡ result_and a q → answer_of o ≡ refusal (ts ++ (number_of r unless h ∷ []))
and-answer (Ok x) q t p e s = ap answer_of s ∙ then-last t p e
and-answer {ts} {h = h} {r = r} (Err f) q t p e s =
    ap answer_of s ∙ answered-no (number_of f) (refusal ts) (λ (k : ℕ). k) (refusal (number_of r unless h ∷ [])) t.refused (number-above f)
    ∙ sym (own_first ts (number_of r unless h ∷ []) t.numbers)

-- ---- the call
-- the tests of the order and of the rule
abbrev own_tests : Bool → WidthRule → List ℤ → List Test
own_tests turned width xs = bottom_to_top turned ∷ bad_parameter unless rule_holds width xs ∷ []

-- what the tests have found, and their answer r: the width rule and the anchor that the words name, the refusal by the order and the rule, and whether the
-- other words are those of their
-- fields and the anchor is none or an edge
pub record TestedStems (ws : List ℤ) (dim group adjust ttb anchor rule : ℤ) (xs : List ℤ) (width : WidthRule) (start : Link) (r : ℕ) : Type 0 where
  pub own : ℕ
  pub others : Bool
  pub named : Bool
  pub width_is : width ≡ rule_of rule
  pub start_is : start ≡ named_anchor anchor
  pub own_is : Tested own (own_tests (choice_of ttb) width xs)
  pub others_are : others ≡ (choices dim group adjust && both_in choice ttb rule)
  pub named_is : named ≡ link_holds (edges_in ws) start
  pub answer : r ≡ refused_or (edges_front ws others) (tested (edges_of ws) own named true)

-- what the pass may use
pub record ReadyStems (ws : List ℤ) (width : WidthRule) (xs : List ℤ) (start : Link) : Type 0 where
  pub right : rule_holds width xs ≡ true
  pub words : Whole ws × AxisWithin most_pos (edges_of ws) × Below (edges_in ws) start

module _ (ws : List ℤ) (dim group adjust ttb anchor rule : ℤ) (xs : List ℤ) (old : ℤ × ℤ) {width : WidthRule} {start : Link} {r : ℕ}
    (g : TestedStems ws dim group adjust ttb anchor rule xs width start r) where
  abbrev A : Axis
  A = axis_in ws (dimension_of dim)

  pub stems-ready : r ≤ 0 → ReadyStems ws width xs start
  stems-ready h =
      let s = ready ws g.others g.own g.named true g.answer h in
      record {
        right = (all_held g.own_is (omega (arith, s.right))).1.0;
        words = (s.whole, s.axis, link-below (edges_in ws) start (sym g.named_is ∙ s.named_hold));
      }

  -- the answer, by the call's words
  stems-is :
      r ≡ refused_or (edges_front ws (choices dim group adjust && both_in choice ttb rule))
      (tested (edges_of ws) (refusal (own_tests (choice_of ttb) (rule_of rule) xs)) (link_holds (edges_of ws).len (named_anchor anchor)) true)
  stems-is =
      g.answer
      ∙ (λ x. refused_or (edges_front ws (g.others_are x))
      (tested (edges_of ws) ((g.own_is.refused ∙ (λ y. refusal (own_tests (choice_of ttb) (g.width_is y) xs))) x)
      ((g.named_is ∙ (λ y. link_holds (sym (edges-len ws) y) (g.start_is y))) x) true))

  stems-same : leb (edges_of ws).len most_edges ≡ true → refusal (stems_tests A (choice_of ttb) (named_anchor anchor) (rule_of rule) xs)
      ≡ tested (edges_of ws) (refusal (own_tests (choice_of ttb) (rule_of rule) xs)) (link_holds (edges_of ws).len (named_anchor anchor)) true
  unfolding refusal edges_indices edges_numbers flat_axis axis_run
  stems-same h = call-tests (edges_of ws) (link_holds (edges_of ws).len (named_anchor anchor)) true h (own_tests (choice_of ttb) (rule_of rule) xs) refl

  abbrev result : Stems
  result = stems_of (mode_of A (group_of group) (choice_of adjust) (rule_of rule)) xs (named_anchor anchor) A

  pub stems-refused : 0 < r → StemsLent ws dim group adjust ttb anchor rule xs old.0 old.1 r (ws, old)
  unfolding align_stem_edges stems_of
  stems-refused h =
      call-refused ws (choices dim group adjust && both_in choice ttb rule) _ _ true stems-is (λ (x : Stems). x.answer) (λ (x : Stems). stems_words ws x)
      (stems_tests A (choice_of ttb) (named_anchor anchor) (rule_of rule) xs) (stems 0 None A) result (λ k. refl) refl stems-same h

  pub stems-done : r ≤ 0 → {d : Dimension} {k : Group} {t : Bool} {p : Passed} {now : List ℤ} {c f : ℤ} → d ≡ dimension_of dim → k ≡ group_of group
      → t ≡ choice_of adjust
      → StemsPassed (record { dim = d; group = k; stem_adjust = t; rule = width }) xs start p ws now → c ≡ pos p.count → f ≡ link_word p.anchor
      → StemsLent ws dim group adjust ttb anchor rule xs old.0 old.1 0 (now, (c, f))
  unfolding align_stem_edges stems_of flat_axis axis_run
  stems-done h {d} {k} {t} {p} {now} {c} {f} q u v b x y =
      call-done ws (choices dim group adjust && both_in choice ttb rule) _ _ true stems-is (λ (x : Stems). x.answer) (λ (x : Stems). stems_words ws x)
      (stems_tests A (choice_of ttb) (named_anchor anchor) (rule_of rule) xs) (stems 0 None A) result (λ k. refl) refl stems-same h
      (passed_words ws (dimension_of dim) (stems-ready h).words.0 refl b same x y)
    where
      same : stems_of (record { dim = d; group = k; stem_adjust = t; rule = width }) xs start A ≡ result
      same = λ n. stems_of (record { dim = q n; group = u n; stem_adjust = v n; rule = g.width_is n }) xs (g.start_is n) A
