-- Each step of the row: where it refuses, where it is passed by, and what the row is behind it.
use Rattle.std.specs.Prelude.{None}
use mathlib.Core.Path.{◌≡◌, refl, sym, ap, subst, ◌∙◌}
use mathlib.Core.Bool.{Bool, true, false, not, cond, ◌&&◌}
use mathlib.Core.List.{List}
use Prim.Native.Nat.{ℕ, ◌≤◌, ◌<◌}
use native.Mathlib.Omega.{arith}
use lib.ListN.{length}
use lib.IntN.{ℤ, pos}
use Rattle.refusals.specs.Refusal.{too_long, bad_parameter, bad_index, out_of_range, steep, refusal, answered}
use Rattle.refusals.proofs.Tests.{and_second}
use Rattle.axis.specs.declared.kinds.Dimension.TheVariants.{Horizontal}
use Rattle.axis.specs.declared.kinds.Group.{Group}
use Rattle.axis.specs.Link.{Link}
use Rattle.axis.specs.declared.edge.Axis.{Axis}
use Rattle.axis.specs.Accepted.{Below, AxisWithin}
use Rattle.axis.specs.Handed.{EdgesAccepted}
use Rattle.axis.specs.Limits.{most_pos}
use Rattle.axis.specs.Refusals.{link_holds}
use Rattle.axis.proofs.Accepting.{link-holds, edges-accepted, edges-within}
use Rattle.lowercase_m.specs.Answer.{Hinted}
use Rattle.lowercase_m.specs.M.{count_holds, mTests, hinted, hint_lowercase_m}
use Rattle.lowercase_m.proofs.Changed as MChanged
use Rattle.remaining.specs.declared.kinds.Progress.{Progress}
use Rattle.remaining.specs.Remaining.{State, begun, remaining_of, Remaining, remaining, outcome, remaining_tests, align_remaining_edges}
use Rattle.remaining.proofs.Changed as RemainingChanged
use Rattle.gaps.specs.Answer.{Gaps}
use Rattle.gaps.specs.Gaps.{gaps_tests, refused_by, found_to, found_in, lost_gaps}
use Rattle.words.specs.Edge.{edges_in, edges_over}
use Rattle.words_call.specs.Lent.{edges_of}
use Rattle.words_edge.specs.Whole.{Whole, Became}
use Rattle.words_edge.proofs.Wholes.{edges-len}
use Rattle.words_edge.proofs.Became.{as_many, axis-over, became-over}
use Rattle.lowercase_m_words.specs.M.{aligning}
use Rattle.remaining_pass_words.specs.Words.{ReadyPass, Passed, passing}
use Rattle.fit.specs.declared.numbers.Numbers.{Numbers}
use Rattle.fit.specs.Answer.{FittedEdges}
use Rattle.fit.specs.Numbers.{is_horizontal, is_asked}
use Rattle.fit.specs.Edges.{
  Left,
  refused_edges,
  stopped,
  behind_guard,
  then_guard,
  is_left,
  remaining_where,
  behind_remaining,
  then_remaining,
  hinted_where,
  behind_m,
  then_m,
}
use Rattle.gaps_words.proofs.Search.{few-found}
use Rattle.fit_edges_words.specs.Row.{positions_hold, Loose, Kin, Ready, Accepted, FewTold, Gone, Went}
use Rattle.fit_edges_words.proofs.Kin.{kin-stays, then-kin, kin-only, loose-kin, loose-numbers, loose-accepted}

-- ---- rows
-- one that stops tells its refusal
pub went-stopped : {d : Left} {r : FittedEdges} {ws ws' : List ℤ} (k : ℕ) → d ≡ stopped ws k → r ≡ refused_edges k → 0 < k → length ws' ≡ length ws
    → Went d r ws ws'
went-stopped k e q h l =
    record { told = q ∙ ap (λ (d : Left). d.told) (sym e); long = l; goes = λ z. absurd (omega (arith, sym z ∙ ap (λ (r : FittedEdges). r.answer) q, h)) }

-- one that is another on the words that a step has left
pub went_on : {d d' : Left} {r : FittedEdges} {ws w1 w2 : List ℤ} → d ≡ d' → length w1 ≡ length ws → Kin (edges_of ws) (edges_of w1) → Went d' r w1 w2
    → Went d r ws w2
went_on {d} {d'} {r} {ws} {w1} {w2} e l k g = record {
  told = g.told ∙ ap (λ (x : Left). x.told) (sym e);
  long = g.long ∙ l;
  goes = λ z.
      let s = g.goes z in
      record { words = s.words ∙ ap (λ (x : Left). x.words) (sym e); whole = s.whole; edges = s.edges; few = s.few; kin = then-kin k s.kin };
}

-- edges written over their own words are these
again : (ws : List ℤ) → Whole ws → edges_over ws (edges_of ws) ≡ ws
again ws w = sym (axis-over ws ws Horizontal w w refl refl)

-- ---- the guard
module _ (n : Numbers) (count : ℕ) (anchor : Link) (ws : List ℤ) where
  guard-as : {k : ℕ} → refusal (gaps_tests (edges_of ws) n.least) ≡ k
      → then_guard n count anchor ws ≡ behind_guard count anchor ws (answered k refused_by (found_in n.least n.linked (edges_of ws)))
  unfolding then_guard lost_gaps
  guard-as q = ap (λ (k : ℕ). behind_guard count anchor ws (answered k refused_by (found_in n.least n.linked (edges_of ws)))) q

  guard-refuses : Ready n count anchor ws → positions_hold (edges_of ws) ≡ false → refusal (gaps_tests (edges_of ws) n.least) ≡ out_of_range
  unfolding refusal
  guard-refuses g f =
      let l = g.loose in
      λ j. cond (l.short j) (cond (g.least j) (cond (l.indexed j) (cond ((loose-numbers l ∙ f) j) 0 out_of_range) bad_index) bad_parameter) too_long

  pub guard-stops : {r : FittedEdges} → Ready n count anchor ws → positions_hold (edges_of ws) ≡ false → r ≡ refused_edges out_of_range
      → Went (then_guard n count anchor ws) r ws ws
  guard-stops g f q = went-stopped out_of_range (guard-as (guard-refuses g f)) q (omega arith) refl

  pub guard-ready : Accepted n count ws → Whole ws × AxisWithin most_pos (edges_of ws)
  guard-ready a = (a.whole, edges-within (edges_of ws) a.edges)

  guard-accepts : Accepted n count ws → refusal (gaps_tests (edges_of ws) n.least) ≡ 0
  unfolding refusal
  guard-accepts a =
      let t = a.edges in λ j. cond (t.short j) (cond (a.least j) (cond (t.indexed j) (cond (t.in_range j) 0 out_of_range) bad_index) bad_parameter) too_long

  pub guard-goes : Accepted n count ws → {g : Gaps} → g ≡ found_in n.least n.linked (edges_of ws)
      → Went (then_guard n count anchor ws) (record { answer = 0; count = count; anchor = anchor; gaps = g }) ws ws
  unfolding found_to
  guard-goes a {g} e = record {
    told = (λ j. record { answer = 0; count = count; anchor = anchor; gaps = e j }) ∙ ap (λ (d : Left). d.told) (sym (guard-as (guard-accepts a)));
    long = refl;
    goes = λ z. record {
      words = ap (λ (d : Left). d.words) (sym (guard-as (guard-accepts a)));
      whole = a.whole;
      edges = a.edges;
      few = subst few-of (sym e) told-few;
      kin = kin-stays (edges_of ws);
    };
  }
    where
      few-of : Gaps → Type 0
      few-of x = FewTold (record { answer = 0; count = count; anchor = anchor; gaps = x })

      told-few : few-of (found_in n.least n.linked (edges_of ws))
      told-few =
          let f = few-found n.least n.linked (edges_of ws) (edges-within (edges_of ws) a.edges) in
          record { passed = a.few; gaps = f.gaps; stems = f.stems; undone = f.undone }

  pub ready-accepted : Ready n count anchor ws → positions_hold (edges_of ws) ≡ true → Accepted n count ws
  ready-accepted g t = record { whole = g.whole; edges = loose-accepted g.loose t; few = g.few; least = g.least }

-- ---- remaining edges
module _ (n : Numbers) (count : ℕ) (anchor : Link) {ws : List ℤ} (g : Ready n count anchor ws) where
  abbrev A : Axis
  A = edges_of ws

  -- none are left
  remaining-by : is_left count anchor ≡ false → then_remaining n count anchor ws ≡ then_guard n count anchor ws
  unfolding then_remaining remaining_where
  remaining-by f =
      ap (λ (b : Bool). behind_remaining n count ws (cond b (align_remaining_edges A n.group count anchor) (remaining anchor A 0))) f
      ∙ ap (then_guard n count anchor) (again ws g.whole)

  pub remaining-passed : {r : FittedEdges} → is_left count anchor ≡ false → Went (then_guard n count anchor ws) r ws ws
      → Went (then_remaining n count anchor ws) r ws ws
  remaining-passed f w = went_on (remaining-by f) refl (kin-stays A) w

  module _ (left : is_left count anchor ≡ true) where
    abbrev S : State
    S = remaining_of A n.group count anchor

    remaining-as : {k : ℕ} → refusal (remaining_tests A n.group count anchor) ≡ k
        → then_remaining n count anchor ws ≡ behind_remaining n count ws (answered k (remaining None A) (outcome S))
    unfolding then_remaining remaining_where align_remaining_edges
    remaining-as q =
        (λ j. behind_remaining n count ws (cond (left j) (align_remaining_edges A n.group count anchor) (remaining anchor A 0)))
        ∙ ap (λ (k : ℕ). behind_remaining n count ws (answered k (remaining None A) (outcome S))) q

    named : link_holds A.len anchor ≡ true
    named = ap (λ (m : ℕ). link_holds m anchor) (edges-len ws) ∙ link-holds (edges_in ws) anchor g.anchored

    tests-are : {p b : Bool} → positions_hold A ≡ p → S.past.beyond ≡ b
        → refusal (remaining_tests A n.group count anchor) ≡ cond p (cond (not b) 0 steep) out_of_range
    unfolding refusal
    tests-are p b =
        let l = g.loose in
        λ j. cond (l.short j) (cond (l.indexed j) (cond (named j) (cond ((loose-numbers l ∙ p) j) (cond (not (b j)) 0 steep) out_of_range) bad_index) bad_index)
        too_long

    pub remaining-stops : {r : FittedEdges} → positions_hold A ≡ false → r ≡ refused_edges out_of_range → Went (then_remaining n count anchor ws) r ws ws
    remaining-stops f q = went-stopped out_of_range (remaining-as (tests-are f refl)) q (omega arith) refl

    pub remaining-ready : positions_hold A ≡ true → ReadyPass ws (begun count anchor)
    remaining-ready t = record { whole = g.whole; axis = edges-within A (loose-accepted g.loose t); anchor = g.anchored }

    module _ (t : positions_hold A ≡ true) {past : Progress} {w1 : List ℤ} (p : Passed (passing n.group) (begun count anchor) past ws w1) where
      past_is : past ≡ S.past
      past_is = ap (λ (s : State). s.past) (p.states Horizontal)

      pub remaining-beyond : {r : FittedEdges} → past.beyond ≡ true → r ≡ refused_edges steep → Went (then_remaining n count anchor ws) r ws w1
      remaining-beyond b q = went-stopped steep (remaining-as (tests-are t (ap (λ (x : Progress). x.beyond) (sym past_is) ∙ b))) q (omega arith) p.long

      pub remaining-accepted : Accepted n count w1
      remaining-accepted = record { whole = p.whole; edges = edges-accepted (edges_of w1) p.axis; few = g.few; least = g.least }

      module _ (b : past.beyond ≡ false) where
        none : refusal (remaining_tests A n.group count anchor) ≡ 0
        none = tests-are t (ap (λ (x : Progress). x.beyond) (sym past_is) ∙ b)

        axis-is : edges_of w1 ≡ S.axis
        axis-is = ap (λ (s : State). s.axis) (p.states Horizontal)

        same : then_remaining n count anchor ws ≡ then_guard n count past.anchor w1
        same =
            remaining-as none
            ∙ (λ j. then_guard n count (sym past_is j).anchor (sym (axis-over ws w1 Horizontal g.whole p.whole p.long axis-is) j))

        kin : Kin A (edges_of w1)
        unfolding align_remaining_edges
        kin =
            subst (Kin A) (ap (λ (k : ℕ). (answered k (remaining None A) (outcome S)).axis) none ∙ sym axis-is)
            (kin-only (RemainingChanged.changed A n.group count anchor refl).only)

        pub remaining-goes : {r : FittedEdges} {w2 : List ℤ} → Went (then_guard n count past.anchor w1) r w1 w2
            → Went (then_remaining n count anchor ws) r ws w2
        remaining-goes w = went_on same p.long kin w

-- ---- the m rule
module _ (n : Numbers) (count : ℕ) (anchor : Link) {ws : List ℤ} (g : Ready n count anchor ws) where
  abbrev B : Axis
  B = edges_of ws

  -- it is not asked for
  m-by : is_asked n (edges_in ws) ≡ false → then_m n count anchor ws ≡ then_remaining n count anchor ws
  unfolding then_m hinted_where
  m-by f =
      ap (λ (b : Bool). behind_m n count anchor ws (cond b (hint_lowercase_m B n.group) (hinted B 0))) f
      ∙ ap (then_remaining n count anchor) (again ws g.whole)

  pub m-passed : {r : FittedEdges} {w2 : List ℤ} → is_asked n (edges_in ws) ≡ false → Went (then_remaining n count anchor ws) r ws w2
      → Went (then_m n count anchor ws) r ws w2
  m-passed f w = went_on (m-by f) refl (kin-stays B) w

  module _ (asked : is_asked n (edges_in ws) ≡ true) where
    counted : count_holds (edges_in ws) ≡ true
    unfolding is_asked
    counted = and_second (is_horizontal n.dim) _ (and_second n.lowercase_m _ asked)

    m-as : {k : ℕ} → refusal (mTests B) ≡ k → then_m n count anchor ws ≡ behind_m n count anchor ws (answered k (hinted B) (hinted (aligning n.group B) 0))
    unfolding then_m hinted_where hint_lowercase_m
    m-as q =
        (λ j. behind_m n count anchor ws (cond (asked j) (hint_lowercase_m B n.group) (hinted B 0)))
        ∙ ap (λ (k : ℕ). behind_m n count anchor ws (answered k (hinted B) (hinted (aligning n.group B) 0))) q

    m-tests : {p : Bool} → positions_hold B ≡ p → refusal (mTests B) ≡ cond p 0 out_of_range
    unfolding refusal
    m-tests p =
        let l = g.loose in
        let c : count_holds B.len ≡ true = ap count_holds (edges-len ws) ∙ counted in
        λ j. cond (l.short j) (cond (c j) (cond (l.indexed j) (cond ((loose-numbers l ∙ p) j) 0 out_of_range) bad_index) bad_parameter) too_long

    pub m-stops : {r : FittedEdges} → positions_hold B ≡ false → r ≡ refused_edges out_of_range → Went (then_m n count anchor ws) r ws ws
    m-stops f q = went-stopped out_of_range (m-as (m-tests f)) q (omega arith) refl

    module _ (t : positions_hold B ≡ true) where
      pub m-ready : Whole ws × AxisWithin most_pos B × (count_holds (edges_in ws) ≡ true)
      m-ready = (g.whole, edges-within B (loose-accepted g.loose t), counted)

      module _ {w1 : List ℤ} (b : Became (aligning n.group) ws w1) where
        kin-m : Kin B (edges_of w1)
        unfolding hint_lowercase_m
        kin-m =
            subst (Kin B) (ap (λ (k : ℕ). (answered k (hinted B) (hinted (aligning n.group B) 0)).axis) (m-tests t) ∙ sym (b.table Horizontal))
            (kin-only (MChanged.changed B n.group refl).only)

        pub m-behind : Ready n count anchor w1
        m-behind = record {
          whole = b.whole;
          loose = loose-kin kin-m g.loose;
          few = g.few;
          anchored = subst (λ (k : ℕ). Below k anchor) (sym (as_many ws w1 b.long)) g.anchored;
          least = g.least;
        }

        pub m-goes : {r : FittedEdges} {w2 : List ℤ} → Went (then_remaining n count anchor w1) r w1 w2 → Went (then_m n count anchor ws) r ws w2
        m-goes w = went_on (m-as (m-tests t) ∙ ap (then_remaining n count anchor) (sym (became-over g.whole b Horizontal))) b.long kin-m w
