-- CJK's order: where done edges are in order, original and font positions do not fall, and no edge that is not done has a serif, all edges are in order behind
-- remaining edges.
use Rattle.std.specs.Prelude.{None, Some}
use mathlib.Core.Path.{◌≡◌, refl, sym, ap, subst, ◌∙◌}
use mathlib.Core.Bool.{Bool, true, false}
use mathlib.Core.Logic.{⊎_elim, ◌≢◌}
use Prim.Native.Nat.{ℕ, ◌+◌, ◌-◌, ◌≤◌, ◌<◌}
use native.Mathlib.Nat.{eq-or-lt_of_le}
use native.Mathlib.Omega.{arith}
use borrow.Author.Tests.{ne_eqb}
use lib.Dec.{eqb}
use lib.IntN.{ℤ}
use lib.ListN.{length, length-set}
use lib.Seq.{get_or-set_same, get_or-set_other}
use lib.Signed.{◌≤ℤ◌}
use Rattle.signed.proofs.Choices.{cond-true, cond-false, cond_cases, clash}
use Rattle.signed.proofs.Signed.{lt-or-le}
use Rattle.axis.specs.declared.kinds.Group.TheVariants.{Cjk}
use Rattle.axis.specs.Link.{Link}
use Rattle.axis.specs.declared.kinds.Mark.{Mark}
use Rattle.axis.specs.declared.edge.Edge.{Edge}
use Rattle.axis.specs.declared.edge.Axis.{Axis}
use Rattle.axis.specs.Edge.{empty_edge, edge_at, placed}
use Rattle.place.specs.Placing.{serif_pos}
use Rattle.gaps.specs.Gaps.{is_done}
use Rattle.gaps.proofs.Lasts.{Last}
use Rattle.remaining.specs.declared.kinds.Progress.{Progress}
use Rattle.remaining.specs.declared.kinds.Round.TheVariants as Rounds
use Rattle.remaining.specs.Plan.{between_pos}
use Rattle.remaining.specs.Remaining.{
  State,
  state,
  done_before,
  done_behind,
  serifs_plan,
  others_plan,
  plan_of,
  place_at,
  stored,
  visit,
  visited,
  others_visited,
  pass_of,
  begun,
}
use Rattle.remaining.specs.Remaining.{remaining_of, align_remaining_edges}
use Rattle.remaining.proofs.Alike.{before_same, behind-same}
use Rattle.remaining.proofs.Between.{between-grows, cjk-lies}
use Rattle.remaining_order.specs.Order.{InOrder, CjkReady}
use Rattle.remaining_order.proofs.Found.{before-is, Next, from_is, before-next, behind-next}
use Rattle.remaining_order.proofs.Visits.{passed, carried, visit-cases, visits-within, all-reach}
use Rattle.remaining_order.proofs.Goes.{same_or_not}
use Rattle.remaining_order.proofs.Rising.{le-by, shifted-rises, shifted-above, shifted-below, rises}

module _ (axis : Axis) (count : ℕ) (anchor : Link) (k : ℕ) (r : CjkReady axis k) where
  abbrev past : Progress
  past = begun count anchor

  abbrev start : State
  start = state axis past

  -- ---- the first loop changes nothing
  carried-start : (i : ℕ) → i < axis.len → is_done axis i ≡ false → carried start i (plan_of Rounds.Serifs axis past i) ≡ start
  unfolding plan_of serifs_plan stored
  carried-start i l d = ap (λ (x : Link). carried start i (serifs_plan axis past i x)) (r.no_serif i l d)

  serif-stays : (i : ℕ) (s : State) → i < axis.len → s ≡ start → (visit Rounds.Serifs s i).past.beyond ≡ false → visit Rounds.Serifs s i ≡ start
  serif-stays i s there e b =
      visit-cases Rounds.Serifs (λ (t : State). t ≡ start) s i b (λ d. e)
      (λ d. ap (λ (t : State). carried t i (plan_of Rounds.Serifs t.axis t.past i)) e
      ∙ carried-start i there (ap (λ (t : State). is_done t.axis i) (sym e) ∙ d))

  -- so that the second one starts with the given edges
  others-alone : 0 < count → (remaining_of axis Cjk count anchor).past.beyond ≡ false → remaining_of axis Cjk count anchor ≡ visited Rounds.Others start
  unfolding pass_of
  others-alone some b =
      let first = visited Rounds.Serifs start in
      let within = cond_cases (λ (t : State). t.past.beyond ≡ false → first.past.beyond ≡ false) (eqb first.past.count 0) first
      (visited Rounds.Others first) (λ t e. e)
      (λ t e. visits-within Rounds.Others first.axis.len 0 first e) b in
      ap others_visited (all-reach Rounds.Serifs axis.len (λ (i : ℕ) (s : State). s ≡ start) serif-stays start refl within)
      ∙ cond-false _ _ _ (ne_eqb count 0 (λ e. omega (arith, e, some)))

  -- ---- where the second one puts an edge
  abbrev place_of : ℕ → ℤ
  place_of i = (others_plan axis past i (done_before axis i) (done_behind axis i)).pos

  -- after i visits done edges and those not visited are as they were, and no other is done
  record Moves (i : ℕ) (s : State) : Type 0 where
    len : s.axis.len ≡ axis.len
    long : axis.len ≤ length s.axis.edges
    later : (j : ℕ) → i ≤ j → edge_at s.axis j ≡ edge_at axis j
    kept : (j : ℕ) → is_done axis j ≡ true → edge_at s.axis j ≡ edge_at axis j
    done : (j : ℕ) → is_done s.axis j ≡ is_done axis j
    moved : (j : ℕ) → j < i → is_done axis j ≡ false → (edge_at s.axis j).pos ≡ place_of j

  module _ (i : ℕ) (s : State) (there : i < axis.len) (h : Moves i s) where
    -- it is left where it is
    moves-on : (now : Progress) → (is_done axis i ≡ false → (edge_at s.axis i).pos ≡ place_of i) → Moves (i + 1) (state s.axis now)
    moves-on now q = record {
      len = h.len;
      long = h.long;
      later = λ j l. h.later j (omega arith);
      kept = h.kept;
      done = h.done;
      moved = λ j l n. ⊎_elim
          (λ (e : j ≡ i). subst (λ (x : ℕ). is_done axis x ≡ false → (edge_at s.axis x).pos ≡ place_of x) (sym e) q n)
          (λ (b : j < i). h.moved j b n)
          (eq-or-lt_of_le (omega arith));
    }

    module _ (d : is_done axis i ≡ false) where
      -- or it is put there
      moves_put : (p : ℤ) (m : Mark) (now : Progress) → p ≡ place_of i → Moves (i + 1) (state (place_at s.axis i p m) now)
      moves_put p m now q = record {
        len = h.len;
        long = omega (arith, length-set s.axis.edges i (own p m), h.long);
        later = λ j l. other j (λ e. omega (arith, e, l)) ∙ h.later j (omega arith);
        kept = λ j b. other j (λ e. clash _ d (subst (λ (x : ℕ). is_done axis x ≡ true) e b)) ∙ h.kept j b;
        done =
            λ j. ⊎_elim (λ (e : j ≡ i). subst (λ (x : ℕ). is_done (place_at s.axis i p m) x ≡ is_done axis x) (sym e)
            (ap (λ (x : Edge). x.flags.done) same ∙ h.done i))
            (λ (n : j ≢ i). ap (λ (x : Edge). x.flags.done) (other j n) ∙ h.done j) (same_or_not j i);
        moved =
            λ j l n. ⊎_elim (λ (e : j ≡ i). subst (λ (x : ℕ). (edge_at (place_at s.axis i p m) x).pos ≡ place_of x) (sym e) (ap (λ (x : Edge). x.pos) same ∙ q))
            (λ (b : j < i). ap (λ (x : Edge). x.pos) (other j (λ e. omega (arith, e, b))) ∙ h.moved j b n) (eq-or-lt_of_le (omega arith));
      }
        where
          own : ℤ → Mark → Edge
          own p m = placed (edge_at s.axis i) p m

          same : edge_at (place_at s.axis i p m) i ≡ own p m
          same = get_or-set_same s.axis.edges i (own p m) empty_edge (omega (arith, h.long))

          other : (j : ℕ) → j ≢ i → edge_at (place_at s.axis i p m) j ≡ edge_at s.axis j
          other j n = get_or-set_other s.axis.edges i j (own p m) empty_edge n

      abbrev here : edge_at s.axis i ≡ edge_at axis i
      here = h.later i (omega arith)

      -- by the done edges around it, which are where they were
      moves-by : (b f : Link) → done_before axis i ≡ b → done_behind axis i ≡ f → Last (is_done axis) i b → Next axis (axis.len - (i + 1)) (i + 1) f
          → Moves (i + 1) (carried s i (others_plan s.axis s.past i b f))
      unfolding others_plan stored
      moves-by (Some b) (Some f) u v x y =
          let p = h.kept b (x.some b refl).passes in
          let q = h.kept f (y.some f refl).done in
          moves_put _ _ _
          ((λ t. between_pos (here t).fpos (p t).fpos (p t).pos (q t).fpos (q t).pos) ∙ sym (λ t. (others_plan axis past i (u t) (v t)).pos))
      moves-by (Some b) None u v x y =
          let p = h.kept b (x.some b refl).passes in
          moves_put _ _ _ ((λ t. serif_pos (p t).pos (p t).opos (here t).opos) ∙ sym (λ t. (others_plan axis past i (u t) (v t)).pos))
      moves-by None (Some f) u v x y =
          let q = h.kept f (y.some f refl).done in
          moves_put _ _ _ ((λ t. serif_pos (q t).pos (q t).opos (here t).opos) ∙ sym (λ t. (others_plan axis past i (u t) (v t)).pos))
      moves-by None None u v x y = moves-on _ (λ n. (λ t. (here t).pos) ∙ sym (λ t. (others_plan axis past i (u t) (v t)).pos))

      moves-left : Moves (i + 1) (carried s i (plan_of Rounds.Others s.axis s.past i))
      unfolding plan_of
      moves-left =
          subst (λ (l : Link × Link). Moves (i + 1) (carried s i (others_plan s.axis s.past i l.0 l.1)))
          (λ t. (sym (before_same s.axis axis h.done i) t, sym (behind-same s.axis axis h.done h.len i) t))
          (moves-by (done_before axis i) (done_behind axis i) refl refl (before-is axis i) (from_is axis (axis.len - (i + 1)) (i + 1)))

  moves_next : (i : ℕ) (s : State) → i < axis.len → Moves i s → (visit Rounds.Others s i).past.beyond ≡ false → Moves (i + 1) (visit Rounds.Others s i)
  moves_next i s there h e =
      visit-cases Rounds.Others (Moves (i + 1)) s i e
      (λ d. moves-on i s there h s.past (λ n. absurd (clash _ n (sym (h.done i) ∙ d))))
      (λ d. moves-left i s there h (sym (h.done i) ∙ d))

  -- ---- two neighbours
  module _ (i : ℕ) (l : i + 1 < axis.len) where
    abbrev Behind : Link → Type 0
    Behind = Next axis (axis.len - (i + 1 + 1)) (i + 1 + 1)

    behind : Behind (done_behind axis (i + 1))
    behind = from_is axis (axis.len - (i + 1 + 1)) (i + 1 + 1)

    font : (edge_at axis i).fpos ≤ℤ (edge_at axis (i + 1)).fpos
    font = r.font_rise.at i (i + 1) (omega arith) l

    units : (edge_at axis i).opos ≤ℤ (edge_at axis (i + 1)).opos
    units = r.rise.at i (i + 1) (omega arith) l

    -- the first is done
    above : is_done axis i ≡ true → (edge_at axis i).pos ≤ℤ place_of (i + 1)
    unfolding others_plan
    above d =
        subst (λ (b : Link). (edge_at axis i).pos ≤ℤ (others_plan axis past (i + 1) b (done_behind axis (i + 1))).pos) (sym (before-next axis i ∙ cond-true _ _ _ d))
        (by (done_behind axis (i + 1)) behind)
      where
        by : (f : Link) → Behind f → (edge_at axis i).pos ≤ℤ (others_plan axis past (i + 1) (Some i) f).pos
        by None y = shifted-above (edge_at axis i).pos (edge_at axis i).opos (edge_at axis (i + 1)).opos units
        by (Some f) y =
            let n = y.some f refl in
            let o = n.from in
            let b : f < axis.len = omega (arith, n.below) in
            ((cjk-lies (edge_at axis i) (edge_at axis f) (edge_at axis (i + 1)) past font (r.font_rise.at (i + 1) f (omega arith) b)).rising
            (r.in_order.at i f (omega arith) b d n.done)).0

    -- the second is done
    below : is_done axis (i + 1) ≡ true → place_of i ≤ℤ (edge_at axis (i + 1)).pos
    unfolding others_plan
    below d =
        subst (λ (f : Link). (others_plan axis past i (done_before axis i) f).pos ≤ℤ (edge_at axis (i + 1)).pos) (sym (behind-next axis i l ∙ cond-true _ _ _ d))
        (by (done_before axis i) (before-is axis i))
      where
        by : (b : Link) → Last (is_done axis) i b → (others_plan axis past i b (Some (i + 1))).pos ≤ℤ (edge_at axis (i + 1)).pos
        by None x = shifted-below (edge_at axis (i + 1)).pos (edge_at axis (i + 1)).opos (edge_at axis i).opos units
        by (Some b) x =
            let n = x.some b refl in
            let o = n.order in
            ((cjk-lies (edge_at axis b) (edge_at axis (i + 1)) (edge_at axis i) past (r.font_rise.at b i o (omega arith)) font).rising
            (r.in_order.at b (i + 1) (omega arith) l n.passes d)).1

    -- neither is: they go by the same edges
    neither : is_done axis i ≡ false → is_done axis (i + 1) ≡ false → place_of i ≤ℤ place_of (i + 1)
    unfolding others_plan
    neither d e =
        le-by (λ t. (others_plan axis past i (done_before axis i) ((behind-next axis i l ∙ cond-false _ _ _ e) t)).pos)
        (λ t. (others_plan axis past (i + 1) ((before-next axis i ∙ cond-false _ _ _ d) t) (done_behind axis (i + 1))).pos)
        (by (done_before axis i) (done_behind axis (i + 1)) (before-is axis i) behind)
      where
        by : (b f : Link) → Last (is_done axis) i b → Behind f → (others_plan axis past i b f).pos ≤ℤ (others_plan axis past (i + 1) b f).pos
        by (Some b) (Some f) x y =
            let m = x.some b refl in
            let n = y.some f refl in
            let o = m.order in
            let u = n.from in
            let w : f < axis.len = omega (arith, n.below) in
            between-grows (edge_at axis i).fpos (edge_at axis (i + 1)).fpos (edge_at axis b).fpos (edge_at axis b).pos (edge_at axis f).fpos
            (edge_at axis f).pos
            (r.font_rise.at b i o (omega arith)) font (r.font_rise.at (i + 1) f (omega arith) w) (r.in_order.at b f (omega arith) w m.passes n.done)
        by (Some b) None x y = shifted-rises (edge_at axis b).pos (edge_at axis b).opos (edge_at axis i).opos (edge_at axis (i + 1)).opos units
        by None (Some f) x y = shifted-rises (edge_at axis f).pos (edge_at axis f).opos (edge_at axis i).opos (edge_at axis (i + 1)).opos units
        by None None x y =
            let there = r.there in
            absurd (clash _
            (⊎_elim (λ (q : k < i). x.none refl k q)
            (λ (q : i ≤ k).
            ⊎_elim (λ (z : i ≡ k). subst (λ (v : ℕ). is_done axis v ≡ false) z d)
            (λ (z : i < k).
            ⊎_elim (λ (w : i + 1 ≡ k). subst (λ (v : ℕ). is_done axis v ≡ false) w e) (λ (w : i + 1 < k). y.none refl k (omega arith) (omega arith))
            (eq-or-lt_of_le (omega arith)))
            (eq-or-lt_of_le q))
            (lt-or-le k i))
            r.done)

  -- ---- all edges
  module _ (s : State) (h : Moves axis.len s) where
    next : (i : ℕ) → i + 1 < axis.len → (edge_at s.axis i).pos ≤ℤ (edge_at s.axis (i + 1)).pos
    next i l = by (is_done axis i) (is_done axis (i + 1)) refl refl
      where
        stayed : (j : ℕ) → is_done axis j ≡ true → (edge_at s.axis j).pos ≡ (edge_at axis j).pos
        stayed j d = ap (λ (x : Edge). x.pos) (h.kept j d)

        by : (t u : Bool) → is_done axis i ≡ t → is_done axis (i + 1) ≡ u → (edge_at s.axis i).pos ≤ℤ (edge_at s.axis (i + 1)).pos
        by true true p q = le-by (stayed i p) (stayed (i + 1) q) (r.in_order.at i (i + 1) (omega arith) l p q)
        by true false p q = le-by (stayed i p) (h.moved (i + 1) l q) (above i l p)
        by false true p q = le-by (h.moved i (omega arith) p) (stayed (i + 1) q) (below i l q)
        by false false p q = le-by (h.moved i (omega arith) p) (h.moved (i + 1) l q) (neither i l p q)

    in_order : InOrder s.axis
    in_order = record { at = λ i j l b. rises (λ (i : ℕ). (edge_at s.axis i).pos) axis.len next i j l (omega (arith, b, h.len)) }

  pub cjk-order : 0 < count → (align_remaining_edges axis Cjk count anchor).answer ≡ 0 → InOrder (align_remaining_edges axis Cjk count anchor).axis
  cjk-order some e =
      let p = passed axis Cjk count anchor e in
      let alone = others-alone some p.none_beyond in
      subst InOrder (sym (p.edges ∙ ap (λ (s : State). s.axis) alone))
      (in_order (visited Rounds.Others start)
      (all-reach Rounds.Others axis.len Moves moves_next start
      (record { len = refl; long = r.places; later = λ j l. refl; kept = λ j d. refl; done = λ j. refl; moved = λ j l n. absurd (omega arith) })
      (ap (λ (s : State). s.past.beyond) (sym alone) ∙ p.none_beyond)))
