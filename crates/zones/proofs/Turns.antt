-- One visit by the values that its steps find.
use Rattle.std.specs.Prelude.{None, Some}
use mathlib.Core.Path.{◌≡◌, sym, ap, ◌∙◌}
use mathlib.Core.Bool.{Bool, true, false, cond}
use mathlib.Core.List.{List}
use Prim.Native.Nat.{ℕ}
use lib.IntN.{ℤ}
use Rattle.signed.proofs.Choices.{cond-true, cond-false}
use Rattle.fixed.specs.declared.width.WidthRule.{WidthRule}
use Rattle.axis.specs.Link.{Link}
use Rattle.axis.specs.Link.{Blue}
use Rattle.axis.specs.declared.edge.Edge.{Edge}
use Rattle.axis.specs.declared.edge.Axis.{Axis}
use Rattle.axis.specs.Link.{index_or}
use Rattle.axis.specs.Edge.{edge_at, put_edge, has_blue}
use Rattle.zones.specs.Zones.{zoned_edge, on_zone, State, anchor_first}
use Rattle.zones.specs.Steps.{thinned, loses_link, loses_own, zone_of, linked_or_zoned, thin_both, link_at, by_zone, step_by, step}

module _ (rule : WidthRule) (xs : List ℤ) (axis : Axis) (a : Link) (i : ℕ) where
  abbrev s : State
  s = record { axis = axis; anchor = a }

  pub step-done : (edge_at axis i).flags.done ≡ true → step rule xs s i ≡ s
  unfolding step
  step-done h = cond-true _ _ _ h

  -- the axis once one of two zones is skipped
  pub record Thin (k : ℕ) (e g : Edge) (x : Blue) : Type 0 where
    pub own : Bool
    pub other : Bool
    pub not_done : (edge_at axis i).flags.done ≡ false
    pub link : k ≡ index_or i (edge_at axis i).link
    pub own_is : own ≡ loses_own (edge_at axis i) (edge_at axis k)
    pub other-is : other ≡ loses_link (edge_at axis i) (edge_at axis k)
    pub first : e ≡ thinned own (edge_at axis i)
    pub second : g ≡ thinned other (edge_at (put_edge axis i e) k)
    pub zone : x ≡ zone_of (edge_at (put_edge (put_edge axis i e) k g) i).blue (edge_at (put_edge (put_edge axis i e) k g) k).blue

  thin_is : (k : ℕ) (e g : Edge) (own other : Bool) → own ≡ loses_own (edge_at axis i) (edge_at axis k) → other ≡ loses_link (edge_at axis i) (edge_at axis k)
      → e ≡ thinned own (edge_at axis i) → g ≡ thinned other (edge_at (put_edge axis i e) k) → put_edge (put_edge axis i e) k g ≡ thin_both axis i k
  thin_is k e g own other h1 h2 h3 h4 = cc

  by-zone : (k : ℕ) (u v : Axis) (x : Blue) → u ≡ v → x ≡ zone_of (edge_at u i).blue (edge_at u k).blue
      → by_zone rule xs v a i k (zone_of (edge_at v i).blue (edge_at v k).blue) ≡ by_zone rule xs u a i k x
  by-zone k u v x e q =
      ap (λ (w : Axis). by_zone rule xs w a i k (zone_of (edge_at w i).blue (edge_at w k).blue)) (sym e) ∙ ap (by_zone rule xs u a i k) (sym q)

  by-link : (k : ℕ) → (edge_at axis i).flags.done ≡ false → k ≡ index_or i (edge_at axis i).link → step rule xs s i ≡ step_by rule xs s i k
  unfolding step
  by-link k h e = cond-false _ _ _ h ∙ ap (step_by rule xs s i) (sym e)

  step-thin : (k : ℕ) (e g : Edge) (x : Blue) → Thin k e g x → step rule xs s i ≡ by_zone rule xs (put_edge (put_edge axis i e) k g) a i k x
  step-thin k e g x h =
      by-link k h.not_done h.link
      ∙ by-zone k (put_edge (put_edge axis i e) k g) (thin_both axis i k) x
      (thin_is k e g h.own h.other h.own_is h.other-is h.first h.second) h.zone

  zone-none : (u : Axis) (k : ℕ) (x : Blue) → x ≡ None → by_zone rule xs u a i k x ≡ record { axis = u; anchor = a }
  unfolding by_zone
  zone-none u k x e = rw e

  pub step-none : (k : ℕ) (e g : Edge) (x : Blue) → Thin k e g x → x ≡ None
      → step rule xs s i ≡ record { axis = put_edge (put_edge axis i e) k g; anchor = a }
  step-none k e g x h q = step-thin k e g x h ∙ zone-none _ k x q

  -- the two stores on the zone
  pub record Put (u : Axis) (k one two : ℕ) (z : ℤ) (e g : Edge) (a' : Link) : Type 0 where
    pub on : Bool
    pub on_is : on ≡ has_blue (edge_at u i).blue
    pub one_is : one ≡ cond on i k
    pub two_is : two ≡ cond on k i
    pub first : e ≡ zoned_edge a (edge_at u one) z
    pub second : g ≡ linked_or_zoned rule xs (edge_at (put_edge u one e) one) (edge_at (put_edge u one e) two)
    pub anchor : a' ≡ anchor_first a i

  put_is : (u : Axis) (one two : ℕ) (z : ℤ) (e g : Edge) → e ≡ zoned_edge a (edge_at u one) z
      → g ≡ linked_or_zoned rule xs (edge_at (put_edge u one e) one) (edge_at (put_edge u one e) two)
      → put_edge (put_edge u one e) two g ≡ link_at rule xs (on_zone u a one z) one two
  put_is u one two z e g h1 h2 = cc

  -- the state once edge `one` is on the zone and edge `two` behind it
  abbrev put_state : Axis → ℕ → ℕ → ℤ → State
  put_state u one two z = record { axis = link_at rule xs (on_zone u a one z) one two; anchor = anchor_first a i }

  zone-some : (u : Axis) (k : ℕ) (x : Blue) (z : ℤ) (on : Bool) (one two : ℕ) → x ≡ Some z → on ≡ has_blue (edge_at u i).blue
      → one ≡ cond on i k → two ≡ cond on k i → by_zone rule xs u a i k x ≡ put_state u one two z
  unfolding by_zone
  zone-some u k x z on one two e h1 h2 h3 =
      let o : one ≡ cond (has_blue (edge_at u i).blue) i k = h2 ∙ ap (λ (t : Bool). cond t i k) h1 in
      let t : two ≡ cond (has_blue (edge_at u i).blue) k i = h3 ∙ ap (λ (t : Bool). cond t k i) h1 in
      rw (e, o, t)

  pub step-zone : (k : ℕ) (e g : Edge) (x : Blue) (z : ℤ) (one two : ℕ) (e' g' : Edge) (a' : Link) → Thin k e g x → x ≡ Some z
      → Put (put_edge (put_edge axis i e) k g) k one two z e' g' a'
      → step rule xs s i ≡ record { axis = put_edge (put_edge (put_edge (put_edge axis i e) k g) one e') two g'; anchor = a' }
  step-zone k e g x z one two e' g' a' h q p =
      let u = put_edge (put_edge axis i e) k g in
      step-thin k e g x h
      ∙ zone-some u k x z p.on one two q p.on_is p.one_is p.two_is
      ∙ ap (λ (v : Axis). record { axis = v; anchor = anchor_first a i }) (sym (put_is u one two z e' g' p.first p.second))
      ∙ ap (λ (l : Link). record { axis = put_edge (put_edge u one e') two g'; anchor = l }) (sym p.anchor)
