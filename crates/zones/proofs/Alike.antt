-- Axes that are alike but for their marks are visited alike (request #105).
use Rattle.std.specs.Prelude.{None, Some}
use mathlib.Core.Path.{◌≡◌, refl, ap, subst}
use mathlib.Core.Bool.{◌&&◌}
use mathlib.Core.List.{List}
use Prim.Native.Nat.{ℕ}
use lib.IntN.{ℤ}
use Rattle.fixed.specs.declared.width.WidthRule.{WidthRule}
use Rattle.axis.specs.Link.{Link}
use Rattle.axis.specs.Link.{Blue}
use Rattle.axis.specs.declared.edge.Edge.{Edge}
use Rattle.axis.specs.declared.edge.Axis.{Axis}
use Rattle.axis.specs.Edge.{edge_at, put_edge, has_blue}
use Rattle.axis.proofs.Alike.{Alike, AlikeAxis, finished-alike, fixed_alike, at-alike, put-alike, cond-alike}
use Rattle.place.proofs.Alike.{linked-alike}
use Rattle.zones.specs.Zones.{unzoned, skipped, on_zone, link_aligned, State, anchor_first, visit_alone, visit_pair, visit_link, visit}

-- two states are alike
pub record AlikeState (s t : State) : Type 0 where
  pub axis : AlikeAxis s.axis t.axis
  pub anchor : s.anchor ≡ t.anchor

module _ (a b : Axis) (alike : AlikeAxis a b) where
  at : (i : ℕ) → Alike (edge_at a i) (edge_at b i)
  at i = at-alike a b i alike

  bare : (i : ℕ) → AlikeAxis (put_edge a i (unzoned (edge_at a i))) (put_edge b i (unzoned (edge_at b i)))
  bare i = put-alike a b i _ _ alike (record { same = λ j. unzoned ((at i).same j) })

  skip : (i k : ℕ) → AlikeAxis (skipped a i k) (skipped b i k)
  unfolding skipped
  skip i k =
      cond-alike AlikeAxis _ _ _ a _ b (λ j. has_blue ((at i).same j).blue && has_blue ((at k).same j).blue)
      (cond-alike AlikeAxis _ _ _ _ _ _ (λ j. ((at k).same j).flags.neutral) (bare k)
      (cond-alike AlikeAxis _ _ _ a _ b (λ j. ((at i).same j).flags.neutral) (bare i) alike))
      alike

  zoned : (l m : Link) (i : ℕ) (z : ℤ) → AlikeAxis (on_zone a l i z) (on_zone b m i z)
  zoned l m i z = put-alike a b i _ _ alike (fixed_alike _ _ z z _ _ (at i) refl)

  linked : (rule : WidthRule) (xs : List ℤ) (i j : ℕ) → AlikeAxis (link_aligned rule xs a i j) (link_aligned rule xs b i j)
  unfolding link_aligned
  linked rule xs i j =
      cond-alike AlikeAxis _ _ a _ b _ (λ k. has_blue ((at j).same k).blue) alike
      (put-alike a b j _ _ alike (finished-alike _ _ (linked-alike rule xs _ _ _ _ (at i) (at j))))

blue-same : (s t : State) (i : ℕ) → AlikeState s t → (edge_at s.axis i).blue ≡ (edge_at t.axis i).blue
blue-same s t i h = ap (λ (e : Edge). e.blue) (at-alike s.axis t.axis i h.axis).same

alone : (s t : State) (i : ℕ) (x : Blue) → AlikeState s t → AlikeState (visit_alone s i x) (visit_alone t i x)
unfolding visit_alone
alone s t i None h = h
alone s t i (Some z) h = record { axis = zoned s.axis t.axis h.axis _ _ i z; anchor = ap (λ (l : Link). anchor_first l i) h.anchor }

module _ (rule : WidthRule) (xs : List ℤ) where
  pair : (s t : State) (i k : ℕ) (x y : Blue) → AlikeState s t → AlikeState (visit_pair rule xs s i k x y) (visit_pair rule xs t i k x y)
  unfolding visit_pair
  pair s t i k (Some z) y h = record {
    axis = linked _ _ (zoned s.axis t.axis h.axis _ _ i z) rule xs i k;
    anchor = ap (λ (l : Link). anchor_first l i) h.anchor;
  }
  pair s t i k None (Some z) h = record {
    axis = linked _ _ (zoned s.axis t.axis h.axis _ _ k z) rule xs k i;
    anchor = ap (λ (l : Link). anchor_first l i) h.anchor;
  }
  pair s t i k None None h = h

  by-link : (s t : State) (i : ℕ) (l : Link) → AlikeState s t → AlikeState (visit_link rule xs s i l) (visit_link rule xs t i l)
  unfolding visit_link
  by-link s t i None h =
      subst (λ (x : Blue). AlikeState (visit_alone s i (edge_at s.axis i).blue) (visit_alone t i x)) (blue-same s t i h)
      (alone s t i (edge_at s.axis i).blue h)
  by-link s t i (Some k) h =
      let u : State = record { axis = skipped s.axis i k; anchor = s.anchor } in
      let v : State = record { axis = skipped t.axis i k; anchor = t.anchor } in
      let g : AlikeState u v = record { axis = skip s.axis t.axis h.axis i k; anchor = h.anchor } in
      let x = (edge_at u.axis i).blue in
      let y = (edge_at u.axis k).blue in
      subst (λ (w : Blue). AlikeState (visit_pair rule xs u i k x y) (visit_pair rule xs v i k w (edge_at v.axis k).blue)) (blue-same u v i g)
      (subst (λ (w : Blue). AlikeState (visit_pair rule xs u i k x y) (visit_pair rule xs v i k x w)) (blue-same u v k g) (pair u v i k x y g))

  pub visit-alike : (s t : State) (i : ℕ) → AlikeState s t → AlikeState (visit rule xs s i) (visit rule xs t i)
  unfolding visit
  visit-alike s t i h =
      let e = at-alike s.axis t.axis i h.axis in
      cond-alike AlikeState _ _ s _ t _ (λ j. (e.same j).flags.done) h
      (subst (λ (l : Link). AlikeState (visit_link rule xs s i (edge_at s.axis i).link) (visit_link rule xs t i l)) (ap (λ (f : Edge). f.link) e.same)
      (by-link s t i (edge_at s.axis i).link h))
