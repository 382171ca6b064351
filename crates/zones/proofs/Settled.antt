-- Request #108: after the pass over blue zones an edge that is not done has no link to an edge with a zone.
use Rattle.std.specs.Prelude.{None, Some}
use mathlib.Core.Path.{◌≡◌, refl, sym, ap, subst, ◌∙◌}
use mathlib.Core.Bool.{Bool, true, false, cond, ◌&&◌}
use mathlib.Core.List.{List, [], ◌∷◌}
use mathlib.Core.Logic.{◌⊎◌, inl, inr}
use Prim.Native.Nat.{ℕ, zero, suc, ◌+◌, ◌<◌, ◌≤◌}
use native.Mathlib.Omega.{arith}
use lib.IntN.{ℤ}
use lib.ListN.{get_or, set}
use Rattle.signed.proofs.Signed.{lt-or-le}
use Rattle.signed.proofs.Choices.{either_way}
use Rattle.fixed.specs.declared.width.WidthRule.{WidthRule}
use Rattle.axis.specs.Link.{Link}
use Rattle.axis.specs.Link.{Blue}
use Rattle.axis.specs.declared.edge.Edge.{Edge}
use Rattle.axis.specs.declared.edge.Axis.{Axis}
use Rattle.axis.specs.Edge.{empty_edge, edge_at, put_edge, has_blue}
use Rattle.axis.specs.Visits.{visits}
use Rattle.zones.specs.Zones.{unzoned, skipped, on_zone, link_aligned, State, visit_alone, visit_pair, visit_link, visit}
use Rattle.zones.specs.Settled.{Settled}
use Rattle.zones.proofs.Landed.{set_own}

-- ---- nothing is undone
-- an edge that is done stays so, one without a zone gets none, and its link stays
pub record Grown (old new : Edge) : Type 0 where
  pub done : old.flags.done ≡ true → new.flags.done ≡ true
  pub bare : old.blue ≡ None → new.blue ≡ None
  pub link : new.link ≡ old.link

-- so it is for every edge
pub record AllGrown (old new : Axis) : Type 0 where
  pub edge : (j : ℕ) → Grown (edge_at old j) (edge_at new j)

pub same-grown : (e : Edge) → Grown e e
same-grown e = record { done = λ h. h; bare = λ h. h; link = refl }

pub all_same : (axis : Axis) → AllGrown axis axis
all_same axis = record { edge = λ (j : ℕ). same-grown (edge_at axis j) }

then-grown : (a b c : Edge) → Grown a b → Grown b c → Grown a c
then-grown a b c p q = record { done = λ h. q.done (p.done h); bare = λ h. q.bare (p.bare h); link = q.link ∙ p.link }

pub all_then : (a b c : Axis) → AllGrown a b → AllGrown b c → AllGrown a c
all_then a b c p q = record { edge = λ (j : ℕ). then-grown (edge_at a j) (edge_at b j) (edge_at c j) (p.edge j) (q.edge j) }

-- one is stored
set_grown : (l : List Edge) (i j : ℕ) (e : Edge) → Grown (get_or l i empty_edge) e → Grown (get_or l j empty_edge) (get_or (set l i e) j empty_edge)
set_grown [] i j e h = same-grown empty_edge
set_grown (x ∷ l) zero zero e h = h
set_grown (x ∷ l) zero (suc j) e h = same-grown (get_or l j empty_edge)
set_grown (x ∷ l) (suc i) zero e h = same-grown x
set_grown (x ∷ l) (suc i) (suc j) e h = set_grown l i j e h

pub put-grown : (axis : Axis) (i : ℕ) (e : Edge) → Grown (edge_at axis i) e → AllGrown axis (put_edge axis i e)
put-grown axis i e h = record { edge = λ (j : ℕ). set_grown axis.edges i j e h }

-- an axis that is settled stays so
not_done : (old new : Bool) → (old ≡ true → new ≡ true) → new ≡ false → old ≡ false
not_done false new h e = refl
not_done true new h e = sym (h refl) ∙ e

pub grown-settled : (n : ℕ) (old new : Axis) → AllGrown old new → Settled n old → Settled n new
grown-settled n old new g h = record {
  bare = λ i k q d l.
      let e = g.edge i in
      (g.edge k).bare (h.bare i k q (not_done (edge_at old i).flags.done (edge_at new i).flags.done e.done d) (sym e.link ∙ l));
}

-- ---- the stores of a visit
bare-put : (axis : Axis) (i : ℕ) → AllGrown axis (put_edge axis i (unzoned (edge_at axis i)))
bare-put axis i = put-grown axis i _ (record { done = λ h. h; bare = λ h. refl; link = refl })

skip : (axis : Axis) (i k : ℕ) → AllGrown axis (skipped axis i k)
unfolding skipped
skip axis i k =
    let same = all_same axis in
    either_way (AllGrown axis) (has_blue (edge_at axis i).blue && has_blue (edge_at axis k).blue) _ axis
    (either_way (AllGrown axis) (edge_at axis k).flags.neutral _ _ (bare-put axis k)
    (either_way (AllGrown axis) (edge_at axis i).flags.neutral _ axis (bare-put axis i) same))
    same

on-zone : (axis : Axis) (a : Link) (i : ℕ) (z : ℤ) → AllGrown axis (on_zone axis a i z)
on-zone axis a i z = put-grown axis i _ (record { done = λ h. refl; bare = λ h. h; link = refl })

module _ (rule : WidthRule) (xs : List ℤ) where
  aligned : (axis : Axis) (i j : ℕ) → AllGrown axis (link_aligned rule xs axis i j)
  unfolding link_aligned
  aligned axis i j =
      either_way (AllGrown axis) (has_blue (edge_at axis j).blue) axis _ (all_same axis)
      (put-grown axis j _ (record { done = λ h. refl; bare = λ h. h; link = refl }))

  pair-grown : (s : State) (i k : ℕ) (x y : Blue) → AllGrown s.axis (visit_pair rule xs s i k x y).axis
  unfolding visit_pair
  pair-grown s i k (Some z) y = all_then _ _ _ (on-zone s.axis s.anchor i z) (aligned (on_zone s.axis s.anchor i z) i k)
  pair-grown s i k None (Some z) = all_then _ _ _ (on-zone s.axis s.anchor k z) (aligned (on_zone s.axis s.anchor k z) k i)
  pair-grown s i k None None = all_same s.axis

  alone-grown : (s : State) (i : ℕ) (x : Blue) → AllGrown s.axis (visit_alone s i x).axis
  unfolding visit_alone
  alone-grown s i None = all_same s.axis
  alone-grown s i (Some z) = on-zone s.axis s.anchor i z

  link-grown : (s : State) (i : ℕ) (l : Link) → AllGrown s.axis (visit_link rule xs s i l).axis
  unfolding visit_link
  link-grown s i None = alone-grown s i (edge_at s.axis i).blue
  link-grown s i (Some k) =
      let u : State = record { axis = skipped s.axis i k; anchor = s.anchor } in
      all_then _ _ _ (skip s.axis i k) (pair-grown u i k (edge_at u.axis i).blue (edge_at u.axis k).blue)

  visit-grown : (s : State) (i : ℕ) → AllGrown s.axis (visit rule xs s i).axis
  unfolding visit
  visit-grown s i =
      either_way (λ (t : State). AllGrown s.axis t.axis) (edge_at s.axis i).flags.done s _ (all_same s.axis)
      (link-grown s i (edge_at s.axis i).link)

  -- ---- the visited edge
  -- it is done, or has no link
  abbrev Closed : Edge → Type 0
  Closed e = (k : ℕ) → e.flags.done ≡ false → e.link ≡ Some k → ⊥

  done-closed : (e : Edge) → e.flags.done ≡ true → Closed e
  done-closed e h k d l = let z : ◌≡◌ {A = ℕ} 0 1 = cc in omega arith

  empty-closed : Closed empty_edge
  empty-closed k d l = let z : ◌≡◌ {A = ℕ} 0 1 = cc in omega arith

  put-closed : (axis : Axis) (i : ℕ) (e : Edge) → e.flags.done ≡ true → Closed (edge_at (put_edge axis i e) i)
  put-closed axis i e h = set_own Closed empty_edge e axis.edges i (done-closed e h) empty-closed

  grown-closed : (old new : Edge) → Grown old new → Closed old → Closed new
  grown-closed old new g h k d l = h k (not_done old.flags.done new.flags.done g.done d) (sym g.link ∙ l)

  -- behind its visit, or its link has no zone
  pair-closed : (s : State) (i k : ℕ) (x y : Blue) → (edge_at s.axis i).blue ≡ x → (edge_at s.axis k).blue ≡ y
      → Closed (edge_at (visit_pair rule xs s i k x y).axis i) ⊎ ((edge_at (visit_pair rule xs s i k x y).axis k).blue ≡ None)
  unfolding visit_pair link_aligned has_blue
  pair-closed s i k (Some z) y e f =
      let u = on_zone s.axis s.anchor i z in
      inl (grown-closed _ _ ((aligned u i k).edge i) (put-closed s.axis i _ refl))
  pair-closed s i k None (Some z) e f =
      let u = on_zone s.axis s.anchor k z in
      let b : (edge_at u i).blue ≡ None = ((on-zone s.axis s.anchor k z).edge i).bare e in
      inl (rw b (put-closed u i _ refl))
  pair-closed s i k None None e f = inr f

  -- the link of an edge, by two equations
  same_index : (l : Link) (j k : ℕ) → l ≡ Some j → l ≡ Some k → j ≡ k
  same_index l j k p q = cc

  no_index : (l : Link) (k : ℕ) → l ≡ None → l ≡ Some k → ⊥
  no_index l k p q = let z : ◌≡◌ {A = ℕ} 0 1 = cc in omega arith

  either : (after : Axis) (i j k : ℕ) → Closed (edge_at after i) ⊎ ((edge_at after j).blue ≡ None) → (edge_at after i).flags.done ≡ false
      → (edge_at after i).link ≡ Some k
      → (edge_at after i).link ≡ Some j → (edge_at after k).blue ≡ None
  either after i j k (inl c) d q e = absurd (c k d q)
  either after i j k (inr b) d q e = ap (λ (n : ℕ). (edge_at after n).blue) (same_index _ k j q e) ∙ b

  link-settled : (s : State) (i : ℕ) (l : Link) (k : ℕ) → (edge_at s.axis i).link ≡ l → (edge_at (visit_link rule xs s i l).axis i).flags.done ≡ false
      → (edge_at (visit_link rule xs s i l).axis i).link ≡ Some k → (edge_at (visit_link rule xs s i l).axis k).blue ≡ None
  unfolding visit_link
  link-settled s i None k e d q = absurd (no_index _ k (((link-grown s i None).edge i).link ∙ e) q)
  link-settled s i (Some j) k e d q =
      let u : State = record { axis = skipped s.axis i j; anchor = s.anchor } in
      either (visit_link rule xs s i (Some j)).axis i j k (pair-closed u i j (edge_at u.axis i).blue (edge_at u.axis j).blue refl refl) d q
      (((link-grown s i (Some j)).edge i).link ∙ e)

  visit-settled : (s : State) (i k : ℕ) → (edge_at (visit rule xs s i).axis i).flags.done ≡ false → (edge_at (visit rule xs s i).axis i).link ≡ Some k
      → (edge_at (visit rule xs s i).axis k).blue ≡ None
  unfolding visit
  visit-settled s i k = by (edge_at s.axis i).flags.done refl
    where
      by : (t : Bool) → (edge_at s.axis i).flags.done ≡ t → (edge_at (cond t s (visit_link rule xs s i (edge_at s.axis i).link)).axis i).flags.done ≡ false
          → (edge_at (cond t s (visit_link rule xs s i (edge_at s.axis i).link)).axis i).link ≡ Some k
          → (edge_at (cond t s (visit_link rule xs s i (edge_at s.axis i).link)).axis k).blue ≡ None
      by true e d q = absurd (done-closed (edge_at s.axis i) e k d q)
      by false e d q = link-settled s i (edge_at s.axis i).link k refl d q

  -- ---- all visits
  -- one edge more is settled
  one_more : (s : State) (i : ℕ) → Settled i s.axis → Settled (i + 1) (visit rule xs s i).axis
  one_more s i h = record { bare = λ j k q d l. at j k q (lt-or-le j i) d l }
    where
      at : (j k : ℕ) → j < i + 1 → (j < i) ⊎ (i ≤ j) → (edge_at (visit rule xs s i).axis j).flags.done ≡ false
          → (edge_at (visit rule xs s i).axis j).link ≡ Some k
          → (edge_at (visit rule xs s i).axis k).blue ≡ None
      at j k r (inl q) d l = (grown-settled i s.axis _ (visit-grown s i) h).bare j k q d l
      at j k r (inr q) d l =
          let e : j ≡ i = omega arith in
          let after = (visit rule xs s i).axis in
          visit-settled s i k (ap (λ (x : ℕ). (edge_at after x).flags.done) (sym e) ∙ d) (ap (λ (x : ℕ). (edge_at after x).link) (sym e) ∙ l)

  all_settled : (n i : ℕ) (s : State) → Settled i s.axis → Settled (i + n) (visits (visit rule xs) n i s).axis
  unfolding visits
  all_settled zero i s h = let e : i + 0 ≡ i = omega arith in rw e h
  all_settled (suc n) i s h = let e : i + suc n ≡ (i + 1) + n = omega arith in rw e (all_settled n (i + 1) (visit rule xs s i) (one_more s i h))

  pub pass-settled : (n : ℕ) (s : State) → Settled n (visits (visit rule xs) n 0 s).axis
  pass-settled n s =
      let e : 0 + n ≡ n = omega arith in
      subst (λ (m : ℕ). Settled m (visits (visit rule xs) n 0 s).axis) e (all_settled n 0 s (record { bare = λ i k q d l. absurd (omega arith) }))
