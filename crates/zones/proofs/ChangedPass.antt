-- The pass changes position, done, neutral and zone of edges below the count, and nothing else; what it places is marked as a blue anchor, blue or linked.
use Rattle.std.specs.Prelude.{None, Some}
use mathlib.Core.Path.{◌≡◌, refl, sym, subst}
use mathlib.Core.Bool.{Bool, true, false, cond, ◌&&◌}
use mathlib.Core.List.{List}
use Prim.Native.Nat.{ℕ, ◌<◌}
use native.Mathlib.Omega.{arith}
use borrow.Author.Tests.{lt-ltb}
use lib.Dec.{ltb}
use lib.IntN.{ℤ}
use Rattle.signed.proofs.Choices.{either_way}
use Rattle.fixed.specs.declared.width.WidthRule.{WidthRule}
use Rattle.axis.specs.Link.{Link}
use Rattle.axis.specs.Link.{Blue}
use Rattle.axis.specs.declared.kinds.Mark.{Mark}
use Rattle.axis.specs.declared.kinds.Mark.TheVariants.{Linked}
use Rattle.axis.specs.declared.edge.Edge.{Edge}
use Rattle.axis.specs.declared.edge.Axis.{Axis}
use Rattle.axis.specs.Edge.{edge_at, put_edge, fixed_at, has_blue}
use Rattle.axis.specs.Mark.{among}
use Rattle.axis.specs.Accepted.{Below, AxisWithin}
use Rattle.axis.specs.Changes.{zone, Only, wherever, OnlyAxis}
use Rattle.axis.proofs.Only.{place-zone, fixed-only, rezoned-only, without-zone, named, same-axis, also-put, link-kept}
use Rattle.axis.proofs.Visits.{visits-keep}
use Rattle.place.specs.Placing.{linked_pos}
use Rattle.zones.specs.Zones.{unzoned, skipped, zone_mark, zoned_edge, on_zone, link_aligned, State, visit_alone, visit_pair, visit_link, visit}
use Rattle.zones.specs.Pass.{blues_marks, blues_of}

-- a zone gives one of the marks
zone-among : (anchor : Link) → among blues_marks (zone_mark anchor) ≡ true
unfolding among zone_mark
zone-among None = refl
zone-among (Some k) = refl

-- an edge on its zone has one, or was done already
on-zone : (anchor : Link) (e : Edge) (z : ℤ) → e.blue ≡ Some z → Only (zone blues_marks) e (zoned_edge anchor e z)
on-zone anchor e z b = by e.flags.done refl
  where
    by : (t : Bool) → e.flags.done ≡ t → Only (zone blues_marks) e (fixed_at e z (cond t e.mark (zone_mark anchor)))
    by true d = rezoned-only blues_marks e z d b
    by false d = place-zone blues_marks e _ (fixed-only blues_marks e z (zone_mark anchor) (zone-among anchor))

-- and one that is linked to such an edge has another
linked-among : among blues_marks Linked ≡ true
unfolding among
linked-among = refl

module _ (rule : WidthRule) (xs : List ℤ) (old : Axis) (m : ℕ) (within : AxisWithin m old) where
  abbrev Kept : Axis → Type 0
  Kept = OnlyAxis (wherever (λ (i : ℕ). ltb i old.len) (zone blues_marks)) old

  abbrev KeptBy : State → Type 0
  KeptBy s = Kept s.axis

  put : (axis : Axis) (i : ℕ) (e : Edge) → i < old.len → Kept axis → Only (zone blues_marks) (edge_at axis i) e → Kept (put_edge axis i e)
  put axis i e q h o = also-put _ old axis i e h (named (λ (k : ℕ). ltb k old.len) (zone blues_marks) i (edge_at axis i) e (lt-ltb i old.len q) o)

  unzone : (axis : Axis) (i : ℕ) → i < old.len → Kept axis → Kept (put_edge axis i (unzoned (edge_at axis i)))
  unzone axis i q h = put axis i _ q h (without-zone blues_marks (edge_at axis i))

  fix : (axis : Axis) (a : Link) (i : ℕ) (z : ℤ) → (edge_at axis i).blue ≡ Some z → i < old.len → Kept axis → Kept (on_zone axis a i z)
  fix axis a i z b q h = put axis i _ q h (on-zone a (edge_at axis i) z b)

  skip : (axis : Axis) (i k : ℕ) → i < old.len → k < old.len → Kept axis → Kept (skipped axis i k)
  unfolding skipped
  skip axis i k p q h =
      either_way Kept (has_blue (edge_at axis i).blue && has_blue (edge_at axis k).blue) _ axis
      (either_way Kept (edge_at axis k).flags.neutral _ _ (unzone axis k q h) (either_way Kept (edge_at axis i).flags.neutral _ axis (unzone axis i p h) h))
      h

  link : (axis : Axis) (i j : ℕ) → j < old.len → Kept axis → Kept (link_aligned rule xs axis i j)
  unfolding link_aligned
  link axis i j q h =
      either_way Kept (has_blue (edge_at axis j).blue) axis _ h
      (put axis j _ q h
      (place-zone blues_marks _ _ (fixed-only blues_marks (edge_at axis j) (linked_pos rule xs (edge_at axis i).pos (edge_at axis i).opos (edge_at axis j).opos)
      Linked linked-among)))

  alone : (s : State) (i : ℕ) (b : Blue) → (edge_at s.axis i).blue ≡ b → i < old.len → KeptBy s → KeptBy (visit_alone s i b)
  unfolding visit_alone
  alone s i None e q h = h
  alone s i (Some z) e q h = fix s.axis s.anchor i z e q h

  pair : (s : State) (i k : ℕ) (x y : Blue) → (edge_at s.axis i).blue ≡ x → (edge_at s.axis k).blue ≡ y → i < old.len → k < old.len → KeptBy s
      → KeptBy (visit_pair rule xs s i k x y)
  unfolding visit_pair
  pair s i k (Some z) y e f p q h = link (on_zone s.axis s.anchor i z) i k q (fix s.axis s.anchor i z e p h)
  pair s i k None (Some z) e f p q h = link (on_zone s.axis s.anchor k z) k i p (fix s.axis s.anchor k z f q h)
  pair s i k None None e f p q h = h

  by-link : (s : State) (i : ℕ) (l : Link) → Below old.len l → i < old.len → KeptBy s → KeptBy (visit_link rule xs s i l)
  unfolding visit_link
  by-link s i None b q h = alone s i (edge_at s.axis i).blue refl q h
  by-link s i (Some k) b q h =
      let a = skipped s.axis i k in
      let l = b.at k refl in
      pair (record { axis = a; anchor = s.anchor }) i k (edge_at a i).blue (edge_at a k).blue refl refl q l (skip s.axis i k q l h)

  one : (s : State) (i : ℕ) → i < old.len → KeptBy s → KeptBy (visit rule xs s i)
  unfolding visit
  one s i q h =
      either_way KeptBy (edge_at s.axis i).flags.done s _ h
      (by-link s i (edge_at s.axis i).link (subst (Below old.len) (sym (link-kept _ old s.axis i h)) (within.edge i q).link) q h)

  pub blues-only : OnlyAxis (wherever (λ (i : ℕ). ltb i old.len) (zone blues_marks)) old (blues_of rule xs old).axis
  unfolding blues_of
  blues-only = visits-keep KeptBy (visit rule xs) old.len one old.len 0 (record { axis = old; anchor = None }) (omega arith) (same-axis _ old)

-- it answers 0
pub blues-done : (rule : WidthRule) (xs : List ℤ) (axis : Axis) → (blues_of rule xs axis).answer ≡ 0
unfolding blues_of
blues-done rule xs axis = refl
