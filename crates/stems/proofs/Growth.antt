-- How far one visit can take the positions: what is within b before it is within b and `most_growth` after it.
use Rattle.std.specs.Prelude.{None, Some}
use mathlib.Core.Path.{◌≡◌, subst}
use mathlib.Core.Bool.{Bool}
use mathlib.Core.List.{List}
use Prim.Native.Nat.{ℕ, ◌+◌, ◌≤◌}
use native.Mathlib.Omega.{arith}
use lib.IntN.{ℤ, pos, ◌+ℤ◌}
use lib.Signed.{lt_z}
use Rattle.signed.specs.Range.{Between}
use Rattle.signed.proofs.Signed.{add-law, sub-law}
use Rattle.signed.proofs.Choices.{either_way}
use Rattle.fixed.specs.declared.width.WidthRule.{WidthRule}
use Rattle.axis.specs.Link.{Link}
use Rattle.axis.specs.Link.{Blue}
use Rattle.axis.specs.declared.kinds.Group.{Group}
use Rattle.axis.specs.declared.kinds.Group.TheVariants.{Default, Cjk}
use Rattle.axis.specs.declared.kinds.Dimension.{Dimension}
use Rattle.axis.specs.declared.kinds.Dimension.TheVariants.{Horizontal, Vertical}
use Rattle.axis.specs.declared.edge.Edge.{Edge}
use Rattle.axis.specs.Limits.{most_units, most_pos, most_passed}
use Rattle.place.specs.Placing.{linked_pos}
use Rattle.place.specs.Steps.{most_reach, InReach}
use Rattle.place.proofs.Reach.{width-range}
use Rattle.stems_latin.specs.Latin.{most_length}
use Rattle.stems_latin.proofs.Moves.{most_shift, anchored-ends, first_range, second_range, free-ends, free-range, free-second-range}
use Rattle.stems_cjk.specs.declared.stem.Stem.{Stem}
use Rattle.stems_cjk.specs.Cjk.{most_cjk_start, most_width, most_move}
use Rattle.stems_cjk.proofs.Moves.{stem-pos-range, stem-width-range, stem-delta-range}
use Rattle.stems.specs.declared.kinds.Mode.{Mode}
use Rattle.stems.specs.declared.kinds.Trail.{Trail}
use Rattle.stems.specs.declared.kinds.Second.{Second}
use Rattle.stems.specs.declared.kinds.Second.TheVariants.{Stays, Placed, Fixed}
use Rattle.stems.specs.declared.kinds.Plan.{Plan}
use Rattle.stems.specs.Visit.{original_len, width_of, start_beside, delta_beside, delta_after}
use Rattle.stems.specs.Plan.{
  linked_plan,
  behind_plan,
  centred_plan,
  anchored_plan,
  free_plan,
  latin_plan,
  fixed_plan,
  stem_plan,
  cjk_plan,
  group_plan,
  zone_plan,
  plan_of,
}
use Rattle.stems.specs.Steps.{most_place, LastWithin}

-- what a visit adds: beside an anchor, the distance of two original positions, a rounding, and a width
abbrev pub most_growth : ℕ
most_growth = most_length + most_shift

-- where the second edge of a CJK stem can be: a width behind the first
abbrev most_end : ℕ
most_end = most_cjk_start + most_width

-- ---- plans within b
pub record SecondWithin (b : ℕ) (x : Second) : Type 0 where
  pub placed : (z : ℤ) → x ≡ Placed z → Between b b z
  pub fixed : (z : ℤ) → x ≡ Fixed z → Between b b z

-- what CJK stems left is within its range
pub record TrailWithin (t : Trail) : Type 0 where
  pub last : LastWithin t.last
  pub delta : Between most_passed most_passed t.delta

pub record PlanWithin (b : ℕ) (plan : Plan) : Type 0 where
  pub first : Between b b plan.first
  pub second : SecondWithin b plan.second
  pub trail : TrailWithin plan.trail

never : {A : Type 0} → ◌≡◌ {A = ℕ} 0 1 → A
never e = absurd (omega (arith, e))

stays_within : (b : ℕ) → SecondWithin b Stays
stays_within b = record { placed = λ (z : ℤ) (e : Stays ≡ Placed z). never cc; fixed = λ (z : ℤ) (e : Stays ≡ Fixed z). never cc }

placed-within : (b : ℕ) (x : ℤ) → Between b b x → SecondWithin b (Placed x)
placed-within b x h = record {
  placed = λ (z : ℤ) (e : Placed x ≡ Placed z). let q : x ≡ z = cc in subst (Between b b) q h;
  fixed = λ (z : ℤ) (e : Placed x ≡ Fixed z). never cc;
}

fixed-within : (b : ℕ) (x : ℤ) → Between b b x → SecondWithin b (Fixed x)
fixed-within b x h = record {
  placed = λ (z : ℤ) (e : Fixed x ≡ Placed z). never cc;
  fixed = λ (z : ℤ) (e : Fixed x ≡ Fixed z). let q : x ≡ z = cc in subst (Between b b) q h;
}

pub last_none : LastWithin None
last_none = record { at = λ (z : ℤ) (e : None ≡ Some z). never cc }

last-at : (x : ℤ) → Between most_place most_place x → LastWithin (Some x)
last-at x h = record { at = λ (z : ℤ) (e : Some x ≡ Some z). let q : x ≡ z = cc in subst (Between most_place most_place) q h }

-- an edge at an accepted original position, within b
pub record EdgeIn (b : ℕ) (e : Edge) : Type 0 where
  pub opos : Between most_units most_units e.opos
  pub pos : Between b b e.pos

-- b is what positions can have come to
pub record Reached (b : ℕ) : Type 0 where
  pub least : most_pos ≤ b
  pub most : b + most_growth ≤ most_reach

pub edge-reach : (b : ℕ) (e : Edge) → Reached b → EdgeIn b e → InReach e
edge-reach b e r h = let p = h.pos in record { opos = h.opos; pos = omega (arith, r.most) }

width-in : (b : ℕ) (rule : WidthRule) (xs : List ℤ) (e e2 : Edge) → EdgeIn b e → EdgeIn b e2 → Between most_width most_width (width_of rule xs e e2)
width-in b rule xs e e2 h g = width-range rule xs e.opos e2.opos h.opos g.opos

module _ (b : ℕ) (r : Reached b) where
  linked-within : (rule : WidthRule) (xs : List ℤ) (e e2 : Edge) (t : Trail) → EdgeIn b e → EdgeIn b e2 → TrailWithin t
      → PlanWithin (b + most_growth) (linked_plan rule xs e e2 t)
  unfolding linked_pos
  linked-within rule xs e e2 t h g k = record {
    first = omega (arith, g.pos, width-in b rule xs e2 e g h, add-law e2.pos (width_of rule xs e2 e));
    second = stays_within (b + most_growth);
    trail = k;
  }

  -- ---- Latin
  behind-within : (rule : WidthRule) (xs : List ℤ) (e e2 : Edge) (t : Trail)
      → EdgeIn b e → EdgeIn b e2 → TrailWithin t → PlanWithin (b + most_growth) (behind_plan e2 (width_of rule xs e e2) t)
  behind-within rule xs e e2 t h g k = record {
    first = omega (arith, g.pos, width-in b rule xs e e2 h g, sub-law e2.pos (width_of rule xs e e2));
    second = stays_within (b + most_growth);
    trail = k;
  }

  centred-within : (rule : WidthRule) (xs : List ℤ) (e e2 a : Edge) (t : Trail)
      → EdgeIn b e → EdgeIn b e2 → EdgeIn b a → TrailWithin t → PlanWithin (b + most_growth)
      (centred_plan (start_beside a e) (original_len e e2) (width_of rule xs e e2) t)
  centred-within rule xs e e2 a t h g l k =
      let n = anchored-ends b a.pos a.opos e.opos e2.opos (width_of rule xs e e2) l.pos l.opos h.opos g.opos
      (width-in b rule xs e e2 h g) in
      record {
        first = omega (arith, first_range _ _ _ _ n);
        second = fixed-within (b + most_growth) _ (omega (arith, second_range _ _ _ _ n));
        trail = k;
      }

  anchored-within : (rule : WidthRule) (xs : List ℤ) (e e2 a : Edge) (t : Trail)
      → EdgeIn b e → EdgeIn b e2 → EdgeIn b a → TrailWithin t → PlanWithin (b + most_growth) (anchored_plan rule xs e e2 a t)
  unfolding anchored_plan
  anchored-within rule xs e e2 a t h g l k =
      either_way (PlanWithin (b + most_growth)) e2.flags.done _ _ (behind-within rule xs e e2 t h g k) (centred-within rule xs e e2 a t h g l k)

  free-within : (rule : WidthRule) (xs : List ℤ) (e e2 : Edge) (t : Trail) → EdgeIn b e → EdgeIn b e2 → TrailWithin t
      → PlanWithin (b + most_growth) (free_plan rule xs e e2 t)
  unfolding free_plan linked_pos
  free-within rule xs e e2 t h g k =
      let n = free-ends e.opos e2.opos (width_of rule xs e e2) h.opos g.opos (width-in b rule xs e e2 h g) in
      record {
        first = omega (arith, r.least, free-range _ _ _ _ n);
        second = placed-within (b + most_growth) _ (omega (arith, r.least, free-second-range _ _ _ _ n));
        trail = k;
      }

  latin-within : (rule : WidthRule) (xs : List ℤ) (e e2 a : Edge) (anchor : Link) (t : Trail)
      → EdgeIn b e → EdgeIn b e2 → EdgeIn b a → TrailWithin t → PlanWithin (b + most_growth) (latin_plan rule xs e e2 a anchor t)
  unfolding latin_plan
  latin-within rule xs e e2 a None t h g l k = free-within rule xs e e2 t h g k
  latin-within rule xs e e2 a (Some j) t h g l k = anchored-within rule xs e e2 a t h g l k

  -- ---- CJK
  fixed-plan-within : (p q d : ℤ) → Between most_end most_end p → Between most_end most_end q → Between most_passed most_passed d
      → PlanWithin (b + most_growth) (fixed_plan p q d)
  fixed-plan-within p q d h g k = record {
    first = omega (arith, r.least, h);
    second = fixed-within (b + most_growth) q (omega (arith, r.least, g));
    trail = record { last = last-at q (omega (arith, g)); delta = k };
  }

  stem-within : (e e2 : Edge) (s : Stem) (d : ℤ) → Between most_cjk_start most_cjk_start s.pos → Between most_width most_width s.width
      → Between most_passed most_passed d
      → PlanWithin (b + most_growth) (stem_plan e e2 s d)
  unfolding stem_plan
  stem-within e e2 s d h g k =
      let u : Between most_end most_end (s.pos +ℤ s.width) = omega (arith, h, g, add-law s.pos s.width) in
      let l : Between most_end most_end s.pos = omega (arith, h) in
      either_way (PlanWithin (b + most_growth)) (lt_z e.opos e2.opos) _ _ (fixed-plan-within _ _ d l u k) (fixed-plan-within _ _ d u l k)

  beside-within : (anchor : Link) (old d : ℤ) → Between most_passed most_passed old → Between most_move most_move d
      → Between most_passed most_passed (delta_beside anchor old d)
  unfolding delta_beside
  beside-within None old d h g = omega (arith, g)
  beside-within (Some j) old d h g = h

  after-within : (dim : Dimension) (anchor : Link) (old d : ℤ) → Between most_passed most_passed old → Between most_move most_move d
      → Between most_passed most_passed (delta_after dim anchor old d)
  unfolding delta_after
  after-within Horizontal anchor old d h g = beside-within anchor old d h g
  after-within Vertical anchor old d h g = h

  cjk-within : (m : Mode) (xs : List ℤ) (e e2 : Edge) (anchor : Link) (before : Bool) (t : Trail)
      → EdgeIn b e → EdgeIn b e2 → TrailWithin t → PlanWithin (b + most_growth) (cjk_plan m xs e e2 anchor before t)
  unfolding cjk_plan
  cjk-within m xs e e2 anchor before t h g k =
      let i = edge-reach b e r h in
      let j = edge-reach b e2 r g in
      either_way (PlanWithin (b + most_growth)) before _ _
      (linked-within m.rule xs e e2 _ h g (record { last = last-at e.pos (omega (arith, i.pos)); delta = k.delta }))
      (stem-within e e2 _ _ (stem-pos-range _ _ _ _ _ _ _ i j k.delta) (stem-width-range _ _ _ _ _ _ _ i j)
      (after-within m.dim anchor _ _ k.delta (stem-delta-range _ _ _ _ _ _ _)))

  -- ---- the plan
  group-within : (group : Group) (m : Mode) (xs : List ℤ) (e e2 a : Edge) (anchor : Link) (before : Bool) (t : Trail)
      → EdgeIn b e → EdgeIn b e2 → EdgeIn b a → TrailWithin t → PlanWithin (b + most_growth) (group_plan group m xs e e2 a anchor before t)
  unfolding group_plan
  group-within Default m xs e e2 a anchor before t h g l k = latin-within m.rule xs e e2 a anchor t h g l k
  group-within Cjk m xs e e2 a anchor before t h g l k = cjk-within m xs e e2 anchor before t h g k

  zone-within : (blue : Blue) (m : Mode) (xs : List ℤ) (e e2 a : Edge) (anchor : Link) (before : Bool) (t : Trail)
      → EdgeIn b e → EdgeIn b e2 → EdgeIn b a → TrailWithin t → PlanWithin (b + most_growth) (zone_plan blue m xs e e2 a anchor before t)
  unfolding zone_plan
  zone-within None m xs e e2 a anchor before t h g l k = group-within m.group m xs e e2 a anchor before t h g l k
  zone-within (Some z) m xs e e2 a anchor before t h g l k = linked-within m.rule xs e e2 t h g k

  pub plan-within : (m : Mode) (xs : List ℤ) (e e2 a : Edge) (anchor : Link) (before : Bool) (t : Trail)
      → EdgeIn b e → EdgeIn b e2 → EdgeIn b a → TrailWithin t → PlanWithin (b + most_growth) (plan_of m xs e e2 a anchor before t)
  plan-within m xs e e2 a anchor before t h g l k = zone-within e2.blue m xs e e2 a anchor before t h g l k
