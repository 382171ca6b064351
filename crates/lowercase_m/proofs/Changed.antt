-- What the call changes: position and done of the third stem and of the edge that it is linked to, the positions of the serifs of twelve edges, each then
-- marked as moved by the
-- rule, and nothing else; a refusal nothing.
use Rattle.std.specs.Prelude.{None, Some}
use mathlib.Core.Path.{◌≡◌, refl, sym, ap, subst, ◌∙◌}
use mathlib.Core.Bool.{Bool, true, cond, ◌&&◌, ◌||◌}
use mathlib.Core.List.{List, [], ◌∷◌}
use Prim.Native.Nat.{ℕ}
use borrow.Author.Tests.{eq-eqb}
use lib.Dec.{eqb}
use lib.IntN.{ℤ, ◌-ℤ◌}
use Rattle.signed.proofs.Choices.{cond_cases, either_way}
use Rattle.refusals.specs.Refusal.{refusal}
use Rattle.axis.specs.Link.{Link}
use Rattle.axis.specs.declared.kinds.Group.{Group}
use Rattle.axis.specs.declared.kinds.Mark.{Mark}
use Rattle.axis.specs.declared.kinds.Mark.TheVariants.{LowercaseM}
use Rattle.axis.specs.declared.edge.Edge.{Edge}
use Rattle.axis.specs.declared.edge.Axis.{Axis}
use Rattle.axis.specs.Edge.{edge_at}
use Rattle.axis.specs.Link.{links_to}
use Rattle.axis.specs.Mark.{among}
use Rattle.axis.specs.Changes.{Extent, nothing, position, place, Only, OnlyAxis, Changes}
use Rattle.axis.proofs.Only.{or-true, position-place, placed-only, fixed-only, same-axis, also-put, call-changes}
use Rattle.lowercase_m.specs.Answer.{Hinted}
use Rattle.lowercase_m.specs.M.{
  stems_of,
  applies_to,
  move_done,
  move_only,
  move_link,
  move_serifs,
  move_stem,
  aligned,
  mTests,
  hinted,
  hint_lowercase_m,
  HintsLowercaseM,
}
use Rattle.lowercase_m.specs.M.{is_stem, is_serif, mExtent}

-- ---- the extent
-- the one mark that the rule gives
abbrev marks : List Mark
marks = LowercaseM ∷ []

stem-extent : (es : List Edge) (n i : ℕ) (a b : Edge) → is_stem es n i ≡ true → Only (place marks) a b → Only (mExtent es n i) a b
stem-extent es n i a b e h = subst (λ (t : Bool). Only (cond t (place marks) (cond (is_serif n i) (position marks) nothing)) a b) (sym e) h

serif-extent : (es : List Edge) (n i : ℕ) (a b : Edge) → is_serif n i ≡ true → Only (position marks) a b → Only (mExtent es n i) a b
serif-extent es n i a b e h =
    cond_cases (λ (x : Extent). Only x a b) (is_stem es n i) (place marks) (cond (is_serif n i) (position marks) nothing)
    (λ _. position-place marks a b h)
    (λ _. subst (λ (t : Bool). Only (cond t (position marks) nothing) a b) (sym e) h)

-- an edge that a link leads to
leads : (l : Link) (k : ℕ) → l ≡ Some k → links_to l k ≡ true
unfolding links_to
leads l k e = ap (λ (x : Link). links_to x k) e ∙ eq-eqb k k refl

module _ (axis : Axis) where
  abbrev third : ℕ
  third = (stems_of axis.len).third

  abbrev Kept : Axis → Type 0
  Kept = OnlyAxis (mExtent axis.edges axis.len) axis

  -- ---- the moves
  done : (now : Axis) (i : ℕ) (d : ℤ) → is_stem axis.edges axis.len i ≡ true → Kept now → Kept (move_done now i d)
  unfolding move_done among
  done now i d e h =
      also-put _ axis now i _ h (stem-extent axis.edges axis.len i _ _ e (fixed-only marks (edge_at now i) ((edge_at now i).pos -ℤ d) LowercaseM refl))

  only : (now : Axis) (i : ℕ) (d : ℤ) → is_serif axis.len i ≡ true → Kept now → Kept (move_only now i d)
  unfolding move_only among
  only now i d e h =
      also-put _ axis now i _ h (serif-extent axis.edges axis.len i _ _ e (placed-only marks (edge_at now i) ((edge_at now i).pos -ℤ d) LowercaseM refl))

  link : (now : Axis) (l : Link) (d : ℤ) → (edge_at axis third).link ≡ l → Kept now → Kept (move_link now l d)
  unfolding move_link
  link now None d e h = h
  link now (Some k) d e h = done now k d (ap (λ (t : Bool). eqb k third || t) (leads _ k e) ∙ sym (or-true (eqb k third))) h

  serifs : (now : Axis) (d : ℤ) → Kept now → Kept (move_serifs now d)
  unfolding move_serifs
  serifs now d h =
      cond_cases Kept (eqb now.len 12) _ now
      (λ (e : eqb now.len 12 ≡ true).
      let twelve : eqb axis.len 12 ≡ true = ap (λ (n : ℕ). eqb n 12) (sym h.len) ∙ e in
      only (move_only now 8 d) 11 d (ap (λ (t : Bool). t && (eqb 11 8 || eqb 11 11)) twelve)
      (only now 8 d (ap (λ (t : Bool). t && (eqb 8 8 || eqb 8 11)) twelve) h))
      (λ _. h)

  stem : (d : ℤ) → Kept (move_stem axis third d)
  unfolding move_stem
  stem d =
      serifs (move_link (move_done axis third d) (edge_at axis third).link d) d
      (link (move_done axis third d) (edge_at axis third).link d refl
      (done axis third d (ap (λ (t : Bool). t || links_to (edge_at axis third).link third) (eq-eqb third third refl)) (same-axis _ axis)))

  rule : (group : Group) → Kept (aligned group axis (stems_of axis.len))
  unfolding aligned
  rule group = either_way Kept (applies_to group axis (stems_of axis.len)) _ axis (stem _) (same-axis _ axis)

  -- ---- the call
  pub changed : (group : Group) {r : Hinted} → HintsLowercaseM axis group r → Changes (OnlyAxis (mExtent axis.edges axis.len)) r.answer axis r.axis
  unfolding hint_lowercase_m
  changed group p =
      let Small = OnlyAxis (mExtent axis.edges axis.len) in
      subst (λ (r : Hinted). Changes Small r.answer axis r.axis) (sym p)
      (call-changes Small (refusal (mTests axis)) axis (hinted axis) (hinted (aligned group axis (stems_of axis.len)) 0) (λ (r : Hinted). r.answer)
      (λ (r : Hinted). r.axis)
      (λ (k : ℕ). refl) (same-axis _ axis) refl (λ _. rule group))
