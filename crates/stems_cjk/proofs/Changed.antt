-- What the call changes: the positions of the stem's two edges, which are marked stem, and nothing else; a refusal nothing.
use mathlib.Core.Path.{◌≡◌, refl, sym, ap, subst, ◌∙◌}
use mathlib.Core.Bool.{Bool, true, ◌||◌}
use mathlib.Core.List.{List}
use Prim.Native.Nat.{ℕ}
use borrow.Author.Tests.{eq-eqb}
use lib.Dec.{eqb}
use lib.IntN.{ℤ, pos, ◌+ℤ◌}
use lib.Signed.{lt_z}
use Rattle.signed.proofs.Choices.{either_way}
use Rattle.refusals.specs.Refusal.{refusal}
use Rattle.fixed.specs.declared.width.WidthRule.{WidthRule}
use Rattle.axis.specs.declared.kinds.Mark.TheVariants as Marks
use Rattle.axis.specs.declared.edge.Axis.{Axis}
use Rattle.axis.specs.Edge.{edge_at}
use Rattle.axis.specs.Mark.{among}
use Rattle.axis.specs.Changes.{position, wherever, OnlyAxis, Changes}
use Rattle.axis.proofs.Only.{or-true, placed-only, named, same-axis, also-put, call-changes}
use Rattle.stems_cjk.specs.declared.stem.Stem.{Stem}
use Rattle.stems_cjk.specs.Cjk.{stem_of, placed_at, placed_stem, hinted_stem}
use Rattle.stems_cjk.specs.Answer.{StemCjk}
use Rattle.stems_cjk.specs.Hint.{hinted, stem_tests, hint_normal_stem_cjk, HintsNormalStemCjk, stem_marks}

module _ (axis : Axis) (i j : ℕ) where
  abbrev either : ℕ → Bool
  either k = eqb k i || eqb k j

  abbrev Small : Axis → Axis → Type 0
  Small = OnlyAxis (wherever either (position stem_marks))

  first : either i ≡ true
  first = ap (λ (t : Bool). t || eqb i j) (eq-eqb i i refl)

  second : either j ≡ true
  second = ap (λ (t : Bool). eqb j i || t) (eq-eqb j j refl) ∙ sym (or-true (eqb j i))

  -- two edges placed, one after the other
  both : (lower upper : ℕ) (p w : ℤ) → either lower ≡ true → either upper ≡ true → Small axis (placed_stem axis lower upper p w)
  unfolding placed_stem among
  both lower upper p w e g =
      let one = also-put _ axis axis lower _ (same-axis _ axis)
      (named either (position stem_marks) lower _ _ e (placed-only stem_marks (edge_at axis lower) p Marks.Stem refl)) in
      also-put _ axis (placed_at axis lower p) upper _ one
      (named either (position stem_marks) upper _ _ g (placed-only stem_marks (edge_at (placed_at axis lower p) upper) (p +ℤ w) Marks.Stem refl))

  placed : (s : Stem) → Small axis (hinted_stem axis i j s)
  unfolding hinted_stem
  placed s =
      either_way (Small axis) (lt_z (edge_at axis i).opos (edge_at axis j).opos) _ _ (both i j s.pos s.width first second)
      (both j i s.pos s.width second first)

  pub changed : (adjust : Bool) (rule : WidthRule) (xs : List ℤ) (d : ℤ) {r : StemCjk} → HintsNormalStemCjk axis adjust rule xs i j d r
      → Changes (OnlyAxis (wherever (λ (k : ℕ). eqb k i || eqb k j) (position stem_marks))) r.answer axis r.axis
  unfolding hint_normal_stem_cjk
  changed adjust rule xs d p =
      let stem = stem_of axis.dim adjust rule xs (edge_at axis i) (edge_at axis j) d in
      subst (λ (r : StemCjk). Changes Small r.answer axis r.axis) (sym p)
      (call-changes Small (refusal (stem_tests axis rule xs i j d)) axis (hinted axis (pos 0)) (hinted (hinted_stem axis i j stem) stem.delta 0)
      (λ (r : StemCjk). r.answer)
      (λ (r : StemCjk). r.axis) (λ (k : ℕ). refl) (same-axis _ axis) refl (λ _. placed stem))
