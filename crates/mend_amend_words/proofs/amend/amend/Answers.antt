-- `mend_amend_words::amend::amend` meets its contract: a word that stays is not listed, another one is.
use mathlib.Core.Path.{◌≡◌, refl, sym, ap, ◌∙◌}
use mathlib.Core.List.{[], ◌∷◌}
use native.Mathlib.Omega.{arith}
use Rattle.std.proofs.Common.{eq-eqb, ne_eqb}
use mir.Syntax.{w32}
use Rattle.signed.proofs.Signed.{is, got}
use Rattle.signed.specs.Equality.{eq_z}
use Rattle.signed.proofs.By.{by₂}
use Rattle.signed.proofs.Reading.{eq-same}
use Rattle.mend_amend_words.proofs.Entries.{stayed, altered}
use Rattle.mend_amend_words.proofs.amend.amend.Goals as goal

pub returns-then-old-new : goal.returns-then-old-new
returns-then-old-new c =
    let o = c.read_word-old in
    let tested = eq-same w32 o.result c.args.new (got w32 o.result o.type_inv).sfits c.ranges.new.sfits in
    stayed _ _ _ _ _ _ _ (by₂ eq_z tested o.ensures refl) (eq-eqb _ _ c.if-old-new.true)

pub overflow_mul-count : goal.overflow_mul-count
overflow_mul-count c = omega arith

pub write_words-requires : goal.write_words-requires
write_words-requires c = omega arith

pub returns : goal.returns
returns c =
    let o = c.read_word-old in
    let word = is (got w32 o.result o.type_inv) ∙ o.ensures in
    let tested = eq-same w32 o.result c.args.new (got w32 o.result o.type_inv).sfits c.ranges.new.sfits in
    altered _ _ _ _ _ _ _ (by₂ eq_z tested o.ensures refl) _ _ _ (ne_eqb _ _ c.if-old-new.false) (is c.ranges.new) c.write_words.ensures
    (λ j. (is (got w32 c.index_word-table.result c.index_word-table.type_inv) ∙ c.index_word-table.ensures) j
    ∷ (is (got w32 c.index_word-index.result c.index_word-index.type_inv) ∙ c.index_word-index.ensures) j
    ∷ (is (got w32 c.index_word-field.result c.index_word-field.type_inv) ∙ c.index_word-field.ensures) j ∷ word j ∷ is c.ranges.new j ∷ [])
