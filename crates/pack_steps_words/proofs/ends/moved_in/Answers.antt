-- `pack_steps_words::ends::moved_in` meets its contract.
use borrow.Author.Rules.{rules}
use mir.Syntax.{w32}
use native.Mathlib.Omega.{arith}
use mathlib.Core.Path.{ap, ◌∙◌}
use Prim.Native.Nat.{ℕ, ◌<◌}
use lib.IntN.{pos}
use lib.ListN.{set}
use Rattle.axis.specs.Limits.{most_segments}
use Rattle.signed.proofs.Signed.{is, got}
use Rattle.pack.specs.Sets.{number_at}
use Rattle.pack_steps_words.proofs.ends.moved_in.Goals as goal

pub offset_bounds-new-ix : goal.offset_bounds-new-ix
offset_bounds-new-ix c =
    let inside : c.index_at-ix.result < most_segments = omega (arith, c.index_at-ix.ensures, c.requires.1) in
    omega (arith, inside)

pub bounds-new-ix : goal.bounds-new-ix
bounds-new-ix c =
    let inside : c.index_at-ix.result < most_segments = omega (arith, c.index_at-ix.ensures, c.requires.1) in
    inside

pub bounds-words-at : goal.bounds-words-at
bounds-words-at c = c.requires.0

pub returns : goal.returns
returns c = ap (set c.args.words.now c.args.at)
    (is (got w32 c.index_word.result c.index_word.type_inv) ∙ c.index_word.ensures
    ∙ ap (λ (k : ℕ). pos (number_at c.args.new.now k)) c.index_at-ix.ensures)
