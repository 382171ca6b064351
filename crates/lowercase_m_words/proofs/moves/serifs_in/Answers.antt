-- `lowercase_m_words::moves::serifs_in` meets its contract.
use mathlib.Core.Path.{◌≡◌, sym, subst}
use Prim.Native.Nat.{◌<◌}
use native.Mathlib.Omega.{arith}
use mir.Syntax.{w32}
use mir.Val.{to_z, of_z, SFits}
use lib.IntN.{ℤ}
use Rattle.signed.specs.Range.{Between}
use Rattle.signed.proofs.Signed.{is}
use Rattle.lowercase_m.specs.Steps.{twice_moved}
use Rattle.lowercase_m.specs.M.{most_delta}
use Rattle.lowercase_m.proofs.Places.{further}
use Rattle.words_edge.proofs.Became.{below_in}
use Rattle.lowercase_m_words.proofs.Moving.{of-axis, serifs-stay, serifs-law, only-within}
use Rattle.words.specs.Edge.{edges_in}
use borrow.Author.Rules.{rules}
use Rattle.lowercase_m_words.proofs.moves.serifs_in.Goals as goal

-- delta is within its limit when read back
held : (d : ℤ) → SFits w32 d → Between most_delta most_delta d → Between most_delta most_delta (to_z w32 (of_z w32 d))
held d f h = subst (Between most_delta most_delta) (sym (is f)) h

pub returns-then-words-ne12 : goal.returns-then-words-ne12
returns-then-words-ne12 c = serifs-stay c.args.words.now c.args.delta c.requires.0 c.if-words-ne12.true

pub move_only-requires : goal.move_only-requires
move_only-requires c =
    let n : edges_in c.args.words.now ≡ 12 = c.if-words-ne12.false in
    let h8 : 8 < edges_in c.args.words.now = omega arith in
    let h11 : 11 < edges_in c.args.words.now = omega arith in
    let d = held _ c.ranges.delta c.requires.2 in
    record {
      whole = (c.requires.0, h8);
      between = (further twice_moved _ (omega arith) (c.requires.1.at 8 (of-axis c.args.words.now 8 h8)), d);
    }

pub move_only-requires-2 : goal.move_only-requires-2
move_only-requires-2 c =
    let n : edges_in c.args.words.now ≡ 12 = c.if-words-ne12.false in
    let h8 : 8 < edges_in c.args.words.now = omega arith in
    let h11 : 11 < edges_in c.args.words.now = omega arith in
    let d = held _ c.ranges.delta c.requires.2 in
    let b = c.move_only.ensures in
    let h = below_in 11 b h11 in
    record {
      whole = (b.whole, h);
      between = ((only-within twice_moved 8 _ c.requires.1 h8 d b).at 11 (of-axis _ 11 h), d);
    }

pub returns : goal.returns
returns c = serifs-law c.if-words-ne12.false (is c.ranges.delta) c.move_only.ensures c.move_only-2.ensures
