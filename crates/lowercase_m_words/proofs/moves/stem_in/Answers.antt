-- `lowercase_m_words::moves::stem_in` meets its contract.
use Rattle.std.specs.Prelude.{Some}
use mathlib.Core.Path.{sym, ap, subst, ◌∙◌}
use Prim.Native.Nat.{◌<◌}
use native.Mathlib.Omega.{arith}
use mir.Syntax.{w32}
use mir.Val.{to_z, of_z, SFits}
use lib.IntN.{ℤ}
use Rattle.signed.specs.Range.{Between}
use Rattle.signed.proofs.Signed.{is}
use Rattle.axis.specs.declared.edge.Edge.{Edge}
use Rattle.lowercase_m.specs.M.{most_delta}
use Rattle.lowercase_m.specs.Steps.{Places, unmoved, once_moved, twice_moved}
use Rattle.lowercase_m.proofs.Places.{further, wider-places}
use Rattle.words.specs.Edge.{edges_in}
use Rattle.words_call.specs.Lent.{edges_of}
use Rattle.words_edge.proofs.Became.{below_in}
use Rattle.lowercase_m_words.proofs.Moving.{of-axis, done-within, unlinked-law, linked-law}
use borrow.Author.Rules.{rules}
use Rattle.lowercase_m_words.proofs.moves.stem_in.Goals as goal

-- delta is within its limit when read back
held : (d : ℤ) → SFits w32 d → Between most_delta most_delta d → Between most_delta most_delta (to_z w32 (of_z w32 d))
held d f h = subst (Between most_delta most_delta) (sym (is f)) h

pub move_done-requires : goal.move_done-requires
move_done-requires c =
    let d = held _ c.ranges.delta c.requires.places.1 in
    record {
      whole = (c.requires.whole.0, c.requires.whole.1);
      between = (further unmoved _ (omega arith) (c.requires.places.0.at _ (of-axis c.args.words.now _ c.requires.whole.1)), d);
    }

pub serifs_in-requires : goal.serifs_in-requires
serifs_in-requires c =
    let d = held _ c.ranges.delta c.requires.places.1 in
    let once = done-within unmoved c.args.third _ c.requires.places.0 c.requires.whole.1 d c.move_done.ensures in
    (c.move_done.ensures.whole, wider-places once_moved twice_moved _ (omega arith) once, d)

pub returns-in_default : goal.returns-in_default
returns-in_default c =
    unlinked-law c.args.third c.read_edge-stem.ensures (is c.ranges.delta) c.move_done.ensures c.in_default.is
    c.serifs_in.ensures

pub move_done-requires-2 : goal.move_done-requires-2
move_done-requires-2 c =
    let d = held _ c.ranges.delta c.requires.places.1 in
    let once = done-within unmoved c.args.third _ c.requires.places.0 c.requires.whole.1 d c.move_done.ensures in
    let below = c.requires.whole.2.at _ (sym (ap (λ (e : Edge). e.link) c.read_edge-stem.ensures) ∙ c.in-Some.is) in
    let still = below_in c.in-Some.k c.move_done.ensures below in
    record {
      whole = (c.move_done.ensures.whole, still);
      between = (further once_moved _ (omega arith) (once.at _ (of-axis _ _ still)), d);
    }

pub serifs_in-requires-2 : goal.serifs_in-requires-2
serifs_in-requires-2 c =
    let d = held _ c.ranges.delta c.requires.places.1 in
    let once = done-within unmoved c.args.third _ c.requires.places.0 c.requires.whole.1 d c.move_done.ensures in
    let below = c.requires.whole.2.at _ (sym (ap (λ (e : Edge). e.link) c.read_edge-stem.ensures) ∙ c.in-Some.is) in
    let still = below_in c.in-Some.k c.move_done.ensures below in (
      c.move_done-2.ensures.whole,
      done-within once_moved c.in-Some.k _ once still d c.move_done-2.ensures,
      d,
    )

pub returns : goal.returns
returns c =
    linked-law c.args.third c.read_edge-stem.ensures (is c.ranges.delta) c.move_done.ensures c.in-Some.k
    c.in-Some.is c.move_done-2.ensures c.serifs_in-2.ensures
