-- `remaining_pass_words::store::hold_in` meets its contract.
use Rattle.signed.proofs.Signed.{is}
use Rattle.place.specs.declared.adjust.LinkDir.TheVariants.{Prev}
use Rattle.words_edge.proofs.Became.{below_in}
use Rattle.remaining_pass_words.proofs.Stores.{fixed_in, adjusted-in, hold-law}
use borrow.Author.Rules.{rules}
use Rattle.remaining_pass_words.proofs.store.hold_in.Goals as goal

pub adjust_in-requires : goal.adjust_in-requires
adjust_in-requires c =
    let a = c.put_fixed.ensures in
    (a.whole, fixed_in c.args.i c.requires.1 c.requires.2 _ _ (rw (is c.ranges.pos) c.requires.3) a, below_in c.args.i a c.requires.2)

pub adjust_in-requires-2 : goal.adjust_in-requires-2
adjust_in-requires-2 c =
    let a = c.put_fixed.ensures in
    let b = c.adjust_in.ensures in
    let h = below_in c.args.i a c.requires.2 in (
      b.whole,
      adjusted-in c.args.i (fixed_in c.args.i c.requires.1 c.requires.2 _ _ (rw (is c.ranges.pos) c.requires.3) a) h Prev b,
      below_in
          c.args.i b h,
    )

pub returns : goal.returns
returns c =
    hold-law c.args.i c.args.pos c.args.mark (is c.ranges.pos) c.put_fixed.ensures c.adjust_in.ensures c.adjust_in-2.ensures
