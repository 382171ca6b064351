-- `pack_steps_words::ends::end_in` meets its contract.
use borrow.Author.Rules.{rules}
use native.Mathlib.Omega.{arith}
use Rattle.pack_steps_words.proofs.Edges.{first-ready, last-ready, end-law}
use Rattle.pack_steps_words.proofs.ends.end_in.Goals as goal

pub overflow_mul-i : goal.overflow_mul-i
overflow_mul-i c = omega (arith, c.requires.0.few)

pub overflow_add-i : goal.overflow_add-i
overflow_add-i c = omega (arith, c.requires.0.few)

pub moved_in-requires : goal.moved_in-requires
moved_in-requires c = let s = c in first-ready s.args.words.now s.args.i s.requires.0 s.requires.1 s.requires.2 s.args.new.now s.requires.3

pub overflow_mul-i-2 : goal.overflow_mul-i-2
overflow_mul-i-2 c = omega (arith, c.requires.0.few)

pub overflow_add-i-2 : goal.overflow_add-i-2
overflow_add-i-2 c = omega (arith, c.requires.0.few)

pub moved_in-requires-2 : goal.moved_in-requires-2
moved_in-requires-2 c =
    let one = c in
    let s = one in
    last-ready s.args.words.now s.args.i s.requires.0 s.requires.1 s.requires.2 s.args.new.now s.requires.3 _ one.moved_in.ensures

pub returns : goal.returns
returns c =
    let two = c in
    let one = two in
    let s = one in
    end-law s.args.words.now s.args.i s.requires.0 s.requires.1 s.requires.2 s.args.new.now s.requires.3 _ one.moved_in.ensures _
    two.moved_in-2.ensures
