-- `words::field::direction_of` meets its contract.
use native.Mathlib.Omega.{arith}
use mathlib.Core.Path.{sym, ap}
use Rattle.words.specs.Field.{direction_of}
use Rattle.words.proofs.Fields.{number_is, direction-none}
use Rattle.words.proofs.field.direction_of.Goals as goal

pub returns-then-word-eq1 : goal.returns-then-word-eq1
unfolding direction_of
returns-then-word-eq1 c = let s = c in ap direction_of (sym (number_is 1 (omega arith) s.args.word s.ranges.word c.if-word-eq1.true))

pub returns-then-word-eq2 : goal.returns-then-word-eq2
unfolding direction_of
returns-then-word-eq2 c = let s = c in ap direction_of (sym (number_is 2 (omega arith) s.args.word s.ranges.word c.if-word-eq2.true))

pub returns-then-word-eq3 : goal.returns-then-word-eq3
unfolding direction_of
returns-then-word-eq3 c = let s = c in ap direction_of (sym (number_is 3 (omega arith) s.args.word s.ranges.word c.if-word-eq3.true))

pub returns-then-word-eq4 : goal.returns-then-word-eq4
unfolding direction_of
returns-then-word-eq4 c = let s = c in ap direction_of (sym (number_is 4 (omega arith) s.args.word s.ranges.word c.if-word-eq4.true))

pub returns : goal.returns
returns c =
    let third = c in
    let second = third in
    let first = second in
    direction-none first.args.word first.if-word-eq1.false second.if-word-eq2.false third.if-word-eq3.false c.if-word-eq4.false
