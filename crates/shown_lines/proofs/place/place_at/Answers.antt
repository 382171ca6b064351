-- `shown_lines::place::place_at` meets its contract.
use mathlib.Core.Path.{refl}
use native.Mathlib.Omega.{arith}
use Rattle.shown_lines.proofs.Fields.{Weights, weights, place-less}
use Rattle.shown_lines.proofs.place.place_at.Goals as goal

pub overflow_sub-u : goal.overflow_sub-u
overflow_sub-u c =
    let parts : Weights c.args.p c.args.c c.args.q c.args.k c.requires.0 c.requires.1 c.requires.2 c.requires.3 = weights c.args.p c.args.c c.args.q c.args.k c.requires.0 c.requires.1 c.requires.2 c.requires.3 in
    let w = parts in omega (arith, w.start, w.starts, w.turn, w.turns, w.end, w.ends, c.requires.3)

pub overflow_mul-result : goal.overflow_mul-result
overflow_mul-result c =
    let parts : Weights c.args.p c.args.c c.args.q c.args.k c.requires.0 c.requires.1 c.requires.2 c.requires.3 = weights c.args.p c.args.c c.args.q c.args.k c.requires.0 c.requires.1 c.requires.2 c.requires.3 in
    let w = parts in omega (arith, w.start, w.starts, w.turn, w.turns, w.end, w.ends, c.requires.3)

pub overflow_mul-result-2 : goal.overflow_mul-result-2
overflow_mul-result-2 c =
    let parts : Weights c.args.p c.args.c c.args.q c.args.k c.requires.0 c.requires.1 c.requires.2 c.requires.3 = weights c.args.p c.args.c c.args.q c.args.k c.requires.0 c.requires.1 c.requires.2 c.requires.3 in
    let w = parts in omega (arith, w.start, w.starts, w.turn, w.turns, w.end, w.ends, c.requires.3)

pub overflow_mul-result-3 : goal.overflow_mul-result-3
overflow_mul-result-3 c =
    let parts : Weights c.args.p c.args.c c.args.q c.args.k c.requires.0 c.requires.1 c.requires.2 c.requires.3 = weights c.args.p c.args.c c.args.q c.args.k c.requires.0 c.requires.1 c.requires.2 c.requires.3 in
    let w = parts in omega (arith, w.start, w.starts, w.turn, w.turns, w.end, w.ends, c.requires.3)

pub overflow_mul-result-4 : goal.overflow_mul-result-4
overflow_mul-result-4 c =
    let parts : Weights c.args.p c.args.c c.args.q c.args.k c.requires.0 c.requires.1 c.requires.2 c.requires.3 = weights c.args.p c.args.c c.args.q c.args.k c.requires.0 c.requires.1 c.requires.2 c.requires.3 in
    let w = parts in omega (arith, w.start, w.starts, w.turn, w.turns, w.end, w.ends, c.requires.3)

pub overflow_mul-result-5 : goal.overflow_mul-result-5
overflow_mul-result-5 c =
    let parts : Weights c.args.p c.args.c c.args.q c.args.k c.requires.0 c.requires.1 c.requires.2 c.requires.3 = weights c.args.p c.args.c c.args.q c.args.k c.requires.0 c.requires.1 c.requires.2 c.requires.3 in
    let w = parts in omega (arith, w.start, w.starts, w.turn, w.turns, w.end, w.ends, c.requires.3)

pub overflow_add-result : goal.overflow_add-result
overflow_add-result c =
    let parts : Weights c.args.p c.args.c c.args.q c.args.k c.requires.0 c.requires.1 c.requires.2 c.requires.3 = weights c.args.p c.args.c c.args.q c.args.k c.requires.0 c.requires.1 c.requires.2 c.requires.3 in
    let w = parts in omega (arith, w.start, w.starts, w.turn, w.turns, w.end, w.ends, c.requires.3)

pub overflow_mul-result-6 : goal.overflow_mul-result-6
overflow_mul-result-6 c =
    let parts : Weights c.args.p c.args.c c.args.q c.args.k c.requires.0 c.requires.1 c.requires.2 c.requires.3 = weights c.args.p c.args.c c.args.q c.args.k c.requires.0 c.requires.1 c.requires.2 c.requires.3 in
    let w = parts in omega (arith, w.start, w.starts, w.turn, w.turns, w.end, w.ends, c.requires.3)

pub overflow_mul-result-7 : goal.overflow_mul-result-7
overflow_mul-result-7 c =
    let parts : Weights c.args.p c.args.c c.args.q c.args.k c.requires.0 c.requires.1 c.requires.2 c.requires.3 = weights c.args.p c.args.c c.args.q c.args.k c.requires.0 c.requires.1 c.requires.2 c.requires.3 in
    let w = parts in omega (arith, w.start, w.starts, w.turn, w.turns, w.end, w.ends, c.requires.3)

pub overflow_add-result-2 : goal.overflow_add-result-2
overflow_add-result-2 c =
    let parts : Weights c.args.p c.args.c c.args.q c.args.k c.requires.0 c.requires.1 c.requires.2 c.requires.3 = weights c.args.p c.args.c c.args.q c.args.k c.requires.0 c.requires.1 c.requires.2 c.requires.3 in
    let w = parts in omega (arith, w.start, w.starts, w.turn, w.turns, w.end, w.ends, c.requires.3)

pub returns : goal.returns
returns c = (refl, place-less c.args.p c.args.c c.args.q c.args.k c.requires.0 c.requires.1 c.requires.2 c.requires.3)
