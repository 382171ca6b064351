-- `pack_steps_words::ends::ends_in` meets its contract: edge by edge.
use native.Mathlib.Omega.{arith}
use mathlib.Core.Path.{refl}
use Prim.Native.Nat.{◌-◌, ◌≤◌, ◌<◌}
use Rattle.axis.specs.declared.edge.Axis.{Axis}
use Rattle.pack.specs.Sets.{number_at}
use Rattle.pack.proofs.Edges.{edges_to}
use Rattle.words.specs.Edge.{edges_in}
use Rattle.words_edge.specs.Whole.{Became}
use Rattle.words_edge.proofs.Became.{stays}
use Rattle.pack_steps_words.proofs.Edges.{next-ready, one_more, all-ended}
use Rattle.pack_steps_words.proofs.ends.ends_in.Goals as goal

pub loop-i-init : goal.loop-i-init
loop-i-init c = (omega arith, stays _ c.requires.0 (λ d. refl))

pub end_in-requires : goal.end_in-requires
end_in-requires c =
    let below : c.loop-i.i < edges_in c.args.words.now = omega arith in
    let r = next-ready c.args.words.now c.requires.0 c.args.new.now _ c.loop-i.i below c.loop-i.invariant.1 c.requires.1 in
    (r.0, r.1, r.2, c.requires.2)

pub overflow_step-i : goal.overflow_step-i
overflow_step-i c = omega arith

pub loop-i-smaller : goal.loop-i-smaller
loop-i-smaller c = omega arith

pub loop-i-preserved : goal.loop-i-preserved
loop-i-preserved c =
    let below : c.loop-i.i < edges_in c.args.words.now = omega arith in
    (omega arith, one_more c.args.words.now c.requires.0 c.args.new.now _ c.loop-i.i below c.loop-i.invariant.1 _ c.end_in.ensures)

pub shape_of-words : goal.shape_of-words
shape_of-words c = c.loop-i.invariant.1.long

pub returns : goal.returns
returns c = all-ended c.args.words.now c.requires.0 c.args.new.now _ c.loop-i.i c.loop-i.invariant.0 (omega arith) c.loop-i.invariant.1
