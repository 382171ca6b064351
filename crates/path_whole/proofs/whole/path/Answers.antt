-- `path_whole::whole::path` meets its contract.
use mathlib.Core.List.{List}
use Prim.Native.Nat.{ℕ}
use native.Mathlib.Omega.{arith}
use lib.Ieee.{Float}
use lib.IntN.{ℤ}
use Rattle.path_whole.proofs.Wrote.{sound, room, few, wrote}
use Rattle.path_whole.proofs.whole.path.Goals as goal

pub lay_path-steps-requires : goal.lay_path-steps-requires
lay_path-steps-requires c =
    let xs : List ℤ = c.args.xs.now in
    let ys : List ℤ = c.args.ys.now in
    let marks : List ℕ = c.args.marks.now in
    let ends : List ℕ = c.args.ends.now in
    let kinds : List ℕ = c.args.kinds.now in
    let places : List Float = c.args.places.now in
    let a = sound xs ys marks ends kinds places 0 _ c.in_ok-whole_refusal.ensures (omega arith) in
    record {
      admitted = a.0;
      ends_value = a.1;
      room = room xs ys marks ends kinds places 0 _ c.in_ok-whole_refusal.ensures (omega arith);
    }

pub counted-requires : goal.counted-requires
counted-requires c = few c.args.xs.now c.args.ys.now c.args.marks.now c.args.ends.now c.args.kinds.now c.args.places.now 0 _ c.in_ok-whole_refusal.ensures (omega arith) _ _ _ c.lay_path-steps.ensures

pub returns : goal.returns
returns c = wrote c.args.xs.now c.args.ys.now c.args.marks.now c.args.ends.now c.args.kinds.now c.args.places.now _ _ c.in_ok-whole_refusal.ensures (omega arith) _ _ _ c.lay_path-steps.ensures _
    c.counted.ensures
