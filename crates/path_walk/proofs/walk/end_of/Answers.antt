-- `path_walk::walk::end_of` meets its contract.
use mathlib.Core.Path.{sym, ap, ◌∙◌}
use Prim.Native.Nat.{ℕ, ◌+◌, ◌-◌}
use native.Mathlib.Omega.{arith}
use lib.Dec.{ltb}
use lib.ListN.{get_or}
use Rattle.path_trip.specs.Path.{points, Points, round_of}
use Rattle.path_trip.specs.Trips.{around}
use Rattle.path_walk.specs.declared.walk.End.TheVariants.{Point, Between}
use Rattle.path_walk.proofs.Seeks.{end-last, end_on, end-off}
use Rattle.path_walk.proofs.walk.end_of.Goals as goal

pub returns-then-count-j-eq1 : goal.returns-then-count-j-eq1
returns-then-count-j-eq1 c =
    let outline : Points = points c.args.xs.now c.args.ys.now c.args.marks.now in (
      sym (end-last ((round_of outline c.args.a (c.args.e - 1)).walk) c.args.a c.args.e c.args.from c.args.count c.requires.walk outline
          (around c.args.a c.args.e (c.args.from + c.args.j)) c.args.j c.if-count-j-eq1.true),
      omega arith,
    )

pub returns-then-is_on : goal.returns-then-is_on
returns-then-is_on c =
    let outline : Points = points c.args.xs.now c.args.ys.now c.args.marks.now in
    let p = c.around_at-next.ensures in (
      ap Point p.0
          ∙ sym (end_on ((round_of outline c.args.a (c.args.e - 1)).walk) c.args.a c.args.e c.args.from c.args.count c.requires.walk outline
          (around c.args.a c.args.e (c.args.from + c.args.j)) c.args.j
          c.requires.j_lt_count c.if-count-j-eq1.false
          (ap (λ (k : ℕ). ltb 0 (get_or c.args.marks.now k 0)) (sym p.0) ∙ sym c.is_on.ensures ∙ c.if-is_on.true)),
      p.1,
    )

pub returns : goal.returns
returns c =
    let outline : Points = points c.args.xs.now c.args.ys.now c.args.marks.now in
    let p = c.around_at-next.ensures in
    let q = c.around_at-i.ensures in (
      (λ z. Between (q.0 z) (p.0 z))
          ∙ sym (end-off ((round_of outline c.args.a (c.args.e - 1)).walk) c.args.a c.args.e c.args.from c.args.count c.requires.walk outline
          (around c.args.a c.args.e (c.args.from + c.args.j)) c.args.j
          c.requires.j_lt_count c.if-count-j-eq1.false
          (ap (λ (k : ℕ). ltb 0 (get_or c.args.marks.now k 0)) (sym p.0) ∙ sym c.is_on.ensures ∙ c.if-is_on.false)),
      (q.1, p.1),
    )
