-- `stems::cjk::cjk_plan` meets its contract.
use mathlib.Core.Path.{◌≡◌}
use lib.IntN.{ℤ}
use mir.Syntax.{w32}
use Rattle.signed.proofs.Signed.{is, got}
use Rattle.place.proofs.Reach.{reach-read}
use Rattle.stems_cjk.specs.declared.stem.Stem.{Stem}
use Rattle.stems_cjk.specs.Cjk.{stem_of}
use Rattle.stems_cjk.proofs.Moves.{stem-pos-range, stem-width-range, stem-delta-range, passed-read, move_read}
use Rattle.stems.specs.Visit.{delta_after}
use Rattle.stems.specs.Plan.{cjk_plan}
use borrow.Author.Rules.{rules}
use Rattle.stems.proofs.cjk.cjk_plan.Goals as goal

pub returns-then-is_before : goal.returns-then-is_before
unfolding cjk_plan
returns-then-is_before c = rw c.if-is_before.true (rw (reach-read _ c.requires.in_reach.0.pos, passed-read _ c.requires.in_reach.2) at c.linked_plan.ensures)

pub stem_plan-requires : goal.stem_plan-requires
stem_plan-requires c =
    let stem-is : c.stem_of-stem.result ≡ (let m = c.args.mode in stem_of m.dim m.stem_adjust m.rule c.args.standards.now c.args.edge c.args.edge2 c.args.trail.delta) = rw (passed-read _ c.requires.in_reach.2) at c.stem_of-stem.ensures in
    record {
      in_reach = (c.requires.in_reach.0, c.requires.in_reach.1);
      between = rw stem-is
          (stem-pos-range _ _ _ _ _ _ _ c.requires.in_reach.0 c.requires.in_reach.1 c.requires.in_reach.2, stem-width-range _ _ _ _ _ _ _ c.requires.in_reach.0 c.requires.in_reach.1);
    }

pub returns : goal.returns
unfolding cjk_plan
returns c =
    let stem_here : Stem = let m = c.args.mode in stem_of m.dim m.stem_adjust m.rule c.args.standards.now c.args.edge c.args.edge2 c.args.trail.delta in
    let stem-is : c.stem_of-stem.result ≡ stem_here = rw (passed-read _ c.requires.in_reach.2) at c.stem_of-stem.ensures in
    let delta-is : c.delta_after-delta.result ≡ (delta_after c.args.mode.dim c.args.anchor c.args.trail.delta stem_here.delta) = let a = c.args in
    let move = stem-delta-range a.mode.dim a.mode.stem_adjust a.mode.rule a.standards.now a.edge a.edge2 a.trail.delta in
    rw (stem-is, passed-read _ c.requires.in_reach.2, move_read _ move) at c.delta_after-delta.ensures in
    rw c.if-is_before.false (rw (stem-is, is (got w32 c.delta_after-delta.result c.delta_after-delta.type_inv), delta-is) at c.stem_plan.ensures)
