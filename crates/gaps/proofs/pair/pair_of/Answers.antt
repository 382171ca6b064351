-- `gaps::pair::pair_of` meets its contract.
use Rattle.std.specs.Prelude.{Some}
use Rattle.gaps.proofs.Widths.{wider, width_fits, width_is}
use Rattle.gaps.proofs.pair.pair_of.Goals as goal

pub overflow_sub-result : goal.overflow_sub-result
overflow_sub-result c = let h = c.requires in width_fits (wider h.1.opos) (wider h.0.opos)

pub overflow_sub-result-2 : goal.overflow_sub-result-2
overflow_sub-result-2 c = let h = c.requires in width_fits h.1.pos h.0.pos

pub returns : goal.returns
returns c = let h = c.requires in
    λ k. record {
      first = Some c.args.i;
      second = Some c.args.j;
      before = width_is (wider h.1.opos) (wider h.0.opos) k;
      after = width_is h.1.pos h.0.pos k;
    }
