-- `path_lay::put::lay_step` meets its contract.
use Rattle.path_lay.proofs.Lays.{laid-is}
use Rattle.path_lay.proofs.put.lay_step.Goals as goal

pub returns : goal.returns
returns c = laid-is _ _ _ _ _ c.first_of-p.result c.second_of-q.result _ _ c.put_step.ensures c.kind_of-kind.ensures
    c.first_of-p.ensures c.second_of-q.ensures
