-- `weak_contour::iup::behind_is_first` meets its contract.
use Rattle.signed.proofs.Signed.{is}
use Rattle.weak_contour.proofs.iup.behind_is_first.Goals as goal

pub returns : goal.returns
returns c = rw (is c.ranges.v1, is c.ranges.v2)
