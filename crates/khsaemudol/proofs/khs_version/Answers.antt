-- `khsaemudol::khs_version` meets its contract.
use Rattle.std.proofs.Common.{refl}
use Rattle.khsaemudol.specs.Version.{version}
use Rattle.khsaemudol.proofs.khs_version.Goals as goal

pub returns : goal.returns
unfolding version
returns c = refl
