use Rattle.spki_service.proofs.ReplayedCases.{as_check}
use Rattle.spki_service.proofs.laws.as_check.Goals as goal

pub returns : goal.returns
returns c = as_check
