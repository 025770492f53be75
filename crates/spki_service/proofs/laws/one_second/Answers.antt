use Rattle.spki_service.proofs.DateSeconds.{second_back}
use Rattle.spki_service.proofs.laws.one_second.Goals as goal

pub returns : goal.returns
returns c = second_back
