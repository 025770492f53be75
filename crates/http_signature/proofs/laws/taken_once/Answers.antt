use Rattle.http_signature.proofs.OnceTaken.{taken_once}
use Rattle.http_signature.proofs.laws.taken_once.Goals as goal

pub returns : goal.returns
returns c = taken_once
