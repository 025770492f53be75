use Rattle.spki_cert.proofs.Costs.{entry_ge, sequence_ge}
use Rattle.spki_cert.proofs.laws.weights.Goals as goal

pub returns-clause-entry : goal.returns-clause-entry
returns-clause-entry c = entry_ge

pub returns-clause-sequence : goal.returns-clause-sequence
returns-clause-sequence c = sequence_ge
