use Rattle.spki_case.proofs.OneCase.{case-one, text-one}
use Rattle.spki_case.proofs.laws.one_case.Goals as goal

pub returns-clause-value : goal.returns-clause-value
returns-clause-value c = case-one

pub returns-clause-text : goal.returns-clause-text
returns-clause-text c = text-one
