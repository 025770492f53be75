use Rattle.spki_case.proofs.OneCase.{one-fault, one-rows_fault}
use Rattle.spki_case.proofs.laws.one_fault.Goals as goal

pub returns-clause-case : goal.returns-clause-case
returns-clause-case c = one-fault

pub returns-clause-rows : goal.returns-clause-rows
returns-clause-rows c = one-rows_fault
