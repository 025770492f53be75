use Rattle.spki_case.proofs.RowFaults.{row-none, rows-none, case-none}
use Rattle.spki_case.proofs.laws.no_case_fault.Goals as goal

pub returns-clause-row : goal.returns-clause-row
returns-clause-row c = row-none

pub returns-clause-rows : goal.returns-clause-rows
returns-clause-rows c = rows-none

pub returns-clause-parts : goal.returns-clause-parts
returns-clause-parts c = case-none
