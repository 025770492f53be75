use Rattle.spki_case.proofs.OneCase.{case_unrefused, rows_unrefused}
use Rattle.spki_case.proofs.laws.no_refusal.Goals as goal

pub returns-clause-case : goal.returns-clause-case
returns-clause-case c = case_unrefused

pub returns-clause-rows : goal.returns-clause-rows
returns-clause-rows c = rows_unrefused
