use Rattle.spki_case.proofs.RowFaults.{lacks_row}
use Rattle.spki_case.proofs.table.AcceptedTable.of.Goals as goal

pub returns-in-Err-clause-refused : goal.returns-in-Err-clause-refused
returns-in-Err-clause-refused c = lacks_row _ _ _ _ c.in-Some.ensures c.fault_of_row.ensures c.in-Err.ensures.named
