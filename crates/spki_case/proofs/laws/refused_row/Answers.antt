use Rattle.spki_case.proofs.RowFaults.{rows-first}
use Rattle.spki_case.proofs.laws.refused_row.Goals as goal

pub returns : goal.returns
returns c = rows-first
