use Rattle.spki_case.proofs.OneCase.{row-one}
use Rattle.spki_case.proofs.laws.one_row.Goals as goal

pub returns : goal.returns
returns c = row-one
