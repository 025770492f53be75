use Rattle.spki_case.proofs.OneCase.{one_list}
use Rattle.spki_case.proofs.laws.one_list.Goals as goal

pub returns : goal.returns
returns c = one_list
