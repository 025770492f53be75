use Rattle.sexpr_text.proofs.OneValue.{one_value}
use Rattle.sexpr_text.proofs.laws.one_value.Goals as goal

pub returns : goal.returns
returns c = one_value
