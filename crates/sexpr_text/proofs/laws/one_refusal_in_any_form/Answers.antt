use Rattle.sexpr_text.proofs.OneRefusal.{one_of_any, none_of_any}
use Rattle.sexpr_text.proofs.laws.one_refusal_in_any_form.Goals as goal

pub returns-clause-none : goal.returns-clause-none
returns-clause-none c = none_of_any

pub returns-clause-one : goal.returns-clause-one
returns-clause-one c = one_of_any
