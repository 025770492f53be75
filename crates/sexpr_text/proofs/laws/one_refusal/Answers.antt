use Rattle.sexpr_text.proofs.OneRefusal as laws
use Rattle.sexpr_text.proofs.laws.one_refusal.Goals as goal

pub returns-clause-none : goal.returns-clause-none
returns-clause-none c = laws.no_refusal

pub returns-clause-one : goal.returns-clause-one
returns-clause-one c = laws.one_refusal
