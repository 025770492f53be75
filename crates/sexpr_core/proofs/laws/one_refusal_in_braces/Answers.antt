use Rattle.sexpr_core.proofs.BraceRefusals.{one_brace_refusal, no_brace_refusal}
use Rattle.sexpr_core.proofs.laws.one_refusal_in_braces.Goals as goal

pub returns-clause-none : goal.returns-clause-none
returns-clause-none c = no_brace_refusal

pub returns-clause-one : goal.returns-clause-one
returns-clause-one c = one_brace_refusal
