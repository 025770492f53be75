use Rattle.std.proofs.Common.{◌++◌, sym, subst}
use Rattle.spki_reduce.specs.{declared.tuple.Step.{Step}, Reduction.{windows_of, step_tuple}}
use Rattle.spki_decision.specs.Until.{IsLeastEnd}
use Rattle.spki_decision.proofs.chain_requirement.end_with.Goals as goal

pub returns-in-Auth : goal.returns-in-Auth
returns-in-Auth c windows least =
    subst (λ (s : Step). IsLeastEnd (windows ++ windows_of (step_tuple s)) c.earlier_end.result) (sym c.in-Auth.is)
    (c.earlier_end.ensures windows least)

pub returns-in-Name : goal.returns-in-Name
returns-in-Name c windows least =
    subst (λ (s : Step). IsLeastEnd (windows ++ windows_of (step_tuple s)) c.earlier_end-in-Name.result) (sym c.in-Name.is)
    (c.earlier_end-in-Name.ensures windows least)
