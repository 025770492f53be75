use Rattle.std.proofs.Common.{sym, ◌∙◌}
use Rattle.spki_decision.proofs.Until.{least_endless, least_here, least_before}
use Rattle.spki_decision.proofs.chain_requirement.earlier_end.Goals as goal

pub returns-in-None : goal.returns-in-None
returns-in-None c windows least = least_endless windows c.args.window.now c.in-None.is c.args.limit.now least

pub returns-then-holds : goal.returns-then-holds
returns-then-holds c windows least =
    least_here windows c.args.window.now c.in-Some.end c.in-Some.is c.args.limit.now least (sym c.holds.ensures ∙ c.if-holds.true)

pub returns-else-holds : goal.returns-else-holds
returns-else-holds c windows least =
    least_before windows c.args.window.now c.in-Some.end c.in-Some.is c.args.limit.now least (sym c.holds.ensures ∙ c.if-holds.false)
