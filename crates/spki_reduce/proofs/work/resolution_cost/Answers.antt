use Rattle.std.proofs.Common.{◌≡◌, ◌+◌, ℕ, arith, length}
use Rattle.spki_reduce.proofs.Costs.{resolution_is, number_is}
use Rattle.spki_reduce.proofs.work.resolution_cost.Goals as goal

pub returns-in_default : goal.returns-in_default
returns-in_default c tag =
    omega (arith, resolution_is tag c.args.subject.now.names c.args.definition.now, c.in_default.ensures, c.len.ensures)

pub returns : goal.returns
returns c tag =
    number_is c.checked_add-2.result (c.in-Some.names + c.len-2.result) _ c.checked_add-2.ensures
    (omega (arith, resolution_is tag c.args.subject.now.names c.args.definition.now, c.in-Some.ensures, c.len.ensures, c.len-2.ensures))
