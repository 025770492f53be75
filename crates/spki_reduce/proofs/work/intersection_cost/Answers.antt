use Rattle.std.proofs.Common.{◌≡◌, ◌+◌, ◌*◌, ◌^◌, arith, length, ap, ◌∙◌}
use Rattle.spki_reduce.proofs.Costs.{costs_over, product_is, number_is}
use Rattle.spki_reduce.proofs.work.intersection_cost.Goals as goal

pub returns-in_default : goal.returns-in_default
returns-in_default c path = costs_over c.args.tag.now c.args.next.now path (2 ^ 64) (omega (arith, c.in_default.ensures))

pub returns-in_default-checked_add : goal.returns-in_default-checked_add
returns-in_default-checked_add c path =
    costs_over c.args.tag.now c.args.next.now path (2 ^ 64) (omega (arith, c.in_default-checked_add.ensures, c.in-Some.ensures))

pub returns-in_default-checked_mul : goal.returns-in_default-checked_mul
returns-in_default-checked_mul c path =
    let is = product_is c.args.tag.now c.args.next.now path c.in-Some-checked_add.each c.nodes.result
    (omega (arith, c.in-Some-checked_add.ensures, c.in-Some.ensures)) c.nodes.ensures.count in
    omega (arith, is, c.in_default-checked_mul.ensures)

pub returns : goal.returns
returns c path =
    let is = product_is c.args.tag.now c.args.next.now path c.in-Some-checked_add.each c.nodes.result
    (omega (arith, c.in-Some-checked_add.ensures, c.in-Some.ensures)) c.nodes.ensures.count in
    number_is c.checked_add-2.result (c.in-Some-checked_mul.product + c.len.result) _ c.checked_add-2.ensures
    (omega (arith, is, c.in-Some-checked_mul.ensures, c.len.ensures))
