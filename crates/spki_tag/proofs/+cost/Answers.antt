use Rattle.std.proofs.{Common.{◌≡◌, ap, arith, rules, drop, List}, lemmas.List.{drop_all}}
use Rattle.spki_tag.{specs.{Tag.{Tag, tags}, Cost.{node_costs}}, proofs.Members.{nodes_le-of_read}}
use Rattle.spki_tag.proofs.+cost.Goals as goal

pub cost::costs_of-node_cost-requires : goal.cost::costs_of-node_cost-requires
cost::costs_of-node_cost-requires t c = search (rules, nodes_le-of_read)

pub cost::costs_of-returns : goal.cost::costs_of-returns
cost::costs_of-returns t c =
    let none_left = drop_all c.loop-member.member-index c.args.members.now c.loop-member-test.false in
    let none : node_costs (tags (drop c.loop-member.member-index c.args.members.now)) ≡ 0 = ap (λ (ts : List Tag). node_costs (tags ts)) none_left in
    let whole : c.loop-member.sum ≡ node_costs (tags c.args.members.now) = omega (arith, none, c.loop-member.invariant.0) in
    (omega (arith, whole, c.loop-member.invariant.1), whole)
