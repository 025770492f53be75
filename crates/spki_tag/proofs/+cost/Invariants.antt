use Rattle.std.proofs.Common.{◌≡◌, ◌+◌, ◌*◌, ◌^◌, ◌<◌, drop}
use Rattle.spki_tag.specs.{Tag.{tags, nodes, nodes_all}, Cost.{node_costs}}
use Rattle.spki_tag.proofs.+cost.Given as goal

abbrev pub invariant-cost::costs_of-loop-member : goal.invariant-cost::costs_of-loop-member
invariant-cost::costs_of-loop-member l =
    (l.sum + node_costs (tags (drop l.member-index l.members)) ≡ node_costs (tags l.members)) × (l.sum < 2 ^ 64)

abbrev pub decreases-tag::Tag::node_cost : goal.decreases-tag::Tag::node_cost
decreases-tag::Tag::node_cost l = 2 * nodes l.self.now

abbrev pub decreases-cost::costs_of : goal.decreases-cost::costs_of
decreases-cost::costs_of l = 2 * nodes_all (tags l.members.now) + 1
