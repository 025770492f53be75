use Rattle.std.proofs.Common.{arith, rules}
use Rattle.sexpr_core.proofs.NodeLaws.{split}
use Rattle.sexpr_core.proofs.siblings.Members.split_first.Goals as goal

pub overflow_add-others : goal.overflow_add-others
overflow_add-others c =
    let s = split _ c.self.inside.from c.self.inside.to _ c.self.invariant c.if-self.false c.node_size-size.ensures.nodes in
    omega (arith, s.others.ordered, s.others.within, c.node_size-size.ensures.countable)

pub invariant_of-others : goal.invariant_of-others
invariant_of-others c =
    (split _ c.self.inside.from c.self.inside.to _ c.self.invariant c.if-self.false c.node_size-size.ensures.nodes).others

pub returns : goal.returns
returns c = search (rules, split)
