use Rattle.std.proofs.Common.{rules, arith}
use Rattle.sexpr_core.proofs.NodeLaws.{split}
use Rattle.sexpr_core.proofs.siblings.MembersIterator.next.Goals as goal

pub overflow_add-self : goal.overflow_add-self
overflow_add-self c =
    let s = split _ c.self.inside.from c.self.inside.to _ c.self.invariant c.if-self.false c.node_size-size.ensures.nodes in
    omega (arith, s.others.ordered, s.others.within, c.node_size-size.ensures.countable)

pub invariant_of-self : goal.invariant_of-self
invariant_of-self c =
    (split _ c.self.inside.from c.self.inside.to _ c.self.invariant c.if-self.false c.node_size-size.ensures.nodes).others

pub returns-clause-steps : goal.returns-clause-steps
returns-clause-steps c = search (rules, split)

pub returns-clause-goes : goal.returns-clause-goes
returns-clause-goes c = search (rules, split)
