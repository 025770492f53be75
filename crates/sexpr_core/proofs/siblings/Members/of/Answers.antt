use Rattle.std.proofs.Common.{arith, rules}
use Rattle.sexpr_core.proofs.NodeLaws.{list_of}
use Rattle.sexpr_core.proofs.siblings.Members.of.Goals as goal

pub overflow_add-result-2 : goal.overflow_add-result-2
overflow_add-result-2 c =
    let l = list_of _ c.args.n _ c.requires.known c.requires.listed c.node_size-size.ensures.nodes in
    omega (arith, l.fits)

pub invariant_of-result : goal.invariant_of-result
invariant_of-result c =
    (list_of _ c.args.n _ c.requires.known c.requires.listed c.node_size-size.ensures.nodes).siblings_of

pub returns : goal.returns
returns c = search (rules, list_of)
