use Rattle.std.proofs.Common.{rules}
use Rattle.sexpr_core.{specs.Nodes.{members-values}, proofs.NodeLaws.{no_count}}
use Rattle.sexpr_core.proofs.handle.Node.part_count.Goals as goal

pub returns-in_err-members : goal.returns-in_err-members
returns-in_err-members c = search (rules, no_count)

pub returns : goal.returns
returns c = search (rules, members-values)
