use Rattle.std.proofs.Common.{rules}
use Rattle.sexpr_core.proofs.TreeLaws.{verbatim_written, one_written}
use Rattle.sexpr_core.proofs.writer.append_verbatim.Goals as goal

pub returns-in-len1-clause-written : goal.returns-in-len1-clause-written
returns-in-len1-clause-written c = search (rules, one_written)

pub returns-clause-written : goal.returns-clause-written
returns-clause-written c = search (rules, verbatim_written)
