use Rattle.std.proofs.Common.{rules}
use Rattle.sexpr_core.proofs.RecordLaws.{table_of, table_value-is}
use Rattle.sexpr_core.proofs.document.Doc.open.Goals as goal

pub invariant_of-result : goal.invariant_of-result
invariant_of-result c = search (rules, table_of)

pub returns-clause-read : goal.returns-clause-read
returns-clause-read c = search (rules, table_value-is)
