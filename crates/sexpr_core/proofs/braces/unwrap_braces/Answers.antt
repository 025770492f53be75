use Rattle.std.proofs.{Common.{rules}, lemmas.Result.{err_from_is_err_and}}
use Rattle.sexpr_core.proofs.BraceLaws.{braced_limits}
use Rattle.sexpr_core.proofs.braces.unwrap_braces.Goals as goal

pub returns-in_err-tree-clause-only : goal.returns-in_err-tree-clause-only
returns-in_err-tree-clause-only c = search (rules, err_from_is_err_and, braced_limits)

pub returns-in_err-tree-clause-too_long : goal.returns-in_err-tree-clause-too_long
returns-in_err-tree-clause-too_long c = search (rules, err_from_is_err_and, braced_limits)

pub returns-in_err-tree-clause-refused : goal.returns-in_err-tree-clause-refused
returns-in_err-tree-clause-refused c = search (rules, err_from_is_err_and, braced_limits)
