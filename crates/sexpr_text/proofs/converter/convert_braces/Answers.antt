use Rattle.std.proofs.{Common.{rules}, lemmas.Result.{IfOk-weaker, IfErr-weaker, IfErr-at_err}}
use Rattle.sexpr_core.proofs.BraceLaws.{braced_limits}
use Rattle.sexpr_text.proofs.converter.convert_braces.Goals as goal

pub returns-in-Advanced-clause-read : goal.returns-in-Advanced-clause-read
returns-in-Advanced-clause-read c = search (rules, IfOk-weaker, braced_limits)

pub returns-in-Advanced-clause-only : goal.returns-in-Advanced-clause-only
returns-in-Advanced-clause-only c = search (rules, braced_limits)

pub returns-in-Advanced-clause-too_long : goal.returns-in-Advanced-clause-too_long
returns-in-Advanced-clause-too_long c = search (rules, braced_limits, IfErr-at_err)

pub returns-in-Advanced-clause-refused : goal.returns-in-Advanced-clause-refused
returns-in-Advanced-clause-refused c = search (rules, IfErr-weaker, braced_limits)
