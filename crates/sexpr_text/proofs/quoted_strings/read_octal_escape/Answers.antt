use Rattle.std.proofs.Common.{rules}
use Rattle.sexpr_text.proofs.{RefusedParts.{second_refused, third_refused}, StringEnds.{second_end, third_end}, StringLaws.{octal_escape}}
use Rattle.sexpr_core.proofs.Errors.{err_kept}
use Rattle.sexpr_text.proofs.quoted_strings.read_octal_escape.Goals as goal

pub returns-in_err-second-clause-refused : goal.returns-in_err-second-clause-refused
returns-in_err-second-clause-refused c = search (rules, err_kept, second_refused)

pub returns-in_err-second-clause-begun : goal.returns-in_err-second-clause-begun
returns-in_err-second-clause-begun c = search (rules, err_kept, second_end)

pub returns-clause-read : goal.returns-clause-read
returns-clause-read c = search (rules, octal_escape)

pub returns-in_err-third-clause-refused : goal.returns-in_err-third-clause-refused
returns-in_err-third-clause-refused c =
    err_kept _ _ _ c.from_residual-in_err-third.ensures.1
    (third_refused _ _ _ _ _ c.requires.low c.requires.begins c.in_ok-second.ensures.read.1 c.in_err-third.ensures.refused)

pub returns-in_err-third-clause-begun : goal.returns-in_err-third-clause-begun
returns-in_err-third-clause-begun c =
    err_kept _ _ _ c.from_residual-in_err-third.ensures.1
    (third_end _ _ _ _ _ c.requires.low c.in_ok-second.ensures.read.0 c.requires.begins c.in_ok-second.ensures.read.1 c.in_err-third.ensures.begun)
