use Rattle.std.proofs.lemmas.Result.{err_from_is_err_and}
use Rattle.sexpr_text.proofs.converter.convert_string.Goals as goal

pub returns-in_err-string-clause-only : goal.returns-in_err-string-clause-only
returns-in_err-string-clause-only c =
    let p = err_from_is_err_and c.from_residual-in_err-string.result c.from_residual-in_err-string.ensures.1 in
    rw (p.1, p.2) c.in_err-string.ensures.only
