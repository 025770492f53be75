use Rattle.std.proofs.lemmas.Result.{err_from_is_err_and}
use Rattle.sexpr_text.proofs.reader.read_hinted.Goals as goal

pub returns-in_err-hint-clause-only : goal.returns-in_err-hint-clause-only
returns-in_err-hint-clause-only c =
    let p = err_from_is_err_and c.from_residual.result c.from_residual.ensures.1 in
    rw (p.1, p.2) c.in_err-hint.ensures.only
