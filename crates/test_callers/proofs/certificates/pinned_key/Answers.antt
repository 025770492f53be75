use Rattle.std.proofs.lemmas.Result.{err_from_is_err_and}
use Rattle.test_callers.proofs.certificates.pinned_key.Goals as goal

pub returns-in_err-key-clause-refused : goal.returns-in_err-key-clause-refused
returns-in_err-key-clause-refused c =
    let p = err_from_is_err_and c.from_residual.result c.from_residual.ensures.1 in
    rw p.1 (rw c.top.ensures at c.in_err-key.ensures.refused)
