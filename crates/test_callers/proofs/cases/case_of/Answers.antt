use Rattle.std.proofs.lemmas.Result.{err_from_is_err_and}
use Rattle.spki_case.proofs.Signed.{signed}
use Rattle.test_callers.proofs.cases.case_of.Goals as goal

pub returns-in_err-sequence-clause-named : goal.returns-in_err-sequence-clause-named
returns-in_err-sequence-clause-named c =
    let p = err_from_is_err_and c.from_residual.result c.from_residual.ensures.1 in
    rw (p.1, p.2) c.in_err-sequence.ensures.named

-- in what is read as a sequence each certificate is followed by its signature
pub invariant_of-result-clause-signed : goal.invariant_of-result-clause-signed
invariant_of-result-clause-signed c = signed c.args.shown.now c.in_ok-sequence.sequence.items c.in_ok-sequence.ensures.sequence
