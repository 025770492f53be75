use Rattle.std.proofs.Common.{◌≡◌, ◌∙◌, sym}
use Rattle.spki_case.{proofs.Lookups.{accepts_found}, specs.{Case.{accepts}, View.{rows_of}}}
use Rattle.spki_case.proofs.verifier.some_accepts.Goals as goal

pub returns : goal.returns
returns c = λ message e.
    let table = c.args.table.now in
    let same : c.is_ok.result ≡ accepts (rows_of table) c.args.key.now message c.args.value.now =
    c.is_ok.ensures.value
    ∙ rw c.as_slice.ensures at (accepts_found message table.rows.items c.deref.result.now (c.args.digest, c.args.value, c.as_slice.result) c.binary_search.result e
    (rw c.deref.ensures.value table.found) c.binary_search.ensures.bound c.binary_search.ensures.position) in
    (λ h. sym same ∙ h, λ h. same ∙ h)
