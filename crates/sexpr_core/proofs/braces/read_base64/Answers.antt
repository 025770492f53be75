use Rattle.std.proofs.Common.{sym, subst, rules}
use Rattle.sexpr_core.specs.Reading.{IsBase64}
use Rattle.sexpr_core.proofs.{BraceLaws.{body_octets, body_not_packed, packed_refused}, Spans.{same_body, unpacked_end}, Errors.{err_kept}}
use Rattle.sexpr_core.proofs.braces.read_base64.Goals as goal

pub returns-in_err-symbols-clause-only : goal.returns-in_err-symbols-clause-only
returns-in_err-symbols-clause-only c = λ body rest octets b e.
    err_kept _ _ _ c.from_residual.ensures.1 (c.in_err-symbols.ensures.only body rest (body_octets body octets b) e)

pub returns-in_err-octets-clause-only : goal.returns-in_err-octets-clause-only
returns-in_err-octets-clause-only c = λ body rest octets b e.
    let same = same_body _ _ _ _ _ body rest c.in_ok-symbols.ensures.read c.requires.apart (body_octets body octets b) e in
    err_kept _ _ _ c.from_residual-in_err-octets.ensures.1 (c.in_err-octets.ensures.only octets (subst (λ s. IsBase64 s octets) (sym same.0) b))

pub returns-in_err-symbols-clause-refused : goal.returns-in_err-symbols-clause-refused
returns-in_err-symbols-clause-refused c = err_kept _ _ _ c.from_residual.ensures.1 (body_not_packed _ _ _ _ c.in_err-symbols.ensures.refused)

pub returns-in_err-octets-clause-refused : goal.returns-in_err-octets-clause-refused
returns-in_err-octets-clause-refused c =
    err_kept _ _ _ c.from_residual-in_err-octets.ensures.1
    (packed_refused _ _ _ _ _ _ c.in_ok-symbols.ensures.read c.requires.apart c.in_err-octets.ensures.refused c.in_err-octets.ensures.only)

pub returns-in_err-octets-clause-begun : goal.returns-in_err-octets-clause-begun
returns-in_err-octets-clause-begun c = search (rules, err_kept, unpacked_end)
