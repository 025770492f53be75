use Rattle.sexpr_text.proofs.{Marked.{hexadecimal_octets, kept_refused, kept_end}, RefusedParts.{octet_refused}}
use Rattle.sexpr_core.proofs.Errors.{err_kept}
use Rattle.sexpr_text.proofs.hexadecimal_strings.gather_digits.Goals as goal

pub returns-in_err-keep_digit-clause-only : goal.returns-in_err-keep_digit-clause-only
returns-in_err-keep_digit-clause-only c = λ body octets rest d e.
    err_kept _ _ _ c.from_residual.ensures.1
    (kept_refused _ _ _ _ _ body rest _ c.loop-octet.invariant c.in-Some.ensures c.if-octet-eq35.false (hexadecimal_octets body octets d) e
    c.in_err-keep_digit.ensures.refused)

pub returns-clause-only : goal.returns-clause-only
returns-clause-only c = λ body octets rest d e.
    absurd (kept_end _ _ _ _ body rest c.loop-octet.invariant c.in_default.ensures (hexadecimal_octets body octets d) e)

pub returns-in_err-keep_digit-clause-refused : goal.returns-in_err-keep_digit-clause-refused
returns-in_err-keep_digit-clause-refused c =
    err_kept _ _ _ c.from_residual.ensures.1
    (octet_refused _ _ _ _ _ _ c.loop-octet.invariant c.in-Some.ensures c.if-octet-eq35.false c.in_err-keep_digit.ensures.refused)
