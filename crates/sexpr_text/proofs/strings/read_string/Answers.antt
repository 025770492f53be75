use Rattle.std.proofs.Common.{sym, arith}
use Rattle.sexpr_text.proofs.{CountedLaws.{nothing_stands, uncounted_stands, marked_string}, StringEnds.{nothing_left}, StringLaws.{quoted_marked}}
use Rattle.sexpr_text.proofs.{MarkedEnds.{none_string, uncounted_end}, RefusedParts.{uncounted_missed}}
use Rattle.sexpr_core.proofs.Errors.{err_kept}
use Rattle.sexpr_text.proofs.strings.read_string.Goals as goal

pub returns-in_default-clause-only : goal.returns-in_default-clause-only
returns-in_default-clause-only c = λ a rest s. absurd (nothing_stands _ _ a rest s c.in_default.ensures)

pub returns-in_err-read-clause-only : goal.returns-in_err-read-clause-only
returns-in_err-read-clause-only c = λ a rest s.
    let k = uncounted_stands _ _ _ a rest c.in-Some.ensures (λ d. omega (arith, c.if-is_ascii_digit.ensures.cases)) (sym c.if-is_token_octet.ensures) s in
    err_kept _ _ _ c.from_residual.ensures.1 (c.in_err-read.ensures.only k.0 a rest k.1 k.2)

pub returns-in_default-clause-begun : goal.returns-in_default-clause-begun
returns-in_default-clause-begun c = nothing_left _ _ _ none_string c.requires.begins c.in_default.ensures

pub returns-in_err-read-clause-begun : goal.returns-in_err-read-clause-begun
returns-in_err-read-clause-begun c =
    err_kept _ _ _ c.from_residual.ensures.1
    (uncounted_end _ _ _ _ c.in-Some.ensures (λ d. omega (arith, c.if-is_ascii_digit.ensures.cases)) c.in_err-read.ensures.begun)

pub returns-clause-read : goal.returns-clause-read
returns-clause-read c = marked_string _ _ _ _ c.in_ok-read.ensures.read

pub returns-in-Some-lend_quoted-clause-read : goal.returns-in-Some-lend_quoted-clause-read
returns-in-Some-lend_quoted-clause-read c = marked_string _ _ _ _ (quoted_marked _ _ _ _ c.in-Some-lend_quoted.ensures)

pub returns-in_err-read-clause-refused : goal.returns-in_err-read-clause-refused
returns-in_err-read-clause-refused c =
    err_kept _ _ _ c.from_residual.ensures.1
    (uncounted_missed _ _ _ _ c.in-Some.ensures (λ d. omega (arith, c.if-is_ascii_digit.ensures.cases)) (sym c.if-is_token_octet.ensures) c.in_err-read.ensures.refused)
