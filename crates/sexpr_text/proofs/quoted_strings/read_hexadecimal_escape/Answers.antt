use Rattle.std.proofs.Common.{rules}
use Rattle.sexpr_text.proofs.{Marked.{hexadecimal_piece}, StringLaws.{second_octet, hexadecimal_escape}, StringEnds.{high_end, low_end}}
use Rattle.sexpr_text.proofs.RefusedParts.{low_refused}
use Rattle.sexpr_core.proofs.Errors.{err_kept}
use Rattle.sexpr_text.proofs.quoted_strings.read_hexadecimal_escape.Goals as goal

pub returns-in_err-high-clause-only : goal.returns-in_err-high-clause-only
returns-in_err-high-clause-only c = λ piece rest h e.
    err_kept _ _ _ c.from_residual.ensures.1 (let k = hexadecimal_piece piece rest _ h e in c.in_err-high.ensures.only k.0 k.2 _ k.5 k.4)

pub returns-in_err-low-clause-only : goal.returns-in_err-low-clause-only
returns-in_err-low-clause-only c = λ piece rest h e.
    let k = hexadecimal_piece piece rest _ h e in
    err_kept _ _ _ c.from_residual-in_err-low.ensures.1
    (c.in_err-low.ensures.only k.1 k.3 _ k.6 (second_octet _ _ _ _ _ c.in_ok-high.ensures.read.stands k.4))

pub returns-in_err-high-clause-begun : goal.returns-in_err-high-clause-begun
returns-in_err-high-clause-begun c = err_kept _ _ _ c.from_residual.ensures.1 (high_end _ _ _ c.in_err-high.ensures.begun)

pub returns-clause-read : goal.returns-clause-read
returns-clause-read c = search (rules, hexadecimal_escape)

pub returns-in_err-low-clause-refused : goal.returns-in_err-low-clause-refused
returns-in_err-low-clause-refused c = search (rules, low_refused)

pub returns-in_err-low-clause-begun : goal.returns-in_err-low-clause-begun
returns-in_err-low-clause-begun c = search (rules, low_end)
