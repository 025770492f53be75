use Rattle.std.proofs.Common.{rules}
use Rattle.sexpr_text.proofs.{Marked.{digits_refused, hexadecimal_read}, RefusedParts.{body_refused, mark_refused}}
use Rattle.sexpr_text.proofs.hexadecimal_strings.read_hexadecimal.Goals as goal

pub returns-clause-only : goal.returns-clause-only
returns-clause-only c = λ s a rest h e.
    digits_refused _ _ _ _ s a rest _ _ c.requires c.in_ok-digits.ensures.read.0 c.in_ok-digits.ensures.read.1 h e
    (rw c.as_slice.ensures.value at c.in-Err.ensures.err) c.digits_fault.ensures.fault

pub returns-in-Ok-clause-read : goal.returns-in-Ok-clause-read
returns-in-Ok-clause-read c = search (rules, hexadecimal_read)

pub returns-in_err-digits-clause-refused : goal.returns-in_err-digits-clause-refused
returns-in_err-digits-clause-refused c = search (rules, body_refused)

pub returns-clause-refused : goal.returns-clause-refused
returns-clause-refused c = search (rules, mark_refused)
