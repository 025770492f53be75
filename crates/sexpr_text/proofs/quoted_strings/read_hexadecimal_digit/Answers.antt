use Rattle.std.proofs.Common.{sym}
use Rattle.sexpr_text.proofs.RefusedParts.{digit_refused}
use Rattle.sexpr_text.proofs.quoted_strings.read_hexadecimal_digit.Goals as goal

pub returns-in-None-clause-refused : goal.returns-in-None-clause-refused
returns-in-None-clause-refused c = digit_refused _ _ _ c.in-Some.ensures (sym c.in-None.ensures)
