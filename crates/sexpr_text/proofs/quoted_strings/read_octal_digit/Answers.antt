use Rattle.std.proofs.Common.{arith}
use Rattle.sexpr_text.proofs.quoted_strings.read_octal_digit.Goals.{then-octet-lt48-via-then-octet-lt48, then-octet-lt48-via-else-octet-lt48+then-octet-gt55}
use Rattle.sexpr_text.proofs.RefusedParts.{octal_refused}
use Rattle.sexpr_text.proofs.quoted_strings.read_octal_digit.Goals as goal

pub returns-then-octet-lt48-clause-refused : goal.returns-then-octet-lt48-clause-refused
returns-then-octet-lt48-clause-refused c = octal_refused _ _ _ c.in-Some.ensures (elim c.then-octet-lt48.branch [
  | then-octet-lt48-via-then-octet-lt48 w ↦ λ low. omega (arith, w.if-octet-lt48.true)
  | then-octet-lt48-via-else-octet-lt48+then-octet-gt55 w ↦ λ low. w.if-octet-gt55.true
])
