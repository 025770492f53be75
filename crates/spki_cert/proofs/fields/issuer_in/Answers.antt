use Rattle.std.proofs.Common.{arith}
use Rattle.spki_cert.proofs.{HeadedLists.{none-some}, SubjectFaultNone.{issuer-none}}
use Rattle.spki_cert.proofs.fields.issuer_in.Goals as goal

pub returns-else-is_empty-clause-named : goal.returns-else-is_empty-clause-named
returns-else-is_empty-clause-named c = let fine = (issuer-none _).1 (_, _, c.in_ok-issuer.ensures.found) in grind (arith, none-some)
