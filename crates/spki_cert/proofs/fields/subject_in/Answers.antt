use Rattle.std.proofs.Common.{arith}
use Rattle.spki_cert.proofs.{HeadedLists.{none-some}, SubjectFaultNone.{subject-none}}
use Rattle.spki_cert.proofs.fields.subject_in.Goals as goal

pub returns-clause-named : goal.returns-clause-named
returns-clause-named c = let fine = (subject-none c.in-Some.value).1 (_, _, c.in_ok-who.ensures.found) in λ _. grind (arith, none-some)
