use Rattle.std.proofs.Common.{rules}
use Rattle.spki_cert.proofs.{EntryFaultLaws.{subject-relative}, SubjectFaultNone.{subject-none}}
use Rattle.spki_cert.proofs.acl.entry_subject.Goals as goal

pub returns-clause-named : goal.returns-clause-named
returns-clause-named c = search (rules, subject-relative, subject-none)
