use Rattle.std.proofs.Common.{rules}
use Rattle.spki_cert.proofs.{EntryFaultLaws.{acl-read, acl-entries}, EntryFaultNone.{outer-well}}
use Rattle.spki_cert.proofs.acl.acl_of.Goals as goal

pub returns-in-Ok-clause-acl : goal.returns-in-Ok-clause-acl
returns-in-Ok-clause-acl c = search (rules, acl-read)

pub returns-in-Ok-clause-named : goal.returns-in-Ok-clause-named
returns-in-Ok-clause-named c = search (rules, acl-entries, outer-well)

pub returns-in-Ok-clause-faultless : goal.returns-in-Ok-clause-faultless
returns-in-Ok-clause-faultless c = search (rules, acl-entries, outer-well)
