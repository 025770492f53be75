use Rattle.std.proofs.{Common.{rules}, lemmas.Result.{IfOk-weaker}}
use Rattle.spki_cert.proofs.{EntryFaultLaws.{acl-read, acl-entries}, EntryFaultNone.{outer-well}}
use Rattle.spki_cert.proofs.acl.acl_principals.Goals as goal

pub returns-in-Ok-clause-acl : goal.returns-in-Ok-clause-acl
returns-in-Ok-clause-acl c =
    let (all, written, well, behind) = c.in-Ok.ensures.found in
    IfOk-weaker c.principals_in.result _ _ (λ ps read. (read.0, acl-read _ all _ read.0 written well behind read.1, read.2))
    c.principals_in.ensures.entries

pub returns-in-Ok-clause-named : goal.returns-in-Ok-clause-named
returns-in-Ok-clause-named c = search (rules, acl-entries, outer-well)

pub returns-in-Ok-clause-faultless : goal.returns-in-Ok-clause-faultless
returns-in-Ok-clause-faultless c = search (rules, acl-entries, outer-well)
