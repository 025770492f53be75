use Rattle.std.{proofs.Common.{◌∙◌}, specs.Prelude.{codes}}
use Rattle.spki_cert.proofs.{HeadedLists.{same_others}, EntryFaultLaws.{unversioned}}
use Rattle.spki_cert.proofs.acl.entry_members.Goals as goal

pub returns-in_default-headed-2-clause-found : goal.returns-in_default-headed-2-clause-found
returns-in_default-headed-2-clause-found c =
    let same = same_others c.args.node.now (codes "acl") c.in-Some.all c.in-Some-headed.members c.in-Some.ensures c.in-Some-headed.ensures in
    let found = unversioned c.args.node.now c.in-Some-headed.members c.in-Some-split_first.first c.in-Some-split_first.others
    c.in-Some-headed.ensures c.in-Some-split_first.ensures c.in_default-headed-2.ensures in
    (found.0, found.1, found.2, same ∙ found.3)
