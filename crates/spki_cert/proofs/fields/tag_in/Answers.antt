use Rattle.spki_cert.specs.{declared.fault.CertFaultKind.TheVariants.{Shape}, FieldFaults.{kind_of_tag}}
use Rattle.spki_cert.proofs.{HeadedLists.{sole-found}, FieldFaultLaws.{tag-named}}
use Rattle.spki_cert.proofs.fields.tag_in.Goals as goal

pub returns-in-Err-clause-named : goal.returns-in-Err-clause-named
returns-in-Err-clause-named c = λ known.
    sole-found Shape kind_of_tag c.args.members c.in-Some.more c.in-Some.value _ c.in-Some.ensures
    (tag-named c.in-Err.fault c.from_tag_fault.result c.in-Some.value c.from_tag_fault.ensures c.in-Err.ensures.named known)
