use Rattle.spki_cert.specs.Fields.{display, issuer_info, subject_info}
use Rattle.spki_cert.proofs.fields.is_unread.Goals as goal

pub returns-in-Some : goal.returns-in-Some
returns-in-Some c = display c.in-Some.field-0 c.in-Some.ensures

pub returns-in-Some-headed : goal.returns-in-Some-headed
returns-in-Some-headed c = issuer_info c.in-Some-headed.field-0 c.in-Some-headed.ensures

pub returns-in-Some-headed-2 : goal.returns-in-Some-headed-2
returns-in-Some-headed-2 c = subject_info c.in-Some-headed-2.field-0 c.in-Some-headed-2.ensures
