use Rattle.std.proofs.{Common.{◌∙◌}, lemmas.Result.{IfErr-weaker}}
use Rattle.spki_cert.proofs.FieldFaultLaws.{version-faultless, cert-issuer_field, cert-subject_field, cert-version_field, cert-common}
use Rattle.spki_cert.proofs.FieldFaultNone.{issuers-none, subjects-none}
use Rattle.spki_cert.proofs.fields.read_certificate_field.Goals as goal

pub returns-in-Some-clause-faultless : goal.returns-in-Some-clause-faultless
returns-in-Some-clause-faultless c =
    cert-issuer_field c.args.field.now _ c.in-Some.ensures ∙ (issuers-none _).1 ((c.in_ok-issuer_in.field-0.principal, c.in_ok-issuer_in.field-0.name), c.in_ok-issuer_in.ensures.found)

pub returns-in-Some-headed-clause-faultless : goal.returns-in-Some-headed-clause-faultless
returns-in-Some-headed-clause-faultless c =
    cert-subject_field c.args.field.now _ c.in-Some-headed.ensures ∙ (subjects-none _).1 ((c.in_ok-subject_in.field-0.principal, c.in_ok-subject_in.field-0.names), c.in_ok-subject_in.ensures.found)

pub returns-in-Some-headed-2-clause-faultless : goal.returns-in-Some-headed-2-clause-faultless
returns-in-Some-headed-2-clause-faultless c = cert-version_field c.args.field.now _ c.in-Some-headed-2.ensures ∙ version-faultless _ c.in_ok-check_version.ensures.found

pub returns-clause-named : goal.returns-clause-named
returns-clause-named c =
    IfErr-weaker c.read_common_field.result _ _
    (λ kind named known. cert-common c.args.field.now _ c.in_default.ensures c.in_default-headed.ensures c.in_default-headed-2.ensures c.if-is_unread.ensures (named known))
    c.read_common_field.ensures.named
