use Rattle.std.{proofs.Common.{◌≢◌, Option, ℕ, List, ◌≡◌, Some, true, false, refl, ap}, specs.Prelude.{is_some}}
use Rattle.spki_cert.specs.{declared.fault.CertFaultKind.{CertFaultKind, TheVariants.{Memory}}, StructureFaults.{cert_fault}}
use Rattle.spki_cert.proofs.{HeadedLists.{carried}, SequenceFaultLaws.{cert-unheaded, cert-looked}, SequenceFaultNone.{cert-parts}}
use Rattle.spki_tag.specs.Tag as tags
use Rattle.spki_cert.proofs.certificate_reader.cert_of.Goals as goal

pub returns-in_default-clause-named : goal.returns-in_default-clause-named
returns-in_default-clause-named c = λ _. cert-unheaded c.args.node.now c.in_default.ensures

pub returns-in_err-issuer-clause-named : goal.returns-in_err-issuer-clause-named
returns-in_err-issuer-clause-named c =
    carried c.from_residual.result _ (λ (kind : CertFaultKind). kind ≢ Memory → cert_fault c.args.node.now ≡ Some kind) c.from_residual.ensures.1
    (λ known. cert-looked c.args.node.now _ _ _ c.in-Some.ensures (c.in_err-issuer.ensures.named known) refl)

pub returns-in-None-None-clause-named : goal.returns-in-None-None-clause-named
returns-in-None-None-clause-named c = λ _.
    cert-parts c.args.node.now c.in-Some.members c.in_ok-issuer.field-0 false false c.in_ok-issuer.field-0.propagate c.in-Some.ensures c.in_ok-issuer.ensures.found
    (ap (λ (x : Option (List ℕ)). is_some x) c.in-None-None.is-0) (ap (λ (x : Option tags.Tag). is_some x) c.in-None-None.is-1) refl

pub returns-then-propagate-clause-named : goal.returns-then-propagate-clause-named
returns-then-propagate-clause-named c = λ _.
    cert-parts c.args.node.now c.in-Some.members c.in_ok-issuer.field-0 true false true c.in-Some.ensures c.in_ok-issuer.ensures.found
    (ap (λ (x : Option (List ℕ)). is_some x) c.in-Some-None.is-0) (ap (λ (x : Option tags.Tag). is_some x) c.in-Some-None.is-1) c.if-propagate.true

pub returns-in-Some-Some-clause-named : goal.returns-in-Some-Some-clause-named
returns-in-Some-Some-clause-named c = λ _.
    cert-parts c.args.node.now c.in-Some.members c.in_ok-issuer.field-0 true true c.in_ok-issuer.field-0.propagate c.in-Some.ensures c.in_ok-issuer.ensures.found
    (ap (λ (x : Option (List ℕ)). is_some x) c.in-Some-Some.is-0) (ap (λ (x : Option tags.Tag). is_some x) c.in-Some-Some.is-1) refl
