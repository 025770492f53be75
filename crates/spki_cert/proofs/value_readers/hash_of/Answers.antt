use Rattle.std.proofs.Common.{◌≡◌, ◌∷◌, Some, refl}
use Rattle.sexpr_core.specs.Value.{plain}
use Rattle.spki_cert.specs.{Readings.{alg_name}, declared.fault.CertFaultKind.{CertFaultKind}, FieldFaults.{hash_fault}}
use Rattle.spki_cert.proofs.{HeadedLists.{carried}, SubjectFaultLaws.{hash-digest, uris-are, others-are}}
use Rattle.spki_cert.proofs.value_readers.hash_of.Goals as goal

pub returns-in_default-clause-refused : goal.returns-in_default-clause-refused
returns-in_default-clause-refused c =
    λ alg digest read. c.in_default.ensures (plain (alg_name alg) ∷ read.octets ∷ read.further) read.written

pub returns-in_err-digest-clause-named : goal.returns-in_err-digest-clause-named
returns-in_err-digest-clause-named c =
    carried c.from_residual-in_err-digest.result _ (λ (kind : CertFaultKind). hash_fault c.args.node.now ≡ Some kind) c.from_residual-in_err-digest.ensures.1
    (hash-digest c.args.node.now _ _ _ _ _ c.in_ok-alg.alg _ _ c.in-Some.ensures c.in-Some-split_first.ensures c.in_ok-alg.ensures.named
    c.in-Some-split_first-2.ensures c.in_err-digest.ensures.named refl)

pub returns-then-ends_in_uris-clause-faultless : goal.returns-then-ends_in_uris-clause-faultless
returns-then-ends_in_uris-clause-faultless c =
    hash-digest c.args.node.now _ _ _ _ _ c.in_ok-alg.alg _ _ c.in-Some.ensures c.in-Some-split_first.ensures c.in_ok-alg.ensures.named
    c.in-Some-split_first-2.ensures c.in_ok-digest.ensures.faultless (uris-are _ c.if-ends_in_uris.ensures)

pub returns-else-ends_in_uris-clause-named : goal.returns-else-ends_in_uris-clause-named
returns-else-ends_in_uris-clause-named c =
    hash-digest c.args.node.now _ _ _ _ _ c.in_ok-alg.alg _ _ c.in-Some.ensures c.in-Some-split_first.ensures c.in_ok-alg.ensures.named
    c.in-Some-split_first-2.ensures c.in_ok-digest.ensures.faultless (others-are _ c.if-ends_in_uris.ensures)
