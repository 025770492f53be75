-- The lemmas by which the laws are proved.
use Rattle.spki_cert.proofs.OneReading.{key-one, hash-one, date-one}
use Rattle.spki_cert.proofs.SubjectFaultNone.{key-none, hash-none, date-none, principal-none, subject-none, entry_subject-none, issuer-none}
use Rattle.spki_cert.proofs.FieldFaultNone.{limits-none, entry_fields-none, cert_fields-none}
use Rattle.spki_cert.proofs.EntryFaultNone.{entry-none, acl-none, entries-refused}
use Rattle.spki_cert.proofs.SequenceFaultNone.{signature-none, do-none, cert-none, item-none, sequence-none}

pub ruleset laws = (key-one, hash-one, date-one, key-none, hash-none, date-none, principal-none, subject-none, entry_subject-none, issuer-none, limits-none, entry_fields-none, cert_fields-none, entry-none, acl-none, entries-refused, signature-none, do-none, cert-none, item-none, sequence-none)
