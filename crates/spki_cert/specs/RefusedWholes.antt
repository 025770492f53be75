-- What is wrong with an access list or a sequence that is refused: with its outer list, or with which of its members (RFC 2693,
-- sections 3.3, 3.4 and 6). The forms are those of the SPKI working group's structure draft.
use Rattle.std.specs.{Prelude.{◌≡◌, ◌≢◌, ◌+◌, ◌⊎◌, true, false, List, [], ◌∷◌, ◌++◌, length, Some, codes}, List.{AllZip, AllByRecursion}}
use Rattle.sexpr_core.specs.Value.{Value, plain, group}
use Rattle.spki_cert.specs.declared.certificate.SeqItem.{SeqItem}
use Rattle.spki_cert.specs.declared.fault.{CertFault.{CertFault}, CertFaultKind.TheVariants.{Shape, UnsignedCert, StraySignature}}
use Rattle.spki_cert.specs.{Fields.{is_headed, behind_head, version_field}, FieldFaults.{sole_fault, version_fault}}
use Rattle.spki_cert.specs.Structures.{EntryOf, IsVersion, ItemOf, AreInPlace, IsInPlace, waits_after}
use Rattle.spki_cert.specs.StructureFaults.{IsRefusedAt, entry_fault, item_fault}

-- ---- access lists

-- The value is a list with the head acl, and after a version, if there is one, entries up to this one. It is the first that cannot be
-- read, its number is that of the fault, and the kind of the fault is its own.
pub record HasRefusedEntry (v : Value) (fault : CertFault) : Type 0 where
  pub version : List Value
  pub entries : List Value
  pub version_is : IsVersion version
  pub written : v ≡ group (plain (codes "acl") ∷ (version ++ entries))
  pub entry : Value
  pub refused : IsRefusedAt EntryOf entries fault.item entry
  pub reason : entry_fault entry ≡ Some fault.kind

-- The value is a list with the head acl, whose first member is headed version and is not (version 0). The kind of the fault is that
-- of the members after this head.
pub record HasOtherVersion (v : Value) (fault : CertFault) : Type 0 where
  pub first : Value
  pub others : List Value
  pub written : v ≡ group (plain (codes "acl") ∷ first ∷ others)
  pub is_version : is_headed (codes "version") first ≡ true
  pub is_other : first ≢ version_field
  pub reason : sole_fault Shape version_fault (behind_head first) ≡ Some fault.kind

-- The value is no list with the head acl, and the fault is Shape. Or it is one with another version.
abbrev pub IsNoListOfEntries : Value → CertFault → Type 0
IsNoListOfEntries v fault = ((is_headed (codes "acl") v ≡ false) × (fault.kind ≡ Shape)) ⊎ HasOtherVersion v fault

-- ---- sequences

-- values that are items, each in its place, and then others
pub record BeginsWith (values front others : List Value) : Type 0 where
  pub parts : values ≡ front ++ others
  pub items : List SeqItem
  pub readings : AllZip ItemOf front items
  pub in_place : AreInPlace false front

-- The value with the number of the fault is in its place, and is no item. The kind of the fault is its own.
pub record HasRefusedItem (values : List Value) (fault : CertFault) : Type 0 where
  pub front : List Value
  pub refused : Value
  pub behind : List Value
  pub begins : BeginsWith values front (refused ∷ behind)
  pub index : fault.item ≡ length front + 1
  pub in_place : IsInPlace (waits_after false front) refused
  pub reason : item_fault refused ≡ Some fault.kind
  pub none : (item : SeqItem) → ItemOf refused item → ⊥

-- The value with the number of the fault is headed signature, and no certificate before it is without its signature.
pub record HasStraySignature (values : List Value) (fault : CertFault) : Type 0 where
  pub kind : fault.kind ≡ StraySignature
  pub front : List Value
  pub stray : Value
  pub behind : List Value
  pub begins : BeginsWith values front (stray ∷ behind)
  pub index : fault.item ≡ length front + 1
  pub signed : waits_after false front ≡ false
  pub is_signature : is_headed (codes "signature") stray ≡ true

-- the first value, if there is one, is neither a signature nor an operation
abbrev pub GoesOn : List Value → Type 0
GoesOn [] = Unit {0}
GoesOn (v ∷ vs) = (is_headed (codes "signature") v ≡ false) × (is_headed (codes "do") v ≡ false)

-- The item with the number of the fault is a certificate. Operations follow it, and no signature follows them.
pub record HasUnsignedCertificate (values : List Value) (fault : CertFault) : Type 0 where
  pub kind : fault.kind ≡ UnsignedCert
  pub front : List Value
  pub certificate : Value
  pub operations : List Value
  pub behind : List Value
  pub begins : BeginsWith values (front ++ certificate ∷ operations) behind
  pub index : fault.item ≡ length front + 1
  pub is_certificate : is_headed (codes "cert") certificate ≡ true
  pub are_operations : AllByRecursion (λ v. is_headed (codes "do") v ≡ true) operations
  pub goes_on : GoesOn behind

-- The value is a list with the head sequence, and one of these is wrong with its items. They are counted from 1.
pub record HasWrongItem (v : Value) (fault : CertFault) : Type 0 where
  pub values : List Value
  pub written : v ≡ group (plain (codes "sequence") ∷ values)
  pub wrong : HasRefusedItem values fault ⊎ HasStraySignature values fault ⊎ HasUnsignedCertificate values fault
