-- The entries, access lists, certificates, signatures and sequences of values (RFC 2693, sections 3.3, 3.4 and 6.2).
-- The forms are those of the SPKI working group's structure draft.
use Rattle.std.specs.{Prelude.{◌≡◌, true, List, [], ◌∷◌, ◌++◌, codes, ℕ, Option, Some, None, false, Bool, ◌⊎◌, if◌then◌else◌}, List.{AllZip}}
use Rattle.sexpr_core.specs.Value.{Value, plain, group, canon}
use Rattle.spki_cert.specs.declared.{entry.{Entry.{Entry}, Subject.{Subject}}, hash.HashAlg.{HashAlg}, principal.Principal.{Principal}}
use Rattle.spki_cert.specs.declared.certificate.{AuthCert.{AuthCert}, NameCert.{NameCert}, Signature.{Signature}, SeqItem.{SeqItem}}
use Rattle.spki_cert.specs.Fields.{SubjectOf, is_headed, version_field, IsField, AreFields, propagates, TagOf, WindowOf, PrincipalOf, IssuedTo, Sole, Given, IsAbsent, IsCertField, IssuerIn}
use Rattle.spki_cert.specs.Readings.{HashOf, alg_name, KeyOf}
use Rattle.spki_cert.specs.declared.certificate.SeqItem.TheVariants as items

-- ---- entries and access lists (RFC 2693, section 3.4)

-- (entry subject field ..)
pub record EntryOf (v : Value) (e : Entry) : Type 0 where
  pub subject : Value
  pub fields : List Value
  pub written : v ≡ group (plain (codes "entry") ∷ subject ∷ fields)
  pub subject_is : SubjectOf subject e.subject
  pub are_fields : AreFields IsField fields
  pub propagates_is : e.propagate ≡ propagates fields
  pub tag_is : TagOf fields e.tag
  pub window_is : WindowOf fields e.window

-- nothing, or (version 0)
abbrev pub IsVersion : List Value → Type 0
IsVersion [] = Unit {0}
IsVersion (v ∷ []) = v ≡ version_field
IsVersion (v ∷ w ∷ vs) = ⊥

-- (acl version? entry ..)
pub record AclOf (v : Value) (es : List Entry) : Type 0 where
  pub version : List Value
  pub entries : List Value
  pub version_is : IsVersion version
  pub written : v ≡ group (plain (codes "acl") ∷ (version ++ entries))
  pub each : AllZip EntryOf entries es

-- the first value, if there is one, is not headed version, or it is (version 0)
abbrev pub BeginsWell : List Value → Type 0
BeginsWell [] = Unit {0}
BeginsWell (v ∷ vs) = is_headed (codes "version") v ≡ true → v ≡ version_field

-- ---- certificates and signatures (RFC 2693, sections 3.3 and 6.2)

-- the issuer in the fields, with the one name of a name certificate
abbrev pub IssuedBy : List Value → Principal → Option (List ℕ) → Type 0
IssuedBy fields principal name = Given (codes "issuer") IssuerIn fields (Some (principal, name))

-- the subject in the fields, if this is the issuer's principal
abbrev pub IssuedFor : List Value → Principal → Subject → Type 0
IssuedFor fields issuer s = Given (codes "subject") (Sole (IssuedTo issuer)) fields (Some s)

-- (cert field ..) with a principal as the issuer; the certificate has its canonical octets
pub record AuthCertOf (v : Value) (c : AuthCert) : Type 0 where
  pub fields : List Value
  pub written : v ≡ group (plain (codes "cert") ∷ fields)
  pub are_fields : AreFields IsCertField fields
  pub issuer_is : IssuedBy fields c.issuer None
  pub subject_is : IssuedFor fields c.issuer c.subject
  pub propagates_is : c.propagate ≡ propagates fields
  pub tag_is : TagOf fields c.tag
  pub window_is : WindowOf fields c.window
  pub octets_are : c.octets ≡ canon v

-- (cert field ..) with (name principal n) as the issuer; neither propagate nor a tag is among the fields
pub record NameCertOf (v : Value) (c : NameCert) : Type 0 where
  pub fields : List Value
  pub written : v ≡ group (plain (codes "cert") ∷ fields)
  pub are_fields : AreFields IsCertField fields
  pub issuer_is : IssuedBy fields c.issuer (Some c.name)
  pub subject_is : IssuedFor fields c.issuer c.subject
  pub no_propagate : propagates fields ≡ false
  pub no_tag : IsAbsent (codes "tag") fields
  pub window_is : WindowOf fields c.window
  pub octets_are : c.octets ≡ canon v

-- (signature hash principal value); the value is any value
pub record SignatureOf (v : Value) (s : Signature) : Type 0 where
  pub digest : Value
  pub signer : Value
  pub value : Value
  pub written : v ≡ group (plain (codes "signature") ∷ digest ∷ signer ∷ value ∷ [])
  pub digest_is : HashOf digest s.alg s.digest
  pub signer_is : PrincipalOf signer s.signer
  pub value_is : s.value ≡ canon value

-- (do hash alg)
abbrev pub DoHashOf : Value → HashAlg → Type 0
DoHashOf v alg = v ≡ group (plain (codes "do") ∷ plain (codes "hash") ∷ plain (alg_name alg) ∷ [])

-- ---- the items of a sequence, and their order

-- an item: a key, (do hash alg), a certificate or a signature
abbrev pub ItemOf : Value → SeqItem → Type 0
ItemOf v (items.Key octets) = KeyOf v octets
ItemOf v (items.DoHash alg) = DoHashOf v alg
ItemOf v (items.Auth c) = AuthCertOf v c
ItemOf v (items.Name c) = NameCertOf v c
ItemOf v (items.Signature s) = SignatureOf v s

-- ---- order

-- whether a certificate is without its signature after this item, if one was before it, or none was
abbrev pub waits_behind : Bool → Value → Bool
waits_behind waits v = if is_headed (codes "cert") v then true else if is_headed (codes "signature") v then false else waits

-- the same after several items
abbrev pub waits_after : Bool → List Value → Bool
waits_after waits [] = waits
waits_after waits (v ∷ vs) = waits_after (waits_behind waits v) vs

-- A do or a signature follows a certificate without its signature. No signature follows otherwise.
abbrev pub IsInPlace : Bool → Value → Type 0
IsInPlace true v = (is_headed (codes "do") v ≡ true) ⊎ (is_headed (codes "signature") v ≡ true)
IsInPlace false v = is_headed (codes "signature") v ≡ false

-- each of the items is in its place
abbrev pub AreInPlace : Bool → List Value → Type 0
AreInPlace waits [] = Unit {0}
AreInPlace waits (v ∷ vs) = IsInPlace waits v × AreInPlace (waits_behind waits v) vs

-- (sequence item ..), where each certificate is followed by its signature, with only do items between. Item number k, from
-- 1, is the k-th of the items.
pub record SeqOf (v : Value) (is : List SeqItem) : Type 0 where
  pub values : List Value
  pub written : v ≡ group (plain (codes "sequence") ∷ values)
  pub each : AllZip ItemOf values is
  pub in_place : AreInPlace false values
  pub all_signed : waits_after false values ≡ false
