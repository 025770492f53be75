-- Which certificates of a sequence pass their tests, about which signatures a verifier is asked, and how the code represents
-- both (RFC 2693, section 6).
use Rattle.std.specs.Prelude.{◌≡◌, ℕ, List, ◌∷◌, ◌++◌, Option, Some, None, false, IsTrue, find, [], length, ◌&&◌, if◌then◌else◌, option_and_then, option_copied}
use Rattle.std.specs.List.{AllZip, AllByRecursion}
use Rattle.spki_cert.specs.declared.{principal.{Policy.{Policy}, Principal.{Principal}}, certificate.SeqItem.{SeqItem}, entry.Entry.{Entry}}
use Rattle.spki_cert.specs.Naming.{names, is_digest}
use Rattle.spki_reduce.specs.Reduction.{Tuple, five, four, auth_tuple, name_tuple}
use Rattle.spki_decision.specs.declared.evidence.Stop.{Stop, TheVariants.{KeyNotShown, DigestDiffers, SignerDiffers, NotAccepted}}
use Rattle.spki_decision.specs.declared.certificates.{Certificate.TheVariants.{Auth, Name}, ShownCert.{ShownCert}}
use Rattle.spki_case.specs.Case.{Verified, Certificate, auth, name, Shown, issuer_of, octets_of, keys_of, certificates, Case}
use Rattle.spki_cert.specs.declared.principal.Principal.TheVariants as principal
use Rattle.spki_cert.specs.declared.certificate.Signature as signature
use Rattle.spki_decision.specs.declared.certificates.Certificate as code
use Rattle.spki_decision.specs.declared.signed.Signed as examined

-- ---- which certificates of a sequence pass their tests, and their tuples (RFC 2693, section 6)

-- The key of an issuer. It is the key as written, or for a hash the first key of the sequence that it names, if there is
-- one.
abbrev pub issuer_key : Policy → List (List ℕ) → Principal → Option (List ℕ)
issuer_key policy keys (principal.Key octets) = Some octets
issuer_key policy keys (principal.Hash alg digest) = find (λ octets. names policy (principal.Hash alg digest) octets) keys

-- the tuple of a certificate, if this is its issuer's key
abbrev pub tuple_of : List ℕ → Certificate → Tuple
tuple_of holder (auth cert) = five (auth_tuple holder cert)
tuple_of holder (name cert) = four (name_tuple holder cert)

-- A certificate passes its tests, with these keys of the sequence, if four conditions hold. Its issuer has a key. The digest in
-- its signature is that of its octets. The signature's principal names the issuer's key. The verifier accepts this key,
-- the octets and the signature's value.
pub record PassesTests
    (policy : Policy) (keys : List (List ℕ)) (verified : Verified) (shown : Shown) (holder : List ℕ) : Type 0 where
  pub issued : issuer_key policy keys (issuer_of shown.certificate) ≡ Some holder
  pub signature : signature.Signature
  pub signed : shown.signature ≡ Some signature
  pub digest : IsTrue (is_digest signature.alg signature.digest (octets_of shown.certificate))
  pub signer : IsTrue (names policy signature.signer holder)
  pub accepted : verified holder (octets_of shown.certificate) signature.value

-- a certificate that passes its tests, and its tuple
pub record PassesTestsAs
    (policy : Policy) (keys : List (List ℕ)) (verified : Verified) (shown : Shown) (tuple : Tuple) : Type 0 where
  pub holder : List ℕ
  pub stands : PassesTests policy keys verified shown holder
  pub tuple_is : tuple ≡ tuple_of holder shown.certificate

-- Each certificate of the items passes its tests, and the tuples are theirs, in order.
abbrev pub AreShown : Policy → Verified → List SeqItem → List Tuple → Type 0
AreShown policy verified items tuples =
    AllZip (PassesTestsAs policy (keys_of items) verified) (certificates items) tuples

-- ---- which test fails

-- This is the first of the four tests that the certificate does not pass.
abbrev pub FailsBy : Policy → List (List ℕ) → Verified → Shown → Stop → Type 0
FailsBy policy keys verified shown KeyNotShown = issuer_key policy keys (issuer_of shown.certificate) ≡ None
FailsBy policy keys verified shown DigestDiffers =
    (holder : List ℕ) × (s : signature.Signature)
    × (issuer_key policy keys (issuer_of shown.certificate) ≡ Some holder) × (shown.signature ≡ Some s)
    × (is_digest s.alg s.digest (octets_of shown.certificate) ≡ false)
FailsBy policy keys verified shown SignerDiffers =
    (holder : List ℕ) × (s : signature.Signature)
    × (issuer_key policy keys (issuer_of shown.certificate) ≡ Some holder) × (shown.signature ≡ Some s)
    × IsTrue (is_digest s.alg s.digest (octets_of shown.certificate)) × (names policy s.signer holder ≡ false)
FailsBy policy keys verified shown NotAccepted =
    (holder : List ℕ) × (s : signature.Signature)
    × (issuer_key policy keys (issuer_of shown.certificate) ≡ Some holder) × (shown.signature ≡ Some s)
    × IsTrue (is_digest s.alg s.digest (octets_of shown.certificate)) × IsTrue (names policy s.signer holder)
    × ¬ verified holder (octets_of shown.certificate) s.value

-- Of some certificates those before this item pass their tests, and the certificate of this item fails by this test.
pub record FailsIn
    (policy : Policy) (keys : List (List ℕ)) (verified : Verified) (shown : List Shown) (item : ℕ) (stop : Stop) : Type 0 where
  pub before : List Shown
  pub failing : Shown
  pub after : List Shown
  pub parts : shown ≡ before ++ failing ∷ after
  pub standing : AllByRecursion (λ s. (holder : List ℕ) × PassesTests policy keys verified s holder) before
  pub index : item ≡ failing.item
  pub fails : FailsBy policy keys verified failing stop

-- `FailsIn` of the certificates of a sequence, with the keys that it shows
abbrev pub FailsAt : Policy → Verified → List SeqItem → ℕ → Stop → Type 0
FailsAt policy verified items item stop = FailsIn policy (keys_of items) verified (certificates items) item stop

-- ---- the signatures that a verifier is asked about

-- For a sequence they are those of the certificates that pass the other three tests, up to the first certificate that fails one of them
-- (RFC 2693, section 6).

-- A signature that a verifier is asked about. It has the number of the certificate's item, its issuer's key, the
-- certificate's canonical octets, and the canonical octets of the signature's value.
pub record Signed : Type 0 where
  pub item : ℕ
  pub key : List ℕ
  pub message : List ℕ
  pub value : List ℕ

-- the signature of a certificate with this issuer's key, if the digest is that of its octets and the signer names the key
abbrev pub asked_with : Policy → Shown → List ℕ → signature.Signature → Option Signed
asked_with policy shown holder s =
    if is_digest s.alg s.digest (octets_of shown.certificate) && names policy s.signer holder
    then Some (record { item = shown.item; key = holder; message = octets_of shown.certificate; value = s.value })
    else None

abbrev pub asked_of : Policy → List (List ℕ) → Shown → Option Signed
asked_of policy keys shown =
    option_and_then (λ holder. option_and_then (asked_with policy shown holder) shown.signature) (issuer_key policy keys (issuer_of shown.certificate))

-- an optional element before others; if it is None, no elements at all
abbrev pub before_all : {A : Type 0} → Option A → List A → List A
before_all None others = []
before_all (Some a) others = a ∷ others

abbrev pub asked_in : Policy → List (List ℕ) → List Shown → List Signed
asked_in policy keys [] = []
asked_in policy keys (shown ∷ others) = before_all (asked_of policy keys shown) (asked_in policy keys others)

-- the signatures that a verifier is asked about in a case, in order
abbrev pub asked : Case → List Signed
asked c = asked_in c.policy (keys_of c.items) (certificates c.items)

-- a verifier accepts this signature
abbrev pub IsAccepted : Verified → Signed → Type 0
IsAccepted verified s = verified s.key s.message s.value

-- Two verifiers agree on signatures.
abbrev pub AgreeOn : Verified → Verified → List Signed → Type 0
AgreeOn one other signatures = AllByRecursion (λ s. (IsAccepted one s → IsAccepted other s) × (IsAccepted other s → IsAccepted one s)) signatures

-- the statement of a verifier that accepts everything
abbrev pub every : Verified
every key message value = Unit {0}

-- This is the first of some signatures that is not accepted, if there is one; its index is counted from 0.
pub record RefusedAt (verified : Verified) (signatures : List Signed) (index : ℕ) : Type 0 where
  pub before : List Signed
  pub refused : Signed
  pub after : List Signed
  pub parts : signatures ≡ before ++ refused ∷ after
  pub index_is : index ≡ length before
  pub accepted : AllByRecursion (IsAccepted verified) before
  pub not_accepted : ¬ IsAccepted verified refused

abbrev pub IsFirstRefused : Verified → List Signed → Option ℕ → Type 0
IsFirstRefused verified signatures None = AllByRecursion (IsAccepted verified) signatures
IsFirstRefused verified signatures (Some index) = RefusedAt verified signatures index

-- ---- how the code represents certificates

abbrev pub certificate_of : code.Certificate → Certificate
certificate_of (Auth cert) = auth cert.now
certificate_of (Name cert) = name cert.now

abbrev pub shown_of : ShownCert → Shown
shown_of s = record { item = s.item; certificate = certificate_of s.certificate; signature = option_copied s.signature }

-- a case with these entries instead of its own
abbrev pub with_entries : Case → List Entry → Case
with_entries c es = record c { entries = es }

abbrev pub signed_of : examined.Signed → Signed
signed_of s = record { item = s.item; key = s.key; message = s.message; value = s.value }
