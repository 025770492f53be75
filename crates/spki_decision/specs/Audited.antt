-- What a grant says of each link of its chain: its own signature, its tag, its window and its delegation (RFC 2693, sections 6
-- and 6.3). What fewer entries, narrower tuples or another moment can change.
use Rattle.std.specs.{Prelude.{◌≡◌, ℕ, ◌<◌, true, IsTrue, List, Some, slice_get, take}, List.{AllZip}}
use Rattle.spki_tag.specs.{Tag.{contains, is_date}, Request.{Request, IsRequest}}
use Rattle.spki_cert.specs.{Naming.{names, is_digest}, Time.{within}}
use Rattle.spki_cert.specs.declared.{certificate.{AuthCert.{AuthCert}, NameCert.{NameCert}, SeqItem.{SeqItem}}, entry.Entry.{Entry}}
use Rattle.spki_reduce.specs.Reduction.{Tuple, five, four, key, FiveTuple, FourTuple, entry_tuple, in_each, within_each, windows_of}
use Rattle.spki_case.specs.Case.{Case, Verified, Certificate, auth, name, issuer_of, octets_of, keys_of, certificates, signature_in}
use Rattle.spki_decision.specs.{CertificateTests.{asked, issuer_key, AreShown}, Granted.{Supported}}
use Rattle.spki_cert.specs.declared.certificate.Signature as signature
use Rattle.spki_cert.specs.declared.certificate.SeqItem.TheVariants as items

-- ---- own signatures

-- a certificate as an item of a sequence
abbrev pub item_of : Certificate → SeqItem
item_of (auth cert) = items.Auth cert
item_of (name cert) = items.Name cert

-- The item with this number, from 1, is a certificate with its own signature (RFC 2693, section 6). The signature is the next item
-- behind it, except operations. The digest in it is that of the certificate's octets. The key is that of the certificate's issuer,
-- which names it, and the signature's signer names it too. The verifier accepts the value for this key and these octets. The
-- signature is listed among those that the verifier is asked about, at the index that the certificate has among the certificates.
pub record IsSignedByIssuer (c : Case) (verified : Verified) (number : ℕ) (certificate : Certificate) (behind : List SeqItem) : Type 0 where
  pub signature : signature.Signature
  pub follows : signature_in behind ≡ Some signature
  pub digest : IsTrue (is_digest signature.alg signature.digest (octets_of certificate))
  pub holder : List ℕ
  pub issued : issuer_key c.policy (keys_of c.items) (issuer_of certificate) ≡ Some holder
  pub issuer : IsTrue (names c.policy (issuer_of certificate) holder)
  pub signer : IsTrue (names c.policy signature.signer holder)
  pub accepted : verified holder (octets_of certificate) signature.value
  pub index : ℕ
  pub stands : slice_get (certificates c.items) index
      ≡ Some (record { item = number; certificate = certificate; signature = Some signature })
  pub listed : slice_get (asked c) index
      ≡ Some (record { item = number; key = holder; message = octets_of certificate; value = signature.value })

-- ---- no amplification

-- No tuple of a chain gives what it does not have (RFC 2693, section 6.3). The tag of the entry and those of each authorization contain
-- the request. The window of the entry and those of each tuple, also of a name's definition, contain the moment. The entry may be
-- delegated if there is an authorization, and an authorization may be if there is a later one.
pub record IsHeldThroughout (c : Case) (tuples : List Tuple) (e : Entry) : Type 0 where
  pub entry_tag : contains e.tag c.request ≡ true
  pub entry_window : within c.moment e.window ≡ true
  pub entry_delegates : (index : ℕ) (t : FiveTuple) → slice_get tuples index ≡ Some (five t) → e.propagate ≡ true
  pub tags : (index : ℕ) (t : FiveTuple) → slice_get tuples index ≡ Some (five t) → in_each c.request t.tags ≡ true
  pub windows : (index : ℕ) (t : Tuple) → slice_get tuples index ≡ Some t → within_each c.moment (windows_of t) ≡ true
  pub delegates : (index later : ℕ) (t u : FiveTuple) → index < later → slice_get tuples index ≡ Some (five t)
      → slice_get tuples later ≡ Some (five u) → t.delegation ≡ true

-- The same of an entry and of the certificates of a sequence: authorization certificates, and name certificates, which have no tag and
-- no delegation.
pub record IsHeldByAll (c : Case) (e : Entry) : Type 0 where
  pub entry_tag : contains e.tag c.request ≡ true
  pub entry_window : within c.moment e.window ≡ true
  pub entry_delegates : (index : ℕ) (cert : AuthCert) → slice_get c.items index ≡ Some (items.Auth cert) → e.propagate ≡ true
  pub tags : (index : ℕ) (cert : AuthCert) → slice_get c.items index ≡ Some (items.Auth cert) → contains cert.tag c.request ≡ true
  pub windows : (index : ℕ) (cert : AuthCert) → slice_get c.items index ≡ Some (items.Auth cert) → within c.moment cert.window ≡ true
  pub name_windows : (index : ℕ) (cert : NameCert) → slice_get c.items index ≡ Some (items.Name cert) → within c.moment cert.window ≡ true
  pub delegates : (index later : ℕ) (cert other : AuthCert) → index < later → slice_get c.items index ≡ Some (items.Auth cert)
      → slice_get c.items later ≡ Some (items.Auth other) → cert.propagate ≡ true

-- the same case, asked for another key
abbrev pub for_key : Case → List ℕ → Case
for_key c holder = record c { key = holder }

-- The issuer of each authorization has what it gives (RFC 2693, section 6.3): the entry and the tuples before the authorization support
-- the same request, at the same moment, for its issuer's key.
abbrev pub HaveIssuers : Case → List Tuple → Entry → Type 0
HaveIssuers c tuples e = (index : ℕ) (t : FiveTuple) → slice_get tuples index ≡ Some (five t)
    → (holder : List ℕ) × (t.issuer ≡ key holder) × Supported (for_key c holder) (take index tuples) e

-- ---- fewer entries

-- each of some entries is an entry of a list
abbrev pub AreAmong : List Entry → List Entry → Type 0
AreAmong some entries = (index : ℕ) (e : Entry) → slice_get some index ≡ Some e → (at : ℕ) × (slice_get entries at ≡ Some e)

-- ---- narrower tuples

-- An authorization is no wider than another (RFC 2693, section 6.3). Both have the same issuer and subject. It may be delegated only
-- if the other may be. All requests that its tags contain, the other's contain, and all moments that its windows contain, the
-- other's contain.
pub record IsNarrowerFive (narrow wide : FiveTuple) : Type 0 where
  pub issuer : narrow.issuer ≡ wide.issuer
  pub principal : narrow.principal ≡ wide.principal
  pub names : narrow.names ≡ wide.names
  pub delegation : narrow.delegation ≡ true → wide.delegation ≡ true
  pub requests : (request : Request) → IsRequest request → in_each request narrow.tags ≡ true → in_each request wide.tags ≡ true
  pub moments : (moment : List ℕ) → is_date moment ≡ true → within_each moment narrow.windows ≡ true → within_each moment wide.windows ≡ true

-- A definition is no wider than another (RFC 2693, section 6.4): it defines the same name as the same subject, and all moments that
-- its windows contain, the other's contain.
pub record IsNarrowerFour (narrow wide : FourTuple) : Type 0 where
  pub key : narrow.key ≡ wide.key
  pub name : narrow.name ≡ wide.name
  pub principal : narrow.principal ≡ wide.principal
  pub names : narrow.names ≡ wide.names
  pub moments : (moment : List ℕ) → is_date moment ≡ true → within_each moment narrow.windows ≡ true → within_each moment wide.windows ≡ true

abbrev pub IsNarrower : Tuple → Tuple → Type 0
IsNarrower (five narrow) (five wide) = IsNarrowerFive narrow wide
IsNarrower (four narrow) (four wide) = IsNarrowerFour narrow wide
IsNarrower _ _ = ⊥

-- an entry, as an authorization, is no wider than another
abbrev pub IsNarrowerEntry : Entry → Entry → Type 0
IsNarrowerEntry narrow wide = IsNarrowerFive (entry_tuple narrow) (entry_tuple wide)

-- A case asks what another asks, under its policy. Its entries are no wider, one by one. If each of its certificates passes its tests, each of the
-- other's does, and the tuples are no wider, one by one.
pub record IsNarrowerCase (verified : Verified) (narrow wide : Case) : Type 0 where
  pub key : narrow.key ≡ wide.key
  pub request : narrow.request ≡ wide.request
  pub moment : narrow.moment ≡ wide.moment
  pub policy : narrow.policy ≡ wide.policy
  pub entries : AllZip IsNarrowerEntry narrow.entries wide.entries
  pub certificates : (tuples : List Tuple) → AreShown narrow.policy verified narrow.items tuples
      → (others : List Tuple) × AreShown wide.policy verified wide.items others × AllZip IsNarrower tuples others

-- ---- another moment

-- the same case at another moment
abbrev pub at_moment : Case → List ℕ → Case
at_moment c moment = record c { moment = moment }

-- The window of each certificate of a sequence, also of a name certificate, contains the moment.
pub record AreTimely (moment : List ℕ) (sequence : List SeqItem) : Type 0 where
  pub windows : (index : ℕ) (cert : AuthCert) → slice_get sequence index ≡ Some (items.Auth cert) → within moment cert.window ≡ true
  pub name_windows : (index : ℕ) (cert : NameCert) → slice_get sequence index ≡ Some (items.Name cert) → within moment cert.window ≡ true
