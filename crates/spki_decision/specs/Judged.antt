-- The results of `judge` and of its steps: the key of an issuer, the tests of a certificate, and the evidence of a
-- sequence.
use Rattle.std.specs.{Prelude.{List, map, ◌≡◌, ℕ, [], ◌∷◌, Option, Some, None, Bool, true, false, ◌<◌, slice_get, Vec, find}, Fn.{Shared}}
use Rattle.std.specs.{BTreeMap.{BTreeMap}, declared.alloc.Global.{Global}}
use Rattle.spki_cert.specs.declared.principal.{Policy.{Policy}, Principal.{Principal}}
use Rattle.spki_cert.specs.declared.{certificate.SeqItem.{SeqItem, TheVariants.{DoHash, Auth, Name, Signature}}, hash.HashAlg.{HashAlg}}
use Rattle.spki_cert.specs.Naming.{is_digest}
use Rattle.spki_reduce.specs.Reduction.{step_tuple}
use Rattle.spki_decision.specs.declared.evidence.Evidence.{Evidence}
use Rattle.spki_decision.specs.declared.examination.{Unverified.{Unverified}, Tested.{Tested, TheVariants.{Passes, Fails}}}
use Rattle.spki_decision.specs.CertificateTests.{AreShown, FailsAt, signed_of, Signed, every, PassesTests, FailsBy}
use Rattle.spki_case.specs.{Case.{Verified, Certificate, auth, name, Shown, octets_of, signature_in}, Lookups.{at_digest}}
use Rattle.spki_decision.specs.declared.evidence.Evidence.TheVariants as evidence
use Rattle.spki_decision.specs.declared.examination.Unverified.TheVariants as unverified
use Rattle.spki_cert.specs.declared.certificate.Signature as signature
use denote.Ref.{Bor}

-- ---- the evidence of a sequence

-- Either each certificate passes its tests, and these are their tuples, in order. Or this is the first that fails a test, with the
-- first test that it does not pass.
abbrev pub IsEvidence : Policy → Verified → List SeqItem → Evidence → Type 0
IsEvidence policy verified items (evidence.Verified steps) = AreShown policy verified items (map step_tuple steps.items)
IsEvidence policy verified items (evidence.Fails item stop) = FailsAt policy verified items item stop

-- the evidence of a sequence whose signatures are not verified: as if a verifier accepted all of them
abbrev pub IsUnverified : Policy → List SeqItem → Unverified → Type 0
IsUnverified policy items (unverified.Passes steps) = AreShown policy every items (map step_tuple steps.items)
IsUnverified policy items (unverified.Fails item stop) = FailsAt policy every items item stop

-- ---- the results of the steps of `judge`

-- the item is this certificate
abbrev pub IsItem : SeqItem → Certificate → Type 0
IsItem item (auth cert) = item ≡ Auth cert
IsItem item (name cert) = item ≡ Name cert

-- the item is no certificate
abbrev pub IsOther : SeqItem → Type 0
IsOther (Auth cert) = ⊥
IsOther (Name cert) = ⊥
IsOther _ = Unit {0}

-- whether an item is an operation, (do ..)
abbrev pub is_operation : SeqItem → Bool
is_operation (DoHash alg) = true
is_operation _ = false

-- the signature of an item
abbrev pub as_signature : SeqItem → Option signature.Signature
as_signature (Signature s) = Some s
as_signature _ = None

-- the certificate of an item, if it is one
abbrev pub certificate_at : ℕ → SeqItem → List SeqItem → List Shown
certificate_at n (Auth cert) behind = record { item = n; certificate = auth cert; signature = signature_in behind } ∷ []
certificate_at n (Name cert) behind = record { item = n; certificate = name cert; signature = signature_in behind } ∷ []
certificate_at n _ behind = []

-- The certificate passes the first three tests, and this is what a verifier is asked about it.
pub record PassesAs (policy : Policy) (keys : List (List ℕ)) (shown : Shown) (signed : Signed) : Type 0 where
  pub stands : PassesTests policy keys every shown signed.key
  pub signed_is : signed
      ≡ record { item = shown.item; key = signed.key; message = octets_of shown.certificate; value = stands.signature.value }

-- the result of the first three tests of a certificate
abbrev pub IsTested : Policy → List (List ℕ) → Shown → Tested → Type 0
IsTested policy keys shown (Passes signed) = PassesAs policy keys shown (signed_of signed)
IsTested policy keys shown (Fails stop) = FailsBy policy keys every shown stop

-- ---- the first key that a principal names, according to calls of a closure

-- some call of the closure `names`, for a principal and a key, may return this answer
pub record Says
    {F : Type 0} (g : Shared F (Bor Principal × (Bor (List ℕ) × Unit {0})) Bool) (names : F) (p : Principal) (key : List ℕ) (answer : Bool)
    : Type 0 where
  pub principal : Bor Principal
  pub other : Bor (List ℕ)
  pub shows : (principal.now ≡ p) × (other.now ≡ key)
  pub says : g.post names (principal, (other, tt)) answer

-- the closure returns false for the principal and each key
abbrev pub NamesNone : {F : Type 0} → Shared F (Bor Principal × (Bor (List ℕ) × Unit {0})) Bool → F → Principal → List (List ℕ) → Type 0
NamesNone g names p keys = (k : ℕ) (key : List ℕ) → slice_get keys k ≡ Some key → Says g names p key false

-- the closure returns true for the principal and the key at this index, and false for each key before it
pub record IsFirstNamed
    {F : Type 0} (g : Shared F (Bor Principal × (Bor (List ℕ) × Unit {0})) Bool) (names : F) (p : Principal) (keys : List (List ℕ)) (index : ℕ)
    : Type 0 where
  pub key : List ℕ
  pub stands : slice_get keys index ≡ Some key
  pub named : Says g names p key true
  pub before : (k : ℕ) (other : List ℕ) → k < index → slice_get keys k ≡ Some other → Says g names p other false

-- ---- the keys of a sequence, by their digests

-- each digest has the first of the keys with this digest of the algorithm, if there is one
abbrev pub HasFirstKeys : HashAlg → List (List ℕ) → BTreeMap (Vec ℕ Global) (List ℕ) → Type 0
HasFirstKeys alg keys m = (digest : List ℕ) → at_digest m digest ≡ find (λ octets. is_digest alg digest octets) keys
