-- The keys, hashes and dates of values. The forms are those of the SPKI working group's structure draft.
use Rattle.std.specs.Prelude.{◌≡◌, ℕ, List, [], ◌∷◌, length, true, codes}
use Rattle.sexpr_core.specs.Value.{Value, plain, group, canon}
use Rattle.spki_cert.specs.declared.hash.HashAlg.{HashAlg, TheVariants.{Sha1, Sha256, Sha512}}
use Rattle.spki_tag.specs.Tag.{is_date}

-- (alg part ..)
abbrev pub IsAlgorithm : Value → Type 0
IsAlgorithm v = (alg : List ℕ) × (parts : List Value) × (v ≡ group (plain alg ∷ parts))

-- (public-key (alg part ..)); the octets are its canonical form (RFC 2693, section 2.5)
pub record KeyOf (v : Value) (octets : List ℕ) : Type 0 where
  pub body : Value
  pub algorithm : IsAlgorithm body
  pub written : v ≡ group (plain (codes "public-key") ∷ body ∷ [])
  pub canonical : octets ≡ canon v

-- the octets of some key
abbrev pub IsKey : List ℕ → Type 0
IsKey octets = (v : Value) × KeyOf v octets

-- the name of an algorithm
abbrev pub alg_name : HashAlg → List ℕ
alg_name Sha1 = codes "sha1"
alg_name Sha256 = codes "sha256"
alg_name Sha512 = codes "sha512"

-- the number of octets of a digest
abbrev pub digest_len : HashAlg → ℕ
digest_len Sha1 = 20
digest_len Sha256 = 32
digest_len Sha512 = 64

-- nothing, or (uri x ..), which is ignored
abbrev pub AreUris : List Value → Type 0
AreUris [] = Unit {0}
AreUris (v ∷ []) = (uris : List Value) × (v ≡ group (plain (codes "uri") ∷ uris))
AreUris (v ∷ w ∷ vs) = ⊥

-- the octets of a digest
pub record DigestOf (v : Value) (alg : HashAlg) (digest : List ℕ) : Type 0 where
  pub written : v ≡ plain digest
  pub sized : length digest ≡ digest_len alg

-- (hash alg digest), or with (uri x ..) after it (RFC 2693, section 2.5)
pub record HashOf (v : Value) (alg : HashAlg) (digest : List ℕ) : Type 0 where
  pub octets : Value
  pub further : List Value
  pub written : v ≡ group (plain (codes "hash") ∷ plain (alg_name alg) ∷ octets ∷ further)
  pub digest_is : DigestOf octets alg digest
  pub uris : AreUris further

-- a string without a display hint that is a date
pub record DateOf (v : Value) (octets : List ℕ) : Type 0 where
  pub written : v ≡ plain octets
  pub date : is_date octets ≡ true

-- ---- values that are none of these

-- the value is not a key
abbrev pub IsNoKey : Value → Type 0
IsNoKey v = (octets : List ℕ) → KeyOf v octets → ⊥

-- the value is not a hash
abbrev pub IsNoHash : Value → Type 0
IsNoHash v = (alg : HashAlg) (digest : List ℕ) → HashOf v alg digest → ⊥

-- the value is not a date
abbrev pub IsNoDate : Value → Type 0
IsNoDate v = (octets : List ℕ) → DateOf v octets → ⊥
