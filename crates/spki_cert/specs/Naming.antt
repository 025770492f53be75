-- Which keys a principal names, and the algorithms by which keys may have to be digested (RFC 2693, section 2.5; the
-- digests are those of FIPS 180-4).
use Rattle.std.specs.{Prelude.{ℕ, Bool, true, false, ◌&&◌, List}, Str.{bytes_eq}}
use Rattle.sha1.specs.Sha1.{sha1}
use Rattle.sha2.specs.{Sha256.{sha256}, Sha512.{sha512}}
use Rattle.spki_cert.specs.declared.hash.HashAlg.{HashAlg, TheVariants.{Sha1, Sha256, Sha512}}
use Rattle.spki_cert.specs.declared.principal.{Policy.{Policy, TheVariants.{Open, Strict}}, Principal.{Principal, TheVariants.{Key, Hash}}}
use Rattle.spki_cert.specs.declared.algorithms.Algorithms.{Algorithms}

-- ---- which keys a principal names (RFC 2693, section 2.5; the digests are those of FIPS 180-4)

-- the digest of octets by an algorithm
abbrev pub digest_of : HashAlg → List ℕ → List ℕ
digest_of Sha1 octets = sha1 octets
digest_of Sha256 octets = sha256 octets
digest_of Sha512 octets = sha512 octets

-- whether a digest is that of the octets
abbrev pub is_digest : HashAlg → List ℕ → List ℕ → Bool
is_digest alg digest octets = bytes_eq (digest_of alg octets) digest

-- whether hashes of an algorithm may name keys under a policy; a strict policy admits no SHA-1 hash
abbrev pub admits : Policy → HashAlg → Bool
admits Open alg = true
admits Strict Sha1 = false
admits Strict Sha256 = true
admits Strict Sha512 = true

-- Whether a principal names the key with these canonical octets. It is that key, or it is a hash that the policy admits,
-- with the digest of the octets.
abbrev pub names : Policy → Principal → List ℕ → Bool
names policy (Key octets) key = bytes_eq octets key
names policy (Hash alg digest) key = admits policy alg && is_digest alg digest key

-- ---- the algorithms by which keys may have to be digested (RFC 2693, section 2.5)

-- whether an algorithm is among others
abbrev pub is_among : Algorithms → HashAlg → Bool
is_among algorithms Sha1 = algorithms.sha1
is_among algorithms Sha256 = algorithms.sha256
is_among algorithms Sha512 = algorithms.sha512

-- whether two algorithms are the same
abbrev pub is_same : HashAlg → HashAlg → Bool
is_same Sha1 Sha1 = true
is_same Sha1 Sha256 = false
is_same Sha1 Sha512 = false
is_same Sha256 Sha1 = false
is_same Sha256 Sha256 = true
is_same Sha256 Sha512 = false
is_same Sha512 Sha1 = false
is_same Sha512 Sha256 = false
is_same Sha512 Sha512 = true

-- whether a principal is a hash by the algorithm
abbrev pub is_hash_by : Principal → HashAlg → Bool
is_hash_by (Key octets) alg = false
is_hash_by (Hash own digest) alg = is_same own alg
