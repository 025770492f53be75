-- Keys, hashes, dates, principals, subjects and issuers, step by step as they are read: the fault of each, and which values
-- are none.
use Rattle.std.proofs.Common.{◌≡◌, ◌≢◌, ℕ, List, [], ◌∷◌, length, drop, arith, Bool, true, false, Option, Some, None, refl, ap, ◌∙◌, rules, ◌++◌, inl, inr}
use Rattle.std.proofs.lemmas.{Bool.{false_from_ne_true}, Slice.Eq.{bytes_eq-Decides}}
use Rattle.std.specs.{Prelude.{codes, is_some, if◌then◌else◌, ◌==◌, not}, Str.{bytes_eq}, List.{list_all}}
use Rattle.sexpr_core.specs.{Value.{Value, plain, group, members, IsNotHeaded}, Nodes.{values-members}}
use Rattle.spki_tag.specs.{Tag.{is_date}, Faults.{first_fault, unless}}
use Rattle.spki_cert.specs.declared.fault.CertFaultKind.{CertFaultKind}
use Rattle.spki_cert.specs.declared.fault.CertFaultKind.TheVariants.{Shape, HashAlg as UnknownAlg, DigestLength, BadDate, Threshold, Keyholder}
use Rattle.spki_cert.specs.declared.{hash.HashAlg.{HashAlg, TheVariants.{Sha1}}, principal.Principal.{Principal, TheVariants.{Key, Hash}}}
use Rattle.spki_cert.specs.FieldFaults.{fault_at, is_plain, any_octets, begins_plain, behind_key, key_fault, date_fault, alg_fault, hash_fault, alg_named, is_alg, digest_fits, are_uris, principal_fault, is_name, are_names, names_fault, subject_fault, issuer_name_fault, issuer_fault}
use Rattle.spki_cert.specs.Readings.{IsAlgorithm, alg_name, digest_len, AreUris, IsNoKey, IsNoHash}
use Rattle.spki_cert.specs.Inner.Gathering.{digest_fault, NamesWrittenSubject}
use Rattle.spki_cert.specs.Fields.{PrincipalOf, WrittenSubjectOf, plains, is_headed, behind_head}
use Rattle.spki_cert.proofs.HeadedLists.{headed-by, is-group, of-form, first-of, same_others, apart, behind-group, one-look, headed-else}
use Rattle.sexpr_core.specs.Value as sexpr

-- ---- faults of keys

pub begins-plain : (v : Value) → IsAlgorithm v → begins_plain v ≡ true
begins-plain v (alg, parts, e) = ap begins_plain e

pub algorithm : (v : Value) → begins_plain v ≡ true → IsAlgorithm v
algorithm (sexpr.list (sexpr.more (sexpr.string None octets) vs)) e = (octets, members vs, cc (values-members vs))
algorithm v e = absurd (cc)

pub begins-other : (v : Value) → (IsAlgorithm v → ⊥) → begins_plain v ≡ false
begins-other v other = false_from_ne_true (begins_plain v) (λ e. other (algorithm v e))

-- what is tested in a key: its head and what follows it
abbrev pub key_looked : Bool → List Value → Option CertFaultKind
key_looked headed rest =
    first_fault (unless headed Shape ∷ fault_at 0 Shape (λ body. unless (begins_plain body) Shape) rest ∷ behind_key (drop 1 rest) ∷ [])

pub key-form : (v : Value) (rest : List Value) → v ≡ group (plain (codes "public-key") ∷ rest) → key_fault v ≡ key_looked true rest
unfolding key_fault
key-form v rest e = of-form key_looked (codes "public-key") v rest e

-- ---- faults of dates

pub date-tested : (v : Value) (octets : List ℕ) (b : Bool) → v ≡ plain octets → is_date octets ≡ b → date_fault v ≡ unless b BadDate
unfolding date_fault
date-tested v octets b e f = ap (λ (w : Value). unless (is_plain is_date w) BadDate) e ∙ ap (λ (x : Bool). unless x BadDate) f

-- ---- faults of algorithms

pub named-alg : (alg : HashAlg) → alg_named (alg_name alg) ≡ Some alg
named-alg Sha1 = refl
named-alg alg = refl

pub named-read : (word : List ℕ) → is_alg word ≡ true → (alg : HashAlg) × (word ≡ alg_name alg)
named-read word e = search (rules, bytes_eq-Decides)

alg-plain : (v : Value) (octets : List ℕ) (b : Bool) → v ≡ plain octets → is_alg octets ≡ b → alg_fault v ≡ first_fault (None ∷ unless b UnknownAlg ∷ [])
unfolding alg_fault
alg-plain v octets b e f = search rules

pub alg-other : (v : Value) (octets : List ℕ) → v ≡ plain octets → ((alg : HashAlg) → octets ≢ alg_name alg) → alg_fault v ≡ Some UnknownAlg
alg-other v octets e other =
    alg-plain v octets false e (false_from_ne_true (is_alg octets) (λ f. let alg = named-read octets f in other alg.0 alg.1))

pub alg-known : (v : Value) (alg : HashAlg) → v ≡ plain (alg_name alg) → alg_fault v ≡ None
alg-known v alg e = alg-plain v (alg_name alg) true e (ap (λ (o : Option HashAlg). is_some o) (named-alg alg))

-- ---- faults of hashes

abbrev pub hash_looked : Bool → List Value → Option CertFaultKind
hash_looked headed rest =
    first_fault (
    unless headed Shape
    ∷ fault_at 0 Shape alg_fault rest
    ∷ fault_at 1 Shape (λ digest. unless (is_plain any_octets digest) Shape) rest
    ∷ unless (digest_fits rest) DigestLength
    ∷ unless (are_uris (drop 2 rest)) Shape
    ∷ []
    )

pub hash-form : (v : Value) (rest : List Value) → v ≡ group (plain (codes "hash") ∷ rest) → hash_fault v ≡ hash_looked true rest
unfolding hash_fault
hash-form v rest e = of-form hash_looked (codes "hash") v rest e

-- the first fault of a digest and of what follows it
pub hash-digest : (v word digest : Value) (rest more others : List Value) (alg : HashAlg) (found : Option CertFaultKind) (uris : Bool)
    → v ≡ group (plain (codes "hash") ∷ rest) → rest ≡ word ∷ more → word ≡ plain (alg_name alg) → more ≡ digest ∷ others
    → digest_fault alg digest ≡ found → are_uris others ≡ uris → hash_fault v ≡ first_fault (found ∷ unless uris Shape ∷ [])
unfolding hash_fault
hash-digest v word digest rest more others alg found uris e f g h i j = search (rules, hash-form, alg-known, named-alg, first-of)

pub uris-are : (vs : List Value) → AreUris vs → are_uris vs ≡ true
uris-are [] are = refl
uris-are (v ∷ []) are = headed-by v (codes "uri") are.0 are.1
uris-are (v ∷ w ∷ vs) are = absurd are

pub uris-read : (vs : List Value) → are_uris vs ≡ true → AreUris vs
uris-read [] e = tt
uris-read (v ∷ []) e = (behind_head v, is-group (codes "uri") v e)
uris-read (v ∷ w ∷ vs) e = absurd (cc)

pub others-are : (vs : List Value) → (AreUris vs → ⊥) → are_uris vs ≡ false
others-are vs other = false_from_ne_true (are_uris vs) (λ e. other (uris-read vs e))

-- ---- digests

pub sized-eq : (m n : ℕ) → m ≡ n → (m == n) ≡ true
sized-eq m n e = grind (arith, e)

pub digest-sized : (alg : HashAlg) (v : Value) (octets : List ℕ) → v ≡ plain octets → length octets ≡ digest_len alg → digest_fault alg v ≡ None
digest-sized alg v octets e f = search (rules, sized-eq (length octets) (digest_len alg) f)

-- ---- values that are no principal, no subject and no issuer

abbrev pub IsNoPrincipal : Value → Type 0
IsNoPrincipal v = (principal : Principal) → PrincipalOf v principal → ⊥

pub no-principal : (v : Value) → IsNoKey v → IsNoHash v → IsNoPrincipal v
no-principal v no-key no-hash (Key octets) read = no-key octets read
no-principal v no-key no-hash (Hash alg digest) read = no-hash alg digest read

pub unheaded-is_no_hash : (v : Value) → IsNotHeaded v (codes "hash") → IsNoHash v
unheaded-is_no_hash v other alg digest read = other (plain (alg_name alg) ∷ read.octets ∷ read.further) read.written

pub name-is_no_principal : (v : Value) (rest : List Value) → v ≡ group (plain (codes "name") ∷ rest) → IsNoPrincipal v
name-is_no_principal v rest e (Key octets) read = apart (codes "name") v _ _ e read.written refl refl
name-is_no_principal v rest e (Hash alg digest) read = apart (codes "name") v _ _ e read.written refl refl

-- a string is no principal
pub string-is_no_principal : (octets : List ℕ) → IsNoPrincipal (plain octets)
string-is_no_principal octets p read = absurd (search rules)

-- ---- subjects

pub name-names_who : (v : Value) (rest : List Value) → v ≡ group (plain (codes "name") ∷ rest) → (p : Option Principal) (names : List (List ℕ)) → WrittenSubjectOf v p names → NamesWrittenSubject rest p names
name-names_who v rest e None names read = (read.first, read.others, read.names_are, same_others v (codes "name") rest (plains names) e read.written)
name-names_who v rest e (Some principal) names (inl read) = absurd (name-is_no_principal v rest e principal read.0)
name-names_who v rest e (Some principal) names (inr read) = search (rules, same_others)

pub name-who : (v : Value) (rest : List Value) → v ≡ group (plain (codes "name") ∷ rest) → (p : Option Principal) (names : List (List ℕ)) → NamesWrittenSubject rest p names → WrittenSubjectOf v p names
name-who v rest e None names read = search rules
name-who v rest e (Some principal) names read = search rules

-- ---- what was read after a principal

pub principal-names : (vs : List Value) (owner : Value) (rest : List Value) (p : Principal) (all behind : List (List ℕ))
    → vs ≡ owner ∷ rest → PrincipalOf owner p → (rest ≡ [] → ⊥) → all ≡ [] ++ behind → rest ≡ plains behind → NamesWrittenSubject vs (Some p) all
principal-names vs owner rest p all [] e read some f g = absurd (some g)
principal-names vs owner rest p all (first ∷ others) e read some f g = search rules

-- ---- several names

pub plains-push : (seen : List (List ℕ)) (octets : List ℕ) → plains (seen ++ octets ∷ []) ≡ plains seen ++ plain octets ∷ []
plains-push [] octets = refl
plains-push (name ∷ seen) octets = ap (λ (vs : List Value). plain name ∷ vs) (plains-push seen octets)

-- ---- faults of principals

-- a principal has no other head than public-key and hash
pub principal-else : (word : List ℕ) (v : Value) (p : Principal) → PrincipalOf v p → bytes_eq (codes "public-key") word ≡ false → bytes_eq (codes "hash") word ≡ false
    → is_headed word v ≡ false
principal-else word v (Key octets) read e f = ap (is_headed word) read.written ∙ e
principal-else word v (Hash alg digest) read e f = ap (is_headed word) read.written ∙ f

-- ---- faults of names

pub plains-all : (names : List (List ℕ)) → list_all is_name (plains names) ≡ true
plains-all [] = refl
plains-all (name ∷ names) = plains-all names

pub all-plains : (vs : List Value) → list_all is_name vs ≡ true → (names : List (List ℕ)) × (vs ≡ plains names)
all-plains [] e = ([], refl)
all-plains (sexpr.string None octets ∷ vs) e = let more = all-plains vs e in (octets ∷ more.0, ap (λ (ws : List Value). plain octets ∷ ws) more.1)
all-plains vs e = absurd (cc)

pub some-names : (others : List Value) → (others ≡ [] → ⊥) → are_names others ≡ list_all is_name others
some-names [] some = absurd (some refl)
some-names (v ∷ vs) some = refl

-- ---- faults of subjects

pub subject-names : (v : Value) (rest : List Value) (found : Option CertFaultKind) → v ≡ group (plain (codes "name") ∷ rest) → names_fault rest ≡ found → subject_fault v ≡ found
unfolding subject_fault
subject-names v rest found e f =
    (λ i. first_fault (unless (not (headed-else (codes "name") (codes "k-of-n") v rest e refl i)) Threshold
    ∷ unless (not (headed-else (codes "name") (codes "keyholder") v rest e refl i)) Keyholder
    ∷ (if headed-by v (codes "name") rest e i then names_fault (behind-group v (plain (codes "name")) rest e i) else principal_fault v) ∷ []))
    ∙ one-look (names_fault rest) ∙ f

-- ---- faults of issuers

pub issuer-form : (v : Value) (rest : List Value) → v ≡ group (plain (codes "name") ∷ rest) → issuer_fault v ≡ issuer_name_fault rest
unfolding issuer_fault
issuer-form v rest e = of-form (λ b vs. if b then issuer_name_fault vs else principal_fault v) (codes "name") v rest e
