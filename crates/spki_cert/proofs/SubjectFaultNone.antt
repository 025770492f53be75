-- A value has no fault as a key, a hash, a date, a principal, a subject or an issuer exactly if it is one.
use Rattle.std.proofs.Common.{◌≡◌, ℕ, List, [], ◌∷◌, arith, true, None, refl, sym, ◌∙◌, rules, Bool, false, Option, Some, ap, subst, inl, inr}
use Rattle.std.specs.Prelude.{codes, ◌↔◌, ◌==◌, not, if◌then◌else◌}
use Rattle.sexpr_core.specs.Value.{Value, plain, group, IsNoString}
use Rattle.spki_tag.specs.Faults.{unless, first_fault}
use Rattle.spki_cert.specs.declared.{fault.CertFaultKind.TheVariants.{Shape, Threshold, Keyholder, RelativeInEntry}, hash.HashAlg.{HashAlg}}
use Rattle.spki_cert.specs.declared.principal.Principal.{Principal, TheVariants.{Key, Hash}}
use Rattle.spki_cert.specs.Readings.{KeyOf, HashOf, DateOf, alg_name}
use Rattle.spki_cert.specs.FieldFaults.{any_octets, key_fault, alg_fault, hash_fault, date_fault, principal_fault, is_name, are_names, names_fault, subject_fault, is_relative, entry_subject_fault, issuer_name_fault, issuer_fault}
use Rattle.spki_cert.specs.Fields.{is_headed, PrincipalOf, WrittenSubjectOf, SubjectOf, IssuerOf, plains, behind_head}
use Rattle.spki_cert.specs.Inner.Gathering.{NamesWrittenSubject}
use Rattle.spki_cert.proofs.SubjectFaultLaws.{key_looked, key-form, begins-plain, algorithm, named-alg, named-read, digest-sized, hash_looked, hash-digest, uris-are, uris-read, alg-known, date-tested, string-is_no_principal, name-who, name-names_who, principal-else, plains-all, all-plains, subject-names, issuer-form}
use Rattle.spki_cert.proofs.HeadedLists.{Reads, unless-none, none-found, behind-none, is-group, plain-passes, no-plain}
use Rattle.spki_cert.proofs.EntryFaultLaws.{subject-relative, subject-absolute}
use Rattle.sexpr_core.specs.Value as sexpr

-- ---- keys

key-of : (v : Value) (rest : List Value) → v ≡ group (plain (codes "public-key") ∷ rest) → key_looked true rest ≡ None → Reads KeyOf v
key-of v [] e f = absurd (cc)
key-of v (body ∷ []) e f = search (rules, none-found, algorithm, unless-none)
key-of v (body ∷ third ∷ rest) e f = search (rules, none-found)

pub key-none : (v : Value) → (key_fault v ≡ None) ↔ Reads KeyOf v
unfolding key_fault
key-none v = (
  λ e. let found = behind-none (codes "public-key") v Shape _ e in key-of v (behind_head v) found.0 found.1,
  λ key. search (rules, key-form, begins-plain),
)

-- ---- hashes

alg-read : (v : Value) → alg_fault v ≡ None → (alg : HashAlg) × (v ≡ plain (alg_name alg))
unfolding alg_fault
alg-read (sexpr.string None octets) e = search (rules, none-found, named-read, unless-none)
alg-read v e = absurd (cc)

pub alg-none : (v : Value) → (alg_fault v ≡ None) ↔ ((alg : HashAlg) × (v ≡ plain (alg_name alg)))
alg-none v = (alg-read v, λ some. alg-known v some.0 some.1)

sized-read : (m n : ℕ) → (m == n) ≡ true → m ≡ n
sized-read m n e = grind (arith, e)

abbrev SomeHash : Value → Type 0
SomeHash v = (alg : HashAlg) × (digest : List ℕ) × HashOf v alg digest

hash-of : (v : Value) (rest : List Value) → v ≡ group (plain (codes "hash") ∷ rest) → hash_looked true rest ≡ None → SomeHash v
hash-of v [] e f = absurd (cc)
hash-of v (word ∷ []) e f = (let g = (none-found (alg_fault word) _ f).1 in absurd (cc))
hash-of v (word ∷ digest ∷ others) e f = search (rules, none-found, alg-read, plain-passes, unless-none, named-alg, sized-read, uris-read)

hash-faultless : (v : Value) (alg : HashAlg) (digest : List ℕ) → HashOf v alg digest → hash_fault v ≡ None
hash-faultless v alg digest read =
    hash-digest v _ _ _ _ _ alg None true read.written refl refl refl
    (digest-sized alg read.octets digest read.digest_is.written read.digest_is.sized) (uris-are read.further read.uris)

pub hash-none : (v : Value) → (hash_fault v ≡ None) ↔ SomeHash v
unfolding hash_fault
hash-none v = (
  λ e. let found = behind-none (codes "hash") v Shape _ e in hash-of v (behind_head v) found.0 found.1,
  λ hash. hash-faultless v hash.0 hash.1 hash.2,
)

-- ---- dates

pub date-none : (v : Value) → (date_fault v ≡ None) ↔ Reads DateOf v
unfolding date_fault
date-none v = (λ e. search (rules, unless-none, plain-passes), λ date. date-tested v date.0 true date.1.written date.1.date)

-- ---- principals

principal-read : (v : Value) → principal_fault v ≡ None → Reads PrincipalOf v
unfolding principal_fault
principal-read v e = by (is_headed (codes "hash") v) e
  where
    by : (b : Bool) → (if b then hash_fault v else key_fault v) ≡ None → Reads PrincipalOf v
    by true f = let hash = (hash-none v).0 f in (Hash hash.0 hash.1, hash.2)
    by false f = let key = (key-none v).0 f in (Key key.0, key.1)

principal-faultless : (v : Value) (p : Principal) → PrincipalOf v p → principal_fault v ≡ None
unfolding principal_fault
principal-faultless v (Key octets) read = search (rules, key-none)
principal-faultless v (Hash alg digest) read = search (rules, hash-none)

pub principal-none : (v : Value) → (principal_fault v ≡ None) ↔ Reads PrincipalOf v
principal-none v = (principal-read v, λ some. principal-faultless v some.0 some.1)

principal-no_string : (v : Value) (p : Principal) → PrincipalOf v p → IsNoString v
principal-no_string v p read octets e = string-is_no_principal octets p (subst (λ (w : Value). PrincipalOf w p) e read)

-- ---- names

abbrev SomeNames : List Value → Type 0
SomeNames vs = (p : Option Principal) × (names : List (List ℕ)) × NamesWrittenSubject vs p names

plains-read : (vs : List Value) → are_names vs ≡ true → (first : List ℕ) × (others : List (List ℕ)) × (vs ≡ plains (first ∷ others))
plains-read (sexpr.string None octets ∷ vs) e = let more = all-plains vs e in (octets, more.0, ap (λ (ws : List Value). plain octets ∷ ws) more.1)
plains-read vs e = absurd (cc)

names-read : (vs : List Value) → names_fault vs ≡ None → SomeNames vs
unfolding names_fault
names-read [] e = absurd (cc)
names-read (v ∷ vs) e = by (is_name v) e
  where
    by : (b : Bool) → first_fault ((if b then None else principal_fault v) ∷ unless (are_names (if b then v ∷ vs else vs)) Shape ∷ []) ≡ None → SomeNames (v ∷ vs)
    by true f = let names = plains-read (v ∷ vs) (search (rules, none-found, unless-none)) in (None, names.0 ∷ names.1, (names.0, names.1, refl, names.2))
    by false f =
        let names = plains-read vs (search (rules, none-found, unless-none)) in
        let who = principal-read v (search (rules, none-found)) in
        (Some who.0, names.0 ∷ names.1, (v, names.0, names.1, who.1, refl, ap (λ (ws : List Value). v ∷ ws) names.2))

names-faultless : (vs : List Value) (p : Option Principal) (names : List (List ℕ)) → NamesWrittenSubject vs p names → names_fault vs ≡ None
unfolding names_fault
names-faultless vs None names read = let all = plains-all read.1 in search rules
names-faultless vs (Some p) names read = search (rules, plains-all, principal-faultless, no-plain, principal-no_string)

-- ---- subjects

abbrev SomeWrittenSubject : Value → Type 0
SomeWrittenSubject v = (p : Option Principal) × (names : List (List ℕ)) × WrittenSubjectOf v p names

subject-read : (v : Value) → subject_fault v ≡ None → SomeWrittenSubject v
unfolding subject_fault
subject-read v e = by (is_headed (codes "k-of-n") v) (is_headed (codes "keyholder") v) (is_headed (codes "name") v) refl e
  where
    by : (threshold keyholder named : Bool) → is_headed (codes "name") v ≡ named
        → first_fault (unless (not threshold) Threshold ∷ unless (not keyholder) Keyholder ∷ (if named then names_fault (behind_head v) else principal_fault v) ∷ []) ≡ None
        → SomeWrittenSubject v
    by false false true h f =
        let read = names-read (behind_head v) (none-found (names_fault (behind_head v)) [] f).0 in
        (read.0, read.1, name-who v (behind_head v) (is-group (codes "name") v h) read.0 read.1 read.2)
    by false false false h f = let read = principal-read v (none-found (principal_fault v) [] f).0 in (Some read.0, [], inl (read.1, refl))
    by threshold keyholder named h f = absurd (cc)

subject-faultless : (v : Value) (p : Option Principal) (names : List (List ℕ)) → WrittenSubjectOf v p names → subject_fault v ≡ None
unfolding subject_fault
subject-faultless v None names read =
    subject-names v (plains names) None read.written (names-faultless (plains names) None names (name-names_who v (plains names) read.written None names read))
subject-faultless v (Some p) names (inl read) = search (rules, principal-else, principal-faultless)
subject-faultless v (Some p) names (inr read) =
    subject-names v (read.owner ∷ plains names) None read.written
    (names-faultless (read.owner ∷ plains names) (Some p) names (name-names_who v (read.owner ∷ plains names) read.written (Some p) names (inr read)))

pub subject-none : (v : Value) → (subject_fault v ≡ None) ↔ SomeWrittenSubject v
subject-none v = (subject-read v, λ who. subject-faultless v who.0 who.1 who.2)

-- ---- subjects of entries

entry_subject-read : (v : Value) → entry_subject_fault v ≡ None → Reads SubjectOf v
unfolding entry_subject_fault
entry_subject-read v e =
    let looks = none-found (subject_fault v) (unless (not (is_relative v)) RelativeInEntry ∷ []) e in
    let who = subject-read v looks.0 in by who.0 who.1 looks.0 who.2
  where
    by : (p : Option Principal) (names : List (List ℕ)) → subject_fault v ≡ None → WrittenSubjectOf v p names → Reads SubjectOf v
    by None names f read = absurd (let g = sym (subject-relative v names f read) ∙ e in cc)
    by (Some p) names f read = (record { principal = p; names = names }, read)

pub entry_subject-none : (v : Value) → (entry_subject_fault v ≡ None) ↔ Reads SubjectOf v
entry_subject-none v = (
  entry_subject-read v,
  λ some. subject-absolute v some.0.principal some.0.names (subject-faultless v (Some some.0.principal) some.0.names some.1) some.1,
)

-- ---- issuers

abbrev SomeIssuer : Value → Type 0
SomeIssuer v = (p : Principal) × (name : Option (List ℕ)) × IssuerOf v p name

issuer-named : (v : Value) (rest : List Value) → v ≡ group (plain (codes "name") ∷ rest) → issuer_name_fault rest ≡ None → SomeIssuer v
issuer-named v (owner ∷ name ∷ []) e f =
    let who = principal-read owner (search (rules, none-found)) in
    let word = plain-passes any_octets name (search (rules, none-found, unless-none)) in (
      who.0,
      Some word.0,
      record {
        owner = owner;
        owner_is = who.1;
        first = word.0;
        others = [];
        names_are = refl;
        written = e ∙ ap (λ (w : Value). group (plain (codes "name") ∷ owner ∷ w ∷ [])) word.1;
      },
    )
issuer-named v rest e f = search (rules, none-found)

issuer-read : (v : Value) → issuer_fault v ≡ None → SomeIssuer v
unfolding issuer_fault
issuer-read v e = by (is_headed (codes "name") v) refl e
  where
    by : (b : Bool) → is_headed (codes "name") v ≡ b → (if b then issuer_name_fault (behind_head v) else principal_fault v) ≡ None → SomeIssuer v
    by true h f = issuer-named v (behind_head v) (is-group (codes "name") v h) f
    by false h f = let read = principal-read v f in (read.0, None, read.1)

issuer-faultless : (v : Value) (p : Principal) (name : Option (List ℕ)) → IssuerOf v p name → issuer_fault v ≡ None
unfolding issuer_fault
issuer-faultless v p None read = search (rules, principal-else, principal-faultless)
issuer-faultless v p (Some name) read = let fine = principal-faultless read.owner p read.owner_is in search (rules, issuer-form)

pub issuer-none : (v : Value) → (issuer_fault v ≡ None) ↔ SomeIssuer v
issuer-none v = (issuer-read v, λ some. issuer-faultless v some.0 some.1 some.2)
