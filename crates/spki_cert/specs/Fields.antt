-- Principals, subjects and issuers of values, and the contents of the fields of an entry and of a certificate in any
-- order (RFC 2693, sections 2.5, 2.6, 2.8, 3.3, 3.4 and 5). The forms are those of the SPKI working group's structure
-- draft.
use Rattle.std.specs.{Prelude.{◌≡◌, ℕ, ◌⊎◌, List, [], ◌∷◌, Option, Some, None, codes, ◌≤◌, Bool, false, length, if◌then◌else◌}, Str.{bytes_eq}}
use Rattle.std.specs.List.{AllByRecursion, list_any}
use Rattle.sexpr_core.specs.Value.{Value, plain, group, string, list, none, more, members}
use Rattle.spki_cert.specs.declared.{principal.Principal.{Principal, TheVariants.{Key, Hash}}, entry.Subject.{Subject}, window.Window.{Window}}
use Rattle.spki_cert.specs.Readings.{KeyOf, HashOf, DateOf}
use Rattle.spki_tag.specs.Reading.{ReadsAs}
use Rattle.spki_tag.specs.Tag as tags

-- ---- principals, subjects and issuers (RFC 2693, sections 2.5, 2.6 and 2.8)

-- a key, or the hash of one
abbrev pub PrincipalOf : Value → Principal → Type 0
PrincipalOf v (Key octets) = KeyOf v octets
PrincipalOf v (Hash alg digest) = HashOf v alg digest

-- several strings without a display hint
abbrev pub plains : List (List ℕ) → List Value
plains [] = []
plains (octets ∷ rest) = plain octets ∷ plains rest

-- (name principal n n ..)
pub record NameOf (v : Value) (principal : Principal) (names : List (List ℕ)) : Type 0 where
  pub owner : Value
  pub owner_is : PrincipalOf owner principal
  pub first : List ℕ
  pub others : List (List ℕ)
  pub names_are : names ≡ first ∷ others
  pub written : v ≡ group (plain (codes "name") ∷ owner ∷ plains names)

-- (name n n ..), which is relative to a principal that is not written
pub record RelativeOf (v : Value) (names : List (List ℕ)) : Type 0 where
  pub first : List ℕ
  pub others : List (List ℕ)
  pub names_are : names ≡ first ∷ others
  pub written : v ≡ group (plain (codes "name") ∷ plains names)

-- a principal, or a name
abbrev pub IsNamedSubject : Value → Principal → List (List ℕ) → Type 0
IsNamedSubject v principal names = (PrincipalOf v principal × (names ≡ [])) ⊎ NameOf v principal names

-- the subject of an entry
abbrev pub SubjectOf : Value → Subject → Type 0
SubjectOf v s = IsNamedSubject v s.principal s.names

-- a principal or a name; without a principal it is a relative name
abbrev pub WrittenSubjectOf : Value → Option Principal → List (List ℕ) → Type 0
WrittenSubjectOf v None names = RelativeOf v names
WrittenSubjectOf v (Some principal) names = IsNamedSubject v principal names

-- the subject of a certificate: a relative name is a name of the issuer
abbrev pub IssuedTo : Principal → Value → Subject → Type 0
IssuedTo principal v s = SubjectOf v s ⊎ ((s.principal ≡ principal) × RelativeOf v s.names)

-- the issuer of a certificate: a principal, or (name principal n)
abbrev pub IssuerOf : Value → Principal → Option (List ℕ) → Type 0
IssuerOf v principal None = PrincipalOf v principal
IssuerOf v principal (Some name) = NameOf v principal (name ∷ [])

-- ---- fields by their heads, in any order (RFC 2693, sections 3.3, 3.4 and 5)

-- whether a value is a list with this head
abbrev pub is_headed : List ℕ → Value → Bool
is_headed word (string hint octets) = false
is_headed word (list none) = false
is_headed word (list (more (list vs) others)) = false
is_headed word (list (more (string (Some hint) head) others)) = false
is_headed word (list (more (string None head) others)) = bytes_eq head word

-- the members after a list's head
abbrev pub behind_head : Value → List Value
behind_head (string hint octets) = []
behind_head (list none) = []
behind_head (list (more head others)) = members others

-- the members after the head, for each list with this head, in order
abbrev pub contents : List ℕ → List Value → List (List Value)
contents word [] = []
contents word (v ∷ vs) = if is_headed word v then behind_head v ∷ contents word vs else contents word vs

-- In the fields of (cert (issuer K) (subject S) (propagate) (tag T)) the contents of issuer are the list of K. Those of
-- propagate are the empty list, and not-after is absent.

-- no field has this head
abbrev pub IsAbsent : List ℕ → List Value → Type 0
IsAbsent word fields = contents word fields ≡ []

-- exactly one field has this head, and these are the members after it
abbrev pub IsOnce : List ℕ → List Value → List Value → Type 0
IsOnce word fields rest = contents word fields ≡ rest ∷ []

-- no two fields have the same head
abbrev pub AreOnce : List Value → Type 0
AreOnce vs = (word : List ℕ) → length (contents word vs) ≤ 1

-- the values are one value, and it is read as this
abbrev pub Sole : {A : Type 0} → (Value → A → Type 0) → List Value → A → Type 0
Sole R vs a = (v : Value) × (vs ≡ v ∷ []) × R v a

-- what is read after the head of the only field with this head, if there is one
abbrev pub Given : {A : Type 0} → List ℕ → (List Value → A → Type 0) → List Value → Option A → Type 0
Given word R fields None = IsAbsent word fields
Given word R fields (Some a) = (rest : List Value) × IsOnce word fields rest × R rest a

-- ---- validity (section 5)

-- the head of a limit
abbrev pub IsLimitWord : List ℕ → Type 0
IsLimitWord word = (word ≡ codes "not-before") ⊎ (word ≡ codes "not-after")

-- (not-before date) or (not-after date)
abbrev pub IsLimitField : Value → Type 0
IsLimitField v =
    (word : List ℕ) × (rest : List Value) × (date : List ℕ)
    × IsLimitWord word × (v ≡ group (plain word ∷ rest)) × Sole DateOf rest date

-- the limits among these fields
abbrev pub LimitsAre : List Value → Window → Type 0
LimitsAre vs w =
    Given (codes "not-before") (Sole DateOf) vs w.not_before
    × Given (codes "not-after") (Sole DateOf) vs w.not_after

-- the members after the head valid: limits, each at most once
pub record ValidOf (limits : List Value) (w : Window) : Type 0 where
  pub each : AllByRecursion IsLimitField limits
  pub once : AreOnce limits
  pub limits_are : LimitsAre limits w

-- ---- the kinds of fields

-- a limit, or (valid limit ..)
pub data IsTimeField (v : Value) : Type 0 where
  limit : IsLimitField v → IsTimeField v
  valid : (limits : List Value) (w : Window) → v ≡ group (plain (codes "valid") ∷ limits) → ValidOf limits w → IsTimeField v

-- (propagate), (tag T), a field of validity, or (comment x ..)
pub data IsField (v : Value) : Type 0 where
  propagate : v ≡ group (plain (codes "propagate") ∷ []) → IsField v
  tag : (rest : List Value) (t : tags.Tag) → v ≡ group (plain (codes "tag") ∷ rest) → Sole ReadsAs rest t → IsField v
  time : IsTimeField v → IsField v
  comment : (xs : List Value) → v ≡ group (plain (codes "comment") ∷ xs) → IsField v

-- the members after the head issuer
abbrev pub IssuerIn : List Value → Principal × Option (List ℕ) → Type 0
IssuerIn rest i = Sole (λ v (j : Principal × Option (List ℕ)). IssuerOf v j.0 j.1) rest i

-- the members after the head subject
abbrev pub WrittenSubjectIn : List Value → Option Principal × List (List ℕ) → Type 0
WrittenSubjectIn rest s = Sole (λ v (t : Option Principal × List (List ℕ)). WrittenSubjectOf v t.0 t.1) rest s

-- (version 0)
abbrev pub version_field : Value
version_field = group (plain (codes "version") ∷ plain (codes "0") ∷ [])

-- a field that is ignored: (display x ..), (issuer-info x ..) or (subject-info x ..)
pub data IsUnread (v : Value) : Type 0 where
  display : (xs : List Value) → v ≡ group (plain (codes "display") ∷ xs) → IsUnread v
  issuer_info : (xs : List Value) → v ≡ group (plain (codes "issuer-info") ∷ xs) → IsUnread v
  subject_info : (xs : List Value) → v ≡ group (plain (codes "subject-info") ∷ xs) → IsUnread v

-- a field of an entry, (version 0), (issuer ..), (subject ..), or a field that is ignored
pub data IsCertField (v : Value) : Type 0 where
  common : IsField v → IsCertField v
  version : v ≡ version_field → IsCertField v
  issuer :
      (rest : List Value) (i : Principal × Option (List ℕ)) → v ≡ group (plain (codes "issuer") ∷ rest) → IssuerIn rest i
      → IsCertField v
  subject :
      (rest : List Value) (s : Option Principal × List (List ℕ)) → v ≡ group (plain (codes "subject") ∷ rest) → WrittenSubjectIn rest s
      → IsCertField v
  unread : IsUnread v → IsCertField v

-- fields, each at most once
pub record AreFields (IsOne : Value → Type 0) (fields : List Value) : Type 0 where
  pub each : AllByRecursion IsOne fields
  pub once : AreOnce fields

-- ---- their contents

-- whether (propagate) is among the fields
abbrev pub propagates : List Value → Bool
propagates fields = list_any (is_headed (codes "propagate")) fields

-- the tag of the fields
abbrev pub TagOf : List Value → tags.Tag → Type 0
TagOf fields t = Given (codes "tag") (Sole ReadsAs) fields (Some t)

-- The window of the fields: each limit occurs at most once, directly or in one (valid ..), and not both ways at once.
pub data WindowOf (fields : List Value) (w : Window) : Type 0 where
  directly : contents (codes "valid") fields ≡ [] → LimitsAre fields w → WindowOf fields w
  in_valid :
      Given (codes "valid") ValidOf fields (Some w)
      → contents (codes "not-before") fields ≡ [] → contents (codes "not-after") fields ≡ [] → WindowOf fields w
