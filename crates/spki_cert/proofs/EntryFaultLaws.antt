-- The fault of an entry and of an access list, step by step as they are read, and which values are none.
use Rattle.std.proofs.Common.{◌≡◌, ℕ, inl, inr, Bool, true, false, cond, List, [], ◌∷◌, ◌++◌, refl, ap, ◌∙◌, rules, drop, Option, Some, None}
use Rattle.std.specs.{Prelude.{codes, not, ◌&&◌, if◌then◌else◌}, List.{AllZip}}
use Rattle.sexpr_core.specs.Value.{Value, plain, group, IsNotHeaded}
use Rattle.spki_cert.specs.declared.entry.{Entry.{Entry}, Subject.{Subject}}
use Rattle.spki_cert.specs.declared.fault.{CertFault.{CertFault}, CertFaultKind.{CertFaultKind, TheVariants.{Shape, RelativeInEntry}}}
use Rattle.spki_cert.specs.declared.principal.Principal.{Principal, TheVariants.{Key, Hash}}
use Rattle.spki_cert.specs.Fields.{SubjectOf, RelativeOf, plains, is_headed, PrincipalOf, WrittenSubjectOf, behind_head}
use Rattle.spki_cert.specs.Structures.{EntryOf, AclOf, IsVersion, BeginsWell}
use Rattle.spki_cert.specs.FieldFaults.{fault_at, is_name, subject_fault, entry_subject_fault, is_relative, begins_named, has, fields_fault, entry_field_fault, is_both_ways}
use Rattle.spki_cert.specs.StructureFaults.{behind_version, entry_fault, at_item, acl_version_fault, outer_fault, entries_fault, acl_fault}
use Rattle.spki_cert.proofs.HeadedLists.{same_others, not-headed, behind-group, of-form, of-no_form, one-look}
use Rattle.spki_cert.proofs.SubjectFaultLaws.{name-is_no_principal, string-is_no_principal, principal-else}
use Rattle.spki_tag.specs.Faults.{first_fault, unless}

-- ---- a relative name as a subject

-- a relative name is no subject of an entry
pub relative-is_no_subject : (v : Value) (names : List (List ℕ)) → RelativeOf v names → (s : Subject) → SubjectOf v s → ⊥
relative-is_no_subject v names relative s (inl read) = name-is_no_principal v (plains names) relative.written s.principal read.0
relative-is_no_subject v names relative s (inr read) = search (rules, same_others, string-is_no_principal)

-- ---- access lists

-- an entry does not have the head version
pub entry-unversioned : (v : Value) (e : Entry) → EntryOf v e → is_headed (codes "version") v ≡ false
entry-unversioned v e read = ap (is_headed (codes "version")) read.written

pub entries-behind : (version entries : List Value) (es : List Entry) → IsVersion version → AllZip EntryOf entries es → behind_version (version ++ entries) ≡ entries
entries-behind [] [] es is zip = refl
entries-behind [] (x ∷ xs) (e ∷ es) is zip = ap (λ (b : Bool). cond b xs (x ∷ xs)) (entry-unversioned x e zip.0)
entries-behind (w ∷ []) entries es is zip = ap (λ (b : Bool). cond b entries (w ∷ entries)) (ap (is_headed (codes "version")) is)
entries-behind version entries es is zip = absurd (search rules)

-- ---- the outer list

-- the first member does not have the head version
pub unversioned : (v : Value) (all : List Value) (first : Value) (others : List Value) → v ≡ group (plain (codes "acl") ∷ all) → all ≡ first ∷ others
    → IsNotHeaded first (codes "version")
    → (vs : List Value) × (v ≡ group (plain (codes "acl") ∷ vs)) × BeginsWell vs × (all ≡ behind_version vs)
unversioned v all first others e f other = search (rules, not-headed)

-- a list whose entries are read is an access list
pub acl-read : (v : Value) (all members : List Value) (es : List Entry) → v ≡ group (plain (codes "acl") ∷ all) → BeginsWell all → members ≡ behind_version all
    → AllZip EntryOf members es → AclOf v es
acl-read v [] members es e well f zip = record { version = []; entries = []; version_is = tt; written = e; each = rw f at zip }
acl-read v (first ∷ others) members es e well f zip = by (is_headed (codes "version") first) refl (rw f at zip)
  where
    by : (b : Bool) → is_headed (codes "version") first ≡ b → AllZip EntryOf (if b then others else first ∷ others) es → AclOf v es
    by true here each = record { version = first ∷ []; entries = others; version_is = well here; written = e; each = each }
    by false here each = record { version = []; entries = first ∷ others; version_is = tt; written = e; each = each }

-- ---- subjects of entries

abbrev subject_looked : Option CertFaultKind → Bool → Option CertFaultKind
subject_looked found relative = first_fault (found ∷ unless (not relative) RelativeInEntry ∷ [])

subject-tested : (v : Value) (b : Bool) → subject_fault v ≡ None → is_relative v ≡ b → entry_subject_fault v ≡ subject_looked None b
unfolding entry_subject_fault
subject-tested v b e f = λ i. subject_looked (e i) (f i)

relative-form : (v : Value) (rest : List Value) → v ≡ group (plain (codes "name") ∷ rest) → is_relative v ≡ begins_named rest
relative-form v rest e = of-form (λ b vs. b && begins_named vs) (codes "name") v rest e

pub subject-relative : (v : Value) (names : List (List ℕ)) → subject_fault v ≡ None → WrittenSubjectOf v None names → entry_subject_fault v ≡ Some RelativeInEntry
subject-relative v names e read = search (rules, subject-tested, relative-form)

-- a principal is no name
no-name : (v : Value) (p : Principal) → PrincipalOf v p → is_name v ≡ false
no-name v (Key octets) read = ap is_name read.written
no-name v (Hash alg digest) read = ap is_name read.written

pub subject-absolute : (v : Value) (p : Principal) (names : List (List ℕ)) → subject_fault v ≡ None → WrittenSubjectOf v (Some p) names → entry_subject_fault v ≡ None
subject-absolute v p names e (inl read) = subject-tested v false e (ap (λ (b : Bool). b && begins_named (behind_head v)) (principal-else (codes "name") v p read.0 refl refl))
subject-absolute v p names e (inr read) = subject-tested v false e (relative-form v (read.owner ∷ plains names) read.written ∙ no-name read.owner p read.owner_is)

-- ---- entries

abbrev pub entry_looked : Bool → List Value → Option CertFaultKind
entry_looked headed rest =
    first_fault (
    unless headed Shape ∷ fault_at 0 Shape entry_subject_fault rest ∷ fields_fault entry_field_fault (drop 1 rest)
    ∷ unless (not (is_both_ways (drop 1 rest))) Shape ∷ unless (has (codes "tag") (drop 1 rest)) Shape ∷ []
    )

pub entry-unheaded : (v : Value) → IsNotHeaded v (codes "entry") → entry_fault v ≡ Some Shape
unfolding entry_fault
entry-unheaded v other = of-no_form (codes "entry") v Shape _ other

pub entry-form : (v : Value) (rest : List Value) → v ≡ group (plain (codes "entry") ∷ rest) → entry_fault v ≡ entry_looked true rest
unfolding entry_fault
entry-form v rest e = of-form entry_looked (codes "entry") v rest e

-- the first fault of the parts of an entry
abbrev pub parts_looked : Option CertFaultKind → Option CertFaultKind → Bool → Bool → Option CertFaultKind
parts_looked subject fields both tag = first_fault (subject ∷ fields ∷ unless (not both) Shape ∷ unless tag Shape ∷ [])

pub entry-looked : (v subject : Value) (rest fields : List Value) (found others : Option CertFaultKind) (both tag : Bool) → v ≡ group (plain (codes "entry") ∷ rest)
    → rest ≡ subject ∷ fields → entry_subject_fault subject ≡ found → fields_fault entry_field_fault fields ≡ others
    → is_both_ways fields ≡ both → has (codes "tag") fields ≡ tag
    → entry_fault v ≡ parts_looked found others both tag
entry-looked v subject rest fields found others both tag e f g h i j = search (rules, entry-form v rest e)

-- ---- the outer list

abbrev outer_looked : Bool → List Value → Option CertFaultKind
outer_looked headed rest = first_fault (unless headed Shape ∷ acl_version_fault rest ∷ [])

pub outer-form : (v : Value) (rest : List Value) → v ≡ group (plain (codes "acl") ∷ rest) → outer_fault v ≡ outer_looked true rest
unfolding outer_fault
outer-form v rest e = of-form outer_looked (codes "acl") v rest e

-- ---- access lists

acl-parts : (v : Value) (rest : List Value) → v ≡ group (plain (codes "acl") ∷ rest) → acl_fault v ≡ first_fault (at_item 0 (outer_fault v) ∷ entries_fault (behind_version rest) ∷ [])
unfolding acl_fault
acl-parts v rest e = ap (λ (vs : List Value). first_fault (at_item 0 (outer_fault v) ∷ entries_fault (behind_version vs) ∷ [])) (behind-group v (plain (codes "acl")) rest e)

pub acl-entries : (v : Value) (rest entries : List Value) (found : Option CertFault) → v ≡ group (plain (codes "acl") ∷ rest) → outer_fault v ≡ None → entries ≡ behind_version rest → entries_fault entries ≡ found
    → acl_fault v ≡ found
acl-entries v rest entries found e f g h = search (rules, acl-parts v rest e, one-look (entries_fault entries))
