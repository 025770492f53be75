-- Signatures, operations, certificates and sequences, step by step as they are read: what was read, and the fault of each.
use Rattle.std.proofs.Common.{◌≡◌, ℕ, List, [], ◌∷◌, drop, Bool, true, Option, Some, None, ◌∙◌, rules, false, refl, ◌++◌, ap}
use Rattle.std.proofs.Math.Bool.{or-false}
use Rattle.std.specs.Prelude.{codes, is_some, not, if◌then◌else◌, ◌||◌}
use Rattle.sexpr_core.specs.Value.{Value, plain, group, IsNotHeaded}
use Rattle.spki_tag.specs.Faults.{first_fault, unless}
use Rattle.spki_cert.specs.declared.fault.{CertFaultKind.{CertFaultKind, TheVariants.{Shape, UnknownOp}}, CertFault.{CertFault}}
use Rattle.spki_cert.specs.declared.{certificate.{AuthCert.{AuthCert}, NameCert.{NameCert}}, certificate_reader.CertParts.{CertParts}}
use Rattle.spki_cert.specs.declared.{principal.Principal.{Principal}, principal_reader.{Issuer.{Issuer}, WrittenSubject.{WrittenSubject}}}
use Rattle.spki_cert.specs.declared.fields.FieldValues.{FieldValues}
use Rattle.spki_cert.specs.FieldFaults.{fault_at, unless_none, is_plain, alg_fault, hash_fault, principal_fault, has, fields_fault, cert_field_fault, is_both_ways}
use Rattle.spki_cert.specs.StructureFaults.{any_value, signature_fault, do_fault, is_hash_word, at_item, has_name_issuer, is_tagged_right, cert_fault, items_fault, sequence_fault}
use Rattle.spki_cert.specs.{Fields.{is_headed, behind_head, IssuerOf}, Structures.{AuthCertOf, NameCertOf, IssuedBy}}
use Rattle.spki_cert.specs.Inner.Gathering.{PartsOf, FieldValuesOf, parts_looked, parts_fault}
use Rattle.spki_cert.proofs.{HeadedLists.{is-group, of-form, of-no_form, unless-none, none-found, first-of, one-look}, FieldFaultLaws.{has-given}}
use Rattle.spki_cert.proofs.SubjectFaultLaws.{principal-else}

-- ---- lists of a head and three members

-- Signatures, and rows of accepted lists, are such lists. The last member is any value.

abbrev LooksAt : Type 0
LooksAt = Value → Option CertFaultKind

abbrev pub triple_looked : LooksAt → LooksAt → Bool → List Value → Option CertFaultKind
triple_looked first_of second_of headed rest =
    first_fault (
    unless headed Shape ∷ fault_at 0 Shape first_of rest ∷ fault_at 1 Shape second_of rest ∷ fault_at 2 Shape any_value rest
    ∷ unless_none (drop 3 rest) Shape ∷ []
    )

-- what is tested in a list with this head
pub record IsTriple (word : List ℕ) (fault_of first_of second_of : LooksAt) : Type 0 where
  pub looked : (v : Value) → fault_of v ≡ triple_looked first_of second_of (is_headed word v) (behind_head v)

-- three members without a fault
pub record AreThree (word : List ℕ) (first_of second_of : LooksAt) (v : Value) : Type 0 where
  pub first : Value
  pub second : Value
  pub third : Value
  pub written : v ≡ group (plain word ∷ first ∷ second ∷ third ∷ [])
  pub first_is : first_of first ≡ None
  pub second_is : second_of second ≡ None

module _ {word : List ℕ} {fault_of first_of second_of : LooksAt} (triple : IsTriple word fault_of first_of second_of) where
  pub triple-unheaded : (v : Value) → IsNotHeaded v word → fault_of v ≡ Some Shape
  triple-unheaded v other = triple.looked v ∙ of-no_form word v Shape _ other

  pub triple-form : (v : Value) (rest : List Value) → v ≡ group (plain word ∷ rest) → fault_of v ≡ triple_looked first_of second_of true rest
  triple-form v rest e = triple.looked v ∙ of-form (triple_looked first_of second_of) word v rest e

  three-of : (v : Value) (rest : List Value) → v ≡ group (plain word ∷ rest) → triple_looked first_of second_of true rest ≡ None → AreThree word first_of second_of v
  three-of v (first ∷ second ∷ third ∷ []) e f = search (rules, none-found)
  three-of v rest e f = absurd (search (rules, none-found))

  pub triple-read : (v : Value) → fault_of v ≡ None → AreThree word first_of second_of v
  triple-read v e = search (rules, none-found, is-group, unless-none, three-of, triple-form)

-- ---- the parts of certificates of either kind

abbrev pub auth_parts : AuthCert → CertParts
auth_parts c = record {
  issuer = record { principal = c.issuer; name = None };
  subject = c.subject;
  propagate = c.propagate;
  tag = Some c.tag;
  window = c.window;
}

pub auth-parts : (v : Value) (c : AuthCert) (read : AuthCertOf v c) → PartsOf read.fields (auth_parts c)
auth-parts v c read = search rules

abbrev pub name_parts : NameCert → CertParts
name_parts c = record {
  issuer = record { principal = c.issuer; name = Some c.name };
  subject = c.subject;
  propagate = false;
  tag = None;
  window = c.window;
}

pub name-parts : (v : Value) (c : NameCert) (read : NameCertOf v c) → PartsOf read.fields (name_parts c)
name-parts v c read = search rules

-- ---- signatures

pub signature-looks : IsTriple (codes "signature") signature_fault hash_fault principal_fault
unfolding signature_fault
signature-looks = record { looked = λ v. refl }

-- ---- operations

abbrev pub do_looked : Bool → List Value → Option CertFaultKind
do_looked headed rest =
    first_fault (
    unless headed Shape ∷ fault_at 0 UnknownOp (λ operation. unless (is_plain is_hash_word operation) UnknownOp) rest ∷ fault_at 1 Shape alg_fault rest
    ∷ unless_none (drop 2 rest) Shape ∷ []
    )

pub do-form : (v : Value) (rest : List Value) → v ≡ group (plain (codes "do") ∷ rest) → do_fault v ≡ do_looked true rest
unfolding do_fault
do-form v rest e = of-form do_looked (codes "do") v rest e

-- ---- the fields of certificates

abbrev parts_found : Option CertFaultKind → Bool → Bool → Bool → Option CertFaultKind
parts_found fields both issuer subject = first_fault (fields ∷ unless (not both) Shape ∷ unless issuer Shape ∷ unless subject Shape ∷ [])

pub parts-tested : (fields : List Value) (found : Option CertFaultKind) (both issuer subject : Bool) → fields_fault cert_field_fault fields ≡ found
    → is_both_ways fields ≡ both
    → has (codes "issuer") fields ≡ issuer → has (codes "subject") fields ≡ subject → parts_fault fields ≡ parts_found found both issuer subject
unfolding parts_fault
parts-tested fields found both issuer subject e f g h = λ i. parts_found (e i) (f i) (g i) (h i)

-- the same, from what is known of the fields
pub parts-known : (fields : List Value) (k : FieldValues) (both : Bool) (issuer : Option Issuer) (subject : Option WrittenSubject) → FieldValuesOf fields k
    → fields_fault cert_field_fault fields ≡ None → is_both_ways fields ≡ both → k.issuer ≡ issuer → k.subject ≡ subject
    → parts_fault fields ≡ parts_found None both (is_some issuer) (is_some subject)
parts-known fields k both issuer subject known e f g h = search (rules, parts-tested, has-given)

-- ---- certificates

abbrev pub IsCert : Value → List Value → Type 0
IsCert v rest = v ≡ group (plain (codes "cert") ∷ rest)

abbrev cert_looked : Bool → List Value → Option CertFaultKind
cert_looked headed rest = first_fault (unless headed Shape ∷ (parts_looked rest ++ unless (is_tagged_right rest) Shape ∷ []))

pub cert-unheaded : (v : Value) → IsNotHeaded v (codes "cert") → cert_fault v ≡ Some Shape
unfolding cert_fault
cert-unheaded v other = of-no_form (codes "cert") v Shape _ other

pub cert-form : (v : Value) (rest : List Value) → IsCert v rest → cert_fault v ≡ first_fault (parts_looked rest ++ unless (is_tagged_right rest) Shape ∷ [])
unfolding cert_fault
cert-form v rest e = of-form cert_looked (codes "cert") v rest e

-- the first fault of the fields, and then whether tag and propagate are right
pub cert-looked : (v : Value) (rest : List Value) (found : Option CertFaultKind) (b : Bool) → IsCert v rest → parts_fault rest ≡ found
    → is_tagged_right rest ≡ b
    → cert_fault v ≡ first_fault (found ∷ unless b Shape ∷ [])
unfolding parts_fault
cert-looked v rest found b e f g = search (rules, cert-form v rest e, first-of (parts_looked rest) (unless (is_tagged_right rest) Shape ∷ []))

issuer-named : (v : Value) (p : Principal) (name : Option (List ℕ)) → IssuerOf v p name → is_headed (codes "name") v ≡ is_some name
issuer-named v p None read = principal-else (codes "name") v p read refl refl
issuer-named v p (Some name) read = ap (is_headed (codes "name")) read.written

name-issuer : (fields : List Value) (p : Principal) (name : Option (List ℕ)) → IssuedBy fields p name → has_name_issuer fields ≡ is_some name
name-issuer fields p name given = search (rules, or-false, issuer-named)

abbrev pub right : Bool → Bool → Bool → Bool
right named tagged propagate = if named then not (tagged || propagate) else tagged

pub tagged-right : (fields : List Value) (p : CertParts) (named tagged propagate : Bool) → PartsOf fields p → is_some p.issuer.name ≡ named → is_some p.tag ≡ tagged
    → p.propagate ≡ propagate → is_tagged_right fields ≡ right named tagged propagate
tagged-right fields p named tagged propagate parts e f g = search (rules, name-issuer, has-given)

-- ---- the outer list

pub sequence-items : (v : Value) (rest : List Value) (found : Option CertFault) → v ≡ group (plain (codes "sequence") ∷ rest) → items_fault rest ≡ found → sequence_fault v ≡ found
unfolding sequence_fault
sequence-items v rest found e f =
    of-form (λ b vs. first_fault (at_item 0 (unless b Shape) ∷ items_fault vs ∷ [])) (codes "sequence") v rest e ∙ one-look (items_fault rest) ∙ f
