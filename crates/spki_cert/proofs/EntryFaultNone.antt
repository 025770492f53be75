-- A value has no fault as an entry or as an access list exactly if it is one.
use Rattle.std.proofs.Common.{◌≡◌, ℕ, ◌+◌, List, [], ◌∷◌, ◌++◌, length, arith, Bool, true, false, ◌&&◌, ◌||◌, Option, Some, None, refl, sym, ap, ◌∙◌, rules}
use Rattle.std.proofs.{Math.Bool.{and-false}, lemmas.Bool.{or_parts}}
use Rattle.std.specs.{Prelude.{codes, ◌↔◌, if◌then◌else◌}, List.{AllZip}}
use Rattle.sexpr_core.specs.Value.{Value, plain, group}
use Rattle.spki_tag.specs.{Reading.{ReadsAs}, Faults.{first_fault}}
use Rattle.spki_cert.specs.declared.{fault.{CertFault.{CertFault}, CertFaultKind.{CertFaultKind, TheVariants.{Shape}}}, window.Window.{Window}}
use Rattle.spki_cert.specs.declared.entry.Entry.{Entry}
use Rattle.spki_cert.specs.Fields.{is_headed, behind_head, Sole, Given, ValidOf, IsTimeField, IsField, propagate, tag, time, comment, AreFields, propagates, WindowOf, directly, in_valid}
use Rattle.spki_cert.specs.StructureFaults.{IsRefusedAt, behind_version, entry_fault, at_item, each_looked, acl_version_fault, outer_fault, entries_fault, acl_fault}
use Rattle.spki_cert.specs.{Readings.{DateOf}, Structures.{EntryOf, AclOf, IsVersion, BeginsWell}}
use Rattle.spki_cert.specs.{FieldFaults.{sole_fault, has, version_fault, is_both_ways}, Inner.Gathering.{is_word_among}}
use Rattle.spki_cert.proofs.HeadedLists.{Reads, is-group, unless-none, unless_not-none, behind-none, none-found}
use Rattle.spki_cert.proofs.FieldLaws.{none-headed, headed-none, other-word, time-first, time-last, time-valid, field-tag}
use Rattle.spki_cert.proofs.EntryFaultLaws.{entries-behind, entry-unversioned, acl-read, entry_looked, entry-looked, outer-form, acl-entries}
use Rattle.spki_cert.proofs.{FieldFaultLaws.{has-given, version-faultless}, SubjectFaultNone.{entry_subject-none}}
use Rattle.spki_cert.proofs.FieldFaultNone.{given-read, entry_fields-none, versions-read}

-- ---- windows

-- heads of the fields that say nothing of validity
abbrev pub untimed_words : List (List ℕ)
untimed_words =
    codes "propagate" ∷ codes "tag" ∷ codes "comment" ∷ codes "version" ∷ codes "issuer" ∷ codes "subject" ∷ codes "display" ∷ codes "issuer-info" ∷ codes "subject-info" ∷ []

-- a field with a head other than these is one of validity
abbrev pub TimedBy : (Value → Type 0) → Type 0
TimedBy IsOne = (v : Value) (word : List ℕ) → is_headed word v ≡ true → is_word_among untimed_words word ≡ false → IsOne v → IsTimeField v

module _ (IsOne : Value → Type 0) (timed : TimedBy IsOne) (fields : List Value) (read : AreFields IsOne fields) where
  pub window-read : is_both_ways fields ≡ false → (w : Window) × WindowOf fields w
  window-read one =
      let first = given-read (codes "not-before") (Sole DateOf) IsOne (λ v h f. time-first v h (timed v (codes "not-before") h refl f)) fields read in
      let last = given-read (codes "not-after") (Sole DateOf) IsOne (λ v h f. time-last v h (timed v (codes "not-after") h refl f)) fields read in
      let valid = given-read (codes "valid") ValidOf IsOne (λ v h f. time-valid v h (timed v (codes "valid") h refl f)) fields read in
      by first.0 last.0 valid.0 first.1 last.1 valid.1
    where
      by : (first last : Option (List ℕ)) (valid : Option Window) → Given (codes "not-before") (Sole DateOf) fields first → Given (codes "not-after") (Sole DateOf) fields last
          → Given (codes "valid") ValidOf fields valid → (w : Window) × WindowOf fields w
      by first last None e f g = (record { not_before = first; not_after = last }, directly g (e, f))
      by first last (Some w) e f g =
          let none = or_parts (has (codes "not-before") fields) (has (codes "not-after") fields) (rw (has-given (codes "valid") ValidOf fields (Some w) g) at one) in
          (w, in_valid g (none-headed (codes "not-before") fields none.0) (none-headed (codes "not-after") fields none.1))

pub window-window_of_limits : (fields : List Value) (w : Window) → WindowOf fields w → is_both_ways fields ≡ false
window-window_of_limits fields w (directly none limits) = ap (λ (b : Bool). b && (has (codes "not-before") fields || has (codes "not-after") fields)) (headed-none (codes "valid") fields none)
window-window_of_limits fields w (in_valid given first last) = search (rules, headed-none, and-false)

-- ---- entries

pub field-timed : TimedBy IsField
field-timed v word h other (time f) = f
field-timed v word h other (propagate e) = absurd (other-word untimed_words v word h other (codes "propagate", [], e, refl))
field-timed v word h other (tag rest t e read) = absurd (other-word untimed_words v word h other (codes "tag", rest, e, refl))
field-timed v word h other (comment xs e) = absurd (other-word untimed_words v word h other (codes "comment", xs, e, refl))

pub some-given : {A : Type 0} (word : List ℕ) (R : List Value → A → Type 0) (fields : List Value) (o : Option A) → Given word R fields o → has word fields ≡ true
    → (a : A) × Given word R fields (Some a)
some-given word R fields None given e = absurd (let f = sym (has-given word R fields None given) ∙ e in cc)
some-given word R fields (Some a) given e = (a, given)

entry-of : (v : Value) (rest : List Value) → v ≡ group (plain (codes "entry") ∷ rest) → entry_looked true rest ≡ None → Reads EntryOf v
entry-of v [] e f = absurd (cc)
entry-of v (subject ∷ fields) e f =
    let named = (entry_subject-none subject).0 (search (rules, none-found)) in
    let read = (entry_fields-none fields).0 (search (rules, none-found)) in
    let window = window-read IsField field-timed fields read (search (rules, none-found, unless_not-none)) in
    let found = given-read (codes "tag") (Sole ReadsAs) IsField field-tag fields read in
    let given = some-given (codes "tag") (Sole ReadsAs) fields found.0 found.1 (search (rules, none-found, unless-none)) in (
      record { subject = named.0; propagate = propagates fields; tag = given.0; window = window.0 },
      record {
        subject = subject;
        fields = fields;
        written = e;
        subject_is = named.1;
        are_fields = read;
        propagates_is = refl;
        tag_is = given.1;
        window_is = window.1;
      },
    )

entry-read : (v : Value) → entry_fault v ≡ None → Reads EntryOf v
unfolding entry_fault
entry-read v e = let found = behind-none (codes "entry") v Shape _ e in entry-of v (behind_head v) found.0 found.1

entry-faultless : (v : Value) (e : Entry) → EntryOf v e → entry_fault v ≡ None
entry-faultless v e read =
    entry-looked v read.subject _ read.fields None None false true read.written refl
    ((entry_subject-none read.subject).1 (e.subject, read.subject_is))
    ((entry_fields-none read.fields).1 read.are_fields) (window-window_of_limits read.fields e.window read.window_is)
    (has-given (codes "tag") (Sole ReadsAs) read.fields (Some e.tag) read.tag_is)

pub entry-none : (v : Value) → (entry_fault v ≡ None) ↔ Reads EntryOf v
entry-none v = (entry-read v, λ some. entry-faultless v some.0 some.1)

pub entry-refused : (v : Value) (kind : CertFaultKind) → entry_fault v ≡ Some kind → (e : Entry) → EntryOf v e → ⊥
entry-refused v kind e entry read = absurd (let f = sym (entry-faultless v entry read) ∙ e in cc)

-- ---- items in a row

pub at-none : (item : ℕ) (found : Option CertFaultKind) → at_item item found ≡ None → found ≡ None
at-none item None e = refl
at-none item (Some kind) e = absurd (cc)

module _ {A : Type 0} (fault_of : Value → Option CertFaultKind) (R : Value → A → Type 0) (none : (v : Value) → (fault_of v ≡ None) ↔ Reads R v) where
  each-read : (n : ℕ) (vs : List Value) → first_fault (each_looked fault_of n vs) ≡ None → Reads (AllZip R) vs
  each-read n [] e = ([], tt)
  each-read n (v ∷ vs) e =
      let looks = none-found (at_item n (fault_of v)) _ e in
      let this = (none v).0 (at-none n (fault_of v) looks.0) in
      let more = each-read (n + 1) vs looks.1 in
      (this.0 ∷ more.0, (this.1, more.1))

  each-faultless : (n : ℕ) (vs : List Value) (xs : List A) → AllZip R vs xs → first_fault (each_looked fault_of n vs) ≡ None
  each-faultless n [] xs zip = refl
  each-faultless n (v ∷ vs) [] zip = absurd zip
  each-faultless n (v ∷ vs) (a ∷ xs) zip = search (rules, each-faultless (n + 1) vs xs zip.1)

  pub each-none : (n : ℕ) (vs : List Value) → (first_fault (each_looked fault_of n vs) ≡ None) ↔ Reads (AllZip R) vs
  each-none n vs = (each-read n vs, λ some. each-faultless n vs some.0 some.1)

  -- the first that has a fault
  abbrev First : CertFault → ℕ → List Value → Type 0
  First fault n vs =
      (front : List Value) × (v : Value) × (behind : List Value) × (vs ≡ front ++ v ∷ behind) × (fault.item ≡ length front + n)
      × ((xs : List A) × AllZip R front xs) × (fault_of v ≡ Some fault.kind)

  pub each-first : (fault : CertFault) (n : ℕ) (vs : List Value) → first_fault (each_looked fault_of n vs) ≡ Some fault → First fault n vs
  each-first fault n [] e = absurd (cc)
  each-first fault n (v ∷ vs) e = by (fault_of v) refl e (each-first fault (n + 1) vs)
    where
      by : (o : Option CertFaultKind) → fault_of v ≡ o → first_fault (at_item n o ∷ each_looked fault_of (n + 1) vs) ≡ Some fault
          → (first_fault (each_looked fault_of (n + 1) vs) ≡ Some fault → First fault (n + 1) vs) → First fault n (v ∷ vs)
      by (Some kind) f g more =
          let same : record { item = n; kind = kind } ≡ fault = cc in
          let item : n ≡ fault.item = ap (λ (x : CertFault). x.item) same in
          ([], v, vs, refl, omega (arith, item), ([], tt), f ∙ ap (λ (x : CertFault). Some x.kind) same)
      by None f g more =
          let first = more g in
          let this = (none v).0 f in (
            v ∷ first.0,
            first.1,
            first.2,
            ap (λ (ws : List Value). v ∷ ws) first.3,
            omega (arith, first.4),
            (this.0 ∷ first.5.0, (this.1, first.5.1)),
            first.6,
          )

pub entries-refused : (vs : List Value) (fault : CertFault) → entries_fault vs ≡ Some fault
    → (v : Value) × IsRefusedAt EntryOf vs fault.item v × (entry_fault v ≡ Some fault.kind)
unfolding entries_fault
entries-refused vs fault e =
    let first = each-first entry_fault EntryOf entry-none fault 1 vs e in
    search (rules, entry-refused)

-- ---- access lists

begins-well : (vs : List Value) → acl_version_fault vs ≡ None → BeginsWell vs
begins-well [] e = tt
begins-well (v ∷ vs) e = λ h. is-group (codes "version") v h ∙ ap (λ (ws : List Value). group (plain (codes "version") ∷ ws)) (versions-read (behind_head v) (rw h at e))

pub version-well : (vs : List Value) → BeginsWell vs → acl_version_fault vs ≡ None
version-well [] well = refl
version-well (v ∷ vs) well = by (is_headed (codes "version") v) refl
  where
    by : (b : Bool) → is_headed (codes "version") v ≡ b → (if b then sole_fault Shape version_fault (behind_head v) else None) ≡ None
    by true e = ap (λ (w : Value). sole_fault Shape version_fault (behind_head w)) (well e) ∙ version-faultless (plain (codes "0") ∷ []) refl
    by false e = refl

pub outer-read : (v : Value) → outer_fault v ≡ None → (v ≡ group (plain (codes "acl") ∷ behind_head v)) × BeginsWell (behind_head v)
unfolding outer_fault
outer-read v e = search (rules, none-found, is-group, unless-none, begins-well)

pub outer-well : (v : Value) (all : List Value) → v ≡ group (plain (codes "acl") ∷ all) → BeginsWell all → outer_fault v ≡ None
outer-well v all e well = outer-form v all e ∙ ap (λ (found : Option CertFaultKind). first_fault (found ∷ [])) (version-well all well)

acl-whole : (v : Value) → acl_fault v ≡ None → Reads AclOf v
unfolding acl_fault entries_fault
acl-whole v e =
    let looks = none-found (at_item 0 (outer_fault v)) _ e in
    let outer = outer-read v (at-none 0 (outer_fault v) looks.0) in
    let entries = (each-none entry_fault EntryOf entry-none 1 (behind_version (behind_head v))).0 (none-found _ [] looks.1).0 in
    (entries.0, acl-read v (behind_head v) _ entries.0 outer.0 outer.1 refl entries.1)

well-begun : (version entries : List Value) (es : List Entry) → IsVersion version → AllZip EntryOf entries es → BeginsWell (version ++ entries)
well-begun [] [] es is zip = tt
well-begun [] (x ∷ xs) (a ∷ es) is zip = λ h. absurd (let f = entry-unversioned x a zip.0 in cc)
well-begun (w ∷ []) entries es is zip = λ h. is
well-begun version entries es is zip = absurd (search rules)

acl-faultless : (v : Value) (es : List Entry) → AclOf v es → acl_fault v ≡ None
unfolding entries_fault
acl-faultless v es read =
    acl-entries v (read.version ++ read.entries) read.entries None read.written
    (outer-well v (read.version ++ read.entries) read.written (well-begun read.version read.entries es read.version_is read.each))
    (sym (entries-behind read.version read.entries es read.version_is read.each))
    ((each-none entry_fault EntryOf entry-none 1 read.entries).1 (es, read.each))

pub acl-none : (v : Value) → (acl_fault v ≡ None) ↔ Reads AclOf v
acl-none v = (acl-whole v, λ some. acl-faultless v some.0 some.1)

pub acl-refused : (v : Value) (fault : CertFault) → acl_fault v ≡ Some fault → (es : List Entry) → AclOf v es → ⊥
acl-refused v fault e es read = absurd (let f = sym (acl-faultless v es read) ∙ e in cc)
