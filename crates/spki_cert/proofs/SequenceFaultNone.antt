-- A value has no fault as a signature, an operation, a certificate, an item or a sequence exactly if it is one.
use Rattle.std.proofs.Common.{◌≡◌, ℕ, ◌⊎◌, inl, inr, List, [], ◌∷◌, Bool, true, false, Option, Some, None, refl, sym, ◌∙◌, rules, ◌+◌, subst}
use Rattle.std.proofs.lemmas.Slice.Eq.{bytes_eq-Decides}
use Rattle.std.specs.{Prelude.{codes, ◌↔◌, is_some, if◌then◌else◌}, List.{AllZip}}
use Rattle.sexpr_core.specs.Value.{Value, plain, group, canon}
use Rattle.spki_tag.specs.{Reading.{ReadsAs}, Faults.{unless, first_fault}}
use Rattle.spki_cert.specs.declared.{hash.HashAlg.{HashAlg}, fault.{CertFaultKind.TheVariants.{Shape}, CertFault.{CertFault}}}
use Rattle.spki_cert.specs.declared.{principal.Principal.{Principal}, entry.Subject.{Subject}}
use Rattle.spki_cert.specs.declared.certificate.{AuthCert.{AuthCert}, NameCert.{NameCert}, SeqItem.{SeqItem}}
use Rattle.spki_cert.specs.declared.certificate_reader.CertParts.{CertParts}
use Rattle.spki_cert.specs.Fields.{unread, issuer_info, subject_info, WrittenSubjectOf, IssuedTo, is_headed, Sole, Given, IsCertField, common, version, issuer, subject, display, IssuerIn, WrittenSubjectIn, propagates, behind_head}
use Rattle.spki_cert.specs.Structures.{IssuedBy, IssuedFor, AuthCertOf, NameCertOf, SignatureOf, DoHashOf, ItemOf, SeqOf, IsInPlace, AreInPlace, waits_behind, waits_after}
use Rattle.spki_cert.specs.StructureFaults.{signature_fault, do_fault, cert_fault, is_hash_word, is_tagged_right, at_item, item_fault, order_fault, waiting, items_looked, items_fault, sequence_fault}
use Rattle.spki_cert.specs.{Readings.{alg_name}, FieldFaults.{is_plain, key_fault}, Inner.Gathering.{PartsOf, parts_fault}}
use Rattle.spki_cert.proofs.HeadedLists.{Reads, other-head, headed-by, is-group, unless-none, unless_not-none, behind-none, none-found, headed-else}
use Rattle.spki_cert.proofs.SequenceFaultLaws.{triple-read, triple-form, signature-looks, do-form, parts-tested, cert-looked, tagged-right, right, auth_parts, auth-parts, name_parts, name-parts, do_looked, sequence-items}
use Rattle.spki_cert.proofs.{FieldLaws.{other-word, unread_words, unread-head, field-tag, cert-issuer, cert-subject}, FieldFaultLaws.{has-given}}
use Rattle.spki_cert.proofs.{SubjectFaultNone.{hash-none, alg-none, principal-none, key-none}, FieldFaultNone.{given-read, cert_fields-none}}
use Rattle.spki_cert.proofs.EntryFaultNone.{untimed_words, field-timed, TimedBy, window-read, window-window_of_limits, some-given, at-none}
use Rattle.spki_tag.specs.Tag as tags
use Rattle.spki_cert.specs.declared.certificate.SeqItem.TheVariants as items

-- ---- signatures

signature-read : (v : Value) → signature_fault v ≡ None → Reads SignatureOf v
signature-read v e =
    let three = triple-read signature-looks v e in
    let hash = (hash-none three.first).0 three.first_is in
    let who = (principal-none three.second).0 three.second_is in (
      record { alg = hash.0; digest = hash.1; signer = who.0; value = canon three.third },
      record {
        digest = three.first;
        signer = three.second;
        value = three.third;
        written = three.written;
        digest_is = hash.2;
        signer_is = who.1;
        value_is = refl;
      },
    )

pub signature-none : (v : Value) → (signature_fault v ≡ None) ↔ Reads SignatureOf v
unfolding signature_fault
signature-none v = (signature-read v, λ some. search (rules, hash-none, principal-none, triple-form, signature-looks))

-- ---- operations

hash-word : (v : Value) → is_plain is_hash_word v ≡ true → v ≡ plain (codes "hash")
hash-word v e = search (rules, bytes_eq-Decides)

do-of : (v : Value) (rest : List Value) → v ≡ group (plain (codes "do") ∷ rest) → do_looked true rest ≡ None → Reads DoHashOf v
do-of v (operation ∷ word ∷ []) e f =
    let hash = hash-word operation (search (rules, none-found, unless-none)) in
    let alg = (alg-none word).0 (search (rules, none-found)) in
    (alg.0, e ∙ (λ i. group (plain (codes "do") ∷ hash i ∷ alg.1 i ∷ [])))
do-of v rest e f = absurd (search (rules, none-found))

do-faultless : (v : Value) (alg : HashAlg) → DoHashOf v alg → do_fault v ≡ None
unfolding do_fault
do-faultless v alg read = let known = (alg-none (plain (alg_name alg))).1 (alg, refl) in search (rules, do-form)

pub do-none : (v : Value) → (do_fault v ≡ None) ↔ Reads DoHashOf v
unfolding do_fault
do-none v = (
  λ e. let found = behind-none (codes "do") v Shape _ e in do-of v (behind_head v) found.0 found.1,
  λ some. do-faultless v some.0 some.1,
)

-- ---- the fields of certificates

cert-timed : TimedBy IsCertField
cert-timed v word h other (common f) = field-timed v word h other f
cert-timed v word h other (version e) = absurd (other-word untimed_words v word h other (codes "version", plain (codes "0") ∷ [], e, refl))
cert-timed v word h other (issuer rest i e read) = absurd (other-word untimed_words v word h other (codes "issuer", rest, e, refl))
cert-timed v word h other (subject rest s e read) = absurd (other-word untimed_words v word h other (codes "subject", rest, e, refl))
cert-timed v word h other (unread (display xs e)) = absurd (other-word untimed_words v word h other (codes "display", xs, e, refl))
cert-timed v word h other (unread (issuer_info xs e)) = absurd (other-word untimed_words v word h other (codes "issuer-info", xs, e, refl))
cert-timed v word h other (unread (subject_info xs e)) = absurd (other-word untimed_words v word h other (codes "subject-info", xs, e, refl))

cert-tag : (v : Value) → is_headed (codes "tag") v ≡ true → IsCertField v → Reads (Sole ReadsAs) (behind_head v)
cert-tag v h (common f) = field-tag v h f
cert-tag v h (version e) = absurd (other-head (codes "tag") v _ e h refl)
cert-tag v h (issuer rest i e read) = absurd (other-head (codes "tag") v _ e h refl)
cert-tag v h (subject rest s e read) = absurd (other-head (codes "tag") v _ e h refl)
cert-tag v h (unread u) = absurd (other-word unread_words v (codes "tag") h refl (unread-head v u))

-- the subject of a certificate; if no principal is written, it is the issuer's
issued-to : (p : Principal) (v : Value) (o : Option Principal) (names : List (List ℕ)) → WrittenSubjectOf v o names → (s : Subject) × IssuedTo p v s
issued-to p v None names read = (record { principal = p; names = names }, inr (refl, read))
issued-to p v (Some q) names read = (record { principal = q; names = names }, inl read)

issued-for : (p : Principal) (fields : List Value) (s : Option Principal × List (List ℕ)) → Given (codes "subject") WrittenSubjectIn fields (Some s) → (t : Subject) × IssuedFor fields p t
issued-for p fields s (rest, once, (v, e, read)) = let issued = issued-to p v s.0 s.1 read in (issued.0, (rest, once, (v, e, issued.1)))

parts-read : (fields : List Value) → parts_fault fields ≡ None → Reads PartsOf fields
unfolding parts_fault
parts-read fields e =
    let read = (cert_fields-none fields).0 (search (rules, none-found)) in
    let window = window-read IsCertField cert-timed fields read (search (rules, none-found, unless_not-none)) in
    let by = given-read (codes "issuer") IssuerIn IsCertField cert-issuer fields read in
    let who = some-given (codes "issuer") IssuerIn fields by.0 by.1 (search (rules, none-found, unless-none)) in
    let for_one = given-read (codes "subject") WrittenSubjectIn IsCertField cert-subject fields read in
    let given = some-given (codes "subject") WrittenSubjectIn fields for_one.0 for_one.1 (search (rules, none-found, unless-none)) in
    let named = issued-for who.0.0 fields given.0 given.1 in
    let tagged = given-read (codes "tag") (Sole ReadsAs) IsCertField cert-tag fields read in (
      record {
        issuer = record { principal = who.0.0; name = who.0.1 };
        subject = named.0;
        propagate = propagates fields;
        tag = tagged.0;
        window = window.0;
      },
      record {
        are_fields = read;
        issuer_is = who.1;
        subject_is = named.1;
        propagates_is = refl;
        tag_is = tagged.1;
        window_is = window.1;
      },
    )

pub parts-faultless : (fields : List Value) (p : CertParts) → PartsOf fields p → parts_fault fields ≡ None
parts-faultless fields p parts =
    parts-tested fields None false true true ((cert_fields-none fields).1 parts.are_fields) (window-window_of_limits fields p.window parts.window_is)
    (has-given (codes "issuer") IssuerIn fields (Some (p.issuer.principal, p.issuer.name)) parts.issuer_is)
    (has-given (codes "subject") (Sole (IssuedTo p.issuer.principal)) fields (Some p.subject) parts.subject_is)

-- ---- certificates

abbrev pub SomeCert : Value → Type 0
SomeCert v = ((c : AuthCert) × AuthCertOf v c) ⊎ ((c : NameCert) × NameCertOf v c)

cert-of : (v : Value) (fields : List Value) → v ≡ group (plain (codes "cert") ∷ fields) → (p : CertParts) (parts : PartsOf fields p) → is_tagged_right fields ≡ true → SomeCert v
cert-of v fields e p parts is =
    by p.issuer.name p.tag p.propagate parts.issuer_is parts.tag_is parts.propagates_is
    (sym (tagged-right fields p (is_some p.issuer.name) (is_some p.tag) p.propagate parts refl refl refl) ∙ is)
  where
    by : (name : Option (List ℕ)) (t : Option tags.Tag) (b : Bool) → IssuedBy fields p.issuer.principal name → Given (codes "tag") (Sole ReadsAs) fields t
        → b ≡ propagates fields → right (is_some name) (is_some t) b ≡ true → SomeCert v
    by None (Some t) b issued given f g =
        inl (
          record { issuer = p.issuer.principal; subject = p.subject; propagate = b; tag = t; window = p.window; octets = canon v },
          record {
            fields = fields;
            written = e;
            are_fields = parts.are_fields;
            issuer_is = issued;
            subject_is = parts.subject_is;
            propagates_is = f;
            tag_is = given;
            window_is = parts.window_is;
            octets_are = refl;
          },
        )
    by (Some name) None false issued given f g =
        inr (
          record { issuer = p.issuer.principal; name = name; subject = p.subject; window = p.window; octets = canon v },
          record {
            fields = fields;
            written = e;
            are_fields = parts.are_fields;
            issuer_is = issued;
            subject_is = parts.subject_is;
            no_propagate = sym f;
            no_tag = given;
            window_is = parts.window_is;
            octets_are = refl;
          },
        )
    by name t b issued given f g = absurd (cc)

cert-read : (v : Value) → cert_fault v ≡ None → SomeCert v
unfolding cert_fault parts_fault
cert-read v e =
    let form = (behind-none (codes "cert") v Shape _ e).0 in
    let found = none-found (parts_fault (behind_head v)) _ (sym (cert-looked v (behind_head v) _ _ form refl refl) ∙ e) in
    let parts = parts-read (behind_head v) found.0 in
    cert-of v (behind_head v) form parts.0 parts.1 (search (rules, none-found, unless-none))

-- the first fault of a certificate, from what was read in its fields
pub cert-parts : (v : Value) (fields : List Value) (p : CertParts) (named tagged shared : Bool) → v ≡ group (plain (codes "cert") ∷ fields) → PartsOf fields p
    → is_some p.issuer.name ≡ named → is_some p.tag ≡ tagged → p.propagate ≡ shared → cert_fault v ≡ first_fault (None ∷ unless (right named tagged shared) Shape ∷ [])
cert-parts v fields p named tagged shared e parts f g h =
    cert-looked v fields None (right named tagged shared) e (parts-faultless fields p parts) (tagged-right fields p named tagged shared parts f g h)

cert-faultless : (v : Value) → SomeCert v → cert_fault v ≡ None
cert-faultless v (inl (c, read)) = cert-parts v read.fields (auth_parts c) false true c.propagate read.written (auth-parts v c read) refl refl refl
cert-faultless v (inr (c, read)) = cert-parts v read.fields (name_parts c) true false false read.written (name-parts v c read) refl refl refl

pub cert-none : (v : Value) → (cert_fault v ≡ None) ↔ SomeCert v
cert-none v = (cert-read v, cert-faultless v)

-- ---- items

cert-item : (v : Value) → SomeCert v → Reads ItemOf v
cert-item v (inl (c, read)) = (items.Auth c, read)
cert-item v (inr (c, read)) = (items.Name c, read)

item-read : (v : Value) → item_fault v ≡ None → Reads ItemOf v
unfolding item_fault
item-read v e = by (is_headed (codes "cert") v) (is_headed (codes "signature") v) (is_headed (codes "do") v) e
  where
    by : (cert signature operation : Bool)
        → (if cert then cert_fault v else if signature then signature_fault v else if operation then do_fault v else key_fault v) ≡ None → Reads ItemOf v
    by true signature operation f = cert-item v (cert-read v f)
    by false true operation f = let read = (signature-none v).0 f in (items.Signature read.0, read.1)
    by false false true f = let read = (do-none v).0 f in (items.DoHash read.0, read.1)
    by false false false f = let read = (key-none v).0 f in (items.Key read.0, read.1)

item-faultless : (v : Value) (item : SeqItem) → ItemOf v item → item_fault v ≡ None
unfolding item_fault
item-faultless v (items.Key octets) read = search (rules, headed-else, key-none)
item-faultless v (items.DoHash alg) read = search (rules, headed-else, headed-by, do-none)
item-faultless v (items.Auth c) read = let fine = cert-faultless v (inl (c, read)) in search (rules, headed-by)
item-faultless v (items.Name c) read = let fine = cert-faultless v (inr (c, read)) in search (rules, headed-by)
item-faultless v (items.Signature s) read = search (rules, headed-else, headed-by, signature-none)

pub item-none : (v : Value) → (item_fault v ≡ None) ↔ Reads ItemOf v
item-none v = (item-read v, λ some. item-faultless v some.0 some.1)

-- ---- items in their places

pub order-read : (waits : Option ℕ) (n : ℕ) (v : Value) → order_fault waits n v ≡ None → IsInPlace (is_some waits) v
order-read waits n v e = search rules

order-found : (waits : Option ℕ) (n : ℕ) (v : Value) → IsInPlace (is_some waits) v → order_fault waits n v ≡ None
order-found waits n v order = search rules

pub waits-same : (v : Value) (waits : Option ℕ) (n : ℕ) → is_some (waiting v waits n) ≡ waits_behind (is_some waits) v
waits-same v waits n = search rules

abbrev SomeItems : Bool → List Value → Type 0
SomeItems waits vs = (is : List SeqItem) × AllZip ItemOf vs is × AreInPlace waits vs × (waits_after waits vs ≡ false)

pub items-read : (waits : Option ℕ) (n : ℕ) (vs : List Value) → first_fault (items_looked waits n vs) ≡ None → SomeItems (is_some waits) vs
items-read None n [] e = ([], tt, tt, refl)
items-read (Some k) n [] e = absurd (cc)
items-read waits n (v ∷ vs) e =
    let order = none-found (order_fault waits n v) _ e in
    let looks = none-found (at_item n (item_fault v)) _ order.1 in
    let this = item-read v (at-none n (item_fault v) looks.0) in
    let more = subst (λ (b : Bool). SomeItems b vs) (waits-same v waits n) (items-read (waiting v waits n) (n + 1) vs looks.1) in
    (this.0 ∷ more.0, (this.1, more.1), (order-read waits n v order.0, more.2), more.3)

items-found : (waits : Option ℕ) (n : ℕ) (vs : List Value) → SomeItems (is_some waits) vs → first_fault (items_looked waits n vs) ≡ None
items-found None n [] some = refl
items-found waits n (v ∷ vs) (x ∷ xs, zip, orders, after) =
    (λ i. first_fault (order-found waits n v orders.0 i ∷ at_item n (item-faultless v x zip.0 i) ∷ items_looked (waiting v waits n) (n + 1) vs))
    ∙ items-found (waiting v waits n) (n + 1) vs (subst (λ (b : Bool). SomeItems b vs) (sym (waits-same v waits n)) (xs, zip.1, orders.1, after))
items-found waits n vs some = absurd (search rules)

-- ---- sequences

sequence-read : (v : Value) → sequence_fault v ≡ None → Reads SeqOf v
unfolding sequence_fault items_fault
sequence-read v e =
    let looks = none-found (at_item 0 (unless (is_headed (codes "sequence") v) Shape)) _ e in
    let head = at-none 0 (unless (is_headed (codes "sequence") v) Shape) looks.0 in
    let read = items-read None 1 (behind_head v) (none-found _ [] looks.1).0 in
    let form = is-group (codes "sequence") v (unless-none (is_headed (codes "sequence") v) Shape head) in
    (read.0, record { values = behind_head v; written = form; each = read.1; in_place = read.2; all_signed = read.3 })

sequence-faultless : (v : Value) (is : List SeqItem) → SeqOf v is → sequence_fault v ≡ None
unfolding items_fault
sequence-faultless v is read = sequence-items v read.values None read.written (items-found None 1 read.values (is, read.each, read.in_place, read.all_signed))

pub sequence-none : (v : Value) → (sequence_fault v ≡ None) ↔ Reads SeqOf v
sequence-none v = (sequence-read v, λ some. sequence-faultless v some.0 some.1)

pub sequence-refused : (v : Value) (fault : CertFault) → sequence_fault v ≡ Some fault → (is : List SeqItem) → SeqOf v is → ⊥
sequence-refused v fault e is read = absurd (let f = sym (sequence-faultless v is read) ∙ e in cc)
