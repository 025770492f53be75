-- The weight of an entry or of a sequence is bounded by a multiple of the octets of its canonical text.
use Rattle.std.proofs.Common.{◌≡◌, ℕ, ◌+◌, ◌*◌, ◌≤◌, ◌<◌, inl, inr, List, [], ◌∷◌, length, arith, Option, Some, None, codes, ap, rules}
use Rattle.std.proofs.lemmas.Bool.{cond_both}
use Rattle.std.specs.List.{AllZip}
use Rattle.sexpr_core.specs.Value.{Value, Values, string, list, none, more, plain, group, canon, canons, values, members}
use Rattle.spki_tag.{specs.{Cost.{weight}, Reading.{ReadsAs}}, proofs.Weights.{read_weight, verbatim_ge, canon_list, canons_more}}
use Rattle.spki_cert.specs.declared.{principal.Principal.{Principal, TheVariants.{Key, Hash}}, entry.{Subject.{Subject}, Entry.{Entry}}}
use Rattle.spki_cert.specs.declared.certificate.{AuthCert.{AuthCert}, NameCert.{NameCert}, SeqItem.{SeqItem}}
use Rattle.spki_cert.specs.Fields.{PrincipalOf, plains, RelativeOf, IsNamedSubject, IssuedTo, IssuerOf, is_headed, behind_head, contents, TagOf}
use Rattle.spki_cert.specs.{Readings.{alg_name}, Structures.{EntryOf, AuthCertOf, NameCertOf, ItemOf, SeqOf, IssuedBy, IssuedFor}}
use Rattle.spki_cert.specs.Cost.{names_weight, principal_weight, subject_weight, entry_weight, item_weight, items_weight}
use Rattle.spki_tag.specs.Tag as tags
use Rattle.spki_cert.specs.declared.certificate.SeqItem.TheVariants as items

-- ---- octets of values

-- the octets of the canonical text of a value, and of values one after the other
abbrev long : Value → ℕ
long v = length (canon v)

abbrev longs : List Value → ℕ
longs vs = length (canons (values vs))

more_long : (v : Value) (vs : List Value) → longs (v ∷ vs) ≡ long v + longs vs
more_long v vs = canons_more v (values vs)

-- a list is longer than its head and its members
group_ge : (head : List ℕ) (vs : List Value) → 3 + length head + longs vs ≤ long (group (plain head ∷ vs))
group_ge head vs = omega (arith, canon_list (values (plain head ∷ vs)), more_long (plain head) vs, verbatim_ge head)

-- the same for a value that is the list
headed_ge : (v : Value) (head : List ℕ) (vs : List Value) → v ≡ group (plain head ∷ vs) → 3 + length head + longs vs ≤ long v
headed_ge v head vs e = omega (arith, ap long e, group_ge head vs)

-- ---- subjects and issuers

names_ge : (ns : List (List ℕ)) → names_weight ns ≤ longs (plains ns)
names_ge [] = omega arith
names_ge (n ∷ ns) = omega (arith, more_long (plain n) (plains ns), verbatim_ge n, names_ge ns)

principal_ge : (v : Value) (p : Principal) → PrincipalOf v p → principal_weight p ≤ long v
principal_ge v (Key octets) is = omega (arith, ap length is.canonical)
principal_ge v (Hash alg digest) is =
    let name = plain (alg_name alg) in
    omega (
      arith,
      headed_ge v (codes "hash") (name ∷ is.octets ∷ is.further) is.written,
      more_long name (is.octets ∷ is.further),
      more_long is.octets is.further,
      ap long is.digest_is.written,
      verbatim_ge digest,
    )

who_ge : (v : Value) (p : Principal) (ns : List (List ℕ)) → IsNamedSubject v p ns → names_weight ns + principal_weight p ≤ long v
who_ge v p ns (inl is) = omega (arith, principal_ge v p is.0, ap names_weight is.1)
who_ge v p ns (inr is) =
    omega (
      arith,
      headed_ge v (codes "name") (is.owner ∷ plains ns) is.written,
      more_long is.owner (plains ns),
      principal_ge is.owner p is.owner_is,
      names_ge ns,
    )

relative_ge : (v : Value) (ns : List (List ℕ)) → RelativeOf v ns → names_weight ns ≤ long v
relative_ge v ns is = omega (arith, headed_ge v (codes "name") (plains ns) is.written, names_ge ns)

issuer_ge : (v : Value) (p : Principal) (name : Option (List ℕ)) → IssuerOf v p name → principal_weight p ≤ long v
issuer_ge v p None is = principal_ge v p is
issuer_ge v p (Some name) is = omega (arith, who_ge v p (name ∷ []) (inr is))

issued_ge : (issuer : Principal) (v : Value) (s : Subject) → IssuedTo issuer v s → subject_weight s ≤ long v + principal_weight issuer
issued_ge issuer v s (inl is) = omega (arith, who_ge v s.principal s.names is)
issued_ge issuer v s (inr is) = omega (arith, relative_ge v s.names is.1, ap principal_weight is.0)

-- ---- fields

values-members : (vs : Values) → values (members vs) ≡ vs
values-members none = search rules
values-members (more v vs) = ap (more v) (values-members vs)

behind_ge : (v : Value) → longs (behind_head v) ≤ long v
behind_ge (string hint octets) = omega arith
behind_ge (list none) = omega arith
behind_ge (list (more head others)) =
    omega (arith, canon_list (more head others), canons_more head others, ap (λ (vs : Values). length (canons vs)) (values-members others))

-- the octets of the contents of several fields
abbrev total : List (List Value) → ℕ
total [] = 0
total (vs ∷ rest) = longs vs + total rest

total_ge : (word : List ℕ) (fields : List Value) → total (contents word fields) ≤ longs fields
total_ge word [] = omega arith
total_ge word (v ∷ vs) =
    let more_of = more_long v vs in
    let later = total_ge word vs in
    let inner = behind_ge v in
    cond_both (is_headed word v) (behind_head v ∷ contents word vs) (contents word vs) (λ (rest : List (List Value)). total rest ≤ longs (v ∷ vs))
    (λ _. omega (arith, more_of, later, inner)) (λ _. omega (arith, more_of, later))

-- the only value after the head of the only field with this head
sole_ge : (word : List ℕ) (fields rest : List Value) (v : Value) → contents word fields ≡ rest ∷ [] → rest ≡ v ∷ [] → long v ≤ longs fields
sole_ge word fields rest v once sole = omega (arith, total_ge word fields, ap total once, ap longs sole, more_long v [])

reads_ge : (v : Value) (t : tags.Tag) → ReadsAs v t → weight t ≤ long v
reads_ge v t is = omega (arith, ap weight is.value, read_weight is.w, ap long is.spelled)

tag_ge : (fields : List Value) (t : tags.Tag) → TagOf fields t → weight t ≤ longs fields
tag_ge fields t (rest, once, (v, sole, is)) = omega (arith, sole_ge (codes "tag") fields rest v once sole, reads_ge v t is)

issuer_of_ge : (fields : List Value) (p : Principal) (name : Option (List ℕ)) → IssuedBy fields p name → principal_weight p ≤ longs fields
issuer_of_ge fields p name (rest, once, (v, sole, is)) = omega (arith, sole_ge (codes "issuer") fields rest v once sole, issuer_ge v p name is)

subject_of_ge : (fields : List Value) (issuer : Principal) (s : Subject) → IssuedFor fields issuer s
    → subject_weight s ≤ longs fields + principal_weight issuer
subject_of_ge fields issuer s (rest, once, (v, sole, is)) =
    omega (arith, sole_ge (codes "subject") fields rest v once sole, issued_ge issuer v s is)

-- ---- entries

pub entry_ge : (v : Value) (e : Entry) → EntryOf v e → entry_weight e < length (canon v)
entry_ge v e is =
    omega (
      arith,
      headed_ge v (codes "entry") (is.subject ∷ is.fields) is.written,
      more_long is.subject is.fields,
      who_ge is.subject e.subject.principal e.subject.names is.subject_is,
      tag_ge is.fields e.tag is.tag_is,
    )

-- ---- sequences

auth_ge : (v : Value) (c : AuthCert) → AuthCertOf v c → item_weight (items.Auth c) ≤ 4 * long v
auth_ge v c is =
    omega (
      arith,
      headed_ge v (codes "cert") is.fields is.written,
      issuer_of_ge is.fields c.issuer None is.issuer_is,
      subject_of_ge is.fields c.issuer c.subject is.subject_is,
      tag_ge is.fields c.tag is.tag_is,
    )

name_ge : (v : Value) (c : NameCert) → NameCertOf v c → item_weight (items.Name c) ≤ 4 * long v
name_ge v c is =
    omega (
      arith,
      headed_ge v (codes "cert") is.fields is.written,
      issuer_of_ge is.fields c.issuer (Some c.name) is.issuer_is,
      subject_of_ge is.fields c.issuer c.subject is.subject_is,
    )

item_ge : (v : Value) (i : SeqItem) → ItemOf v i → item_weight i ≤ 4 * long v
item_ge v (items.Key octets) is = omega arith
item_ge v (items.DoHash alg) is = omega arith
item_ge v (items.Auth c) is = auth_ge v c is
item_ge v (items.Name c) is = name_ge v c is
item_ge v (items.Signature s) is = omega arith

items_ge : (vs : List Value) (is : List SeqItem) → AllZip ItemOf vs is → items_weight is ≤ 4 * longs vs
items_ge [] [] are = omega arith
items_ge (v ∷ vs) (i ∷ is) are = omega (arith, item_ge v i are.0, items_ge vs is are.1, more_long v vs)
items_ge vs is are = absurd (search rules)

pub sequence_ge : (v : Value) (is : List SeqItem) → SeqOf v is → items_weight is ≤ 4 * length (canon v)
sequence_ge v is read = omega (arith, headed_ge v (codes "sequence") read.values read.written, items_ge read.values is read.each)
