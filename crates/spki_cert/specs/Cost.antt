-- How much of a subject, an entry, a certificate or a sequence is read when it is tested.
use Rattle.std.specs.Prelude.{ℕ, ◌+◌, List, [], ◌∷◌, length}
use Rattle.spki_tag.specs.Cost.{weight}
use Rattle.spki_cert.specs.declared.{principal.Principal.{Principal, TheVariants.{Key, Hash}}, entry.{Subject.{Subject}, Entry.{Entry}}}
use Rattle.spki_cert.specs.declared.certificate.SeqItem.{SeqItem}
use Rattle.spki_cert.specs.declared.certificate.SeqItem.TheVariants as items

-- the names, and their octets
abbrev pub names_weight : List (List ℕ) → ℕ
names_weight [] = 0
names_weight (name ∷ names) = 1 + length name + names_weight names

-- the octets of a key or of a digest
abbrev pub principal_weight : Principal → ℕ
principal_weight (Key key) = length key
principal_weight (Hash alg digest) = length digest

-- the names and the principal
abbrev pub subject_weight : Subject → ℕ
subject_weight s = names_weight s.names + principal_weight s.principal

-- an entry, with its subject and its tag
abbrev pub entry_weight : Entry → ℕ
entry_weight e = 1 + subject_weight e.subject + weight e.tag

-- A certificate: four for itself, its subject and its tag. Other items have no weight.
abbrev pub item_weight : SeqItem → ℕ
item_weight (items.Key octets) = 0
item_weight (items.DoHash alg) = 0
item_weight (items.Auth c) = 4 + subject_weight c.subject + weight c.tag
item_weight (items.Name c) = 4 + subject_weight c.subject
item_weight (items.Signature s) = 0

-- the sum of the weights of items
abbrev pub items_weight : List SeqItem → ℕ
items_weight [] = 0
items_weight (i ∷ is) = item_weight i + items_weight is
