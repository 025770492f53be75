-- Access lists (RFC 2693, section 3.4): their entries as a guard contains them, why a text is refused as a list, the
-- index by principals, and the decision by the entries that are found in it.
use Rattle.std.specs.Prelude.{◌≡◌, ℕ, ◌≤◌, List, map, length, ◌≢◌, ◌<◌, Some, suc, Bool, [], ◌∷◌, if◌then◌else◌, true, false, ◌&&◌, bytes_eq, slice_get, slice_index_or, drop, ltb, ◌-◌, Option, None}
use Rattle.std.specs.{List.{AllZip, AllByRecursion, filter, Sorted.{IsSortedByKey}}, Ordering.{nat_cmp, ordering_then}}
use Rattle.std.specs.{declared.cmp.Ordering.{Ordering}, Cmp.Lexicographic.{slice_cmp}, Int.{from_le_bytes, w64}}
use Rattle.sexpr_core.specs.Value.{Value, canon}
use Rattle.sexpr_text.specs.{AdvancedForm.{IsTextWithin}, CanonicalTexts.{RefusesForm, LacksForm}}
use Rattle.spki_cert.specs.declared.{entry.Entry.{Entry}, principal.{Policy.{Policy}, Principal.{Principal, TheVariants.{Key, Hash}}}}
use Rattle.spki_cert.specs.declared.{fault.CertFault.{CertFault}, hash.HashAlg.{HashAlg, TheVariants.{Sha1, Sha256, Sha512}}}
use Rattle.spki_cert.specs.{Structures.{EntryOf, AclOf}, StructureFaults.{acl_fault}, Naming.{is_same, names}}
use Rattle.spki_service.specs.declared.{limits.Limits.{Limits}, list_fault.AclFault.{AclFault}, index.{Row.{Row}, EntryIndex.{EntryIndex}}}
use Rattle.spki_service.specs.Questions.{Reads}
use Rattle.spki_reduce.specs.Reduction.{Tuple}
use Rattle.spki_case.specs.Case.{Case}
use Rattle.spki_decision.specs.{declared.decision.Decision.{Decision, TheVariants.{Yes, No}}, Granted.{Names}}
use Rattle.spki_decision.specs.Requirements.{AreKept, IsLeftOut, kept_case, IsRenumbered}
use Rattle.spki_cert.specs.declared.fault.CertFaultKind.TheVariants as kinds
use Rattle.spki_service.specs.declared.list_fault.AclFault.TheVariants as faults

-- ---- what a guard contains

-- It has the entries of an access list, each as its canonical text (RFC 2693, section 3.4; RFC 9804, section 6.2).

-- The text is the canonical text of a value that is read as the entry.
pub record IsEntryText (text : List ℕ) (e : Entry) : Type 0 where
  pub value : Value
  pub written : text ≡ canon value
  pub is : EntryOf value e

-- the texts are those of the entries, in order
abbrev pub AreEntries : List (List ℕ) → List Entry → Type 0
AreEntries texts es = AllZip IsEntryText texts es

-- What a guard is in a contract: the canonical texts of its entries, the policy, and the limits. These are on the octets, certificates
-- and strings of a question, the product of the nodes of two tags, the work of all entries, and the octets of an answer.
pub record GuardModel : Type 0 where
  pub texts : List (List ℕ)
  pub policy : Policy
  pub octets : ℕ
  pub certificates : ℕ
  pub words : ℕ
  pub nodes : ℕ
  pub work : ℕ
  pub answer : ℕ

-- the guard has these limits
abbrev pub HasLimits : GuardModel → Limits → Type 0
HasLimits g limits =
    (g.octets ≡ limits.octets) × (g.certificates ≡ limits.certificates) × (g.words ≡ limits.words) × (g.nodes ≡ limits.nodes)
    × (g.work ≡ limits.work) × (g.answer ≡ limits.answer)

-- The value is an access list, and these are the canonical texts of its entries, in order.
pub record HoldsValue (v : Value) (texts : List (List ℕ)) : Type 0 where
  pub entries : List Entry
  pub is : AclOf v entries
  pub texts_are : texts ≡ map canon is.entries
  pub held : AreEntries texts entries

-- The text is an access list in one of the three forms, and these are the canonical texts of its entries, in order. Its own
-- canonical form has at most 1,048,576 octets.
pub record HoldsList (list : List ℕ) (texts : List (List ℕ)) : Type 0 where
  pub value : Value
  pub spelled : IsTextWithin list value
  pub short : length (canon value) ≤ 1048576
  pub holds : HoldsValue value texts

-- ---- why a text is refused as an access list (RFC 2693, section 3.4)

-- The value is no access list. The fault names one of its entries, or the whole list, and is the first one from the left.
pub record IsNoAcl (fault : CertFault) (v : Value) : Type 0 where
  pub found : fault.kind ≢ kinds.Memory
  pub named : acl_fault v ≡ Some fault
  pub none : (es : List Entry) → ¬ AclOf v es

-- What a fault means for a text in any of the three forms, except for Memory.
abbrev pub IsNoAccessList : List ℕ → AclFault → Type 0
IsNoAccessList list (faults.Form fault) = LacksForm (IsTextWithin list) (RefusesForm list) fault
IsNoAccessList list (faults.Acl fault) = Reads (IsTextWithin list) (IsNoAcl fault)
IsNoAccessList list faults.Memory = ⊥

-- ---- the entries of an access list that pass a test, and their numbers

-- the entries that pass a test, in their order, each with its number; the first entry of the list has number n
abbrev pub kept_from : ℕ → (Entry → Bool) → List Entry → List (ℕ × Entry)
kept_from n test [] = []
kept_from n test (e ∷ es) = if test e then (n, e) ∷ kept_from (suc n) test es else kept_from (suc n) test es

abbrev pub first : ℕ × Entry → ℕ
first k = k.0

-- the numbers of these entries
abbrev pub numbers_from : ℕ → (Entry → Bool) → List Entry → List ℕ
numbers_from n test es = map first (kept_from n test es)

-- ---- an index of an access list by the principals of its entries' subjects (RFC 2693, section 2.5)

-- the octets of a principal: those of the key, or the digest
abbrev pub octets_of : Principal → List ℕ
octets_of (Key own) = own
octets_of (Hash alg digest) = digest

-- a kind of principals: the hashes by an algorithm, or the keys if there is none
abbrev pub Kind : Type 0
Kind = Option HashAlg

-- whether a principal is of a kind
abbrev pub is_by : Kind → Principal → Bool
is_by None (Key own) = true
is_by None (Hash alg digest) = false
is_by (Some alg) (Key own) = false
is_by (Some alg) (Hash by digest) = is_same by alg

-- whether a principal is of a kind and has these octets
abbrev pub is_principal : Kind → List ℕ → Principal → Bool
is_principal kind octets p = is_by kind p && bytes_eq octets (octets_of p)

-- the octets of a row's principal, if these are the octets of the principals of all entries
abbrev pub row_octets : List (List ℕ) → Row → List ℕ
row_octets principals row = slice_index_or principals (row.number - 1) []

-- the last eight octets as a number, or 0 if there are fewer
abbrev pub tail_of : List ℕ → ℕ
tail_of octets = if ltb (length octets) 8 then 0 else from_le_bytes w64 (drop (length octets - 8) octets)

-- what rows are sorted by: the tail of the principal's octets, then all its octets; and the order of these pairs
abbrev pub row_key : List (List ℕ) → Row → ℕ × List ℕ
row_key principals row = (row.tail, row_octets principals row)

abbrev pub key_order : ℕ × List ℕ → ℕ × List ℕ → Ordering
key_order x y = ordering_then (nat_cmp x.0 y.0) (slice_cmp nat_cmp x.1 y.1)

-- The rows are in this order, and each has the tail of its principal's octets.
pub record IsInOrder (principals : List (List ℕ)) (rows : List Row) : Type 0 where
  pub tails : AllByRecursion (λ row. row.tail ≡ tail_of (row_octets principals row)) rows
  pub ascend : IsSortedByKey (row_key principals) key_order rows

-- the rows of a kind
abbrev pub rows_by : EntryIndex → Kind → List Row
rows_by index None = index.keys.items
rows_by index (Some Sha1) = index.sha1.items
rows_by index (Some Sha256) = index.sha256.items
rows_by index (Some Sha512) = index.sha512.items

abbrev pub row_number : Row → ℕ
row_number row = row.number

-- the principals of the subjects of entries, in order
abbrev pub owners_of : List Entry → List Principal
owners_of es = map (λ e. e.subject.principal) es

-- the rows of the entries of a kind, in the order of the entries; the first entry has number n
abbrev pub rows_from : ℕ → Kind → List Principal → List Row
rows_from n kind [] = []
rows_from n kind (p ∷ ps) =
    if is_by kind p then record { tail = tail_of (octets_of p); number = n } ∷ rows_from (suc n) kind ps
    else rows_from (suc n) kind ps

-- the numbers of the rows whose principal has these octets
abbrev pub numbers_with : List (List ℕ) → List ℕ → List Row → List ℕ
numbers_with principals octets rows = map row_number (filter (λ row. bytes_eq octets (row_octets principals row)) rows)

-- An index of these entries. For each kind its rows have the numbers of the entries of this kind, and are in order.
pub record IsIndexOf (es : List Entry) (index : EntryIndex) : Type 0 where
  pub numbers : (kind : Kind) (octets : List ℕ) → numbers_with index.principals octets (rows_by index kind)
      ≡ numbers_from 1 (λ e. is_principal kind octets e.subject.principal) es
  pub ordered : (kind : Kind) → IsInOrder index.principals (rows_by index kind)

-- ---- entries that are selected from a list by their numbers, counted from 1

-- an entry has this number in a list
abbrev pub HasNumber : List Entry → ℕ → Entry → Type 0
HasNumber es n e = (index : ℕ) × (n ≡ suc index) × (slice_get es index ≡ Some e)

-- these are the entries with these numbers
abbrev pub ArePicked : List Entry → List ℕ → List Entry → Type 0
ArePicked es numbers picked = AllZip (HasNumber es) numbers picked

-- numbers of entries of a list of this length
abbrev pub AreNumbers : ℕ → List ℕ → Type 0
AreNumbers long numbers = AllByRecursion (λ n. (0 < n) × (n ≤ long)) numbers

-- ---- the decision by the entries that are found for a question

-- whether an entry's principal names a key; false if there is no key
abbrev pub is_of : Policy → Option (List ℕ) → Entry → Bool
is_of policy None e = false
is_of policy (Some key) e = names policy e.subject.principal key

-- The decision by the entries that are kept, if these are the tuples of the certificates. A decision names an entry by its
-- number in the whole list.
abbrev pub DecidesKept : Case → List Tuple → List (ℕ × Entry) → Decision → Type 0
DecidesKept c tuples kept d = (part : Decision) × Names (kept_case c kept) tuples part × IsRenumbered kept part d

-- the decision by some of the list's entries; only entries that may be left out are missing
abbrev pub DecidesPartly : Case → List Tuple → Decision → Type 0
DecidesPartly c tuples d = (kept : List (ℕ × Entry)) × AreKept (IsLeftOut c tuples) 1 c.entries kept × DecidesKept c tuples kept d

-- a decision names an entry by its index among the entries with these numbers, and another one by its number
abbrev pub IsNumbered : List ℕ → Decision → Decision → Type 0
IsNumbered numbers (Yes index) (Yes n) = slice_get numbers (index - 1) ≡ Some n
IsNumbered numbers (Yes index) No = ⊥
IsNumbered numbers No (Yes n) = ⊥
IsNumbered numbers No No = Unit {0}

-- the decision of a case with only these entries, by their numbers
abbrev pub NamesPicked : Case → List Tuple → List ℕ → Decision → Type 0
NamesPicked c tuples numbers d = (part : Decision) × Names c tuples part × IsNumbered numbers part d
