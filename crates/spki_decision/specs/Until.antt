-- Until when a yes holds: the least not-after of the windows of an entry and of all certificates (RFC 2693, section 6.3.2).
use Rattle.std.specs.Prelude.{◌≡◌, ℕ, suc, true, List, [], ◌∷◌, Option, Some, None, IsSome, slice_get}
use Rattle.spki_cert.specs.Time.{upto}
use Rattle.spki_cert.specs.declared.{window.Window.{Window}, certificate.SeqItem.{SeqItem, TheVariants.{Auth, Name}}, entry.Entry.{Entry}}
use Rattle.spki_reduce.specs.{Reduction.{Tuple}, Chain.{all_windows}}
use Rattle.spki_case.specs.Case.{Case}
use Rattle.spki_decision.specs.declared.{decision.Decision.{Decision, TheVariants.{Yes, No}}, grant.Grant.{Grant}}
use Rattle.spki_decision.specs.declared.chain_requirement.ChainRequirement.{ChainRequirement}
use Rattle.spki_decision.specs.{Granted.{Supported}, Requirements.{IsChainRequirement}}

-- ---- the least not-after of windows

-- the limit is the not-after of one of the windows
abbrev pub IsEndOf : List Window → List ℕ → Type 0
IsEndOf windows limit = (index : ℕ) × (w : Window) × (slice_get windows index ≡ Some w) × (w.not_after ≡ Some limit)

-- The limit is the not-after of one of the windows, and not after that of any. There is none if none of them ends.
abbrev pub IsLeastEnd : List Window → Option (List ℕ) → Type 0
IsLeastEnd windows None = (other : List ℕ) → ¬ IsEndOf windows other
IsLeastEnd windows (Some limit) = IsEndOf windows limit × ((other : List ℕ) → IsEndOf windows other → upto limit other ≡ true)

-- if something is required of an entry, this is the least not-after of the windows of the tuples
abbrev pub HasEnd : List Tuple → ChainRequirement → Type 0
HasEnd tuples requirement = IsSome requirement.required → IsLeastEnd (all_windows tuples) requirement.until

-- if the entry and the tuples support what some case asks, this is the least not-after of the windows of both
abbrev pub IsUntil : List Tuple → ChainRequirement → Entry → Option (List ℕ) → Type 0
IsUntil tuples requirement e until =
    (c : Case) → IsChainRequirement c tuples requirement → HasEnd tuples requirement → Supported c tuples e
    → IsLeastEnd (e.window ∷ all_windows tuples) until

-- ---- what is granted

-- the windows of the certificates of a sequence, also of name certificates
abbrev pub windows_in : List SeqItem → List Window
windows_in [] = []
windows_in (Auth cert ∷ items) = cert.window ∷ windows_in items
windows_in (Name cert ∷ items) = cert.window ∷ windows_in items
windows_in (item ∷ items) = windows_in items

-- the decision: the entry that grants the request, or no if there is no grant
abbrev pub decision_of : Option Grant → Decision
decision_of None = No
decision_of (Some grant) = Yes grant.entry

-- until when a yes holds: the least not-after of the window of its entry and of these windows
abbrev pub EndsWith : List Entry → List Window → Option Grant → Type 0
EndsWith entries windows None = Unit {0}
EndsWith entries windows (Some grant) =
    (index : ℕ) (e : Entry) → grant.entry ≡ suc index → slice_get entries index ≡ Some e → IsLeastEnd (e.window ∷ windows) grant.until

-- until when the yes of a case holds, by the windows of its entry and of its certificates
abbrev pub HoldsUntil : Case → Option Grant → Type 0
HoldsUntil c grant = EndsWith c.entries (windows_in c.items) grant
