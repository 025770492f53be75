-- The separate accepted list of a value, and what its rows state.
use Rattle.std.specs.{Prelude.{◌≡◌, ◌≢◌, ◌⊎◌, List, ℕ, Some, codes, IsTrue}, List.{AllZip}}
use Rattle.sexpr_core.specs.Value.{Value}
use Rattle.spki_cert.specs.declared.fault.CertFault.{CertFault}
use Rattle.spki_case.specs.{Case.{Row, Verified, accepts, headed, RowOf, rows_fault, IsTextOf, IsMalformed}, declared.rows.RowsFault.{RowsFault}}
use Rattle.spki_cert.specs.declared.fault.CertFaultKind.TheVariants as kinds
use Rattle.spki_case.specs.declared.rows.RowsFault.TheVariants as faults

-- a list with the head `accepted`
abbrev pub accepted_value : List Value → Value
accepted_value members = headed (codes "accepted") members

-- The value is an accepted list of these rows.
pub record RowsOf (v : Value) (rows : List Row) : Type 0 where
  pub members : List Value
  pub written : v ≡ accepted_value members
  pub read : AllZip RowOf members rows

-- what rows state, as a verifier: one of them has this key, this value and the digest of this message
abbrev pub stated_by : List Row → Verified
stated_by rows key message value = IsTrue (accepts rows key message value)

-- ---- refusals

-- The value is no list with this head, and the fault is Shape.
pub record IsNoAcceptedList (v : Value) (fault : RowsFault) : Type 0 where
  pub named : fault ≡ faults.Shape
  pub none : (members : List Value) → v ≢ accepted_value members

-- The value is one with a row that cannot be read, and the fault names the first such row.
pub record LacksRow (v : Value) (fault : RowsFault) : Type 0 where
  pub members : List Value
  pub written : v ≡ accepted_value members
  pub lacking : CertFault
  pub named : fault ≡ faults.Row lacking
  pub found : lacking.kind ≢ kinds.Memory
  pub first : rows_fault members ≡ Some lacking
  pub none : (rows : List Row) → ¬ AllZip RowOf members rows

-- What a fault means for a value, except for Memory.
abbrev pub NoRows : Value → RowsFault → Type 0
NoRows v fault = IsNoAcceptedList v fault ⊎ LacksRow v fault

-- ---- texts

-- the text is the canonical form, within the limits, of a value that is an accepted list of these rows
abbrev pub IsRowsText : List ℕ → List Row → Type 0
IsRowsText text rows = IsTextOf (λ v. RowsOf v rows) text

-- What a fault means for a text, except for Memory. The text is no canonical form within the limits, or its value is
-- refused for the fault.
abbrev pub RowsTextRefused : List ℕ → RowsFault → Type 0
RowsTextRefused text fault = IsMalformed faults.Form text fault ⊎ IsTextOf (λ v. NoRows v fault) text
