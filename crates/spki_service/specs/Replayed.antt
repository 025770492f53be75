-- When a question that a guard was asked can be asked again as a case: the rows stand for the marks (RFC 2693, section 6).
use Rattle.std.specs.Prelude.{◌≡◌, ℕ, List, Bool, Some, IsTrue, slice_get}
use Rattle.spki_cert.specs.declared.entry.Entry.{Entry}
use Rattle.spki_case.specs.Case.{Case, Row, is_row_of}
use Rattle.spki_decision.specs.CertificateTests.{Signed}
use Rattle.spki_service.specs.GuardQuestions.{PreparedModel, IsMarked}

-- The case has these entries, and the parts and the policy of the question. Its rows and its limits may be any.
pub record IsCaseOfParts (a : PreparedModel) (es : List Entry) (c : Case) : Type 0 where
  pub entries : c.entries ≡ es
  pub items : c.items ≡ a.case.items
  pub key : c.key ≡ a.case.key
  pub request : c.request ≡ a.case.request
  pub moment : c.moment ≡ a.case.moment
  pub policy : c.policy ≡ a.case.policy

-- the row is that of a signature: by its key, of a digest of its message, with its value
abbrev pub IsRowOf : Row → Signed → Type 0
IsRowOf r s = IsTrue (is_row_of s.key s.message s.value r)

-- There are rows for exactly the marked signatures.
pub record AreRowsOf (rows : List Row) (signed : List Signed) (marks : List Bool) : Type 0 where
  pub marked : (index : ℕ) (s : Signed) → slice_get signed index ≡ Some s → IsMarked marks index
      → (number : ℕ) × (r : Row) × (slice_get rows number ≡ Some r) × IsRowOf r s
  pub others : (number : ℕ) (r : Row) → slice_get rows number ≡ Some r
      → (index : ℕ) × (s : Signed) × (slice_get signed index ≡ Some s) × IsMarked marks index × IsRowOf r s

-- Signatures that one row is of are marked alike. Their key, their value and a digest of their messages are equal.
abbrev pub AreMarkedAlike : List Signed → List Bool → Type 0
AreMarkedAlike signed marks =
    (index other : ℕ) (s t : Signed) (r : Row) → slice_get signed index ≡ Some s → slice_get signed other ≡ Some t
    → IsRowOf r s → IsRowOf r t → IsMarked marks index → IsMarked marks other
