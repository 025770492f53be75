-- A question that an auditor composes as a case is decided by `check` as it was by its marks.
use Rattle.std.proofs.Common.{◌≡◌, ℕ, suc, List, [], ◌∷◌, Bool, true, false, Some, slice_get, refl, sym, subst, Ok}
use Rattle.std.proofs.lemmas.Map.Keys.{any_passes_from_place}
use Rattle.std.specs.List.{list_any}
use Rattle.spki_cert.specs.declared.entry.Entry.{Entry}
use Rattle.spki_case.specs.Case.{Case, Row, Verified, accepted_by, is_row_of}
use Rattle.spki_decision.specs.{declared.decision.Decision.{Decision, TheVariants.{Yes, No}}, CertificateTests.{asked, with_entries}}
use Rattle.spki_decision.specs.{Granted.{Granted, IsDecision}, Answered.{IsDecided}}
use Rattle.spki_decision.proofs.OneDecision.{decision_one}
use Rattle.spki_service.specs.{AccessLists.{AreEntries}, GuardQuestions.{PreparedModel, DecidesMarked, MarksTell}}
use Rattle.spki_service.specs.Replayed.{IsCaseOfParts, AreRowsOf, AreMarkedAlike}
use Rattle.spki_service.proofs.AnswerLaws.{decided_told}

-- ---- rows

abbrev Passes : (Row → Bool) → List Row → Type 0
Passes test rows = (number : ℕ) × (r : Row) × (slice_get rows number ≡ Some r) × (test r ≡ true)

row_here : (test : Row → Bool) (r : Row) (rows : List Row) → (list_any test rows ≡ true → Passes test rows) → (b : Bool) → test r ≡ b
    → list_any test (r ∷ rows) ≡ true → Passes test (r ∷ rows)
row_here test r rows later true e h = (0, r, refl, e)
row_here test r rows later false e h = let (number, s, there, is) = later (rw e at h) in (suc number, s, there, is)

row_there : (test : Row → Bool) (rows : List Row) → list_any test rows ≡ true → Passes test rows
row_there test [] h = absurd cc
row_there test (r ∷ rows) h = row_here test r rows (row_there test rows) (test r) refl h

module _ (a : PreparedModel) (rows : List Row) (are : AreRowsOf rows (asked a.case) a.marks) (alike : AreMarkedAlike (asked a.case) a.marks) where
  abbrev pub accepts_row : Verified
  accepts_row key message value = list_any (is_row_of key message value) rows ≡ true

  tells : MarksTell accepts_row (asked a.case) a.marks
  tells index s stands = (
    λ marked. let (number, r, there, is) = are.marked index s stands marked in any_passes_from_place _ rows number r there is,
    λ accepted.
        let (number, r, there, is) = row_there (is_row_of s.key s.message s.value) rows accepted in
        let (other, t, listed, marked, of) = are.others number r there in
        alike other index t s r listed stands of is marked,
  )

  pub replayed : (d : Decision) → DecidesMarked a d → (es : List Entry) → AreEntries a.texts es → IsDecision (with_entries a.case es) accepts_row d
  replayed d h = decided_told accepts_row a tells d h

-- ---- the composed case

module _ (a : PreparedModel) (es : List Entry) (c : Case) (of : IsCaseOfParts a es c) (verified : Verified) where
  abbrev whole : Case
  whole = with_entries a.case es

  to_whole : (n : ℕ) → Granted n c verified → Granted n whole verified
  to_whole n g = record {
    index = g.index;
    numbered = g.numbered;
    entry = g.entry;
    stands = subst (λ xs. slice_get xs g.index ≡ Some g.entry) of.entries g.stands;
    tuples = g.tuples;
    shown = rw (of.policy, of.items) at g.shown;
    supported = rw (of.policy, of.key, of.request, of.moment) at g.supported;
  }

  from_whole : (n : ℕ) → Granted n whole verified → Granted n c verified
  from_whole n g = record {
    index = g.index;
    numbered = g.numbered;
    entry = g.entry;
    stands = subst (λ xs. slice_get xs g.index ≡ Some g.entry) (sym of.entries) g.stands;
    tuples = g.tuples;
    shown = rw (← of.policy, ← of.items) at g.shown;
    supported = rw (← of.policy, ← of.key, ← of.request, ← of.moment) at g.supported;
  }

  pub decided_whole : (d : Decision) → IsDecision c verified d → IsDecision whole verified d
  decided_whole (Yes n) h = record { granted = to_whole n h.granted; none_before = λ m below g. h.none_before m below (from_whole m g) }
  decided_whole No h = λ n g. h n (from_whole n g)

pub as_check : (a : PreparedModel) (es : List Entry) (c : Case) (x y : Decision) → AreEntries a.texts es → IsCaseOfParts a es c
    → AreRowsOf c.rows (asked a.case) a.marks → AreMarkedAlike (asked a.case) a.marks → DecidesMarked a x
    → IsDecided c (accepted_by c) (Ok y) → x ≡ y
as_check a es c x y are of rows alike decides checked =
    decision_one (with_entries a.case es) (accepted_by c) x y (replayed a c.rows rows alike x decides es are)
    (decided_whole a es c of (accepted_by c) y checked.0)
