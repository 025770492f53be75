-- A text has one refusal, and a case with a separate accepted list has one answer, unless memory ran out.
use Rattle.std.proofs.Common.{◌≡◌, ◌≢◌, ℕ, ◌+◌, ◌<◌, inl, inr, List, [], ◌++◌, length, take, drop, Some, refl, sym, ap, subst, ◌∙◌, arith, append-nil, length-drop, rules, Result, Ok}
use Rattle.std.proofs.lemmas.List.{take-append-drop}
use Rattle.sexpr_core.specs.declared.fault.FormFault.{FormFault, TheVariants.{TooLong, TooDeep, Short, Bad, Trailing, Memory}}
use Rattle.sexpr_core.specs.{Reading.{Begins, Front, IsCanon, IsShallowText, Refused}, Value.{Value, canon, IsShallow}}
use Rattle.sexpr_core.proofs.{Refusals.{shallow_text}, Texts.{canon_one}}
use Rattle.sexpr_text.specs.{AdvancedForm.{IsTextWithin}, CanonicalTexts.{RefusesForm}}
use Rattle.spki_tag.specs.{declared.fault.TagFault.{TagFault}, Faults.{tag_fault}}
use Rattle.spki_case.specs.Case.{Case, accepted_by, ValueRefused, TextRefused, Row, IsCaseText}
use Rattle.spki_case.specs.declared.{cases.CaseFault.{CaseFault}, rows.RowsFault.{RowsFault}}
use Rattle.spki_case.specs.RowsForm.{IsRowsText, NoRows, RowsTextRefused, stated_by}
use Rattle.spki_case.proofs.OneCase.{one-fault, one_text, well_formed, case_unrefused, one-rows_fault, text-one, rows_unrefused, one_list}
use Rattle.spki_words.specs.declared.commands.Command.{Command, TheVariants.{Intersect, Reduce, Check, Explain}}
use Rattle.spki_guard.specs.declared.{refusals.Refusal.{Refusal}, intersection.IntersectFault.{IntersectFault}, answers.Verdict.{Verdict}}
use Rattle.spki_guard.specs.TextAnswers.{IsOnCase, HasTooLarge, RefusesValue, RefusesRead, RefusesAnswer, IsLineOf, ReadsCase, ReadsRows, LacksCase, RefusesRows, DecidesApart, DecidesBy, IsUndecidedBy, RefusesApart}
use Rattle.spki_guard.specs.Intersect.{ValueNotMet, TextNotMet}
use Rattle.spki_guard.proofs.OneLine.{large_one, operands, decision_line}
use Rattle.spki_service.proofs.OneAsking.{text_one, refuses_one}
use Rattle.spki_decision.specs.{declared.{decision.Decision.{Decision}, fault.GuardFault.{GuardFault}}, Granted.{IsTooLarge}, Answered.{IsDecided}}
use Rattle.spki_decision.proofs.OneDecision.{decided_one, of_text, not_both}
use Rattle.spki_case.specs.declared.cases.CaseFault.TheVariants as case_faults
use Rattle.spki_guard.specs.declared.refusals.Refusal.TheVariants as refusals
use Rattle.spki_guard.specs.declared.intersection.IntersectFault.TheVariants as intersect
use Rattle.spki_case.specs.declared.rows.RowsFault.TheVariants as rows_faults

-- ---- the refusal of the canonical form of a value that was read

no_front : (v : Value) → Front IsShallowText (canon v) → ⊥
no_front v f =
    let p = canon_one v f.whole.value f.rest [] (f.whole.is ∙ sym (append-nil (canon f.whole.value))) in
    let some : 0 < length f.rest = f.some in
    omega (arith, ap length p.1)

begins : (v : Value) (n : ℕ) → Begins IsCanon (take n (canon v))
begins v n = record { rest = drop n (canon v); whole = record { value = v; is = take-append-drop n (canon v) } }

no_trailing : (v : Value) (at : ℕ) → at < length (canon v) → IsShallowText (take at (canon v)) → ⊥
no_trailing v at h s =
    let e : canon s.value ++ drop at (canon v) ≡ canon v ++ [] =
    ap (λ (t : List ℕ). t ++ drop at (canon v)) (sym s.is) ∙ take-append-drop at (canon v) ∙ sym (append-nil (canon v)) in
    let p = canon_one s.value v (drop at (canon v)) [] e in
    omega (arith, ap length p.1, length-drop at (canon v))

-- it is refused for nothing but its length, unless memory ran out
pub long_only : (v : Value) (fault : FormFault) → IsShallow v → fault ≢ Memory → Refused (canon v) fault → fault ≡ TooLong
long_only v TooLong h found r = refl
long_only v TooDeep h found r = absurd (shallow_text (canon v) v h refl r)
long_only v Short h found r = absurd (no_front v r)
long_only v (Bad at) h found r = absurd (r.2 (begins v (at + 1)))
long_only v (Trailing at) h found r = absurd (no_trailing v at r.0 r.1)
long_only v Memory h found r = absurd (found refl)

pub shallow : (text : List ℕ) (v : Value) → IsTextWithin text v → IsShallow v
shallow text v (inl m) = m.shallow
shallow text v (inr m) = m.shallow

-- ---- two tags

fault_one : (v w : Value) (fault other : TagFault) → v ≡ w → tag_fault v ≡ Some fault → tag_fault w ≡ Some other → fault ≡ other
fault_one v w fault other e a b = let same : Some fault ≡ Some other = sym a ∙ ap tag_fault e ∙ b in cc

module _ (v : Value) where
  not_met_one : (fault other : IntersectFault) → ValueNotMet v fault → ValueNotMet v other → fault ≡ other
  not_met_one (intersect.Form e) other m n = absurd m
  not_met_one intersect.Memory other m n = absurd m
  not_met_one intersect.Shape intersect.Shape m n = refl
  not_met_one intersect.Shape (intersect.First f) m n = absurd (m n.first n.second n.written)
  not_met_one intersect.Shape (intersect.Second f) m n = absurd (m n.first n.second n.written)
  not_met_one intersect.Shape intersect.TooLarge m n = absurd (m n.first n.second n.written)
  not_met_one (intersect.First e) intersect.Shape m n = absurd (n m.first m.second m.written)
  not_met_one (intersect.First e) (intersect.First f) m n = search (rules, operands, fault_one)
  not_met_one (intersect.First e) (intersect.Second f) m n = search (rules, operands)
  not_met_one (intersect.First e) intersect.TooLarge m n = search (rules, operands)
  not_met_one (intersect.Second e) intersect.Shape m n = absurd (n m.first m.second m.written)
  not_met_one (intersect.Second e) (intersect.First f) m n = search (rules, operands)
  not_met_one (intersect.Second e) (intersect.Second f) m n = search (rules, operands, fault_one)
  not_met_one (intersect.Second e) intersect.TooLarge m n = search (rules, operands)
  not_met_one intersect.TooLarge other m n = sym (large_one v other m n)
  not_met_one fault other m n = absurd n

text_not_met_one : (v : Value) (fault other : IntersectFault) → IsShallow v → TextNotMet (canon v) fault
    → TextNotMet (canon v) other → fault ≡ other
text_not_met_one v fault other h (inl m) (inl n) =
    m.is ∙ ap intersect.Form (long_only v m.form h m.found m.refused ∙ sym (long_only v n.form h n.found n.refused)) ∙ sym n.is
text_not_met_one v fault other h (inl m) (inr n) =
    absurd (well_formed (canon v) n.value m.form n.within n.written m.found m.refused)
text_not_met_one v fault other h (inr m) (inl n) =
    absurd (well_formed (canon v) m.value n.form m.within m.written n.found n.refused)
text_not_met_one v fault other h (inr m) (inr n) =
    not_met_one n.value fault other
    (subst (λ (w : Value). ValueNotMet w fault) (one_text (canon v) m.value n.value m.written n.written) m.is) n.is

-- ---- commands

-- only a command on a case is refused for a case
on_case : (command : Command) (c : Case) → HasTooLarge command c (accepted_by c) → IsOnCase command
on_case Reduce c large = tt
on_case Check c large = tt
on_case Explain c large = tt
on_case command c large = large

-- the command `intersect` is not one for a case
off_case : (command : Command) → command ≡ Intersect → IsOnCase command → ⊥
off_case command e on = subst IsOnCase e on

-- ---- a case

pub text_case_one : (v : Value) (fault other : CaseFault) → IsShallow v → TextRefused (canon v) fault → TextRefused (canon v) other
    → fault ≡ other
text_case_one v fault other h (inl m) (inl n) =
    m.is ∙ ap case_faults.Form (long_only v m.form h m.found m.refused ∙ sym (long_only v n.form h n.found n.refused)) ∙ sym n.is
text_case_one v fault other h (inl m) (inr n) =
    absurd (well_formed (canon v) n.value m.form n.within n.written m.found m.refused)
text_case_one v fault other h (inr m) (inl n) =
    absurd (well_formed (canon v) m.value n.form m.within m.written n.found n.refused)
text_case_one v fault other h (inr m) (inr n) =
    one-fault n.value fault other
    (subst (λ (w : Value). ValueRefused w fault) (one_text (canon v) m.value n.value m.written n.written) m.is) n.is

-- ---- the refusal of a value, and of a text, by a command

module _ (command : Command) (v : Value) (h : IsShallow v) where
  value_one : (refusal other : Refusal) → RefusesValue command v refusal → RefusesValue command v other
      → refusal ≢ refusals.Memory → other ≢ refusals.Memory → refusal ≡ other
  value_one (refusals.Form e) other r s found known = absurd r
  value_one (refusals.Rows e) other r s found known = absurd r
  value_one (refusals.List e) other r s found known = absurd r
  value_one (refusals.Question e) other r s found known = absurd r
  value_one refusals.Memory other r s found known = absurd (found refl)
  value_one (refusals.Intersect e) (refusals.Intersect f) r s found known = ap refusals.Intersect (text_not_met_one v e f h r.1 s.1)
  value_one (refusals.Intersect e) (refusals.Case f) r s found known = absurd (off_case command r.0 s.0)
  value_one (refusals.Intersect e) (refusals.Decision f) r s found known = absurd (off_case command r.0 (on_case command s.case_read s.large))
  value_one (refusals.Intersect e) refusals.Memory r s found known = absurd (known refl)
  value_one (refusals.Case e) (refusals.Intersect f) r s found known = absurd (off_case command s.0 r.0)
  value_one (refusals.Case e) (refusals.Case f) r s found known = ap refusals.Case (text_case_one v e f h r.1 s.1)
  value_one (refusals.Case e) (refusals.Decision f) r s found known = absurd (case_unrefused (canon v) s.case_read e s.text_is r.1)
  value_one (refusals.Case e) refusals.Memory r s found known = absurd (known refl)
  value_one (refusals.Decision e) (refusals.Intersect f) r s found known = absurd (off_case command s.0 (on_case command r.case_read r.large))
  value_one (refusals.Decision e) (refusals.Case f) r s found known = absurd (case_unrefused (canon v) r.case_read f r.text_is s.1)
  value_one (refusals.Decision e) (refusals.Decision f) r s found known = ap refusals.Decision (r.named ∙ sym s.named)
  value_one (refusals.Decision e) refusals.Memory r s found known = absurd (known refl)
  value_one refusal other r s found known = absurd s

-- a refusal is about the form of the text, or about its value
data IsSaid (command : Command) (text : List ℕ) (refusal : Refusal) : Type 0 where
  of_form : (fault : FormFault) → refusal ≡ refusals.Form fault → RefusesForm text fault → IsSaid command text refusal
  of_value : RefusesRead command text refusal → IsSaid command text refusal

said : (command : Command) (text : List ℕ) (refusal : Refusal) → RefusesAnswer command text refusal
    → refusal ≢ refusals.Memory → IsSaid command text refusal
said command text (refusals.Form fault) r found = of_form fault refl r
said command text (refusals.Rows fault) r found = absurd r
said command text (refusals.List fault) r found = absurd r
said command text (refusals.Question fault) r found = absurd r
said command text refusals.Memory r found = absurd (found refl)
said command text refusal r found = of_value r

pub refusal_one : (command : Command) (text : List ℕ) (refusal other : Refusal)
    → RefusesAnswer command text refusal → RefusesAnswer command text other
    → refusal ≢ refusals.Memory → other ≢ refusals.Memory → refusal ≡ other
refusal_one command text refusal other r s found known =
    by (said command text refusal r found) (said command text other s known)
  where
    by : IsSaid command text refusal → IsSaid command text other → refusal ≡ other
    by (of_form e p a) (of_form f q b) = p ∙ ap refusals.Form (refuses_one text e f a b) ∙ sym q
    by (of_form e p a) (of_value b) = absurd (a.none b.value b.read)
    by (of_value a) (of_form f q b) = absurd (b.none a.value a.read)
    by (of_value a) (of_value b) =
        value_one command b.value (shallow text b.value b.read) refusal other
        (subst (λ (v : Value). RefusesValue command v refusal) (text_one text a.value b.value a.read b.read) a.refused)
        b.refused found known

-- ---- one case and one separate accepted list are read from two texts

-- a text that is read as a case has the case's canonical text, by its one value
case_there : (text : List ℕ) (c : Case) (w : Value) → ReadsCase text c → IsTextWithin text w → IsCaseText (canon w) c
case_there text c w read other = subst (λ (v : Value). IsCaseText (canon v) c) (text_one text read.value w read.read other) read.is_case

rows_there : (text : List ℕ) (rows : List Row) (w : Value) → ReadsRows text rows → IsTextWithin text w → IsRowsText (canon w) rows
rows_there text rows w read other = subst (λ (v : Value). IsRowsText (canon v) rows) (text_one text read.value w read.read other) read.are_rows

same_rows : (text : List ℕ) (rows others : List Row) → ReadsRows text rows → ReadsRows text others → rows ≡ others
same_rows text rows others read other =
    one_list (canon other.value) rows others (rows_there text rows other.value read other.read) other.are_rows

no_denial : (text : List ℕ) (c : Case) (fault : CaseFault) → ReadsCase text c → ¬ LacksCase text fault
no_denial text c fault read lacks = case_unrefused (canon lacks.value) c fault (case_there text c lacks.value read lacks.read) lacks.refused

no_blame : (text : List ℕ) (rows : List Row) (fault : RowsFault) → ReadsRows text rows → ¬ RefusesRows text fault
no_blame text rows fault read (inl bad) = bad.refused.none read.value read.read
no_blame text rows fault read (inr lacks) =
    rows_unrefused (canon lacks.value) rows fault (rows_there text rows lacks.value read lacks.read) lacks.refused

-- ---- decisions

pub one_decided : (text rows : List ℕ) (verdict other : Verdict) (output line : List ℕ)
    → DecidesApart text rows verdict output → DecidesApart text rows other line → (verdict ≡ other) × (output ≡ line)
one_decided text rows verdict other output line a b =
    let same : a.is.rows ≡ b.is.rows = same_rows rows a.is.rows b.is.rows a.is.rows_are b.is.rows_are in
    let there : IsDecided a.case_read (stated_by b.is.rows) (Ok a.is.decided) =
    subst (λ (rs : List Row). IsDecided a.case_read (stated_by rs) (Ok a.is.decided)) same (a.is.decision_is, a.is.unrefused) in
    let read : IsCaseText (canon b.text_is.value) a.case_read = case_there text a.case_read b.text_is.value a.text_is b.text_is.read in
    let whole : Ok a.is.decided ≡ Ok b.is.decided =
    of_text IsDecided (λ (x y : Result Decision GuardFault). x ≡ y) decided_one (stated_by b.is.rows) (canon b.text_is.value) a.case_read b.case_read
    (Ok a.is.decided) (Ok b.is.decided) read b.text_is.is_case there (b.is.decision_is, b.is.unrefused) in
    let one : a.is.decided ≡ b.is.decided = cc in
    decision_line b.is.decided verdict other output line (subst (λ (d : Decision). IsLineOf d verdict output) one a.is.line) b.is.line

not_undecided : (c : Case) (rows : List ℕ) (verdict : Verdict) (output : List ℕ) (fault : GuardFault)
    → DecidesBy c rows verdict output → ¬ IsUndecidedBy c rows fault
not_undecided c rows verdict output fault a b =
    let same : b.rows ≡ a.rows = same_rows rows b.rows a.rows b.rows_are a.rows_are in
    let large : IsTooLarge c (stated_by a.rows) = subst (λ (rs : List Row). IsTooLarge c (stated_by rs)) same b.large in
    not_both c (stated_by a.rows) a.decided a.decision_is a.unrefused large

-- ---- refusals

pub only_memory : (text rows : List ℕ) (verdict : Verdict) (output : List ℕ) (refusal : Refusal) → DecidesApart text rows verdict output
    → RefusesApart text rows refusal → refusal ≡ refusals.Memory
only_memory text rows verdict output (refusals.Form fault) a b = absurd (b.none a.text_is.value a.text_is.read)
only_memory text rows verdict output (refusals.Case fault) a b = absurd (no_denial text a.case_read fault a.text_is b)
only_memory text rows verdict output (refusals.Decision fault) a b =
    let same : a.case_read ≡ b.case_read =
    text-one (canon b.text_is.value) a.case_read b.case_read (case_there text a.case_read b.text_is.value a.text_is b.text_is.read) b.text_is.is_case in
    absurd (not_undecided b.case_read rows verdict output fault (subst (λ (c : Case). DecidesBy c rows verdict output) same a.is) b.is)
only_memory text rows verdict output (refusals.Rows fault) a b = absurd (no_blame rows a.is.rows fault a.is.rows_are b.is)
only_memory text rows verdict output refusals.Memory a b = refl
only_memory text rows verdict output other a b = absurd b

-- a text that is no case has one fault
cases_one : (text : List ℕ) (f g : CaseFault) → LacksCase text f → LacksCase text g → f ≡ g
cases_one text f g a b =
    let there = subst (λ (v : Value). TextRefused (canon v) f) (text_one text a.value b.value a.read b.read) a.refused in
    text_case_one b.value f g (shallow text b.value b.read) there b.refused

-- a value that is no accepted list has one fault
text_rows_one : (v : Value) (f g : RowsFault) → IsShallow v → RowsTextRefused (canon v) f → RowsTextRefused (canon v) g → f ≡ g
text_rows_one v f g h (inl m) (inl n) =
    m.is ∙ ap rows_faults.Form (long_only v m.form h m.found m.refused ∙ sym (long_only v n.form h n.found n.refused)) ∙ sym n.is
text_rows_one v f g h (inl m) (inr n) = absurd (well_formed (canon v) n.value m.form n.within n.written m.found m.refused)
text_rows_one v f g h (inr m) (inl n) = absurd (well_formed (canon v) m.value n.form m.within m.written n.found n.refused)
text_rows_one v f g h (inr m) (inr n) =
    one-rows_fault n.value f g
    (subst (λ (w : Value). NoRows w f) (one_text (canon v) m.value n.value m.written n.written) m.is) n.is

rows_one : (text : List ℕ) (f g : RowsFault) → RefusesRows text f → RefusesRows text g → f ≡ g
rows_one text f g (inl a) (inl b) = a.named ∙ ap rows_faults.Form (refuses_one text a.form b.form a.refused b.refused) ∙ sym b.named
rows_one text f g (inl a) (inr b) = absurd (a.refused.none b.value b.read)
rows_one text f g (inr a) (inl b) = absurd (b.refused.none a.value a.read)
rows_one text f g (inr a) (inr b) =
    let there = subst (λ (v : Value). RowsTextRefused (canon v) f) (text_one text a.value b.value a.read b.read) a.refused in
    text_rows_one b.value f g (shallow text b.value b.read) there b.refused

-- two refusals of the same case and list are equal, unless memory ran out
pub one_refused : (text rows : List ℕ) (refusal other : Refusal) → RefusesApart text rows refusal → RefusesApart text rows other
    → refusal ≢ refusals.Memory → other ≢ refusals.Memory → refusal ≡ other
one_refused text rows refusals.Memory other a b k l = absurd (k refl)
one_refused text rows (refusals.Intersect f) other a b k l = absurd a
one_refused text rows (refusals.List f) other a b k l = absurd a
one_refused text rows (refusals.Question f) other a b k l = absurd a
one_refused text rows (refusals.Form f) (refusals.Form g) a b k l = ap refusals.Form (refuses_one text f g a b)
one_refused text rows (refusals.Form f) (refusals.Case g) a b k l = absurd (a.none b.value b.read)
one_refused text rows (refusals.Form f) (refusals.Rows g) a b k l = absurd (a.none b.text_is.value b.text_is.read)
one_refused text rows (refusals.Form f) (refusals.Decision g) a b k l = absurd (a.none b.text_is.value b.text_is.read)
one_refused text rows (refusals.Case f) (refusals.Form g) a b k l = absurd (b.none a.value a.read)
one_refused text rows (refusals.Case f) (refusals.Case g) a b k l = ap refusals.Case (cases_one text f g a b)
one_refused text rows (refusals.Case f) (refusals.Rows g) a b k l = absurd (no_denial text b.case_read f b.text_is a)
one_refused text rows (refusals.Case f) (refusals.Decision g) a b k l = absurd (no_denial text b.case_read f b.text_is a)
one_refused text rows (refusals.Rows f) (refusals.Form g) a b k l = absurd (b.none a.text_is.value a.text_is.read)
one_refused text rows (refusals.Rows f) (refusals.Case g) a b k l = absurd (no_denial text a.case_read g a.text_is b)
one_refused text rows (refusals.Rows f) (refusals.Rows g) a b k l = ap refusals.Rows (rows_one rows f g a.is b.is)
one_refused text rows (refusals.Rows f) (refusals.Decision g) a b k l = absurd (no_blame rows b.is.rows f b.is.rows_are a.is)
one_refused text rows (refusals.Decision f) (refusals.Form g) a b k l = absurd (b.none a.text_is.value a.text_is.read)
one_refused text rows (refusals.Decision f) (refusals.Case g) a b k l = absurd (no_denial text a.case_read g a.text_is b)
one_refused text rows (refusals.Decision f) (refusals.Rows g) a b k l = absurd (no_blame rows a.is.rows g a.is.rows_are b.is)
one_refused text rows (refusals.Decision f) (refusals.Decision g) a b k l = ap refusals.Decision (a.is.named ∙ sym b.is.named)
one_refused text rows refusal refusals.Memory a b k l = absurd (l refl)
one_refused text rows refusal other a b k l = absurd b
