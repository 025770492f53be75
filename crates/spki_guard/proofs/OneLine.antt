-- A text has one answer of a command, and is not refused where it has one.
use Rattle.std.proofs.Common.{◌≡◌, ◌≢◌, ℕ, ◌*◌, ◌<◌, ◌≤◌, inl, inr, List, [], ◌∷◌, ◌++◌, Option, Some, None, Result, Ok, refl, sym, ap, subst, ◌∙◌, arith, rules}
use Rattle.std.specs.Prelude.{codes}
use Rattle.sexpr_core.specs.Value.{Value, canon}
use Rattle.sexpr_text.specs.AdvancedForm.{adv, IsTextWithin}
use Rattle.spki_tag.{specs.{Tag.{Tag, tag_value, nodes}, Meet.{meet}, Reading.{ReadsAs}}, proofs.TagReading.{reading-one}}
use Rattle.spki_case.specs.Case.{Case, accepted_by, IsCaseText}
use Rattle.spki_case.proofs.{Building.{behind_head}, OneCase.{text-one, one_text, well_formed, case_unrefused}}
use Rattle.spki_decision.specs.declared.{decision.Decision.{Decision}, fault.GuardFault.{GuardFault, TheVariants.{TooLarge}}}
use Rattle.spki_decision.specs.declared.reduction.{Reduction.{Reduction}, EntryFold.{EntryFold}}
use Rattle.spki_decision.specs.declared.explanation.{Explanation.{Explanation}, Reason.{Reason}}
use Rattle.spki_decision.specs.{Explained.{IsSameExplanation}, Granted.{IsSameReduction}, Answered.{IsDecided, IsExplained, IsReduced, AreSame}}
use Rattle.spki_decision.proofs.OneDecision.{decided_one, explained_one, explained_small, reduced_one, reduced_small, own_of_text, not_both}
use Rattle.spki_service.{proofs.OneAsking.{text_one}, specs.declared.failure.Failure.{Failure}}
use Rattle.spki_words.specs.declared.commands.Command.{Command, TheVariants.{Intersect, Reduce, Check, Explain}}
use Rattle.spki_guard.specs.declared.{refusals.Refusal.{Refusal}, answers.Verdict.{Verdict}, intersection.IntersectFault.{IntersectFault}}
use Rattle.spki_guard.specs.Lines.{item_line, ReportsFolds, IsReductionReport, ReportsReduced, ReportsReasons, IsExplanationReport}
use Rattle.spki_guard.specs.TextAnswers.{IsLineOf, Decides, Reduces, Explains, WritesMeet, HasTooLarge, IsOnCase, AnswersValue, AnswersRead, RefusesValue, RefusesAnswer}
use Rattle.spki_guard.specs.Intersect.{intersect_value, Intersects, AreTooLarge, ValueNotMet, IsMetText, TextNotMet}
use Rattle.spki_guard.proofs.ReportLines.{folds_once}
use Rattle.spki_decision.specs.declared.decision.Decision.TheVariants as decision
use Rattle.spki_decision.specs.declared.reduction.Reduction.TheVariants as reduction
use Rattle.spki_decision.specs.declared.explanation.Explanation.TheVariants as explanation
use Rattle.spki_guard.specs.declared.refusals.Refusal.TheVariants as refusals
use Rattle.spki_guard.specs.declared.intersection.IntersectFault.TheVariants as intersect

-- the same verdict and output
abbrev Same : Verdict → Verdict → List ℕ → List ℕ → Type 0
Same x y output line = (x ≡ y) × (output ≡ line)

-- ---- intersections

pub operands : (a b c d : Value) → intersect_value a b ≡ intersect_value c d → (a ≡ c) × (b ≡ d)
operands a b c d e = search (rules, behind_head, codes)

read_tag : (v w : Value) (t u : Tag) → v ≡ w → ReadsAs v t → ReadsAs w u → t ≡ u
read_tag v w t u e r s = reading-one w t u (subst (λ (x : Value). ReadsAs x t) e r) s

met_one : (v : Value) (s t : Tag) → Intersects v s → Intersects v t → s ≡ t
met_one v s t m n =
    let both = operands m.first m.second n.first n.second (sym m.written ∙ n.written) in
    let a : m.a ≡ n.a = read_tag m.first n.first m.a n.a both.0 m.first_read n.first_read in
    let b : m.b ≡ n.b = read_tag m.second n.second m.b n.b both.1 m.second_read n.second_read in
    m.value ∙ (λ i. meet (a i) (b i)) ∙ sym n.value

meets_one : (text : List ℕ) (x y : Verdict) (output line : List ℕ) → WritesMeet text x output → WritesMeet text y line
    → Same x y output line
meets_one text x y output line m n =
    let met = subst (λ (v : Value). Intersects v m.tag) (one_text text m.met.value n.met.value m.met.written n.met.written) m.met.is in
    let tag : m.tag ≡ n.tag = met_one n.met.value m.tag n.tag met n.met.is in
    (m.verdict_is ∙ sym n.verdict_is, m.line ∙ ap (λ (t : Tag). adv (tag_value t) ++ 10 ∷ []) tag ∙ sym n.line)

met_or_not : (v : Value) (t : Tag) (fault : IntersectFault) → Intersects v t → ValueNotMet v fault → ⊥
met_or_not v t intersect.Shape m n = n m.first m.second m.written
met_or_not v t (intersect.First fault) m n = search (rules, operands)
met_or_not v t (intersect.Second fault) m n = search (rules, operands)
met_or_not v t intersect.TooLarge m n =
    let both = operands m.first m.second n.first n.second (sym m.written ∙ n.written) in
    let a : m.a ≡ n.a = read_tag m.first n.first m.a n.a both.0 m.first_read n.first_read in
    let b : m.b ≡ n.b = read_tag m.second n.second m.b n.b both.1 m.second_read n.second_read in
    let product : nodes m.a * nodes m.b ≡ nodes n.a * nodes n.b = λ i. nodes (a i) * nodes (b i) in
    let small : nodes m.a * nodes m.b ≤ 1000000 = m.within_limit in
    let large : 1000000 < nodes n.a * nodes n.b = n.large in
    absurd (omega (arith, product, small, large))
met_or_not v t fault m n = n

-- a value with two tags that are too large together is refused for nothing else
pub large_one : (v : Value) (fault : IntersectFault) → AreTooLarge v → ValueNotMet v fault → fault ≡ intersect.TooLarge
large_one v intersect.Shape m n = absurd (n m.first m.second m.written)
large_one v (intersect.First fault) m n = search (rules, operands)
large_one v (intersect.Second fault) m n = search (rules, operands)
large_one v intersect.TooLarge m n = refl
large_one v fault m n = absurd n

text_large : (text : List ℕ) (fault : IntersectFault) → TextNotMet text intersect.TooLarge → TextNotMet text fault → fault ≡ intersect.TooLarge
text_large text fault (inl m) n = absurd (let e = m.is in cc)
text_large text fault (inr m) (inl malformed) = absurd (well_formed text m.value malformed.form m.within m.written malformed.found malformed.refused)
text_large text fault (inr m) (inr n) = large_one n.value fault (subst AreTooLarge (one_text text m.value n.value m.written n.written) m.is) n.is

text_met : (text : List ℕ) (t : Tag) (fault : IntersectFault) → IsMetText text t → TextNotMet text fault → ⊥
text_met text t fault m (inl malformed) = well_formed text m.value malformed.form m.within m.written malformed.found malformed.refused
text_met text t fault m (inr n) =
    met_or_not n.value t fault (subst (λ (v : Value). Intersects v t) (one_text text m.value n.value m.written n.written) m.is) n.is

-- ---- decisions

pub decision_line : (d : Decision) (x y : Verdict) (output line : List ℕ) → IsLineOf d x output → IsLineOf d y line
    → (x ≡ y) × (output ≡ line)
decision_line (decision.Yes n) x y output line a b = (a.0 ∙ sym b.0, a.1 ∙ sym b.1)
decision_line decision.No x y output line a b = (a.0 ∙ sym b.0, a.1 ∙ sym b.1)

decides_one : (text : List ℕ) (x y : Verdict) (output line : List ℕ) → Decides text x output → Decides text y line → Same x y output line
decides_one text x y output line m n =
    let whole : Ok m.decided ≡ Ok n.decided =
    own_of_text IsDecided (λ (a b : Result Decision GuardFault). a ≡ b) decided_one text m.case_read n.case_read (Ok m.decided) (Ok n.decided)
    m.text_is n.text_is (m.decision_is, m.unrefused) (n.decision_is, n.unrefused) in
    let same : m.decided ≡ n.decided = cc in
    decision_line n.decided x y output line (subst (λ (d : Decision). IsLineOf d x output) same m.line) n.line

-- ---- explanations

reasons_line : (rs : List Reason) (x y : Verdict) (output line : List ℕ) → ReportsReasons rs x output → ReportsReasons rs y line → Same x y output line
reasons_line [] x y output line a b = (a.0 ∙ sym b.0, a.1 ∙ sym b.1)
reasons_line (r ∷ rs) x y output line a b = (a.0 ∙ sym b.0, a.1 ∙ sym b.1)

pub explanation_line : (r s : Explanation) (x y : Verdict) (output line : List ℕ) → IsSameExplanation r s → IsExplanationReport r x output
    → IsExplanationReport s y line → Same x y output line
explanation_line (explanation.Evidence item stop) (explanation.Evidence other last) x y output line same a b =
    (a.0 ∙ sym b.0, a.1 ∙ (λ i. item_line (same.0 i) (same.1 i)) ∙ sym b.1)
explanation_line (explanation.Entries reasons) (explanation.Entries others) x y output line same a b =
    reasons_line others.items x y output line (subst (λ (rs : List Reason). ReportsReasons rs x output) same a) b
explanation_line r s x y output line same a b = absurd same

explains_one : (text : List ℕ) (x y : Verdict) (output line : List ℕ) → Explains text x output → Explains text y line → Same x y output line
explains_one text x y output line m n =
    let same : IsSameExplanation m.explanation n.explanation =
    own_of_text IsExplained (AreSame IsSameExplanation) explained_one text m.case_read n.case_read (Ok m.explanation) (Ok n.explanation)
    m.text_is n.text_is m.explanation_is n.explanation_is in
    explanation_line m.explanation n.explanation x y output line same m.lines n.lines

-- ---- reductions

folds_line : (folds : List EntryFold) (x y : Verdict) (output line : List ℕ) → ReportsFolds folds x output → ReportsFolds folds y line → Same x y output line
folds_line [] x y output line a b = (a.0 ∙ sym b.0, a.1 ∙ sym b.1)
folds_line (fold ∷ folds) x y output line a b = (a.0 ∙ sym b.0, folds_once 1 (fold ∷ folds) output line a.1 b.1)

pub reported_line : (failure : Option Failure) (folds : List EntryFold) (x y : Verdict) (output line : List ℕ)
    → ReportsReduced failure folds x output → ReportsReduced failure folds y line → Same x y output line
reported_line (Some failure) folds x y output line a b = (a.0 ∙ sym b.0, a.1 ∙ sym b.1)
reported_line None folds x y output line a b = folds_line folds x y output line a b

pub reduction_line : (r s : Reduction) (x y : Verdict) (output line : List ℕ) → IsSameReduction r s → IsReductionReport r x output
    → IsReductionReport s y line → Same x y output line
reduction_line (reduction.Evidence item stop) (reduction.Evidence other last) x y output line same a b =
    (a.0 ∙ sym b.0, a.1 ∙ (λ i. item_line (same.0 i) (same.1 i)) ∙ sym b.1)
reduction_line (reduction.Entries folds) (reduction.Entries others) x y output line same a b =
    folds_line others.items x y output line (subst (λ (fs : List EntryFold). ReportsFolds fs x output) same a) b
reduction_line r s x y output line same a b = absurd same

reduced_lines : (text : List ℕ) (c d : Case) (r s : Reduction) (x y : Verdict) (output line : List ℕ) → IsCaseText text c → IsCaseText text d
    → IsReduced c (accepted_by c) (Ok r) → IsReduced d (accepted_by d) (Ok s) → IsReductionReport r x output → IsReductionReport s y line
    → (x ≡ y) × (output ≡ line)
reduced_lines text c d r s x y output line read other m n a b =
    reduction_line r s x y output line
    (own_of_text IsReduced (AreSame IsSameReduction) reduced_one text c d (Ok r) (Ok s) read other m n) a b

reduces_one : (text : List ℕ) (x y : Verdict) (output line : List ℕ) → Reduces text x output → Reduces text y line → Same x y output line
reduces_one text x y output line m n =
    reduced_lines text m.case_read n.case_read m.reduction n.reduction x y output line m.text_is n.text_is
    (m.reduction_is, m.dated) (n.reduction_is, n.dated) m.lines n.lines

-- ---- answers

value_lines : (command : Command) (v : Value) (x y : Verdict) (output line : List ℕ) → AnswersValue command v x output
    → AnswersValue command v y line → Same x y output line
value_lines Intersect v x y output line a b = meets_one (canon v) x y output line a b
value_lines Reduce v x y output line a b = reduces_one (canon v) x y output line a b
value_lines Check v x y output line a b = decides_one (canon v) x y output line a b
value_lines Explain v x y output line a b = explains_one (canon v) x y output line a b
value_lines command v x y output line a b = (a.0 ∙ sym b.0, a.1 ∙ sym b.1)

pub read_one : (command : Command) (text : List ℕ) (x y : Verdict) (output line : List ℕ) → AnswersRead command text x output
    → AnswersRead command text y line → (x ≡ y) × (output ≡ line)
read_one command text x y output line m n =
    value_lines command n.value x y output line
    (subst (λ (v : Value). AnswersValue command v x output) (text_one text m.value n.value m.read n.read) m.answer) n.answer

-- ---- refusals

-- the case of an answer to a command on cases
case_of : (command : Command) (v : Value) (x : Verdict) (output : List ℕ) → IsOnCase command → AnswersValue command v x output
    → (c : Case) × IsCaseText (canon v) c
case_of Reduce v x output on a = (a.case_read, a.text_is)
case_of Check v x output on a = (a.case_read, a.text_is)
case_of Explain v x output on a = (a.case_read, a.text_is)
case_of command v x output on a = absurd on

large_or_not : (command : Command) (v : Value) (x : Verdict) (output : List ℕ) (d : Case) → AnswersValue command v x output
    → IsCaseText (canon v) d → HasTooLarge command d (accepted_by d) → ⊥
large_or_not Reduce v x output d a read large =
    reduced_small a.case_read (accepted_by a.case_read) a.reduction a.reduction_is
    (subst (λ (c : Case). HasTooLarge Reduce c (accepted_by c)) (text-one (canon v) d a.case_read read a.text_is) large)
large_or_not Check v x output d a read large =
    not_both a.case_read (accepted_by a.case_read) a.decided a.decision_is a.unrefused
    (subst (λ (c : Case). HasTooLarge Check c (accepted_by c)) (text-one (canon v) d a.case_read read a.text_is) large)
large_or_not Explain v x output d a read large =
    explained_small a.case_read (accepted_by a.case_read) a.explanation a.explanation_is
    (subst (λ (c : Case). HasTooLarge Explain c (accepted_by c)) (text-one (canon v) d a.case_read read a.text_is) large)
large_or_not command v x output d a read large = large

value_answered : (command : Command) (v : Value) (x : Verdict) (output : List ℕ) (refusal : Refusal) → AnswersValue command v x output
    → RefusesValue command v refusal → refusal ≡ refusals.Memory
value_answered command v x output (refusals.Intersect fault) a r =
    let met = subst (λ (k : Command). AnswersValue k v x output) r.0 a in absurd (text_met (canon v) met.tag fault met.met r.1)
value_answered command v x output (refusals.Case fault) a r =
    let c = case_of command v x output r.0 a in absurd (case_unrefused (canon v) c.0 fault c.1 r.1)
value_answered command v x output (refusals.Decision fault) a r =
    absurd (large_or_not command v x output r.case_read a r.text_is r.large)
value_answered command v x output refusals.Memory a r = refl
value_answered command v x output refusal a r = absurd r

by_value : (command : Command) (text : List ℕ) (x : Verdict) (output : List ℕ) (refusal : Refusal) → AnswersRead command text x output
    → (v : Value) → IsTextWithin text v → RefusesValue command v refusal → refusal ≡ refusals.Memory
by_value command text x output refusal a v read r =
    value_answered command v x output refusal
    (subst (λ (w : Value). AnswersValue command w x output) (text_one text a.value v a.read read) a.answer) r

pub answered : (command : Command) (text : List ℕ) (x : Verdict) (output : List ℕ) (refusal : Refusal) → AnswersRead command text x output
    → RefusesAnswer command text refusal → refusal ≡ refusals.Memory
answered command text x output (refusals.Form fault) a r = absurd (r.none a.value a.read)
answered command text x output (refusals.Rows fault) a r = absurd r
answered command text x output (refusals.List fault) a r = absurd r
answered command text x output (refusals.Question fault) a r = absurd r
answered command text x output refusals.Memory a r = refl
answered command text x output refusal a r = by_value command text x output refusal a r.value r.read r.refused

-- ---- what is refused as TooLarge is refused for nothing else

none_large : (command : Command) (c : Case) → command ≡ Intersect → HasTooLarge command c (accepted_by c) → ⊥
none_large command c is large = subst (λ (k : Command). HasTooLarge k c (accepted_by c)) is large

no_case : (command : Command) → command ≡ Intersect → IsOnCase command → ⊥
no_case command is on = subst IsOnCase is on

-- a value that is refused as too large by its case is refused for nothing else
large_value : (command : Command) (v : Value) (fault : GuardFault) (refusal : Refusal) → RefusesValue command v (refusals.Decision fault)
    → RefusesValue command v refusal → refusal ≢ refusals.Memory → refusal ≡ refusals.Decision TooLarge
large_value command v fault (refusals.Intersect other) a r found = absurd (none_large command a.case_read r.0 a.large)
large_value command v fault (refusals.Case other) a r found = absurd (case_unrefused (canon v) a.case_read other a.text_is r.1)
large_value command v fault (refusals.Decision other) a r found = ap refusals.Decision r.named
large_value command v fault refusals.Memory a r found = absurd (found refl)
large_value command v fault refusal a r found = absurd r

product_value : (command : Command) (v : Value) (refusal : Refusal) → RefusesValue command v (refusals.Intersect intersect.TooLarge)
    → RefusesValue command v refusal → refusal ≢ refusals.Memory → refusal ≡ refusals.Intersect intersect.TooLarge
product_value command v (refusals.Intersect other) a r found = ap refusals.Intersect (text_large (canon v) other a.1 r.1)
product_value command v (refusals.Case other) a r found = absurd (no_case command a.0 r.0)
product_value command v (refusals.Decision other) a r found = absurd (none_large command r.case_read a.0 r.large)
product_value command v refusals.Memory a r found = absurd (found refl)
product_value command v refusal a r found = absurd r

module _ (command : Command) (text : List ℕ) (Said : Value → Refusal → Type 0) (one : Refusal)
    (large : (v : Value) (refusal : Refusal) → Said v one → RefusesValue command v refusal → refusal ≢ refusals.Memory → refusal ≡ one) where
  -- a text that is refused by its value for `one` is refused for nothing else, unless memory ran out
  only : (v : Value) → IsTextWithin text v → Said v one → (refusal : Refusal) → RefusesAnswer command text refusal
      → refusal ≢ refusals.Memory → refusal ≡ one
  only v read a (refusals.Form fault) r found = absurd (r.none v read)
  only v read a (refusals.Rows fault) r found = absurd r
  only v read a (refusals.List fault) r found = absurd r
  only v read a (refusals.Question fault) r found = absurd r
  only v read a refusals.Memory r found = absurd (found refl)
  only v read a refusal r found = large r.value refusal (subst (λ (w : Value). Said w one) (text_one text v r.value read r.read) a) r.refused found

pub large_only : (command : Command) (text : List ℕ) (refusal : Refusal) → RefusesAnswer command text (refusals.Decision TooLarge)
    → RefusesAnswer command text refusal → refusal ≢ refusals.Memory → refusal ≡ refusals.Decision TooLarge
large_only command text refusal a r found =
    only command text (RefusesValue command) (refusals.Decision TooLarge) (λ v other. large_value command v TooLarge other) a.value a.read a.refused
    refusal r found

pub product_only : (command : Command) (text : List ℕ) (refusal : Refusal) → RefusesAnswer command text (refusals.Intersect intersect.TooLarge)
    → RefusesAnswer command text refusal → refusal ≢ refusals.Memory → refusal ≡ refusals.Intersect intersect.TooLarge
product_only command text refusal a r found =
    only command text (RefusesValue command) (refusals.Intersect intersect.TooLarge) (product_value command) a.value a.read a.refused refusal r found
