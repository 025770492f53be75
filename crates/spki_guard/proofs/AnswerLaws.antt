-- The answers and refusals that results become: those for the operands of an intersection, for cases whose tags are too
-- large, and for cases and accepted lists that are read from canonical texts.
use Rattle.std.proofs.Common.{◌≡◌, ◌≢◌, inl, inr, List, [], ◌∷◌, Option, Some, None, MatchOption, sym, ap, ◌∙◌, rules, ℕ, refl, Result, Ok, Err, IfErr, subst, IfOk}
use Rattle.std.specs.Prelude.{codes, IsErrAnd}
use Rattle.sexpr_core.specs.{Value.{Value, canon}, declared.fault.FormFault.{FormFault}}
use Rattle.spki_tag.specs.{declared.fault.TagFault.{TagFault}, Faults.{IsNamed, tag_fault}, Reading.{ReadsAs, IsNoTag}, Tag.{Tag}}
use Rattle.spki_tag.proofs.Named.{named-sure}
use Rattle.spki_case.{specs.Case.{headed, IsOuter, Case, accepted_by, IsCaseText, IsTextOf}, proofs.{Building.{behind_head}, OneCase.{one_text}}}
use Rattle.spki_guard.specs.declared.{intersection.{IntersectFault.{IntersectFault}, Operands.{Operands}}, refusals.Refusal.{Refusal}}
use Rattle.spki_guard.specs.declared.{queries.Query.{Query}, answers.Answer.{Answer}}
use Rattle.spki_guard.specs.TextAnswers.{RefusesValue, HasTooLarge, IsOnCase, AnswersValue, AnswersRead, RefusesAnswer, ReadsCase, DecidesApart, DecidesBy, RefusesApart, RefusesBy}
use Rattle.spki_guard.specs.{Intersect.{intersect_value, ValueNotMet}, Inner.Prints.{PrintsAs, command_of}}
use Rattle.spki_decision.specs.declared.fault.GuardFault.{GuardFault}
use Rattle.spki_words.specs.declared.commands.Command.{Command}
use Rattle.sexpr_text.specs.{AdvancedForm.{IsTextWithin}, CanonicalTexts.{IsReadAs, RefusesForm}}
use Rattle.spki_tag.specs.declared.fault.TagFault.TheVariants as tag_faults
use Rattle.spki_guard.specs.declared.intersection.IntersectFault.TheVariants as intersect
use Rattle.spki_decision.specs.declared.fault.GuardFault.TheVariants as guard
use Rattle.spki_guard.specs.declared.refusals.Refusal.TheVariants as refusals
use Rattle.spki_guard.specs.declared.queries.Query.TheVariants as query

-- ---- the two operands of an intersection

-- the two values behind the head `intersect` are A and B of `(intersect A B)`
pub lifted : (v : Value) (ms : List Value) (r : Option Operands) → v ≡ headed (codes "intersect") ms
    → MatchOption r ((a b : Value) → ms ≢ a ∷ b ∷ []) (λ p. ms ≡ p.first ∷ p.second ∷ [])
    → MatchOption r ((a b : Value) → v ≢ intersect_value a b) (λ p. v ≡ intersect_value p.first p.second)
lifted v ms None e h = λ a b k. h a b (behind_head (codes "intersect") ms (a ∷ b ∷ []) (sym e ∙ k))
lifted v ms (Some p) e h = e ∙ ap (headed (codes "intersect")) h

-- A is no tag
pub first_refused : (v a b : Value) (fault : TagFault) (outer : IntersectFault) → v ≡ intersect_value a b
    → IsNoTag fault a → IsNamed fault (tag_fault a)
    → IsOuter (fault ≡ tag_faults.Memory) intersect.Memory (intersect.First fault) outer → outer ≢ intersect.Memory
    → ValueNotMet v outer
first_refused v a b fault outer e none named (inl (inside, is)) found = absurd (found is)
first_refused v a b fault outer e none named (inr (known, is)) found = search (rules, named-sure, tag_fault)

-- A is a tag, and B is none
pub second_refused : (v a b : Value) (t : Tag) (fault : TagFault) (outer : IntersectFault) → v ≡ intersect_value a b
    → ReadsAs a t → IsNoTag fault b → IsNamed fault (tag_fault b)
    → IsOuter (fault ≡ tag_faults.Memory) intersect.Memory (intersect.Second fault) outer → outer ≢ intersect.Memory
    → ValueNotMet v outer
second_refused v a b t fault outer e read none named (inl (inside, is)) found = absurd (found is)
second_refused v a b t fault outer e read none named (inr (known, is)) found = search (rules, named-sure, tag_fault)

-- ---- a case whose tags are too large, as the command's refusal

decision_refused : (command : Command) (v : Value) (text : List ℕ) (c : Case) (fault : GuardFault) → text ≡ canon v → IsCaseText text c
    → (fault ≡ guard.TooLarge → HasTooLarge command c (accepted_by c)) → fault ≢ guard.Memory → RefusesValue command v (refusals.Decision fault)
decision_refused command v text c guard.TooLarge e t large other =
    record { case_read = c; text_is = rw (← e) t; named = refl; large = large refl }
decision_refused command v text c guard.Memory e t large other = absurd (other refl)

pub undecided : (command : Command) (v : Value) (text : List ℕ) (c : Case) (fault : GuardFault) (outer : Refusal) → text ≡ canon v → IsCaseText text c
    → (fault ≡ guard.TooLarge → HasTooLarge command c (accepted_by c))
    → IsOuter (fault ≡ guard.Memory) refusals.Memory (refusals.Decision fault) outer → RefusesValue command v outer
undecided command v text c fault outer e t large (inl h) = let is = h.1 in rw is tt
undecided command v text c fault outer e t large (inr h) = let is = h.1 in rw is (decision_refused command v text c fault e t large h.0)

pub err_lifted : {T E : Type 0} (r : Result T E) (P Q : E → Type 0) → IsErrAnd r P → ((x : E) → P x → Q x) → IfErr r Q
err_lifted (Ok v) P Q h f = tt
err_lifted (Err x) P Q h f = f x h

-- ---- what is read of a canonical text

module _ (text : List ℕ) (said : Value → Type 0) where
  -- The text, in any of the three forms, is that of a value within the limits for which the statement is true.
  abbrev Says : Type 0
  Says = (v : Value) × IsTextWithin text v × IsTextOf said (canon v)

  -- a statement that is true of the value of its document's node is true of the text
  pub says : (read : Result (List ℕ) FormFault) (v w : Value) → IsReadAs (IsTextWithin text) (RefusesForm text) read → read ≡ Ok (canon v)
      → w ≡ v → said w → Says
  says (Ok octets) v w (u, meant, within, written) e same is =
      let given : octets ≡ canon v = cc e in
      let one : u ≡ w = one_text octets u v written given ∙ sym same in
      (u, meant, record { value = u; within = within; written = refl; is = subst said (sym one) is })
  says (Err fault) v w r e same is = let no : ⊥ = cc e in absurd no

-- ---- the answer to a text, from that to its value

pub answered_by : (command : Command) (text : List ℕ) (v : Value) (r : Result Answer Refusal) → IsTextWithin text v
    → IfOk r (PrintsAs (AnswersValue command v))
    → IfOk r (PrintsAs (AnswersRead command text))
answered_by command text v (Ok x) t h = λ output printed. record { value = v; read = t; answer = h output printed }
answered_by command text v (Err refusal) t h = tt

refused_by : (command : Command) (text : List ℕ) (v : Value) (refusal : Refusal) → IsTextWithin text v
    → RefusesValue command v refusal → RefusesAnswer command text refusal
refused_by command text v (refusals.Form fault) t h = absurd h
refused_by command text v (refusals.Rows fault) t h = absurd h
refused_by command text v (refusals.List fault) t h = absurd h
refused_by command text v (refusals.Question fault) t h = absurd h
refused_by command text v refusals.Memory t h = tt
refused_by command text v refusal t h = record { value = v; read = t; refused = h }

pub err_by : (command : Command) (text : List ℕ) (v : Value) (r : Result Answer Refusal) → IsTextWithin text v
    → IfErr r (λ refusal. RefusesValue command v refusal) → IfErr r (λ refusal. RefusesAnswer command text refusal)
err_by command text v (Ok a) t h = tt
err_by command text v (Err refusal) t h = refused_by command text v refusal t h

pub on_case : (command : Command) (own : Query) → command ≡ command_of own → IsOnCase command
on_case command query.Reduce e = subst IsOnCase (sym e) tt
on_case command query.Decide e = subst IsOnCase (sym e) tt
on_case command query.Explain e = subst IsOnCase (sym e) tt

-- ---- the same for a case with a separate accepted list

pub apart_answered : (text rows : List ℕ) (c : Case) (r : Result Answer Refusal) → ReadsCase text c
    → IfOk r (PrintsAs (DecidesBy c rows)) → IfOk r (PrintsAs (DecidesApart text rows))
apart_answered text rows c (Ok a) t h = λ printed is. record { case_read = c; text_is = t; is = h printed is }
apart_answered text rows c (Err refusal) t h = tt

apart_refusal : (text rows : List ℕ) (c : Case) (refusal : Refusal) → ReadsCase text c → RefusesBy c rows refusal
    → RefusesApart text rows refusal
apart_refusal text rows c (refusals.Decision fault) t h = record { case_read = c; text_is = t; is = h }
apart_refusal text rows c (refusals.Rows fault) t h = record { case_read = c; text_is = t; is = h }
apart_refusal text rows c refusals.Memory t h = tt
apart_refusal text rows c refusal t h = absurd h

pub apart_refused : (text rows : List ℕ) (c : Case) (r : Result Answer Refusal) → ReadsCase text c
    → IfErr r (λ refusal. RefusesBy c rows refusal) → IfErr r (λ refusal. RefusesApart text rows refusal)
apart_refused text rows c (Ok a) t h = tt
apart_refused text rows c (Err refusal) t h = apart_refusal text rows c refusal t h
