-- If the status is yes, there is a grant.
use Rattle.std.proofs.{Common.{◌≡◌, ℕ, List, length, Bool, Option, Some, None, ℤ, inl, inr, refl, sym, ◌∙◌, subst, arith}, lemmas.Bool.{cases_lt}}
use Rattle.spki_decision.specs.declared.grant.Grant.{Grant}
use Rattle.spki_service.specs.{AccessLists.{GuardModel}, declared.{owned_question.OwnedQuestion.{OwnedQuestion}, question.Question.{Question}}}
use Rattle.spki_guard.specs.declared.answers.Verdict.{Verdict, TheVariants.{Done, No, Refused}}
use Rattle.spki_guard.specs.declared.queries.Query.{Query, TheVariants.{Decide, Explain, Reduce}}
use Rattle.spki_guard.specs.HeldQuestions.{HasGrant, IsGrantFor}
use Rattle.spki_c.specs.{Guards.{status_for}, Results.{IsHanded}, Until.{number_of, IsHeldUntil}}

-- if the status that is returned is yes, that of the answer is
answered_yes : (old new : List ℕ) (needed status given : ℕ) (output : List ℕ) → IsHanded old new needed status given output → status ≡ 9 → given ≡ 9
answered_yes old new needed status given output handed nine = elim (cases_lt (length old) (length output)) [
  | inl long ↦ absurd (omega (arith, nine, (handed.too_small long).status_is))
  | inr fits ↦ sym (handed.fits fits).status_is ∙ nine
]

-- only a decision whose verdict is Done has the status yes
decided_yes : (query : Query) (verdict : Verdict) → status_for query verdict ≡ 9 → (query ≡ Decide) × (verdict ≡ Done)
decided_yes Decide Done e = (refl, refl)
decided_yes Decide No e = absurd (omega (arith, e))
decided_yes Decide Refused e = absurd (omega (arith, e))
decided_yes Explain Done e = absurd (omega (arith, e))
decided_yes Explain No e = absurd (omega (arith, e))
decided_yes Explain Refused e = absurd (omega (arith, e))
decided_yes Reduce Done e = absurd (omega (arith, e))
decided_yes Reduce No e = absurd (omega (arith, e))
decided_yes Reduce Refused e = absurd (omega (arith, e))

held_of : (held : GuardModel) (q : Question) (marks : List Bool) (verdict : Verdict) (grant : Option Grant) (number : ℤ)
    → HasGrant held q marks verdict grant → verdict ≡ Done → number ≡ number_of grant → IsHeldUntil held q marks number
held_of held q marks verdict None number has done is = absurd (let none = has.some done in cc)
held_of held q marks verdict (Some grant) number has done is =
    record { grant = grant; granted = subst (λ (v : Verdict). HasGrant held q marks v (Some grant)) done has; number_is = is }

pub held_until : (query : Query) (o : OwnedQuestion) (q : Question) (verdict : Verdict) (grant : Option Grant) (number : ℤ)
    (old new : List ℕ) (needed status given : ℕ) (output : List ℕ) → IsGrantFor query o.guard q o.marks.items verdict grant
    → given ≡ status_for query verdict → IsHanded old new needed status given output → status ≡ 9 → (status ≡ 9 → number ≡ number_of grant)
    → IsHeldUntil o.guard q o.marks.items number
held_until query o q verdict grant number old new needed status given output has given_is handed nine number_is =
    let done = decided_yes query verdict (sym given_is ∙ answered_yes old new needed status given output handed nine) in
    held_of o.guard q o.marks.items verdict grant number
    (subst (λ (u : Query). IsGrantFor u o.guard q o.marks.items verdict grant) done.0 has) done.1 (number_is nine)
