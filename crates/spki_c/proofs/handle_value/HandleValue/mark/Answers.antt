use Rattle.std.proofs.Common.{◌≡◌, ◌<◌, length, Bool, true, false, IsTrue, refl, sym, ap, subst, arith}
use Rattle.spki_service.specs.declared.owned_question.OwnedQuestion.{OwnedQuestion}
use Rattle.spki_c.specs.{declared.handle_value.HandleValue.{HandleValue, TheVariants.{Question}}, HandleValues.{IsMarkedBy}}
use Rattle.spki_c.proofs.handle_value.HandleValue.mark.Goals as goal

none : (b : Bool) → ¬ IsTrue b → b ≡ false
none true h = absurd (h refl)
none false h = refl

pub returns-in-Question : goal.returns-in-Question
returns-in-Question c =
    let m = c.mark.ensures in
    let here : IsMarkedBy (Question c.in-Question.opened) c.args.index (Question c.mark.new.self) c.mark.result = (
      λ below. let is = m.listed.1 below in (c.mark.new.self, refl, m.marked is, is),
      λ past.
          let off = none c.mark.result (λ is. let below = m.listed.0 is in omega (arith, below, past)) in
          (ap Question (m.same off), off),
    ) in
    subst (λ (s : HandleValue). IsMarkedBy s c.args.index (Question c.mark.new.self) c.mark.result) (sym c.in-Question.is) here
