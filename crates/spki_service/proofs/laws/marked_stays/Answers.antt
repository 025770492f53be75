use Rattle.std.proofs.Common.{◌∙◌, sym, subst}
use Rattle.spki_service.specs.{declared.owned_question.OwnedQuestion.{OwnedQuestion}, GuardQuestions.{IsOpened}}
use Rattle.spki_service.proofs.laws.marked_stays.Goals as goal

pub returns : goal.returns
returns c held q old new index m o =
    subst (λ (n : OwnedQuestion). IsOpened held q n) (sym m.others) (record {
      guard_is = o.guard_is;
      texts = o.texts;
      short = o.short;
      kept = o.kept;
      counted = m.marks.counted ∙ o.counted;
    })
