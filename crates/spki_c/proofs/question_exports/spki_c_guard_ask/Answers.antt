use Rattle.std.proofs.Common.{◌≡◌, rules, ℕ, ℤ, List, map, inl, inr, ap, subst, ◌∙◌, Some, refl}
use Rattle.spki_service.specs.{AccessLists.{GuardModel}, GuardQuestions.{IsOpened}, declared.question.Question.{Question}}
use Rattle.spki_guard.specs.{TextAnswers.{written_by}, HeldQuestions.{IsUnreadQuestion}}
use Rattle.spki_c.specs.{Asking.{IsQuestionOf}, declared.{parts.Parts.{Parts}, text.Text.{Text}}}
use Rattle.spki_c.proofs.Answering.{question_by, is_question_by, one_line}
use Rattle.spki_c.proofs.question_exports.spki_c_guard_ask.Goals as goal

pub returns-in-Err-Memory-clause-asked : goal.returns-in-Err-Memory-clause-asked
returns-in-Err-Memory-clause-asked c g held lent clear =
    let words = map (λ (t : Text). t.octets) c.args.readable.texts in (
      question_by c.args.parts words c.args.seconds.now,
      is_question_by c.args.parts words c.args.seconds.now,
      inr (record {
        kept = refl;
        verdict = c.refused_question-answer.result.verdict;
        output = written_by c.refused_question-answer.result;
        unread = inr (record { verdict_is = c.refused_question-answer.ensures.verdict; line = one_line c.refused_question-answer.ensures.line });
        handed = c.hand_over.ensures;
      }),
    )

-- the question is that of the parts and texts that were passed
asked : (p parts : Parts) (ts texts : List Text) (seconds : List ℤ) (q : Question) → p ≡ parts → ts ≡ texts → IsQuestionOf p ts seconds q → IsQuestionOf parts texts seconds q
asked p parts ts texts seconds q e f is =
    subst (λ (r : Parts). IsQuestionOf r texts seconds q) e (subst (λ (us : List Text). IsQuestionOf p us seconds q) f is)

pub returns-in-Ok-open_parts-clause-asked : goal.returns-in-Ok-open_parts-clause-asked
returns-in-Ok-open_parts-clause-asked c g held lent clear =
    let parts = c.is_ambiguous.ensures.same ∙ c.are_lent.ensures.same in
    let opened = c.in-Ok-open_parts.ensures.opened in let it = opened.2 in
    let same : c.in-Some.guard.now ≡ g = search rules in (
      opened.0,
      asked c.is_ambiguous.new.self c.args.parts c.in-Ok.texts.items c.args.readable.texts c.args.seconds.now opened.0 parts c.in-Ok.ensures.read.0 opened.1,
      inl (record {
        question = it.0;
        held_is = c.hold.ensures ∙ ap Some (c.of.ensures ∙ it.1);
        opened = subst (λ (h : GuardModel). IsOpened h opened.0 it.0) same it.2;
        unmarked = it.3;
        unchanged = refl;
        needed_is = refl;
        status_is = refl;
      }),
    )

pub returns-in-Err-clause-asked : goal.returns-in-Err-clause-asked
returns-in-Err-clause-asked c g held lent clear =
    let parts = c.is_ambiguous.ensures.same ∙ c.are_lent.ensures.same in
    let refused = c.in-Err.ensures.refused in let answer = c.in-Err.answer in
    let same : c.in-Some.guard.now ≡ g = search rules in (
      refused.0,
      asked c.is_ambiguous.new.self c.args.parts c.in-Ok.texts.items c.args.readable.texts c.args.seconds.now refused.0 parts c.in-Ok.ensures.read.0 refused.1,
      inr (record {
        kept = refl;
        verdict = answer.verdict;
        output = written_by answer;
        unread = subst (λ (h : GuardModel). IsUnreadQuestion h refused.0 answer.verdict (written_by answer)) same refused.2;
        handed = c.hand_over-in-Err.ensures;
      }),
    )
