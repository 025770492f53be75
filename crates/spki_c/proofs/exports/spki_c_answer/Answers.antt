use Rattle.std.proofs.Common.{◌≡◌, ℕ, List, sym, ap, subst, ◌∙◌}
use Rattle.spki_words.specs.declared.commands.Command.{Command}
use Rattle.spki_guard.specs.TextAnswers.{written_by}
use Rattle.spki_c.{specs.Results.{status_of, AnswersText, IsHanded}, proofs.OneCommand.{one_command}}
use Rattle.spki_c.proofs.exports.spki_c_answer.Goals as goal

of_status : {old new : List ℕ} {needed status a b : ℕ} {output : List ℕ} → a ≡ b → IsHanded old new needed status a output → IsHanded old new needed status b output
of_status {old = old} {new = new} {needed = needed} {status = status} {output = output} e handed =
    subst (λ (n : ℕ). IsHanded old new needed status n output) e handed

pub returns-in-Some-clause-answered : goal.returns-in-Some-clause-answered
returns-in-Some-clause-answered c asked e lent =
    let answer = c.answer_text-answer.result in
    let same : c.in-Some.command ≡ asked = one_command c.in-Some.command asked (sym c.in-Some.ensures ∙ e) in
    let whole : c.octets.result.now ≡ c.args.text.octets = c.octets.ensures ∙ ap (λ t. t.octets) c.is_lent.ensures.0 in
    let answers : AnswersText c.in-Some.command c.octets.result.now answer.verdict (written_by answer) =
    record { answer = c.answer_text-answer.ensures.answer; too_long = c.answer_text-answer.ensures.too_long } in (
      answer.verdict,
      written_by answer,
      subst (λ (asked : Command). AnswersText asked c.args.text.octets answer.verdict (written_by answer)) same
          (subst (λ (text : List ℕ). AnswersText c.in-Some.command text answer.verdict (written_by answer)) whole answers),
      of_status (c.status_number-status.ensures ∙ ap (λ (k : Command). status_of k answer.verdict) same) c.hand_over.ensures,
    )
