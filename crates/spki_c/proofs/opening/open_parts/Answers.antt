use Rattle.std.proofs.Common.{List, map, inr}
use Rattle.spki_c.{specs.declared.text.Text.{Text}, proofs.Answering.{question_by, is_question_by, one_line}}
use Rattle.spki_c.proofs.opening.open_parts.Goals as goal

pub returns-in_default-clause-refused : goal.returns-in_default-clause-refused
returns-in_default-clause-refused c =
    let words = map (λ (t : Text). t.octets) c.args.texts.items in (
      question_by c.args.parts words c.args.seconds.now,
      is_question_by c.args.parts words c.args.seconds.now,
      inr (record { verdict_is = c.refused_question.ensures.verdict; line = one_line c.refused_question.ensures.line }),
    )
