use Rattle.std.proofs.{Common.{rules}, lemmas.{Bool.{both_ways}, Result.{IfErr-weaker}}}
use Rattle.sexpr_text.proofs.{WholeTexts.{braced_text, spelled_text}, OneRefusal.{spelling_refused, braces_refused}}
use Rattle.sexpr_text.proofs.reader.read_any.Goals as goal

pub returns-then-opens_braces-clause-only : goal.returns-then-opens_braces-clause-only
returns-then-opens_braces-clause-only c = search (rules, braced_text)

pub returns-clause-only : goal.returns-clause-only
returns-clause-only c = λ v h.
    c.read_advanced.ensures.only v
    (spelled_text _ _ v c.skip_spaces-begin.ensures (λ brace. both_ways _ c.if-opens_braces.false (c.opens_braces.ensures.1 brace)) h)

pub returns-then-opens_braces-clause-refused : goal.returns-then-opens_braces-clause-refused
returns-then-opens_braces-clause-refused c = search (rules, IfErr-weaker, braces_refused)

pub returns-clause-refused : goal.returns-clause-refused
returns-clause-refused c =
    IfErr-weaker c.read_advanced.result _ _
    (λ fault h. spelling_refused _ _ fault c.skip_spaces-begin.ensures (λ brace. both_ways _ c.if-opens_braces.false (c.opens_braces.ensures.1 brace)) h)
    c.read_advanced.ensures.refused
