use Rattle.std.proofs.Common.{rules}
use Rattle.spki_case.specs.View.{model}
use Rattle.spki_service.proofs.PartTexts.{has_many, has_few, uncounted}
use Rattle.spki_service.proofs.counts.check_counts.Goals as goal

pub returns-in_err-has_more_strings-clause-many : goal.returns-in_err-has_more_strings-clause-many
returns-in_err-has_more_strings-clause-many c = λ q t a.
    let limits = c.args.limits in let inner = c.in_err-has_more_strings.field-0.0 in
    uncounted q c.args.texts.now (model c.args.case.now) limits.certificates limits.words inner c.from_residual.result t a
    c.from_residual.ensures.1 c.in_err-has_more_strings.ensures.refused

pub returns-then-branch-clause-many : goal.returns-then-branch-clause-many
returns-then-branch-clause-many c = search (rules, has_many)

pub returns-clause-short : goal.returns-clause-short
returns-clause-short c = search (rules, has_few)
