use Rattle.spki_cert.specs.{declared.fault.CertFaultKind.{CertFaultKind}, Inner.Gathering.{first, last, LimitLook}, Readings.{DateOf}, Fields.{Sole}}
use Rattle.spki_cert.specs.FieldFaults.{limit_fault}
use Rattle.spki_cert.proofs.FieldFaultLaws.{limit-first as looked-first, limit-last as looked-last, limit-online, limit-other, field-again, field-new, field-misfit, again-limit, online-new}
use Rattle.spki_cert.proofs.HeadedLists.{carried}
use Rattle.std.{proofs.Common.{◌≡◌, List, ℕ, sym, refl, Option, Some, None, false, ◌∙◌, rules}, specs.Prelude.{codes, is_some}}
use Rattle.spki_cert.proofs.validity.with_limit.Goals as goal

no-limit : (o : Option (List ℕ)) → is_some o ≡ false → o ≡ None
no-limit None e = refl
no-limit (Some t) e = absurd cc

pub returns-in-Some-clause-found : goal.returns-in-Some-clause-found
returns-in-Some-clause-found c =
    first c.in_ok-date.date (c.in-Some.members, c.in-Some.ensures, c.in_ok-date.ensures.found) (no-limit c.args.window.not_before (sym c.is_some.ensures ∙ c.if-is_some.false)) refl

pub returns-in-Some-headed-clause-found : goal.returns-in-Some-headed-clause-found
returns-in-Some-headed-clause-found c =
    last c.in_ok-date-2.date (c.in-Some-headed.members, c.in-Some-headed.ensures, c.in_ok-date-2.ensures.found) (no-limit c.args.window.not_after (sym c.is_some-in-Some-headed.ensures ∙ c.if-is_some-2.false)) refl

pub returns-then-is_some-clause-named : goal.returns-then-is_some-clause-named
returns-then-is_some-clause-named c = search (rules, field-again, again-limit)

pub returns-in_err-date-clause-named : goal.returns-in_err-date-clause-named
returns-in_err-date-clause-named c =
    carried c.from_residual.result _ (λ (kind : CertFaultKind). LimitLook c.args.window c.args.field.now (Some kind)) c.from_residual.ensures.1
    (λ before read.
    field-new limit_fault before c.args.field.now _
    (again-limit (codes "not-before") (Sole DateOf) before c.args.field.now c.in-Some.members c.args.window.not_before false c.in-Some.ensures read.limits_are.0
    (sym c.is_some.ensures ∙ c.if-is_some.false))
    (looked-first c.args.field.now _ c.in-Some.ensures ∙ c.in_err-date.ensures.named))

pub returns-in-Some-clause-faultless : goal.returns-in-Some-clause-faultless
returns-in-Some-clause-faultless c = search (rules, field-new, again-limit, looked-first)

pub returns-then-is_some-2-clause-named : goal.returns-then-is_some-2-clause-named
returns-then-is_some-2-clause-named c = search (rules, field-again, again-limit)

pub returns-in_err-date-2-clause-named : goal.returns-in_err-date-2-clause-named
returns-in_err-date-2-clause-named c =
    carried c.from_residual-in_err-date-2.result _ (λ (kind : CertFaultKind). LimitLook c.args.window c.args.field.now (Some kind)) c.from_residual-in_err-date-2.ensures.1
    (λ before read.
    field-new limit_fault before c.args.field.now _
    (again-limit (codes "not-after") (Sole DateOf) before c.args.field.now c.in-Some-headed.members c.args.window.not_after false c.in-Some-headed.ensures read.limits_are.1
    (sym c.is_some-in-Some-headed.ensures ∙ c.if-is_some-2.false))
    (looked-last c.args.field.now _ c.in-Some-headed.ensures ∙ c.in_err-date-2.ensures.named))

pub returns-in-Some-headed-clause-faultless : goal.returns-in-Some-headed-clause-faultless
returns-in-Some-headed-clause-faultless c = search (rules, field-new, again-limit, looked-last)

pub returns-in-Some-headed-2-clause-named : goal.returns-in-Some-headed-2-clause-named
returns-in-Some-headed-2-clause-named c = λ before read.
    field-new limit_fault before c.args.field.now _ (online-new before c.args.field.now _ c.args.window c.in-Some-headed-2.ensures read)
    (limit-online c.args.field.now _ c.in_default.ensures c.in_default-headed.ensures c.in-Some-headed-2.ensures)

pub returns-in-None-clause-named : goal.returns-in-None-clause-named
returns-in-None-clause-named c = search (rules, field-misfit, limit-other)
