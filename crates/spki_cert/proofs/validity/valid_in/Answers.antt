use Rattle.std.proofs.Common.{◌≡◌, ◌∷◌, ◌++◌, [], refl, Some, rules}
use Rattle.spki_cert.proofs.{HeadedLists.{carried, split, moved}, FieldLaws.{valid-none, valid-more}}
use Rattle.spki_cert.proofs.FieldFaultLaws.{left-all, left-fault, left-next, left-none}
use Rattle.spki_cert.specs.{declared.fault.CertFaultKind.{CertFaultKind}, FieldFaults.{limit_fault, fields_fault}}
use Rattle.spki_cert.proofs.validity.valid_in.Goals as goal

pub loop-field-preserved : goal.loop-field-preserved
loop-field-preserved c =
    let i = c.loop-field.invariant in
    let e : c.args.members ≡ i.0 ++ c.in-Some.field ∷ c.in-Some.others = split c.args.members i.0 c.loop-field.rest c.in-Some.others c.in-Some.field i.1 c.in-Some.ensures in (
      i.0 ++ c.in-Some.field ∷ [],
      moved c.args.members i.0 c.in-Some.others c.in-Some.field e,
      valid-more i.0 c.in-Some.field c.loop-field.window c.in_ok-window.window i.2 c.in_ok-window.ensures.found,
      left-next limit_fault c.args.members i.0 c.loop-field.rest c.in-Some.others c.in-Some.field i.3 c.in-Some.ensures
          (c.in_ok-window.ensures.faultless i.0 i.2),
    )

pub loop-field-init : goal.loop-field-init
loop-field-init c = ([], refl, valid-none, left-all limit_fault c.args.members)

pub returns-in_err-window-clause-named : goal.returns-in_err-window-clause-named
returns-in_err-window-clause-named c =
    let i = c.loop-field.invariant in
    carried c.from_residual.result _ (λ (kind : CertFaultKind). fields_fault limit_fault c.args.members ≡ Some kind) c.from_residual.ensures.1
    (left-fault limit_fault c.args.members i.0 c.loop-field.rest c.in-Some.others c.in-Some.field _ i.3 c.in-Some.ensures
    (c.in_err-window.ensures.named i.0 i.2))

pub returns-clause-faultless : goal.returns-clause-faultless
returns-clause-faultless c = search (rules, left-none)
