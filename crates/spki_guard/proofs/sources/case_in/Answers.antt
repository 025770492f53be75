use Rattle.std.proofs.Common.{inl, inr}
use Rattle.spki_case.specs.{Case.{CaseOf, ValueRefused}, View.{model}}
use Rattle.spki_guard.proofs.AnswerLaws.{says, err_lifted}
use Rattle.spki_guard.proofs.sources.case_in.Goals as goal

pub returns-in_ok-of-in-Ok-clause-read : goal.returns-in_ok-of-in-Ok-clause-read
returns-in_ok-of-in-Ok-clause-read c given r =
    let s = says given (λ v. CaseOf v (model c.in_ok-of-in-Ok.field-0)) c.args.text.now _ c.top.result r.is c.in-Ok.ensures.read c.top.ensures c.in_ok-of-in-Ok.ensures.read in
    record { value = s.0; read = s.1; is_case = s.2 }

pub returns-in_err-of-in-Ok-clause-refused : goal.returns-in_err-of-in-Ok-clause-refused
returns-in_err-of-in-Ok-clause-refused c given r = err_lifted c.from_residual.result _ _ c.from_residual.ensures.1 (λ outer h. elim h [
  | inl m ↦ (let is = m.1 in rw is ((λ command on. tt), (λ rows. tt)))
  | inr n ↦ (
      let is = n.1 in
      let s = says given (λ v. ValueRefused v c.in_err-of-in-Ok.field-0.0) c.args.text.now _ c.top.result r.is c.in-Ok.ensures.read c.top.ensures
      (c.in_err-of-in-Ok.ensures.refused n.0) in
      rw is (
        (λ command on. record { value = s.0; read = s.1; refused = (on, inr s.2) }),
        (λ rows. record { value = s.0; read = s.1; refused = inr s.2 }),
      ))
])
