use Rattle.std.proofs.Common.{List, map, ap, subst, ◌∙◌, rules}
use Rattle.spki_decision.specs.CertificateTests.{signed_of, Signed, asked, RefusedAt}
use Rattle.spki_service.proofs.AnswerLaws.{granted_all, decided_none}
use Rattle.spki_service.proofs.prepared_question.PreparedQuestion.grant.Goals as goal

pub returns-in-None : goal.returns-in-None
returns-in-None g c = search (rules, granted_all)

pub returns-in-Some : goal.returns-in-Some
returns-in-Some g c =
    let verified = g.V.Verifier.accepted c.args.verifier.now in
    let first : RefusedAt verified (map signed_of c.deref.result.now) c.in-Some.field-0 = rw c.in-Some.is at c.in_ok-first_refused.ensures in
    let same = ap (map signed_of) c.deref.ensures.value ∙ c.self.invariant.0 ∙ ap (λ a. asked a.case) c.self.view_is in (
      decided_none c.args.self.now verified c.in-Some.field-0 (subst (λ (xs : List Signed). RefusedAt verified xs c.in-Some.field-0) same first),
      λ es are. tt,
    )
