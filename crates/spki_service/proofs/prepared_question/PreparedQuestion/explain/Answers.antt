use Rattle.std.proofs.Common.{ap, ◌∙◌, rules}
use Rattle.spki_decision.{specs.CertificateTests.{asked}, proofs.ListedSignatures.{refused_within}}
use Rattle.spki_service.proofs.AnswerLaws.{explained_all, explained_none, refused_there}
use Rattle.spki_service.proofs.prepared_question.PreparedQuestion.explain.Goals as goal

pub returns-in-None : goal.returns-in-None
returns-in-None g c = search (rules, explained_all)

pub returns-in-Some : goal.returns-in-Some
returns-in-Some g c =
    let verified = g.V.Verifier.accepted c.args.verifier.now in
    let there = refused_there (λ _. verified) _ c.deref.result.now (asked c.args.self.now.case) c.in-Some.index
    c.index.result.now (rw c.in-Some.is at c.in_ok-first_refused.ensures) c.deref.ensures.value
    (c.self.invariant.0 ∙ ap (λ a. asked a.case) c.self.view_is) c.index.ensures in
    explained_none c.args.self.now verified c.in-Some.index there.0 _ there.1

pub index-requires : goal.index-requires
index-requires g c = search (rules, refused_within)
