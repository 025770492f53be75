use Rattle.std.proofs.lemmas.Result.{IfOk-weaker}
use Rattle.spki_reduce.specs.Chain.{tuples_of}
use Rattle.spki_case.specs.View.{model}
use Rattle.spki_decision.proofs.{CertificateTests.{decided, unrefused, too_large}, EntryChains.{all_stand}}
use Rattle.spki_decision.proofs.decision.decide.Goals as goal

pub returns-in-Verified-clause-within_limit : goal.returns-in-Verified-clause-within_limit
returns-in-Verified-clause-within_limit g c =
    IfOk-weaker c.first_granting.result _ _
    (unrefused (model c.args.case.now) (g.V.Verifier.accepted c.args.verifier.now) (tuples_of c.in-Verified.steps.items)
    (all_stand _ _ _ _ _ c.deref.ensures.value c.in_ok-judge.ensures c.in-Verified.steps c.in-Verified.is))
    (rw c.deref-in-Verified.ensures.value at c.first_granting.ensures.within_limit)

pub returns-in-Verified-clause-exact : goal.returns-in-Verified-clause-exact
returns-in-Verified-clause-exact g c =
    IfOk-weaker c.first_granting.result _ _
    (decided (model c.args.case.now) (g.V.Verifier.accepted c.args.verifier.now) (tuples_of c.in-Verified.steps.items)
    (all_stand _ _ _ _ _ c.deref.ensures.value c.in_ok-judge.ensures c.in-Verified.steps c.in-Verified.is))
    (rw c.deref-in-Verified.ensures.value at c.first_granting.ensures.named)

pub returns-in-Verified-clause-too_large : goal.returns-in-Verified-clause-too_large
returns-in-Verified-clause-too_large g c h =
    too_large (model c.args.case.now) (g.V.Verifier.accepted c.args.verifier.now) (tuples_of c.in-Verified.steps.items)
    (all_stand _ _ _ _ _ c.deref.ensures.value c.in_ok-judge.ensures c.in-Verified.steps c.in-Verified.is)
    (rw c.deref-in-Verified.ensures.value at (c.first_granting.ensures.too_large h))
