use Rattle.std.proofs.Common.{◌++◌, ◌∙◌, ap, length, refl, sym}
use Rattle.spki_reduce.specs.Chain.{tuples_of}
use Rattle.spki_case.specs.View.{model}
use Rattle.spki_decision.proofs.{Explanations.{reasons_for}, EntryChains.{as_many, all_stand, one_fails, failure, are_folds}}
use Rattle.spki_decision.proofs.explanation.explain.Goals as goal

pub returns-in-Fails-clause-exact : goal.returns-in-Fails-clause-exact
returns-in-Fails-clause-exact g c =
    let verified = g.V.Verifier.accepted c.args.verifier.now in
    failure (model c.args.case.now) verified c.in-Fails.item c.in-Fails.stop
    (one_fails c.args.case.now.policy verified _ _ _ c.deref.ensures.value c.in_ok-item.ensures c.in-Fails.item c.in-Fails.stop c.in-Fails.is)

pub put_folds-requires : goal.put_folds-requires
put_folds-requires g c κs =
    let m = model c.args.case.now in
    let verified = g.V.Verifier.accepted c.args.verifier.now in
    let shown = all_stand m.policy verified _ _ _ c.deref.ensures.value c.in_ok-item.ensures c.in-Verified.steps c.in-Verified.is in
    ((refl, tt), ap length c.deref-in-Verified-2.ensures.value ∙ as_many m.policy verified m.items c.in-Verified.steps.items shown)

pub returns-in_ok-put_folds-in-Verified-clause-exact : goal.returns-in_ok-put_folds-in-Verified-clause-exact
returns-in_ok-put_folds-in-Verified-clause-exact g c =
    let m = model c.args.case.now in
    let verified = g.V.Verifier.accepted c.args.verifier.now in
    let shown = all_stand m.policy verified _ _ _ c.deref.ensures.value c.in_ok-item.ensures c.in-Verified.steps c.in-Verified.is in
    let (folds, taken, of, dated, end) = c.in_ok-put_folds-in-Verified.ensures.folds in
    let are = are_folds m verified (tuples_of c.in-Verified.steps.items) folds shown
    (rw (c.deref-in-Verified-2.ensures.value, c.deref-in-Verified.ensures.value) at of) in
    let reasons = taken.2 ∙ ap (λ before. before ++ taken.1) c.new-reasons.ensures.items in
    reasons_for m m.entries verified folds c.put_folds.new.sink.reasons.items c.prove_well_formed.ensures are (rw (sym reasons) at taken.3)
