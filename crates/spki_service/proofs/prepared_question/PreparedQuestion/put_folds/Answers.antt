use Rattle.std.proofs.Common.{sym, ap, subst, List, rules}
use Rattle.spki_cert.specs.declared.entry.Entry.{Entry}
use Rattle.spki_reduce.specs.Chain.{tuples_of}
use Rattle.spki_case.specs.View.{model}
use Rattle.spki_decision.specs.{CertificateTests.{every, with_entries}, Judged.{IsUnverified}, Granted.{AreFolds}}
use Rattle.spki_decision.proofs.EntryChains.{as_many, are_folds}
use Rattle.spki_service.{specs.{GuardQuestions.{PreparedModel}, AccessLists.{AreEntries}}, proofs.AnswerLaws.{folds_failed}}
use Rattle.spki_service.proofs.prepared_question.PreparedQuestion.put_folds.Goals as goal

pub fold_texts-requires : goal.fold_texts-requires
fold_texts-requires g c κs = search (rules, as_many)

pub returns-in-Fails-clause-folds : goal.returns-in-Fails-clause-folds
returns-in-Fails-clause-folds g c = search (rules, folds_failed)

pub returns-in_ok-fold_texts-in-Passes-clause-folds : goal.returns-in_ok-fold_texts-in-Passes-clause-folds
returns-in_ok-fold_texts-in-Passes-clause-folds g c =
    let m = model c.self.inside.case in
    let (folds, taken, (all, dated, end)) = c.in_ok-fold_texts-in-Passes.ensures.folds in
    let evident : IsUnverified m.policy m.items c.self.inside.examined.unverified = c.self.invariant.1 in
    let stands = rw c.in-Passes.is at evident in
    let whole = rw c.deref.ensures.value at all in
    let texts = ap (λ h. h.texts) c.guard.view_is in
    let inner : (es : List Entry) → AreEntries c.self.inside.guard.now.texts es → AreFolds (with_entries m es) every folds =
    λ es are. are_folds (with_entries m es) every (tuples_of c.in-Passes.steps.items) folds stands
    (whole es (subst (λ ts. AreEntries ts es) (sym texts) are)) in
    let shown = subst (λ (a : PreparedModel). (es : List Entry) → AreEntries a.texts es → AreFolds (with_entries a.case es) every folds) c.self.view_is inner in
    (folds, taken, (shown, dated, end))
