use Rattle.std.proofs.{Common.{◌++◌, ◌∷◌, [], ◌∙◌, ap, append_assoc, subst}, lemmas.Slice.Zip.{all_zipped_more}}
use Rattle.spki_case.specs.View.{model}
use Rattle.spki_decision.specs.Explained.{IsReasonFor}
use Rattle.spki_decision.proofs.explanation.ReasonSinkFoldSink.put.Goals as goal

pub returns : goal.returns
returns c start folds taken numbered =
    let (same, added, is, each) = taken in
    let reason = c.fold_reason.result in
    let here = subst (λ m. IsReasonFor m c.args.fold reason) (ap (λ k. model k.now) same) c.fold_reason.ensures in (
      same,
      added ++ reason ∷ [],
      c.in_ok-push.ensures.items ∙ ap (λ reasons. reasons ++ reason ∷ []) is ∙ append_assoc start.reasons.items added (reason ∷ []),
      all_zipped_more (IsReasonFor (model start.case.now)) folds added c.args.fold reason each here,
    )
