use Rattle.std.proofs.{Common.{[], ◌∷◌, ◌++◌, take, sym, ap, ◌∙◌}, lemmas.List.{take_more}}
use Rattle.spki_case.specs.Case.{keys_of}
use Rattle.spki_decision.proofs.CertificateTests.{keys-append}
use Rattle.spki_decision.proofs.named_key.keys_of.Goals as goal

-- the keys of one item more
pub loop-item-preserved : goal.loop-item-preserved
loop-item-preserved c =
    let items = c.args.sequence.now in
    let i = c.loop-item.item-index in
    let x = c.item-item.result in
    c.in_ok-push_key.ensures ∙ ap (λ ks. ks ++ keys_of (x ∷ [])) c.loop-item.invariant
    ∙ sym (keys-append (take i items) (x ∷ []))
    ∙ ap keys_of (sym (rw (← c.item-item.is) at (take_more items i x c.loop-item-test.true)))
