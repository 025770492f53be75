use Rattle.std.proofs.{Common.{ℕ, List, Bool, ◌∷◌, [], ◌∙◌, ap, sym, find, take}, lemmas.List.{take_more, Folds.{find-append}}}
use Rattle.std.specs.Option.{option_or}
use Rattle.spki_cert.specs.Naming.{is_digest}
use Rattle.spki_decision.proofs.shown_keys.first_keys.Goals as goal

-- the keys so far, and one more
pub loop-key-preserved : goal.loop-key-preserved
loop-key-preserved c = λ digest.
    let keys = c.args.keys.now in
    let i = c.loop-key.key-index in
    let x = c.key-item.result in
    let has : List ℕ → Bool = λ octets. is_digest c.args.alg digest octets in
    c.in_ok-add_key.ensures digest ∙ ap (λ o. option_or o (find has (x ∷ []))) (c.loop-key.invariant digest)
    ∙ sym (find-append has (take i keys) (x ∷ []))
    ∙ ap (find has) (sym (rw (← c.key-item.is) at (take_more keys i x c.loop-key-test.true)))
