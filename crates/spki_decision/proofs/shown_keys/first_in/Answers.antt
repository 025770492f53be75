use Rattle.std.proofs.Common.{◌∙◌, ap, sym, Some, option_copied}
use Rattle.spki_decision.specs.Judged.{HasFirstKeys}
use Rattle.spki_decision.proofs.shown_keys.first_in.Goals.{in-Some, in-None+in_ok-first-in-None, in-Some-get, in-None-get}
use Rattle.spki_decision.proofs.shown_keys.first_in.Goals as goal

-- what the index has at the digest
pub returns-clause-key : goal.returns-clause-key
returns-clause-key c =
    let index : HasFirstKeys c.args.alg c.args.keys.now c.match-take.first =
    elim c.match-take.branch [
      | in-Some w ↦ rw w.first-is (rw (sym c.take.ensures.value ∙ w.in-Some.is) at c.requires)
      | in-None+in_ok-first-in-None w ↦ rw w.first-is w.in_ok-first-in-None.ensures
    ] in
    elim c.match-get.branch [
      | in-Some-get w ↦ w.found-is ∙ ap Some w.share.ensures ∙ sym (ap option_copied w.in-Some-get.is) ∙ c.get.ensures.value ∙ index c.args.digest.now
      | in-None-get w ↦ w.found-is ∙ sym (ap option_copied w.in-None-get.is) ∙ c.get.ensures.value ∙ index c.args.digest.now
    ]
