use Rattle.std.proofs.{Common.{◌≡◌, ◌∙◌, sym, ap, map, Some, rules}, lemmas.List.{map-append}}
use Rattle.spki_decision.specs.{declared.examination.Tested.TheVariants.{Fails}, CertificateTests.{FailsBy, asked_of, every, shown_of, signed_of}}
use Rattle.spki_decision.specs.Judged.{IsTested, PassesAs}
use Rattle.spki_decision.proofs.ListedSignatures.{stands_asked, not_asked, asked_more, asked_whole}
use Rattle.spki_decision.proofs.CertificateTests.{signed_here, failing_here, standing_more, rest_of}
use Rattle.spki_case.specs.Case.{certificates, keys_of}
use Rattle.spki_decision.proofs.examination.examine_by.Goals as goal

pub test_certificate-requires : goal.test_certificate-requires
test_certificate-requires c = search (rules, signed_here)

pub returns-in-Fails-clause-asked : goal.returns-in-Fails-clause-asked
returns-in-Fails-clause-asked c = search (rules, rest_of, asked_whole, not_asked)

pub returns-in-Fails-clause-unverified : goal.returns-in-Fails-clause-unverified
returns-in-Fails-clause-unverified c =
    let items = c.args.sequence.now in
    let kept = c.deref-shown-items.result.now in
    let same : map shown_of kept ≡ certificates items = ap (map shown_of) c.deref-shown-items.ensures.value ∙ c.in_ok-certificates.ensures in
    let keys : c.loop-shown.keys ≡ keys_of items = c.loop-shown.invariant.keys in
    let tested : IsTested c.args.policy c.loop-shown.keys (shown_of c.shown-item.result) (Fails c.in-Fails.stop) =
    rw c.in-Fails.is at c.in_ok-one.ensures.tested in
    let fails : FailsBy c.args.policy (keys_of items) every (shown_of c.shown-item.result) c.in-Fails.stop = rw keys at tested in
    failing_here items kept same c.loop-shown.shown-index c.loop-shown-test.true c.shown-item.result c.shown-item.is
    c.args.policy every (map _ c.loop-shown.steps.items) c.in-Fails.stop c.loop-shown.invariant.standing fails

pub loop-shown-preserved : goal.loop-shown-preserved
loop-shown-preserved c =
    let items = c.args.sequence.now in
    let policy = c.args.policy in
    let kept = c.deref-shown-items.result.now in
    let same : map shown_of kept ≡ certificates items = ap (map shown_of) c.deref-shown-items.ensures.value ∙ c.in_ok-certificates.ensures in
    let keys : c.loop-shown.keys ≡ keys_of items = c.loop-shown.invariant.keys in
    let one = c.shown-item.result in
    let signed = c.in-Passes.one in
    let i = c.loop-shown.shown-index in
    let tested : PassesAs policy c.loop-shown.keys (shown_of one) (signed_of signed) = rw c.in-Passes.is at c.in_ok-one.ensures.tested in
    let passes : PassesAs policy (keys_of items) (shown_of one) (signed_of signed) = rw keys at tested in
    let grown = standing_more items kept same i c.loop-shown-test.true one c.shown-item.is policy every c.loop-shown.steps.items
    c.in_ok-add_passed-in-Passes.ensures.step.0 signed.key c.loop-shown.invariant.standing passes.stands c.in_ok-add_passed-in-Passes.ensures.step.2 in
    let rest = rest_of shown_of kept i c.loop-shown-test.true one c.shown-item.is in
    let asked : asked_of policy (keys_of items) (shown_of one) ≡ Some (signed_of signed) =
    stands_asked policy (keys_of items) every (shown_of one) signed.key passes.stands ∙ ap Some (sym passes.signed_is) in
    let added = asked_more policy (keys_of items) (map signed_of c.loop-shown.signed.items) (map shown_of kept) i (shown_of one) rest
    c.loop-shown.invariant.asked (signed_of signed) asked in
    search (rules, map-append)
