use Rattle.std.proofs.Common.{ℕ, Some, map, ap, sym, ◌∙◌, subst, rules}
use Rattle.spki_decision.specs.{declared.evidence.Stop.TheVariants.{NotAccepted}, CertificateTests.{FailsAt, signed_of, IsFirstRefused, RefusedAt}}
use Rattle.spki_decision.proofs.ListedSignatures.{all_accepted, not_accepted, refused_item}
use Rattle.spki_decision.proofs.evidence.judge.Goals as goal

pub returns : goal.returns
returns g c =
    let verified = g.V.Verifier.accepted c.args.verifier.now in
    let policy = c.args.policy in
    let items = c.args.sequence.now in
    let first : IsFirstRefused verified (map signed_of c.deref.result.now) (Some c.in-Some.index) = rw c.in-Some.is at c.in_ok-first_refused.ensures in
    let refused : RefusedAt verified (map signed_of c.in_ok-examined.examined.signed.items) c.in-Some.index =
    rw c.deref.ensures.value at first in
    let item_is = c.index.ensures in
    let same = ap (λ s. s.item) item_is ∙ refused_item verified c.in_ok-examined.examined.signed.items c.in-Some.index refused c.index.result.now in
    let fails = not_accepted policy verified items (map signed_of c.in_ok-examined.examined.signed.items) c.in-Some.index
    c.in_ok-examined.ensures.asked refused in
    subst (λ (n : ℕ). FailsAt policy verified items n NotAccepted) (sym same) fails

pub returns-in-None : goal.returns-in-None
returns-in-None g c =
    let whole = c.verified.ensures c.args.policy c.args.sequence.now c.in_ok-examined.ensures.unverified in
    search (rules, all_accepted)
