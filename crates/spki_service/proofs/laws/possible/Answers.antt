use Rattle.std.proofs.Common.{◌≡◌, inl, inr, subst, sym}
use Rattle.spki_decision.proofs.OneDecision.{decision_one}
use Rattle.spki_decision.specs.{Granted.{IsYes}, declared.decision.Decision.TheVariants.{Yes}, CertificateTests.{every, with_entries}}
use Rattle.spki_service.proofs.laws.possible.Goals as goal

pub returns : goal.returns
returns c a es n are p (inl (all, h)) =
    let same : p.decision ≡ Yes n = decision_one (with_entries a.case es) every p.decision (Yes n) (p.decides es are) (h es are) in
    let clash = p.answer.1 (subst IsYes (sym same) tt) in absurd cc
returns c a es n are p (inr (one, u, none)) = absurd cc
