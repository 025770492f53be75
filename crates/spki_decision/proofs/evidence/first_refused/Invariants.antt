use Rattle.std.{proofs.Common.{map, take}, specs.List.{AllByRecursion}}
use Rattle.spki_decision.specs.CertificateTests.{signed_of, IsAccepted}
use Rattle.spki_decision.proofs.evidence.first_refused.Given as goal

-- each so far is accepted
abbrev pub invariant-loop-index : goal.invariant-loop-index
invariant-loop-index g l = AllByRecursion (IsAccepted (g.V.Verifier.accepted l.verifier)) (take l.index (map signed_of l.signed))
