use Rattle.std.proofs.Common.{◌≡◌, ◌++◌, map, drop}
use Rattle.spki_decision.specs.CertificateTests.{signed_of}
use Rattle.spki_service.proofs.owned_signed.owned_signed.Given as goal

abbrev pub invariant-loop-one : goal.invariant-loop-one
invariant-loop-one l = l.owned.items ++ map signed_of (drop l.one-index l.signed) ≡ map signed_of l.signed
