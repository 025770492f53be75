use Rattle.std.proofs.Common.{◌≡◌, ◌++◌, suc, map, drop}
use Rattle.spki_case.specs.Case.{certificates, certificates_from}
use Rattle.spki_decision.specs.CertificateTests.{shown_of}
use Rattle.spki_decision.proofs.certificates.certificates_of.Given as goal

abbrev pub invariant-loop-index : goal.invariant-loop-index
invariant-loop-index l =
    certificates l.sequence ≡ map shown_of l.shown.items ++ certificates_from (suc l.index) (drop l.index l.sequence)
