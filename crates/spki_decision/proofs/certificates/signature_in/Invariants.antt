use Rattle.std.proofs.Common.{◌≡◌, drop}
use Rattle.spki_case.specs.Case.{signature_in}
use Rattle.spki_decision.proofs.certificates.signature_in.Given as goal

abbrev pub invariant-loop-item : goal.invariant-loop-item
invariant-loop-item l = signature_in l.items ≡ signature_in (drop l.item-index l.items)
