use Rattle.std.proofs.Common.{◌≡◌, ◌++◌, List, length}
use Rattle.sexpr_core.specs.Value.{Value}
use Rattle.spki_cert.{specs.{Fields.{ValidOf}, FieldFaults.{limit_fault}}, proofs.FieldFaultLaws.{Left}}
use Rattle.spki_cert.proofs.validity.valid_in.Given as goal

abbrev pub invariant-loop-field : goal.invariant-loop-field
invariant-loop-field l = (seen : List Value) × (l.fn.members ≡ seen ++ l.rest) × ValidOf seen l.window × Left limit_fault l.fn.members seen l.rest

abbrev pub decreases-loop-field : goal.decreases-loop-field
decreases-loop-field l = length l.rest
