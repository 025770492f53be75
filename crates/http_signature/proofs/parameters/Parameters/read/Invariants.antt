use Rattle.std.proofs.Common.{◌≡◌, ◌-◌}
use Rattle.http_signature.specs.SignatureInput.{no_parameters, parameters_in}
use Rattle.http_signature.proofs.parameters.Parameters.read.Given as goal

abbrev pub invariant-loop-count : goal.invariant-loop-count
invariant-loop-count l = parameters_in (7 - l.count) l.parameters l.rest ≡ parameters_in 7 no_parameters l.text
