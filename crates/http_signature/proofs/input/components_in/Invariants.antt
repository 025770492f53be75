use Rattle.std.proofs.Common.{◌≡◌, ◌-◌, []}
use Rattle.http_signature.specs.SignatureInput.{components_in}
use Rattle.http_signature.proofs.input.components_in.Given as goal

abbrev pub invariant-loop-count : goal.invariant-loop-count
invariant-loop-count l = components_in (32 - l.count) l.names.items l.rest ≡ components_in 32 [] l.text
