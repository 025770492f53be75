use Rattle.std.proofs.Common.{◌≡◌, length}
use Rattle.http_signature.specs.Texts.{trim_start}
use Rattle.http_signature.proofs.octets.without_leading.Given as goal

abbrev pub invariant-loop-rest : goal.invariant-loop-rest
invariant-loop-rest l = trim_start l.rest ≡ trim_start l.fn.octets

abbrev pub decreases-loop-rest : goal.decreases-loop-rest
decreases-loop-rest l = length l.rest
