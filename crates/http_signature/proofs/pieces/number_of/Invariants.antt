use Rattle.std.proofs.Common.{◌≡◌, ◌<◌, ◌^◌, take}
use Rattle.http_signature.specs.Pieces.{number_of}
use Rattle.http_signature.proofs.pieces.number_of.Given as goal

abbrev pub invariant-loop-digit : goal.invariant-loop-digit
invariant-loop-digit l = (l.value ≡ number_of (take l.digit-index l.digits)) × (l.value < 10 ^ l.digit-index)
