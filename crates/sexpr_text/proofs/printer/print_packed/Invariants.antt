use Rattle.std.proofs.Common.{◌≡◌, ◌++◌, List, ℕ, length}
use Rattle.base64.specs.{Engines.{standard}, GeneralPurpose.{encode_of}}
use Rattle.sexpr_text.proofs.printer.print_packed.Given as goal

-- what was printed, followed by the rest in base64, is the base64 of all octets
abbrev pub invariant-loop-rest : goal.invariant-loop-rest
invariant-loop-rest g l = (packed : List ℕ) × g.S.Sink.takes l.initial.sink packed l.sink
    × (packed ++ encode_of standard l.rest ≡ encode_of standard l.octets)

abbrev pub decreases-loop-rest : goal.decreases-loop-rest
decreases-loop-rest g l = length l.rest
