use Rattle.std.proofs.Common.{◌≡◌, length}
use Rattle.http_signature.specs.Fields.{joined_onto, joined}
use Rattle.http_signature.proofs.request.joined.Given as goal

abbrev pub invariant-loop-line : goal.invariant-loop-line
invariant-loop-line l = joined_onto l.text.items l.rest ≡ joined l.fn.lines

abbrev pub decreases-loop-line : goal.decreases-loop-line
decreases-loop-line l = length l.rest
