use Rattle.std.proofs.Common.{◌≡◌, length}
use Rattle.spki_tag.specs.Meet.{least_above}
use Rattle.spki_tag.proofs.prefix.above_all.Given as goal

abbrev pub invariant-loop-last : goal.invariant-loop-last
invariant-loop-last l = least_above l.kept ≡ least_above l.fn.octets

abbrev pub decreases-loop-last : goal.decreases-loop-last
decreases-loop-last l = length l.kept
