use Rattle.std.proofs.Common.{◌≡◌}
use Rattle.spki_tag.proofs.ranges.values_of.Given as goal

abbrev pub invariant-loop-member : goal.invariant-loop-member
invariant-loop-member l = l.values.items ≡ l.yielded
