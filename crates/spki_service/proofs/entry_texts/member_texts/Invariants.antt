use Rattle.std.proofs.Common.{◌≡◌, ◌++◌, map, length}
use Rattle.sexpr_core.specs.Value.{canon}
use Rattle.spki_service.proofs.entry_texts.member_texts.Given as goal

abbrev pub invariant-loop-member : goal.invariant-loop-member
invariant-loop-member l = l.texts ++ map canon l.rest ≡ map canon l.fn.members

abbrev pub decreases-loop-member : goal.decreases-loop-member
decreases-loop-member l = length l.rest
