use Rattle.std.proofs.Common.{map, take}
use Rattle.sexpr_core.specs.Value.{values, HaveOctets, sexp_value}
use Rattle.sexpr_core.proofs.laws.+octets_are_below_256.Given as goal

abbrev pub invariant-loop-member : goal.invariant-loop-member
invariant-loop-member l = HaveOctets (values (map sexp_value (take l.member-index l.member-items)))
