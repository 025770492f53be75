use Rattle.std.proofs.Common.{◌≡◌, map, take}
use Rattle.sexpr_core.specs.Value.{sexp_value}
use Rattle.sexpr_core.proofs.equality.+same.Given as goal

abbrev pub invariant-same_members-loop-i : goal.invariant-same_members-loop-i
invariant-same_members-loop-i l = map sexp_value (take l.i l.members) ≡ map sexp_value (take l.i l.others)
