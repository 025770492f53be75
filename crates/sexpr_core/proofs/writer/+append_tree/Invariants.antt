use Rattle.std.proofs.Common.{◌≡◌, ◌++◌, map, take}
use Rattle.sexpr_core.specs.Value.{canons, values, sexp_value}
use Rattle.sexpr_core.proofs.writer.+append_tree.Given as goal

abbrev pub invariant-loop-member : goal.invariant-loop-member
invariant-loop-member l =
    l.out.items ≡ l.initial.out.items ++ canons (values (map sexp_value (take l.member-index l.member-items)))
