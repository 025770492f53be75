use Rattle.std.proofs.Common.{◌≡◌, map, take}
use Rattle.sexpr_core.specs.Value.{sexp_value}
use Rattle.sexpr_core.proofs.copies.+copy.Given as goal

abbrev pub invariant-copies_of-loop-tree : goal.invariant-copies_of-loop-tree
invariant-copies_of-loop-tree l = map sexp_value l.copies.items ≡ map sexp_value (take l.tree-index l.trees)
