-- Termination: a member of a list has fewer nodes than the list.
use Rattle.std.proofs.Common.{◌≡◌, ◌+◌, ◌*◌, ◌++◌, map}
use Rattle.sexpr_core.specs.Value.{size, size_all, sexp_value}
use Rattle.sexpr_core.proofs.owned_trees.+trees.Given as goal

abbrev pub decreases-tree_of : goal.decreases-tree_of
decreases-tree_of l = 2 * size l.node.now

abbrev pub decreases-trees_of : goal.decreases-trees_of
decreases-trees_of l = 2 * size_all l.members + 1

abbrev pub invariant-trees_of-loop-first : goal.invariant-trees_of-loop-first
invariant-trees_of-loop-first l = map sexp_value l.trees.items ++ l.rest ≡ l.fn.members

abbrev pub decreases-trees_of-loop-first : goal.decreases-trees_of-loop-first
decreases-trees_of-loop-first l = size_all l.rest
