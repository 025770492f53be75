use Rattle.std.proofs.Common.{rules}
use Rattle.sexpr_core.proofs.TreeLaws.{size_group, size_all-append}
use Rattle.sexpr_core.proofs.owned_trees.+trees.Goals as goal

pub tree_of-trees_of-requires : goal.tree_of-trees_of-requires
tree_of-trees_of-requires t c = search (rules, size_group)

pub trees_of-tree_of-requires : goal.trees_of-tree_of-requires
trees_of-tree_of-requires t c = search (rules, size_all-append)
