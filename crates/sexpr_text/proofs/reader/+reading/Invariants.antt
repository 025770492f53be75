-- Termination: each list that opens leaves room for one list less.
use Rattle.std.proofs.Common.{◌+◌, ◌*◌, ◌-◌, length, map}
use Rattle.sexpr_core.specs.Value.{values, sexp_value}
use Rattle.sexpr_text.proofs.Trees.{HasMembers}
use Rattle.sexpr_text.proofs.reader.+reading.Given as goal

abbrev pub decreases-read_tree : goal.decreases-read_tree
decreases-read_tree l = 3 * l.room + 1

abbrev pub decreases-read_list : goal.decreases-read_list
decreases-read_list l = 3 * l.room

abbrev pub decreases-read_members : goal.decreases-read_members
decreases-read_members l = 3 * l.room + 2

abbrev pub invariant-read_members-loop-octet : goal.invariant-read_members-loop-octet
invariant-read_members-loop-octet l = HasMembers l.room l.text l.at l.i (values (map sexp_value l.members.items))

abbrev pub decreases-read_members-loop-octet : goal.decreases-read_members-loop-octet
decreases-read_members-loop-octet l = length l.text - l.i
