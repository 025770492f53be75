use Rattle.std.proofs.Common.{◌+◌, ◌*◌, length}
use Rattle.sexpr_core.specs.Value.{values}
use Rattle.spki_tag.proofs.TagReading.{weight, weights, IsReadSoFar, IsPutSoFar}
use Rattle.spki_tag.proofs.reader.+read.Given as goal

abbrev pub decreases-read_tag : goal.decreases-read_tag
decreases-read_tag l = 4 * weight l.value.now

abbrev pub decreases-read_list : goal.decreases-read_list
decreases-read_list l = 4 * weights (values l.members) + 3

abbrev pub decreases-read_starred : goal.decreases-read_starred
decreases-read_starred l = 4 * weights (values l.further) + 3

abbrev pub decreases-read_form : goal.decreases-read_form
decreases-read_form l = 4 * weights (values l.further) + 4

abbrev pub decreases-read_set : goal.decreases-read_set
decreases-read_set l = 4 * weights (values l.further) + 3

abbrev pub decreases-put_members : goal.decreases-put_members
decreases-put_members l = 4 * weights (values l.«values») + 2

abbrev pub decreases-put_member : goal.decreases-put_member
decreases-put_member l = 4 * weight l.value.now + 1

abbrev pub invariant-put_members-loop-first : goal.invariant-put_members-loop-first
invariant-put_members-loop-first l = IsPutSoFar l.fn.used l.fn.«values» l.initial.members.items l.members.items l.counted l.left

abbrev pub decreases-put_members-loop-first : goal.decreases-put_members-loop-first
decreases-put_members-loop-first l = length l.left

abbrev pub decreases-read_plain_list : goal.decreases-read_plain_list
decreases-read_plain_list l = 4 * weights (values l.further) + 2

abbrev pub decreases-read_members : goal.decreases-read_members
decreases-read_members l = 4 * weights (values l.members) + 1

abbrev pub invariant-read_members-loop-first : goal.invariant-read_members-loop-first
invariant-read_members-loop-first l = IsReadSoFar l.fn.used l.fn.members l.tags.items l.counted l.left

abbrev pub decreases-read_members-loop-first : goal.decreases-read_members-loop-first
decreases-read_members-loop-first l = length l.left
