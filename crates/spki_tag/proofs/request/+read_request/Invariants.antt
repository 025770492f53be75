use Rattle.std.proofs.Common.{◌+◌, ◌*◌, length}
use Rattle.sexpr_core.specs.Value.{values}
use Rattle.spki_tag.proofs.{TagReading.{weight, weights}, RequestReading.{AreReadSoFar}}
use Rattle.spki_tag.proofs.request.+read_request.Given as goal

abbrev pub decreases-read_request : goal.decreases-read_request
decreases-read_request l = 4 * weight l.value.now

abbrev pub decreases-read_request_list : goal.decreases-read_request_list
decreases-read_request_list l = 4 * weights (values l.members) + 3

abbrev pub decreases-read_headed : goal.decreases-read_headed
decreases-read_headed l = 4 * weights (values l.further) + 2

abbrev pub decreases-read_request_members : goal.decreases-read_request_members
decreases-read_request_members l = 4 * weights (values l.members) + 1

abbrev pub invariant-read_request_members-loop-first : goal.invariant-read_request_members-loop-first
invariant-read_request_members-loop-first l = AreReadSoFar l.fn.members l.requests.items l.left

abbrev pub decreases-read_request_members-loop-first : goal.decreases-read_request_members-loop-first
decreases-read_request_members-loop-first l = length l.left
