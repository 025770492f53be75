use Rattle.std.{proofs.Common.{◌≡◌, ◌+◌, ◌++◌, List, length}, specs.List.{AllZip}}
use Rattle.spki_tag.specs.Faults.{first_fault}
use Rattle.spki_cert.specs.{declared.certificate.SeqItem.{SeqItem}, Structures.{ItemOf}, StructureFaults.{items_looked, items_fault}}
use Rattle.spki_cert.proofs.sequence.items_of.Given as goal

-- the items so far and those of the rest are all items, and the first fault of all is that of the rest
abbrev pub invariant-loop-member : goal.invariant-loop-member
invariant-loop-member l = ((is : List SeqItem) → AllZip ItemOf l.rest is → AllZip ItemOf l.fn.members (l.items.items ++ is))
    × (items_fault l.fn.members ≡ first_fault (items_looked l.waits (length l.items.items + 1) l.rest))

abbrev pub decreases-loop-member : goal.decreases-loop-member
decreases-loop-member l = length l.rest
