use Rattle.std.{proofs.Common.{◌≡◌, ◌+◌, ◌++◌, List, length, map}, specs.List.{AllZip}}
use Rattle.spki_tag.specs.Faults.{first_fault}
use Rattle.spki_cert.specs.{declared.entry.Entry.{Entry}, Structures.{EntryOf}, StructureFaults.{entry_fault, each_looked, entries_fault}}
use Rattle.spki_cert.proofs.acl.principals_in.Given as goal

-- the entries so far, whose principals are kept, and those of the rest are all entries, and the first fault of all is that of the rest
abbrev pub invariant-loop-member : goal.invariant-loop-member
invariant-loop-member l =
    ((read : List Entry) × (l.principals.items ≡ map (λ e. e.subject.principal) read)
    × ((es : List Entry) → AllZip EntryOf l.rest es → AllZip EntryOf l.fn.members (read ++ es)))
    × (entries_fault l.fn.members ≡ first_fault (each_looked entry_fault (length l.principals.items + 1) l.rest))

abbrev pub decreases-loop-member : goal.decreases-loop-member
decreases-loop-member l = length l.rest
