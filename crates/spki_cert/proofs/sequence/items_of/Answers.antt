use Rattle.std.proofs.Common.{[], ◌∷◌, None, append_assoc, append-nil, length-append, rules}
use Rattle.spki_cert.{specs.{Structures.{ItemOf}, StructureFaults.{items_fault}}, proofs.SequenceFaultNone.{item-none, items-read}}
use Rattle.spki_cert.proofs.sequence.items_of.Goals as goal

pub loop-member-preserved : goal.loop-member-preserved
loop-member-preserved c =
    let (read, is_read, pushed) = c.in_ok-push_read.ensures.pushed in
    let found : ItemOf c.in-Some.member read = rw is_read at c.item_of.ensures.found in
    let fine = (item-none c.in-Some.member).1 (read, found) in (
      λ is zip. rw (pushed, append_assoc) (c.loop-member.invariant.0 (read ∷ is) (rw c.in-Some.ensures (found, zip))),
      search (rules, length-append),
    )

pub returns-in-None-clause-items : goal.returns-in-None-clause-items
returns-in-None-clause-items c = rw append-nil at (c.loop-member.invariant.0 [] (rw c.in_default.ensures tt))

pub returns-in-None-clause-in_place : goal.returns-in-None-clause-in_place
unfolding items_fault
returns-in-None-clause-in_place c = let read = items-read None 1 c.args.members (search rules) in (read.2, read.3)
