use Rattle.std.proofs.Common.{◌≡◌, [], ◌∷◌, None, ◌∙◌, append_assoc, append-nil, length-append}
use Rattle.spki_cert.specs.{Structures.{EntryOf}, StructureFaults.{entry_fault}}
use Rattle.spki_cert.proofs.acl.entries_of.Goals as goal

pub loop-member-preserved : goal.loop-member-preserved
loop-member-preserved c =
    let (entry, is_read, pushed) = c.in_ok-push_read.ensures.pushed in
    let found : EntryOf c.in-Some.member entry = rw is_read at c.entry_of.ensures.entry in
    let faultless : entry_fault c.in-Some.member ≡ None = rw is_read at c.entry_of.ensures.faultless in (
      λ es zip. rw (pushed, append_assoc) (c.loop-member.invariant.0 (entry ∷ es) (rw c.in-Some.ensures (found, zip))),
      c.loop-member.invariant.1 ∙ rw (c.in-Some.ensures, faultless, pushed, length-append),
    )

pub returns-clause-entries : goal.returns-clause-entries
returns-clause-entries c = rw append-nil at (c.loop-member.invariant.0 [] (rw c.in_default.ensures tt))
