use Rattle.std.proofs.Common.{◌≡◌, [], ◌∷◌, ◌++◌, None, ◌∙◌, refl, sym, append_assoc, append-nil, length-append, rules}
use Rattle.std.proofs.lemmas.List.{map_push}
use Rattle.spki_cert.specs.{declared.{entry.Entry.{Entry}}, Structures.{EntryOf}}
use Rattle.spki_cert.specs.StructureFaults.{entry_fault, entries_fault}
use Rattle.spki_cert.proofs.acl.principals_in.Goals as goal

pub loop-member-init : goal.loop-member-init
unfolding entries_fault
loop-member-init c = (([], (search rules), λ es zip. zip), (search rules))

pub loop-member-preserved : goal.loop-member-preserved
loop-member-preserved c =
    let (principal, same, pushed) = c.in_ok-push_read-in-Ok.ensures.pushed in
    let entry = c.in-Ok.entry in
    let found : EntryOf c.in-Some.member entry = c.in-Ok.ensures.entry in
    let faultless : entry_fault c.in-Some.member ≡ None = c.in-Ok.ensures.faultless in
    let own : principal ≡ entry.subject.principal = cc in
    let (read, are, all) = c.loop-member.invariant.0 in (
      (
        read ++ entry ∷ [],
        pushed ∙ (λ i. are i ++ own i ∷ []) ∙ sym (map_push (λ (e : Entry). e.subject.principal) read entry),
        λ es zip. rw append_assoc (all (entry ∷ es) (rw c.in-Some.ensures (found, zip))),
      ),
      c.loop-member.invariant.1 ∙ rw (c.in-Some.ensures, faultless, pushed, length-append) refl,
    )

pub returns-clause-entries : goal.returns-clause-entries
returns-clause-entries c =
    let (read, are, all) = c.loop-member.invariant.0 in (read, rw append-nil at (all [] (rw c.in_default.ensures tt)), are)
