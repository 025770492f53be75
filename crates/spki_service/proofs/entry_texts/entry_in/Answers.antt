use Rattle.std.proofs.Common.{subst}
use Rattle.sexpr_core.specs.Value.{Value}
use Rattle.spki_case.proofs.OneCase.{one_text}
use Rattle.spki_cert.{specs.Structures.{EntryOf}, proofs.OneReading.{entry-one}}
use Rattle.spki_service.proofs.entry_texts.entry_in.Goals as goal

pub returns-in-Ok-entry_of : goal.returns-in-Ok-entry_of
returns-in-Ok-entry_of c e is =
    let read = c.in-Ok.ensures.read in
    let value = one_text _ c.in-Ok.document is.value read.0 is.written in
    let here : EntryOf c.in-Ok.document c.in-Ok-entry_of.entry = rw c.top.ensures at c.in-Ok-entry_of.ensures.entry in
    entry-one is.value c.in-Ok-entry_of.entry e (subst (λ (v : Value). EntryOf v c.in-Ok-entry_of.entry) value here) is.is
