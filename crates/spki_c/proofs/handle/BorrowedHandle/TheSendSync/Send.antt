-- What a call may read of a value that is lent to it is the same for every thread, and so is the share of the lifetime.
use base.Shift.{Keyless}
use denote.RawPtr.{Ptr}
use denote.Struct.Struct.{exits_of}
use denote.Struct.Owning.{shape, fields, to}
use denote.Param.Send.{IsSend, AllSend, owning_send, struct_send, sendable}
use Rattle.std_alloc.proofs.SendSync.{quiet, seen}
use Rattle.spki_c.specs.{declared.handle_value.HandleValue.{HandleValue}, Pointers.{held_lent}, contracts.handle.BorrowedHandle.{the_row, the_type}}
use Rattle.spki_c.proofs.handle_value.HandleValue.TheSendSync.{the_sync as content_sync}
use Rattle.spki_c.specs.contracts.handle_value.HandleValue as content

lent_keyless : (p : Ptr) (g : HandleValue) → Keyless (held_lent content.the_row p g)
lent_keyless p g = λ s. (tt, seen content.the_row content_sync p g s.0)

pub send : IsSend the_row
send =
    let all : AllSend (fields the_type) = (search sendable, tt) in
    owning_send the_type all (λ l. lent_keyless l.at l.content) (λ k. quiet (to the_type) (exits_of k (fields the_type)) ((struct_send (shape the_type) all).leaving k))
