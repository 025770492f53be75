-- A handle owns a guard or a question, and the right to free it. Both are the same for every thread.
use mir.Raw.{raw}
use base.Shift.{Keyless}
use denote.Memory.{lone}
use denote.RawPtr.{Ptr}
use denote.Struct.Struct.{exits_of}
use denote.Struct.Owning.{shape, fields, to}
use denote.Param.Send.{IsSend, AllSend, owning_send, struct_send, sendable}
use Rattle.std.{specs.Prelude.{Option, Some, None}, proofs.Crossing.{frees}}
use Rattle.std_alloc.proofs.SendSync.{quiet, lies}
use Rattle.spki_c.specs.{declared.handle_value.HandleValue.{HandleValue}, Pointers.{heap, held_owns}, contracts.handle.Handle.{the_row, the_type}}
use Rattle.spki_c.proofs.handle_value.HandleValue.TheSendSync.{the_send as content_send}
use Rattle.spki_c.specs.contracts.handle_value.HandleValue as content

held_keyless : (p : Ptr) (held : Option HandleValue) → Keyless (held_owns content.the_row p held)
held_keyless p None = tt
held_keyless p (Some g) = (lies content.the_row content_send p g, frees.frees heap (raw (lone content.the_row.mir)) p)

pub send : IsSend the_row
send =
    let all : AllSend (fields the_type) = (search sendable, tt) in
    owning_send the_type all (λ h. held_keyless h.at h.held) (λ k. quiet (to the_type) (exits_of k (fields the_type)) ((struct_send (shape the_type) all).leaving k))
