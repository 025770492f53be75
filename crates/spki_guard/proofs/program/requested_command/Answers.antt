use Rattle.std.proofs.Common.{map, string_bytes}
use Rattle.spki_guard.specs.Program.{IsAskedCommand}
use Rattle.spki_guard.proofs.program.requested_command.Goals as goal

pub returns-in-Ok : goal.returns-in-Ok
returns-in-Ok c =
    let asked : IsAskedCommand (map string_bytes c.deref.result.now) c.command_of.result = record {
      named = c.command_of.ensures.named;
      taken = c.command_of.ensures.taken;
      faults = c.command_of.ensures.faults;
    } in
    rw c.in-Ok.is (rw c.deref.ensures.value at asked)
