use Rattle.spki_guard.proofs.program.report.Goals as goal

pub returns-in-WriteFault : goal.returns-in-WriteFault
returns-in-WriteFault g c = rw c.in-WriteFault.is c.write_message-in-WriteFault.ensures
