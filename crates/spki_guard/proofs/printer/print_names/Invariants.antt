-- The names so far, with a space before each.
use Rattle.std.proofs.Common.{take}
use Rattle.sexpr_core.specs.Value.{values}
use Rattle.sexpr_text.specs.AdvancedForm.{adv_all}
use Rattle.spki_cert.specs.Fields.{plains}
use Rattle.spki_guard.proofs.printer.print_names.Given as goal

abbrev pub invariant-loop-index : goal.invariant-loop-index
invariant-loop-index g l = g.S.Sink.takes l.initial.sink (adv_all 1 (values (plains (take l.index l.names)))) l.sink
