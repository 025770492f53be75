use Rattle.std.proofs.Common.{take}
use Rattle.sexpr_text.specs.AdvancedForm.{quoted_body}
use Rattle.sexpr_text.proofs.printer.print_quoted.Given as goal

abbrev pub invariant-loop-octet : goal.invariant-loop-octet
invariant-loop-octet g l = g.S.Sink.takes l.initial.sink (quoted_body (take l.octet-index l.octets)) l.sink
