use Rattle.std.proofs.Common.{◌≡◌, true, take}
use Rattle.sexpr_text.specs.AdvancedForm.{every, is_printable}
use Rattle.sexpr_text.proofs.printer.all_printable.Given as goal

abbrev pub invariant-loop-octet : goal.invariant-loop-octet
invariant-loop-octet l = every is_printable (take l.octet-index l.octets) ≡ true
