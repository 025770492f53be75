use Rattle.std.proofs.Common.{◌≡◌, true, take}
use Rattle.sexpr_text.specs.AdvancedForm.{is_token_octet, every}
use Rattle.sexpr_text.proofs.printer.all_in_token.Given as goal

abbrev pub invariant-loop-octet : goal.invariant-loop-octet
invariant-loop-octet l = every is_token_octet (take l.octet-index l.octets) ≡ true
