use Rattle.std.proofs.Common.{[], ◌∙◌, sym, append-nil}
use Rattle.sexpr_core.specs.Value.{canon}
use Rattle.sexpr_text.proofs.canonical_printer.print_canonical.Goals as goal

pub returns-then-not-is_full : goal.returns-then-not-is_full
returns-then-not-is_full g c v e = (c.print_first.ensures v [] (e ∙ sym (append-nil (canon v)))).0
