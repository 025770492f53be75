use Rattle.std.proofs.Common.{◌≡◌, ◌∙◌, refl}
use Rattle.sexpr_core.specs.Value.{decimal}
use Rattle.sexpr_text.proofs.Printed.{in_three}
use Rattle.spki_guard.proofs.ReportLines.{decimal_written}
use Rattle.spki_guard.proofs.entry_lines.print_entry.Goals as goal

pub returns : goal.returns
returns g c =
    let number : c.as_bytes.result.now ≡ decimal c.args.entry =
    c.as_bytes.ensures.value ∙ c.format.ensures.text ∙ decimal_written c.args.entry c.ranges.entry.fits in
    in_three g.S.Sink.takes g.met.S.Sink.both _ c.put.ensures (rw number at c.put-2.ensures) c.put_octet.ensures refl
