use Rattle.http_signature.proofs.Lines.{lines_of_next}
use Rattle.http_signature.proofs.request.lines_of.Goals as goal

pub loop-field-preserved : goal.loop-field-preserved
loop-field-preserved c =
    lines_of_next c.args.fields.now c.loop-field.field-index c.field-item.result c.args.name.now c.loop-field.lines.items c.add_line.new.lines.items
    c.loop-field-test.true c.field-item.is c.loop-field.invariant c.in_ok-add_line.ensures
