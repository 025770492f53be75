use Rattle.std.proofs.Common.{◌≡◌, take}
use Rattle.http_signature.specs.Fields.{lines_of}
use Rattle.http_signature.proofs.request.lines_of.Given as goal

abbrev pub invariant-loop-field : goal.invariant-loop-field
invariant-loop-field l = l.lines.items ≡ lines_of (take l.field-index l.fields) l.name
