use Rattle.std.proofs.Common.{◌≡◌, [], drop}
use Rattle.http_signature.specs.Base.{component_lines}
use Rattle.http_signature.proofs.base.component_lines.Given as goal

abbrev pub invariant-loop-name : goal.invariant-loop-name
invariant-loop-name l = component_lines l.request (drop l.name-index l.components) l.text.items ≡ component_lines l.request l.components []
