use Rattle.std.proofs.Common.{◌≡◌, ◌++◌, take}
use Rattle.spki_tag.proofs.parts.push_shared.Given as goal

abbrev pub invariant-loop-other : goal.invariant-loop-other
invariant-loop-other l = l.tags.items ≡ l.fn.tags.items ++ take l.other-index l.others
