use Rattle.std.proofs.Common.{take}
use Rattle.spki_tag.specs.Places.{ArePlacesOf}
use Rattle.spki_tag.proofs.index.PlacesByKind.of.Given as goal

abbrev pub invariant-loop-i : goal.invariant-loop-i
invariant-loop-i l = ArePlacesOf l.places (take l.i l.tags)
