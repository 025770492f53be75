use Rattle.spki_tag.proofs.Places.{places_more}
use Rattle.spki_tag.proofs.index.PlacesByKind.of.Goals as goal

pub loop-i-preserved : goal.loop-i-preserved
loop-i-preserved c = places_more _ _ _ _ _ _ c.loop-i-test.true c.index-tags-i.is c.of.ensures c.loop-i.invariant c.in_ok-add.ensures
