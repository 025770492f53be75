use Rattle.std.proofs.Common.{◌≡◌, map, take}
use Rattle.spki_service.specs.AccessLists.{octets_of}
use Rattle.spki_service.proofs.index.principals_of.Given as goal

abbrev pub invariant-loop-owner : goal.invariant-loop-owner
invariant-loop-owner l = l.principals ≡ map octets_of (take l.owner-index l.owners)
