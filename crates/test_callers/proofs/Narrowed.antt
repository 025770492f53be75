-- Why two tags are not intersected.
use Rattle.std.proofs.Common.{◌≡◌, ◌*◌, ◌<◌, refl}
use Rattle.sexpr_core.specs.Value.{Value}
use Rattle.spki_tag.specs.{declared.fault.MeetFault.{MeetFault, TheVariants.{TooLarge, Memory}}, Tag.{Tag, nodes}, Reading.{ReadsAs}}
use Rattle.test_callers.specs.Service.{IsNotNarrowed}
use Rattle.test_callers.specs.declared.tags.NarrowFault.TheVariants as faults

-- two tags that are read and not intersected: if the fault is TooLarge, the product of their nodes is over the limit
pub not_met : (own : Tag) (v : Value) (t : Tag) (fault : MeetFault) → ReadsAs v t
    → (fault ≡ TooLarge → 1000000 < nodes own * nodes t) → IsNotNarrowed own v (faults.Meet fault)
not_met own v t TooLarge reads large = (t, reads, large refl)
not_met own v t Memory reads large = (t, reads)
