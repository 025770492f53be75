use Rattle.std.proofs.Common.{◌≡◌, ◌≢◌, inl, inr, Option, Some, rules}
use Rattle.spki_tag.specs.{declared.fault.TagFault.{TagFault}, Faults.{IsNamed}}
use Rattle.spki_tag.specs.declared.fault.TagFault.TheVariants as tag_faults
use Rattle.spki_service.proofs.parts.request_at.Goals as goal

request-named : (fault : TagFault) (found : Option TagFault) → IsNamed fault found → fault ≢ tag_faults.Memory → found ≡ Some fault
unfolding IsNamed
request-named fault found (inl denial) known = absurd (known denial)
request-named fault found (inr named) known = named

pub returns-in-Err-clause-refused : goal.returns-in-Err-clause-refused
returns-in-Err-clause-refused c = search (rules, request-named)
