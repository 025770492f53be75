-- The lemmas by which readers of lists are proved: on heads, on members, and on the strings among them.
use Rattle.std.proofs.lemmas.Bool.{not-true}
use Rattle.spki_cert.proofs.HeadedLists.{carried, headed-by, headed-else, not-headed, behind-group, no-plain, none-some}
use Rattle.spki_cert.proofs.{SubjectFaultLaws.{begins-plain, begins-other, alg-other, some-names}, FieldFaultLaws.{not-unread, cert-unread}}

pub ruleset heads = (carried, headed-by, headed-else, not-headed, behind-group, no-plain, none-some, not-true, begins-plain, begins-other, alg-other, some-names, not-unread, cert-unread)
