use Rattle.std.proofs.Common.{rules}
use Rattle.spki_service.proofs.TextLists.{pushed}
use Rattle.spki_service.proofs.text_list.TextList.push.Goals as goal

pub returns : goal.returns
returns c = search (rules, pushed)
