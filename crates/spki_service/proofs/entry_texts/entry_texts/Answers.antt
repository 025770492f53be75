use Rattle.std.proofs.Common.{rules}
use Rattle.spki_case.proofs.Building.{behind_head}
use Rattle.spki_service.proofs.SelectedEntries.{behind}
use Rattle.spki_service.proofs.entry_texts.entry_texts.Goals as goal

pub returns : goal.returns
returns c version entries is written long =
    behind version entries c.in_ok-member_texts.field-0 c.last_texts.result c.args.count is long (search (rules, behind_head)) c.last_texts.ensures.all
    c.last_texts.ensures.behind
