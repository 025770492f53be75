use Rattle.sexpr_text.specs.CanonicalTexts.{opened_value}
use Rattle.spki_service.proofs.ListReading.{list_held, list_refused}
use Rattle.spki_service.proofs.guard.Guard.read.Goals as goal

pub returns-in-Ok-clause-list : goal.returns-in-Ok-clause-list
returns-in-Ok-clause-list c =
    list_held c.args.list.now c.in_ok-text.text (opened_value c.in-Ok.document) c.top.result c.in_ok-text.ensures.read c.in-Ok.ensures.read
    c.top.ensures c.of.result c.of.ensures.list

pub returns-in-Ok-clause-refused : goal.returns-in-Ok-clause-refused
returns-in-Ok-clause-refused c =
    list_refused c.args.list.now c.in_ok-text.text (opened_value c.in-Ok.document) c.top.result c.in_ok-text.ensures.read c.in-Ok.ensures.read
    c.top.ensures c.of.result c.of.ensures.refused
