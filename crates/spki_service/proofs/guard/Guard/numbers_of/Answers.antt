use Rattle.std.proofs.Common.{sym, ◌∙◌, rules}
use Rattle.spki_service.proofs.{IndexLaws.{numbers_none}, SelectedEntries.{entries_one}}
use Rattle.spki_service.proofs.guard.Guard.numbers_of.Goals as goal

pub returns-in-None : goal.returns-in-None
returns-in-None c es are = rw c.in-None.is (c.new.ensures.items ∙ sym (numbers_none 1 es))

pub returns-in-Some : goal.returns-in-Some
returns-in-Some c es are = search (rules, entries_one)
