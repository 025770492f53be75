use Rattle.spki_service.proofs.{ListReading.{list-one, list_fault-one, list_unrefused}, SelectedEntries.{entries_one}}
use Rattle.spki_service.proofs.laws.one_list.Goals as goal

pub returns-clause-list : goal.returns-clause-list
returns-clause-list c = list-one

pub returns-clause-entries : goal.returns-clause-entries
returns-clause-entries c = entries_one

pub returns-clause-unrefused : goal.returns-clause-unrefused
returns-clause-unrefused c = list_unrefused

pub returns-clause-fault : goal.returns-clause-fault
returns-clause-fault c = list_fault-one
