use Rattle.spki_guard.proofs.OneRefusal.{one_decided, only_memory, one_refused}
use Rattle.spki_guard.proofs.separate_rows.one_answer_apart.Goals as goal

pub returns-clause-decided : goal.returns-clause-decided
returns-clause-decided c = one_decided

pub returns-clause-unrefused : goal.returns-clause-unrefused
returns-clause-unrefused c = only_memory

pub returns-clause-refused : goal.returns-clause-refused
returns-clause-refused c = one_refused
