use Rattle.spki_guard.proofs.{OneRefusal.{refusal_one}, OneLine.{read_one, answered}}
use Rattle.spki_guard.proofs.line_laws.one_line.Goals as goal

pub returns-clause-same : goal.returns-clause-same
returns-clause-same c = read_one

pub returns-clause-answered : goal.returns-clause-answered
returns-clause-answered c = answered

pub returns-clause-refused : goal.returns-clause-refused
returns-clause-refused c = refusal_one
