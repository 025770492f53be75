use Rattle.std.proofs.Common.{rules}
use Rattle.spki_guard.proofs.separate_rows.decide_by_rows.Goals as goal

pub returns-in_err-decided-clause-refused : goal.returns-in_err-decided-clause-refused
returns-in_err-decided-clause-refused c =
    let are = c.in_ok-accepted.ensures.read c.args.rows.now c.in_ok-text.ensures.read in search rules

pub returns-clause-answered : goal.returns-clause-answered
returns-clause-answered c = let are = c.in_ok-accepted.ensures.read c.args.rows.now c.in_ok-text.ensures.read in search rules
