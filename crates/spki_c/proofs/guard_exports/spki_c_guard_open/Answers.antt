use Rattle.std.proofs.Common.{inr, rules, refl}
use Rattle.spki_guard.specs.TextAnswers.{written_by}
use Rattle.spki_c.proofs.guard_exports.spki_c_guard_open.Goals as goal

pub returns-in-Err-clause-opened : goal.returns-in-Err-clause-opened
returns-in-Err-clause-opened c p e allowed lent =
    inr (record { kept = refl; output = written_by c.refused_list.result; line = search rules; handed = c.hand_over.ensures })
