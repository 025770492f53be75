use Rattle.std.proofs.Common.{rules}
use Rattle.spki_cert.proofs.HeadedLists.{carried, behind-group}
use Rattle.spki_case.specs.Case.{sha256_fault}
use Rattle.spki_case.proofs.rows.sha256_of.Goals as goal

pub returns-in_err-alg-clause-named : goal.returns-in_err-alg-clause-named
unfolding sha256_fault
returns-in_err-alg-clause-named c = search (rules, carried)

pub returns-in-Sha1-clause-named : goal.returns-in-Sha1-clause-named
unfolding sha256_fault
returns-in-Sha1-clause-named c = search (rules, behind-group)
