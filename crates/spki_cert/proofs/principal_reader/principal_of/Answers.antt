use Rattle.spki_cert.proofs.{HeadedLists.{carried}, SubjectFaultLaws.{IsNoPrincipal, no-principal, unheaded-is_no_hash}}
use Rattle.std.proofs.Common.{rules}
use Rattle.spki_cert.proofs.principal_reader.principal_of.Goals as goal

pub returns-in_err-key-in-None-clause-refused : goal.returns-in_err-key-in-None-clause-refused
returns-in_err-key-in-None-clause-refused c = search (rules, carried, IsNoPrincipal, no-principal, unheaded-is_no_hash)
