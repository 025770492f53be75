use Rattle.spki_cert.proofs.SubjectFaultLaws.{principal-names}
use Rattle.std.proofs.Common.{◌++◌, ◌∙◌, ap, List, ℕ}
use Rattle.spki_cert.proofs.principal_reader.read_name_members.Goals as goal

pub returns-clause-found : goal.returns-clause-found
returns-clause-found c =
    let found = c.in_ok-names_behind-2.ensures.found in
    principal-names c.args.members c.in-Some.first c.in-Some.others c.in_ok-principal.principal c.in_ok-names_behind-2.field-0 found.0
    c.in-Some.ensures c.in_ok-principal.ensures.found (λ e. absurd (let f = c.if-is_empty.ensures.1 e in cc))
    (found.1 ∙ ap (λ (xs : List (List ℕ)). xs ++ found.0) c.in_ok-names-2.ensures.items) found.2
