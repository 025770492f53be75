use Rattle.std.proofs.{Common.{subst}, lemmas.Result.{IfErr-weaker}}
use Rattle.sexpr_text.proofs.{StringLaws.{packed_read, packed_marked}, Marked.{quoted_of, hexadecimal_of, packed_of, behind_opening}}
use Rattle.sexpr_text.proofs.{RefusedParts.{quoted_missed, hexadecimal_missed, packed_missed, mark_missed}, StringEnds.{IfErr-both}}
use Rattle.sexpr_text.proofs.MarkedEnds.{quoted_marked_end, hexadecimal_marked_end, packed_marked_end, no_mark_end}
use Rattle.sexpr_core.{specs.Reading.{StandsAt}, proofs.Errors.{err_kept}}
use Rattle.sexpr_text.proofs.strings.read_marked.Goals as goal

pub returns-in-Some-eq34-clause-only : goal.returns-in-Some-eq34-clause-only
returns-in-Some-eq34-clause-only c = λ s a rest m e.
    c.read_quoted.ensures.only s a rest (quoted_of _ _ _ s a rest c.in-Some-eq34.ensures c.in-Some-eq34.field-0-test m e) e

pub returns-in-Some-eq35-clause-only : goal.returns-in-Some-eq35-clause-only
returns-in-Some-eq35-clause-only c = λ s a rest m e.
    c.read_hexadecimal.ensures.only s a rest (hexadecimal_of _ _ _ s a rest c.in-Some-eq35.ensures c.in-Some-eq35.field-0-test m e) e

pub returns-in_err-octets-in-Some-eq124-clause-only : goal.returns-in_err-octets-in-Some-eq124-clause-only
returns-in_err-octets-in-Some-eq124-clause-only c = λ s a rest m e.
    let h = packed_of _ _ _ s a rest c.in-Some-eq124.ensures c.in-Some-eq124.field-0-test m e in
    err_kept _ _ _ c.from_residual.ensures.1
    (c.in_err-octets-in-Some-eq124.ensures.only h.body rest a h.packed (behind_opening 124 _ _ _ s h.body rest c.in-Some-eq124.ensures h.spelled e).1)

pub returns-in_ok-octets-in-Some-eq124-clause-read : goal.returns-in_ok-octets-in-Some-eq124-clause-read
returns-in_ok-octets-in-Some-eq124-clause-read c =
    packed_marked _ _ _ _ (packed_read _ _ _ _ (subst (StandsAt _ _) c.in-Some-eq124.field-0-test c.in-Some-eq124.ensures) c.in_ok-octets-in-Some-eq124.ensures.read)

pub returns-in-Some-eq34-clause-refused : goal.returns-in-Some-eq34-clause-refused
returns-in-Some-eq34-clause-refused c =
    IfErr-weaker c.read_quoted.result _ _ (λ fault h. quoted_missed _ _ _ fault c.in-Some-eq34.ensures c.in-Some-eq34.field-0-test h) c.read_quoted.ensures.refused

pub returns-in-Some-eq35-clause-refused : goal.returns-in-Some-eq35-clause-refused
returns-in-Some-eq35-clause-refused c =
    IfErr-weaker c.read_hexadecimal.result _ _ (λ fault h. hexadecimal_missed _ _ _ fault c.in-Some-eq35.ensures c.in-Some-eq35.field-0-test h) c.read_hexadecimal.ensures.refused

pub returns-in_err-octets-in-Some-eq124-clause-refused : goal.returns-in_err-octets-in-Some-eq124-clause-refused
returns-in_err-octets-in-Some-eq124-clause-refused c =
    err_kept _ _ _ c.from_residual.ensures.1 (packed_missed _ _ _ _ c.in-Some-eq124.ensures c.in-Some-eq124.field-0-test c.in_err-octets-in-Some-eq124.ensures.refused)

pub returns-in-Some-clause-refused : goal.returns-in-Some-clause-refused
returns-in-Some-clause-refused c =
    mark_missed _ _ _ c.in-Some.ensures c.in-Some.field-0-test.0.0.1 c.in-Some.field-0-test.0.1 c.in-Some.field-0-test.1

pub returns-in_err-octets-in-Some-eq124-clause-begun : goal.returns-in_err-octets-in-Some-eq124-clause-begun
returns-in_err-octets-in-Some-eq124-clause-begun c =
    err_kept _ _ _ c.from_residual.ensures.1 (packed_marked_end _ _ _ _ c.in-Some-eq124.ensures c.in-Some-eq124.field-0-test c.in_err-octets-in-Some-eq124.ensures.begun)

pub returns-in-Some-eq34-clause-begun : goal.returns-in-Some-eq34-clause-begun
returns-in-Some-eq34-clause-begun c =
    IfErr-both c.read_quoted.result _ _ _ (λ fault h r. quoted_marked_end _ _ _ fault c.in-Some-eq34.ensures c.in-Some-eq34.field-0-test h r) c.read_quoted.ensures.begun c.read_quoted.ensures.refused

pub returns-in-Some-eq35-clause-begun : goal.returns-in-Some-eq35-clause-begun
returns-in-Some-eq35-clause-begun c =
    IfErr-weaker c.read_hexadecimal.result _ _ (λ fault h. hexadecimal_marked_end _ _ _ fault c.in-Some-eq35.ensures c.in-Some-eq35.field-0-test h) c.read_hexadecimal.ensures.begun

pub returns-in-Some-clause-begun : goal.returns-in-Some-clause-begun
returns-in-Some-clause-begun c =
    no_mark_end _ _ _ c.in-Some.ensures c.in-Some.field-0-test.0.0.1 c.in-Some.field-0-test.0.1 c.in-Some.field-0-test.1
