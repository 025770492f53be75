use Rattle.std.proofs.{Common.{sym, ◌∙◌, arith}, lemmas.Result.{IfOk-weaker, IfErr-weaker}}
use Rattle.sexpr_text.proofs.CountedLaws.{counted_ended, marked_stands, verbatim_fits, verbatim_string, counted_string, octets_few, counted_elsewhere}
use Rattle.sexpr_text.proofs.RefusedParts.{short_refused, marked_missed, count_missed}
use Rattle.sexpr_text.proofs.MarkedEnds.{count_short, verbatim_end, counted_end, count_end}
use Rattle.sexpr_core.proofs.Errors.{err_kept}
use Rattle.sexpr_text.proofs.strings.read_counted.Goals as goal

pub returns-in_default-clause-only : goal.returns-in_default-clause-only
returns-in_default-clause-only c = λ a rest s.
    absurd (counted_ended _ _ _ _ _ a rest c.requires.begins c.requires.digit c.read_count-count.ensures.read c.read_count-count.ensures.ends s c.in_default.ensures)

pub returns-then-octet-eq58-clause-read : goal.returns-then-octet-eq58-clause-read
returns-then-octet-eq58-clause-read c =
    IfOk-weaker _ _ _ (λ read o. verbatim_string _ _ _ _ _ _ _ c.read_count-count.ensures.read c.in-Some.ensures c.if-octet-eq58.true o) c.read_verbatim.ensures.read

pub returns-then-octet-eq58-clause-only : goal.returns-then-octet-eq58-clause-only
returns-then-octet-eq58-clause-only c = λ a rest s.
    c.read_verbatim.ensures.only (verbatim_fits _ _ _ _ _ _ a rest c.requires.begins c.requires.digit c.read_count-count.ensures.read c.read_count-count.ensures.ends c.in-Some.ensures c.if-octet-eq58.true s)

pub returns-in_err-read-clause-only : goal.returns-in_err-read-clause-only
returns-in_err-read-clause-only c = λ a rest s.
    let k = marked_stands _ _ _ _ _ _ a rest c.requires.begins c.requires.digit c.read_count-count.ensures.read c.read_count-count.ensures.ends c.in-Some.ensures c.if-octet-eq58.false s in
    err_kept _ _ _ c.from_residual.ensures.1 (c.in_err-read.ensures.only k.0 a rest k.1 k.2)

pub returns-then-len-count-clause-only : goal.returns-then-len-count-clause-only
returns-then-len-count-clause-only c = λ a rest s.
    let few = octets_few _ _ _ _ c.in_ok-read.ensures.read in
    absurd (counted_elsewhere _ _ _ _ _ _ _ _ _ a rest (omega (arith, few, c.requires.short)) c.requires.begins c.requires.digit c.read_count-count.ensures.read
    c.read_count-count.ensures.ends c.in-Some.ensures c.if-octet-eq58.false c.in_ok-read.ensures.read (c.len.ensures ∙ c.in_ok-read.read.octets.ok.0) c.if-len-count.true s)

pub returns-clause-read : goal.returns-clause-read
returns-clause-read c =
    counted_string _ _ _ _ _ _ c.requires.short c.read_count-count.ensures.read c.in_ok-read.ensures.read
    (sym (c.len.ensures ∙ c.in_ok-read.read.octets.ok.0) ∙ c.if-len-count.false)

pub returns-then-octet-eq58-clause-refused : goal.returns-then-octet-eq58-clause-refused
returns-then-octet-eq58-clause-refused c = IfErr-weaker c.read_verbatim.result _ _ (λ fault h. short_refused _ _ _ fault h) c.read_verbatim.ensures.refused

pub returns-in_err-read-clause-refused : goal.returns-in_err-read-clause-refused
returns-in_err-read-clause-refused c =
    err_kept _ _ _ c.from_residual.ensures.1
    (marked_missed _ _ _ _ _ _ _ c.requires.begins c.requires.digit c.read_count-count.ensures.read c.read_count-count.ensures.ends
    c.in-Some.ensures c.if-octet-eq58.false c.in_err-read.ensures.refused)

pub returns-then-len-count-clause-refused : goal.returns-then-len-count-clause-refused
returns-then-len-count-clause-refused c =
    count_missed _ _ _ _ _ _ _ _ _ c.requires.short c.requires.begins c.requires.digit c.read_count-count.ensures.read c.read_count-count.ensures.ends
    c.in-Some.ensures c.if-octet-eq58.false c.in_ok-read.ensures.read (c.len.ensures ∙ c.in_ok-read.read.octets.ok.0) c.if-len-count.true

pub returns-in_default-clause-begun : goal.returns-in_default-clause-begun
returns-in_default-clause-begun c = count_short _ _ _ _ c.read_count-count.ensures.read c.in_default.ensures

pub returns-then-octet-eq58-clause-begun : goal.returns-then-octet-eq58-clause-begun
returns-then-octet-eq58-clause-begun c =
    IfErr-weaker c.read_verbatim.result _ _
    (λ fault h. verbatim_end _ _ _ _ _ fault c.requires.short c.read_count-count.ensures.read c.in-Some.ensures c.if-octet-eq58.true h) c.read_verbatim.ensures.begun

pub returns-in_err-read-clause-begun : goal.returns-in_err-read-clause-begun
returns-in_err-read-clause-begun c =
    err_kept _ _ _ c.from_residual.ensures.1
    (counted_end _ _ _ _ _ _ c.requires.begins c.requires.digit c.read_count-count.ensures.read c.read_count-count.ensures.ends
    c.in_err-read.ensures.begun)

pub returns-then-len-count-clause-begun : goal.returns-then-len-count-clause-begun
returns-then-len-count-clause-begun c =
    count_end _ _ _ _ _ _ _ c.requires.begins c.requires.digit c.read_count-count.ensures.read c.read_count-count.ensures.ends c.in_ok-read.ensures.read
