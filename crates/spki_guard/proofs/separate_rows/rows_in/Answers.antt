use Rattle.std.proofs.{Common.{inr}, lemmas.Result.{IfOk-weaker, IfErr-weaker}}
use Rattle.spki_case.specs.{RowsForm.{RowsOf, NoRows}, View.{rows_of}}
use Rattle.spki_guard.proofs.AnswerLaws.{says}
use Rattle.spki_guard.proofs.separate_rows.rows_in.Goals as goal

pub returns-in-Ok-clause-read : goal.returns-in-Ok-clause-read
returns-in-Ok-clause-read c given r = IfOk-weaker c.of.result _ _ (λ table is.
    let s = says given (λ v. RowsOf v (rows_of table)) c.args.text.now _ c.top.result r c.in-Ok.ensures.read c.top.ensures is in
    record { value = s.0; read = s.1; are_rows = s.2 }) c.of.ensures.read

pub returns-in-Ok-clause-refused : goal.returns-in-Ok-clause-refused
returns-in-Ok-clause-refused c given r = IfErr-weaker c.of.result _ _ (λ fault none found.
    let s = says given (λ v. NoRows v fault) c.args.text.now _ c.top.result r c.in-Ok.ensures.read c.top.ensures (none found) in
    inr (record { value = s.0; read = s.1; refused = inr s.2 })) c.of.ensures.refused
