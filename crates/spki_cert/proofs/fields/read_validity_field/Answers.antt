use Rattle.std.proofs.Common.{◌∙◌, rules}
use Rattle.spki_cert.proofs.{HeadedLists.{carried}, FieldFaultLaws.{time-valid as time-valid_field}}
use Rattle.spki_cert.proofs.fields.read_validity_field.Goals as goal

pub returns-in_err-valid_in-clause-named : goal.returns-in_err-valid_in-clause-named
returns-in_err-valid_in-clause-named c = search (rules, carried, time-valid_field)

pub returns-in-Some-headed-2-clause-faultless : goal.returns-in-Some-headed-2-clause-faultless
returns-in-Some-headed-2-clause-faultless c = time-valid_field c.args.field.now _ c.in-Some-headed-2.ensures ∙ c.in_ok-valid_in.ensures.faultless
