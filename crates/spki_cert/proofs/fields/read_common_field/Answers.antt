use Rattle.std.proofs.Common.{◌∙◌}
use Rattle.spki_cert.proofs.{FieldFaultLaws.{entry-tag_field}, FieldFaultNone.{tags-none}}
use Rattle.spki_cert.proofs.fields.read_common_field.Goals as goal

pub returns-in-Some-clause-faultless : goal.returns-in-Some-clause-faultless
returns-in-Some-clause-faultless c = entry-tag_field c.args.field.now _ c.in-Some.ensures ∙ (tags-none _).1 (_, c.in_ok-tag_in.ensures.found)
