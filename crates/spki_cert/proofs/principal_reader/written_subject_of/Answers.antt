use Rattle.std.proofs.lemmas.Result.{IfErr-weaker}
use Rattle.spki_cert.proofs.SubjectFaultLaws.{subject-names}
use Rattle.spki_cert.proofs.principal_reader.written_subject_of.Goals as goal

pub returns-clause-named : goal.returns-clause-named
returns-clause-named c =
    IfErr-weaker c.read_name_members.result _ _ (λ kind named known. subject-names c.args.node.now _ _ c.in-Some-headed-2.ensures (named known)) c.read_name_members.ensures.named
