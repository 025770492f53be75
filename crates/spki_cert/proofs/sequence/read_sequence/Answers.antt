use Rattle.std.proofs.{Common.{sym, ◌∙◌}, lemmas.Result.{IfErr-weaker}}
use Rattle.spki_cert.proofs.SequenceFaultNone.{sequence-refused}
use Rattle.spki_cert.proofs.sequence.read_sequence.Goals as goal

pub returns-clause-none : goal.returns-clause-none
returns-clause-none c =
    rw (sym c.node.ensures ∙ c.unwrap.ensures) (IfErr-weaker c.sequence_of.result _ _ (λ fault named known. sequence-refused c.unwrap.result fault (named known))
    c.sequence_of.ensures.named)
