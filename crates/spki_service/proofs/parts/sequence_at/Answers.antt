use Rattle.std.proofs.Common.{inl, inr}
use Rattle.spki_cert.proofs.SequenceFaultNone.{sequence-refused}
use Rattle.spki_case.proofs.Signed.{signed}
use Rattle.spki_service.proofs.parts.sequence_at.Goals as goal

pub returns-in-Ok-clause-signed : goal.returns-in-Ok-clause-signed
returns-in-Ok-clause-signed c = signed c.args.node.now c.in-Ok.items.items c.in-Ok.ensures.sequence

pub returns-in-Err-clause-refused : goal.returns-in-Err-clause-refused
returns-in-Err-clause-refused c = λ known. elim c.fault_of_sequence.ensures [
  | inl h ↦ absurd (known h.1)
  | inr h ↦ record {
    inner = c.in-Err.fault;
    named = h.1;
    refused = record {
      found = h.0;
      named = c.in-Err.ensures.named h.0;
      none = sequence-refused c.args.node.now c.in-Err.fault (c.in-Err.ensures.named h.0);
    };
  }
]
