use Rattle.std.proofs.Common.{refl}
use Rattle.spki_service.proofs.parts.key_at.Goals as goal

pub returns-in-Err-clause-refused : goal.returns-in-Err-clause-refused
returns-in-Err-clause-refused c = λ known.
    let e = c.in-Err.ensures in
    record {
      inner = c.in-Err.kind;
      named = refl;
      refused = record { found = e.fault; named = e.named; none = λ key h. e.refused key h };
    }
