use Rattle.std.proofs.Common.{[], ◌∷◌, ◌++◌, codes, refl}
use Rattle.spki_reduce.specs.Written.{headed, named, delegation_values, in_valid, window_limits, five_value}
use Rattle.spki_reduce.proofs.tuple.Five.prove_writable.Goals as goal

pub returns : goal.returns
returns c =
    let f = c.args.self.now in
    let (issuer, issuer_is) = c.prove_issuer.ensures in
    let (owner, owner_is) = c.prove_principal.ensures in
    let subject = named owner f.subject.names in (
      five_value ((issuer ++ headed (codes "subject") (subject ∷ []) ∷ []) ++ delegation_values f.propagate) f.tag (in_valid (window_limits f.window)),
      record { issuer = issuer; issuer_is = issuer_is; subject = subject; subject_is = (owner, owner_is, refl); written = refl },
    )
