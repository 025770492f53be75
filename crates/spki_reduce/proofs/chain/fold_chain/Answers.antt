use Rattle.std.proofs.Common.{◌∷◌, IfOk, subst}
use Rattle.spki_reduce.specs.{Reduction.{five}, Chain.{tuples_of, SupportsNothing, MatchFold}}
use Rattle.spki_reduce.proofs.chain.fold_chain.Goals as goal

pub returns-clause-unsupported : goal.returns-clause-unsupported
returns-clause-unsupported c =
    subst (λ t. IfOk c.fold_owned.result (λ fold. MatchFold fold (λ f. Unit {0})
    (λ step cause. SupportsNothing c.args.policy (five t ∷ tuples_of c.args.steps.now)))) c.in_ok-own.ensures
    c.fold_owned.ensures.unsupported
