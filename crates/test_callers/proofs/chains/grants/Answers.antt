use Rattle.std.proofs.Common.{◌≡◌, ◌∷◌, false, true}
use Rattle.spki_reduce.specs.{Chain.{tuples_of, SupportsNothing}, Reduction.{five, five_tuple}}
use Rattle.test_callers.proofs.chains.grants.Goals as goal

-- a chain that stops supports nothing, in any bracketing
pub returns-in-Stopped-clause-exact : goal.returns-in-Stopped-clause-exact
returns-in-Stopped-clause-exact c =
    let asked = c.args.asked.now in
    let nothing : SupportsNothing c.args.policy (five (five_tuple c.args.first.now) ∷ tuples_of c.args.steps.now) =
    rw c.in-Stopped.is at c.in_ok-fold_chain.ensures.unsupported in (
      λ h. absurd (let clash : false ≡ true = h in cc),
      λ s. absurd (nothing s.tree asked.key.now asked.request.now asked.moment.now s.leaves_are c.prove_well_formed.ensures s.supports),
    )
