use Rattle.spki_reduce.proofs.chain.fold_with_new_count.Goals as goal

pub returns-clause-left : goal.returns-clause-left
returns-clause-left g c =
    let cost = c.fold_owned_counted.ensures.cost in
    record { steps = cost.steps; within = cost.within; work = cost.work; is = cost.is; taken = cost.taken }
