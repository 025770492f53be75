use Rattle.std.proofs.Common.{[], ◌∷◌, ◌++◌, refl, arith, rules}
use Rattle.spki_case.specs.View.{model}
use Rattle.spki_reduce.specs.Chain.{tuples_of}
use Rattle.spki_decision.specs.{CertificateTests.{with_entries}, Requirements.{work_left}}
use Rattle.spki_decision.proofs.EntryChains.{stands, one_put, none_folded, one_folded, too_large_here, all_folded}
use Rattle.spki_decision.proofs.reduction.put_folds.Goals as goal

pub loop-index-init : goal.loop-index-init
loop-index-init g c = ([], search rules, search rules, search (rules, none_folded), c.of-budget.ensures.sizes)

pub returns-in_err-fold-clause-too_large : goal.returns-in_err-fold-clause-too_large
returns-in_err-fold-clause-too_large g c h =
    let (folds, taken, put, before, sizes) = c.loop-index.invariant in
    let m = with_entries (model c.args.case.now) c.args.acl.now in
    let here = stands m c.args.acl.now c.loop-index.index c.index-acl-index.result refl c.loop-index-test.true c.index-acl-index.is in
    too_large_here m (tuples_of c.args.steps.now) c.loop-index.index c.index-acl-index.result here (work_left c.loop-index.budget) folds before
    (search rules)

pub loop-index-preserved : goal.loop-index-preserved
loop-index-preserved g c =
    let (folds, taken, put, before, sizes) = c.loop-index.invariant in
    let told = c.in_ok-fold.ensures in
    let m = with_entries (model c.args.case.now) c.args.acl.now in
    let here = stands m c.args.acl.now c.loop-index.index c.index-acl-index.result refl c.loop-index-test.true c.index-acl-index.is in
    let numbered = put.count in (
      folds ++ c.in_ok-fold.fold ∷ [],
      c.in_ok-put.ensures c.args.sink.now folds taken (omega (arith, numbered)),
      one_put c.loop-index.index folds c.in_ok-fold.fold put told.dated told.end,
      one_folded m (tuples_of c.args.steps.now) c.loop-index.index c.index-acl-index.result here (work_left c.loop-index.budget) folds before
          c.in_ok-fold.fold (work_left c.entry_fold.new.budget) told.charged.0 (told.exact c.args.acl.now) told.within_limit told.charged.1 told.charged.2,
      told.same_sizes,
    )

pub returns-clause-folds : goal.returns-clause-folds
returns-clause-folds g c =
    let (folds, taken, put, all, sizes) = c.loop-index.invariant in
    let low = c.loop-index-test.false in
    let high = c.loop-index.auto.index-end in
    let each = all_folded (with_entries (model c.args.case.now) c.args.acl.now) (tuples_of c.args.steps.now) c.loop-index.index
    (work_left c.loop-index.budget) folds (omega (arith, low, high)) all in
    (folds, taken, each, put.dated, put.end)
