use Rattle.std.proofs.Common.{sym, ◌∙◌, ap, Bool, ◌||◌}
use Rattle.spki_reduce.specs.Chain.{tuples_of}
use Rattle.spki_decision.specs.Spared.{is_plain, is_spared}
use Rattle.spki_decision.proofs.sizes.Sizes.are_small.Goals as goal

pub returns-then-have_small_product : goal.returns-then-have_small_product
unfolding is_spared
returns-then-have_small_product c =
    c.if-have_small_product.true ∙ ap (λ (b : Bool). b || is_plain c.args.limit (tuples_of c.args.steps.now) c.args.tag.now)
    (sym c.if-have_small_product.true ∙ c.have_small_product.ensures)

pub returns-else-have_small_product : goal.returns-else-have_small_product
unfolding is_spared
returns-else-have_small_product c =
    c.are_plain_and_small.ensures
    ∙ ap (λ (b : Bool). b || is_plain c.args.limit (tuples_of c.args.steps.now) c.args.tag.now)
    (sym c.if-have_small_product.false ∙ c.have_small_product.ensures)
