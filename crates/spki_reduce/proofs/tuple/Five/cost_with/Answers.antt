use Rattle.std.proofs.{Common.{rules, refl, sym, ◌∙◌}, lemmas.Bool.{both_ways}}
use Rattle.spki_reduce.specs.{declared.tuple.Step.TheVariants.{Auth, Name}, Reduction.{step_tuple}, Chain.{step_cost}}
use Rattle.spki_reduce.proofs.Costs.{costs_nothing, unjoined}
use Rattle.spki_reduce.proofs.tuple.Five.cost_with.Goals as goal

pub returns-then-is_ok : goal.returns-then-is_ok
returns-then-is_ok c = (
  step_cost c.args.self.now.tag c.args.self.now.subject.names (step_tuple c.args.step.now),
  rw c.in-Auth.is (c.intersection_cost.ensures c.args.self.now.subject.names),
  search rules,
)

pub returns-else-is_ok : goal.returns-else-is_ok
returns-else-is_ok c = (
  0,
  refl,
  costs_nothing c.args.policy c.args.self.now c.args.step.now (Auth c.in-Auth.next) c.in-Auth.is
      (unjoined c.joined_window.result _ _ _ (sym c.is_ok.ensures.value ∙ c.if-is_ok.false) c.joined_window.ensures.stops),
)

pub returns-then-is_resolved_by : goal.returns-then-is_resolved_by
returns-then-is_resolved_by c = (
  step_cost c.args.self.now.tag c.args.self.now.subject.names (step_tuple c.args.step.now),
  rw c.in-Name.is (c.resolution_cost.ensures c.args.self.now.tag),
  search rules,
)

pub returns-else-is_resolved_by : goal.returns-else-is_resolved_by
returns-else-is_resolved_by c = (
  0,
  refl,
  costs_nothing c.args.policy c.args.self.now c.args.step.now (Name c.in-Name.definition) c.in-Name.is
      (λ h. both_ways c.is_resolved_by.result c.if-is_resolved_by.false (c.is_resolved_by.ensures.1 h)),
)
