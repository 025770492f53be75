-- The answer to a case, apart from Memory: what decide, explain and reduce_case promise of each answer except Memory.
use Rattle.std.specs.Prelude.{◌≡◌, Result, Ok, Err}
use Rattle.spki_case.specs.Case.{Case, Verified}
use Rattle.spki_decision.specs.declared.{decision.Decision.{Decision}, fault.GuardFault.{GuardFault, TheVariants.{TooLarge, Memory}}}
use Rattle.spki_decision.specs.declared.{explanation.Explanation.{Explanation}, reduction.Reduction.{Reduction}}
use Rattle.spki_decision.specs.{Granted.{IsDecision, IsUnrefused, IsTooLarge, IsReduction, AreDated, SomeTooLarge}, Explained.{IsExplanation}}
use Rattle.spki_reduce.specs.declared.fault.ReduceFault.{ReduceFault}
use Rattle.spki_reduce.specs.declared.fault.ReduceFault.TheVariants as reduce

-- ---- answers apart from Memory

abbrev pub IsDecided : Case → Verified → Result Decision GuardFault → Type 0
IsDecided c verified (Ok decision) = IsDecision c verified decision × IsUnrefused c verified decision
IsDecided c verified (Err TooLarge) = IsTooLarge c verified
IsDecided c verified (Err Memory) = ⊥

abbrev pub IsExplained : Case → Verified → Result Explanation GuardFault → Type 0
IsExplained c verified (Ok explanation) = IsExplanation c verified explanation
IsExplained c verified (Err TooLarge) = SomeTooLarge c verified
IsExplained c verified (Err Memory) = ⊥

-- a reduction whose windows begin at dates
abbrev pub IsReduced : Case → Verified → Result Reduction GuardFault → Type 0
IsReduced c verified (Ok reduction) = IsReduction c verified reduction × AreDated reduction
IsReduced c verified (Err TooLarge) = SomeTooLarge c verified
IsReduced c verified (Err Memory) = ⊥

-- two answers are the same, or they are the same fault
abbrev pub AreSame : {A : Type 0} → (A → A → Type 0) → Result A GuardFault → Result A GuardFault → Type 0
AreSame IsSame (Ok a) (Ok b) = IsSame a b
AreSame IsSame (Ok a) (Err fault) = ⊥
AreSame IsSame (Err fault) (Ok b) = ⊥
AreSame IsSame (Err fault) (Err other) = fault ≡ other

-- ---- why a case is not decided if a reduction is refused

abbrev pub guard_fault : ReduceFault → GuardFault
guard_fault reduce.TooLarge = TooLarge
guard_fault reduce.Memory = Memory
