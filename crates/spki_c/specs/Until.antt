-- Until when a yes holds, as a C program receives it.
use Rattle.std.specs.Prelude.{◌≡◌, ℕ, List, Bool, Option, Some, None, ℤ, pos, negsuc}
use Rattle.spki_decision.specs.declared.grant.Grant.{Grant}
use Rattle.spki_service.specs.{AccessLists.{GuardModel}, Questions.{last_second}, declared.question.Question.{Question}}
use Rattle.spki_guard.specs.{declared.answers.Verdict.TheVariants.{Done}, HeldQuestions.{HasGrant}}

-- the last second of a limit; without a limit that of the end of the year 9999, after which no question can be asked (`IsAtNoDate`)
abbrev pub number_until : Option (List ℕ) → ℤ
number_until None = pos 253_402_300_799
number_until (Some date) = last_second date

-- the last second of a grant, by its limit; without a grant the lowest number
abbrev pub number_of : Option Grant → ℤ
number_of None = negsuc 9_223_372_036_854_775_807
number_of (Some grant) = number_until grant.until

-- The question is read, this is granted by the marks, and the number is the last second at which that holds.
pub record IsHeldUntil (held : GuardModel) (q : Question) (marks : List Bool) (number : ℤ) : Type 0 where
  pub grant : Grant
  pub granted : HasGrant held q marks Done (Some grant)
  pub number_is : number ≡ number_until grant.until
