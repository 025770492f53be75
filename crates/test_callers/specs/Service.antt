-- A service: its answer to a question, what a verifier states if keys are revoked, and why its tag is not narrowed.
use Rattle.std.specs.Prelude.{◌≡◌, ℕ, List, Contains, ◌*◌, ◌<◌}
use Rattle.spki_cert.specs.declared.{entry.Entry.{Entry}, principal.Policy.{Policy}}
use Rattle.spki_case.specs.Case.{Case, Verified}
use Rattle.spki_decision.specs.{declared.decision.Decision.{Decision}, Granted.{IsDecision}, CertificateTests.{with_entries}}
use Rattle.spki_service.specs.{declared.question.Question.{Question}, AccessLists.{AreEntries}, Questions.{IsAskedCase}}
use Rattle.sexpr_core.specs.Value.{Value}
use Rattle.spki_tag.specs.{declared.fault.MeetFault.TheVariants.{TooLarge, Memory}, Tag.{Tag, nodes}, Reading.{ReadsAs, IsNoTag}}
use Rattle.test_callers.specs.declared.tags.NarrowFault.{NarrowFault}
use Rattle.test_callers.specs.declared.tags.NarrowFault.TheVariants as faults

-- ---- the answer of a service to a question

-- The answer is the decision of the case with the entries of these texts and the parts of the question, under this policy.
pub record AnswersQuestion (texts : List (List ℕ)) (policy : Policy) (q : Question) (verified : Verified) (d : Decision) : Type 0 where
  pub case : Case
  pub asked : IsAskedCase q case
  pub under : case.policy ≡ policy
  pub decided : (es : List Entry) → AreEntries texts es → IsDecision (with_entries case es) verified d

-- ---- the statement of a verifier if some keys are revoked

-- what the verifier states, and nothing for a revoked key
abbrev pub unrevoked : List (List ℕ) → Verified → Verified
unrevoked revoked verified key message value = (¬ Contains revoked key) × verified key message value

-- ---- why a service's tag is not narrowed

-- Tag: unless memory ran out, the value is no tag. Meet: it is a tag. Unless memory ran out, the product of its nodes and of
-- the nodes of the service's tag is over 1,000,000.
abbrev pub IsNotNarrowed : Tag → Value → NarrowFault → Type 0
IsNotNarrowed own given (faults.Tag fault) = IsNoTag fault given
IsNotNarrowed own given (faults.Meet TooLarge) = (t : Tag) × ReadsAs given t × (1000000 < nodes own * nodes t)
IsNotNarrowed own given (faults.Meet Memory) = (t : Tag) × ReadsAs given t
