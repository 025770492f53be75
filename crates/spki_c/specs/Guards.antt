-- What a C program receives from the guards that it holds.
use Rattle.std.specs.Prelude.{◌≡◌, ◌⊎◌, ℕ, zero, suc, ◌≤◌, List, [], ◌∷◌, Bool, Option, Some}
use Rattle.spki_cert.specs.declared.principal.Policy.{Policy, TheVariants.{Open, Strict}}
use Rattle.spki_service.specs.AccessLists.{GuardModel, HoldsList, IsNoAccessList}
use Rattle.spki_service.specs.declared.{limits.Limits.{Limits}, list_fault.AclFault.{AclFault}, question.Question.{Question}}
use Rattle.spki_guard.specs.declared.{answers.Verdict.{Verdict}, queries.Query.{Query, TheVariants.{Decide, Explain, Reduce}}}
use Rattle.spki_guard.specs.{HeldQuestions.{IsAnswerHeld}, Lines.{refused_list, refused_memory}}
use Rattle.spki_c.specs.{Results.{IsHanded, decided, written}, declared.{handle_value.HandleValue.{HandleValue}, limits.LimitParts.{LimitParts}}}
use Rattle.spki_c.specs.declared.handle_value.HandleValue.TheVariants as contents

-- ---- numbers

abbrev pub policy_number : Policy → ℕ
policy_number Strict = 0
policy_number Open = 1

-- the number of what a question is asked for: that of the command that does the same with a case
abbrev pub query_number : Query → ℕ
query_number Reduce = 4
query_number Decide = 5
query_number Explain = 6

-- the status of the answer to a question: only a decision has the status of yes or no
abbrev pub status_for : Query → Verdict → ℕ
status_for Decide verdict = decided verdict
status_for Explain verdict = written verdict
status_for Reduce verdict = written verdict

-- ---- opened

-- The limits of a guard.
pub record Numbers : Type 0 where
  pub octets : ℕ
  pub certificates : ℕ
  pub words : ℕ
  pub nodes : ℕ
  pub work : ℕ
  pub answer : ℕ

-- a limit that is 0 is the usual one
abbrev pub or_usual : ℕ → ℕ → ℕ
or_usual zero usual = usual
or_usual (suc limit) usual = suc limit

-- the first limits that are passed, or the usual ones if there are none
abbrev pub numbers_in : List LimitParts → Numbers
numbers_in [] = record { octets = 65536; certificates = 16; words = 64; nodes = 1000000; work = 2000000; answer = 1048576 }
numbers_in (l ∷ others) = record {
  octets = or_usual l.octets 65536;
  certificates = or_usual l.certificates 16;
  words = or_usual l.words 64;
  nodes = or_usual l.nodes 1000000;
  work = or_usual l.work 2000000;
  answer = or_usual l.answer 1048576;
}

-- no limit is over the highest
abbrev pub AreAllowed : Numbers → Type 0
AreAllowed n = (n.octets ≤ 1048576) × (n.nodes ≤ 1000000) × (n.work ≤ 1000000000)

-- These are the limits.
pub record AreLimits (n : Numbers) (l : Limits) : Type 0 where
  pub octets_are : l.octets ≡ n.octets
  pub certificates_are : l.certificates ≡ n.certificates
  pub words_are : l.words ≡ n.words
  pub nodes_are : l.nodes ≡ n.nodes
  pub work_is : l.work ≡ n.work
  pub answer_is : l.answer ≡ n.answer

-- The guard has these limits.
pub record HasNumbers (guard : GuardModel) (n : Numbers) : Type 0 where
  pub octets_are : guard.octets ≡ n.octets
  pub certificates_are : guard.certificates ≡ n.certificates
  pub words_are : guard.words ≡ n.words
  pub nodes_are : guard.nodes ≡ n.nodes
  pub work_is : guard.work ≡ n.work
  pub answer_is : guard.answer ≡ n.answer

-- The list is read, and the handle has its guard.
pub record IsOpened (list : List ℕ) (p : Policy) (n : Numbers) (held : Option HandleValue) (old new : List ℕ) (needed status : ℕ) : Type 0 where
  pub guard : GuardModel
  pub held_is : held ≡ Some (contents.Guard guard)
  pub list_is : HoldsList list guard.texts
  pub policy_is : guard.policy ≡ p
  pub limits_are : HasNumbers guard n
  pub unchanged : new ≡ old
  pub needed_is : needed ≡ 0
  pub status_is : status ≡ 6

-- the line of a list that is refused, or that memory ran out
abbrev pub IsListLine : List ℕ → List ℕ → Type 0
IsListLine list output = ((fault : AclFault) × IsNoAccessList list fault × (output ≡ refused_list fault)) ⊎ (output ≡ refused_memory)

-- The list is refused, or memory ran out. The line says which, and the handle is unchanged.
pub record IsUnopened {H : Type 0} (list : List ℕ) (before after : H) (old new : List ℕ) (needed status : ℕ) : Type 0 where
  pub kept : after ≡ before
  pub output : List ℕ
  pub line : IsListLine list output
  pub handed : IsHanded old new needed status 2 output

-- ---- answered

-- The answer is in the buffer.
pub record IsAnswered (query : Query) (guard : GuardModel) (q : Question) (marks : List Bool) (old new : List ℕ) (needed status : ℕ) : Type 0 where
  pub verdict : Verdict
  pub output : List ℕ
  pub answer : IsAnswerHeld query guard q marks verdict output
  pub handed : IsHanded old new needed status (status_for query verdict) output
