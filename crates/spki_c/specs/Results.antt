-- What a C program receives from a call: the number of a status, the buffer, and the length of the answer.
use Rattle.std.specs.Prelude.{ℕ, ◌≡◌, ◌<◌, ◌≤◌, List, ◌++◌, length, drop}
use Rattle.spki_words.specs.declared.commands.Command.{Command, TheVariants.{Canonical, Advanced, Transport, Intersect, Reduce, Check, Explain}}
use Rattle.spki_guard.specs.declared.answers.Verdict.{Verdict, TheVariants.{Done, No, Refused}}
use Rattle.spki_guard.specs.TextAnswers.{IsAnswer, RefusesAsLong, IsAnswerApart}

-- ---- the numbers of commands and of statuses for C programs

abbrev pub number_of : Command → ℕ
number_of Canonical = 0
number_of Advanced = 1
number_of Transport = 2
number_of Intersect = 3
number_of Reduce = 4
number_of Check = 5
number_of Explain = 6

-- the status of a decision: 9 is yes
abbrev pub decided : Verdict → ℕ
decided Done = 9
decided No = 1
decided Refused = 2

-- The status of output that is no decision: neither yes nor no.
abbrev pub written : Verdict → ℕ
written Done = 6
written No = 6
written Refused = 2

-- the status of the answer to a command: only `check` answers yes or no
abbrev pub status_of : Command → Verdict → ℕ
status_of Canonical verdict = written verdict
status_of Advanced verdict = written verdict
status_of Transport verdict = written verdict
status_of Intersect verdict = written verdict
status_of Reduce verdict = written verdict
status_of Check verdict = decided verdict
status_of Explain verdict = written verdict

-- ---- what a caller receives from a call: the status, the buffer, and the length of the answer

-- The answer to a text is that of the program. For more than 1,048,576 octets it is that the text is too long.
pub record AnswersText (command : Command) (text : List ℕ) (verdict : Verdict) (output : List ℕ) : Type 0 where
  pub answer : IsAnswer command text verdict output
  pub too_long : 1048576 < length text → RefusesAsLong verdict output

-- The answer to a case with separate rows is that of these rows and no others. For a case of more than 1,048,576 octets it is that the
-- text is too long.
pub record AnswersApart (text rows : List ℕ) (verdict : Verdict) (output : List ℕ) : Type 0 where
  pub answer : IsAnswerApart text rows verdict output
  pub too_long : 1048576 < length text → RefusesAsLong verdict output

-- The answer is at the front of the buffer, the rest of the buffer is unchanged, and the status is that of the answer.
pub record IsWrittenTo (old new : List ℕ) (status answered : ℕ) (output : List ℕ) : Type 0 where
  pub written : new ≡ output ++ drop (length output) old
  pub status_is : status ≡ answered

-- The buffer is unchanged, and the status is that it is too small.
pub record IsKeptBack (old new : List ℕ) (status : ℕ) : Type 0 where
  pub unchanged : new ≡ old
  pub status_is : status ≡ 4

-- The length of the answer is returned. The answer is written, and its status returned, exactly if the buffer is large
-- enough.
pub record IsHanded (old new : List ℕ) (needed status answered : ℕ) (output : List ℕ) : Type 0 where
  pub needed_is : needed ≡ length output
  pub fits : length output ≤ length old → IsWrittenTo old new status answered output
  pub too_small : length old < length output → IsKeptBack old new status

-- There is no answer.
pub record IsMisuse (old new : List ℕ) (needed status : ℕ) : Type 0 where
  pub unchanged : new ≡ old
  pub needed_is : needed ≡ 0
  pub status_is : status ≡ 5
