-- The program: the exit statuses, and the result for a command line, for what is read and for what is written.
use Rattle.std.specs.Prelude.{ℕ, ◌≡◌, ◌≢◌, ◌⊎◌, ◌≤◌, List, [], ◌∷◌, ◌++◌, length, codes, string_bytes, Option, Some, Result, Ok, Err, IfOk, MatchResult, IsTrue, false}
use Rattle.std.specs.declared.io.ErrorKind.{ErrorKind, TheVariants.{InvalidData}}
use Rattle.spki_guard.specs.declared.{answers.Verdict.{Verdict}, statuses.Status.{Status, TheVariants.{Answered, ReadFault, WriteFault}}}
use Rattle.spki_guard.specs.{Lines.{refused_memory}, TextAnswers.{IsReply, IsFaulty, IsWritten, IsCutOff}}
use Rattle.metered_io.specs.{declared.meters.Metered.{Metered}, MeteredCalls.{inner_of, asks_of, faults_of, ended_of, flushed_of, IsReset, Gives, GivesNone, TakesNone}}
use Rattle.spki_words.specs.{declared.{commands.Command.{Command}, words.WordsFault.{WordsFault}}, Words.{word_of, subcommand_in, IsFaultOf}}
use Rattle.spki_guard.specs.declared.answers.Verdict.TheVariants as verdict
use Rattle.spki_words.specs.declared.words.WordsFault.TheVariants as words
use Rattle.spki_words.specs.Words as of_words

-- ---- how a run ends, and the exit statuses

-- the exit status
abbrev pub exit_code : Status → ℕ
exit_code (Answered verdict.Done) = 0
exit_code (Answered verdict.No) = 1
exit_code (Answered verdict.Refused) = 2
exit_code ReadFault = 3
exit_code WriteFault = 3

-- ---- the command that the words of a command line ask for

-- The result for the words: the subcommand that `clap` finds in them, or a fault that it finds. The program's name and the
-- word of a command give that command, unless memory ran out.
pub record IsAskedCommand (list : List (List ℕ)) (asked : Result Command WordsFault) : Type 0 where
  pub named : IfOk asked (λ c. subcommand_in list ≡ Some (word_of c))
  pub taken : (program : List ℕ) (c : Command) → list ≡ program ∷ word_of c ∷ [] → (asked ≡ Ok c) ⊎ (asked ≡ Err words.Memory)
  pub faults : MatchResult asked (λ _. of_words.faults_of list ≡ []) (IsFaultOf list)

-- the fault is that the words are not UTF-8, or that memory ran out
abbrev pub IsNoText : WordsFault → Type 0
IsNoText (words.Refused text) = string_bytes text ≡ codes "error: the words aren't UTF-8" ++ 10 ∷ []
IsNoText (words.Help text) = ⊥
IsNoText words.Memory = Unit {0}

-- If the words cannot be read there is no command: they are not UTF-8, or memory ran out.
pub record AreUnreadWords (kind : ErrorKind) (fault : WordsFault) : Type 0 where
  pub no_text : kind ≡ InvalidData → IsNoText fault
  pub other : kind ≢ InvalidData → fault ≡ words.Memory

-- what is asked if the words could not be read from the system: a fault, and no command
abbrev pub IsUnasked : ErrorKind → Result Command WordsFault → Type 0
IsUnasked kind asked = MatchResult asked (λ _. ⊥) (AreUnreadWords kind)

-- ---- messages, and streams that are not used

-- The writer accepted all the octets and a flush, or failed after a beginning of them and no flush succeeded. Its counts were reset before the
-- first call.
abbrev pub IsSaid : {W : Type 0} → (W → Option (List ℕ)) → Metered W → Metered W → List ℕ → Type 0
IsSaid contents old new octets =
    IsReset old new × (IsWritten contents old new octets ⊎ (IsCutOff contents old new octets × (flushed_of new ≡ false)))

-- the counts of the writer were reset, it was not called, and accepted nothing
pub record IsSilent {W : Type 0} (contents : W → Option (List ℕ)) (old new : Metered W) : Type 0 where
  pub reset : IsReset old new
  pub unasked : asks_of new ≡ 0
  pub nothing : TakesNone contents old new

-- the counts of the reader were reset, it was not called, and returned nothing
pub record IsUntouched {R : Type 0} (remaining : R → Option (List ℕ)) (old new : Metered R) : Type 0 where
  pub reset : IsReset old new
  pub unasked : asks_of new ≡ 0
  pub nothing : GivesNone remaining old new

-- what a run writes to standard error: why it was cut off, otherwise nothing
abbrev pub IsReported : {E : Type 0} → (E → Option (List ℕ)) → Metered E → Metered E → Status → Type 0
IsReported contents old new (Answered verdict) = IsSilent contents old new
IsReported contents old new ReadFault = IsSaid contents old new (codes "spki: read fault" ++ 10 ∷ [])
IsReported contents old new WriteFault = IsSaid contents old new (codes "spki: write fault" ++ 10 ∷ [])

-- What is written if there is no command. The text goes to standard error. If memory ran out, the line that says so goes
-- to standard output.
abbrev pub IsRefused : {W E : Type 0} → (W → Option (List ℕ)) → (E → Option (List ℕ)) → Metered W → Metered W → Metered E → Metered E
    → WordsFault → Type 0
IsRefused contents lines old new before after (words.Refused text) = IsSilent contents old new × IsSaid lines before after (string_bytes text)
IsRefused contents lines old new before after (words.Help text) = IsSilent contents old new × IsSaid lines before after (string_bytes text)
IsRefused contents lines old new before after words.Memory = IsSaid contents old new refused_memory × IsSilent lines before after

-- ---- the run of a command, and of the whole program

-- A command was run, from what was read to what was written, with this status. These are the promises of `run`.
pub record IsCommandRun {R W : Type 0} (remaining : R → Option (List ℕ)) (contents : W → Option (List ℕ)) (command : Command)
    (reader read : Metered R) (writer written_to : Metered W) (status : Status) : Type 0 where
  pub reset : IsReset reader read × IsReset writer written_to
  pub reader_asks : asks_of read ≤ 2097152
  pub no_more : (octets : List ℕ) × (length octets ≤ 1048577) × Gives remaining reader read octets
  pub ended_at_done : status ≡ Answered verdict.Done → IsTrue (ended_of read)
  pub ended_at_no : status ≡ Answered verdict.No → IsTrue (ended_of read)
  pub read_fault : status ≡ ReadFault → IsFaulty read 2097152 × (ended_of read ≡ false)
  pub no_read_fault : (status ≡ ReadFault) ⊎ (faults_of read ≡ 0)
  pub no_write_fault : (status ≡ WriteFault) ⊎ (faults_of written_to ≡ 0)
  pub unflushed : status ≡ WriteFault → flushed_of written_to ≡ false
  pub unwritten : status ≡ ReadFault → (asks_of written_to ≡ 0) × TakesNone contents writer written_to
  pub written : (verdict : Verdict) → status ≡ Answered verdict → (output : List ℕ)
      × IsReply command (remaining (inner_of reader)) (remaining (inner_of read)) (ended_of read) verdict output
      × IsWritten contents writer written_to output
  pub write_fault : status ≡ WriteFault → (verdict : Verdict) × (output : List ℕ)
      × IsReply command (remaining (inner_of reader)) (remaining (inner_of read)) (ended_of read) verdict output
      × IsCutOff contents writer written_to output

-- The command was run, the exit status is the one of its end, and standard error says why it was cut off.
pub record DoesCommand {R W E : Type 0} (remaining : R → Option (List ℕ)) (contents : W → Option (List ℕ)) (lines : E → Option (List ℕ))
    (reader read : Metered R) (writer written_to : Metered W) (errors said : Metered E) (exit : ℕ) (command : Command) : Type 0 where
  pub status : Status
  pub run : IsCommandRun remaining contents command reader read writer written_to status
  pub reported : IsReported lines errors said status
  pub exit_is : exit ≡ exit_code status

-- There is no command: nothing was read, the fault was written, and the exit status is that of the fault.
pub record SaysFault {R W E : Type 0} (remaining : R → Option (List ℕ)) (contents : W → Option (List ℕ)) (lines : E → Option (List ℕ))
    (reader read : Metered R) (writer written_to : Metered W) (errors said : Metered E) (exit : ℕ) (fault : WordsFault) : Type 0 where
  pub unread : IsUntouched remaining reader read
  pub refused : IsRefused contents lines writer written_to errors said fault
  pub exit_is : exit ≡ of_words.code_of fault
