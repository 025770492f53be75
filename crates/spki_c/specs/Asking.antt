-- Questions of a C program: the texts that it lends, what it receives, and the signatures that it reads.
use Rattle.std.specs.{Prelude.{◌≡◌, List, length, All, ◌≢◌, ◌⊎◌, ℕ, ℤ, [], ◌∷◌, map, Bool, true, false, Option, Some, None}, Borrow.{Bor}}
use Rattle.spki_c.specs.declared.{handle_value.HandleValue.{HandleValue}, text.Text.{Text}, parts.Parts.{Parts}}
use Rattle.spki_c.specs.declared.signatures.SignatureTexts.{SignatureTexts}
use Rattle.spki_c.specs.{Results.{IsHanded}, Strings.{octets_of}}
use Rattle.spki_service.specs.declared.owned_question.OwnedQuestion.{OwnedQuestion}
use Rattle.spki_service.specs.declared.question.{Question.{Question}, RequestInput.{RequestInput}, Moment.{Moment}}
use Rattle.spki_service.specs.{AccessLists.{GuardModel}, GuardQuestions.{IsOpened, NoneMarked}}
use Rattle.spki_guard.specs.{declared.answers.Verdict.{Verdict}, HeldQuestions.{IsUnreadQuestion}}
use Rattle.sexpr_core.specs.Value.{Value, canon, IsWithinLimits}
use Rattle.spki_decision.specs.CertificateTests.{Signed}
use Rattle.spki_c.specs.declared.handle_value.HandleValue.TheVariants as contents
use Rattle.spki_service.specs.declared.question.RequestInput.TheVariants as wanted
use Rattle.spki_service.specs.declared.question.Moment.TheVariants as moments

-- ---- texts that are lent whole

-- As many octets are lent as the count says: no null pointer has a count, and no count is more than memory can have.
abbrev pub IsLent : Text → Type 0
IsLent t = length t.octets ≡ t.count

-- The texts of a question are lent whole.
abbrev pub AreLent : Parts → List Text → Type 0
AreLent parts words =
    IsLent parts.sequence × IsLent parts.key × IsLent parts.request × IsLent parts.moment × All IsLent words

-- ---- the question of parts

-- a moment is given both as a text and in seconds
abbrev pub HasBothMoments : List ℕ → List ℤ → Type 0
HasBothMoments text seconds = (seconds ≢ []) × (text ≢ [])

-- a request is given both by its strings and as a text, or a moment both in seconds and as a text
abbrev pub IsAmbiguous : Parts → List ℤ → Type 0
IsAmbiguous parts seconds =
    ((parts.is_worded ≡ true) × (parts.request.octets ≢ [])) ⊎ HasBothMoments parts.moment.octets seconds

-- the request: its strings if it is given by them, and otherwise its text
abbrev pub IsRequestBy : Bool → List ℕ → List (List ℕ) → RequestInput → Type 0
IsRequestBy is_worded text words (wanted.Text octets) = (is_worded ≡ false) × (octets.now ≡ text)
IsRequestBy is_worded text words (wanted.Words strings) = (is_worded ≡ true) × (map (λ w. w.now) strings.now ≡ words)

-- the moment: the first of the seconds, or the text if there are none
abbrev pub IsMomentBy : List ℕ → List ℤ → Moment → Type 0
IsMomentBy text [] (moments.Text octets) = octets.now ≡ text
IsMomentBy text [] (moments.Seconds n) = ⊥
IsMomentBy text (first ∷ others) (moments.Text octets) = ⊥
IsMomentBy text (first ∷ others) (moments.Seconds n) = n ≡ first

-- The question has these texts as its parts; its request is the text or the strings, and its moment the text or the seconds.
pub record IsQuestionBy (parts : Parts) (words : List (List ℕ)) (seconds : List ℤ) (q : Question) : Type 0 where
  pub sequence_is : q.sequence.now ≡ parts.sequence.octets
  pub key_is : q.key.now ≡ parts.key.octets
  pub request_is : IsRequestBy parts.is_worded parts.request.octets words q.request
  pub moment_is : IsMomentBy parts.moment.octets seconds q.moment

abbrev pub IsQuestionOf : Parts → List Text → List ℤ → Question → Type 0
IsQuestionOf parts words seconds q = IsQuestionBy parts (map (λ t. t.octets) words) seconds q

-- ---- opened

-- The question is read, and the handle has it.
pub record IsHeldQuestion (guard : GuardModel) (q : Question) (held : Option HandleValue) (old new : List ℕ) (needed status : ℕ) : Type 0 where
  pub question : OwnedQuestion
  pub held_is : held ≡ Some (contents.Question question)
  pub opened : IsOpened guard q question
  pub unmarked : NoneMarked question.marks.items
  pub unchanged : new ≡ old
  pub needed_is : needed ≡ 0
  pub status_is : status ≡ 6

-- The question is refused, or memory ran out. The line says which, and the handle is unchanged.
pub record IsUnheld {H : Type 0} (guard : GuardModel) (q : Question) (before after : H) (old new : List ℕ) (needed status : ℕ) : Type 0 where
  pub kept : after ≡ before
  pub verdict : Verdict
  pub output : List ℕ
  pub unread : IsUnreadQuestion guard q verdict output
  pub handed : IsHanded old new needed status 2 output

-- ---- the texts of a signature that a verifier is asked about, as C reads them

-- the octets that are returned, if there are any
abbrev pub octets_in : Option (Bor (List ℕ)) → Option (List ℕ)
octets_in None = None
octets_in (Some octets) = Some octets.now

-- if the text is that of a value, these are the octets of the value if it is one string, and None otherwise
abbrev pub IsStringOf : List ℕ → Option (Bor (List ℕ)) → Type 0
IsStringOf text found = (v : Value) → IsWithinLimits v → text ≡ canon v → octets_in found ≡ octets_of v

-- the octets and the flag `is_string` that C reads: those of a string, or no octets and false
abbrev pub AreOctets : Option (List ℕ) → List ℕ → Bool → Type 0
AreOctets (Some octets) found is_string = (found ≡ octets) × (is_string ≡ true)
AreOctets None found is_string = (found ≡ []) × (is_string ≡ false)

-- The texts are those of the signature.
pub record IsSignature (s : Signed) (t : SignatureTexts) : Type 0 where
  pub key_is : t.key.now ≡ s.key
  pub message_is : t.message.now ≡ s.message
  pub value_is : t.value.now ≡ s.value
  pub octets_are : (v : Value) → IsWithinLimits v → s.value ≡ canon v → AreOctets (octets_of v) t.octets.now t.is_string
