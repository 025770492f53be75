-- Questions of a C program: their parts, also if there is no memory for the strings, and the status of an answer.
use Rattle.std.proofs.Common.{◌≡◌, ◌⊎◌, ℕ, List, [], ◌∷◌, Bool, Some, slice_get, refl, sym, ap, ◌∙◌, subst, inl, inr, rules, map, true, false, Bor}
use Rattle.std.specs.Prelude.{ℤ}
use Rattle.spki_service.specs.{AccessLists.{GuardModel}, declared.question.{Question.{Question}, RequestInput.{RequestInput}, Moment.{Moment}}}
use Rattle.spki_guard.specs.declared.{answers.Verdict.{Verdict, TheVariants.{Refused}}, queries.Query.{Query, TheVariants.{Decide, Explain, Reduce}}}
use Rattle.spki_guard.specs.{HeldQuestions.{IsAnswerHeld}, Lines.{refused_memory}}
use Rattle.spki_c.specs.{Guards.{query_number, status_for, IsAnswered}, Results.{IsHanded}, declared.parts.Parts.{Parts}}
use Rattle.spki_c.specs.Asking.{IsQuestionBy, IsRequestBy, IsMomentBy}
use Rattle.spki_service.specs.declared.question.RequestInput.TheVariants as wanted
use Rattle.spki_service.specs.declared.question.Moment.TheVariants as moments

-- ---- the answer to a question has the status of its query

abbrev all : List Query
all = Decide ∷ Decide ∷ Decide ∷ Decide ∷ Reduce ∷ Decide ∷ Explain ∷ []

at_number : (w : Query) → slice_get all (query_number w) ≡ Some w
at_number Decide = refl
at_number w = refl

one_query : (v w : Query) → query_number v ≡ query_number w → v ≡ w
one_query v w e = search (rules, at_number, slice_get, all)

module _ (w v : Query) (n : ℕ) (e : n ≡ query_number w) (f : n ≡ query_number v) where
  pub answered : (guard held : GuardModel) (q : Question) (marks taken : List Bool) (verdict : Verdict) (output old new : List ℕ) (needed status given : ℕ)
      → held ≡ guard → taken ≡ marks → IsAnswerHeld v held q taken verdict output → given ≡ status_for v verdict
      → IsHanded old new needed status given output → IsAnswered w guard q marks old new needed status
  answered guard held q marks taken verdict output old new needed status given g m answer number handed =
      let same : v ≡ w = one_query v w (sym f ∙ e) in
      record {
        verdict = verdict;
        output = output;
        answer = subst (λ (u : Query). IsAnswerHeld u guard q marks verdict output) same
            (subst (λ (h : GuardModel). IsAnswerHeld v h q marks verdict output) g (subst (λ (t : List Bool). IsAnswerHeld v held q t verdict output) m answer));
        handed = subst (λ (s : ℕ). IsHanded old new needed status s output) (number ∙ ap (λ u. status_for u verdict) same) handed;
      }

-- ---- the parts of a question are those of a question, also where there is no memory for its strings

lent : {X : Type 0} → X → Bor X
lent x = record { ref_ptr = (0, 0); now = x }

all_lent : (words : List (List ℕ)) → map (λ (w : Bor (List ℕ)). w.now) (map lent words) ≡ words
unfolding lent
all_lent [] = refl
all_lent (w ∷ words) = ap (λ (ws : List (List ℕ)). w ∷ ws) (all_lent words)

request_by : Bool → List ℕ → List (List ℕ) → RequestInput
request_by true text words = wanted.Words (lent (map lent words))
request_by false text words = wanted.Text (lent text)

is_request_by : (is_worded : Bool) (text : List ℕ) (words : List (List ℕ)) → IsRequestBy is_worded text words (request_by is_worded text words)
unfolding lent request_by
is_request_by true text words = (refl, all_lent words)
is_request_by false text words = (refl, refl)

moment_by : List ℕ → List ℤ → Moment
moment_by text [] = moments.Text (lent text)
moment_by text (first ∷ others) = moments.Seconds first

is_moment_by : (text : List ℕ) (seconds : List ℤ) → IsMomentBy text seconds (moment_by text seconds)
unfolding lent moment_by
is_moment_by text [] = refl
is_moment_by text (first ∷ others) = refl

module _ (parts : Parts) (words : List (List ℕ)) (seconds : List ℤ) where
  pub question_by : Question
  question_by = record {
    sequence = lent parts.sequence.octets;
    key = lent parts.key.octets;
    request = request_by parts.is_worded parts.request.octets words;
    moment = moment_by parts.moment.octets seconds;
  }

  pub is_question_by : IsQuestionBy parts words seconds question_by
  unfolding lent question_by
  is_question_by = record {
    sequence_is = refl;
    key_is = refl;
    request_is = is_request_by parts.is_worded parts.request.octets words;
    moment_is = is_moment_by parts.moment.octets seconds;
  }

pub one_line : {output line : List ℕ} → (output ≡ line) ⊎ (output ≡ line) → output ≡ line
one_line (inl e) = e
one_line (inr e) = e
