-- The rounds in which components and parameters are read.
use Rattle.std.proofs.Common.{◌≡◌, ℕ, zero, suc, ◌+◌, ◌-◌, ◌<◌, List, [], ◌∷◌, ◌++◌, Some, None, Result, Ok, Err, ◌≤◌, refl, sym, ap, ◌∙◌, arith}
use Rattle.http_signature.specs.declared.{refusal.Refusal.{Refusal, TheVariants.{Malformed, ParameterTwice}}, parameters.Parameters.{Parameters}}
use Rattle.http_signature.specs.{Pieces.{after, end_of}, SignatureInput.{next_component, components_in, next_parameter, parameters_in}}

-- ---- components

pub closing : (room : ℕ) (seen : List (List ℕ)) (text rest : List ℕ) → after 41 text ≡ Some rest → components_in room seen text ≡ Ok (seen, rest)
unfolding components_in
closing zero seen text rest e = rw e refl
closing (suc room) seen text rest e = rw e refl

pub full : (seen : List (List ℕ)) (text : List ℕ) → after 41 text ≡ None → components_in 0 seen text ≡ Err Malformed
unfolding components_in
full seen text e = rw e refl

one_more : (room : ℕ) (seen : List (List ℕ)) (text name rest : List ℕ) → after 41 text ≡ None → next_component seen text ≡ Ok (name, rest)
    → components_in (suc room) seen text ≡ components_in room (seen ++ name ∷ []) rest
unfolding components_in
one_more room seen text name rest e n = rw (e, n) refl

none_more : (room : ℕ) (seen : List (List ℕ)) (text : List ℕ) (refusal : Refusal) → after 41 text ≡ None → next_component seen text ≡ Err refusal
    → components_in (suc room) seen text ≡ Err refusal
unfolding components_in
none_more room seen text refusal e n = rw (e, n) refl

pub going : (count : ℕ) (seen : List (List ℕ)) (text name rest : List ℕ) → count < 32 → after 41 text ≡ None → next_component seen text ≡ Ok (name, rest)
    → components_in (32 - count) seen text ≡ components_in (32 - (count + 1)) (seen ++ name ∷ []) rest
going count seen text name rest lt e n =
    let is : 32 - count ≡ suc (32 - (count + 1)) = omega arith in
    ap (λ (m : ℕ). components_in m seen text) is ∙ one_more (32 - (count + 1)) seen text name rest e n

pub refusing : (count : ℕ) (seen : List (List ℕ)) (text : List ℕ) (refusal : Refusal) → count < 32 → after 41 text ≡ None → next_component seen text ≡ Err refusal
    → components_in (32 - count) seen text ≡ Err refusal
refusing count seen text refusal lt e n =
    let is : 32 - count ≡ suc (32 - (count + 1)) = omega arith in
    ap (λ (m : ℕ). components_in m seen text) is ∙ none_more (32 - (count + 1)) seen text refusal e n

-- from round to round, where `whole` is the text that the rounds began with
pub closed_round : (count : ℕ) (seen : List (List ℕ)) (text whole rest : List ℕ) → components_in (32 - count) seen text ≡ components_in 32 [] whole
    → Some rest ≡ after 41 text → components_in 32 [] whole ≡ Ok (seen, rest)
closed_round count seen text whole rest e some = sym e ∙ closing (32 - count) seen text rest (sym some)

pub next_round : (count : ℕ) (seen names after_push : List (List ℕ)) (text whole name rest : List ℕ) → components_in (32 - count) seen text ≡ components_in 32 [] whole
    → count < 32 → None ≡ after 41 text → names ≡ seen → Ok (name, rest) ≡ next_component names text → after_push ≡ seen ++ name ∷ []
    → components_in (32 - (count + 1)) after_push rest ≡ components_in 32 [] whole
next_round count seen names after_push text whole name rest e lt none same next pushed =
    ap (λ (xs : List (List ℕ)). components_in (32 - (count + 1)) xs rest) pushed
    ∙ sym (going count seen text name rest lt (sym none) (ap (λ (xs : List (List ℕ)). next_component xs text) (sym same) ∙ sym next)) ∙ e

pub refused_round : (count : ℕ) (seen names : List (List ℕ)) (text whole : List ℕ) (refusal : Refusal) → components_in (32 - count) seen text ≡ components_in 32 [] whole
    → count < 32 → None ≡ after 41 text → names ≡ seen → Err refusal ≡ next_component names text → components_in 32 [] whole ≡ Err refusal
refused_round count seen names text whole refusal e lt none same next =
    sym e ∙ refusing count seen text refusal lt (sym none) (ap (λ (xs : List (List ℕ)). next_component xs text) (sym same) ∙ sym next)

pub last_round : (count : ℕ) (seen : List (List ℕ)) (text whole : List ℕ) → components_in (32 - count) seen text ≡ components_in 32 [] whole → 32 ≤ count
    → components_in 0 seen text ≡ components_in 32 [] whole
last_round count seen text whole e le = let is : 0 ≡ 32 - count = omega arith in ap (λ (m : ℕ). components_in m seen text) is ∙ e

-- ---- parameters

pub too_many : (p : Parameters) (text : List ℕ) → parameters_in 0 p text ≡ Err ParameterTwice
unfolding parameters_in
too_many p text = refl

pub last_parameter : (count : ℕ) (p : Parameters) (text : List ℕ) (whole : Result Parameters Refusal) → parameters_in (7 - count) p text ≡ whole → 7 ≤ count
    → Err ParameterTwice ≡ whole
last_parameter count p text whole e le =
    let is : 0 ≡ 7 - count = omega arith in sym (too_many p text) ∙ ap (λ (m : ℕ). parameters_in m p text) is ∙ e

one_parameter : (room : ℕ) (p q : Parameters) (text rest behind : List ℕ) → after 59 text ≡ Some rest → next_parameter p rest ≡ Ok (q, behind)
    → parameters_in (suc room) p text ≡ parameters_in room q behind
unfolding parameters_in
one_parameter room p q text rest behind e n = rw (e, n) refl

no_parameter : (room : ℕ) (p : Parameters) (text rest : List ℕ) (refusal : Refusal) → after 59 text ≡ Some rest → next_parameter p rest ≡ Err refusal
    → parameters_in (suc room) p text ≡ Err refusal
unfolding parameters_in
no_parameter room p text rest refusal e n = rw (e, n) refl

at_end : (room : ℕ) (p : Parameters) (text : List ℕ) → after 59 text ≡ None → parameters_in (suc room) p text ≡ end_of p text
unfolding parameters_in
at_end room p text e = rw e refl

pub parameter_going : (count : ℕ) (p q : Parameters) (text rest behind : List ℕ) → count < 7 → after 59 text ≡ Some rest → next_parameter p rest ≡ Ok (q, behind)
    → parameters_in (7 - count) p text ≡ parameters_in (7 - (count + 1)) q behind
parameter_going count p q text rest behind lt e n =
    let is : 7 - count ≡ suc (7 - (count + 1)) = omega arith in
    ap (λ (m : ℕ). parameters_in m p text) is ∙ one_parameter (7 - (count + 1)) p q text rest behind e n

pub parameter_refusing : (count : ℕ) (p : Parameters) (text rest : List ℕ) (refusal : Refusal) → count < 7 → after 59 text ≡ Some rest → next_parameter p rest ≡ Err refusal
    → parameters_in (7 - count) p text ≡ Err refusal
parameter_refusing count p text rest refusal lt e n =
    let is : 7 - count ≡ suc (7 - (count + 1)) = omega arith in
    ap (λ (m : ℕ). parameters_in m p text) is ∙ no_parameter (7 - (count + 1)) p text rest refusal e n

pub parameter_end : (count : ℕ) (p : Parameters) (text : List ℕ) → count < 7 → after 59 text ≡ None → parameters_in (7 - count) p text ≡ end_of p text
parameter_end count p text lt e =
    let is : 7 - count ≡ suc (7 - (count + 1)) = omega arith in
    ap (λ (m : ℕ). parameters_in m p text) is ∙ at_end (7 - (count + 1)) p text e
