-- The signature base.
use Rattle.std.proofs.Common.{◌≡◌, ℕ, List, [], ◌∷◌, ◌++◌, true, Result, Ok, Err, refl, ap, ◌∙◌, append_assoc, sym}
use Rattle.std.specs.Prelude.{codes, Bool, if◌then◌else◌}
use Rattle.http_signature.specs.declared.{refusal.Refusal.{Refusal, TheVariants.{BadMethod, BadTarget, Malformed}}, request.Request.{Request}}
use Rattle.http_signature.specs.{Readings.{◌>>=◌}, Characters.{is_token, is_target, is_value}, Base.{component_lines, parameters_line, signature_base}}

under : (a b c : Bool) (lines : Result (List ℕ) Refusal) (text parameters : List ℕ) → a ≡ true → b ≡ true → c ≡ true → lines ≡ Ok text
    → (if a then (if b then (if c then lines >>= (λ t. Ok (t ++ parameters_line parameters)) else Err Malformed) else Err BadTarget) else Err BadMethod)
    ≡ Ok (text ++ parameters_line parameters)
under a b c lines text parameters ea eb ec e = rw (ea, eb, ec, e) refl

-- the last line behind the others, in two pieces
pub base_is : (r : Request) (names : List (List ℕ)) (parameters text : List ℕ) → is_token r.method ≡ true → is_target r.target ≡ true → is_value parameters ≡ true
    → component_lines r names [] ≡ Ok text
    → signature_base r names parameters ≡ Ok ((text ++ ((34 ∷ []) ++ codes "@signature-params" ++ (34 ∷ 58 ∷ 32 ∷ []))) ++ parameters)
base_is r names parameters text token target value e =
    under (is_token r.method) (is_target r.target) (is_value parameters) (component_lines r names []) text parameters token target value e
    ∙ ap Ok (sym (append_assoc text ((34 ∷ []) ++ codes "@signature-params" ++ (34 ∷ 58 ∷ 32 ∷ [])) parameters))
