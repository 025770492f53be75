-- The signature base (RFC 9421, section 2.5).
use Rattle.std.specs.Prelude.{ℕ, List, [], ◌∷◌, ◌++◌, Result, Ok, Err, codes, if◌then◌else◌}
use Rattle.http_signature.specs.declared.{refusal.Refusal.{Refusal, TheVariants.{BadMethod, BadTarget, Malformed}}, request.Request.{Request}}
use Rattle.http_signature.specs.{Readings.{◌>>=◌}, Characters.{is_token, is_target, is_value}, Components.{component_value}}

-- the line of a component: its name in quotes, a colon, a space, its value, and the end of the line
abbrev pub component_line : List ℕ → List ℕ → List ℕ
component_line name value = (34 ∷ []) ++ name ++ (34 ∷ 58 ∷ 32 ∷ []) ++ value ++ (10 ∷ [])

-- a text with the lines of components behind it, in order
abbrev pub component_lines : Request → List (List ℕ) → List ℕ → Result (List ℕ) Refusal
component_lines r [] text = Ok text
component_lines r (name ∷ names) text = component_value r name >>= (λ value. component_lines r names (text ++ component_line name value))

-- the last line, `"@signature-params": ..`, which has no end
abbrev pub parameters_line : List ℕ → List ℕ
parameters_line parameters = (34 ∷ []) ++ codes "@signature-params" ++ (34 ∷ 58 ∷ 32 ∷ []) ++ parameters

abbrev pub signature_base : Request → List (List ℕ) → List ℕ → Result (List ℕ) Refusal
signature_base r names parameters =
    if is_token r.method then (
    if is_target r.target then (
    if is_value parameters then component_lines r names [] >>= (λ text. Ok (text ++ parameters_line parameters)) else Err Malformed
    ) else Err BadTarget
    ) else Err BadMethod
