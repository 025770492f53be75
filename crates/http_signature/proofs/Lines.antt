-- The lines of fields.
use Rattle.std.proofs.Common.{◌≡◌, ℕ, ◌+◌, ◌<◌, List, [], ◌∷◌, ◌++◌, length, take, get_or, Bool, true, false, refl, sym, ap, ◌∙◌}
use Rattle.std.proofs.lemmas.List.{take_more}
use Rattle.std.specs.Prelude.{if◌then◌else◌}
use Rattle.http_signature.specs.{declared.request.Field.{Field}, Texts.{trimmed}, Fields.{is_named, lines_of}}

more : (b : Bool) (line : List ℕ) (lines others rest : List (List ℕ)) → lines ≡ others ++ rest
    → (if b then line ∷ lines else lines) ≡ (if b then line ∷ others else others) ++ rest
more true line lines others rest e = ap (λ xs. line ∷ xs) e
more false line lines others rest e = e

pub lines_of_append : (fields others : List Field) (name : List ℕ) → lines_of (fields ++ others) name ≡ lines_of fields name ++ lines_of others name
lines_of_append [] others name = refl
lines_of_append (field ∷ fields) others name =
    more (is_named name field) (trimmed field.value) _ (lines_of fields name) (lines_of others name) (lines_of_append fields others name)

-- the lines of one more field
pub lines_of_next : (fields : List Field) (i : ℕ) (field : Field) (name : List ℕ) (before after : List (List ℕ)) → i < length fields → field ≡ get_or fields i field
    → before ≡ lines_of (take i fields) name → after ≡ before ++ lines_of (field ∷ []) name → after ≡ lines_of (take (i + 1) fields) name
lines_of_next fields i field name before after lt is known added =
    added ∙ ap (λ (xs : List (List ℕ)). xs ++ lines_of (field ∷ []) name) known ∙ sym (lines_of_append (take i fields) (field ∷ []) name)
    ∙ ap (λ (fs : List Field). lines_of fs name) (ap (λ (f : Field). take i fields ++ f ∷ []) is ∙ sym (take_more fields i field lt))
