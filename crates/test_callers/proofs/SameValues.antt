-- Texts and their values.
use Rattle.std.proofs.Common.{ℕ, List, inl, inr}
use Rattle.sexpr_core.specs.Value.{Value}
use Rattle.sexpr_text.specs.AdvancedForm.{IsText, IsTextWithin}

-- a text of a value within the limits is a text of this value
pub is_text : (text : List ℕ) (v : Value) → IsTextWithin text v → IsText text v
is_text text v (inl spelled) = inl spelled.spelling
is_text text v (inr braced) = inr braced.braced
