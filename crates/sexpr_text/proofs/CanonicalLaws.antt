-- Texts that are read in canonical form.
use Rattle.std.proofs.Common.{◌≡◌, ℕ, List, inl}
use Rattle.sexpr_core.specs.Value.{Value, canon, IsWithinLimits}
use Rattle.sexpr_text.{specs.AdvancedForm.{IsTextWithin}, proofs.Converted.{canonical_within}}

-- a canonical text spells its value
pub canonical_text : (text : List ℕ) (v : Value) → IsWithinLimits v → text ≡ canon v → IsTextWithin text v
canonical_text text v within e = inl (canonical_within text v within e)
