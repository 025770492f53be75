-- Texts of values in canonical form, and why a text in any of the three forms has none.
use Rattle.std.specs.Prelude.{◌≡◌, ◌≢◌, ◌⊎◌, ◌↔◌, ◌<◌, ℕ, List, length, Result, Ok, Err}
use Rattle.sexpr_core.specs.{declared.fault.FormFault.{FormFault}, Value.{Value, canon, IsWithinLimits}}
use Rattle.sexpr_text.specs.{AdvancedForm.{IsTextWithin}, Refusal.{RefusesText}}
use Rattle.sexpr_text.specs.declared.canonical_text.{HeldText.{HeldText, TheVariants.{Given, Made, Malformed}}, OpenText.{OpenText}}
use Rattle.sexpr_core.specs.declared.fault.FormFault.TheVariants as form
use Rattle.sexpr_text.specs.declared.canonical_text.OpenText.TheVariants as open_texts

-- ---- why a text has no canonical text

-- The text spells and braces no value within the limits, and this is its fault. The fault is TooLong exactly if the text has more
-- than 1,048,576 octets.
pub record RefusesForm (text : List ℕ) (fault : FormFault) : Type 0 where
  pub found : fault ≢ form.Memory
  pub none : (v : Value) → ¬ IsTextWithin text v
  pub long : (fault ≡ form.TooLong) ↔ (1048576 < length text)
  pub refused : RefusesText text fault

-- A value is meant whose canonical form has more than 1,048,576 octets, and the fault is TooLong.
pub record IsOverlong (means : Value → Type 0) (fault : FormFault) : Type 0 where
  pub value : Value
  pub meant : means value
  pub long : 1048576 < length (canon value)
  pub named : fault ≡ form.TooLong

-- No value that is meant is read, and this is the fault: that of a text, or a value is meant that is too long.
abbrev pub LacksForm : (means : Value → Type 0) → (refuses : FormFault → Type 0) → FormFault → Type 0
LacksForm means refuses fault = refuses fault ⊎ IsOverlong means fault

-- ---- what a text is read as

-- The octets are the canonical text, within the limits, of a value that is meant. Or no such value is read, and this is the fault.
abbrev pub IsReadAs : (means : Value → Type 0) → (refuses : FormFault → Type 0) → Result (List ℕ) FormFault → Type 0
IsReadAs means refuses (Ok octets) = (v : Value) × means v × IsWithinLimits v × (octets ≡ canon v)
IsReadAs means refuses (Err fault) = LacksForm means refuses fault

-- the canonical octets that are contained, or the fault
abbrev pub held_text : HeldText → Result (List ℕ) FormFault
held_text (Given document) = Ok (canon document)
held_text (Made octets) = Ok octets.items
held_text (Malformed fault) = Err fault

-- the value of a document
abbrev pub opened_value : OpenText → Value
opened_value (open_texts.Given document) = document.now
opened_value (open_texts.Opened document) = document
