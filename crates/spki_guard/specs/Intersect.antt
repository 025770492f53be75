-- The intersection of two written tags (RFC 2693, section 6.3.1).
use Rattle.std.specs.Prelude.{◌≡◌, ◌≢◌, ℕ, ◌*◌, ◌<◌, ◌≤◌, max, ◌&&◌, ◌⊎◌, List, [], ◌∷◌, Some, codes}
use Rattle.sexpr_core.specs.Value.{Value}
use Rattle.spki_tag.specs.{declared.fault.{TagFault.{TagFault}, MeetFault.{MeetFault}}, Request.{Request, IsRequest}}
use Rattle.spki_tag.specs.{Tag.{Tag, IsNormalTag, contains, nodes, ldepth}, Meet.{meet}, Faults.{tag_fault}, Reading.{ReadsAs, IsNoTag}}
use Rattle.spki_case.specs.Case.{headed, IsTextOf, IsMalformed}
use Rattle.spki_guard.specs.declared.intersection.IntersectFault.{IntersectFault}
use Rattle.spki_tag.specs.declared.fault.TagFault.TheVariants as tag_faults
use Rattle.spki_tag.specs.declared.fault.MeetFault.TheVariants as meet_faults
use Rattle.spki_guard.specs.declared.intersection.IntersectFault.TheVariants as faults

-- (intersect A B)
abbrev pub intersect_value : Value → Value → Value
intersect_value a b = headed (codes "intersect") (a ∷ b ∷ [])

-- The value is (intersect A B), and the tag is the intersection of A and B. It is in normal form, and contains exactly the
-- requests that both contain. The product of the nodes of A and B is at most 1,000,000. The tag has at most as many nodes,
-- and its lists are nested no deeper.
pub record Intersects (v : Value) (c : Tag) : Type 0 where
  pub first : Value
  pub second : Value
  pub written : v ≡ intersect_value first second
  pub a : Tag
  pub b : Tag
  pub first_read : ReadsAs first a
  pub second_read : ReadsAs second b
  pub within_limit : nodes a * nodes b ≤ 1000000
  pub value : c ≡ meet a b
  pub normal : IsNormalTag c
  pub exact : (g : Request) → IsRequest g → contains c g ≡ (contains a g && contains b g)
  pub few : nodes c ≤ nodes a * nodes b
  pub shallow : ldepth c ≤ max (ldepth a) (ldepth b)

-- ---- refusals

-- the value is (intersect A B), A is no tag, and the fault is that of A
pub record NoFirst (v : Value) (fault : TagFault) : Type 0 where
  pub first : Value
  pub second : Value
  pub written : v ≡ intersect_value first second
  pub found : fault ≢ tag_faults.Memory
  pub named : tag_fault first ≡ Some fault
  pub none : IsNoTag fault first

-- the value is (intersect A B), A is a tag, B is none, and the fault is that of B
pub record NoSecond (v : Value) (fault : TagFault) : Type 0 where
  pub first : Value
  pub second : Value
  pub written : v ≡ intersect_value first second
  pub a : Tag
  pub first_read : ReadsAs first a
  pub found : fault ≢ tag_faults.Memory
  pub named : tag_fault second ≡ Some fault
  pub none : IsNoTag fault second

-- the value is (intersect A B), both are tags, and the product of their nodes is too large
pub record AreTooLarge (v : Value) : Type 0 where
  pub first : Value
  pub second : Value
  pub written : v ≡ intersect_value first second
  pub a : Tag
  pub b : Tag
  pub first_read : ReadsAs first a
  pub second_read : ReadsAs second b
  pub large : 1000000 < nodes a * nodes b

-- the fault for a refusal of the intersection itself
abbrev pub intersect_fault : MeetFault → IntersectFault
intersect_fault meet_faults.TooLarge = faults.TooLarge
intersect_fault meet_faults.Memory = faults.Memory

-- What a fault means for a value, except for Memory, in the order of the tests.
abbrev pub ValueNotMet : Value → IntersectFault → Type 0
ValueNotMet v (faults.Form fault) = ⊥
ValueNotMet v faults.Shape = (a b : Value) → v ≢ intersect_value a b
ValueNotMet v (faults.First fault) = NoFirst v fault
ValueNotMet v (faults.Second fault) = NoSecond v fault
ValueNotMet v faults.TooLarge = AreTooLarge v
ValueNotMet v faults.Memory = ⊥

-- ---- texts

-- the text is the canonical form, within the limits, of a value, and this is the intersection of its two tags
abbrev pub IsMetText : List ℕ → Tag → Type 0
IsMetText text c = IsTextOf (λ v. Intersects v c) text

-- What a fault means for a text, except for Memory. The text is no canonical form within the limits, or its value is
-- refused for the fault.
abbrev pub TextNotMet : List ℕ → IntersectFault → Type 0
TextNotMet text fault = IsMalformed faults.Form text fault ⊎ IsTextOf (λ v. ValueNotMet v fault) text
