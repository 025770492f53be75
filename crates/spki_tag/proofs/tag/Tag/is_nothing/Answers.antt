use Rattle.std.proofs.{Common.{◌≡◌, ◌↔◌, IsTrue, Bool, List, [], ◌∷◌, length, eqb, sym, ◌∙◌, ap, refl, arith}, lemmas.Bool.{eqb-true}}
use Rattle.spki_tag.specs.Tag as spec
use Rattle.spki_tag.proofs.tag.Tag.is_nothing.Goals as goal

is_empty : (ts : List spec.Tag) (b : Bool) → b ≡ eqb (length ts) 0 → IsTrue b ↔ (spec.set (spec.tags ts) ≡ spec.set spec.none)
is_empty [] b e = (λ _. refl, λ _. e)
is_empty (t ∷ ts) b e = (λ h. absurd (let z : length (t ∷ ts) ≡ 0 = eqb-true (length (t ∷ ts)) 0 (sym e ∙ h) in omega arith), λ h. absurd cc)

pub returns-in-Set : goal.returns-in-Set
returns-in-Set c = rw (← c.self.view_is, c.in-Set.is) (is_empty _ _ (c.is_empty.ensures ∙ ap (λ ts. eqb (length ts) 0) c.tags_in.ensures))
