-- Lines of the worked examples, as the definitions compute them.
use Rattle.std.proofs.Common.{◌≡◌, [], ◌∷◌, ◌++◌, codes, refl}
use Rattle.sexpr_core.specs.{declared.fault.FormFault.TheVariants.{Short, Bad, Trailing}, Value.{decimal}}
use Rattle.spki_tag.specs.declared.fault.TagFault.TheVariants.{RangeOrdering}
use Rattle.spki_guard.specs.Lines.{yes_entry, no_line, refused_memory, refused_part, refused_item, refused_tag, refused_form, tag_kind}

first-run : yes_entry 1 ≡ codes "yes entry 1" ++ 10 ∷ []
unfolding decimal
first-run = refl

tenth-entry : yes_entry 10 ≡ codes "yes entry 10" ++ 10 ∷ []
unfolding decimal
tenth-entry = refl

shorter-request : no_line ≡ codes "no" ++ 10 ∷ []
shorter-request = refl

out-of-memory : refused_memory ≡ codes "refused Memory" ++ 10 ∷ []
out-of-memory = refl

case-short : refused_form Short ≡ codes "refused form Short" ++ 10 ∷ []
case-short = refl

bad-octet : refused_form (Bad 5) ≡ codes "refused form Bad 5" ++ 10 ∷ []
unfolding decimal
bad-octet = refl

trailing-octet : refused_form (Trailing 0) ≡ codes "refused form Trailing 0" ++ 10 ∷ []
unfolding decimal
trailing-octet = refl

case-shape : refused_part (codes "case") (codes "Shape") ≡ codes "refused case Shape" ++ 10 ∷ []
case-shape = refl

threshold : refused_item (codes "acl") 1 (codes "Threshold") ≡ codes "refused acl 1 Threshold" ++ 10 ∷ []
unfolding decimal
threshold = refl

numeric-range : refused_tag (codes "acl") 1 (tag_kind RangeOrdering) ≡ codes "refused acl 1 Tag RangeOrdering" ++ 10 ∷ []
unfolding decimal
numeric-range = refl
