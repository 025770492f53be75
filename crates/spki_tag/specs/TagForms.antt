-- How the form of a tag is shown.
use Rattle.std.specs.Prelude.{◌≡◌, Option, Some, None}
use Rattle.spki_tag.specs.{Tag.{Tag, Limit, tags, star, string, prefix, range, list, set}, Limits.{ordering_of}, declared.form.TagForm.{TagForm}}
use Rattle.spki_tag.specs.declared.form.TagLimit as shown
use Rattle.spki_tag.specs.declared.form.TagForm.TheVariants as form

-- a limit as it is shown
abbrev pub limit_shown : Option shown.TagLimit → Option Limit
limit_shown None = None
limit_shown (Some limit) = Some (record { strict = limit.strict; octets = limit.octets.now })

-- what `Tag::form` returns is the form of the tag
abbrev pub IsFormOf : Tag → TagForm → Type 0
IsFormOf t form.Everything = t ≡ star
IsFormOf t (form.String octets) = t ≡ string octets.now
IsFormOf t (form.Prefix octets) = t ≡ prefix octets.now
IsFormOf t (form.Range ordering low up) = t ≡ range (ordering_of ordering) (limit_shown low) (limit_shown up)
IsFormOf t (form.List head further) = t ≡ list head.now (tags further.now)
IsFormOf t (form.Set members) = t ≡ set (tags members.now)
