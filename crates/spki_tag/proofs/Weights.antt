-- The weight of a tag that was read is at most the number of octets of its canonical text.
use Rattle.std.proofs.Common.{◌≡◌, ℕ, ◌+◌, ◌≤◌, List, [], ◌∷◌, ◌++◌, length, length-append, arith, Option, Some, None, codes, ap}
use Rattle.std.proofs.lemmas.Bool.{cond_both}
use Rattle.std.specs.{Prelude.{if◌then◌else◌}, List.{list_any}}
use Rattle.sexpr_core.{specs.Value.{Value, Values, plain, canon, canons, values, verbatim, decimal}, proofs.Texts.{verbatim_is}}
use Rattle.spki_tag.specs.Tag.{Tag, Tags, tags, Limit, is_star, star, string, prefix, range, list, set, none, more, tag_value, tag_values, starred, limit_values, low_values, up_values, ordering_name}
use Rattle.spki_tag.specs.{Cost.{weight, weight_all, limit_octets}, Meet.{gather, nothing, any_is_nothing, members as in_place}}
use Rattle.spki_tag.specs.Reading.{spread, normal, normals}
use Rattle.spki_tag.proofs.Exact.{tags-items}
use Rattle.sexpr_core.specs.Value as value

pub verbatim_ge : (octets : List ℕ) → 1 + length octets ≤ length (verbatim octets)
verbatim_ge octets = rw (verbatim_is octets) (omega (arith, length-append (decimal (length octets)) (58 ∷ octets)))

pub canon_list : (vs : Values) → length (canon (value.list vs)) ≡ 2 + length (canons vs)
canon_list vs = omega (arith, length-append (canons vs) (41 ∷ []))

pub canons_more : (v : Value) (vs : Values) → length (canons (value.more v vs)) ≡ length (canon v) + length (canons vs)
canons_more v vs = length-append (canon v) (canons vs)

starred_ge : (word : List ℕ) (vs : Values) → 1 + length (canons vs) ≤ length (canon (starred word vs))
starred_ge word vs =
    omega (
      arith,
      canon_list (value.more (plain (codes "*")) (value.more (plain word) vs)),
      canons_more (plain (codes "*")) (value.more (plain word) vs),
      canons_more (plain word) vs,
    )

limit_ge : (above from : List ℕ) (l : Option Limit) (vs : List Value)
    → limit_octets l + length (canons (values vs)) ≤ length (canons (values (limit_values above from l ++ vs)))
limit_ge above from None vs = omega arith
limit_ge above from (Some l) vs =
    omega (
      arith,
      canons_more (plain (if l.strict then above else from)) (values (plain l.octets ∷ vs)),
      canons_more (plain l.octets) (values vs),
      verbatim_ge l.octets,
    )

limit_last : (above from : List ℕ) (l : Option Limit)
    → limit_octets l ≤ length (canons (values (limit_values above from l)))
limit_last above from None = omega arith
limit_last above from (Some l) =
    omega (
      arith,
      canons_more (plain (if l.strict then above else from)) (values (plain l.octets ∷ [])),
      canons_more (plain l.octets) value.none,
      verbatim_ge l.octets,
    )

mutual
  pub weight_octets : (t : Tag) → weight t ≤ length (canon (tag_value t))
  weight_octets star = omega (arith, canon_list (values (plain (codes "*") ∷ [])))
  weight_octets (string octets) = verbatim_ge octets
  weight_octets (prefix octets) =
      omega (arith, starred_ge (codes "prefix") (values (plain octets ∷ [])), canons_more (plain octets) value.none, verbatim_ge octets)
  weight_octets (range ordering low up) =
      omega (
        arith,
        starred_ge (codes "range") (values (plain (ordering_name ordering) ∷ (low_values low ++ up_values up))),
        canons_more (plain (ordering_name ordering)) (values (low_values low ++ up_values up)),
        limit_ge (codes "g") (codes "ge") low (up_values up),
        limit_last (codes "l") (codes "le") up,
      )
  weight_octets (list head further) =
      omega (
        arith,
        canon_list (value.more (plain head) (tag_values further)),
        canons_more (plain head) (tag_values further),
        verbatim_ge head,
        weights_octets further,
      )
  weight_octets (set members) = omega (arith, starred_ge (codes "set") (tag_values members), weights_octets members)

  pub weights_octets : (ts : Tags) → weight_all ts ≤ length (canons (tag_values ts))
  weights_octets none = omega arith
  weights_octets (more t ts) = omega (arith, canons_more (tag_value t) (tag_values ts), weight_octets t, weights_octets ts)

-- ---- the normal form has no greater weight

in_place-weight : (t : Tag) → weight_all (tags (in_place t)) ≤ weight t
in_place-weight (set ts) = omega (arith, ap weight_all (tags-items ts))
in_place-weight t = omega arith

append-weight : (ts us : List Tag) → weight_all (tags (ts ++ us)) ≡ weight_all (tags ts) + weight_all (tags us)
append-weight [] us = omega arith
append-weight (t ∷ ts) us = omega (arith, append-weight ts us)

spread-weight : (ts : List Tag) → weight_all (tags (spread ts)) ≤ weight_all (tags ts)
spread-weight [] = omega arith
spread-weight (t ∷ ts) = omega (arith, append-weight (in_place t) (spread ts), in_place-weight t, spread-weight ts)

gather-weight : (ts : List Tag) → weight (gather ts) ≤ 1 + weight_all (tags ts)
gather-weight (t ∷ u ∷ us) = omega arith
gather-weight ts = omega arith

mutual
  pub normal_weight : (t : Tag) → weight (normal t) ≤ weight t
  normal_weight (list head further) =
      let ts = normals further in
      let fewer = normals_weight further in
      cond_both (any_is_nothing ts) nothing (list head (tags ts)) (λ u. weight u ≤ 1 + length head + weight_all further)
      (λ _. omega arith) (λ _. omega (arith, fewer))
  normal_weight (set members) =
      let ts = normals members in
      let fewer = normals_weight members in
      cond_both (list_any is_star (spread ts)) star (gather (spread ts)) (λ u. weight u ≤ 1 + weight_all members)
      (λ _. omega arith) (λ _. omega (arith, gather-weight (spread ts), spread-weight ts, fewer))
  normal_weight star = omega arith
  normal_weight (string octets) = omega arith
  normal_weight (prefix octets) = omega arith
  normal_weight (range ordering low up) = omega arith

  normals_weight : (ts : Tags) → weight_all (tags (normals ts)) ≤ weight_all ts
  normals_weight none = omega arith
  normals_weight (more t ts) = omega (arith, normal_weight t, normals_weight ts)

-- so a request is looked for in a tag that was read in at most as many steps as the text has octets
pub read_weight : (w : Tag) → weight (normal w) ≤ length (canon (tag_value w))
read_weight w = omega (arith, normal_weight w, weight_octets w)
