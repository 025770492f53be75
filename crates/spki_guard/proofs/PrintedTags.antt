-- Tags in advanced form, member by member.
use Rattle.std.proofs.Common.{◌≡◌, ℕ, suc, ◌+◌, ◌<◌, List, [], ◌∷◌, ◌++◌, Option, length, map, take, get_or, refl, sym, ap, ◌∙◌, append_assoc, append-nil, arith, rules}
use Rattle.std.proofs.lemmas.List.{take_more, map-append}
use Rattle.std.specs.Prelude.{codes}
use Rattle.sexpr_core.specs.Value.{Value, plain, values}
use Rattle.sexpr_text.{specs.AdvancedForm.{printed_string, adv, adv_all}, proofs.Printed.{adv_all-append, past_first}}
use Rattle.spki_tag.proofs.TagReading.{tag_values-tags}
use Rattle.spki_tag.specs.Tag.{Tag, Limit, Ordering, tags, star, prefix, range, list, set, ordering_name, limit_values, tag_value, tag_values}

-- members with a space before each
abbrev pub spaced : List Value → List ℕ
spaced vs = adv_all 1 (values vs)

pub spaced_append : (xs ys : List Value) → spaced (xs ++ ys) ≡ spaced xs ++ spaced ys
spaced_append xs ys =
    let one : 1 + length xs ≡ suc (length xs) = omega arith in
    adv_all-append 1 xs ys ∙ ap (λ n. spaced xs ++ adv_all n (values ys)) one ∙ ap (λ s. spaced xs ++ s) (past_first (length xs) (values ys))

pub spaced_one : (v : Value) → spaced (v ∷ []) ≡ 32 ∷ adv v
spaced_one v = ap (λ s. 32 ∷ s) (append-nil (adv v))

pub each_behind : {A : Type 0} (f : A → Value) (xs : List A) (k : ℕ) (x : A) → k < length xs → x ≡ get_or xs k x
    → (spaced (map f (take k xs)) ++ 32 ∷ []) ++ adv (f x) ≡ spaced (map f (take (k + 1) xs))
each_behind f xs k x lt at =
    let before = map f (take k xs) in
    append_assoc (spaced before) (32 ∷ []) (adv (f x)) ∙ ap (λ s. spaced before ++ s) (sym (spaced_one (f x))) ∙ sym (spaced_append before (f x ∷ []))
    ∙ ap spaced (sym (map-append f (take k xs) (x ∷ [])) ∙ ap (map f) (ap (λ y. take k xs ++ y ∷ []) at ∙ sym (take_more xs k x lt)))

-- ---- tags

-- tags with a space before each
abbrev spaced_tags : List Tag → List ℕ
spaced_tags ts = adv_all 1 (tag_values (tags ts))

tags_spaced : (ts : List Tag) → spaced_tags ts ≡ spaced (map tag_value ts)
tags_spaced ts = ap (adv_all 1) (tag_values-tags ts)

pub member_behind : (ts : List Tag) (k : ℕ) (t : Tag) → k < length ts → t ≡ get_or ts k t
    → (spaced_tags (take k ts) ++ 32 ∷ []) ++ adv (tag_value t) ≡ spaced_tags (take (k + 1) ts)
member_behind ts k t lt at =
    ap (λ s. (s ++ 32 ∷ []) ++ adv (tag_value t)) (tags_spaced (take k ts)) ∙ each_behind tag_value ts k t lt at ∙ sym (tags_spaced (take (k + 1) ts))

pub star_whole : codes "(*)" ≡ adv (tag_value star)
unfolding printed_string
star_whole = refl

pub prefix_whole : (octets : List ℕ) → (codes "(* prefix " ++ printed_string octets) ++ 41 ∷ [] ≡ adv (tag_value (prefix octets))
unfolding printed_string
prefix_whole octets = search (rules, append_assoc)

pub word_whole : (octets : List ℕ) → (32 ∷ []) ++ printed_string octets ≡ spaced (plain octets ∷ [])
word_whole octets = ap (λ s. 32 ∷ s) (sym (append-nil (printed_string octets)))

pub limit_whole : (word octets : List ℕ) → spaced (plain word ∷ []) ++ spaced (plain octets ∷ []) ≡ spaced (plain word ∷ plain octets ∷ [])
limit_whole word octets = sym (spaced_append (plain word ∷ []) (plain octets ∷ []))

pub range_whole : (ordering : Ordering) (low up : Option Limit)
    → (((codes "(* range " ++ printed_string (ordering_name ordering)) ++ spaced (limit_values (codes "g") (codes "ge") low))
    ++ spaced (limit_values (codes "l") (codes "le") up)) ++ 41 ∷ [] ≡ adv (tag_value (range ordering low up))
unfolding printed_string
range_whole ordering low up = search (rules, append_assoc, spaced_append, past_first 2)

pub list_whole : (tag : Tag) (head : List ℕ) (ts : List Tag) → tag ≡ list head (tags ts)
    → (((40 ∷ []) ++ printed_string head) ++ spaced_tags ts) ++ 41 ∷ [] ≡ adv (tag_value tag)
list_whole tag head ts is = rw is (search rules)

pub set_whole : (tag : Tag) (ts : List Tag) → tag ≡ set (tags ts) → (codes "(* set" ++ spaced_tags ts) ++ 41 ∷ [] ≡ adv (tag_value tag)
unfolding printed_string
set_whole tag ts is = rw is (search (rules, append_assoc, past_first 1 (tag_values (tags ts))))
