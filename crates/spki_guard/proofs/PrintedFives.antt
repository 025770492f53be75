-- Authorizations in advanced form, member by member.
use Rattle.std.proofs.Common.{◌≡◌, ◌≢◌, ℕ, ◌+◌, List, [], ◌∷◌, ◌++◌, take, slice_get, Option, Some, None, refl, sym, ap, ◌∙◌, append_assoc, rules}
use Rattle.std.specs.Prelude.{codes}
use Rattle.sexpr_core.specs.Value.{Value, values, plain}
use Rattle.sexpr_text.{specs.AdvancedForm.{printed_string, adv}, proofs.Printed.{past_first}}
use Rattle.spki_tag.specs.Tag.{Tag, tag_value}
use Rattle.spki_cert.specs.{declared.window.Window.{Window}, Fields.{plains}}
use Rattle.spki_reduce.{specs.Written.{headed, named, limit_values, in_valid, window_limits}, proofs.WrittenNames.{names_more}}
use Rattle.spki_guard.proofs.PrintedTags.{spaced, spaced_append, spaced_one}

five_begins : (vs : List Value) → adv (headed (codes "five") vs) ≡ codes "(five" ++ (spaced vs ++ 41 ∷ [])
unfolding printed_string
five_begins vs = refl

-- ---- names

pub name_behind : (names : List (List ℕ)) (k : ℕ) (name octets : List ℕ) → slice_get names k ≡ Some name → octets ≡ name
    → (spaced (plains (take k names)) ++ 32 ∷ []) ++ printed_string octets ≡ spaced (plains (take (k + 1) names))
name_behind names k name octets there is =
    let before = plains (take k names) in
    append_assoc (spaced before) (32 ∷ []) (printed_string octets) ∙ ap (λ o. spaced before ++ 32 ∷ printed_string o) is
    ∙ ap (λ s. spaced before ++ s) (sym (spaced_one (plain name))) ∙ sym (spaced_append before (plain name ∷ []))
    ∙ ap spaced (names_more names k name there)

some_named : (owner : Value) (n : List ℕ) (ns : List (List ℕ))
    → ((codes "(name " ++ adv owner) ++ spaced (plains (n ∷ ns))) ++ 41 ∷ [] ≡ adv (named owner (n ∷ ns))
unfolding printed_string
some_named owner n ns = search (rules, append_assoc, past_first 1 (values (plains (n ∷ ns))))

pub named_whole : (owner : Value) (names : List (List ℕ)) → names ≢ []
    → ((codes "(name " ++ adv owner) ++ spaced (plains names)) ++ 41 ∷ [] ≡ adv (named owner names)
named_whole owner [] some = absurd (some refl)
named_whole owner (n ∷ ns) some = some_named owner n ns

-- ---- members

pub subject_whole : (v : Value) → (codes " (subject " ++ adv v) ++ 41 ∷ [] ≡ spaced (headed (codes "subject") (v ∷ []) ∷ [])
unfolding printed_string
subject_whole v = search (rules, append_assoc)

pub issuer_whole : (v : Value) → (codes " (issuer " ++ adv v) ++ 41 ∷ [] ≡ spaced (headed (codes "issuer") (v ∷ []) ∷ [])
unfolding printed_string
issuer_whole v = search (rules, append_assoc)

pub delegation_whole : codes " (propagate)" ≡ spaced (headed (codes "propagate") [] ∷ [])
unfolding printed_string
delegation_whole = refl

pub tag_whole : (tag : Tag) → (codes " (tag " ++ adv (tag_value tag)) ++ 41 ∷ [] ≡ spaced (headed (codes "tag") (tag_value tag ∷ []) ∷ [])
unfolding printed_string
tag_whole tag = search (rules, append_assoc)

pub date_whole : (word octets : List ℕ)
    → (((codes " (" ++ printed_string word) ++ 32 ∷ []) ++ printed_string octets) ++ 41 ∷ [] ≡ spaced (headed word (plain octets ∷ []) ∷ [])
date_whole word octets = search (rules, append_assoc)

some_limits : (v : Value) (vs : List Value) → (codes " (valid" ++ spaced (v ∷ vs)) ++ 41 ∷ [] ≡ spaced (headed (codes "valid") (v ∷ vs) ∷ [])
unfolding printed_string
some_limits v vs = search (rules, append_assoc)

pub window_whole : (limits : List Value) → limits ≢ [] → (codes " (valid" ++ spaced limits) ++ 41 ∷ [] ≡ spaced (in_valid limits)
window_whole [] some = absurd (some refl)
window_whole (v ∷ vs) some = some_limits v vs

from_some : (limit : Option (List ℕ)) → limit ≢ None → (others : List Value) → limit_values (codes "not-before") limit ++ others ≢ []
from_some None some others none = some refl
from_some (Some date) some others none = cc

to_some : (limit : Option (List ℕ)) → limit ≢ None → (others : List Value) → others ++ limit_values (codes "not-after") limit ≢ []
to_some None some others none = some refl
to_some (Some date) some [] none = cc
to_some (Some date) some (v ∷ vs) none = cc

pub limits_from : (w : Window) → w.not_before ≢ None → window_limits w ≢ []
limits_from w some none = from_some w.not_before some (limit_values (codes "not-after") w.not_after) none

pub limits_to : (w : Window) → w.not_after ≢ None → window_limits w ≢ []
limits_to w some none = to_some w.not_after some (limit_values (codes "not-before") w.not_before) none

pub five_whole : (issuer subject delegation behind : List Value) (tag : Value)
    → (((((codes "(five" ++ spaced issuer) ++ spaced subject) ++ spaced delegation) ++ spaced (tag ∷ [])) ++ spaced behind) ++ 41 ∷ []
    ≡ adv (headed (codes "five") (((issuer ++ subject) ++ delegation) ++ tag ∷ behind))
five_whole issuer subject delegation behind tag =
    let before = (issuer ++ subject) ++ delegation in
    let all : spaced (before ++ tag ∷ behind) ≡ spaced issuer ++ (spaced subject ++ (spaced delegation ++ (spaced (tag ∷ []) ++ spaced behind))) =
    search (rules, spaced_append, spaced_append (tag ∷ []) behind, append_assoc) in
    search (rules, five_begins, append_assoc, all)

-- ---- hashes

pub hash_whole : (alg digest : List ℕ)
    → ((((codes "(hash " ++ printed_string alg) ++ 32 ∷ []) ++ printed_string digest) ++ 41 ∷ [])
    ≡ adv (headed (codes "hash") (plain alg ∷ plain digest ∷ []))
unfolding printed_string
hash_whole alg digest = search (rules, append_assoc)
