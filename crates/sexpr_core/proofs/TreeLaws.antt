-- Values and owned trees, member by member: how many nodes they have, what is appended when they are written, their
-- octets, and when two are the same.
use Rattle.std.proofs.Common.{◌≡◌, suc, ◌+◌, List, [], ◌∷◌, ◌++◌, length, ap, arith, refl, ℕ, ◌*◌, ◌/◌, ◌%◌, ◌<◌, ◌≤◌, sym, ◌∙◌, append_assoc, map, take, get_or, Vec, Global, append-nil, rules, subst, ◌↔◌, Bool, false, IsTrue}
use Rattle.std.proofs.lemmas.{List.{map-append, take_more, take_all, get_or-map}, Slice.Eq.{bytes_eq-Decides}, Bool.Decides.{same_from_decides}}
use Rattle.std.specs.Bool.{Decides}
use Rattle.sexpr_core.specs.Value.{Value, values, group, size, size_all, sexp_value, level_value, decimal, verbatim, canon, canons, HasOctets, HaveOctets, members, is_same}
use Rattle.sexpr_core.specs.declared.tree.Sexp.{Sexp, TheVariants.{List as Branch, rolls-List}, TheOpen.{List as Layer}, TheFolds.{fold-roll-Sexp}}
use Rattle.sexpr_core.specs.Nodes.{members-values}
use Rattle.sexpr_core.proofs.{Texts.{decimal_digit, decimal_more, verbatim_is, canon_one}, NodeLaws.{length-nodes_all}}

-- ---- how many nodes there are in a list's members

pub size_group : (vs : List Value) → size (group vs) ≡ suc (size_all vs)
size_group vs = ap suc (length-nodes_all (values vs) ∙ ap size_all (members-values vs))

pub size_all-append : (vs ws : List Value) → size_all (vs ++ ws) ≡ size_all vs + size_all ws
size_all-append [] ws = omega arith
size_all-append (v ∷ vs) ws = omega (arith, size_all-append vs ws)

-- ---- what is appended to the output

pub digit_written : (n : ℕ) (out new : List ℕ) → n < 10 → new ≡ out ++ (48 + n) ∷ [] → new ≡ out ++ decimal n
digit_written n out new low e = e ∙ ap (λ s. out ++ s) (sym (decimal_digit n low))

pub digits_written : (n : ℕ) (out mid new : List ℕ) → 10 ≤ n → mid ≡ out ++ decimal (n / 10) → new ≡ mid ++ (48 + n % 10) ∷ [] → new ≡ out ++ decimal n
digits_written n out mid new high e f =
    let split : n ≡ n / 10 * 10 + n % 10 = omega arith in
    let whole : decimal n ≡ decimal (n / 10) ++ (48 + n % 10) ∷ [] =
    ap decimal split ∙ decimal_more (n / 10) (n % 10) (omega arith) (omega arith) in
    f ∙ ap (λ s. s ++ (48 + n % 10) ∷ []) e ∙ append_assoc out (decimal (n / 10)) ((48 + n % 10) ∷ []) ∙ ap (λ s. out ++ s) (sym whole)

pub verbatim_written : (octets out a b new : List ℕ) → a ≡ out ++ decimal (length octets) → b ≡ a ++ 58 ∷ [] → new ≡ b ++ octets → new ≡ out ++ verbatim octets
verbatim_written octets out a b new e f g = search (rules, append_assoc, verbatim_is)

-- a string of one octet
pub one_written : (octets out new : List ℕ) → 1 ≤ length octets → length octets < 2 → new ≡ out ++ 49 ∷ 58 ∷ get_or octets 0 0 ∷ [] → new ≡ out ++ verbatim octets
one_written (x ∷ []) out new some few e = search (rules, verbatim_is, decimal_digit)
one_written _ out new some few e = absurd (omega arith)

-- ---- lists

pub canons-append : (vs ws : List Value) → canons (values (vs ++ ws)) ≡ canons (values vs) ++ canons (values ws)
canons-append [] ws = refl
canons-append (v ∷ vs) ws = ap (λ s. canon v ++ s) (canons-append vs ws) ∙ sym (append_assoc (canon v) (canons (values vs)) (canons (values ws)))

pub member_written : {A : Type 0} (f : A → Value) (xs : List A) (k : ℕ) (d : A) (out mid new : List ℕ) → k < length xs
    → mid ≡ out ++ canons (values (map f (take k xs))) → new ≡ mid ++ canon (f (get_or xs k d))
    → new ≡ out ++ canons (values (map f (take (k + 1) xs)))
member_written f xs k d out mid new lt e g =
    rw (g, e, take_more xs k d lt, map-append f (take k xs) (get_or xs k d ∷ []), canons-append (map f (take k xs)) (f (get_or xs k d) ∷ []))
    (simp (append_assoc, append-nil) refl)

pub sexp_list : (ms : Vec Sexp Global) → sexp_value (Branch ms) ≡ group (map sexp_value ms.items)
sexp_list ms = ap sexp_value (sym (rolls-List ms)) ∙ fold-roll-Sexp Value level_value (Layer ms)

pub list_written : (tree : Sexp) (ms : Vec Sexp Global) (xs : List Sexp) (k : ℕ) (out opened all new : List ℕ) → tree ≡ Branch ms → xs ≡ ms.items
    → length xs ≤ k → opened ≡ out ++ 40 ∷ [] → all ≡ opened ++ canons (values (map sexp_value (take k xs))) → new ≡ all ++ 41 ∷ []
    → new ≡ out ++ canon (sexp_value tree)
list_written tree ms xs k out opened all new is same le e f g = search (rules, take_all, sexp_list, append_assoc)

-- ---- the octets of a tree, member by member

have_last : (vs : List Value) (v : Value) → HaveOctets (values vs) → HasOctets v → HaveOctets (values (vs ++ v ∷ []))
have_last [] v h k = (k, tt)
have_last (w ∷ ws) v h k = (h.0, have_last ws v h.1 k)

pub more_octets : {A : Type 0} (f : A → Value) (xs : List A) (k : ℕ) (d : A) → k < length xs → HaveOctets (values (map f (take k xs)))
    → HasOctets (f (get_or xs k d)) → HaveOctets (values (map f (take (k + 1) xs)))
more_octets f xs k d lt h g =
    let split : map f (take (k + 1) xs) ≡ map f (take k xs) ++ f (get_or xs k d) ∷ [] = ap (map f) (take_more xs k d lt) ∙ map-append f (take k xs) (get_or xs k d ∷ []) in
    subst (λ vs. HaveOctets (values vs)) (sym split) (have_last (map f (take k xs)) (f (get_or xs k d)) h g)

pub list_octets : (tree : Sexp) (ms : Vec Sexp Global) (xs : List Sexp) (k : ℕ) → tree ≡ Branch ms → xs ≡ ms.items → length xs ≤ k
    → HaveOctets (values (map sexp_value (take k xs))) → HasOctets (sexp_value tree)
list_octets tree ms xs k is same le h = search (rules, sexp_list, take_all)

-- ---- values are the same exactly if their canonical texts are

pub same_decides : (v w : Value) → Decides (is_same v w) (v ≡ w)
same_decides v w =
    let d = bytes_eq-Decides (canon v) (canon w) in
    (λ h. (canon_one v w [] [] (ap (λ s. s ++ []) (d.0 h))).0, λ e. d.1 (ap canon e))

pub same_given : (r : Bool) (v w : Value) → IsTrue r ↔ (v ≡ w) → r ≡ is_same v w
same_given r v w h = same_from_decides r (is_same v w) (h.0, h.1) (same_decides v w)

-- ---- members

-- if a member differs, the lists differ
pub member_differs : {A : Type 0} (f : A → Value) (xs ys : List A) (i : ℕ) (d e : A) → i < length xs → length xs ≡ length ys
    → IsTrue false ↔ (f (get_or xs i d) ≡ f (get_or ys i e)) → IsTrue false ↔ (map f xs ≡ map f ys)
member_differs f xs ys i d e lt same h = search (rules, get_or-map f xs i d (f d) lt, get_or-map f ys i e (f d) (omega (arith, same)))

-- ---- trees

group_one : (vs ws : List Value) → group vs ≡ group ws → vs ≡ ws
group_one vs ws e = let k : values vs ≡ values ws = cc in sym (members-values vs) ∙ ap members k ∙ members-values ws

pub lists_same : (tree other : Sexp) (ms os : Vec Sexp Global) (r : Bool) → tree ≡ Branch ms → other ≡ Branch os
    → IsTrue r ↔ (map sexp_value ms.items ≡ map sexp_value os.items) → IsTrue r ↔ (sexp_value tree ≡ sexp_value other)
lists_same tree other ms os r is other_is h = search (rules, sexp_list, group_one)
