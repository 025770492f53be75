-- What is found by a digest: in a map to which one more value was added, and by a binary search in sorted rows.
use Rattle.std.proofs.Common.{◌≡◌, ℕ, Ordering, Bool, true, false, cond, List, ◌⊎◌, inl, inr, Vec, Option, Some, None, refl, sym, ap, subst, ◌∙◌, rules, ◌<◌, ◌≤◌, ◌&&◌, ◌||◌, [], ◌∷◌, map, length, Result, Ok, Err, ⊎_elim, bytes_eq, arith}
use Rattle.std.proofs.lemmas.Bool.{cases_Bool, cond-true, cond-false, cases_lt}
use Rattle.std.proofs.lemmas.Cmp.{eq_by_cmp_equiv, nat_list_cmp_total, nat_list_eq_equiv, on_total, then_total}
use Rattle.std.proofs.lemmas.{Map.{Text.{is_eq-slice_cmp}, Keys.{any_passes_from_place}}, Slice.Eq.{bytes_eq-Decides}}
use Rattle.std.proofs.lemmas.{List.{Folds.{list_any_none}, Sorted.{searchable_from_sorted}}, Option.{slice_get-get_or}}
use Rattle.std.proofs.Math.Bool.{and_comm, and_assoc}
use Rattle.std.specs.{Option.{option_or, is_some}, BTreeMap.{BTreeMap, UpdatesBy}, Cmp.{IsTotalOrder, tied_then, Lexicographic.{slice_cmp}}}
use Rattle.std.specs.{Map.{lookup, KeepsOthers, IsKeyTest, AreApart}, Ordering.{nat_cmp, is_eq, eq_by_cmp, ordering_then}}
use Rattle.std.specs.{declared.alloc.Global.{Global}, List.{list_any, Sorted.{IsSorted, IsBinarySearchResult, IsSearchInRange}}, Prelude.{is_ok}}
use Rattle.spki_case.specs.{Lookups.{at_digest, SortedRow, AreSorted, compared, row_of, sorted_row}, Case.{is_row_of, accepts}}
use Rattle.sha2.specs.Sha256.{sha256}
use Rattle.spki_case.specs.declared.table.Row as code_row

-- ---- a map by digests to which one more value is added

-- the order of vectors by their octets
abbrev by_octets : Vec ℕ Global → Vec ℕ Global → Ordering
by_octets x y = slice_cmp nat_cmp x.items y.items

others : {X : Type 0} (test : Vec ℕ Global → Bool) (old new : List (Vec ℕ Global × X)) → KeepsOthers (eq_by_cmp by_octets) test old new
    → (other : Vec ℕ Global → Bool) → IsKeyTest (eq_by_cmp by_octets) other → AreApart test other → lookup other new ≡ lookup other old
unfolding KeepsOthers
others test old new h = h

apart : (own digest ks : List ℕ) → bytes_eq own digest ≡ false → is_eq (slice_cmp nat_cmp own ks) ≡ true → is_eq (slice_cmp nat_cmp digest ks) ≡ false
apart own digest ks n y = search (rules, is_eq-slice_cmp)

-- the map after a value is put at octets, at each digest
pub written : {X : Type 0} (own : List ℕ) (value : X) (old new : BTreeMap (Vec ℕ Global) X)
    → UpdatesBy by_octets (λ k. slice_cmp nat_cmp own k.items) old new (Some value) → (digest : List ℕ)
    → at_digest new digest ≡ cond (bytes_eq own digest) (Some value) (at_digest old digest)
written {X = X} own value old new h digest = by (cases_Bool (bytes_eq own digest))
  where
    by : (bytes_eq own digest ≡ true) ⊎ (bytes_eq own digest ≡ false)
        → at_digest new digest ≡ cond (bytes_eq own digest) (Some value) (at_digest old digest)
    by (inl y) =
        subst (λ l. at_digest new l ≡ Some value) ((bytes_eq-Decides own digest).0 y) h.1
        ∙ sym (cond-true (bytes_eq own digest) (Some value) (at_digest old digest) y)
    by (inr n) =
        others _ old.entries new.entries h.3 _ (λ x y. (eq_by_cmp_equiv nat_list_cmp_total).congr digest x.items y.items)
        (λ k. apart own digest k.items n)
        ∙ sym (cond-false (bytes_eq own digest) (Some value) (at_digest old digest) n)

-- after an insertion
pub inserted : {X : Type 0} (own : Vec ℕ Global) (key : X) (old new : BTreeMap (Vec ℕ Global) X)
    → UpdatesBy by_octets (by_octets own) old new (Some key) → (digest : List ℕ)
    → at_digest new digest ≡ cond (bytes_eq own.items digest) (Some key) (at_digest old digest)
inserted own key old new h = written own.items key old new h

-- ---- the first value with a digest, if one more comes behind others; f gives the first of the others

option_or-none : {X : Type 0} (o : Option X) → option_or o None ≡ o
option_or-none None = refl
option_or-none (Some x) = refl

-- none of the others has the digest of the new one
pub first_added : {X : Type 0} (f : List ℕ → Option X) (own : List ℕ) (key : X) (digest : List ℕ) → is_some (f own) ≡ false
    → cond (bytes_eq own digest) (Some key) (f digest) ≡ option_or (f digest) (cond (bytes_eq own digest) (Some key) None)
first_added {X = X} f own key digest h = by (f digest) refl (cases_Bool (bytes_eq own digest))
  where
    by : (o : Option X) → o ≡ f digest → (bytes_eq own digest ≡ true) ⊎ (bytes_eq own digest ≡ false)
        → cond (bytes_eq own digest) (Some key) (f digest) ≡ option_or (f digest) (cond (bytes_eq own digest) (Some key) None)
    by None e (inl y) = rw (y, ← e) refl
    by (Some x) e (inl y) =
        let absent : is_some (f digest) ≡ false = subst (λ l. is_some (f l) ≡ false) ((bytes_eq-Decides own digest).0 y) h in
        let clash : true ≡ false = ap is_some e ∙ absent in
        absurd cc
    by o e (inr n) = rw n (sym (option_or-none (f digest)))

-- ---- what a binary search finds

is_found : {X : Type 0} {R : X → X → Ordering} → IsTotalOrder R → (xs : List X) (q : X) (r : Result ℕ ℕ) → IsSorted R xs
    → IsSearchInRange r (length xs) → IsBinarySearchResult (λ y. R y q) xs r → is_ok r ≡ list_any (λ y. is_eq (R y q)) xs
is_found {R = R} o xs q (Ok i) up bound here =
    sym (any_passes_from_place (λ y. is_eq (R y q)) xs i _ (slice_get-get_or xs i q bound) (ap is_eq (here q)))
is_found {R = R} o xs q (Err i) up bound index =
    let parted = index (searchable_from_sorted o (λ y. y) xs q up) in
    sym (list_any_none (λ y. is_eq (R y q)) xs (λ k d l.
    ⊎_elim (λ (low : k < i). ap is_eq (parted.0 k d (omega arith) low)) (λ (high : i ≤ k). ap is_eq (parted.1 k d high l)) (cases_lt k i)))

list_any-mapped : {A B : Type 0} (p : A → Bool) (q : B → Bool) (f : A → B) → ((x : A) → p x ≡ q (f x)) → (xs : List A)
    → list_any p xs ≡ list_any q (map f xs)
list_any-mapped p q f e [] = refl
list_any-mapped p q f e (x ∷ xs) = rw (e x) (ap (λ b. q (f x) || b) (list_any-mapped p q f e xs))

-- ---- what it finds in the sorted rows of an accepted list

-- a row of this digest, value and key
is_equal : (message : List ℕ) (x y : SortedRow) → sha256 message ≡ y.0.now → is_eq (compared x y) ≡ is_row_of y.2.now message y.1.now (sorted_row x)
is_equal message x y e =
    let digest : is_eq (slice_cmp nat_cmp x.0.now y.0.now) ≡ bytes_eq (sha256 message) x.0.now =
    is_eq-slice_cmp x.0.now y.0.now ∙ nat_list_eq_equiv.symm x.0.now y.0.now ∙ ap (λ d. bytes_eq d x.0.now) (sym e) in
    let value : is_eq (slice_cmp nat_cmp x.1.now y.1.now) ≡ bytes_eq x.1.now y.1.now = is_eq-slice_cmp x.1.now y.1.now in
    let key : is_eq (slice_cmp nat_cmp x.2.now y.2.now) ≡ bytes_eq x.2.now y.2.now = is_eq-slice_cmp x.2.now y.2.now in
    sym (tied_then (ordering_then (slice_cmp nat_cmp x.0.now y.0.now) (slice_cmp nat_cmp x.1.now y.1.now)) (slice_cmp nat_cmp x.2.now y.2.now))
    ∙ ap (λ b. b && is_eq (slice_cmp nat_cmp x.2.now y.2.now)) (sym (tied_then (slice_cmp nat_cmp x.0.now y.0.now) (slice_cmp nat_cmp x.1.now y.1.now)))
    ∙ rw (digest, value, key) (and_comm (bytes_eq (sha256 message) x.0.now && bytes_eq x.1.now y.1.now) (bytes_eq x.2.now y.2.now))
    ∙ sym (and_assoc (bytes_eq x.2.now y.2.now) (bytes_eq (sha256 message) x.0.now) (bytes_eq x.1.now y.1.now))

total : IsTotalOrder compared
total = search (rules, then_total, on_total, nat_list_cmp_total)

pub accepts_found : (message : List ℕ) (rows : List code_row.Row) (sorted : List SortedRow) (y : SortedRow) (r : Result ℕ ℕ) → sha256 message ≡ y.0.now
    → AreSorted rows sorted → IsSearchInRange r (length sorted) → IsBinarySearchResult (λ x. compared x y) sorted r
    → is_ok r ≡ accepts (map row_of rows) y.2.now message y.1.now
accepts_found message rows sorted y r e are bound index =
    is_found total sorted y r are.ordered bound index
    ∙ list_any-mapped (λ x. is_eq (compared x y)) (is_row_of y.2.now message y.1.now) sorted_row (λ x. is_equal message x y e) sorted
    ∙ sym (are.same (is_row_of y.2.now message y.1.now))
