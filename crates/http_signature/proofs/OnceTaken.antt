-- A nonce is taken at most once for as long as a signature with it can be accepted.
use Rattle.std.proofs.Common.{◌≡◌, ℕ, ◌+◌, ◌<◌, ◌≤◌, List, [], ◌∷◌, Bool, true, false, ◌||◌, Some, None, ◌⊎◌, inl, inr, length, nat_lt, refl, sym, ap, ◌∙◌, subst, arith}
use Rattle.std.specs.{Prelude.{if◌then◌else◌, nat_le, Result, Ok, Err, OnOk}, List.{All}, Str.{bytes_eq}, Ordering.{nat_cmp, match_ordering}, declared.cmp.Ordering.{Ordering, TheVariants.{Less, Equal, Greater}}, Cmp.Lexicographic.{slice_cmp}, BTreeSet.{insert_key}}
use Rattle.std.proofs.lemmas.{Bool.Decides.{nat_tests}, List.Elements.{All-nil, All-cons, All-weaker}, Map.Text.{is_eq-slice_cmp}, Slice.Eq.{bytes_eq-Decides}}
use Rattle.std.specs.Ordering.{is_eq}
use Rattle.http_signature.specs.{Stores.{Store}, declared.nonces.NonceFault.{TheVariants.{BeforeStart, NonceSeen, StoreFull}}}
use Rattle.http_signature.specs.Nonces.{is_among, begun, at_moment, with_nonce, with_taken, refusal_in, refusal, Take, store_after, AreAnswered, IsHistory, AreApart, IsFresh, TakenOnce}

-- ---- a generation with one more nonce

same : (nonce : List ℕ) → bytes_eq nonce nonce ≡ true
same nonce = (bytes_eq-Decides nonce nonce).1 refl

equal : (a b : List ℕ) → slice_cmp nat_cmp a b ≡ Equal → a ≡ b
equal a b e = (bytes_eq-Decides a b).0 (sym (is_eq-slice_cmp a b) ∙ ap is_eq e)

last : (b : Bool) {c : Bool} → c ≡ true → (b || c) ≡ true
last true e = refl
last false e = e

either : (b : Bool) {c d : Bool} → (c ≡ true → d ≡ true) → (b || c) ≡ true → (b || d) ≡ true
either true f e = refl
either false f e = f e

added_at : (nonce n : List ℕ) (nonces others : List (List ℕ)) → is_among nonce others ≡ true → (o : Ordering) → slice_cmp nat_cmp nonce n ≡ o
    → is_among nonce (match_ordering o (nonce ∷ n ∷ nonces) (n ∷ nonces) (n ∷ others)) ≡ true
added_at nonce n nonces others h Less e = rw (same nonce) refl
added_at nonce n nonces others h Equal e = rw (← equal nonce n e, same nonce) refl
added_at nonce n nonces others h Greater e = last (bytes_eq nonce n) h

added : (nonce : List ℕ) (nonces : List (List ℕ)) → is_among nonce (insert_key (slice_cmp nat_cmp) nonces nonce) ≡ true
added nonce [] = rw (same nonce) refl
added nonce (n ∷ nonces) = added_at nonce n nonces _ (added nonce nonces) (slice_cmp nat_cmp nonce n) refl

kept_at : (q nonce n : List ℕ) (nonces others : List (List ℕ)) → (is_among q nonces ≡ true → is_among q others ≡ true) → is_among q (n ∷ nonces) ≡ true
    → (o : Ordering) → is_among q (match_ordering o (nonce ∷ n ∷ nonces) (n ∷ nonces) (n ∷ others)) ≡ true
kept_at q nonce n nonces others f h Less = last (bytes_eq q nonce) h
kept_at q nonce n nonces others f h Equal = h
kept_at q nonce n nonces others f h Greater = either (bytes_eq q n) f h

kept_in : (q nonce : List ℕ) (nonces : List (List ℕ)) → is_among q nonces ≡ true → is_among q (insert_key (slice_cmp nat_cmp) nonces nonce) ≡ true
kept_in q nonce [] h = absurd (cc)
kept_in q nonce (n ∷ nonces) h = kept_at q nonce n nonces _ (kept_in q nonce nonces) h (slice_cmp nat_cmp nonce n)

-- ---- what a store knows of a take that succeeded

-- its nonce is in the young generation or in the previous one, or no signature of then can be accepted since the young one began
abbrev Remembered : Store → Take → Type 0
Remembered s t = ((is_among t.nonce s.young ≡ true) × (t.moment < s.began + 360))
    ⊎ (((is_among t.nonce s.previous ≡ true) × (t.moment < s.began)) ⊎ (t.moment + 360 < s.began))

at_begin : (s : Store) (m : ℕ) (t : Take) (b : Bool) → nat_lt m (s.began + 720) ≡ b → s.began + 360 ≤ m → Remembered s t → Remembered (begun s m b) t
at_begin s m t true e le (inl (has, lt)) = inr (inl (has, omega arith))
at_begin s m t true e le (inr (inl (has, lt))) = inr (inr (omega arith))
at_begin s m t true e le (inr (inr lt)) = inr (inr (omega arith))
at_begin s m t false e le (inl (has, lt)) = let long : s.began + 720 ≤ m = grind (arith, nat_tests) in inr (inr (omega arith))
at_begin s m t false e le (inr (inl (has, lt))) = inr (inr (omega arith))
at_begin s m t false e le (inr (inr lt)) = inr (inr (omega arith))

at_turn : (s : Store) (m : ℕ) (t : Take) → Remembered s t → Remembered (at_moment s m) t
at_turn s m t h = by (nat_lt m (s.began + 360)) refl
  where
    by : (b : Bool) → nat_lt m (s.began + 360) ≡ b → Remembered (if b then s else begun s m (nat_lt m (s.began + 720))) t
    by true e = h
    by false e = let le : s.began + 360 ≤ m = grind (arith, nat_tests) in at_begin s m t (nat_lt m (s.began + 720)) refl le h

at_take : (s : Store) (n : List ℕ) (t : Take) → Remembered s t → Remembered (with_nonce s n) t
at_take s n t (inl (has, lt)) = inl (kept_in t.nonce n s.young has, lt)
at_take s n t (inr h) = inr h

-- the take of a nonce itself
recent : (s : Store) (m : ℕ) → m < (at_moment s m).began + 360
recent s m = by (nat_lt m (s.began + 360)) refl
  where
    by : (b : Bool) → nat_lt m (s.began + 360) ≡ b → m < (if b then s else begun s m (nat_lt m (s.began + 720))).began + 360
    by true e = grind (arith, nat_tests)
    by false e = omega arith

-- where the moment is not refused, the young generation began a second after it at the latest
started : (s : Store) (n : List ℕ) (m : ℕ) → refusal s n m ≡ None → ((at_moment s m).began ≤ m + 1) × (refusal_in (at_moment s m) n ≡ None)
started s n m e = first (nat_lt (m + 1) s.began) refl e
  where
    turned : s.began ≤ m + 1 → (at_moment s m).began ≤ m + 1
    turned le = by (nat_lt m (s.began + 360))
      where
        by : (b : Bool) → (if b then s else begun s m (nat_lt m (s.began + 720))).began ≤ m + 1
        by true = le
        by false = omega arith

    first : (b : Bool) → nat_lt (m + 1) s.began ≡ b → (if b then Some BeforeStart else refusal_in (at_moment s m) n) ≡ None
        → ((at_moment s m).began ≤ m + 1) × (refusal_in (at_moment s m) n ≡ None)
    first true h e = absurd (cc)
    first false h e = let le : s.began ≤ m + 1 = grind (arith, nat_tests) in (turned le, e)

-- a nonce that is not refused is in no generation
unseen : (s : Store) (n : List ℕ) → refusal_in s n ≡ None → (is_among n s.previous ≡ false) × (is_among n s.young ≡ false)
unseen s n e = by (is_among n s.previous) (is_among n s.young) refl refl e
  where
    by : (a b : Bool) → is_among n s.previous ≡ a → is_among n s.young ≡ b
        → (if a || b then Some NonceSeen else (if nat_le s.capacity (length s.young) then Some StoreFull else None)) ≡ None
        → (is_among n s.previous ≡ false) × (is_among n s.young ≡ false)
    by false false h k e = (h, k)
    by false true h k e = absurd (cc)
    by true b h k e = absurd (cc)

apart_in : (s : Store) (n : List ℕ) (m : ℕ) (t : Take) → s.began ≤ m + 1 → (is_among n s.previous ≡ false) × (is_among n s.young ≡ false) → t.nonce ≡ n
    → Remembered s t → AreApart t.moment m
apart_in s n m t le unseen is (inl (has, lt)) = absurd (let e : is_among n s.young ≡ true = subst (λ (q : List ℕ). is_among q s.young ≡ true) is has in cc)
apart_in s n m t le unseen is (inr (inl (has, lt))) = absurd (let e : is_among n s.previous ≡ true = subst (λ (q : List ℕ). is_among q s.previous ≡ true) is has in cc)
apart_in s n m t le unseen is (inr (inr lt)) = λ created expires a b. omega arith

apart : (s : Store) (n : List ℕ) (m : ℕ) (t : Take) → refusal s n m ≡ None → Remembered s t → t.nonce ≡ n → AreApart t.moment m
apart s n m t e h is = let start = started s n m e in apart_in (at_moment s m) n m t start.0 (unseen (at_moment s m) n start.1) is (at_turn s m t h)

-- ---- all takes

abbrev IsKnown : Store → Take → Type 0
IsKnown s t = t.is_fresh ≡ true → Remembered s t

abbrev AreRemembered : Store → List Take → Type 0
AreRemembered s takes = All (IsKnown s) takes

-- where a take of this nonce succeeded, no signature can be accepted at both moments
abbrev IsApart : List ℕ → ℕ → Take → Type 0
IsApart n m t = t.is_fresh ≡ true → t.nonce ≡ n → AreApart t.moment m

remembered_at : (s : Store) (t : Take) (earlier : List Take) → AreRemembered s earlier → (b : Bool) → t.is_fresh ≡ b
    → AreRemembered (if b then with_taken s t.nonce t.moment else s) (t ∷ earlier)
remembered_at s t earlier known true e =
    All-cons (IsKnown (with_taken s t.nonce t.moment)) t earlier (λ _. inl (added t.nonce (at_moment s t.moment).young, recent s t.moment))
    (All-weaker (IsKnown s) (IsKnown (with_taken s t.nonce t.moment)) (λ u was fresh. at_take (at_moment s t.moment) t.nonce u (at_turn s t.moment u (was fresh))) earlier known)
remembered_at s t earlier known false e = All-cons (IsKnown s) t earlier (λ fresh. absurd (cc)) known

remembered : (capacity : ℕ) (takes : List Take) → AreRemembered (store_after capacity takes) takes
remembered capacity [] = All-nil _
remembered capacity (t ∷ earlier) = remembered_at (store_after capacity earlier) t earlier (remembered capacity earlier) t.is_fresh refl

fresh_after : (capacity : ℕ) (takes : List Take) (n : List ℕ) (m : ℕ) → refusal (store_after capacity takes) n m ≡ None → IsFresh takes n m
fresh_after capacity takes n m e =
    All-weaker (IsKnown (store_after capacity takes)) (IsApart n m) (λ t known fresh is. apart (store_after capacity takes) n m t e (known fresh) is) takes (remembered capacity takes)

once : (capacity : ℕ) (takes : List Take) → AreAnswered capacity takes → TakenOnce takes
once capacity [] h = tt
once capacity (t ∷ earlier) h = ((λ fresh. fresh_after capacity earlier t.nonce t.moment (h.0 fresh)), once capacity earlier h.1)

fresh : (s : Store) (takes : List Take) (n : List ℕ) (m : ℕ) → IsHistory s takes → refusal s n m ≡ None → IsFresh takes n m
fresh s takes n m h e = fresh_after s.capacity takes n m (subst (λ (x : Store). refusal x n m ≡ None) h.is_after e)

pub fresh_on_ok : {T E : Type 0} (r : Result T E) (s : Store) (n : List ℕ) (m : ℕ) → OnOk r (refusal s n m ≡ None)
    → OnOk r ((takes : List Take) → IsHistory s takes → IsFresh takes n m)
fresh_on_ok (Ok a) s n m e = λ takes h. fresh s takes n m h e
fresh_on_ok (Err fault) s n m e = tt

pub taken_once : (s : Store) (takes : List Take) → IsHistory s takes → TakenOnce takes
taken_once s takes h = once s.capacity takes h.answered
