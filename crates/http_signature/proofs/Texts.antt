-- Texts that are compared.
use Rattle.std.proofs.Common.{◌≡◌, ◌≤◌, ℕ, List, Bool, true, false, not, cond, nat_lt, length, Some, None, refl, ◌↔◌, sym, arith}
use Rattle.std.specs.{Prelude.{IsTrue, position}, List.{position_or_len}, Str.{bytes_eq}}
use Rattle.std.proofs.lemmas.{Slice.Eq.{bytes_eq-Decides}, Bool.Decides.{nat_tests}, List.Sums.{prefix_len-le-length}}

-- a test that tells whether two texts are the same is their comparison
pub same_text : (b : Bool) (xs ys : List ℕ) → (IsTrue b ↔ (xs ≡ ys)) → b ≡ bytes_eq xs ys
same_text true xs ys h = sym ((bytes_eq-Decides xs ys).1 (h.0 refl))
same_text false xs ys h = by (bytes_eq xs ys) refl
  where
    by : (b : Bool) → bytes_eq xs ys ≡ b → false ≡ b
    by true e = h.1 ((bytes_eq-Decides xs ys).0 e)
    by false e = refl

-- ---- the first octet that passes a test

some_at : (b : Bool) (n i : ℕ) → Some i ≡ cond b (Some n) None → i ≡ n
some_at true n i e = cc
some_at false n i e = absurd (cc)

pub some_position : (p : ℕ → Bool) (xs : List ℕ) (i : ℕ) → Some i ≡ position p xs → i ≡ position_or_len p xs
some_position p xs i e = some_at (nat_lt (position_or_len p xs) (length xs)) (position_or_len p xs) i e

none_at : (b : Bool) (n : ℕ) → cond b (Some n) None ≡ None → b ≡ false
none_at true n e = absurd (cc)
none_at false n e = refl

pub none_position : (p : ℕ → Bool) (xs : List ℕ) → None ≡ position p xs → length xs ≡ position_or_len p xs
none_position p xs e =
    let no : nat_lt (position_or_len p xs) (length xs) ≡ false = none_at (nat_lt (position_or_len p xs) (length xs)) (position_or_len p xs) (sym e) in
    let le : position_or_len p xs ≤ length xs = prefix_len-le-length (λ x. not (p x)) xs in
    grind (arith, nat_tests)
