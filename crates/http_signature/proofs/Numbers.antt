-- Numbers of seconds.
use Rattle.std.proofs.Common.{◌≡◌, ℕ, ◌*◌, ◌^◌, ◌<◌, ◌≤◌, List, true, length, take, get_or, sym, ap, ◌∙◌, arith, subst}
use Rattle.std.proofs.Math.Nat.{pow-le-pow_right}
use Rattle.std.specs.List.{prefix_len}
use Rattle.std.proofs.lemmas.{Bool.Decides.{nat_tests}, List.{get_or-take, Folds.{length-prefix_len}, Sums.{prefix_len_passes}}}
use Rattle.http_signature.specs.Pieces.{is_digit}

-- a digit is at most 57
pub digit_to : (d : ℕ) → is_digit d ≡ true → d ≤ 57
digit_to d h = grind (arith, nat_tests)

-- a number of fewer than 15 digits is small
pub tenfold : (i v : ℕ) → i < 15 → v < 10 ^ i → v * 10 < 1000000000000000
tenfold i v lt h =
    let fewer : i ≤ 14 = omega arith in
    let le : 10 ^ i ≤ 100000000000000 = pow-le-pow_right {n = 10} (omega arith) {i = i} {j = 14} fewer in
    omega (arith, le, h)

each : (octets : List ℕ) (k : ℕ) → k < length (take (prefix_len is_digit octets) octets) → is_digit (get_or (take (prefix_len is_digit octets) octets) k 0) ≡ true
each octets k h =
    let lt : k < prefix_len is_digit octets = subst (λ (n : ℕ). k < n) (length-prefix_len is_digit octets) h in
    ap is_digit (get_or-take (prefix_len is_digit octets) octets k 0 lt) ∙ prefix_len_passes is_digit octets k 0 lt

-- the digits at the left are digits
pub each_digit : (octets digits : List ℕ) (n : ℕ) → n ≡ prefix_len is_digit octets → digits ≡ take n octets → (k : ℕ) → k < length digits → is_digit (get_or digits k 0) ≡ true
each_digit octets digits n e is =
    let same : digits ≡ take (prefix_len is_digit octets) octets = is ∙ ap (λ (m : ℕ). take m octets) e in
    subst (λ (ds : List ℕ). (k : ℕ) → k < length ds → is_digit (get_or ds k 0) ≡ true) (sym same) (each octets)
