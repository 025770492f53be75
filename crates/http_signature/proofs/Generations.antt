-- The nonces of a generation.
use Rattle.std.proofs.Common.{◌≡◌, ℕ, List, [], ◌∷◌, refl}
use Rattle.std.specs.{List.{list_any}, Ordering.{nat_cmp}, Cmp.Lexicographic.{slice_cmp}, BTreeMap.{is_at}}
use Rattle.std.proofs.lemmas.Map.Text.{is_eq-slice_cmp}
use Rattle.http_signature.specs.Nonces.{is_among}

pub among : (nonce : List ℕ) (nonces : List (List ℕ)) → list_any (is_at (slice_cmp nat_cmp nonce)) nonces ≡ is_among nonce nonces
among nonce [] = refl
among nonce (n ∷ nonces) = rw (is_eq-slice_cmp, among nonce nonces) refl
