-- What a store of nonces keeps. A nonce is 32 octets, and a moment a number of seconds since 1970.
use Rattle.std.specs.Prelude.{ℕ, List}

-- how many nonces each generation may have, when the young one began, and the nonces of both
pub record Store : Type 0 where
  pub capacity : ℕ
  pub began : ℕ
  pub young : List (List ℕ)
  pub previous : List (List ℕ)
