-- What a fault means while a part of a text is read.
use Rattle.std.specs.Prelude.{◌≡◌, ℕ, suc, ◌+◌, ◌<◌, List, ◌++◌, length, take}
use Rattle.sexpr_core.specs.{declared.fault.FormFault.{FormFault, TheVariants.{TooDeep, Short, Bad, Memory}}, Reading.{Front}}

-- no text of T agrees with the octets up to the end of the shorter of both
pub record Barred (T : List ℕ → Type 0) (xs : List ℕ) : Type 0 where
  pub bars : (t rest after : List ℕ) → T t → xs ++ rest ≡ t ++ after → ⊥

-- The octets xs are at offset `at`. Those before offset k begin a text of S, and no text of T continues with the octet at k.
pub record IsBad (T S : List ℕ → Type 0) (at : ℕ) (xs : List ℕ) (k : ℕ) : Type 0 where
  pub index : ℕ
  pub offset : k ≡ at + index
  pub within : index < length xs
  pub before : Front S (take index xs)
  pub stops : Barred T (take (suc index) xs)

-- Some text of T continues with the octet at this index, and no text of S does.
pub record IsDeep (T S : List ℕ → Type 0) (xs : List ℕ) : Type 0 where
  pub index : ℕ
  pub within : index < length xs
  pub before : Front T (take (suc index) xs)
  pub stops : Barred S (take (suc index) xs)

-- What a fault means for the octets xs at offset `at`, if a text of some set is read there. T is that set, and S the part of
-- it within the limit on depth.
abbrev pub FaultAt : (T S : List ℕ → Type 0) → ℕ → List ℕ → FormFault → Type 0
FaultAt T S at xs TooDeep = IsDeep T S xs
FaultAt T S at xs Short = Front S xs
FaultAt T S at xs (Bad k) = IsBad T S at xs k
FaultAt T S at xs Memory = Unit {0}
FaultAt T S at xs _ = ⊥

-- The same if the part has no lists, and is read without memory: the fault is Short or Bad.
abbrev pub MissesAt : (T : List ℕ → Type 0) → ℕ → List ℕ → FormFault → Type 0
MissesAt T at xs Short = Front T xs
MissesAt T at xs (Bad k) = IsBad T T at xs k
MissesAt T at xs _ = ⊥
