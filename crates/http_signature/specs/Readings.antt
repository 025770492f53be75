-- What is read, or the first refusal.
use Rattle.std.specs.Prelude.{Result, Ok, Err}
use Rattle.http_signature.specs.declared.refusal.Refusal.{Refusal}

infixl 10 ◌>>=◌
abbrev pub ◌>>=◌ : {A B : Type 0} → Result A Refusal → (A → Result B Refusal) → Result B Refusal
Ok a >>= f = f a
Err refusal >>= f = Err refusal
