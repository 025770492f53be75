-- What is kept of a body in base64: everything except its whitespace.
use Rattle.std.specs.{Prelude.{◌≡◌, ℕ, ◌<◌, ◌≤◌, true, false, List, [], ◌∷◌, ◌++◌, length, drop}, List.{AllByRecursion}}
use Rattle.sexpr_core.specs.Reading.{visible, is_symbol, AreBodyOctets}

-- the first octet, if there is one, is no symbol
abbrev pub StartsNoSymbol : List ℕ → Type 0
StartsNoSymbol [] = Unit {0}
StartsNoSymbol (c ∷ cs) = is_symbol c ≡ false

-- all the symbols from one offset of a text up to another
pub record SkipsSymbols (text : List ℕ) (at to : ℕ) : Type 0 where
  pub symbols : List ℕ
  pub are_symbols : AllByRecursion (λ c. is_symbol c ≡ true) symbols
  pub spelled : drop at text ≡ symbols ++ drop to text
  pub ends : StartsNoSymbol (drop to text)
  pub ordered : at ≤ to
  pub within : to ≤ length text

-- a body's octets from one offset of a text up to another, the mark that ends them, and the symbols that are kept of them
pub record GathersTo (text : List ℕ) (at mark : ℕ) (symbols : List ℕ) (to : ℕ) : Type 0 where
  pub body : List ℕ
  pub octets : AreBodyOctets body
  pub spelled : drop at text ≡ body ++ mark ∷ drop to text
  pub kept : symbols ≡ visible body
  pub goes_on : at < to
  pub within : to ≤ length text

-- a body and the mark after it are at an offset of a text
pub record BodyAt (at mark : ℕ) (text : List ℕ) : Type 0 where
  pub body : List ℕ
  pub rest : List ℕ
  pub octets : AreBodyOctets body
  pub spelled : drop at text ≡ body ++ mark ∷ rest
