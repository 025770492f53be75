-- Moments and windows of validity (RFC 2693, section 6.3.2).
use Rattle.std.specs.{Prelude.{◌≡◌, ℕ, Bool, true, false, ◌&&◌, List, Option, Some, None, if◌then◌else◌}, Cmp.Lexicographic.{slice_cmp}}
use Rattle.std.specs.Ordering.{nat_cmp, is_le}
use Rattle.spki_cert.specs.declared.window.Window.{Window}
use Rattle.spki_tag.specs.Tag.{is_date}

-- whether a moment is not after another, by octets
abbrev pub upto : List ℕ → List ℕ → Bool
upto s t = is_le (slice_cmp nat_cmp s t)

-- whether a moment is not before a limit, if there is one
abbrev pub is_from : Option (List ℕ) → List ℕ → Bool
is_from None t = true
is_from (Some limit) t = upto limit t

-- whether a moment is not after a limit, if there is one
abbrev pub is_until : Option (List ℕ) → List ℕ → Bool
is_until None t = true
is_until (Some limit) t = upto t limit

-- whether a moment is not before the not-before, and not after the not-after
abbrev pub within : List ℕ → Window → Bool
within t w = is_from w.not_before t && is_until w.not_after t

-- the later of two first moments; if one is missing, the other
abbrev pub later : Option (List ℕ) → Option (List ℕ) → Option (List ℕ)
later None q = q
later (Some s) None = Some s
later (Some s) (Some t) = Some (if upto s t then t else s)

-- the earlier of two last moments; if one is missing, the other
abbrev pub earlier : Option (List ℕ) → Option (List ℕ) → Option (List ℕ)
earlier None q = q
earlier (Some s) None = Some s
earlier (Some s) (Some t) = Some (if upto s t then s else t)

-- a limit is the octets of a date
abbrev pub IsLimit : Option (List ℕ) → Type 0
IsLimit None = Unit {0}
IsLimit (Some limit) = is_date limit ≡ true

-- whether a last moment is not before a first moment
abbrev pub in_order : Option (List ℕ) → Option (List ℕ) → Bool
in_order None q = true
in_order (Some s) None = true
in_order (Some s) (Some t) = upto s t

-- the window from a first moment to a last one, if it contains a moment
abbrev pub between : Option (List ℕ) → Option (List ℕ) → Option Window
between p q = if in_order p q then Some (record { not_before = p; not_after = q }) else None

-- the window from the later not-before to the earlier not-after
abbrev pub meet_of : Window → Window → Option Window
meet_of v w = between (later v.not_before w.not_before) (earlier v.not_after w.not_after)

-- the moments within a window are those within both
abbrev pub IsMeet : Window → Window → Window → Type 0
IsMeet v w met = (t : List ℕ) → within t met ≡ (within t v && within t w)

-- some moment is within both
abbrev pub Overlap : Window → Window → Type 0
Overlap v w = (t : List ℕ) × (is_date t ≡ true) × (within t v ≡ true) × (within t w ≡ true)

-- no moment is within both
abbrev pub AreApart : Window → Window → Type 0
AreApart v w = (t : List ℕ) → within t v ≡ true → within t w ≡ false
