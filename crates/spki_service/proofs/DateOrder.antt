-- Dates are in the order of their numbers.
use Rattle.std.proofs.Common.{◌≡◌, ℕ, ◌+◌, ◌-◌, ◌*◌, ◌<◌, ◌≤◌, true, false, inl, inr, List, ◌∷◌, length, drop, get_or, slice_index, sym, ap, ◌∙◌, subst₂, true≢false, le_of_lt, lt_of_le_of_lt, drop_of_length-le, mul-le-mul_right, arith}
use Rattle.std.proofs.lemmas.{Bool.{cases_order}, List.{drop_more}}
use Rattle.std.specs.{Cmp.{nat_cmp_is, Lexicographic.{slice_cmp}}, declared.cmp.Ordering.{Ordering, TheVariants.{Less, Equal, Greater}}}
use Rattle.std.specs.Ordering.{nat_cmp, is_le, ordering_then}
use Rattle.spki_cert.specs.Time.{upto}
use Rattle.spki_service.{specs.Questions.{number_at, IsNumberUpto}, proofs.DateSeconds.{HasNumbers}}

-- ---- lists of octets that are ordered as numbers are

-- the list xs is not after ys exactly if m, the number of xs, is not above n, that of ys
pub record IsInOrder (xs ys : List ℕ) (m n : ℕ) : Type 0 where
  pub before : upto xs ys ≡ true → m ≤ n
  pub after : upto xs ys ≡ false → n < m

by_first : (r : Ordering) (x y : ℕ) (xs ys : List ℕ) → nat_cmp x y ≡ r
    → upto (x ∷ xs) (y ∷ ys) ≡ is_le (ordering_then r (slice_cmp nat_cmp xs ys))
by_first r x y xs ys e = ap (λ (o : Ordering). is_le (ordering_then o (slice_cmp nat_cmp xs ys))) e

module _ (x y : ℕ) (xs ys : List ℕ) (m n : ℕ) where
  first_below : x < y → m < n → IsInOrder (x ∷ xs) (y ∷ ys) m n
  first_below h lt = record {
    before = λ e. le_of_lt lt;
    after = λ e. absurd (true≢false (sym (by_first Less x y xs ys (sym (nat_cmp_is x y Less h))) ∙ e));
  }

  first_above : y < x → n < m → IsInOrder (x ∷ xs) (y ∷ ys) m n
  first_above h lt = record {
    before = λ e. absurd (true≢false (sym e ∙ by_first Greater x y xs ys (sym (nat_cmp_is x y Greater h))));
    after = λ e. lt;
  }

  first_same : x ≡ y → IsInOrder xs ys m n → IsInOrder (x ∷ xs) (y ∷ ys) m n
  first_same same o =
      let rest = sym (by_first Equal x y xs ys (sym (nat_cmp_is x y Equal same))) in
      record { before = λ e. o.before (rest ∙ e); after = λ e. o.after (rest ∙ e) }

-- ---- a number of two digits, and after it a number below w

front_decides : (p q w m n : ℕ) → p < q → m < w → p * w + m < q * w + n
front_decides p q w m n h k = let next : p + 1 ≤ q = omega arith in omega (arith, mul-le-mul_right w next)

same_front : (xs ys : List ℕ) (p q w m n : ℕ) → p ≡ q → IsInOrder xs ys m n → IsInOrder xs ys (p * w + m) (q * w + n)
same_front xs ys p q w m n same o =
    let front : p * w ≡ q * w = ap (λ (k : ℕ). k * w) same in
    record {
      before = λ e. let le : m ≤ n = o.before e in omega arith;
      after = λ e. let lt : n < m = o.after e in omega arith;
    }

abbrev two : ℕ → ℕ → ℕ
two a b = 10 * (a - 48) + (b - 48)

record IsDigit (octet : ℕ) : Type 0 where
  low : 48 ≤ octet
  high : octet ≤ 57

two_in_order : (xs ys : List ℕ) (w m n a b c d : ℕ) → m < w → n < w → IsInOrder xs ys m n → IsDigit a → IsDigit b → IsDigit c → IsDigit d
    → IsInOrder (a ∷ b ∷ xs) (c ∷ d ∷ ys) (two a b * w + m) (two c d * w + n)
two_in_order xs ys w m n a b c d few also o da db dc dd =
    let below = front_decides (two a b) (two c d) w m n in
    let above = front_decides (two c d) (two a b) w n m in
    elim (cases_order a c) [
      | inl same ↦ first_same a c (b ∷ xs) (d ∷ ys) _ _ same (elim (cases_order b d) [
        | inl equal ↦ first_same b d xs ys _ _ equal (same_front xs ys (two a b) (two c d) w m n (omega arith) o)
        | inr (inl lt) ↦ first_below b d xs ys _ _ lt (below (omega arith) few)
        | inr (inr gt) ↦ first_above b d xs ys _ _ gt (above (omega arith) also)
      ])
      | inr (inl lt) ↦ first_below a c (b ∷ xs) (d ∷ ys) _ _ lt (below (omega arith) few)
      | inr (inr gt) ↦ first_above a c (b ∷ xs) (d ∷ ys) _ _ gt (above (omega arith) also)
    ]

ahead : (xs : List ℕ) (i : ℕ) → i + 1 < length xs → drop i xs ≡ get_or xs i 0 ∷ get_or xs (i + 1) 0 ∷ drop (i + 2) xs
ahead xs i h =
    let next : i + 1 + 1 ≡ i + 2 = omega arith in
    drop_more xs i 0 (omega arith)
    ∙ ap (λ (t : List ℕ). get_or xs i 0 ∷ t) (drop_more xs (i + 1) 0 h ∙ ap (λ (j : ℕ). get_or xs (i + 1) 0 ∷ drop j xs) next)

-- ---- the numbers that a date has from some index on, packed into one

abbrev second_number : List ℕ → ℕ
second_number octets = number_at octets 17 * 1 + 0

abbrev minute_number : List ℕ → ℕ
minute_number octets = number_at octets 14 * 100 + second_number octets

abbrev hour_number : List ℕ → ℕ
hour_number octets = number_at octets 11 * 10_000 + minute_number octets

abbrev day_number : List ℕ → ℕ
day_number octets = number_at octets 8 * 1_000_000 + hour_number octets

abbrev month_number : List ℕ → ℕ
month_number octets = number_at octets 5 * 100_000_000 + day_number octets

abbrev year_number : List ℕ → ℕ
year_number octets = number_at octets 2 * 10_000_000_000 + month_number octets

abbrev century_number : List ℕ → ℕ
century_number octets = number_at octets 0 * 1_000_000_000_000 + year_number octets

module _ (octets : List ℕ) (has : HasNumbers octets) where
  within : (i : ℕ) → i < 19 → i < length octets
  within i h = omega (arith, has.long)

  fits : (i high w m : ℕ) → IsNumberUpto octets i high → high < 100 → m < w → number_at octets i * w + m < 100 * w + 0
  fits i high w m number few = front_decides (number_at octets i) 100 w m 0 (lt_of_le_of_lt number.4 few)

  second_fits : second_number octets < 100
  second_fits = fits 17 60 1 0 has.second.upto (omega arith) (omega arith)

  minute_fits : minute_number octets < 10_000
  minute_fits = fits 14 59 100 (second_number octets) has.minute.upto (omega arith) second_fits

  hour_fits : hour_number octets < 1_000_000
  hour_fits = fits 11 23 10_000 (minute_number octets) has.hour.upto (omega arith) minute_fits

  day_fits : day_number octets < 100_000_000
  day_fits = fits 8 31 1_000_000 (hour_number octets) has.day.upto (omega arith) hour_fits

  month_fits : month_number octets < 10_000_000_000
  month_fits = fits 5 12 100_000_000 (day_number octets) has.month.upto (omega arith) day_fits

  year_fits : year_number octets < 1_000_000_000_000
  year_fits = fits 2 99 10_000_000_000 (month_number octets) has.year.upto (omega arith) month_fits

-- ---- dates are ordered as these numbers are

module _ (xs ys : List ℕ) (a : HasNumbers xs) (b : HasNumbers ys) where
  abbrev IsOrderedFrom : ℕ → ℕ → ℕ → Type 0
  IsOrderedFrom i m n = IsInOrder (drop i xs) (drop i ys) m n

  number_next : (i high w m n : ℕ) → i + 1 < 19 → IsNumberUpto xs i high → IsNumberUpto ys i high → m < w → n < w
      → IsOrderedFrom (i + 2) m n → IsOrderedFrom i (number_at xs i * w + m) (number_at ys i * w + n)
  number_next i high w m n h x y few also o =
      rw (ahead xs i (within xs a (i + 1) h), ahead ys i (within ys b (i + 1) h))
      (two_in_order (drop (i + 2) xs) (drop (i + 2) ys) w m n _ _ _ _ few also o (record { low = x.0; high = x.1 })
      (record { low = x.2; high = x.3 }) (record { low = y.0; high = y.1 }) (record { low = y.2; high = y.3 }))

  mark_next : (i mark m n : ℕ) → i < 19 → slice_index xs i ≡ mark → slice_index ys i ≡ mark → IsOrderedFrom (i + 1) m n → IsOrderedFrom i m n
  mark_next i mark m n h is also o =
      rw (drop_more xs i 0 (within xs a i h), drop_more ys i 0 (within ys b i h))
      (first_same _ _ (drop (i + 1) xs) (drop (i + 1) ys) m n (is ∙ sym also) o)

  none_left : IsOrderedFrom 19 0 0
  none_left =
      rw (drop_of_length-le xs {i = 19} (omega (arith, a.long)), drop_of_length-le ys {i = 19} (omega (arith, b.long)))
      (record { before = λ e. omega arith; after = λ e. absurd (true≢false e) })

  from_second : IsOrderedFrom 17 (second_number xs) (second_number ys)
  from_second = number_next 17 60 1 0 0 (omega arith) a.second.upto b.second.upto (omega arith) (omega arith) none_left

  from_minute : IsOrderedFrom 14 (minute_number xs) (minute_number ys)
  from_minute =
      number_next 14 59 100 _ _ (omega arith) a.minute.upto b.minute.upto (second_fits xs a) (second_fits ys b)
      (mark_next 16 58 _ _ (omega arith) a.minute_end b.minute_end from_second)

  from_hour : IsOrderedFrom 11 (hour_number xs) (hour_number ys)
  from_hour =
      number_next 11 23 10_000 _ _ (omega arith) a.hour.upto b.hour.upto (minute_fits xs a) (minute_fits ys b)
      (mark_next 13 58 _ _ (omega arith) a.hour_end b.hour_end from_minute)

  from_day : IsOrderedFrom 8 (day_number xs) (day_number ys)
  from_day =
      number_next 8 31 1_000_000 _ _ (omega arith) a.day.upto b.day.upto (hour_fits xs a) (hour_fits ys b)
      (mark_next 10 95 _ _ (omega arith) a.day_end b.day_end from_hour)

  from_month : IsOrderedFrom 5 (month_number xs) (month_number ys)
  from_month =
      number_next 5 12 100_000_000 _ _ (omega arith) a.month.upto b.month.upto (day_fits xs a) (day_fits ys b)
      (mark_next 7 45 _ _ (omega arith) a.month_end b.month_end from_day)

  from_century : IsInOrder xs ys (century_number xs) (century_number ys)
  from_century =
      number_next 0 99 1_000_000_000_000 _ _ (omega arith) a.century.upto b.century.upto (year_fits xs a) (year_fits ys b)
      (number_next 2 99 10_000_000_000 _ _ (omega arith) a.year.upto b.year.upto (month_fits xs a) (month_fits ys b)
      (mark_next 4 45 _ _ (omega arith) a.year_end b.year_end from_month))

-- ---- the same by the year, the month and the others

pub record Numbers : Type 0 where
  pub year : ℕ
  pub month : ℕ
  pub day : ℕ
  pub hour : ℕ
  pub minute : ℕ
  pub second : ℕ

abbrev pub numbers_of : List ℕ → Numbers
numbers_of octets = record {
  year = 100 * number_at octets 0 + number_at octets 2;
  month = number_at octets 5;
  day = number_at octets 8;
  hour = number_at octets 11;
  minute = number_at octets 14;
  second = number_at octets 17;
}

abbrev pub packed : Numbers → ℕ
packed n = n.year * 10_000_000_000 + (n.month * 100_000_000 + (n.day * 1_000_000 + (n.hour * 10_000 + (n.minute * 100 + n.second))))

pub record HasRange (n : Numbers) : Type 0 where
  pub years : n.year < 10_000
  pub months_from : 1 ≤ n.month
  pub months_upto : n.month ≤ 12
  pub days_from : 1 ≤ n.day
  pub days_upto : n.day ≤ 31
  pub hours : n.hour < 24
  pub minutes : n.minute < 60
  pub seconds : n.second ≤ 60

one_number : (century year month day hour minute second : ℕ)
    → century * 1_000_000_000_000
    + (year * 10_000_000_000 + (month * 100_000_000 + (day * 1_000_000 + (hour * 10_000 + (minute * 100 + (second * 1 + 0))))))
    ≡ (100 * century + year) * 10_000_000_000 + (month * 100_000_000 + (day * 1_000_000 + (hour * 10_000 + (minute * 100 + second))))
one_number century year month day hour minute second = omega arith

packed_is : (octets : List ℕ) → century_number octets ≡ packed (numbers_of octets)
packed_is octets = one_number (number_at octets 0) (number_at octets 2) _ _ _ _ _

pub dates_in_order : (xs ys : List ℕ) → HasNumbers xs → HasNumbers ys → IsInOrder xs ys (packed (numbers_of xs)) (packed (numbers_of ys))
dates_in_order xs ys a b = subst₂ (IsInOrder xs ys) (packed_is xs) (packed_is ys) (from_century xs ys a b)

year_below : (century year : ℕ) → century ≤ 99 → year ≤ 99 → 100 * century + year < 10_000
year_below century year h k = omega arith

pub range_of : (octets : List ℕ) → HasNumbers octets → HasRange (numbers_of octets)
range_of octets has = record {
  years = year_below (number_at octets 0) (number_at octets 2) has.century.upto.4 has.year.upto.4;
  months_from = has.month.from;
  months_upto = has.month.upto.4;
  days_from = has.day.from;
  days_upto = has.day.upto.4;
  hours = lt_of_le_of_lt has.hour.upto.4 (omega arith);
  minutes = lt_of_le_of_lt has.minute.upto.4 (omega arith);
  seconds = has.second.upto.4;
}
