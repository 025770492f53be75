-- The numbers of a date.
use Rattle.std.proofs.Common.{◌≡◌, ℕ, ◌+◌, ◌-◌, ◌*◌, ◌/◌, ◌%◌, ◌<◌, ◌≤◌, true, Bool, ◌&&◌, ◌==◌, nat_le, List, length, drop, slice_index, min, nat_lt, cond, ◌⊎◌, inl, inr, ℤ, pos, ◌+ℤ◌, ◌*ℤ◌, refl, sym, ap, ◌∙◌, subst, arith, rules}
use Rattle.std.proofs.lemmas.{Bool.{and_parts, Decides.{nat_tests}}, List.{get_or-drop}}
use Rattle.jiff_core.specs.Calendar.{IsCivilDate, days_in_month, days_from_civil}
use Rattle.jiff_core.proofs.{SignedLemmas.{signed_arith}, CalendarLemmas.{days_in_month_bounds}}
use Rattle.spki_tag.specs.Tag.{is_number_at, is_time, is_date}
use Rattle.spki_service.specs.Questions.{date_octets, IsDateAt, number_at, clock_at, last_second, IsNumberUpto}

le_of : (m n : ℕ) → nat_le m n ≡ true → m ≤ n
le_of m n h = grind (arith, nat_tests)

pub record IsNumberFrom (octets : List ℕ) (i low high : ℕ) : Type 0 where
  pub from : low ≤ number_at octets i
  pub upto : IsNumberUpto octets i high

number_from : (octets : List ℕ) (i low high : ℕ) → is_number_at octets i low high ≡ true → IsNumberFrom octets i low high
number_from octets i low high h = search (rules, and_parts, le_of)

-- the numbers of a date, where they are, and what is between them
pub record HasNumbers (octets : List ℕ) : Type 0 where
  pub long : length octets ≡ 19
  pub century : IsNumberFrom octets 0 0 99
  pub year : IsNumberFrom octets 2 0 99
  pub year_end : slice_index octets 4 ≡ 45
  pub month : IsNumberFrom octets 5 1 12
  pub month_end : slice_index octets 7 ≡ 45
  pub day : IsNumberFrom octets 8 1 31
  pub day_end : slice_index octets 10 ≡ 95
  pub hour : IsNumberFrom octets 11 0 23
  pub hour_end : slice_index octets 13 ≡ 58
  pub minute : IsNumberFrom octets 14 0 59
  pub minute_end : slice_index octets 16 ≡ 58
  pub second : IsNumberFrom octets 17 0 60

number_behind : (octets : List ℕ) (i low high : ℕ) → is_number_at (drop 11 octets) i low high ≡ true → is_number_at octets (11 + i) low high ≡ true
number_behind octets i low high h =
    let next : 11 + i + 1 ≡ 11 + (i + 1) = omega arith in
    rw (next, ← get_or-drop 11 octets i 0, ← get_or-drop 11 octets (i + 1) 0) h

-- each part of a test of nine parts is true if the test is; below the same of six parts
module _ (a b c d e f g h i : Bool) where
  all_parts : (a && b && c && d && e && f && g && h && i) ≡ true
      → (a ≡ true) × (b ≡ true) × (c ≡ true) × (d ≡ true) × (e ≡ true) × (f ≡ true) × (g ≡ true) × (h ≡ true) × (i ≡ true)
  all_parts all = grind arith

module _ (a b c d e f : Bool) where
  six_parts : (a && b && c && d && e && f) ≡ true → (a ≡ true) × (b ≡ true) × (c ≡ true) × (d ≡ true) × (e ≡ true) × (f ≡ true)
  six_parts all = grind arith

same_as : (m n : ℕ) → (m == n) ≡ true → m ≡ n
same_as m n h = grind (arith, nat_tests)

pub has_numbers : (octets : List ℕ) → is_date octets ≡ true → HasNumbers octets
unfolding is_date is_time
has_numbers octets h =
    let p = all_parts _ _ _ _ _ _ _ _ _ h in
    let t = six_parts _ _ _ _ _ _ p.8 in
    record {
      long = same_as (length octets) 19 p.0;
      century = number_from octets 0 0 99 p.1;
      year = number_from octets 2 0 99 p.2;
      year_end = same_as (slice_index octets 4) 45 p.3;
      month = number_from octets 5 1 12 p.4;
      month_end = same_as (slice_index octets 7) 45 p.5;
      day = number_from octets 8 1 31 p.6;
      day_end = same_as (slice_index octets 10) 95 p.7;
      hour = number_from octets 11 0 23 (number_behind octets 0 0 23 t.1);
      hour_end = sym (get_or-drop 11 octets 2 0) ∙ same_as _ 58 t.2;
      minute = number_from octets 14 0 59 (number_behind octets 3 0 59 t.3);
      minute_end = sym (get_or-drop 11 octets 5 0) ∙ same_as _ 58 t.4;
      second = number_from octets 17 0 60 (number_behind octets 6 0 60 t.5);
    }

pub numbers_in : (date octets : List ℕ) → octets ≡ date → is_date date ≡ true → HasNumbers octets
numbers_in date octets same is = has_numbers octets (subst (λ (x : List ℕ). is_date x ≡ true) (sym same) is)

-- ---- the last second

clock_is : (day long d clock at : ℕ) → d ≡ min day long → ((d < day) × (clock ≡ 86399)) ⊎ ((day ≤ d) × (clock ≡ at))
    → clock ≡ cond (nat_lt long day) 86399 at
clock_is day long d clock at e (inl (late, is)) = grind (arith, nat_tests)
clock_is day long d clock at e (inr (early, is)) = grind (arith, nat_tests)

pub last_is : (date octets : List ℕ) (y : ℤ) (month day d clock : ℕ) (number seconds : ℤ) → octets ≡ date
    → y ≡ pos (100 * number_at octets 0 + number_at octets 2) → month ≡ number_at octets 5 → day ≡ number_at octets 8
    → d ≡ min day (days_in_month y month) → ((d < day) × (clock ≡ 86399)) ⊎ ((day ≤ d) × (clock ≡ clock_at octets 11))
    → number ≡ days_from_civil y month d → seconds ≡ number *ℤ pos 86400 +ℤ pos clock → seconds ≡ last_second date
last_is date octets y month day d clock number seconds same year_is month_is day_is d_is clock_of number_is seconds_is =
    let clock_too = clock_is day (days_in_month y month) d clock (clock_at octets 11) d_is clock_of in
    rw (seconds_is, number_is, clock_too, d_is, day_is, month_is, year_is, same) refl

-- ---- the last second of the date of some seconds is these seconds

pub number_back : (n : ℕ) → n < 100 → 10 * ((48 + n / 10) - 48) + ((48 + n % 10) - 48) ≡ n
number_back n h = omega arith

module _ (year month day hour minute second : ℕ) (y : year < 10000) (m : month < 100) (d : day < 100) (h : hour < 100) (i : minute < 100)
    (s : second < 60) where
  abbrev octets : List ℕ
  octets = date_octets year month day hour minute second

  year_back : 100 * number_at octets 0 + number_at octets 2 ≡ year
  year_back = omega (arith, number_back (year / 100) (omega arith), number_back (year % 100) (omega arith))

  clock_back : clock_at octets 11 ≡ hour * 3600 + minute * 60 + second
  clock_back = omega (arith, number_back hour h, number_back minute i, number_back second (omega arith))

  second_of : IsCivilDate (pos year) month day
      → last_second octets ≡ days_from_civil (pos year) month day *ℤ pos 86400 +ℤ pos (hour * 3600 + minute * 60 + second)
  second_of civil =
      sym (last_is octets octets (pos year) month day day (hour * 3600 + minute * 60 + second) (days_from_civil (pos year) month day)
      (days_from_civil (pos year) month day *ℤ pos 86400 +ℤ pos (hour * 3600 + minute * 60 + second)) refl (ap pos (sym year_back))
      (sym (number_back month m)) (sym (number_back day d)) (omega (arith, civil.2.1)) (inr (omega arith, sym clock_back)) refl refl)

pub second_back : (seconds : ℤ) (date : List ℕ) → IsDateAt seconds date → last_second date ≡ seconds
second_back seconds date is =
    let year : is.year < 10000 = omega (arith, signed_arith, is.civil.0.1) in
    let day : is.day < 100 = omega (arith, is.civil.2.1, days_in_month_bounds (pos is.year) is.month) in
    ap last_second is.written
    ∙ second_of is.year is.month is.day is.hour is.minute is.second year (omega (arith, is.civil.1.1)) day (omega (arith, is.hours))
    (omega (arith, is.minutes)) is.whole is.civil
    ∙ sym is.counted
