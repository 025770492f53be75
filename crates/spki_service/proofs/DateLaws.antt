-- Which date seconds are.
use Rattle.std.proofs.Common.{◌≡◌, ℕ, ◌+◌, ◌-◌, ◌*◌, ◌/◌, ◌%◌, ◌<◌, ◌≤◌, true, false, ◌&&◌, nat_le, List, Option, Some, None, MatchOption, refl, sym, ap, subst, ◌∙◌, true≢false, arith, rules, inl, inr, neg_ℤ, ℤ, pos, negsuc, ◌*ℤ◌, ◌<ℤ◌, ◌≤ℤ◌, unsigned_abs}
use Rattle.std.proofs.lemmas.{Bool.{and_from, Decides.{nat_tests}}, Int.{by_lt_z}}
use Rattle.jiff_core.specs.declared.civil.{time.Time.{Time}, date.Date.{Date}, datetime.DateTime.{DateTime}}
use Rattle.jiff_core.specs.{Calendar.{IsCivilDate, days_from_civil}, Date.{epoch_day}, DateTime.{civil_nanos}}
use Rattle.jiff_core.proofs.{SignedLemmas.{signed_arith}, MarchLemmas.{day_count-early}}
use Rattle.jiff_core.proofs.{CalendarLemmas.{days_in_month_bounds, days_from_civil-day_count}, DateLemmas.{civil, epoch_day_injective, epoch_day-lt}}
use Rattle.jiff_core.proofs.DateTimeLemmas.{civil_nanos-parts, civil_nanos_range, civil_nanos_injective, time_nanos_bound, time_nanos_injective}
use Rattle.spki_tag.specs.Tag.{is_digit, is_time, is_date}
use Rattle.spki_service.specs.Questions.{date_octets, IsDateAt, IsAtNoDate}

-- ---- the moment as a date and a time of day

abbrev time_of : (hour minute second : ℕ) → hour < 24 → minute < 60 → second < 60 → Time
time_of hour minute second hours minutes whole = record {
  hour = hour;
  minute = minute;
  second = second;
  subsec_nanosecond = 0;
  hour_in = hours;
  minute_in = minutes;
  second_in = whole;
  subsec_in = omega arith;
}

abbrev moment_of : (seconds : ℤ) (octets : List ℕ) → IsDateAt seconds octets → DateTime
moment_of seconds octets d = record {
  date = record { year = pos d.year; month = d.month; day = d.day; year_in = d.civil.0; month_in = d.civil.1; day_in = d.civil.2 };
  time = time_of d.hour d.minute d.second d.hours d.minutes d.whole;
}

counted_nanos : (seconds : ℤ) (octets : List ℕ) (d : IsDateAt seconds octets)
    → civil_nanos (moment_of seconds octets d) ≡ seconds *ℤ pos 1_000_000_000
counted_nanos seconds octets d = omega (arith, signed_arith, civil_nanos-parts (moment_of seconds octets d), d.counted)

-- ---- seconds without a date

-- 0000-01-01
first_date : Date
first_date = record { year = pos 0; month = 1; day = 1; year_in = search rules; month_in = search rules; day_in = search rules }

first_day : epoch_day first_date ≡ neg_ℤ (pos 719_528)
unfolding first_date
first_day =
    omega (arith, signed_arith, days_from_civil-day_count, day_count-early (pos 0) 9999 1 1 refl (omega arith) (omega arith) (omega arith))

first_year : first_date.year ≡ pos 0
unfolding first_date
first_year = refl

-- seconds without a date are not those of a date
pub no_date : (seconds : ℤ) (octets : List ℕ) → IsAtNoDate seconds → ¬ IsDateAt seconds octets
no_date seconds octets (inl early) d = absurd (omega (arith, signed_arith, early, d.since))
no_date seconds octets (inr late) d =
    let range = civil_nanos_range (moment_of seconds octets d) in
    omega (arith, signed_arith, counted_nanos seconds octets d, late, range.1)

-- ---- seconds with a date

not_negative : (z : ℤ) → pos 0 ≤ℤ z → z ≡ pos (unsigned_abs z)
not_negative (pos n) h = refl
not_negative (negsuc n) h = absurd (omega (arith, signed_arith, h))

-- seconds that are not negative are in no year before 0
pub late_year : (seconds : ℤ) (dt : DateTime) → civil_nanos dt ≡ seconds *ℤ pos 1_000_000_000 → pos 0 ≤ℤ seconds → pos 0 ≤ℤ dt.date.year
late_year seconds dt e since =
    by_lt_z dt.date.year (pos 0)
    (λ early. let before : epoch_day dt.date <ℤ epoch_day first_date = epoch_day-lt dt.date first_date (inl (rw first_year early)) in
    absurd (omega (arith, signed_arith, civil_nanos-parts dt, time_nanos_bound dt.time, e, before, first_day, since)))
    (λ late. late)

pub date_of : (seconds : ℤ) (dt : DateTime) → civil_nanos dt ≡ seconds *ℤ pos 1_000_000_000 → pos 0 ≤ℤ seconds → pos 0 ≤ℤ dt.date.year
    → IsDateAt seconds (date_octets (unsigned_abs dt.date.year) dt.date.month dt.date.day dt.time.hour dt.time.minute dt.time.second)
date_of seconds dt e since late =
    let year : dt.date.year ≡ pos (unsigned_abs dt.date.year) = not_negative dt.date.year late in
    let day : days_from_civil dt.date.year dt.date.month dt.date.day ≡ days_from_civil (pos (unsigned_abs dt.date.year)) dt.date.month dt.date.day =
    ap (λ y. days_from_civil y dt.date.month dt.date.day) year in
    record {
      year = unsigned_abs dt.date.year;
      month = dt.date.month;
      day = dt.date.day;
      hour = dt.time.hour;
      minute = dt.time.minute;
      second = dt.time.second;
      since = since;
      civil = subst (λ y. IsCivilDate y dt.date.month dt.date.day) year (civil dt.date);
      hours = dt.time.hour_in;
      minutes = dt.time.minute_in;
      whole = dt.time.second_in;
      counted = omega (arith, signed_arith, civil_nanos-parts dt, e, day);
      written = refl;
    }

-- ---- a date is one

digit_true : (n : ℕ) → n < 10 → is_digit (48 + n) ≡ true
digit_true n h = grind (arith, nat_tests)

le_true : (m n : ℕ) → m ≤ n → nat_le m n ≡ true
le_true m n h = grind (arith, nat_tests)

number_true : (n low high : ℕ) → n < 100 → low ≤ n → n ≤ high
    → (is_digit (48 + n / 10) && is_digit (48 + n % 10) && nat_le low (10 * ((48 + n / 10) - 48) + ((48 + n % 10) - 48))
    && nat_le (10 * ((48 + n / 10) - 48) + ((48 + n % 10) - 48)) high) ≡ true
number_true n low high below h k = search (rules, digit_true, le_true, and_from)

pub date_true : (year month day hour minute second : ℕ) → year < 10000 → 1 ≤ month → month ≤ 12 → 1 ≤ day → day ≤ 31
    → hour < 24 → minute < 60 → second < 60 → is_date (date_octets year month day hour minute second) ≡ true
unfolding is_date is_time
date_true year month day hour minute second low m n d e h i s = search (rules, number_true, and_from)

pub is_some_date : (seconds : ℤ) (octets : List ℕ) → IsDateAt seconds octets → is_date octets ≡ true
is_some_date seconds octets d =
    let year : d.year < 10000 = omega (arith, signed_arith, d.civil.0.1) in
    let day : d.day ≤ 31 = omega (arith, d.civil.2.1, days_in_month_bounds (pos d.year) d.month) in
    rw d.written
    (date_true d.year d.month d.day d.hour d.minute d.second year d.civil.1.0 d.civil.1.1 d.civil.2.0 day d.hours d.minutes d.whole)

-- so the octets are read as this date
pub dated : (seconds : ℤ) (octets : List ℕ) (r : Option (List ℕ)) → IsDateAt seconds octets
    → MatchOption r (is_date octets ≡ false) (λ date. (date ≡ octets) × (is_date date ≡ true))
    → MatchOption r (IsAtNoDate seconds) (λ date. IsDateAt seconds date)
dated seconds octets None d h = absurd (true≢false (sym (is_some_date seconds octets d) ∙ h))
dated seconds octets (Some date) d h = subst (IsDateAt seconds) (sym h.0) d

-- ---- seconds have one date at most

pub one_date : (seconds : ℤ) (date other : List ℕ) → IsDateAt seconds date → IsDateAt seconds other → date ≡ other
one_date seconds date other d f =
    let a = moment_of seconds date d in
    let b = moment_of seconds other f in
    let same = civil_nanos_injective a b (counted_nanos seconds date d ∙ sym (counted_nanos seconds other f)) in
    let days = epoch_day_injective a.date b.date same.0 in
    let clock = time_nanos_injective a.time b.time same.1 in
    let year : d.year ≡ f.year = (let y : pos d.year ≡ pos f.year = days.0 in cc) in
    let month : d.month ≡ f.month = days.1 in
    let day : d.day ≡ f.day = days.2 in
    let hour : d.hour ≡ f.hour = clock.0 in
    let minute : d.minute ≡ f.minute = clock.1 in
    let second : d.second ≡ f.second = clock.2 in
    d.written ∙ rw (year, month, day, hour, minute, second) refl ∙ sym f.written
