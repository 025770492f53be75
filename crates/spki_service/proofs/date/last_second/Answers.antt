use Rattle.std.proofs.Common.{◌≡◌, ◌+◌, ◌*◌, ◌<◌, ◌≤◌, ◌⊎◌, inl, inr, min, sym, ap, subst, ◌∙◌, arith, pos, w32, w64, FitsSigned, to_z-of_z}
use Rattle.jiff_core.{proofs.SignedLemmas.{signed_arith, signed_casts}, specs.Calendar.{days_in_month, days_from_civil}}
use Rattle.spki_service.specs.Questions.{number_at, clock_at}
use Rattle.spki_service.proofs.{DateSeconds.{HasNumbers, numbers_in, last_is}, date.last_second.Goals.{then-civil-day, else-civil-day}}
use Rattle.spki_service.proofs.date.last_second.Goals as goal

pub number_at-requires-clause-within : goal.number_at-requires-clause-within
number_at-requires-clause-within c =
    let n : HasNumbers c.as_slice-octets.result.now = numbers_in _ _ c.as_slice-octets.ensures c.prove_limits.ensures.ends in
    let long = n.long in omega arith

pub number_at-requires-clause-digits : goal.number_at-requires-clause-digits
number_at-requires-clause-digits c =
    let n : HasNumbers c.as_slice-octets.result.now = numbers_in _ _ c.as_slice-octets.ensures c.prove_limits.ensures.ends in
    let u = n.century.upto in (u.0, u.1, u.2, u.3, omega (arith, u.4))

pub number_at-requires-2-clause-within : goal.number_at-requires-2-clause-within
number_at-requires-2-clause-within c =
    let n : HasNumbers c.as_slice-octets.result.now = numbers_in _ _ c.as_slice-octets.ensures c.prove_limits.ensures.ends in
    let long = n.long in omega arith

pub number_at-requires-2-clause-digits : goal.number_at-requires-2-clause-digits
number_at-requires-2-clause-digits c =
    let n : HasNumbers c.as_slice-octets.result.now = numbers_in _ _ c.as_slice-octets.ensures c.prove_limits.ensures.ends in
    let u = n.year.upto in (u.0, u.1, u.2, u.3, omega (arith, u.4))

pub number_at-month-requires-clause-within : goal.number_at-month-requires-clause-within
number_at-month-requires-clause-within c =
    let n : HasNumbers c.as_slice-octets.result.now = numbers_in _ _ c.as_slice-octets.ensures c.prove_limits.ensures.ends in
    let long = n.long in omega arith

pub number_at-month-requires-clause-digits : goal.number_at-month-requires-clause-digits
number_at-month-requires-clause-digits c =
    let n : HasNumbers c.as_slice-octets.result.now = numbers_in _ _ c.as_slice-octets.ensures c.prove_limits.ensures.ends in
    let u = n.month.upto in (u.0, u.1, u.2, u.3, omega (arith, u.4))

pub number_at-day-requires-clause-within : goal.number_at-day-requires-clause-within
number_at-day-requires-clause-within c =
    let n : HasNumbers c.as_slice-octets.result.now = numbers_in _ _ c.as_slice-octets.ensures c.prove_limits.ensures.ends in
    let long = n.long in omega arith

pub number_at-day-requires-clause-digits : goal.number_at-day-requires-clause-digits
number_at-day-requires-clause-digits c =
    let n : HasNumbers c.as_slice-octets.result.now = numbers_in _ _ c.as_slice-octets.ensures c.prove_limits.ensures.ends in
    let u = n.day.upto in (u.0, u.1, u.2, u.3, omega (arith, u.4))

pub constrain-civil-requires-clause-year_in : goal.constrain-civil-requires-clause-year_in
constrain-civil-requires-clause-year_in c =
    let n : HasNumbers c.as_slice-octets.result.now = numbers_in _ _ c.as_slice-octets.ensures c.prove_limits.ensures.ends in
    omega (arith, signed_casts, c.number_at.ensures, c.number_at-2.ensures, n.century.upto.4, n.year.upto.4)

pub constrain-civil-requires-clause-month_in : goal.constrain-civil-requires-clause-month_in
constrain-civil-requires-clause-month_in c =
    let n : HasNumbers c.as_slice-octets.result.now = numbers_in _ _ c.as_slice-octets.ensures c.prove_limits.ensures.ends in
    omega (arith, c.number_at-month.ensures, n.month.from, n.month.upto.4)

pub constrain-civil-requires-clause-day_in : goal.constrain-civil-requires-clause-day_in
constrain-civil-requires-clause-day_in c =
    let n : HasNumbers c.as_slice-octets.result.now = numbers_in _ _ c.as_slice-octets.ensures c.prove_limits.ensures.ends in
    omega (arith, c.number_at-day.ensures, n.day.from)

pub clock_at-clock-requires-clause-within : goal.clock_at-clock-requires-clause-within
clock_at-clock-requires-clause-within c =
    let n : HasNumbers c.as_slice-octets.result.now = numbers_in _ _ c.as_slice-octets.ensures c.prove_limits.ensures.ends in
    let long = n.long in omega arith

pub clock_at-clock-requires-clause-hour : goal.clock_at-clock-requires-clause-hour
clock_at-clock-requires-clause-hour c =
    let n : HasNumbers c.as_slice-octets.result.now = numbers_in _ _ c.as_slice-octets.ensures c.prove_limits.ensures.ends in
    n.hour.upto

pub clock_at-clock-requires-clause-minute : goal.clock_at-clock-requires-clause-minute
clock_at-clock-requires-clause-minute c =
    let n : HasNumbers c.as_slice-octets.result.now = numbers_in _ _ c.as_slice-octets.ensures c.prove_limits.ensures.ends in
    n.minute.upto

pub clock_at-clock-requires-clause-second : goal.clock_at-clock-requires-clause-second
clock_at-clock-requires-clause-second c =
    let n : HasNumbers c.as_slice-octets.result.now = numbers_in _ _ c.as_slice-octets.ensures c.prove_limits.ensures.ends in
    n.second.upto

pub returns : goal.returns
returns c =
    let n : HasNumbers c.as_slice-octets.result.now = numbers_in _ _ c.as_slice-octets.ensures c.prove_limits.ensures.ends in
    let octets = c.as_slice-octets.result.now in
    let civil = c.constrain-civil.result in
    let year : civil.year ≡ pos (100 * number_at octets 0 + number_at octets 2) =
    omega (arith, signed_casts, c.constrain-civil.ensures.year, c.number_at.ensures, c.number_at-2.ensures, n.century.upto.4, n.year.upto.4) in
    let clock : ((civil.day < c.number_at-day.result) × (c.if-civil-day.clock ≡ 86399))
    ⊎ ((c.number_at-day.result ≤ civil.day) × (c.if-civil-day.clock ≡ clock_at octets 11)) =
    elim c.if-civil-day.branch [
      | then-civil-day w ↦ inl (w.if-civil-day.true, w.clock-is)
      | else-civil-day w ↦ inr (w.if-civil-day.false, w.clock-is ∙ w.clock_at-clock.ensures.value)
    ] in
    let number : c.to_unix_epoch_day.result ≡ days_from_civil civil.year c.number_at-month.result civil.day =
    c.to_unix_epoch_day.ensures.value ∙ ap (λ m. days_from_civil civil.year m civil.day) c.constrain-civil.ensures.month in
    let day : civil.day ≡ min c.number_at-day.result (days_in_month civil.year c.number_at-month.result) =
    subst (λ y. civil.day ≡ min c.number_at-day.result (days_in_month y c.number_at-month.result)) (sym c.constrain-civil.ensures.year) c.constrain-civil.ensures.day in
    let small : FitsSigned w32 c.to_unix_epoch_day.result = omega (arith, signed_arith, c.to_unix_epoch_day.ensures.bound) in
    let fits : FitsSigned w64 c.seconds_of.result = omega (arith, signed_arith, c.seconds_of.type_inv) in
    let value = last_is c.args.date.now octets civil.year c.number_at-month.result c.number_at-day.result civil.day c.if-civil-day.clock
    c.to_unix_epoch_day.result c.seconds_of.result c.as_slice-octets.ensures year c.number_at-month.ensures c.number_at-day.ensures day clock
    number (simp to_z-of_z at c.seconds_of.ensures) in
    simp to_z-of_z value
