-- Each second has a date, the one that its text shows.
use Rattle.std.proofs.Common.{◌≡◌, ℕ, zero, suc, ◌+◌, ◌-◌, ◌*◌, ◌/◌, ◌%◌, ◌<◌, ◌≤◌, ◌^◌, ◌⊎◌, inl, inr, refl, sym, ap, ◌∙◌, arith}
use Rattle.std.proofs.lemmas.Bool.{cases_lt, lt-ltb, le-ltb}
use Rattle.httpdate.specs.Calendar.{days_in_year, days_in_month, days_of_years, days_of_months, days_from_civil, weekday, IsCivilDate}
use Rattle.httpdate.specs.Date.{unix_secs, date_text}
use Rattle.httpdate.specs.Valid.{IsValid, parts_secs}
use Rattle.httpdate.specs.declared.date.HttpDate.{HttpDate}
use Rattle.httpdate.proofs.CalendarLemmas.{days_of_months_more, days_of_months_all}
use Rattle.httpdate.proofs.Theorems.{date_text_is}
use Rattle.httpdate.proofs.ValidLemmas.{is_valid_complete}
use Rattle.h1_model.specs.Moment.{second_of, year_from, month_from, year_of_day, month_of_day, date_of_second, moment_text}
use Rattle.local_reply.specs.Laws.{IsDateOfSecond, MomentsHaveTexts}

-- ---- years

year_is_long : (y : ℕ) → 365 ≤ days_in_year y
year_is_long y = grind arith

years_more : (y : ℕ) → 1970 ≤ y → days_of_years (suc y - 1970) ≡ days_of_years (y - 1970) + days_in_year y
unfolding days_of_years
years_more y h =
    let next : suc y - 1970 ≡ suc (y - 1970) = omega arith in
    let year : 1970 + (y - 1970) ≡ y = omega arith in
    rw (next, year) refl

-- the days before the year and those before the day within it are all the days
year_sum : (n y d : ℕ) → 1970 ≤ y
    → days_of_years ((year_from n y d).0 - 1970) + (year_from n y d).1 ≡ days_of_years (y - 1970) + d
unfolding year_from
year_sum zero y d h = refl
year_sum (suc n) y d h =
    elim (cases_lt d (days_in_year y)) [
      | inl lt ↦ rw (lt-ltb d (days_in_year y) lt) refl
      | inr le ↦
          let more = years_more y h in
          let later = year_sum n (suc y) (d - days_in_year y) (omega arith) in
          rw (le-ltb d (days_in_year y) le) (omega (arith, more, later, le))
    ]

year_low : (n y d : ℕ) → 1970 ≤ y → 1970 ≤ (year_from n y d).0
unfolding year_from
year_low zero y d h = h
year_low (suc n) y d h =
    elim (cases_lt d (days_in_year y)) [
      | inl lt ↦ rw (lt-ltb d (days_in_year y) lt) h
      | inr le ↦ rw (le-ltb d (days_in_year y) le) (year_low n (suc y) (d - days_in_year y) (omega arith))
    ]

-- where as many years may be passed over as there are days, the day is one of the year
year_within : (n y d : ℕ) → d ≤ n → (year_from n y d).1 < days_in_year (year_from n y d).0
unfolding year_from
year_within zero y d h = omega (arith, year_is_long y)
year_within (suc n) y d h =
    elim (cases_lt d (days_in_year y)) [
      | inl lt ↦ rw (lt-ltb d (days_in_year y) lt) lt
      | inr le ↦
          rw (le-ltb d (days_in_year y) le)
          (year_within n (suc y) (d - days_in_year y) (omega (arith, year_is_long y)))
    ]

years_are_long : (n : ℕ) → 365 * n ≤ days_of_years n
unfolding days_of_years
years_are_long zero = omega arith
years_are_long (suc n) = omega (arith, years_are_long n, year_is_long (1970 + n))

-- ---- months

month_is_long : (y m : ℕ) → 1 ≤ days_in_month y m
month_is_long y m = grind arith

-- the same of months
months_more : (y m : ℕ) → 1 ≤ m → days_of_months y (suc m - 1) ≡ days_of_months y (m - 1) + days_in_month y m
months_more y m h =
    let back : suc m - 1 ≡ m = omega arith in
    rw back (days_of_months_more y m h)

month_sum : (n y m d : ℕ) → 1 ≤ m
    → days_of_months y ((month_from n y m d).0 - 1) + (month_from n y m d).1 ≡ days_of_months y (m - 1) + d
unfolding month_from
month_sum zero y m d h = refl
month_sum (suc n) y m d h =
    elim (cases_lt d (days_in_month y m)) [
      | inl lt ↦ rw (lt-ltb d (days_in_month y m) lt) refl
      | inr le ↦
          let more = months_more y m h in
          let later = month_sum n y (suc m) (d - days_in_month y m) (omega arith) in
          rw (le-ltb d (days_in_month y m) le) (omega (arith, more, later, le))
    ]

month_low : (n y m d : ℕ) → 1 ≤ m → 1 ≤ (month_from n y m d).0
unfolding month_from
month_low zero y m d h = h
month_low (suc n) y m d h =
    elim (cases_lt d (days_in_month y m)) [
      | inl lt ↦ rw (lt-ltb d (days_in_month y m) lt) h
      | inr le ↦ rw (le-ltb d (days_in_month y m) le) (month_low n y (suc m) (d - days_in_month y m) (omega arith))
    ]

month_high : (n y m d : ℕ) → m + n ≤ 12 → (month_from n y m d).0 ≤ 12
unfolding month_from
month_high zero y m d h = omega arith
month_high (suc n) y m d h =
    elim (cases_lt d (days_in_month y m)) [
      | inl lt ↦ rw (lt-ltb d (days_in_month y m) lt) (omega arith)
      | inr le ↦ rw (le-ltb d (days_in_month y m) le) (month_high n y (suc m) (d - days_in_month y m) (omega arith))
    ]

-- a day of the year is a day of the month, where December is the last that may be reached
month_within : (n y m d : ℕ) → 1 ≤ m → m + n ≡ 12 → days_of_months y (m - 1) + d < days_of_months y 12
    → (month_from n y m d).1 < days_in_month y (month_from n y m d).0
unfolding month_from
month_within zero y m d h e lt =
    let last : m ≡ 12 = omega arith in
    let more = days_of_months_more y m h in
    let all : days_of_months y m ≡ days_of_months y 12 = rw last refl in
    omega (arith, more, all, lt)
month_within (suc n) y m d h e lt =
    elim (cases_lt d (days_in_month y m)) [
      | inl less ↦ rw (lt-ltb d (days_in_month y m) less) less
      | inr le ↦
          let more = months_more y m h in
          rw (le-ltb d (days_in_month y m) le)
          (month_within n y (suc m) (d - days_in_month y m) (omega arith) (omega arith) (omega (arith, more, lt, le)))
    ]

-- ---- dates

-- a day until the year 2554 is a day of the calendar
day_is_civil : (days : ℕ) → days < 213504
    → IsCivilDate (year_of_day days).0 (month_of_day days).0 (suc (month_of_day days).1)
unfolding days_of_years days_of_months
day_is_civil days h =
    let year = (year_of_day days).0 in
    let left = (year_of_day days).1 in
    let low = year_low days 1970 days (omega arith) in
    let sum = year_sum days 1970 days (omega arith) in
    let long = years_are_long (year - 1970) in
    let within = year_within days 1970 days (omega arith) in
    let all = days_of_months_all year in
    let none : days_of_months year (1 - 1) ≡ 0 = refl in
    let no_year : days_of_years (1970 - 1970) ≡ 0 = refl in
    let day = month_within 11 year 1 left (omega arith) refl (omega (arith, within, all, none)) in (
      (low, omega (arith, low, sum, long, no_year)),
      (month_low 11 year 1 left (omega arith), month_high 11 year 1 left (omega arith)),
      (omega arith, omega (arith, day)),
    )

day_is : (days : ℕ) → days < 213504
    → days_from_civil (year_of_day days).0 (month_of_day days).0 (suc (month_of_day days).1) ≡ days
unfolding days_of_years days_of_months
day_is days h =
    let year = year_sum days 1970 days (omega arith) in
    let month = month_sum 11 (year_of_day days).0 1 (year_of_day days).1 (omega arith) in
    omega (arith, year, month)

second_fits : (now : ℕ) → now < 2 ^ 64 → second_of now ≤ 18446744073
second_fits now h = omega (arith, h)

date_is : (second : ℕ) → second ≤ 18446744073 → IsDateOfSecond second
date_is second h =
    let days = second / 86400 in
    let few : days < 213504 = omega (arith, h) in
    let same = day_is days few in
    record {
      valid = (day_is_civil days few, (omega arith, omega arith, omega arith), ap weekday (sym same));
      seconds = omega (arith, same);
    }

pub moments_have_texts : MomentsHaveTexts
moments_have_texts now h = date_is (second_of now) (second_fits now h)

-- the text of a date of that second is that of the moment
pub text_of_moment : (date : HttpDate) (now : ℕ) → now < 2 ^ 64 → unix_secs date ≡ second_of now → date_text date ≡ moment_text now
text_of_moment date now h same =
    let is = moments_have_texts now h in
    date_text_is date (date_of_second (second_of now)) (is_valid_complete (date_of_second (second_of now)) is.valid) (same ∙ sym is.seconds)
