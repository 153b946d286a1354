-- A moment as an HTTP date (RFC 9110, section 5.6.7).
use Rattle.std.specs.Prelude.{ℕ, zero, suc, ◌-◌, ◌/◌, ◌%◌, List, nat_lt, if◌then◌else◌}
use Rattle.httpdate.specs.Calendar.{days_in_year, days_in_month, weekday}
use Rattle.httpdate.specs.Text.{imf_fixdate}
use Rattle.httpdate.specs.declared.parts.Parts.{Parts}

-- a moment is a number of nanoseconds since 1970-01-01 00:00:00 UTC; the text of one has whole seconds
abbrev pub nanos_in_second : ℕ
nanos_in_second = 1_000_000_000

abbrev pub second_of : ℕ → ℕ
second_of now = now / nanos_in_second

-- the year in which a day falls, and how many days of that year are before it; days are counted from the first of the year
-- `year`, and at most `n` years are passed over
unfoldable pub year_from : ℕ → ℕ → ℕ → ℕ × ℕ
year_from zero year day = (year, day)
year_from (suc n) year day =
    if nat_lt day (days_in_year year) then (year, day) else year_from n (suc year) (day - days_in_year year)

-- the same of the months of a year, from this month on
unfoldable pub month_from : ℕ → ℕ → ℕ → ℕ → ℕ × ℕ
month_from zero year month day = (month, day)
month_from (suc n) year month day =
    if nat_lt day (days_in_month year month) then (month, day)
    else month_from n year (suc month) (day - days_in_month year month)

-- the year and the month of a day, counted from 1 January 1970, and how many days of them are before it; a year has a day, so
-- no more years are passed over than days
abbrev pub year_of_day : ℕ → ℕ × ℕ
year_of_day days = year_from days 1970 days

abbrev pub month_of_day : ℕ → ℕ × ℕ
month_of_day days = let year = year_of_day days in month_from 11 year.0 1 year.1

-- the date and the time of a second since 1970, without leap seconds
abbrev pub date_at : ℕ → ℕ → Parts
date_at days clock = record {
  year = (year_of_day days).0;
  mon = (month_of_day days).0;
  day = suc (month_of_day days).1;
  hour = clock / 3600;
  min = clock % 3600 / 60;
  sec = clock % 60;
  wday = weekday days;
}

abbrev pub date_of_second : ℕ → Parts
date_of_second second = date_at (second / 86400) (second % 86400)

-- the text of a moment: that of the second in which it falls
abbrev pub moment_text : ℕ → List ℕ
moment_text now = imf_fixdate (date_of_second (second_of now))
