-- The calendar: days from 0001-01-01 to 9999-12-31, each by its number, which counts from 1970-01-01, and as a text.
use Rattle.std.specs.Prelude.{Bool, List, [], cond, count_by, int_le, min, nat_le, negsuc, not, pos, suc, zero, ℕ, ℤ, ◌%◌, ◌&&◌, ◌*◌, ◌++◌, ◌+◌, ◌-ℤ◌, ◌-◌, ◌/◌, ◌==◌, ◌||◌, ◌∷◌}
use Rattle.wh_base.specs.Lists.{count_from}

-- ---- years and months

-- every fourth year, but of the years that end a century only every fourth
abbrev pub is_leap_year : ℕ → Bool
is_leap_year y = (y % 4 == 0) && (not (y % 100 == 0) || (y % 400 == 0))

abbrev pub days_in_year : ℕ → ℕ
days_in_year y = cond (is_leap_year y) 366 365

-- thirty days have April, June, September and November
abbrev pub days_in_month : ℕ → ℕ → ℕ
days_in_month y m =
    cond (m == 2) (cond (is_leap_year y) 29 28)
    (cond ((m == 4) || ((m == 6) || ((m == 9) || (m == 11)))) 30 31)

-- how many days the first n years have, from the year 1 on
abbrev pub days_of_years : ℕ → ℕ
days_of_years n = 365 * n + n / 4 - n / 100 + n / 400

-- how many days the first n months of a year have
abbrev pub days_of_months : ℕ → ℕ → ℕ
days_of_months y zero = 0
days_of_months y (suc n) = days_of_months y n + days_in_month y (suc n)

-- ---- dates

-- a year, a month and a day of the month, each counted from 1
pub record Date : Type 0 where
  pub year : ℕ
  pub month : ℕ
  pub day : ℕ

abbrev pub is_within : ℕ → ℕ → ℕ → Bool
is_within low high n = nat_le low n && nat_le n high

-- the calendar has this date
abbrev pub is_date : Date → Bool
is_date d = is_within 1 9999 d.year && (is_within 1 12 d.month && is_within 1 (days_in_month d.year d.month) d.day)

-- how many days are before a date, from 0001-01-01 on
abbrev pub days_before : Date → ℕ
days_before d = days_of_years (d.year - 1) + days_of_months d.year (d.month - 1) + (d.day - 1)

-- how many days are before 1970-01-01
abbrev pub epoch : ℕ
epoch = 719162

-- the number of a date: the days from 1970-01-01 on, and negative before it
abbrev pub day_number : Date → ℤ
day_number d = pos (days_before d) -ℤ pos epoch

-- the number is that of a day from 0001-01-01 to 9999-12-31
abbrev pub is_day : ℤ → Bool
is_day n = int_le (negsuc 719161) n && int_le n (pos 2932896)

-- ---- the date of a number

-- the year in which a day lies that has k days before it. 400 years have 146097 days, and so they begin again; a century has 36524,
-- four years have 1461 and a year has 365, but the last century of 400 years and the last year of four may be a day longer
abbrev pub year_of : ℕ → ℕ
year_of k =
    let r = k % 146097 in
    let c = min 3 (r / 36524) in
    let s = r - 36524 * c in
    400 * (k / 146097) + 100 * c + 4 * (s / 1461) + min 3 (s % 1461 / 365) + 1

-- the month in which a day of a year lies that has k days of this year before it: one more than there are months that are over
abbrev pub month_of : ℕ → ℕ → ℕ
month_of y k = suc (count_by (λ n. nat_le (days_of_months y n) k) (count_from 1 11))

-- the date in this year with so many days of the year before it
abbrev pub date_in_year : ℕ → ℕ → Date
date_in_year y k = let m = month_of y k in record { year = y; month = m; day = k - days_of_months y (m - 1) + 1 }

-- the date that has k days before it
abbrev pub date_behind : ℕ → Date
date_behind k = let y = year_of k in date_in_year y (k - days_of_years (y - 1))

-- the days before the day of this number
abbrev pub count_of_day : ℤ → ℕ
count_of_day (pos n) = n + epoch
count_of_day (negsuc n) = epoch - suc n

-- the date of a day
abbrev pub date_of : ℤ → Date
date_of n = date_behind (count_of_day n)

-- ---- as a text

-- so many decimal digits of a number, the last ones
abbrev pub padded : ℕ → ℕ → List ℕ
padded zero n = []
padded (suc k) n = padded k (n / 10) ++ (48 + n % 10) ∷ []

-- YYYY-MM-DD
abbrev pub date_text : Date → List ℕ
date_text d = padded 4 d.year ++ (45 ∷ padded 2 d.month ++ (45 ∷ padded 2 d.day))

abbrev pub day_text : ℤ → List ℕ
day_text n = date_text (date_of n)
