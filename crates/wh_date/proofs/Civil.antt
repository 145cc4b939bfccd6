-- From the year 1 on the kit's calendar has the dates that ours has, and numbers their days alike.
use Rattle.std.proofs.Common.{arith, rules, ap, refl, sym, ℕ, suc, zero, ◌+◌, ◌-◌, ◌<◌, ◌≡◌, ◌≤◌, ◌∙◌, true, false, Bool}
use Rattle.std.proofs.lemmas.Bool.Decides.{nat_tests}
use Rattle.std.proofs.lemmas.Int.{ints}
use Rattle.std.specs.Prelude.{IsTrue, None, Some, negsuc, pos, unsigned_abs, ℤ, ◌-ℤ◌, ◌≤ℤ◌}
use Rattle.jiff_core.proofs.CalendarLemmas.{day_count-epoch, day_count-lt_year}
use Rattle.jiff_core.proofs.DateLemmas.{civil}
use Rattle.jiff_core.proofs.MarchLemmas.{days_of_years-march_days, leap_day-shift}
use Rattle.jiff_core.proofs.SignedLemmas.{signed_arith}
use Rattle.jiff_core.specs.Calendar.{IsCivilDate, IsDate, IsEpochDay, day_count, days_from_civil, days_in_month as month_there, days_of_months as months_there, days_of_years as years_there}
use Rattle.jiff_core.specs.Date.{IsYmd, epoch_day}
use Rattle.jiff_core.specs.March.{march_days}
use Rattle.jiff_core.specs.declared.civil.date.Date.{Date as CivilDate}
use Rattle.wh_base.proofs.Calendar.{IsCivil, civil_by, date_of_number, days_in_year-leap_day, is_date_by, number_is_day, years_suc}
use Rattle.wh_base.specs.DayTexts.{day_of_date}
use Rattle.wh_base.specs.Days.{Date, date_of, day_number, days_before, days_in_month, days_of_months, days_of_years, is_date, is_day}
use Rattle.wh_base.specs.Lists.{where_true}
use Rattle.wh_date.specs.Civil.{shown_date}

-- ---- years and months

march_shift : (n : ℕ) → march_days (n + 10000) ≡ days_of_years n + 3652425
march_shift n = omega arith

-- the kit counts years from -10000 on
years_same : (y : ℕ) → years_there (suc y + 10000) ≡ days_of_years y + 3652791
years_same y =
    let leap = leap_day-shift (pos (suc y)) (suc y + 10000) refl in
    omega (arith, leap, days_of_years-march_days (suc y + 10000), march_shift (suc y), years_suc y, days_in_year-leap_day (suc y))

month_same : (y m : ℕ) → month_there (pos y) m ≡ days_in_month y m
month_same y m = grind (arith, nat_tests)

months_same : (y n : ℕ) → months_there (pos y) n ≡ days_of_months y n
unfolding months_there
months_same y zero = refl
months_same y (suc n) = λ i. months_same y n i + month_same y (suc n) i

-- ---- days

-- the date of a year, a month and a day
abbrev pub date : ℕ → ℕ → ℕ → Date
date y m d = record { year = y; month = m; day = d }

count_same : (y m d : ℕ) → 1 ≤ d → day_count (pos (suc y)) m d ≡ days_before (date (suc y) m d) + 3652791
unfolding day_count
count_same y m d h =
    let back : suc y - 1 ≡ y = omega arith in
    rw (years_same y, months_same (suc y) (m - 1), back) (omega (arith, h))

shift : (k : ℕ) → pos (k + 3652791) -ℤ pos 4371953 ≡ pos k -ℤ pos 719162
shift k = omega (arith, ints)

number_same : (y m d : ℕ) → 1 ≤ d → days_from_civil (pos (suc y)) m d ≡ day_number (date (suc y) m d)
unfolding days_from_civil
number_same y m d h = rw (count_same y m d h, day_count-epoch) (shift (days_before (date (suc y) m d)))

-- before the year 1 there are no days of ours
too_early : (k : ℕ) → k < 3652791 → is_day (pos k -ℤ pos 4371953) ≡ false
too_early k h =
    let back : pos k -ℤ pos 4371953 ≡ negsuc (4371952 - k) = omega (arith, ints, h) in
    rw back (grind (arith, ints, h))

no_day : (y : ℤ) (m d : ℕ) → IsCivilDate y m d → y ≤ℤ pos 0 → is_day (days_from_civil y m d) ≡ false
unfolding days_from_civil
no_day y m d h low =
    let less : day_count y m d < day_count (pos 1) 1 1 = day_count-lt_year y m d (pos 1) 1 1 h (omega arith) (omega (arith, signed_arith, low)) in
    let first : day_count (pos 1) 1 1 ≡ 3652791 = count_same 0 1 1 (omega arith) in
    rw day_count-epoch (too_early (day_count y m d) (omega (arith, less, first)))

-- ---- reading

in_calendar : (y m d : ℕ) → IsDate (pos (suc y)) (pos m) (pos d) → IsCivil (date (suc y) m d)
in_calendar y m d h = record {
  first_year = omega arith;
  last_year = omega (arith, signed_arith, h.0);
  first_month = omega (arith, signed_arith, h.1);
  last_month = omega (arith, signed_arith, h.1);
  first_day = omega (arith, signed_arith, h.2);
  last_day = omega (arith, signed_arith, h.2, month_same (suc y) m);
}

in_calendar_there : (y m d : ℕ) → IsCivil (date y m d) → IsDate (pos y) (pos m) (pos d)
in_calendar_there y m d h = (
  omega (arith, signed_arith, h.last_year),
  omega (arith, signed_arith, h.first_month, h.last_month),
  omega (arith, signed_arith, h.first_day, h.last_day, month_same y m),
)

-- where the kit has no such date, neither have we
pub not-read : (y m d : ℕ) → (IsDate (pos y) (pos m) (pos d) → ⊥) → None ≡ day_of_date (Some (date y m d))
not-read y m d none = by (is_date (date y m d)) refl
  where
    by : (b : Bool) → is_date (date y m d) ≡ b → None ≡ where_true b (day_number (date y m d))
    by true e = absurd (none (in_calendar_there y m d (civil_by (date y m d) e)))
    by false e = refl

read_number : (y m d : ℕ) → IsDate (pos y) (pos m) (pos d) → IsCivilDate (pos y) m d → where_true (is_day (days_from_civil (pos y) m d)) (days_from_civil (pos y) m d) ≡ day_of_date (Some (date y m d))
read_number zero m d h there = ap (λ b. where_true b (days_from_civil (pos 0) m d)) (no_day (pos 0) m d there (omega (arith, signed_arith)))
read_number (suc y) m d h there =
    let ours = in_calendar y m d h in
    let same : days_from_civil (pos (suc y)) m d ≡ day_number (date (suc y) m d) = number_same y m d ours.first_day in
    let day : is_day (day_number (date (suc y) m d)) ≡ is_date (date (suc y) m d) = number_is_day (date (suc y) m d) ours ∙ sym (is_date_by (date (suc y) m d) ours) in
    rw same (ap (λ b. where_true b (day_number (date (suc y) m d))) day)

-- the kit's date has our number, or none where we have no such date
pub read-day : (y m d : ℕ) (c : CivilDate) → IsDate (pos y) (pos m) (pos d) → IsYmd (pos y) (pos m) (pos d) c → where_true (is_day (epoch_day c)) (epoch_day c) ≡ day_of_date (Some (date y m d))
read-day y m d c h is =
    let month : c.month ≡ m = cc in
    let day : c.day ≡ d = cc in
    let there : IsCivilDate (pos y) m d = rw (is.0, month, day) at (civil c) in
    rw (is.0, month, day) (read_number y m d h there)

-- ---- printing

shown : (y : ℤ) (m d : ℕ) → IsCivilDate y m d → is_day (days_from_civil y m d) ≡ true → date (unsigned_abs y) m d ≡ date_of (days_from_civil y m d)
shown (pos zero) m d h e = let none = no_day (pos 0) m d h (omega (arith, signed_arith)) in cc
shown (negsuc y) m d h e = let none = no_day (negsuc y) m d h (omega (arith, signed_arith)) in cc
shown (pos (suc y)) m d h e =
    let ours : IsCivil (date (suc y) m d) = record {
      first_year = omega arith;
      last_year = omega (arith, signed_arith, h.0);
      first_month = h.1.0;
      last_month = h.1.1;
      first_day = h.2.0;
      last_day = omega (arith, h.2.1, month_same (suc y) m);
    } in
    sym (ap date_of (number_same y m d h.2.0) ∙ date_of_number (date (suc y) m d) ours)

-- the date of our number is the kit's
pub shown-date : (c : CivilDate) (n : ℤ) → epoch_day c ≡ n → IsTrue (is_day n) → shown_date c ≡ date_of n
shown-date c n e h =
    let day : is_day (epoch_day c) ≡ true = rw e (search (rules, h)) in
    shown c.year c.month c.day (civil c) day ∙ ap date_of e

-- the kit has each day of ours
pub has-day : (n : ℤ) → IsTrue (is_day n) → IsEpochDay n
has-day (pos a) h = grind (arith, ints, signed_arith)
has-day (negsuc a) h = grind (arith, ints, signed_arith)

pub ruleset reading = (not-read)

pub ruleset printing = (has-day, shown-date)
