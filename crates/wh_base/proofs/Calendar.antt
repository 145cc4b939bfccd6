-- The calendar: the date of a number and the number of a date go back and forth.
use Rattle.std.proofs.Common.{arith, ap, cond, refl, subst, ℕ, suc, zero, ◌%◌, ◌*◌, ◌+◌, ◌-◌, ◌/◌, ◌<◌, ◌≡◌, ◌≤◌, ◌∙◌, true, false, Bool}
use Rattle.std.proofs.lemmas.Bool.Decides.{nat_tests}
use Rattle.std.proofs.lemmas.Int.{ints}
use Rattle.std.proofs.lemmas.List.Sums.{count_by-le-length, sum_by-cons}
use Rattle.std.specs.Prelude.{List, None, Option, Some, [], count_by, min, nat_le, nat_lt, negsuc, pos, ℤ, ◌++◌, ◌-ℤ◌, ◌∷◌}
use Rattle.wh_base.specs.Lists.{count_from, where_true}
use Rattle.wh_base.specs.DayTexts.{CountsDates, CountsDays, IsItsText, NamesItsDay, date_by, day_of, day_of_date, has_date_form, spelled_date}
use Rattle.wh_base.specs.Values.{digits_number, digits_value}
use Rattle.wh_base.specs.Days.{Date, count_of_day, date_behind, date_in_year, date_of, date_text, day_number, day_text, days_before, days_in_month, days_in_year, days_of_months, days_of_years, epoch, is_date, is_day, is_leap_year, month_of, padded, year_of}

-- ---- years

-- 1 for a leap year, and else 0
abbrev pub leap_day : ℕ → ℕ
leap_day y = cond (is_leap_year y) 1 0

pub days_in_year-leap_day : (y : ℕ) → days_in_year y ≡ 365 + leap_day y
days_in_year-leap_day y = grind arith

-- the next year
pub years_suc : (n : ℕ) → days_of_years (suc n) ≡ days_of_years n + days_in_year (suc n)
years_suc n = grind (arith, nat_tests)

-- so many cycles of 400 years, centuries, cycles of four years, and years
years_form : (q c f e : ℕ) → c < 4 → f < 25 → e < 4 → days_of_years (400 * q + 100 * c + 4 * f + e) ≡ 146097 * q + 36524 * c + 1461 * f + 365 * e
years_form q c f e hc hf he = omega arith

-- the last of four years, where it isn't the last of a century
leap_of_four : (q c f : ℕ) → c < 4 → f < 24 → leap_day (suc (400 * q + 100 * c + 4 * f + 3)) ≡ 1
leap_of_four q c f hc hf = grind (arith, nat_tests)

-- the last of 400 years
leap_of_all : (q : ℕ) → leap_day (suc (400 * q + 100 * 3 + 4 * 24 + 3)) ≡ 1
leap_of_all q = grind (arith, nat_tests)

years_next : (q c f e u : ℕ) → c < 4 → f < 25 → e < 4 → u < 365 + leap_day (suc (400 * q + 100 * c + 4 * f + e)) → 146097 * q + 36524 * c + 1461 * f + 365 * e + u < days_of_years (suc (400 * q + 100 * c + 4 * f + e))
years_next q c f e u hc hf he hu =
    let n = 400 * q + 100 * c + 4 * f + e in
    omega (arith, years_suc n, years_form q c f e hc hf he, days_in_year-leap_day (suc n))

-- the day after 365 others in the last of four years, or of 400
last_day : (q c f e u : ℕ) → c < 4 → f < 25 → e < 4 → u < 366 → (365 ≤ u → e ≡ 3) → (365 ≤ u → 24 ≤ f → c ≡ 3) → u < 365 + leap_day (suc (400 * q + 100 * c + 4 * f + e))
last_day q c f e u hc hf he hu third last = by (nat_lt u 365) refl (nat_lt f 24) refl
  where
    by : (a : Bool) → nat_lt u 365 ≡ a → (b : Bool) → nat_lt f 24 ≡ b → u < 365 + leap_day (suc (400 * q + 100 * c + 4 * f + e))
    by true ea b eb = grind (arith, nat_tests)
    by false ea true eb =
        let full : 365 ≤ u = grind (arith, nat_tests) in
        let few : f < 24 = grind (arith, nat_tests) in
        rw (third full) (rw (leap_of_four q c f hc few) (omega arith))
    by false ea false eb =
        let full : 365 ≤ u = grind (arith, nat_tests) in
        let all : f ≡ 24 = grind (arith, nat_tests) in
        let end : c ≡ 3 = last full (omega (arith, all)) in
        rw (third full) (rw all (rw end (rw (leap_of_all q) (omega arith))))

-- the days before a year are no more than those before a day in it, and those before the next year are more
pub year_holds : (k : ℕ) → (days_of_years (year_of k - 1) ≤ k) × (k < days_of_years (year_of k))
year_holds k =
    let q = k / 146097 in
    let r = k % 146097 in
    let c = min 3 (r / 36524) in
    let s = r - 36524 * c in
    let f = s / 1461 in
    let e = min 3 (s % 1461 / 365) in
    let u = s % 1461 - 365 * e in
    let n = 400 * q + 100 * c + 4 * f + e in
    let hc : c < 4 = omega arith in
    let hf : f < 25 = omega arith in
    let he : e < 4 = omega arith in
    let hu : u < 366 = omega arith in
    let third : 365 ≤ u → e ≡ 3 = λ h. omega (arith, h) in
    let last : 365 ≤ u → 24 ≤ f → c ≡ 3 = λ h g. omega (arith, h, g) in
    let count : 146097 * q + 36524 * c + 1461 * f + 365 * e + u ≡ k = omega arith in
    let before : n + 1 - 1 ≡ n = omega arith in
    let next : n + 1 ≡ suc n = omega arith in
    (rw before (omega (arith, years_form q c f e hc hf he, count)), rw next (omega (arith, years_next q c f e u hc hf he (last_day q c f e u hc hf he hu third last), count)))

-- ---- months

pub months_up : (y m j : ℕ) → days_of_months y m ≤ days_of_months y (j + m)
months_up y m zero = let same : 0 + m ≡ m = omega arith in rw same (omega arith)
months_up y m (suc j) = let next : suc j + m ≡ suc (j + m) = omega arith in rw next (omega (arith, months_up y m j))

-- a day that has k days of the year before it lies in the month behind the first n
abbrev pub LiesBehind : ℕ → ℕ → ℕ → Type 0
LiesBehind y k n = (days_of_months y n ≤ k) × (k < days_of_months y (suc n))

abbrev pub is_over : ℕ → ℕ → ℕ → Bool
is_over y k n = nat_le (days_of_months y n) k

-- none of the months from this one on is over
none_over : (y k i j : ℕ) → k < days_of_months y i → count_by (is_over y k) (count_from i j) ≡ 0
none_over y k i zero h = refl
none_over y k i (suc j) h =
    let next : k < days_of_months y (suc i) = omega (arith, h) in
    grind (arith, nat_tests, none_over y k (suc i) j next, h)

-- of the months from this one on as many are over as there are before the one that the day lies in
over : (y k i j : ℕ) → days_of_months y i ≤ k → k < days_of_months y (suc (i + j)) → LiesBehind y k (i + count_by (is_over y k) (count_from (suc i) j))
over y k i zero low high =
    let same : i + 0 ≡ i = omega arith in
    rw same (low, rw same at high)
over y k i (suc j) low high = by (over y k (suc i) j) (is_over y k (suc i)) refl
  where
    by : (days_of_months y (suc i) ≤ k → k < days_of_months y (suc (suc i + j)) → LiesBehind y k (suc i + count_by (is_over y k) (count_from (suc (suc i)) j))) → (b : Bool) → is_over y k (suc i) ≡ b → LiesBehind y k (i + count_by (is_over y k) (count_from (suc i) (suc j)))
    by later true e =
        let more : days_of_months y (suc i) ≤ k = grind (arith, nat_tests) in
        let end : suc (i + suc j) ≡ suc (suc i + j) = omega arith in
        let step : count_by (is_over y k) (count_from (suc i) (suc j)) ≡ 1 + count_by (is_over y k) (count_from (suc (suc i)) j) = sum_by-cons (λ n. cond (is_over y k n) 1 0) (suc i) (count_from (suc (suc i)) j) ∙ ap (λ b. cond b 1 0 + count_by (is_over y k) (count_from (suc (suc i)) j)) e in
        let here : suc i + count_by (is_over y k) (count_from (suc (suc i)) j) ≡ i + count_by (is_over y k) (count_from (suc i) (suc j)) = omega (arith, step) in
        subst (LiesBehind y k) here (later more (subst (λ n. k < days_of_months y n) end high))
    by later false e =
        let less : k < days_of_months y (suc i) = grind (arith, nat_tests) in
        let none : count_by (is_over y k) (count_from (suc i) (suc j)) ≡ 0 = none_over y k (suc i) (suc j) less in
        let here : i ≡ i + count_by (is_over y k) (count_from (suc i) (suc j)) = omega (arith, none) in
        subst (LiesBehind y k) here (low, less)

-- twelve months make a year
pub months_all : (y : ℕ) → days_of_months y 12 ≡ days_in_year y
months_all y = grind arith

-- the month of a day in its year
one_behind : (y k c : ℕ) → LiesBehind y k (0 + c) → LiesBehind y k (suc c - 1)
one_behind y k c h = let same : 0 + c ≡ suc c - 1 = omega arith in subst (LiesBehind y k) same h

pub month_holds : (y k : ℕ) → k < days_in_year y → LiesBehind y k (month_of y k - 1)
month_holds y k h = one_behind y k _ (over y k 0 11 (omega arith) (omega (arith, months_all y, h)))

pub month_within : (y k : ℕ) → month_of y k ≤ 12
month_within y k = omega (arith, count_by-le-length (is_over y k) (count_from 1 11))

-- ---- dates

pub years_up : (m n : ℕ) → m ≤ n → days_of_years m ≤ days_of_years n
years_up m n h = omega (arith, h)

-- the calendar has the date
pub record IsCivil (d : Date) : Type 0 where
  pub first_year : 1 ≤ d.year
  pub last_year : d.year ≤ 9999
  pub first_month : 1 ≤ d.month
  pub last_month : d.month ≤ 12
  pub first_day : 1 ≤ d.day
  pub last_day : d.day ≤ days_in_month d.year d.month

pub is_date_by : (d : Date) → IsCivil d → is_date d ≡ true
is_date_by d h = grind (arith, nat_tests, h.first_year, h.last_year, h.first_month, h.last_month, h.first_day, h.last_day)

pub civil_by : (d : Date) → is_date d ≡ true → IsCivil d
civil_by d h = grind (arith, nat_tests)

-- a year begins behind those before it
years_before : (y : ℕ) → 1 ≤ y → days_of_years y ≡ days_of_years (y - 1) + days_in_year y
years_before zero h = absurd (omega arith)
years_before (suc y) h = let same : suc y - 1 ≡ y = omega arith in rw same (years_suc y)

-- the days that a date in this year has before it, and that the calendar has it
in_year : (y k : ℕ) → 1 ≤ y → y ≤ 9999 → k < days_in_year y → (days_before (date_in_year y k) ≡ days_of_years (y - 1) + k) × IsCivil (date_in_year y k)
in_year y k low high h = by (month_of y k) (month_holds y k h) (month_within y k) (omega arith)
  where
    by : (m : ℕ) → LiesBehind y k (m - 1) → m ≤ 12 → 1 ≤ m → (days_of_years (y - 1) + days_of_months y (m - 1) + (k - days_of_months y (m - 1) + 1 - 1) ≡ days_of_years (y - 1) + k) × IsCivil (record { year = y; month = m; day = k - days_of_months y (m - 1) + 1 })
    by zero lies within first = absurd (omega arith)
    by (suc m) lies within first =
        let same : suc m - 1 ≡ m = omega arith in
        let rest : LiesBehind y k m = subst (LiesBehind y k) same lies in
        rw same (omega (arith, rest.0), record { first_year = low; last_year = high; first_month = first; last_month = within; first_day = omega arith; last_day = omega (arith, rest.0, rest.1) })

-- a day of the calendar has fewer days before it than 9999 years have
abbrev pub most_days : ℕ
most_days = 3652059

-- the date behind so many days has as many before it, and the calendar has it
pub date_behind_holds : (k : ℕ) → k < most_days → (days_before (date_behind k) ≡ k) × IsCivil (date_behind k)
date_behind_holds k h =
    let y = year_of k in
    let low : 1 ≤ y = omega arith in
    let year = year_holds k in
    let before = year.0 in
    let behind = year.1 in
    let high : y ≤ 9999 = by_last (nat_lt 9999 y) refl in
    let within : k - days_of_years (y - 1) < days_in_year y = omega (arith, before, behind, years_before y low) in
    let found = in_year y (k - days_of_years (y - 1)) low high within in
    (found.0 ∙ omega (arith, before), found.1)
  where
    by_last : (b : Bool) → nat_lt 9999 (year_of k) ≡ b → year_of k ≤ 9999
    by_last true e =
        let over : 9999 ≤ year_of k - 1 = grind (arith, nat_tests) in
        absurd (omega (arith, years_up 9999 (year_of k - 1) over, (year_holds k).0, h))
    by_last false e = grind (arith, nat_tests)

-- ---- days

count_within : (n : ℤ) → is_day n ≡ true → count_of_day n < most_days
count_within (pos a) h = grind (arith, ints)
count_within (negsuc a) h = grind (arith, ints)

number_back : (n : ℤ) (k : ℕ) → is_day n ≡ true → k ≡ count_of_day n → pos k -ℤ pos epoch ≡ n
number_back (pos a) k h e = omega (arith, ints, e)
number_back (negsuc a) k h e =
    let low : a < epoch = grind (arith, ints) in
    omega (arith, ints, e, low)

-- the date of a day is one of the calendar
pub date_of_civil : (n : ℤ) → is_day n ≡ true → IsCivil (date_of n)
date_of_civil n h = (date_behind_holds (count_of_day n) (count_within n h)).1

-- the number of the date of a day is that of the day
pub number_of_date : (n : ℤ) → is_day n ≡ true → day_number (date_of n) ≡ n
number_of_date n h = number_back n (days_before (date_of n)) h (date_behind_holds (count_of_day n) (count_within n h)).0

-- ---- texts

-- one digit more
digit_step : (n x : ℕ) (bs : List ℕ) → x < 10 → digits_value n ((48 + x) ∷ bs) ≡ digits_value (n * 10 + x) bs
digit_step n x bs h = grind (arith, nat_tests)

two_digits : (n : ℕ) → n < 100 → digits_number (padded 2 n) ≡ Some n
two_digits n h =
    let e : (0 * 10 + n / 10 % 10) * 10 + n % 10 ≡ n = omega arith in
    digit_step 0 (n / 10 % 10) ((48 + n % 10) ∷ []) (omega arith) ∙ digit_step (0 * 10 + n / 10 % 10) (n % 10) [] (omega arith) ∙ ap Some e

four_digits : (n : ℕ) → n < 10000 → digits_number (padded 4 n) ≡ Some n
four_digits n h =
    let a = n / 10 / 10 / 10 % 10 in
    let b = n / 10 / 10 % 10 in
    let c = n / 10 % 10 in
    let d = n % 10 in
    let e : (((0 * 10 + a) * 10 + b) * 10 + c) * 10 + d ≡ n = omega arith in
    digit_step 0 a ((48 + b) ∷ (48 + c) ∷ (48 + d) ∷ []) (omega arith)
    ∙ digit_step (0 * 10 + a) b ((48 + c) ∷ (48 + d) ∷ []) (omega arith)
    ∙ digit_step ((0 * 10 + a) * 10 + b) c ((48 + d) ∷ []) (omega arith)
    ∙ digit_step (((0 * 10 + a) * 10 + b) * 10 + c) d [] (omega arith)
    ∙ ap Some e

days_in_month-small : (y m : ℕ) → days_in_month y m < 32
days_in_month-small y m = grind arith

-- the text of a date spells the date
pub spelled_back : (d : Date) → IsCivil d → spelled_date (date_text d) ≡ Some d
spelled_back d h =
    let year : digits_number (padded 4 d.year) ≡ Some d.year = four_digits d.year (omega (arith, h.last_year)) in
    let month : digits_number (padded 2 d.month) ≡ Some d.month = two_digits d.month (omega (arith, h.last_month)) in
    let day : digits_number (padded 2 d.day) ≡ Some d.day = two_digits d.day (omega (arith, h.last_day, days_in_month-small d.year d.month)) in
    λ i. date_by (year i) (month i) (day i)

-- the text of a day names the day
pub named_back : (n : ℤ) → is_day n ≡ true → day_of (day_text n) ≡ Some n
named_back n h =
    let civil = date_of_civil n h in
    ap day_of_date (spelled_back (date_of n) civil)
    ∙ ap (λ b. where_true b (day_number (date_of n))) (is_date_by (date_of n) civil)
    ∙ ap Some (number_of_date n h)

-- ---- back from a date and from a text

-- a day lies in one year
same_year : (k y z : ℕ) → 1 ≤ y → 1 ≤ z → days_of_years (y - 1) ≤ k → k < days_of_years y → days_of_years (z - 1) ≤ k → k < days_of_years z → z ≡ y
same_year k y z hy hz low high low' high' = by (nat_lt z y) refl (nat_lt y z) refl
  where
    by : (a : Bool) → nat_lt z y ≡ a → (b : Bool) → nat_lt y z ≡ b → z ≡ y
    by true ea b eb =
        let less : z ≤ y - 1 = grind (arith, nat_tests) in
        absurd (omega (arith, years_up z (y - 1) less, low, high'))
    by false ea true eb =
        let more : y ≤ z - 1 = grind (arith, nat_tests) in
        absurd (omega (arith, years_up y (z - 1) more, low', high))
    by false ea false eb = grind (arith, nat_tests)

months_mono : (y m n : ℕ) → m ≤ n → days_of_months y m ≤ days_of_months y n
months_mono y m n h = let same : n - m + m ≡ n = omega arith in subst (λ x. days_of_months y m ≤ days_of_months y x) same (months_up y m (n - m))

-- and in one month of it
same_month : (y k m n : ℕ) → LiesBehind y k m → LiesBehind y k n → n ≡ m
same_month y k m n hm hn = by (nat_lt n m) refl (nat_lt m n) refl
  where
    by : (a : Bool) → nat_lt n m ≡ a → (b : Bool) → nat_lt m n ≡ b → n ≡ m
    by true ea b eb =
        let less : suc n ≤ m = grind (arith, nat_tests) in
        absurd (omega (arith, months_mono y (suc n) m less, hm.0, hn.1))
    by false ea true eb =
        let more : suc m ≤ n = grind (arith, nat_tests) in
        absurd (omega (arith, months_mono y (suc m) n more, hn.0, hm.1))
    by false ea false eb = grind (arith, nat_tests)

year_first : (k : ℕ) → 1 ≤ year_of k
year_first k = omega arith

month_first : (y k : ℕ) → 1 ≤ month_of y k
month_first y k = omega arith

-- the days of its year that a date has before it
abbrev day_of_year : Date → ℕ
day_of_year d = days_of_months d.year (d.month - 1) + (d.day - 1)

lies_in_month : (d : Date) → IsCivil d → LiesBehind d.year (day_of_year d) (d.month - 1)
lies_in_month d h =
    let month : suc (d.month - 1) ≡ d.month = omega (arith, h.first_month) in
    let some : days_in_month d.year (suc (d.month - 1)) ≡ days_in_month d.year d.month = ap (days_in_month d.year) month in
    (omega arith, omega (arith, some, h.first_day, h.last_day))

within_year : (d : Date) → IsCivil d → day_of_year d < days_in_year d.year
within_year d h =
    let month : suc (d.month - 1) ≤ 12 = omega (arith, h.first_month, h.last_month) in
    omega (arith, (lies_in_month d h).1, months_mono d.year (suc (d.month - 1)) 12 month, months_all d.year)

found_in_year : (d : Date) → IsCivil d → date_in_year d.year (day_of_year d) ≡ d
found_in_year d h =
    let r = day_of_year d in
    let place : month_of d.year r - 1 ≡ d.month - 1 = same_month d.year r (d.month - 1) (month_of d.year r - 1) (lies_in_month d h) (month_holds d.year r (within_year d h)) in
    let month : month_of d.year r ≡ d.month = omega (arith, place, h.first_month, month_first d.year r) in
    let day : r - days_of_months d.year (d.month - 1) + 1 ≡ d.day = omega (arith, h.first_day) in
    ap (λ m. record { year = d.year; month = m; day = r - days_of_months d.year (m - 1) + 1 }) month
    ∙ ap (λ n. record { year = d.year; month = d.month; day = n }) day

-- the date behind as many days as a date has before it is that date
pub date_back : (d : Date) → IsCivil d → date_behind (days_before d) ≡ d
date_back d h =
    let k = days_before d in
    let low : days_of_years (d.year - 1) ≤ k = omega arith in
    let high : k < days_of_years d.year = omega (arith, within_year d h, years_before d.year h.first_year) in
    let year : year_of k ≡ d.year = same_year k d.year (year_of k) h.first_year (year_first k) low high (year_holds k).0 (year_holds k).1 in
    let rest : k - days_of_years (d.year - 1) ≡ day_of_year d = omega arith in
    ap (λ y. date_in_year y (k - days_of_years (y - 1))) year ∙ ap (date_in_year d.year) rest ∙ found_in_year d h

count_back : (k : ℕ) → count_of_day (pos k -ℤ pos epoch) ≡ k
count_back k = by (nat_lt k epoch) refl
  where
    by : (b : Bool) → nat_lt k epoch ≡ b → count_of_day (pos k -ℤ pos epoch) ≡ k
    by true e =
        let less : k < epoch = grind (arith, nat_tests) in
        let back : pos k -ℤ pos epoch ≡ negsuc (epoch - k - 1) = omega (arith, ints, less) in
        ap count_of_day back ∙ omega (arith, less)
    by false e =
        let more : epoch ≤ k = grind (arith, nat_tests) in
        let on : pos k -ℤ pos epoch ≡ pos (k - epoch) = omega (arith, ints, more) in
        ap count_of_day on ∙ omega (arith, more)

-- the date of the number of a date is that date
pub date_of_number : (d : Date) → IsCivil d → date_of (day_number d) ≡ d
date_of_number d h = ap date_behind (count_back (days_before d)) ∙ date_back d h

days_before-most : (d : Date) → IsCivil d → days_before d < most_days
days_before-most d h =
    omega (arith, within_year d h, years_before d.year h.first_year, years_up d.year 9999 h.last_year)

-- the number of a date is that of a day
pub number_is_day : (d : Date) → IsCivil d → is_day (day_number d) ≡ true
number_is_day d h = let few = days_before-most d h in grind (arith, ints, few)

-- ---- from a text to its day and back

digit_only : (n b : ℕ) (bs : List ℕ) (m : ℕ) → digits_value n (b ∷ bs) ≡ Some m → (48 ≤ b) × (b < 58) × (digits_value (n * 10 + (b - 48)) bs ≡ Some m)
digit_only n b bs m h = grind (arith, nat_tests)

some_same : {m n : ℕ} → Some m ≡ Some n → m ≡ n
some_same h = cc

two_spelled : (a b n : ℕ) → digits_number (a ∷ b ∷ []) ≡ Some n → padded 2 n ≡ a ∷ b ∷ []
two_spelled a b n h =
    let one = digit_only 0 a (b ∷ []) n h in
    let two = digit_only (0 * 10 + (a - 48)) b [] n one.2 in
    let is : (0 * 10 + (a - 48)) * 10 + (b - 48) ≡ n = some_same two.2 in
    let first : 48 + n / 10 % 10 ≡ a = omega (arith, is, one.0, one.1, two.0, two.1) in
    let second : 48 + n % 10 ≡ b = omega (arith, is, one.0, one.1, two.0, two.1) in
    λ i. first i ∷ second i ∷ []

four_spelled : (a b c d n : ℕ) → digits_number (a ∷ b ∷ c ∷ d ∷ []) ≡ Some n → padded 4 n ≡ a ∷ b ∷ c ∷ d ∷ []
four_spelled a b c d n h =
    let one = digit_only 0 a (b ∷ c ∷ d ∷ []) n h in
    let x = 0 * 10 + (a - 48) in
    let two = digit_only x b (c ∷ d ∷ []) n one.2 in
    let y = x * 10 + (b - 48) in
    let three = digit_only y c (d ∷ []) n two.2 in
    let z = y * 10 + (c - 48) in
    let four = digit_only z d [] n three.2 in
    let is : z * 10 + (d - 48) ≡ n = some_same four.2 in
    let first : 48 + n / 10 / 10 / 10 % 10 ≡ a = omega (arith, is, one.0, one.1, two.0, two.1, three.0, three.1, four.0, four.1) in
    let second : 48 + n / 10 / 10 % 10 ≡ b = omega (arith, is, one.0, one.1, two.0, two.1, three.0, three.1, four.0, four.1) in
    let third : 48 + n / 10 % 10 ≡ c = omega (arith, is, one.0, one.1, two.0, two.1, three.0, three.1, four.0, four.1) in
    let last : 48 + n % 10 ≡ d = omega (arith, is, one.0, one.1, two.0, two.1, three.0, three.1, four.0, four.1) in
    λ i. first i ∷ second i ∷ third i ∷ last i ∷ []

date_parts : (y m d : Option ℕ) (date : Date) → date_by y m d ≡ Some date → (y ≡ Some date.year) × (m ≡ Some date.month) × (d ≡ Some date.day)
date_parts (Some y) (Some m) (Some d) date h =
    let same : record { year = y; month = m; day = d } ≡ date = cc in
    (ap (λ x. Some x.year) same, ap (λ x. Some x.month) same, ap (λ x. Some x.day) same)
date_parts y m d date h = cc

-- a text of that form that spells a date is its text
spelled_text : (t : List ℕ) (date : Date) → has_date_form t ≡ true → spelled_date t ≡ Some date → date_text date ≡ t
spelled_text (a ∷ b ∷ c ∷ d ∷ e ∷ f ∷ g ∷ h ∷ j ∷ k ∷ []) date form is =
    let parts = date_parts (digits_number (a ∷ b ∷ c ∷ d ∷ [])) (digits_number (f ∷ g ∷ [])) (digits_number (j ∷ k ∷ [])) date is in
    let first : 45 ≡ e = grind (arith, nat_tests) in
    let second : 45 ≡ h = grind (arith, nat_tests) in
    let year : padded 4 date.year ≡ a ∷ b ∷ c ∷ d ∷ [] = four_spelled a b c d date.year parts.0 in
    let month : padded 2 date.month ≡ f ∷ g ∷ [] = two_spelled f g date.month parts.1 in
    let day : padded 2 date.day ≡ j ∷ k ∷ [] = two_spelled j k date.day parts.2 in
    λ i. year i ++ (first i ∷ month i ++ (second i ∷ day i))
spelled_text t date form is = absurd (grind (arith, nat_tests))

named_date : (t : List ℕ) (n : ℤ) (d : Date) → has_date_form t ≡ true → spelled_date t ≡ Some d → (b : Bool) → is_date d ≡ b → where_true b (day_number d) ≡ Some n → (is_day n ≡ true) × (day_text n ≡ t)
named_date t n d form is true e h =
    let same : day_number d ≡ n = cc in
    let civil = civil_by d e in
    let day : is_day (day_number d) ≡ true = number_is_day d civil in
    let text : day_text (day_number d) ≡ t = ap date_text (date_of_number d civil) ∙ spelled_text t d form is in
    (subst (λ m. is_day m ≡ true) same day, subst (λ m. day_text m ≡ t) same text)
named_date t n d form is false e h = cc

-- a text that names a day is the text of that day, which is one of the calendar
pub named_only : (t : List ℕ) (n : ℤ) → day_of t ≡ Some n → (is_day n ≡ true) × (day_text n ≡ t)
named_only t n h = by (has_date_form t) refl (spelled_date t) refl h
  where
    by : (b : Bool) → has_date_form t ≡ b → (o : Option Date) → spelled_date t ≡ o → cond b (day_of_date o) None ≡ Some n → (is_day n ≡ true) × (day_text n ≡ t)
    by true form (Some d) is h = named_date t n d form is (is_date d) refl h
    by true form None is h = cc
    by false form o is h = cc

-- ---- the laws

pub counts_days : CountsDays
counts_days n h = (is_date_by (date_of n) (date_of_civil n h), number_of_date n h)

pub counts_dates : CountsDates
counts_dates d h = let civil = civil_by d h in (number_is_day d civil, date_of_number d civil)

pub names_its_day : NamesItsDay
names_its_day = named_back

pub is_its_text : IsItsText
is_its_text = named_only
