-- The day that a text names.
use Rattle.std.specs.Prelude.{Bool, List, None, Option, Some, cond, drop, length, slice_index, take, true, ℕ, ℤ, ◌&&◌, ◌==◌, ◌≡◌}
use Rattle.wh_base.specs.Days.{Date, date_of, day_number, day_text, is_date, is_day}
use Rattle.wh_base.specs.Lists.{where_true}
use Rattle.wh_base.specs.Values.{digits_number}

-- ten bytes, of which the fifth and the eighth are `-`
abbrev pub has_date_form : List ℕ → Bool
has_date_form text = (length text == 10) && ((slice_index text 4 == 45) && (slice_index text 7 == 45))

-- the date of a year, a month and a day, where each is a number
abbrev pub date_by : Option ℕ → Option ℕ → Option ℕ → Option Date
date_by (Some y) (Some m) (Some d) = Some (record { year = y; month = m; day = d })
date_by y m d = None

-- the date that a text YYYY-MM-DD spells, in the calendar or not
abbrev pub spelled_date : List ℕ → Option Date
spelled_date text = date_by (digits_number (take 4 text)) (digits_number (take 2 (drop 5 text))) (digits_number (drop 8 text))

-- the day of a date that the calendar has
abbrev pub day_of_date : Option Date → Option ℤ
day_of_date None = None
day_of_date (Some d) = where_true (is_date d) (day_number d)

-- the number of the day that a text YYYY-MM-DD names; none for any other text
abbrev pub day_of : List ℕ → Option ℤ
day_of text = cond (has_date_form text) (day_of_date (spelled_date text)) None

-- ---- laws

-- the text of a day names that day
abbrev pub NamesItsDay : Type 0
NamesItsDay = (n : ℤ) → is_day n ≡ true → day_of (day_text n) ≡ Some n

-- a text that names a day is the text of this day, which is one of the calendar
abbrev pub IsItsText : Type 0
IsItsText = (text : List ℕ) (n : ℤ) → day_of text ≡ Some n → (is_day n ≡ true) × (day_text n ≡ text)

-- the date of a day is in the calendar and has the day's number
abbrev pub CountsDays : Type 0
CountsDays = (n : ℤ) → is_day n ≡ true → (is_date (date_of n) ≡ true) × (day_number (date_of n) ≡ n)

-- the number of a date is that of a day, whose date it is
abbrev pub CountsDates : Type 0
CountsDates = (d : Date) → is_date d ≡ true → (is_day (day_number d) ≡ true) × (date_of (day_number d) ≡ d)
