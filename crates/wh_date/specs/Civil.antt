-- What a date of the kit's calendar is in ours.
use Rattle.jiff_core.specs.declared.civil.date.Date.{Date as CivilDate}
use Rattle.std.specs.Prelude.{unsigned_abs}
use Rattle.wh_base.specs.Days.{Date}

-- its year, its month and its day of the month, where the year is at least 1
abbrev pub shown_date : CivilDate → Date
shown_date d = record { year = unsigned_abs d.year; month = d.month; day = d.day }
