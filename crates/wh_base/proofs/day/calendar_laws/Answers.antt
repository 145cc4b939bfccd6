use Rattle.wh_base.proofs.Calendar.{counts_dates, counts_days, is_its_text, names_its_day}
use Rattle.wh_base.proofs.day.calendar_laws.Goals as goal

pub returns-clause-days : goal.returns-clause-days
returns-clause-days c = counts_days

pub returns-clause-dates : goal.returns-clause-dates
returns-clause-dates c = counts_dates

pub returns-clause-names : goal.returns-clause-names
returns-clause-names c = names_its_day

pub returns-clause-only : goal.returns-clause-only
returns-clause-only c = is_its_text
