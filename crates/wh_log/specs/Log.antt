-- What a log is after each call.
use Rattle.std.specs.List.{All, enumerate_from}
use Rattle.std.specs.Prelude.{◌<◌, List, None, [], filter, length, map, max, nat_le, nat_lt, ℕ, ◌+◌, ◌++◌, ◌-◌}
use Rattle.wh_base.specs.Lists.{where_true}
use Rattle.wh_base.specs.declared.logs.LogFacts.{LogFacts}
use Rattle.wh_base.specs.declared.logs.LogOp.{LogOp}
use Rattle.wh_base.specs.declared.logs.LogRow.{LogRow}
use Rattle.wh_base.specs.declared.logs.LogSide.{LogSide}
use Rattle.wh_base.specs.declared.tables.Change.{Change}
use Rattle.wh_base.specs.declared.values.Value.{Value}
use Rattle.def_history.specs.Catalog.{Noted}
use Rattle.def_history.specs.History.{within}
use Rattle.def_history.specs.Logs.{logged_values, sides_of}
use Rattle.wh_log.specs.Held.{Held}

abbrev pub scn_of : LogRow → ℕ
scn_of row = row.scn

-- a log at its birth
abbrev pub begun : LogFacts → Held
begun facts = record { facts = facts; born = facts.from; rows = []; numbered = 0; room = 0 }

-- a change at an SCN; of which table the log doesn't know
abbrev pub noted_at : ℕ → Change → Noted
noted_at scn change = record { scn = scn; table = 0; change = change }

-- the rows numbered from a first number on, if the log is WITH SEQUENCE
abbrev pub numbered_from : LogFacts → ℕ → List LogRow → List LogRow
numbered_from facts first rows = map (λ p. record p.1 { seq = where_true facts.sequence p.0 }) (enumerate_from first rows)

-- the log with these rows more, numbered after all that it ever had
abbrev pub with_rows : Held → List LogRow → Held
with_rows log rows =
    record log {
      rows = log.rows ++ numbered_from log.facts (log.numbered + 1) rows;
      numbered = log.numbered + length rows;
      room = log.room - length rows;
    }

-- a side of a change, with the values of the logged columns, still without its number
abbrev pub side_row : LogFacts → ℕ → ℕ → LogOp → LogSide → List Value → LogRow
side_row facts scn rowid op side row = record { scn = scn; seq = None; rowid = where_true facts.rowid rowid; op = op; side = side; values = logged_values facts row }

-- the log after a change
abbrev pub with_noted : Held → Noted → Held
with_noted log n = with_rows log (sides_of log.facts n)

-- each logged column is there in a row
abbrev pub HasColumns : LogFacts → List Value → Type 0
HasColumns facts row = All (λ c. c < length row) facts.columns

-- the rows with an SCN at or below this one
abbrev pub up_to : ℕ → List LogRow → List LogRow
up_to scn rows = filter (λ r. nat_le r.scn scn) rows

-- the rows with an SCN above this one
abbrev pub after : ℕ → List LogRow → List LogRow
after scn rows = filter (λ r. nat_lt scn r.scn) rows

-- the rows with an SCN above `from` and at most `to`
abbrev pub between : ℕ → ℕ → List LogRow → List LogRow
between from to rows = filter (λ r. within from to r.scn) rows

-- the log after a purge up to an SCN
abbrev pub purged : Held → ℕ → Held
purged log to = record log { facts = record log.facts { from = max log.facts.from to }; rows = after to log.rows }
