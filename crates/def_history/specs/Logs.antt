-- The rows of a materialized view log: the sides of the changes after its birth and above its purge point.
use Rattle.std.specs.List.{enumerate_from}
use Rattle.std.specs.Prelude.{Bool, List, None, [], cond, filter, filter_map, flat_map, is_none, map, max, nat_lt, ℕ, ◌&&◌, ◌++◌, ◌||◌, ◌∷◌}
use Rattle.wh_base.specs.Lists.{has_number, least_of, option_case, where_true}
use Rattle.wh_base.specs.Tables.{value_at}
use Rattle.wh_base.specs.declared.logs.LogFacts.{LogFacts}
use Rattle.wh_base.specs.declared.logs.LogOp.{LogOp}
use Rattle.wh_base.specs.declared.logs.LogOp.TheVariants.{D, I, U}
use Rattle.wh_base.specs.declared.logs.LogRow.{LogRow}
use Rattle.wh_base.specs.declared.logs.LogSide.{LogSide}
use Rattle.wh_base.specs.declared.logs.LogSide.TheVariants.{N, O}
use Rattle.wh_base.specs.declared.tables.Change.{Change}
use Rattle.wh_base.specs.declared.values.Value.{Value}
use Rattle.def_history.specs.Catalog.{Catalog, Log, Noted, View}
use Rattle.def_history.specs.History.{noted_changes}

-- The values of the logged columns, in the order in which the log names them.
abbrev pub logged_values : LogFacts → List Value → List Value
logged_values f vs = map (value_at vs) f.columns

-- An insert has no old row, a delete no new row, and an update has both.
abbrev pub log_op : Change → LogOp
log_op c = cond (is_none c.old) I (cond (is_none c.new) D U)

-- One side of a change as a log row, still without its sequence number. The rowid stands in it only if the log is WITH ROWID.
abbrev pub log_side : LogFacts → Noted → LogSide → List Value → LogRow
log_side f n side vs =
    record { scn = n.scn; seq = None; rowid = where_true f.rowid n.change.rowid; op = log_op n.change; side = side; values = logged_values f vs }

-- An insert makes the side N, a delete the side O, an update O and then, with INCLUDING NEW VALUES, N.
abbrev pub sides_of : LogFacts → Noted → List LogRow
sides_of f n = option_case n.change.old [] old ++ option_case n.change.new [] new
  where
    old : List Value → List LogRow
    old vs = log_side f n O vs ∷ []

    new : List Value → List LogRow
    new vs = cond (is_none n.change.old || f.new_values) (log_side f n N vs ∷ []) []

-- The rows numbered from 1, if the log is WITH SEQUENCE.
abbrev pub sequenced : LogFacts → List LogRow → List LogRow
sequenced f rows = map (λ p. record p.1 { seq = where_true f.sequence p.0 }) (enumerate_from 1 rows)

-- All rows since the log's birth, purged or not, so that the sequence goes on over a purge.
abbrev pub log_history : Catalog → Log → List LogRow
log_history c l = sequenced l.facts (flat_map (sides_of l.facts) (noted_changes c l.table l.born c.scn))

-- The rows that the log holds: those with an SCN above the purge point.
abbrev pub log_rows : Catalog → Log → List LogRow
log_rows c l = filter (λ r. nat_lt l.facts.from r.scn) (log_history c l)

-- ---- purge

-- The view's definition has the table in its FROM.
abbrev pub is_over : ℕ → View → Bool
is_over table v = has_number v.def.query.tables table

-- The points of the registered views on the table.
abbrev pub registered_points : Catalog → ℕ → List ℕ
registered_points c table = filter_map (λ v. v.point) (filter (λ v. v.registered && is_over table v) c.views)

-- PURGE LOG purges up to the least of them, so that no registered view loses a row that it hasn't seen; up to the SCN of now where there is none.
abbrev pub purge_point : Catalog → ℕ → ℕ
purge_point c table = least (registered_points c table)
  where
    least : List ℕ → ℕ
    least [] = c.scn
    least (p ∷ ps) = least_of p ps

-- The log after PURGE LOG. Its purge point never falls.
abbrev pub purged_log : Catalog → Log → Log
purged_log c l = record l { facts = record l.facts { from = max l.facts.from (purge_point c l.table) } }
