-- What is so of the logs of every trace, and what a purge takes from them.
use Rattle.std.specs.List.{All}
use Rattle.std.specs.Option.{ForSome}
use Rattle.std.specs.Prelude.{List, Some, filter, is_some, length, nat_lt, not, true, ℕ, ◌++◌, ◌<◌, ◌≡◌, ◌≤◌, ◌∷◌, []}
use Rattle.wh_base.specs.Tables.{def_at}
use Rattle.wh_base.specs.declared.logs.LogRow.{LogRow}
use Rattle.wh_base.specs.declared.statements.Event.{Event}
use Rattle.wh_base.specs.declared.tables.TableDef.{TableDef}
use Rattle.def_history.specs.Catalog.{Catalog, Log, View, defs_now, log_of}
use Rattle.def_history.specs.Logs.{is_over, log_rows}
use Rattle.law_trace.specs.Reached.{catalog_of}

-- A log is of a table that is there, logs columns of it, and was purged at its birth and up to no later than now.
pub record IsLog (scn : ℕ) (defs : List TableDef) (l : Log) : Type 0 where
  pub born : l.born ≤ l.facts.from
  pub from : l.facts.from ≤ scn
  pub there : l.table < length defs
  pub columns : All (λ n. n < length (def_at defs l.table).columns) l.facts.columns

-- The view has seen all these rows: its point isn't below the SCN of any.
abbrev pub HasPassed : List LogRow → View → Type 0
HasPassed rows v = ForSome v.point (λ p. All (λ r. r.scn ≤ p) rows)

-- What an event leaves of a log that is there before and after: the rows above its purge point, and those of the event's own changes after them.
-- What goes was passed by each view that is registered on the table.
pub record IsPurged (c d : Catalog) (l m : Log) : Type 0 where
  pub more : List LogRow
  pub rows : log_rows d m ≡ filter (λ r. nat_lt m.facts.from r.scn) (log_rows c l) ++ more
  pub passed : All (λ v. v.registered ≡ true → is_over l.table v ≡ true → HasPassed (filter (λ r. not (nat_lt m.facts.from r.scn)) (log_rows c l)) v) c.views

pub record LogLaws : Type 0 where
  pub logs : (trace : List Event) → All (IsLog (catalog_of trace).scn (defs_now (catalog_of trace))) (catalog_of trace).logs
  pub purged : (trace : List Event) (e : Event) (table : ℕ) (l m : Log) → log_of (catalog_of trace) table ≡ Some l → log_of (catalog_of (trace ++ e ∷ [])) table ≡ Some m
      → IsPurged (catalog_of trace) (catalog_of (trace ++ e ∷ [])) l m
  -- a view that is registered has a point, so it has passed what was purged
  pub built : (trace : List Event) → All (λ v. v.registered ≡ true → is_some v.point ≡ true) (catalog_of trace).views
