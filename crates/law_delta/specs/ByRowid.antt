-- A join view after changes of its root: without the entries of the changed rowids, and with those of the changed rows that live.
use Rattle.std.specs.List.{list_any}
use Rattle.std.specs.Prelude.{Bool, List, filter, not, pos, ℕ, ◌++◌}
use Rattle.wh_base.specs.Tables.{value_at}
use Rattle.wh_base.specs.Values.{same_value}
use Rattle.wh_base.specs.declared.queries.StarQuery.{StarQuery}
use Rattle.wh_base.specs.declared.tables.Change.{Change}
use Rattle.wh_base.specs.declared.tables.RowAt.{RowAt}
use Rattle.wh_base.specs.declared.values.Value.{Value}
use Rattle.wh_base.specs.declared.values.Value.TheVariants.{Num}
use Rattle.wh_base.specs.declared.views.ViewEntry.{ViewEntry}
use Rattle.def_meaning.specs.Joined.{column_value}
use Rattle.def_meaning.specs.Meaning.{plain_entries}
use Rattle.law_delta.specs.Moved.{side_tuples}

-- a change has this rowid, as a value
abbrev pub rowid_among : List Change → Value → Bool
rowid_among changes v = list_any (λ c. same_value v (Num (pos c.rowid))) changes

abbrev pub row_changed : List Change → RowAt → Bool
row_changed changes r = rowid_among changes (Num (pos r.rowid))

-- the root's rowid stands at this place of an entry
abbrev pub entry_changed : List Change → ℕ → ViewEntry → Bool
entry_changed changes place e = rowid_among changes (value_at e.row place)

-- the entries after the changes; `now` are the rows of the root now
abbrev pub joined_after : StarQuery → ℕ → ℕ → List Change → List ViewEntry → List RowAt → (ℕ → List RowAt) → List ViewEntry
joined_after q root place changes before now rows =
    filter (λ e. not (entry_changed changes place e)) before ++ plain_entries (column_value q.tables) q (side_tuples q root (filter (row_changed changes) now) rows)
