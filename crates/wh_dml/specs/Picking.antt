-- The live rows of a table that conditions pick, with their places, and the changes that a statement asks of them.
use Rattle.std.specs.Ordering.{nat_cmp}
use Rattle.std.specs.Prelude.{Bool, List, None, Option, Some, [], filter, ℕ, ◌++◌, ◌+◌, ◌∷◌}
use Rattle.std.specs.declared.cmp.Ordering.{Ordering}
use Rattle.wh_base.specs.Lists.{sorted_by}
use Rattle.wh_base.specs.Tables.{Places}
use Rattle.wh_base.specs.declared.tables.RowAt.{RowAt}
use Rattle.wh_base.specs.declared.values.Value.{Value}
use Rattle.wh_dml.specs.declared.picking.Picked.{Picked}
use Rattle.wh_dml.specs.Changing.{passes, row_set}
use Rattle.wh_dml.specs.declared.changes.RowChange.{RowChange}
use Rattle.wh_dml.specs.declared.filter.Filter.{Filter}
use Rattle.wh_dml.specs.declared.set_list.SetList.{SetList}

-- ---- rows

-- the row that lives at a place
abbrev pub picked_at : ℕ → Option RowAt → List Picked
picked_at place None = []
picked_at place (Some r) = record { rowid = r.rowid; row = record { place = place; values = r.values } } ∷ []

-- the rows that live at these places, which are counted from a number
abbrev pub picked_from : ℕ → Places → List Picked
picked_from place [] = []
picked_from place (o ∷ ps) = picked_at place o ++ picked_from (place + 1) ps

-- the conditions are true of the row
abbrev pub is_picked : Filter → Picked → Bool
is_picked f p = passes f p.row.values

abbrev pub picks : Filter → List Picked → List Picked
picks f rows = filter (is_picked f) rows

abbrev pub picked_cmp : Picked → Picked → Ordering
picked_cmp a b = nat_cmp a.rowid b.rowid

-- the rows at these places that the conditions pick, by ascending rowid
abbrev pub rows_picked : Filter → Places → List Picked
rows_picked f places = sorted_by picked_cmp (picks f (picked_from 0 places))

-- ---- changes

-- a new row
abbrev pub inserted_of : ℕ → ℕ → List Value → RowChange
inserted_of rowid place values = record { rowid = rowid; old = None; new = Some (record { place = place; values = values }) }

-- new rows with the next rowids, at the next places
abbrev pub inserts_from : ℕ → ℕ → List (List Value) → List RowChange
inserts_from rowid place [] = []
inserts_from rowid place (values ∷ rows) = inserted_of rowid place values ∷ inserts_from (rowid + 1) (place + 1) rows

-- new values of a row at a place of their own
abbrev pub updated_of : SetList → ℕ → Picked → RowChange
updated_of sets place p = record { rowid = p.rowid; old = Some p.row; new = Some (record { place = place; values = row_set sets p.row.values }) }

-- new values of the rows, at the next places
abbrev pub updates_from : SetList → ℕ → List Picked → List RowChange
updates_from sets place [] = []
updates_from sets place (p ∷ ps) = updated_of sets place p ∷ updates_from sets (place + 1) ps

-- a row that goes
abbrev pub deleted_of : Picked → RowChange
deleted_of p = record { rowid = p.rowid; old = Some p.row; new = None }
