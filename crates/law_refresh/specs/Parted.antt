-- What a refresh by partitions computes from: what the view stored, the rows of the tracked table's stale partitions, and the rows of the other tables.
use Rattle.std.specs.List.{list_any}
use Rattle.std.specs.Prelude.{Bool, List, None, Some, [], false, filter, length, map, not, pos, slice_get, ℕ, ◌++◌, ◌||◌, ◌≡◌, ◌⊎◌}
use Rattle.wh_base.specs.Lists.{has_number, option_case, sorted_by}
use Rattle.wh_base.specs.Tables.{def_at, part_intervals, part_of_key, table_at, value_at}
use Rattle.wh_base.specs.Values.{interval_has}
use Rattle.wh_base.specs.declared.columns.ColPart.TheVariants.{Col, Mark}
use Rattle.wh_base.specs.declared.queries.Item.TheVariants as item
use Rattle.wh_base.specs.declared.statements.Event.{Event}
use Rattle.wh_base.specs.declared.tables.RowAt.{RowAt}
use Rattle.wh_base.specs.declared.values.Value.{Value}
use Rattle.wh_base.specs.declared.values.Value.TheVariants.{Num}
use Rattle.wh_base.specs.declared.views.ViewEntry.{ViewEntry}
use Rattle.def_history.specs.Catalog.{Catalog, View, base_now, defs_now}
use Rattle.def_history.specs.Staleness.{content, part_restriction, stale_intervals, touches_after}
use Rattle.def_journal.specs.Refreshing.{is_stale_part, stale_part_rows}
use Rattle.def_meaning.specs.Joined.{column_value, rows_at}
use Rattle.def_meaning.specs.Meaning.{entries, entry_cmp, stored}
use Rattle.def_restrictions.specs.Definition.{selects_key, tracked}
use Rattle.law_delta.specs.Moved.{side_tuples}
use Rattle.law_refresh.specs.Planned.{IsPlanned}
use Rattle.law_trace.specs.Reached.{catalog_of}

-- The numbers of the table's partitions that are computed anew.
abbrev pub stale_numbers : Catalog → View → ℕ → List ℕ
stale_numbers c v n = map (λ p. p.0.number) (filter (is_stale_part c v n) (part_intervals (table_at (base_now c) n)))

-- Their rows, which are those that READ counts of this table.
abbrev pub stale_rows : Catalog → View → ℕ → List RowAt
stale_rows c v n = filter (λ r. has_number (stale_numbers c v n) r.mark) (rows_at (base_now c) n)

-- The key is in a stale interval, or in a partition that is computed anew.
abbrev pub is_stale_key : Catalog → View → ℕ → Value → Bool
is_stale_key c v n key =
    list_any (λ i. interval_has i key) (stale_intervals c v) || option_case (part_of_key (table_at (base_now c) n) key) false (is_stale_part c v n)

-- The marker is of a partition that was touched.
abbrev pub is_touched_mark : Catalog → View → ℕ → Value → Bool
is_touched_mark c v n (Num (pos m)) = has_number (map (λ t. t.number) (touches_after c v n)) m
is_touched_mark c v n w = false

-- The entries whose value at a place isn't stale, with the entries of the stale rows joined with the rows of the other tables as they are now.
abbrev pub entries_parted : Catalog → View → ℕ → (Value → Bool) → ℕ → List ViewEntry
entries_parted c v n stale place =
    let q = v.def.query in
    filter (λ e. not (stale (value_at e.row place))) (content c v)
    ++ entries (column_value q.tables) q (side_tuples q n (stale_rows c v n) (rows_at (base_now c)))

-- The tracked table with its partition key, and the place at which the view selects the key, or else the marker.
pub record IsParted (c : Catalog) (v : View) : Type 0 where
  pub table : ℕ
  pub tracks : tracked v.def ≡ Some (table, def_at (defs_now c) table)
  pub key : ℕ
  pub keyed : (def_at (defs_now c) table).part_key ≡ Some key
  pub place : ℕ
  pub selected : (slice_get v.def.query.items place ≡ Some (item.Col (record { table = table; part = Col key })))
      ⊎ ((selects_key v.def ≡ false) × (slice_get v.def.query.items place ≡ Some (item.Col (record { table = table; part = Mark }))))

pub record PartLaws : Type 0 where
  -- a view that selects the partition key of its tracked table, at this place
  pub keyed : (trace : List Event) (v : View) (n k place : ℕ) → IsPlanned (catalog_of trace) v → part_restriction (catalog_of trace) v ≡ None
      → tracked v.def ≡ Some (n, def_at (defs_now (catalog_of trace)) n) → (def_at (defs_now (catalog_of trace)) n).part_key ≡ Some k
      → slice_get v.def.query.items place ≡ Some (item.Col (record { table = n; part = Col k }))
      → sorted_by entry_cmp (entries_parted (catalog_of trace) v n (is_stale_key (catalog_of trace) v n) place) ≡ stored v.def.query (base_now (catalog_of trace))
  -- a view that selects its PMARKER alone
  pub marked : (trace : List Event) (v : View) (n k place : ℕ) → IsPlanned (catalog_of trace) v → part_restriction (catalog_of trace) v ≡ None
      → tracked v.def ≡ Some (n, def_at (defs_now (catalog_of trace)) n) → (def_at (defs_now (catalog_of trace)) n).part_key ≡ Some k → selects_key v.def ≡ false
      → slice_get v.def.query.items place ≡ Some (item.Col (record { table = n; part = Mark }))
      → sorted_by entry_cmp (entries_parted (catalog_of trace) v n (is_touched_mark (catalog_of trace) v n) place) ≡ stored v.def.query (base_now (catalog_of trace))
  -- one of the two serves
  pub choice : (trace : List Event) (v : View) → IsPlanned (catalog_of trace) v → part_restriction (catalog_of trace) v ≡ None → IsParted (catalog_of trace) v
  -- nothing is stale: the view stores what it stored
  pub still : (trace : List Event) (v : View) → IsPlanned (catalog_of trace) v → part_restriction (catalog_of trace) v ≡ None → stale_intervals (catalog_of trace) v ≡ []
      → content (catalog_of trace) v ≡ stored v.def.query (base_now (catalog_of trace))
  -- READ counts the rows that are taken: those of the stale partitions, and all of the other tables
  pub reads : (c : Catalog) (v : View) (n : ℕ) → stale_part_rows c v n ≡ length (stale_rows c v n)
