-- What a view's definition selects and uses, when the view is insert-only, and which of its tables is tracked by partitions.
use Rattle.std.specs.List.{list_all, list_any}
use Rattle.std.specs.Prelude.{Bool, List, None, Option, Some, [], false, filter, filter_map, find, flat_map, is_some, map, not, option_and_then, option_map, true, zip, ℕ, ◌&&◌, ◌++◌, ◌==◌, ◌||◌, ◌∷◌}
use Rattle.wh_base.specs.Columns.{agg_columns, expr_columns, same_agg_by, same_expr, same_item}
use Rattle.wh_base.specs.Lists.{is_empty, option_case}
use Rattle.wh_base.specs.Tables.{never_null_part}
use Rattle.wh_base.specs.declared.columns.Agg.{Agg}
use Rattle.wh_base.specs.declared.columns.Agg.TheVariants.{Avg, Count, CountAll, Max, Min, Sum}
use Rattle.wh_base.specs.declared.columns.ColPart.{ColPart}
use Rattle.wh_base.specs.declared.columns.ColPart.TheVariants.{Col, Mark, RowId}
use Rattle.wh_base.specs.declared.columns.ColRef.{ColRef}
use Rattle.wh_base.specs.declared.queries.Condition.{Condition}
use Rattle.wh_base.specs.declared.queries.Condition.TheVariants.{Compare, IsNull, NotNull, OneOf}
use Rattle.wh_base.specs.declared.queries.Item.{Item}
use Rattle.wh_base.specs.declared.queries.StarQuery.{StarQuery}
use Rattle.wh_base.specs.declared.tables.TableDef.{TableDef}
use Rattle.wh_base.specs.declared.views.ViewDef.{ViewDef}
use Rattle.def_meaning.specs.Accumulated.{selected_aggs}
use Rattle.wh_base.specs.declared.queries.Item.TheVariants as item

-- ---- columns

-- the columns in an item, and the column of a condition
abbrev pub item_columns : Item → List ColRef
item_columns (item.Col c) = c ∷ []
item_columns (item.Agg a) = agg_columns a

abbrev pub condition_column : Condition → ColRef
condition_column (Compare c op v) = c
condition_column (OneOf c vs) = c
condition_column (IsNull c) = c
condition_column (NotNull c) = c

-- all columns that the definition uses: in items, conditions, joins, group columns and HAVING; ORDER BY has no effect
abbrev pub used_columns : StarQuery → List ColRef
used_columns q =
    flat_map item_columns q.items
    ++ (map condition_column q.conditions
    ++ (flat_map (λ e. e.from ∷ e.to ∷ []) q.edges
    ++ (q.keys ++ flat_map (λ t. agg_columns t.agg) q.having)))

-- the place of the column that is used; PMARKER uses the partition key, ROWID no column
abbrev pub used_place : TableDef → ColPart → Option ℕ
used_place d (Col n) = Some n
used_place d RowId = None
used_place d Mark = d.part_key

-- the places of the columns of this table that the definition uses
abbrev pub used_places : StarQuery → ℕ → TableDef → List ℕ
used_places q table d = filter_map (λ c. used_place d c.part) (filter (λ c. c.table == table) (used_columns q))

-- the very column is an item
abbrev pub selects_column : StarQuery → ColRef → Bool
selects_column q c = list_any (λ i. same_item (item.Col c) i) q.items

-- ---- aggregates

-- the aggregate is an item, word for word: SUM(b*a) isn't SUM(a*b), and columns equal by joins aren't the same
abbrev pub selects_agg : StarQuery → Agg → Bool
selects_agg q a = list_any (same_agg_by same_expr a) (selected_aggs q)

-- MIN or MAX
abbrev pub is_extreme : Agg → Bool
is_extreme (Min e) = true
is_extreme (Max e) = true
is_extreme a = false

-- the definition has MIN or MAX
abbrev pub has_extreme : StarQuery → Bool
has_extreme q = list_any is_extreme (selected_aggs q)

-- AVG(e) where COUNT(e) isn't selected
abbrev pub average_alone : StarQuery → Agg → Bool
average_alone q (Avg e) = not (selects_agg q (Count e))
average_alone q a = false

abbrev pub has_average_alone : StarQuery → Bool
has_average_alone q = list_any (average_alone q) (selected_aggs q)

-- ---- the tables of a view

-- the tables in tree order, with their definitions
abbrev pub table_defs : ViewDef → List (ℕ × TableDef)
table_defs d = zip d.query.tables d.tables

-- the column can't be NULL: it is declared NOT NULL, or is ROWID or PMARKER
abbrev pub view_never_null : ViewDef → ColRef → Bool
view_never_null d c = option_case (find (λ t. t.0 == c.table) (table_defs d)) false (λ t. never_null_part t.1 c.part)

-- SUM(e) without its count: COUNT(e) isn't selected, nor does COUNT(*) stand for it since e can't be NULL
abbrev pub sum_alone : ViewDef → Agg → Bool
sum_alone d (Sum e) = not (selects_agg d.query (Count e)) && not (list_all (view_never_null d) (expr_columns e) && selects_agg d.query CountAll)
sum_alone d a = false

-- the view is insert-only: its logs bring it up to date only as long as rows are inserted and none is deleted or updated.
-- So it is where it has MIN or MAX and a condition, or a sum without its count, or no COUNT(*)
abbrev pub is_insert_only : ViewDef → Bool
is_insert_only d =
    (has_extreme d.query && not (is_empty d.query.conditions))
    || (list_any (sum_alone d) (selected_aggs d.query) || not (selects_agg d.query CountAll))

-- ---- the tracked table: the first partitioned one in tree order

-- the tracked table, with its definition; None where no table is partitioned
abbrev pub tracked : ViewDef → Option (ℕ × TableDef)
tracked d = find (λ t. is_some t.1.part_key) (table_defs d)

-- this table is the tracked one
abbrev pub is_tracked : ViewDef → ℕ → Bool
is_tracked d table = option_case (tracked d) false (λ t. t.0 == table)

-- the partition key of the tracked table
abbrev pub tracked_key : ViewDef → Option ColRef
tracked_key d = option_and_then (λ t. option_map (λ k. record { table = t.0; part = Col k }) t.1.part_key) (tracked d)

-- the PMARKER of the tracked table is selected
abbrev pub selects_mark : ViewDef → Bool
selects_mark d = option_case (tracked d) false (λ t. selects_column d.query (record { table = t.0; part = Mark }))

-- the partition key of the tracked table is selected. In an aggregate view it is then grouped, as each plain item is
abbrev pub selects_key : ViewDef → Bool
selects_key d = option_case (tracked_key d) false (selects_column d.query)
