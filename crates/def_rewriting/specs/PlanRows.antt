-- The rows of a plan over a view, made of the entries that the view stores.
use Rattle.std.specs.List.{list_all}
use Rattle.std.specs.Prelude.{Bool, List, None, Option, Some, [], cond, false, filter, filter_map, find, map, option_map, position, ◌++◌, ◌∷◌}
use Rattle.wh_base.specs.Columns.{same_column}
use Rattle.wh_base.specs.Lists.{option_case}
use Rattle.wh_base.specs.Tables.{Base, value_at}
use Rattle.wh_base.specs.Values.{equal_not_null, is_true_that, same_value}
use Rattle.wh_base.specs.declared.columns.Agg.{Agg}
use Rattle.wh_base.specs.declared.columns.ColRef.{ColRef}
use Rattle.wh_base.specs.declared.queries.Item.{Item}
use Rattle.wh_base.specs.declared.queries.StarQuery.{StarQuery}
use Rattle.wh_base.specs.declared.queries.Test.{Test}
use Rattle.wh_base.specs.declared.tables.RowAt.{RowAt}
use Rattle.wh_base.specs.declared.tables.TableDef.{TableDef}
use Rattle.wh_base.specs.declared.values.Value.{Value}
use Rattle.wh_base.specs.declared.values.Value.TheVariants.{Null}
use Rattle.wh_base.specs.declared.views.Back.{Back}
use Rattle.wh_base.specs.declared.views.ViewEntry.{ViewEntry}
use Rattle.def_meaning.specs.Joined.{conditions_true, part_value, rows_at}
use Rattle.def_meaning.specs.Meaning.{Grouped, agg_value, groups, key_value, plain_item}
use Rattle.def_rewriting.specs.Compatible.{linked, own_conditions}
use Rattle.def_rewriting.specs.Reaching.{Place, back_column, place_in, view_layout}
use Rattle.def_rewriting.specs.Rollup.{origin, rolled}
use Rattle.wh_base.specs.declared.queries.Item.TheVariants as item

-- ---- joining back

-- The row of the table joined back belongs to the view's row with this value: by a key NULL equals nothing, by a level NULL equals NULL.
abbrev pub meets_back : Back → Value → RowAt → Bool
meets_back b v r = let w = part_value r b.by.part in cond b.level (same_value v w) (equal_not_null v w)

-- The values that the row adds to the view's row.
abbrev pub gained : Back → RowAt → List Value
gained b r = map (value_at r.values) b.columns

-- The value at the place of a column that was itself selected or gained.
abbrev pub exact_value : List (Option ColRef) → List Value → ColRef → Value
exact_value columns row c = option_case (position (λ d. option_case d false (same_column c)) columns) Null (value_at row)

-- The view's row with the row of least rowid that belongs to it; the view's row is dropped where there is none.
abbrev pub back_row : Base → List (Option ColRef) → Back → List Value → Option (List Value)
back_row base columns b row =
    option_map (λ r. row ++ gained b r) (find (meets_back b (exact_value columns row b.source)) (rows_at base b.table))

-- The columns of the places that the table adds.
abbrev pub gained_columns : Back → List (Option ColRef)
gained_columns b = map (λ n. Some (back_column b n)) b.columns

-- One table after another is joined back, each to the rows that those before it left.
abbrev pub extend_all : Base → List (Option ColRef) → List Back → List (List Value) → List (List Value)
extend_all base columns [] rows = rows
extend_all base columns (b ∷ bs) rows = extend_all base (columns ++ gained_columns b) bs (filter_map (back_row base columns b) rows)

-- The column that an item of the view selects; none for an aggregate.
abbrev pub selected_column : Item → Option ColRef
selected_column (item.Col c) = Some c
selected_column (item.Agg a) = None

-- The view's rows, each followed by what each table joined back gains.
abbrev pub extended_rows : Base → StarQuery → List Back → List ViewEntry → List (List Value)
extended_rows base v backs entries = extend_all base (map selected_column v.items) backs (map (λ e. e.row) entries)

-- The value of a column in an extended row: that of the first place where it stands.
abbrev pub placed : List Place → List Value → ColRef → Value
placed places row c = option_case (place_in places c) Null (value_at row)

-- ---- aggregates, items and tests over extended rows

-- Over an aggregate view an aggregate is rolled up from the view's; over a join view it is computed from the columns.
abbrev pub plan_agg : List TableDef → StarQuery → StarQuery → (List Value → ColRef → Value) → List (List Value) → Agg → Value
plan_agg defs q v value rows a =
    cond v.grouped (option_case (origin defs (linked q v) v a) Null (rolled rows)) (agg_value value rows a)

-- An item of a group: a column from the group's key, or an aggregate over the group's rows.
abbrev pub plan_item : List TableDef → StarQuery → StarQuery → (List Value → ColRef → Value) → Grouped (List Value) → Item → Value
plan_item defs q v value g (item.Col c) = key_value q.keys g.0 c
plan_item defs q v value g (item.Agg a) = plan_agg defs q v value g.1 a

-- A test of HAVING over a group.
abbrev pub plan_test : List TableDef → StarQuery → StarQuery → (List Value → ColRef → Value) → Grouped (List Value) → Test → Bool
plan_test defs q v value g t = is_true_that (plan_agg defs q v value g.1 t.agg) t.op t.value

-- One row for each group that meets HAVING, and without GROUP BY for the one group, also over no row.
abbrev pub plan_groups : List TableDef → StarQuery → StarQuery → (List Value → ColRef → Value) → List (List Value) → List (List Value)
plan_groups defs q v value rows =
    map (λ g. map (plan_item defs q v value g) q.items)
    (filter (λ g. list_all (plan_test defs q v value g) q.having) (groups value q.keys rows))

-- The rows filtered by the query's own conditions, and grouped where the query is grouped.
abbrev pub general_rows : List TableDef → StarQuery → StarQuery → List Place → List (List Value) → List (List Value)
general_rows defs q v places extended =
    let value : (List Value → ColRef → Value) = placed places in
    let rows = filter (λ r. conditions_true (value r) (own_conditions q v)) extended in
    cond q.grouped (plan_groups defs q v value rows) (map (λ r. map (plain_item (value r)) q.items) rows)

-- ---- text matches

-- An item taken from one row of the view.
abbrev pub entry_item : List TableDef → StarQuery → StarQuery → List Value → Item → Value
entry_item defs q v row (item.Col c) = placed (view_layout v) row c
entry_item defs q v row (item.Agg a) = option_case (origin defs (linked q v) v a) Null (rolled (row ∷ []))

-- One row for each entry of the view.
abbrev pub text_rows : List TableDef → StarQuery → StarQuery → List ViewEntry → List (List Value)
text_rows defs q v entries = map (λ e. map (entry_item defs q v e.row) q.items) entries
