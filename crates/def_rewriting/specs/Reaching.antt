-- Which columns a view makes available, and which tables have to be joined back for the others.
use Rattle.std.specs.List.{list_all, list_any}
use Rattle.std.specs.Prelude.{Bool, List, None, Option, Some, [], cond, false, filter, find, flat_map, fold, is_some, length, map, nat_eq, not, option_and_then, option_map, position, true, ℕ, ◌&&◌, ◌++◌, ◌==◌, ◌∷◌}
use Rattle.wh_base.specs.Columns.{agg_columns, has_column}
use Rattle.wh_base.specs.Lists.{count_from, distinct, first_of, first_some, is_empty, option_case, where_true}
use Rattle.wh_base.specs.Tables.{def_at, never_null}
use Rattle.wh_base.specs.declared.columns.ColPart.{ColPart}
use Rattle.wh_base.specs.declared.columns.ColPart.TheVariants.{Col, Mark, RowId}
use Rattle.wh_base.specs.declared.columns.ColRef.{ColRef}
use Rattle.wh_base.specs.declared.queries.Item.{Item}
use Rattle.wh_base.specs.declared.queries.StarQuery.{StarQuery}
use Rattle.wh_base.specs.declared.statements.Level.{Level}
use Rattle.wh_base.specs.declared.tables.TableDef.{TableDef}
use Rattle.wh_base.specs.declared.views.Back.{Back}
use Rattle.wh_base.specs.declared.views.Reach.{Reach}
use Rattle.def_dimensions.specs.Dimensions.{DimLevel, Dimension}
use Rattle.def_dimensions.specs.Relations.{determined}
use Rattle.def_meaning.specs.Accumulated.{query_aggs}
use Rattle.def_meaning.specs.Ranges.{equal_columns}
use Rattle.def_restrictions.specs.Definition.{condition_column, selects_column}
use Rattle.def_rewriting.specs.Compatible.{is_table_of, join_into, may_rely, own_conditions}
use Rattle.wh_base.specs.declared.queries.Item.TheVariants as item
use Rattle.wh_base.specs.declared.views.Requirement.TheVariants as requirement

-- ---- the layout of an extended row: the view's row, followed by the columns that each table joined back gains

-- A place of the row: the column that was selected or gained there, none for an aggregate, and all columns equal to it.
pub record Place : Type 0 where
  pub column : Option ColRef
  pub equals : List ColRef

-- A selected column stands also for the columns equal to it by the view's joins.
abbrev pub item_place : StarQuery → Item → Place
item_place v (item.Col c) = record { column = Some c; equals = equal_columns v.edges c }
item_place v (item.Agg a) = record { column = None; equals = [] }

-- The places of the view's own row.
abbrev pub view_layout : StarQuery → List Place
view_layout v = map (item_place v) v.items

-- A declared column of the table joined back.
abbrev pub back_column : Back → ℕ → ColRef
back_column b n = record { table = b.table; part = Col n }

-- A gained column stands also for the columns equal to it by the query's joins.
abbrev pub back_layout : StarQuery → Back → List Place
back_layout q b = map (λ n. record { column = Some (back_column b n); equals = equal_columns q.edges (back_column b n) }) b.columns

-- The places of a row extended by these tables, in this order.
abbrev pub layout : StarQuery → StarQuery → List Back → List Place
layout q v backs = view_layout v ++ flat_map (back_layout q) backs

-- The column stands at this place.
abbrev pub stands_at : ColRef → Place → Bool
stands_at c p = has_column p.equals c

-- The first place where a column stands.
abbrev pub place_in : List Place → ColRef → Option ℕ
place_in places c = position (stands_at c) places

-- ---- available columns

-- A declared column, and not ROWID or PMARKER, which are available by the view's own items alone.
abbrev pub is_declared : ColPart → Bool
is_declared (Col n) = true
is_declared RowId = false
is_declared Mark = false

-- The column that stands for an available one: the first selected or gained column that is it or equals it.
abbrev pub source_of : StarQuery → StarQuery → List Back → ColRef → Option ColRef
source_of q v backs c = option_and_then (λ p. p.column) (find (stands_at c) (cond (is_declared c.part) (layout q v backs) (view_layout v)))

-- The column is available, once these tables are joined back.
abbrev pub available : StarQuery → StarQuery → List Back → ColRef → Bool
available q v backs c = is_some (source_of q v backs c)

-- ---- wanted columns

-- The column of an item that is no aggregate.
abbrev pub plain_columns : Item → List ColRef
plain_columns (item.Col c) = c ∷ []
plain_columns (item.Agg a) = []

-- Over a join view the columns in the query's aggregates.
abbrev pub wanted_by_aggs : StarQuery → StarQuery → List ColRef
wanted_by_aggs q v = cond v.grouped [] (flat_map agg_columns (query_aggs q))

-- A join column towards a table that the query alone has.
abbrev pub wanted_by_joins : StarQuery → StarQuery → List ColRef
wanted_by_joins q v = flat_map (λ e. cond (is_table_of v e.to.table) [] (e.from ∷ [])) q.edges

-- Wanted are the group columns and plain items, the columns of conditions that are still to be filtered by, those in
-- aggregates over a join view, and the near columns of joins to tables of the query alone.
abbrev pub wanted : StarQuery → StarQuery → List ColRef
wanted q v =
    q.keys
    ++ (flat_map plain_columns q.items
    ++ (map condition_column (own_conditions q v) ++ (wanted_by_aggs q v ++ wanted_by_joins q v)))

-- The declared columns of a table that are wanted and not available.
abbrev pub missing : StarQuery → StarQuery → List Back → ℕ → List ColRef
missing q v backs n = filter (λ c. (c.table == n) && (is_declared c.part && not (available q v backs c))) (wanted q v)

-- A wanted ROWID or PMARKER of the table that is no item of the view. It can't be gained by joining back.
abbrev pub mark_missing : StarQuery → StarQuery → ℕ → Bool
mark_missing q v n = list_any (λ c. (c.table == n) && (not (is_declared c.part) && not (selects_column v c))) (wanted q v)

-- ---- joining back

-- By a key a table gains all its declared columns.
abbrev pub back_by_key : List TableDef → ℕ → ColRef → ColRef → Back
back_by_key defs n by source = record { table = n; by = by; source = source; level = false; columns = count_from 0 (length (def_at defs n).columns) }

-- A table of the query alone is joined back by the key that the query joins it on, where its join column is available.
abbrev pub back_alone : List TableDef → StarQuery → StarQuery → List Back → ℕ → Option Back
back_alone defs q v backs n =
    option_and_then (λ e. option_map (back_by_key defs n e.to) (source_of q v backs e.from)) (join_into q n)

-- The key on which the query joins the table; the root has none.
abbrev pub join_key : StarQuery → ℕ → List ColRef
join_key q n = option_case (join_into q n) [] (λ e. e.to ∷ [])

-- The keys of a table that are NOT NULL, in the order of declaration.
abbrev pub sure_keys : List TableDef → ℕ → List ColRef
sure_keys defs n = filter (never_null defs) (map (λ k. record { table = n; part = Col k }) (def_at defs n).keys)

-- A common table is joined back by its join key where that is available, else by the first NOT NULL key that is.
abbrev pub back_by_own_key : List TableDef → StarQuery → StarQuery → List Back → ℕ → Option Back
back_by_own_key defs q v backs n = first_of (λ k. option_map (back_by_key defs n k) (source_of q v backs k)) (join_key q n ++ sure_keys defs n)

-- The place of a declared column.
abbrev pub declared_place : ColRef → List ℕ
declared_place c = place c.part
  where
    place : ColPart → List ℕ
    place (Col n) = n ∷ []
    place RowId = []
    place Mark = []

-- By a level column a table gains the columns that the level determines.
abbrev pub back_by_level : Dimension → DimLevel → ColRef → Back
back_by_level d l source =
    record { table = l.column.table; by = l.column; source = source; level = true; columns = distinct nat_eq (flat_map declared_place (determined d l.column)) }

-- The level is one of this table, and determines all that is missing.
abbrev pub level_serves : StarQuery → StarQuery → List Back → ℕ → Dimension → DimLevel → Bool
level_serves q v backs n d l =
    (l.column.table == n) && list_all (has_column (determined d l.column)) (missing q v backs n)

-- The table joined back by this level, where the level serves and its column is available.
abbrev pub level_back : StarQuery → StarQuery → List Back → ℕ → Dimension → DimLevel → Option Back
level_back q v backs n d l = cond (level_serves q v backs n d l) (option_map (back_by_level d l) (source_of q v backs l.column)) None

-- The first level that serves, by creation of its dimension and then by declaration.
abbrev pub back_by_levels : List Dimension → StarQuery → StarQuery → List Back → ℕ → Option Back
back_by_levels dims q v backs n = first_of (λ d. first_of (level_back q v backs n d) d.levels) dims

-- A common table is joined back by a key; where no key is available, and dimensions may be relied on, by a level.
abbrev pub back_common : List TableDef → List Dimension → Level → StarQuery → StarQuery → List Back → ℕ → Option Back
back_common defs dims level q v backs n =
    first_some (back_by_own_key defs q v backs n ∷ cond (may_rely level) (back_by_levels dims q v backs n) None ∷ [])

-- ---- the walk over the query's tables in tree order

-- What the walk has found so far: the tables joined back, in order, and whether E3 or E6 has failed at a table.
pub record Walk : Type 0 where
  pub back : List Back
  pub fails_e3 : Bool
  pub fails_e6 : Bool

-- The table is joined back, and its columns are available from here on.
abbrev pub gains : Walk → Back → Walk
gains w b = record w { back = w.back ++ b ∷ [] }

-- A table of the query alone fails E3 where its join column isn't available, and E6 where its ROWID or PMARKER is missing.
abbrev pub walk_alone : Bool → Walk → Option Back → Walk
walk_alone no_mark w None = record w { fails_e3 = true }
walk_alone no_mark w (Some b) = cond no_mark (record w { fails_e6 = true }) (gains w b)

-- A common table of which nothing is missing needs no joining back. Else it fails E6 where a
-- ROWID or PMARKER is missing or where neither a key nor a level serves.
abbrev pub walk_common : Bool → Bool → Walk → Option Back → Walk
walk_common no_mark complete w back =
    cond no_mark (record w { fails_e6 = true })
    (cond complete w (option_case back (record w { fails_e6 = true }) (gains w)))

-- A table that fails gains nothing, and the walk goes on.
abbrev pub walk_table : List TableDef → List Dimension → Level → StarQuery → StarQuery → Walk → ℕ → Walk
walk_table defs dims level q v w n =
    let no_mark = mark_missing q v n in
    cond (is_table_of v n)
    (walk_common no_mark (is_empty (missing q v w.back n)) w (back_common defs dims level q v w.back n))
    (walk_alone no_mark w (back_alone defs q v w.back n))

-- The whole walk, from the columns that the view makes available.
abbrev pub walk : List TableDef → List Dimension → Level → StarQuery → StarQuery → Walk
walk defs dims level q v = fold (walk_table defs dims level q v) (record { back = []; fails_e3 = false; fails_e6 = false }) q.tables

-- The first of E3 and E6 that fails, where one does, and the tables joined back.
abbrev pub reach_of : Walk → Reach
reach_of w = record { failed = cond w.fails_e3 (Some requirement.E3) (where_true w.fails_e6 requirement.E6); back = w.back }

-- E3 and E6 of a query and a view, with the tables joined back.
abbrev pub reach : List TableDef → List Dimension → Level → StarQuery → StarQuery → Reach
reach defs dims level q v = reach_of (walk defs dims level q v)
