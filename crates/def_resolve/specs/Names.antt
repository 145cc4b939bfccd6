-- What the columns of a query name, and the refusals MV-02 and MV-03 of a query.
use Rattle.std.specs.Prelude.{Bool, List, None, Option, Some, [], codes, cond, false, filter_map, flat_map, is_none, length, nat_lt, negsuc, option_and_then, option_map, pos, position, suc, true, unwrap_or, zero, ℕ, ℤ, ◌&&◌, ◌++◌, ◌∷◌}
use Rattle.wh_base.specs.Lists.{first_of, first_some, option_case, same_text, where_true}
use Rattle.wh_base.specs.Tables.{column_number, def_at, table_number}
use Rattle.wh_base.specs.Values.{int_text}
use Rattle.wh_base.specs.declared.columns.ColPart.{ColPart}
use Rattle.wh_base.specs.declared.columns.ColPart.TheVariants.{Col, Mark, RowId}
use Rattle.wh_base.specs.declared.columns.ColRef.{ColRef}
use Rattle.wh_base.specs.declared.queries.ColName.{ColName}
use Rattle.wh_base.specs.declared.queries.NamePart.{NamePart}
use Rattle.wh_base.specs.declared.queries.NamePart.TheVariants.{MarkName, Plain, RowIdName}
use Rattle.wh_base.specs.declared.queries.RawAgg.{RawAgg}
use Rattle.wh_base.specs.declared.queries.RawAgg.TheVariants.{AvgOf, CountOf, CountRows, MaxOf, MinOf, SumOf}
use Rattle.wh_base.specs.declared.queries.RawCondition.{RawCondition}
use Rattle.wh_base.specs.declared.queries.RawExpr.{RawExpr}
use Rattle.wh_base.specs.declared.queries.RawExpr.TheVariants.{Column, Constant, Times}
use Rattle.wh_base.specs.declared.queries.RawOrder.{RawOrder}
use Rattle.wh_base.specs.declared.queries.RawQuery.{RawQuery}
use Rattle.wh_base.specs.declared.queries.RawTable.{RawTable}
use Rattle.wh_base.specs.declared.queries.RawWhat.{RawWhat}
use Rattle.wh_base.specs.declared.replies.Refusal.{Refusal}
use Rattle.wh_base.specs.declared.replies.Refusal.TheVariants.{NoSuchColumn, NoSuchObject}
use Rattle.wh_base.specs.declared.tables.TableDef.{TableDef}
use Rattle.wh_base.specs.declared.queries.RawWhat.TheVariants as what
use Rattle.wh_base.specs.declared.queries.RawCondition.TheVariants as raw
use Rattle.wh_base.specs.declared.queries.RawOrder.TheVariants as order

-- a table of FROM: the name that qualifies its columns, its number, and its definition
pub record Source : Type 0 where
  pub label : List ℕ
  pub table : ℕ
  pub def : TableDef

-- a table of FROM, where there is one of this name; where it has an alias, the alias alone qualifies its columns
abbrev pub source_of : List TableDef → RawTable → Option Source
source_of defs t = option_map (λ n. record { label = unwrap_or t.alias t.table; table = n; def = def_at defs n }) (table_number defs t.table)

-- the tables of FROM that are there
abbrev pub sources_of : List TableDef → RawQuery → List Source
sources_of defs raw = filter_map (source_of defs) raw.tables

-- what a name stands for in a table: a column, where there is one of this name; each table has ROWID and PMARKER
abbrev pub part_named : TableDef → NamePart → Option ColPart
part_named d (Plain name) = option_map Col (column_number d name)
part_named d RowIdName = Some RowId
part_named d MarkName = Some Mark

-- a qualifier picks the tables that bear it; without one all tables are looked in
abbrev pub is_qualified_by : Option (List ℕ) → Source → Bool
is_qualified_by None s = true
is_qualified_by (Some q) s = same_text q s.label

-- the column that a name stands for in this table of FROM
abbrev pub column_in : ColName → Source → Option ColRef
column_in c s = cond (is_qualified_by c.qualifier s) (option_map (λ p. record { table = s.table; part = p }) (part_named s.def c.part)) None

-- the item of a list of one
abbrev pub the_only : {A : Type 0} → List A → Option A
the_only [] = None
the_only (x ∷ []) = Some x
the_only (x ∷ y ∷ ys) = None

-- the name in FROM of a query over one table or view, where it has no alias
abbrev pub lone_name : RawQuery → Option (List ℕ)
lone_name q = option_and_then (λ t. where_true (is_none t.alias && is_none t.on) t.table) (the_only q.tables)

-- the column that a name stands for; None where it is unknown or in two tables
abbrev pub column_of : List Source → ColName → Option ColRef
column_of sources c = the_only (filter_map (column_in c) sources)

-- stands for a column that isn't known; a query with such a name is refused before it counts
abbrev pub no_column : ColRef
no_column = record { table = 0; part = RowId }

-- the column that a known name stands for
abbrev pub column_named : List Source → ColName → ColRef
column_named sources c = unwrap_or (column_of sources c) no_column

-- a name as a refusal of it prints: the name, or `Q.NAME` with the qualifier that is written; PMARKER prints as the ROWID in it
abbrev pub part_text : NamePart → List ℕ
part_text (Plain name) = name
part_text RowIdName = codes "ROWID"
part_text MarkName = codes "ROWID"

abbrev pub name_text : ColName → List ℕ
name_text c = option_case c.qualifier (part_text c.part) (λ q. q ++ (46 ∷ part_text c.part))

-- MV-03 for a name that is unknown or in two tables
abbrev pub name_refusal : List Source → ColName → Option Refusal
name_refusal sources c = option_case (column_of sources c) (Some (NoSuchColumn (name_text c))) (λ _. None)

-- ---- the columns of a query in the order of the text

-- the names in an expression, an aggregate, an item, an ON and a condition
abbrev pub expr_names : RawExpr → List ColName
expr_names (Column a) = a ∷ []
expr_names (Times a b) = a ∷ b ∷ []
expr_names (Constant n) = []

abbrev pub agg_names : RawAgg → List ColName
agg_names CountRows = []
agg_names (CountOf e) = expr_names e
agg_names (SumOf e) = expr_names e
agg_names (AvgOf e) = expr_names e
agg_names (MinOf e) = expr_names e
agg_names (MaxOf e) = expr_names e

abbrev pub what_names : RawWhat → List ColName
what_names (what.Plain c) = c ∷ []
what_names (what.Computed a) = agg_names a

abbrev pub join_names : RawTable → List ColName
join_names t = option_case t.on [] (λ j. j.left ∷ j.right ∷ [])

abbrev pub condition_names : RawCondition → List ColName
condition_names (raw.Compare c op l) = c ∷ []
condition_names (raw.Between c l m) = c ∷ []
condition_names (raw.Equal a b) = a ∷ b ∷ []
condition_names (raw.OneOf c ls) = c ∷ []
condition_names (raw.IsNull c) = c ∷ []
condition_names (raw.NotNull c) = c ∷ []

-- the columns of a query before its ORDER BY: of the items, ON, WHERE, GROUP BY and HAVING
abbrev pub query_names : RawQuery → List ColName
query_names q =
    flat_map (λ i. what_names i.what) q.items
    ++ (flat_map join_names q.tables
    ++ (flat_map condition_names q.conditions
    ++ (q.groups
    ++ flat_map (λ t. agg_names t.agg) q.having)))

-- the first item with this alias
abbrev pub item_called : RawQuery → List ℕ → Option ℕ
item_called q name = position (λ i. option_case i.alias false (same_text name)) q.items

-- a key of ORDER BY that is a name without a qualifier is the first item with this alias
abbrev pub called_by : RawQuery → ColName → Option ℕ
called_by q c = called c.qualifier c.part
  where
    called : Option (List ℕ) → NamePart → Option ℕ
    called None (Plain name) = item_called q name
    called None RowIdName = None
    called None MarkName = None
    called (Some q') part = None

-- the item at a position of ORDER BY, which counts from 1
abbrev pub item_at_position : RawQuery → ℤ → Option ℕ
item_at_position q (pos zero) = None
item_at_position q (pos (suc n)) = where_true (nat_lt n (length q.items)) n
item_at_position q (negsuc n) = None

-- MV-03 for a position out of range, or for a name that is no alias and no one column
abbrev pub order_refusal : List Source → RawQuery → RawOrder → Option Refusal
order_refusal sources q (order.Position n) = option_case (item_at_position q n) (Some (NoSuchColumn (int_text n))) (λ _. None)
order_refusal sources q (order.Column c) = option_case (called_by q c) (name_refusal sources c) (λ _. None)
order_refusal sources q (order.Computed a) = first_of (name_refusal sources) (agg_names a)

-- MV-02 for the first table of FROM that isn't there
abbrev pub table_refusal : List TableDef → RawQuery → Option Refusal
table_refusal defs q = first_of (λ t. option_case (table_number defs t.table) (Some (NoSuchObject t.table)) (λ _. None)) q.tables

-- MV-03 for the first in the text: a column that is unknown or in two tables, or a position that is out of range
abbrev pub names_refusal : List Source → RawQuery → Option Refusal
names_refusal sources q =
    first_some (first_of (name_refusal sources) (query_names q) ∷ first_of (λ k. order_refusal sources q k.what) q.order ∷ [])
