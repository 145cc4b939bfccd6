-- The words of the laws: what a query, a view and a base state have to be.
use Rattle.std.specs.Prelude.{Bool, List, [], false, map, true, ◌++◌, ◌∷◌, ◌≡◌}
use Rattle.std.specs.List.{flat_map, list_all, list_any}
use Rattle.wh_base.specs.Columns.{has_column}
use Rattle.wh_base.specs.Tables.{Base, never_null}
use Rattle.wh_base.specs.declared.values.Value.{Value}
use Rattle.wh_base.specs.declared.values.Value.TheVariants.{Ratio}
use Rattle.wh_base.specs.declared.columns.Agg.{Agg}
use Rattle.wh_base.specs.declared.columns.Agg.TheVariants.{Avg, Count, CountAll, Max, Min, Sum}
use Rattle.wh_base.specs.declared.columns.ColRef.{ColRef}
use Rattle.wh_base.specs.declared.columns.Expr.{Expr}
use Rattle.wh_base.specs.declared.queries.Condition.{Condition}
use Rattle.wh_base.specs.declared.queries.Condition.TheVariants.{Compare, IsNull, NotNull, OneOf}
use Rattle.wh_base.specs.declared.queries.StarQuery.{StarQuery}
use Rattle.wh_base.specs.declared.tables.RowAt.{RowAt}
use Rattle.wh_base.specs.declared.tables.TableDef.{TableDef}
use Rattle.def_meaning.specs.Accumulated.{query_aggs}
use Rattle.def_meaning.specs.Joined.{column_value, joined, product, rows_at}
use Rattle.def_meaning.specs.Meaning.{expr_value, not_null}
use Rattle.def_meaning.specs.Ranges.{equal_columns}
use Rattle.def_restrictions.specs.Definition.{condition_column}
use Rattle.def_rewriting.specs.Compatible.{conditions_implied, linked, own_conditions}
use Rattle.def_rewriting.specs.Reaching.{plain_columns, stands_at, view_layout}
use Rattle.def_rewriting.specs.Rollup.{computable, counts_all}

abbrev pub Each : {A : Type 0} → (A → Type 0) → List A → Type 0
Each P [] = Unit {0}
Each P (x ∷ xs) = P x × Each P xs

-- no pair
abbrev pub is_plain : Value → Bool
is_plain (Ratio a) = false
is_plain v = true

-- all values of a condition are plain
abbrev pub PlainIn : Condition → Type 0
PlainIn (Compare c op v) = is_plain v ≡ true
PlainIn (OneOf c vs) = list_all is_plain vs ≡ true
PlainIn (IsNull c) = Unit {0}
PlainIn (NotNull c) = Unit {0}

-- an expression that counts all is NULL nowhere
abbrev pub Sure : {T : Type 0} → (T → ColRef → Value) → StarQuery → List TableDef → Expr → List T → Type 0
Sure value v defs e ts = counts_all defs v e ≡ true → Each (λ t. not_null (expr_value (value t) e) ≡ true) ts

abbrev pub SureAgg : {T : Type 0} → (T → ColRef → Value) → (ColRef → ColRef → Bool) → StarQuery → List TableDef → Agg → List T → Type 0
SureAgg value eq v defs CountAll ts = Unit {0}
SureAgg value eq v defs (Count e) ts = Sure value v defs e ts
SureAgg value eq v defs (Sum e) ts = Unit {0}
SureAgg value eq v defs (Avg e) ts = Unit {0}
SureAgg value eq v defs (Min e) ts = Unit {0}
SureAgg value eq v defs (Max e) ts = Unit {0}

-- what the base state promises of a tuple's values
pub record Promised (defs : List TableDef) (q v : StarQuery) (value : ColRef → Value) : Type 0 where
  -- no pair is stored
  pub plain : (c : ColRef) → is_plain (value c) ≡ true
  -- what is declared so is not NULL
  pub sure : Each (λ d. Each (λ c. never_null defs c ≡ true → not_null (value c) ≡ true) (equal_columns (q.edges ++ v.edges) (condition_column d))) v.conditions

-- all ways to take a row of each of the tables
abbrev pub ways : StarQuery → Base → List (List RowAt)
ways v base = product (map (rows_at base) v.tables)

-- what holds of a query and a view in star form over one base state
pub record Stars (defs : List TableDef) (q v : StarQuery) (base : Base) : Type 0 where
  -- a view's selected columns are its group columns
  pub selected : Each (λ d. has_column v.keys d ≡ true) (flat_map plain_columns v.items)
  -- literals aren't pairs
  pub plain_q : Each PlainIn q.conditions
  pub plain_v : Each PlainIn v.conditions
  -- stored values aren't pairs, and NOT NULL columns aren't NULL
  pub promised : Each (λ t. Promised defs q v (column_value v.tables t)) (ways v base)
  -- what COUNT(*) counts for COUNT(e) isn't NULL
  pub sure : Each (λ a. SureAgg (column_value v.tables) (linked q v) v defs a (joined v base)) (query_aggs q)

-- what eligibility says, with nothing joined back
pub record Serving (defs : List TableDef) (q v : StarQuery) : Type 0 where
  pub grouped : v.grouped ≡ true
  -- the same tables and joins
  pub same_tables : q.tables ≡ v.tables
  pub same_edges : q.edges ≡ v.edges
  -- conditions are implied
  pub implied : conditions_implied defs q v ≡ true
  -- available by the view
  pub keys : Each (λ c. list_any (stands_at c) (view_layout v) ≡ true) q.keys
  pub conditions : Each (λ c. list_any (stands_at c) (view_layout v) ≡ true) (map condition_column (own_conditions q v))
  -- aggregates come from the view
  pub computed : computable defs q v ≡ true
