-- The laws as the contracts name them.
use Rattle.std.specs.Prelude.{[], Bool, List, None, Ok, Option, Some, false, filter, true, ℕ, ◌==◌, ◌≡◌}
use Rattle.std.specs.List.{flat_map, list_all}
use Rattle.wh_base.specs.Columns.{has_column}
use Rattle.wh_base.specs.Lists.{has_number}
use Rattle.def_restrictions.specs.Definition.{selects_column}
use Rattle.wh_base.specs.declared.columns.ColPart.{ColPart}
use Rattle.wh_base.specs.declared.columns.ColPart.TheVariants.{Col}
use Rattle.wh_base.specs.declared.columns.ColRef.{ColRef}
use Rattle.wh_base.specs.declared.tables.RowAt.{RowAt}
use Rattle.wh_base.specs.declared.values.Interval.{Interval}
use Rattle.wh_base.specs.Tables.{Base}
use Rattle.wh_base.specs.declared.queries.RawQuery.{RawQuery}
use Rattle.wh_base.specs.declared.queries.StarQuery.{StarQuery}
use Rattle.wh_base.specs.declared.statements.Level.{Level}
use Rattle.wh_base.specs.declared.tables.TableDef.{TableDef}
use Rattle.wh_base.specs.declared.views.Class.TheVariants.{General, JoinBack}
use Rattle.def_dimensions.specs.Dimensions.{Dimension}
use Rattle.def_dimensions.specs.Relations.{dimension_holds}
use Rattle.def_meaning.specs.Accumulated.{query_aggs}
use Rattle.def_meaning.specs.Joined.{part_value, rows_at}
use Rattle.def_meaning.specs.Meaning.{in_order, meaning, meaning_over, stored}
use Rattle.def_meaning.specs.Ranges.{misses}
use Rattle.wh_base.specs.declared.views.ViewDef.{ViewDef}
use Rattle.def_nest.specs.Compose.{compose}
use Rattle.def_resolve.specs.Resolve.{resolve}
use Rattle.def_rewriting.specs.Compatible.{compatible, may_rely}
use Rattle.def_rewriting.specs.Classes.{class_rows}
use Rattle.def_rewriting.specs.PlanRows.{text_rows}
use Rattle.def_rewriting.specs.Reaching.{plain_columns, reach}
use Rattle.def_rewriting.specs.Rollup.{computable}
use Rattle.law_rewrite.specs.Fine.{KindsFine, RowsFine, StarFine}
use Rattle.def_rewriting.specs.Concat.{concat_rows}
use Rattle.law_rewrite.specs.Outside.{is_outside}
use Rattle.law_rewrite.specs.Texts.{ItemGiven, SameFrom}
use Rattle.law_rewrite.specs.Words.{Each, Serving, Stars, is_plain}

-- Over a view of the same tables, with nothing joined back.
abbrev pub EligibleMeans : Type 0
EligibleMeans =
    (defs : List TableDef) (q v : StarQuery) (base : Base) (key : Option ColRef) (stale : List Interval) → Stars defs q v base → Serving defs q v
    → in_order q.order (class_rows defs base q v key stale General [] (stored v base)) ≡ meaning q base

-- **Where a view passes what is asked of its form, and what may be relied on holds, the plan over what it stores, with the tables that the walk
-- joins back, gives what the query means.** So it is for both classes of such plans: the rows of the one with nothing joined back are the same.
abbrev pub PlansMean : Type 0
PlansMean =
    (defs : List TableDef) (dims : List Dimension) (level : Level) (q v : StarQuery) (base : Base) (key : Option ColRef) (stale : List Interval)
    → StarFine defs q → StarFine defs v → RowsFine defs v.tables (may_rely level) (rows_at base) → (may_rely level ≡ true → Each (λ d. dimension_holds base d ≡ true) dims)
    → Each (KindsFine (rows_at base)) (query_aggs q)
    → compatible defs level q v ≡ None → (reach defs dims level q v).failed ≡ None → computable defs q v ≡ true
    → in_order q.order (class_rows defs base q v key stale JoinBack (reach defs dims level q v).back (stored v base)) ≡ meaning q base

-- **A query whose interval of a key misses certain intervals means the same over rows that are the same outside of these.** The other tables of the query have the same rows.
abbrev pub StillMeans : Type 0
StillMeans =
    (defs : List TableDef) (q : StarQuery) (n k : ℕ) (is : List Interval) (rows later : ℕ → List RowAt)
    → StarFine defs q
    → ((m : ℕ) → Each (λ r. (p : ColPart) → is_plain (part_value r p) ≡ true) (rows m)) → ((m : ℕ) → Each (λ r. (p : ColPart) → is_plain (part_value r p) ≡ true) (later m))
    → list_all (λ i. misses q (record { table = n; part = Col k }) i) is ≡ true
    → Each (λ m. (m == n) ≡ false → rows m ≡ later m) q.tables → filter (is_outside k is) (rows n) ≡ filter (is_outside k is) (later n)
    → meaning_over q rows ≡ meaning_over q later

-- **One row for each entry of a view that is the same from FROM on, with items that the view gives, is what the query means.**
abbrev pub TextsMean : Type 0
TextsMean =
    (defs : List TableDef) (q v : StarQuery) (base : Base) (rely : Bool)
    → SameFrom q v → Each (ItemGiven defs q v) q.items → (v.grouped ≡ true → Each (λ d. has_column v.keys d ≡ true) (flat_map plain_columns v.items))
    → RowsFine defs v.tables rely (rows_at base) → Each (KindsFine (rows_at base)) (query_aggs q)
    → in_order q.order (text_rows defs q v (stored v base)) ≡ meaning q base

-- **The rows of an aggregate view outside of what is stale, with the query's tuples within it, give what the query means now.** The view was stored
-- earlier; since then one table of it alone has changed, within the intervals; its key is selected; and nothing is joined back.
abbrev pub ConcatMeans : Type 0
ConcatMeans =
    (defs : List TableDef) (dims : List Dimension) (level : Level) (q v : StarQuery) (then now : Base) (n k : ℕ) (is : List Interval)
    → StarFine defs q → StarFine defs v → RowsFine defs v.tables (may_rely level) (rows_at then) → (may_rely level ≡ true → Each (λ d. dimension_holds then d ≡ true) dims)
    → Each (KindsFine (rows_at then)) (query_aggs q)
    → compatible defs level q v ≡ None → (reach defs dims level q v).failed ≡ None → (reach defs dims level q v).back ≡ [] → computable defs q v ≡ true
    → v.grouped ≡ true → selects_column v (record { table = n; part = Col k }) ≡ true → has_number q.tables n ≡ true
    → Each (λ m. (m == n) ≡ false → rows_at then m ≡ rows_at now m) q.tables → filter (is_outside k is) (rows_at then n) ≡ filter (is_outside k is) (rows_at now n)
    → in_order q.order (concat_rows defs now q v (record { table = n; part = Col k }) is (stored v then)) ≡ meaning q now

-- **What a query is resolved to is a star form as these laws ask for it.**
abbrev pub StarsFine : Type 0
StarsFine = (defs : List TableDef) (query : RawQuery) (q : StarQuery) → resolve defs query ≡ Ok q → StarFine defs q

-- **The composed definition of a view over a view is one too, where that of the view beneath is.**
abbrev pub ComposedFine : Type 0
ComposedFine = (defs : List TableDef) (beneath : ViewDef) (query : RawQuery) (q : StarQuery) → StarFine defs beneath.query → compose query beneath ≡ Some q → StarFine defs q
