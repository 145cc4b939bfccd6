-- What every base state keeps of its rows, and what the law of plans has of it.
use Rattle.std.specs.Prelude.{[], List, None, Ok, false, length, zip, ℕ, ◌≡◌}
use Rattle.wh_base.specs.Lists.{first_of, repeated}
use Rattle.wh_base.specs.Tables.{Base, Table, def_at, defs_of}
use Rattle.wh_base.specs.Values.{same_value}
use Rattle.wh_base.specs.declared.queries.RawQuery.{RawQuery}
use Rattle.wh_base.specs.declared.queries.StarQuery.{StarQuery}
use Rattle.wh_base.specs.declared.statements.Level.TheVariants.{Enforced}
use Rattle.wh_base.specs.declared.tables.TableDef.{TableDef}
use Rattle.def_effect.specs.Block.{column_refusal, column_values, enabled, is_orphaned}
use Rattle.def_history.specs.Catalog.{Catalog, View, base_at, base_now, defs_now}
use Rattle.def_meaning.specs.Accumulated.{query_aggs}
use Rattle.def_meaning.specs.Joined.{rows_at}
use Rattle.def_resolve.specs.Resolve.{resolve}
use Rattle.law_rewrite.specs.Fine.{KindsFine, StarFine}
use Rattle.law_rewrite.specs.Standing.{StarsKept}
use Rattle.law_rewrite.specs.Words.{Each}

-- what a table keeps: unique keys, enabled foreign keys with their parents, and rows that fit
pub record TableKept (base : Base) (t : Table) : Type 0 where
  pub keys : Each (λ k. repeated same_value (column_values t k) ≡ None) t.def.keys
  pub parents : Each (λ f. is_orphaned base t f ≡ false) (enabled t.def)
  pub widths : Each (λ r. length r.values ≡ length t.def.columns) t.rows
  pub columns : Each (λ r. first_of (column_refusal t.def) (zip t.def.columns r.values) ≡ None) t.rows

-- the table has no rows there, or its definition is as it was, but for row movement
pub data DefKept (defs : List TableDef) (base : Base) (n : ℕ) : Type 0 where
  NoRows : rows_at base n ≡ [] → DefKept defs base n
  SameDef : record (def_at (defs_of base) n) { movement = false } ≡ record (def_at defs n) { movement = false } → DefKept defs base n

-- what is so of the base states of now and of the view's point
pub record BasesKept (c : Catalog) (q : StarQuery) (v : View) (p : ℕ) : Type 0 where
  pub star_q : StarFine (defs_now c) q
  pub star_v : StarFine (defs_now c) v.def.query
  pub tables_then : Each (TableKept (base_at c p)) (base_at c p)
  pub tables_now : Each (TableKept (base_now c)) (base_now c)
  pub defs_then : (n : ℕ) → DefKept (defs_now c) (base_at c p) n
  pub kinds_then : Each (KindsFine (rows_at (base_at c p))) (query_aggs q)
  pub kinds_now : Each (KindsFine (rows_at (base_now c))) (query_aggs q)

-- **Under ENFORCED nothing is relied on but what every base state keeps.**
abbrev pub EnforcedOwe : Type 0
EnforcedOwe = (c : Catalog) (q : StarQuery) (v : View) (p : ℕ) → BasesKept c q v p → StarsKept c Enforced q v p

-- **The products that a query counts are of numbers**, since its kinds are checked and rows fit their columns.
abbrev pub KindsOwe : Type 0
KindsOwe =
    (defs : List TableDef) (query : RawQuery) (q : StarQuery) (base : Base)
    → resolve defs query ≡ Ok q → Each (TableKept base) base → ((n : ℕ) → DefKept defs base n) → Each (KindsFine (rows_at base)) (query_aggs q)
