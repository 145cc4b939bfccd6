-- What is asked of a catalog for the law of eligible views: of its base states at the view's point and now, of what changed between them, and of texts.
use Rattle.std.specs.Prelude.{[], Bool, List, Some, false, filter, map, true, ℕ, ◌≡◌}
use Rattle.wh_base.specs.declared.columns.ColPart.TheVariants.{Col}
use Rattle.wh_base.specs.declared.queries.StarQuery.{StarQuery}
use Rattle.wh_base.specs.declared.statements.Level.{Level}
use Rattle.wh_base.specs.declared.views.Back.{Back}
use Rattle.wh_base.specs.declared.views.Class.{Class}
use Rattle.wh_base.specs.declared.tokens.Token.{Token}
use Rattle.def_choice.specs.Choice.{full_standing}
use Rattle.def_choice.specs.Eligible.{Eligible, asks_freshness, own_text}
use Rattle.def_dimensions.specs.Relations.{dimension_holds}
use Rattle.def_history.specs.Catalog.{Catalog, View, base_at, base_now, defs_now}
use Rattle.def_history.specs.Staleness.{content, known, stale_intervals}
use Rattle.def_meaning.specs.Accumulated.{query_aggs}
use Rattle.def_meaning.specs.Joined.{rows_at}
use Rattle.def_meaning.specs.Meaning.{in_order, meaning}
use Rattle.def_restrictions.specs.Definition.{table_defs, tracked_key}
use Rattle.def_restrictions.specs.Restrictions.{moved}
use Rattle.def_rewriting.specs.Compatible.{may_rely}
use Rattle.def_rewriting.specs.Matching.{FullText, PartialText, match_text}
use Rattle.def_rewriting.specs.Classes.{class_rows}
use Rattle.law_rewrite.specs.Fine.{KindsFine, RowsFine, StarFine}
use Rattle.law_rewrite.specs.Outside.{is_outside}
use Rattle.law_rewrite.specs.Words.{Each}

-- the star forms, and the rows at the view's point and now
pub record StarsKept (c : Catalog) (level : Level) (q : StarQuery) (v : View) (p : ℕ) : Type 0 where
  pub star_q : StarFine (defs_now c) q
  pub star_v : StarFine (defs_now c) v.def.query
  pub rows_then : RowsFine (defs_now c) v.def.query.tables (may_rely level) (rows_at (base_at c p))
  pub rows_now : RowsFine (defs_now c) v.def.query.tables (may_rely level) (rows_at (base_now c))
  -- where dimensions may be relied on they hold
  pub relies_then : may_rely level ≡ true → Each (λ d. dimension_holds (base_at c p) d ≡ true) c.dimensions
  pub relies_now : may_rely level ≡ true → Each (λ d. dimension_holds (base_now c) d ≡ true) c.dimensions
  pub kinds_then : Each (KindsFine (rows_at (base_at c p))) (query_aggs q)
  pub kinds_now : Each (KindsFine (rows_at (base_now c))) (query_aggs q)

-- what changed since the view's point
pub record ViewKept (c : Catalog) (v : View) (p : ℕ) : Type 0 where
  pub tables : map (λ t. t.0) (table_defs v.def) ≡ v.def.query.tables
  -- a table that nothing came to is as it was
  pub unmoved : Each (λ t. moved (known c v t) ≡ false → rows_at (base_at c p) t.0 ≡ rows_at (base_now c) t.0) (table_defs v.def)
  -- and so are the tracked table's rows outside of what is stale
  pub outside : (n k : ℕ) → tracked_key v.def ≡ Some (record { table = n; part = Col k })
      → filter (is_outside k (stale_intervals c v)) (rows_at (base_at c p) n) ≡ filter (is_outside k (stale_intervals c v)) (rows_at (base_now c) n)

-- all but items, ORDER BY and whether they are grouped is the same
pub record SameParts (q v : StarQuery) : Type 0 where
  pub tables : q.tables ≡ v.tables
  pub edges : q.edges ≡ v.edges
  pub conditions : q.conditions ≡ v.conditions
  pub keys : q.keys ≡ v.keys
  pub having : q.having ≡ v.having

-- what texts that match say of the star forms
pub record TextsKept (q : StarQuery) (text : List Token) (v : View) : Type 0 where
  pub full : (given : List Token) → own_text v ≡ Some given → match_text text given ≡ FullText → record q { order = [] } ≡ record v.def.query { order = [] }
  pub part : (given : List Token) → own_text v ≡ Some given → match_text text given ≡ PartialText → SameParts q v.def.query

-- **An eligible view's plan gives what the query means, for each class, at the levels that ask how fresh a view is.**
abbrev pub StandingMeans : Type 0
StandingMeans =
    (c : Catalog) (q : StarQuery) (text : List Token) (level : Level) (enabled : Bool) (v : View) (p : ℕ) (class : Class) (backs : List Back)
    → asks_freshness level ≡ true → v.point ≡ Some p → StarsKept c level q v p → ViewKept c v p → TextsKept q text v
    → full_standing c q text level enabled v ≡ Eligible class backs
    → in_order q.order (class_rows (defs_now c) (base_now c) q v.def.query (tracked_key v.def) (stale_intervals c v) class backs (content c v)) ≡ meaning q (base_now c)
