-- A query and a view that are equal from FROM on, and items that the view gives.
use Rattle.std.specs.Prelude.{List, is_some, true, ◌≡◌}
use Rattle.wh_base.specs.declared.queries.Item.{Item}
use Rattle.wh_base.specs.declared.queries.Item.TheVariants as item
use Rattle.wh_base.specs.declared.queries.StarQuery.{StarQuery}
use Rattle.wh_base.specs.declared.tables.TableDef.{TableDef}
use Rattle.def_restrictions.specs.Definition.{selects_column}
use Rattle.def_rewriting.specs.Compatible.{linked}
use Rattle.def_rewriting.specs.Rollup.{origin}

-- all but items and ORDER BY are the same
pub record SameFrom (q v : StarQuery) : Type 0 where
  pub tables : q.tables ≡ v.tables
  pub edges : q.edges ≡ v.edges
  pub conditions : q.conditions ≡ v.conditions
  pub grouped : q.grouped ≡ v.grouped
  pub keys : q.keys ≡ v.keys
  pub having : q.having ≡ v.having

-- a plain item is a selected column; an aggregate stands in a grouped query and comes from the view's
abbrev pub ItemGiven : List TableDef → StarQuery → StarQuery → Item → Type 0
ItemGiven defs q v (item.Col c) = selects_column v c ≡ true
ItemGiven defs q v (item.Agg a) = (q.grouped ≡ true) × (is_some (origin defs (linked q v) v a) ≡ true)
