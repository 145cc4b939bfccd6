-- A sample on which the premises of the laws hold: a view with sums and counts by two columns, and one over it by the first.
use Rattle.std.specs.Prelude.{List, None, Some, [], codes, false, pos, true, ℕ, ◌∷◌, ◌≡◌}
use Rattle.wh_base.specs.declared.columns.Agg.TheVariants as agg
use Rattle.wh_base.specs.declared.columns.ColPart.TheVariants as part
use Rattle.wh_base.specs.declared.columns.ColRef.{ColRef}
use Rattle.wh_base.specs.declared.columns.Expr.TheVariants as expr
use Rattle.wh_base.specs.declared.queries.ColName.{ColName}
use Rattle.wh_base.specs.declared.queries.Item.TheVariants as item
use Rattle.wh_base.specs.declared.queries.NamePart.TheVariants.{Plain}
use Rattle.wh_base.specs.declared.queries.RawAgg.TheVariants.{SumOf}
use Rattle.wh_base.specs.declared.queries.RawExpr.TheVariants.{Column}
use Rattle.wh_base.specs.declared.queries.RawQuery.{RawQuery}
use Rattle.wh_base.specs.declared.queries.RawWhat.TheVariants as what
use Rattle.wh_base.specs.declared.queries.StarQuery.{StarQuery}
use Rattle.wh_base.specs.declared.statements.Method.TheVariants.{Complete}
use Rattle.wh_base.specs.declared.values.Value.{Value}
use Rattle.wh_base.specs.declared.values.Value.TheVariants.{Num, Text}
use Rattle.wh_base.specs.declared.views.ViewDef.{ViewDef}
use Rattle.wh_base.specs.declared.views.ViewEntry.{ViewEntry}
use Rattle.def_grammar.specs.Forms.{text_tokens}
use Rattle.def_nest.specs.Compose.{compose}
use Rattle.law_nest.specs.Laws.{ItemsAreGrouped}
use Rattle.law_nest.specs.Rolled.{rolled_view}

abbrev pub column : ℕ → ColRef
column n = record { table = 0; part = part.Col n }

-- SELECT G, H, SUM(A) SA, COUNT(*) C FROM U GROUP BY G, H
abbrev pub by_two : StarQuery
by_two = record {
  root = 0;
  tables = 0 ∷ [];
  edges = [];
  conditions = [];
  grouped = true;
  keys = column 0 ∷ column 1 ∷ [];
  items = item.Col (column 0) ∷ item.Col (column 1) ∷ item.Agg (agg.Sum (expr.Col (column 2))) ∷ item.Agg agg.CountAll ∷ [];
  having = [];
  order = [];
  as_of = None;
}

abbrev pub view_by_two : ViewDef
view_by_two = record {
  view = 1;
  name = codes "V";
  query = by_two;
  tables = [];
  tokens = text_tokens (codes "SELECT G, H, SUM(A) SA, COUNT(*) C FROM U GROUP BY G, H");
  method = Complete;
  on_commit = false;
  rewrite = false;
  beneath = None;
}

abbrev pub name : List ℕ → ColName
name n = record { qualifier = None; part = Plain n }

-- SELECT G, SUM(SA), SUM(C) FROM V GROUP BY G
abbrev pub over_it : RawQuery
over_it = record {
  items =
      record { what = what.Plain (name (codes "G")); alias = None }
      ∷ record { what = what.Computed (SumOf (Column (name (codes "SA")))); alias = None }
      ∷ record { what = what.Computed (SumOf (Column (name (codes "C")))); alias = None }
      ∷ [];
  tables = record { table = codes "V"; alias = None; on = None } ∷ [];
  as_of = None;
  conditions = [];
  groups = name (codes "G") ∷ [];
  having = [];
  order = [];
}

abbrev pub composed : StarQuery
composed = record by_two { keys = column 0 ∷ []; items = item.Col (column 0) ∷ item.Agg (agg.Sum (expr.Col (column 2))) ∷ item.Agg agg.CountAll ∷ [] }

abbrev pub entry : List Value → List Value → ViewEntry
entry k r = record { key = k; row = r }

abbrev pub text : List ℕ → Value
text t = Text t

abbrev pub number : ℕ → Value
number n = Num (pos n)

abbrev pub stored_by_two : List ViewEntry
stored_by_two =
    entry (text (codes "P") ∷ text (codes "x") ∷ []) (text (codes "P") ∷ text (codes "x") ∷ number 10 ∷ number 1 ∷ [])
    ∷ entry (text (codes "P") ∷ text (codes "y") ∷ []) (text (codes "P") ∷ text (codes "y") ∷ number 5 ∷ number 1 ∷ [])
    ∷ entry (text (codes "Q") ∷ text (codes "x") ∷ []) (text (codes "Q") ∷ text (codes "x") ∷ number 7 ∷ number 1 ∷ [])
    ∷ []

pub record SampleRolls : Type 0 where
  pub items : ItemsAreGrouped view_by_two
  pub composes : compose over_it view_by_two ≡ Some composed
  pub rolls : rolled_view over_it view_by_two stored_by_two
      ≡ entry (text (codes "P") ∷ []) (text (codes "P") ∷ number 15 ∷ number 2 ∷ []) ∷ entry (text (codes "Q") ∷ []) (text (codes "Q") ∷ number 7 ∷ number 1 ∷ []) ∷ []
