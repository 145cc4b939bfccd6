-- The premises hold of a query that rolls up a view: they aren't empty.
use Rattle.std.proofs.Common.{refl, true, [], ◌∷◌, None}
use Rattle.std.specs.Prelude.{pos}
use Rattle.wh_base.specs.declared.columns.Agg.TheVariants.{Count, CountAll, Min, Sum, Avg}
use Rattle.wh_base.specs.declared.columns.ColPart.TheVariants.{Col}
use Rattle.wh_base.specs.declared.columns.ColRef.{ColRef}
use Rattle.wh_base.specs.declared.columns.Expr.TheVariants as expr
use Rattle.wh_base.specs.declared.queries.Condition.TheVariants.{Compare}
use Rattle.wh_base.specs.declared.queries.Item.TheVariants as item
use Rattle.wh_base.specs.declared.queries.StarQuery.{StarQuery}
use Rattle.wh_base.specs.declared.values.Op.TheVariants.{Gt, Lt}
use Rattle.wh_base.specs.declared.values.Value.TheVariants.{Num}
use Rattle.law_rewrite.specs.Words.{Serving}

abbrev a : ColRef
a = record { table = 0; part = Col 0 }

abbrev b : ColRef
b = record { table = 0; part = Col 1 }

abbrev c : ColRef
c = record { table = 0; part = Col 2 }

-- SELECT a, b, COUNT(*), SUM(c), COUNT(c), MIN(c) WHERE a < 9 GROUP BY a, b
abbrev view : StarQuery
view = record {
  root = 0;
  tables = 0 ∷ [];
  edges = [];
  conditions = Compare a Lt (Num (pos 9)) ∷ [];
  grouped = true;
  keys = a ∷ b ∷ [];
  items = item.Col a ∷ item.Col b ∷ item.Agg CountAll ∷ item.Agg (Sum (expr.Col c)) ∷ item.Agg (Count (expr.Col c)) ∷ item.Agg (Min (expr.Col c)) ∷ [];
  having = [];
  order = [];
  as_of = None;
}

-- SELECT a, AVG(c), COUNT(*) WHERE a < 5 AND b > 2 GROUP BY a HAVING MIN(c) > 1
abbrev asked : StarQuery
asked = record {
  root = 0;
  tables = 0 ∷ [];
  edges = [];
  conditions = Compare a Lt (Num (pos 5)) ∷ Compare b Gt (Num (pos 2)) ∷ [];
  grouped = true;
  keys = a ∷ [];
  items = item.Col a ∷ item.Agg (Avg (expr.Col c)) ∷ item.Agg CountAll ∷ [];
  having = record { agg = Min (expr.Col c); op = Gt; value = Num (pos 1) } ∷ [];
  order = [];
  as_of = None;
}

serves : Serving [] asked view
serves = record {
  grouped = refl;
  same_tables = refl;
  same_edges = refl;
  implied = refl;
  keys = (refl, tt);
  conditions = (refl, (refl, tt));
  computed = refl;
}
