-- Sameness of columns, expressions and aggregates, word for word, decides equality.
use Rattle.std.proofs.Common.{◌≡◌, refl, arith, true}
use Rattle.std.specs.Bool.{Decides}
use Rattle.std.proofs.lemmas.Bool.Decides.{Decides-int_eq, Decides-eqb}
use Rattle.wh_base.specs.Columns.{same_part, same_column, same_expr, same_agg_by}
use Rattle.wh_base.specs.declared.columns.Agg.{Agg}
use Rattle.wh_base.specs.declared.columns.Agg.TheVariants.{Avg, Count, CountAll, Max, Min, Sum}
use Rattle.wh_base.specs.declared.columns.ColPart.{ColPart}
use Rattle.wh_base.specs.declared.columns.ColPart.TheVariants.{Col, Mark, RowId}
use Rattle.wh_base.specs.declared.columns.ColRef.{ColRef}
use Rattle.wh_base.specs.declared.columns.Expr.{Expr}
use Rattle.wh_base.specs.declared.columns.Expr.TheVariants as expr

pub same_part-Decides : (a b : ColPart) → Decides (same_part a b) (a ≡ b)
same_part-Decides (Col m) (Col n) = grind (arith, Decides-eqb m n)
same_part-Decides RowId RowId = (λ _. refl, λ _. refl)
same_part-Decides Mark Mark = (λ _. refl, λ _. refl)
same_part-Decides a b = grind arith

pub same_column-Decides : (a b : ColRef) → Decides (same_column a b) (a ≡ b)
same_column-Decides a b = grind (arith, Decides-eqb a.table b.table, same_part-Decides a.part b.part)

pub same_column_is : (a b : ColRef) → same_column a b ≡ true → a ≡ b
same_column_is a b = (same_column-Decides a b).0

pub same_expr-Decides : (a b : Expr) → Decides (same_expr a b) (a ≡ b)
same_expr-Decides (expr.Col a) (expr.Col b) = grind (arith, same_column-Decides a b)
same_expr-Decides (expr.Product a b) (expr.Product c d) = grind (arith, same_column-Decides a c, same_column-Decides b d)
same_expr-Decides (expr.Lit m) (expr.Lit n) = grind (arith, Decides-int_eq m n)
same_expr-Decides a b = grind arith

pub same_agg-Decides : (a b : Agg) → Decides (same_agg_by same_expr a b) (a ≡ b)
same_agg-Decides CountAll CountAll = (λ _. refl, λ _. refl)
same_agg-Decides (Count e) (Count f) = grind (arith, same_expr-Decides e f)
same_agg-Decides (Sum e) (Sum f) = grind (arith, same_expr-Decides e f)
same_agg-Decides (Avg e) (Avg f) = grind (arith, same_expr-Decides e f)
same_agg-Decides (Min e) (Min f) = grind (arith, same_expr-Decides e f)
same_agg-Decides (Max e) (Max f) = grind (arith, same_expr-Decides e f)
same_agg-Decides a b = grind arith
