-- The rows of a plan over a view, by its class, and the base rows that it reads.
use Rattle.std.specs.Prelude.{List, Option, [], length, sum_by, ℕ}
use Rattle.wh_base.specs.Lists.{option_case}
use Rattle.wh_base.specs.Tables.{Base, table_at}
use Rattle.wh_base.specs.declared.columns.ColRef.{ColRef}
use Rattle.wh_base.specs.declared.queries.StarQuery.{StarQuery}
use Rattle.wh_base.specs.declared.tables.TableDef.{TableDef}
use Rattle.wh_base.specs.declared.values.Interval.{Interval}
use Rattle.wh_base.specs.declared.values.Value.{Value}
use Rattle.wh_base.specs.declared.views.Back.{Back}
use Rattle.wh_base.specs.declared.views.Class.{Class}
use Rattle.wh_base.specs.declared.views.Class.TheVariants.{Concat, Full, General, JoinBack, Partial}
use Rattle.wh_base.specs.declared.views.ViewEntry.{ViewEntry}
use Rattle.def_rewriting.specs.Concat.{concat_reads, concat_rows}
use Rattle.def_rewriting.specs.PlanRows.{extended_rows, general_rows, text_rows}
use Rattle.def_rewriting.specs.Reaching.{layout}

-- The rows of a plan of this class, not yet in the order of the answer. `key` is the partition key by which the view is
-- tracked and `stale` has its stale intervals; both count for CONCAT alone.
abbrev pub class_rows : List TableDef → Base → StarQuery → StarQuery → Option ColRef → List Interval → Class → List Back → List ViewEntry → List (List Value)
class_rows defs base q v key stale Full backs entries = text_rows defs q v entries
class_rows defs base q v key stale Partial backs entries = text_rows defs q v entries
class_rows defs base q v key stale General backs entries = general_rows defs q v (layout q v backs) (extended_rows base v backs entries)
class_rows defs base q v key stale JoinBack backs entries = general_rows defs q v (layout q v backs) (extended_rows base v backs entries)
class_rows defs base q v key stale Concat backs entries = option_case key [] (λ k. concat_rows defs base q v k stale entries)

-- The live rows of the tables joined back: their number.
abbrev pub back_reads : Base → List Back → ℕ
back_reads base backs = sum_by (λ b. length (table_at base b.table).rows) backs

-- How many base rows a plan of this class reads: those of the tables joined back; and for CONCAT those of the stale partitions
-- and of the query's other tables.
abbrev pub class_reads : Base → StarQuery → Option ColRef → List Interval → Class → List Back → ℕ
class_reads base q key stale Full backs = back_reads base backs
class_reads base q key stale Partial backs = back_reads base backs
class_reads base q key stale General backs = back_reads base backs
class_reads base q key stale JoinBack backs = back_reads base backs
class_reads base q key stale Concat backs = option_case key 0 (λ k. concat_reads base q k stale)
