-- The kinds of columns and literals, and the refusal MV-04 of a query with what it prints.
use Rattle.std.specs.List.{list_any}
use Rattle.std.specs.Prelude.{Bool, List, None, Option, Some, [], codes, false, find, length, nat_abs, nat_le, nat_lt, not, option_map, slice_get, true, ℕ, ◌&&◌, ◌^◌, ◌∷◌}
use Rattle.wh_base.specs.Columns.{agg_columns}
use Rattle.wh_base.specs.Lists.{first_some, head, option_case, where_true}
use Rattle.wh_base.specs.Tables.{column_name, def_at}
use Rattle.wh_base.specs.Values.{literal_value}
use Rattle.wh_base.specs.declared.columns.Agg.{Agg}
use Rattle.wh_base.specs.declared.columns.Agg.TheVariants.{Avg, Count, CountAll, Max, Min, Sum}
use Rattle.wh_base.specs.declared.columns.ColPart.{ColPart}
use Rattle.wh_base.specs.declared.columns.ColPart.TheVariants.{Col, Mark, RowId}
use Rattle.wh_base.specs.declared.columns.ColRef.{ColRef}
use Rattle.wh_base.specs.declared.columns.Expr.{Expr}
use Rattle.wh_base.specs.declared.queries.ColName.{ColName}
use Rattle.wh_base.specs.declared.queries.RawCondition.{RawCondition}
use Rattle.wh_base.specs.declared.replies.Refusal.{Refusal}
use Rattle.wh_base.specs.declared.replies.Refusal.TheVariants.{ValueDoesNotFit}
use Rattle.wh_base.specs.declared.tables.Kind.{Kind}
use Rattle.wh_base.specs.declared.tables.TableDef.{TableDef}
use Rattle.wh_base.specs.declared.values.Literal.{Literal}
use Rattle.wh_base.specs.declared.values.Literal.TheVariants.{Dated, Number, Quoted}
use Rattle.wh_base.specs.declared.values.Value.{Value}
use Rattle.wh_base.specs.declared.values.Value.TheVariants.{Day, Null, Num, Ratio, Text}
use Rattle.wh_base.specs.declared.columns.Expr.TheVariants as expr
use Rattle.wh_base.specs.declared.queries.RawCondition.TheVariants as raw
use Rattle.wh_base.specs.declared.tables.Kind.TheVariants as kind

-- what may be compared: numbers with numbers, texts with texts, days with days, and NULL, which is of every kind, with all
pub data Sort : Type 0 where
  IsNumber : Sort
  IsText : Sort
  IsAny : Sort
  IsDay : Sort

-- the two may be compared
abbrev pub agrees : Sort → Sort → Bool
agrees IsNumber IsText = false
agrees IsText IsNumber = false
agrees IsNumber IsDay = false
agrees IsDay IsNumber = false
agrees IsText IsDay = false
agrees IsDay IsText = false
agrees s t = true

abbrev pub sort_of_kind : Kind → Sort
sort_of_kind (kind.Number n) = IsNumber
sort_of_kind (kind.Text n) = IsText
sort_of_kind kind.Date = IsDay

-- the kind of a column of a table; ROWID and PMARKER are numbers
abbrev pub part_sort : TableDef → ColPart → Sort
part_sort d (Col n) = option_case (slice_get d.columns n) IsAny (λ c. sort_of_kind c.kind)
part_sort d RowId = IsNumber
part_sort d Mark = IsNumber

abbrev pub column_sort : List TableDef → ColRef → Sort
column_sort defs c = part_sort (def_at defs c.table) c.part

-- the kind of a value; an AVG pair counts as a number
abbrev pub value_sort : Value → Sort
value_sort Null = IsAny
value_sort (Num n) = IsNumber
value_sort (Text t) = IsText
value_sort (Ratio a) = IsNumber
value_sort (Day n) = IsDay

abbrev pub literal_sort : Literal → Sort
literal_sort l = value_sort (literal_value l)

-- a literal is too long for a query: a number of size at least 10^15, or a text of more than 64 bytes
abbrev pub is_too_long : Literal → Bool
is_too_long (Number n) = nat_le (10 ^ 15) (nat_abs n)
is_too_long (Quoted t) = nat_lt 64 (length t)
is_too_long (Dated n) = false

-- a column, and not ROWID or PMARKER
abbrev pub is_plain : ColPart → Bool
is_plain (Col n) = true
is_plain RowId = false
is_plain Mark = false

-- what SUM, AVG and products take: a NUMBER column, and not ROWID or PMARKER
abbrev pub is_summed : List TableDef → ColRef → Bool
is_summed defs c = is_plain c.part && agrees (column_sort defs c) IsNumber

-- ---- what is printed

abbrev pub printed_part : TableDef → ColPart → List ℕ
printed_part d (Col n) = column_name d n
printed_part d RowId = codes "ROWID"
printed_part d Mark = codes "PMARKER"

-- MV-04 with the table and the column
abbrev pub misfit : List TableDef → ColRef → Refusal
misfit defs c = let d = def_at defs c.table in ValueDoesNotFit d.name (printed_part d c.part)

-- MV-04 with the table and `-`, where a literal alone is at fault
abbrev pub misfit_literal : List TableDef → ℕ → Refusal
misfit_literal defs table = ValueDoesNotFit (def_at defs table).name (codes "-")

-- MV-04 with the column that is compared, and with the first table of FROM and `-` where there is none
abbrev pub misfit_at : List TableDef → ℕ → Option ColRef → Refusal
misfit_at defs first None = misfit_literal defs first
misfit_at defs first (Some c) = misfit defs c

-- the table that prints for a literal: that of the column that is compared, else the first of FROM
abbrev pub literal_table : ℕ → Option ColRef → ℕ
literal_table first c = option_case c first (λ c. c.table)

-- ---- comparisons

-- a comparison of something of this kind with these literals: MV-04 for a literal of another kind, and then for one that
-- is too long. `c` is the column that prints, where there is one
abbrev pub compare_refusal : List TableDef → ℕ → Option ColRef → Sort → List Literal → Option Refusal
compare_refusal defs first c sort ls =
    first_some (
    where_true (list_any (λ l. not (agrees sort (literal_sort l))) ls) (misfit_at defs first c)
    ∷ where_true (list_any is_too_long ls) (misfit_literal defs (literal_table first c))
    ∷ [])

-- a comparison of a column with these literals
abbrev pub column_compare_refusal : List TableDef → ColRef → List Literal → Option Refusal
column_compare_refusal defs c ls = compare_refusal defs c.table (Some c) (column_sort defs c) ls

-- an equality of two columns, which must be of one kind; the first prints
abbrev pub equal_refusal : List TableDef → ColRef → ColRef → Option Refusal
equal_refusal defs a b = where_true (not (agrees (column_sort defs a) (column_sort defs b))) (misfit defs a)

-- MV-04 of a condition; `column` gives the column of each name
abbrev pub condition_refusal : List TableDef → (ColName → ColRef) → RawCondition → Option Refusal
condition_refusal defs column (raw.Compare c op l) = column_compare_refusal defs (column c) (l ∷ [])
condition_refusal defs column (raw.Between c l m) = column_compare_refusal defs (column c) (l ∷ m ∷ [])
condition_refusal defs column (raw.Equal a b) = equal_refusal defs (column a) (column b)
condition_refusal defs column (raw.OneOf c ls) = column_compare_refusal defs (column c) ls
condition_refusal defs column (raw.IsNull c) = None
condition_refusal defs column (raw.NotNull c) = None

-- ---- expressions and aggregates

-- MV-04 for the first column that can't be added or multiplied
abbrev pub summed_refusal : List TableDef → List ColRef → Option Refusal
summed_refusal defs cs = option_map (misfit defs) (find (λ c. not (is_summed defs c)) cs)

-- MV-04 of an expression by itself: a product of what can't be multiplied, or a literal that is too long
abbrev pub product_refusal : List TableDef → ℕ → Expr → Option Refusal
product_refusal defs first (expr.Col c) = None
product_refusal defs first (expr.Product a b) = summed_refusal defs (a ∷ b ∷ [])
product_refusal defs first (expr.Lit n) = where_true (is_too_long (Number n)) (misfit_literal defs first)

-- MV-04 of an expression in SUM or AVG, where a column by itself must be a number too
abbrev pub sum_refusal : List TableDef → ℕ → Expr → Option Refusal
sum_refusal defs first (expr.Col c) = summed_refusal defs (c ∷ [])
sum_refusal defs first (expr.Product a b) = product_refusal defs first (expr.Product a b)
sum_refusal defs first (expr.Lit n) = product_refusal defs first (expr.Lit n)

-- MV-04 of an aggregate
abbrev pub agg_refusal : List TableDef → ℕ → Agg → Option Refusal
agg_refusal defs first CountAll = None
agg_refusal defs first (Count e) = product_refusal defs first e
agg_refusal defs first (Sum e) = sum_refusal defs first e
agg_refusal defs first (Avg e) = sum_refusal defs first e
agg_refusal defs first (Min e) = product_refusal defs first e
agg_refusal defs first (Max e) = product_refusal defs first e

-- the kind of an expression and of an aggregate: MIN and MAX have that of their expression, the others are numbers
abbrev pub expr_sort : List TableDef → Expr → Sort
expr_sort defs (expr.Col c) = column_sort defs c
expr_sort defs (expr.Product a b) = IsNumber
expr_sort defs (expr.Lit n) = IsNumber

abbrev pub agg_sort : List TableDef → Agg → Sort
agg_sort defs CountAll = IsNumber
agg_sort defs (Count e) = IsNumber
agg_sort defs (Sum e) = IsNumber
agg_sort defs (Avg e) = IsNumber
agg_sort defs (Min e) = expr_sort defs e
agg_sort defs (Max e) = expr_sort defs e

-- MV-04 of a condition of HAVING: its aggregate, and then the comparison, for which the aggregate's first column prints
abbrev pub test_refusal : List TableDef → ℕ → Agg → Literal → Option Refusal
test_refusal defs first a l =
    first_some (agg_refusal defs first a ∷ compare_refusal defs first (head (agg_columns a)) (agg_sort defs a) (l ∷ []) ∷ [])
