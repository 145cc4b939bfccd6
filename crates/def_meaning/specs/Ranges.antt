-- The query's interval of a column, the partitions that the base plan admits, and the rows that it reads.
use Rattle.std.specs.List.{list_all}
use Rattle.std.specs.Ordering.{bool_cmp, is_eq, is_ge, is_lt, ordering_then}
use Rattle.std.specs.Prelude.{Bool, List, None, Option, Some, [], cond, false, filter, length, map, not, suc, sum_by, true, zero, ℕ, ◌&&◌, ◌++◌, ◌==◌, ◌||◌, ◌∷◌, ◌≡◌}
use Rattle.std.specs.declared.cmp.Ordering.{Ordering}
use Rattle.wh_base.specs.Columns.{has_column}
use Rattle.wh_base.specs.Lists.{has_number, option_case}
use Rattle.wh_base.specs.Tables.{Base, Table, row_at, table_at, with_intervals}
use Rattle.wh_base.specs.Values.{is_null, value_cmp}
use Rattle.wh_base.specs.declared.columns.ColPart.TheVariants.{Col}
use Rattle.wh_base.specs.declared.columns.ColRef.{ColRef}
use Rattle.wh_base.specs.declared.queries.Condition.{Condition}
use Rattle.wh_base.specs.declared.queries.Condition.TheVariants.{Compare, IsNull, NotNull, OneOf}
use Rattle.wh_base.specs.declared.queries.Edge.{Edge}
use Rattle.wh_base.specs.declared.queries.StarQuery.{StarQuery}
use Rattle.wh_base.specs.declared.tables.Part.{Part}
use Rattle.wh_base.specs.declared.tables.RowAt.{RowAt}
use Rattle.wh_base.specs.declared.values.Interval.{Interval}
use Rattle.wh_base.specs.declared.values.Op.{Op}
use Rattle.wh_base.specs.declared.values.Op.TheVariants.{Eq, Ge, Gt, Le, Lt, Ne}
use Rattle.wh_base.specs.declared.values.Value.{Value}
use Rattle.def_meaning.specs.Meaning.{max_value, min_value, not_null}

-- ---- columns that joins make equal

-- the other column of a join of which just one column is among these
abbrev pub other_end : List ColRef → Edge → List ColRef
other_end columns e =
    cond (has_column columns e.from && not (has_column columns e.to)) (e.to ∷ [])
    (cond (has_column columns e.to && not (has_column columns e.from)) (e.from ∷ []) [])

-- these columns, and those that are reached from them along the joins, each join taken once from the first on
abbrev pub spread : List Edge → List ColRef → List ColRef
spread [] columns = columns
spread (e ∷ es) columns = spread es (columns ++ other_end columns e)

-- the same so many times
abbrev pub spread_times : ℕ → List Edge → List ColRef → List ColRef
spread_times zero edges columns = columns
spread_times (suc n) edges columns = spread_times n edges (spread edges columns)

-- the columns equal by joins: the column itself and all that are linked to it by a chain of these joins.
-- A chain has no more links than there are joins, so as many rounds reach its end
abbrev pub equal_columns : List Edge → ColRef → List ColRef
equal_columns edges c = spread_times (length edges) edges (c ∷ [])

-- a chain of these joins links the two columns, or they are one column
abbrev pub are_equal : List Edge → ColRef → ColRef → Bool
are_equal edges a b = has_column (equal_columns edges a) b

-- ---- what is so of equal columns; it is proved in the laws of this crate

-- the test says the same of both columns of each join
abbrev pub IsKept : (ColRef → Bool) → List Edge → Type 0
IsKept test [] = Unit {0}
IsKept test (e ∷ es) = (test e.from ≡ test e.to) × IsKept test es

-- an equality of columns by these joins: each column is equal to itself, what is equal is so both ways and over a third column,
-- the two columns of a join are equal, and no others are than these make so: a test that the joins keep, equal columns keep
pub record IsEquality (edges : List Edge) (equal : ColRef → ColRef → Bool) : Type 0 where
  pub itself : (a : ColRef) → equal a a ≡ true
  pub both_ways : (a b : ColRef) → equal a b ≡ true → equal b a ≡ true
  pub over_third : (a b c : ColRef) → equal a b ≡ true → equal b c ≡ true → equal a c ≡ true
  pub joins : list_all (λ e. equal e.from e.to) edges ≡ true
  pub no_others : (test : ColRef → Bool) → IsKept test edges → (a b : ColRef) → equal a b ≡ true → test a ≡ test b

-- ---- ranges of values

-- what conditions say of a column: a lower bound, and an upper bound that is inclusive (true) or not; None is no bound.
-- A lower bound need not say whether it is inclusive, since an interval of a partition has its own lower bound in it
-- and its upper bound outside
pub record Range : Type 0 where
  pub least : Option Value
  pub most : Option (Value × Bool)

-- no bounds
abbrev pub whole_range : Range
whole_range = record { least = None; most = None }

-- from this value on, and up to this value; NULL gives no bound
abbrev pub from_value : Value → Range
from_value v = cond (is_null v) whole_range (record { least = Some v; most = None })

abbrev pub up_to : Value → Bool → Range
up_to v inclusive = cond (is_null v) whole_range (record { least = None; most = Some (v, inclusive) })

-- the greater of two lower bounds
abbrev pub greater_bound : Option Value → Option Value → Option Value
greater_bound None b = b
greater_bound (Some v) None = Some v
greater_bound (Some v) (Some w) = Some (cond (is_lt (value_cmp v w)) w v)

-- upper bounds in order: by value, and of equal values the exclusive one first
abbrev pub bound_cmp : Value × Bool → Value × Bool → Ordering
bound_cmp a b = ordering_then (value_cmp a.0 b.0) (bool_cmp a.1 b.1)

-- the lesser of two upper bounds
abbrev pub lesser_bound : Option (Value × Bool) → Option (Value × Bool) → Option (Value × Bool)
lesser_bound None b = b
lesser_bound (Some v) None = Some v
lesser_bound (Some v) (Some w) = Some (cond (is_lt (bound_cmp v w)) v w)

-- what two conditions say together
abbrev pub both_ranges : Range → Range → Range
both_ranges r s = record { least = greater_bound r.least s.least; most = lesser_bound r.most s.most }

-- what a comparison with a value says; `<>` gives no bound
abbrev pub range_of_op : Op → Value → Range
range_of_op Eq v = both_ranges (from_value v) (up_to v true)
range_of_op Ne v = whole_range
range_of_op Lt v = up_to v false
range_of_op Le v = up_to v true
range_of_op Gt v = from_value v
range_of_op Ge v = from_value v

-- what IN says: from its least to its greatest value that isn't NULL, and no bounds where all are NULL
abbrev pub range_of_list : List Value → Range
range_of_list vs = both_ranges (from_value (min_value (filter not_null vs))) (up_to (max_value (filter not_null vs)) true)

-- what a condition says of these columns; IS NULL and IS NOT NULL give no bounds
abbrev pub range_of : List ColRef → Condition → Range
range_of columns (Compare c op v) = cond (has_column columns c) (range_of_op op v) whole_range
range_of columns (OneOf c vs) = cond (has_column columns c) (range_of_list vs) whole_range
range_of columns (IsNull c) = whole_range
range_of columns (NotNull c) = whole_range

-- what all the conditions say together
abbrev pub ranges_of : List ColRef → List Condition → Range
ranges_of columns [] = whole_range
ranges_of columns (c ∷ cs) = both_ranges (range_of columns c) (ranges_of columns cs)

-- the query's interval of a column: what its conditions say of the column and of the columns equal to it by its joins
abbrev pub query_range : StarQuery → ColRef → Range
query_range q c = ranges_of (equal_columns q.edges c) q.conditions

-- the upper bound lies below an interval that begins with `lo`: it is less, or it is `lo` and exclusive
abbrev pub below_interval : Option (Value × Bool) → Option Value → Bool
below_interval None lo = false
below_interval (Some most) None = false
below_interval (Some most) (Some lo) = is_lt (value_cmp most.0 lo) || (is_eq (value_cmp most.0 lo) && not most.1)

-- the lower bound lies above an interval that ends before `hi`: it is at least `hi`
abbrev pub above_interval : Option Value → Option Value → Bool
above_interval None hi = false
above_interval (Some least) None = false
above_interval (Some least) (Some hi) = is_ge (value_cmp least hi)

-- the range misses the interval: it ends below it or begins above it
abbrev pub range_misses : Range → Interval → Bool
range_misses r i = below_interval r.most i.lo || above_interval r.least i.hi

-- the query's interval of this column misses the interval
abbrev pub misses : StarQuery → ColRef → Interval → Bool
misses q key i = range_misses (query_range q key) i

-- ---- rows that the base plan reads

-- what an evaluation sees of a table: its rows, the place of its partition key, and its partitions; None and empty without partitions
pub record Seen : Type 0 where
  pub rows : List RowAt
  pub part_key : Option ℕ
  pub parts : List Part

-- what an evaluation sees of a table of the base state
abbrev pub seen : Table → Seen
seen t = record { rows = map (row_at t) t.rows; part_key = t.def.part_key; parts = t.parts }

-- the numbers of the root's partitions that the conditions admit: those whose interval the query's interval of the key doesn't miss
abbrev pub admitted_parts : StarQuery → List Part → ℕ → List ℕ
admitted_parts q parts key =
    map (λ p. p.0.number) (filter (λ p. not (misses q (record { table = q.root; part = Col key }) p.1)) (with_intervals None parts))

-- the root's rows in its admitted partitions, and all its rows where it has no partitions
abbrev pub admitted_rows : StarQuery → Seen → List RowAt
admitted_rows q t = option_case t.part_key t.rows (λ key. filter (λ r. has_number (admitted_parts q t.parts key) r.mark) t.rows)

-- how many rows the base plan reads of a table of the query
abbrev pub rows_read : StarQuery → (ℕ → Seen) → ℕ → ℕ
rows_read q see n = cond (n == q.root) (length (admitted_rows q (see n))) (length (see n).rows)

-- how many rows the base plan reads: those of the root's admitted partitions and all of every other table
abbrev pub reads_over : StarQuery → (ℕ → Seen) → ℕ
reads_over q see = sum_by (rows_read q see) q.tables

-- the same over a base state
abbrev pub base_reads : StarQuery → Base → ℕ
base_reads q base = reads_over q (λ n. seen (table_at base n))
