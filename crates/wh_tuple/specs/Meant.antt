-- What is kept of tuples and of their values, and what it stands for.
use Rattle.std.specs.List.{list_all}
use Rattle.std.specs.Prelude.{Bool, IsTrue, List, None, Option, Some, [], cond, nat_lt, true, ℕ, ℤ, ◌&&◌, ◌==◌, ◌∷◌}
use Rattle.wh_base.specs.Values.{is_small, number_limit}
use Rattle.wh_base.specs.declared.columns.Expr.{Expr}
use Rattle.wh_base.specs.declared.columns.Expr.TheVariants.{Lit}
use Rattle.wh_base.specs.declared.tables.RowAt.{RowAt}
use Rattle.wh_base.specs.declared.values.Value.{Value}
use Rattle.wh_base.specs.declared.values.Value.TheVariants.{Null, Num}
use Rattle.wh_tuple.specs.declared.cell.Cell.{Cell}
use Rattle.wh_tuple.specs.declared.cell.Cell.TheVariants as cells

-- the value itself
abbrev pub cell_value : Cell → Value
cell_value (cells.Kept v) = v.now
cell_value (cells.Number n) = Num n
cell_value cells.Null = Null

-- the number that a value is, where it is one
abbrev pub number_in : Value → Option ℤ
number_in (Num n) = Some n
number_in v = None

-- the row of a table in a tuple that has one row of each of these tables, in this order, where it has one
abbrev pub row_found : List ℕ → List RowAt → ℕ → Option RowAt
row_found [] rows table = None
row_found (n ∷ ns) [] table = None
row_found (n ∷ ns) (r ∷ rs) table = cond (n == table) (Some r) (row_found ns rs table)

-- ---- numbers below 10^15 in size, so that products and sums stay within 128 bits

-- each number in the row, the rowid and the number of the partition among them
abbrev pub is_small_row : RowAt → Bool
is_small_row r = nat_lt r.rowid number_limit && (nat_lt r.mark number_limit && list_all is_small r.values)

-- each number in the tuple
abbrev pub IsSmallTuple : List RowAt → Type 0
IsSmallTuple tuple = IsTrue (list_all is_small_row tuple)

-- the number that is written, where the expression is one
abbrev pub is_small_expr : Expr → Bool
is_small_expr (Lit n) = is_small (Num n)
is_small_expr e = true
