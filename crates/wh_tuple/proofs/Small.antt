-- Small numbers of a tuple.
use Rattle.std.proofs.Common.{ℕ, zero, suc, Bool, true, false, ◌&&◌, cond, List, [], ◌∷◌, IsTrue, refl}
use Rattle.std.specs.List.{list_all}
use Rattle.std.specs.Prelude.{nat_lt, ◌==◌}
use Rattle.def_meaning.specs.Joined.{column_value, part_value, row_of}
use Rattle.wh_base.specs.Tables.{value_at}
use Rattle.wh_base.specs.Values.{is_small, number_limit}
use Rattle.wh_base.specs.declared.columns.ColPart.{ColPart}
use Rattle.wh_base.specs.declared.columns.ColPart.TheVariants.{Col, Mark, RowId}
use Rattle.wh_base.specs.declared.columns.ColRef.{ColRef}
use Rattle.wh_base.specs.declared.tables.RowAt.{RowAt}
use Rattle.wh_base.specs.declared.values.Value.{Value}
use Rattle.wh_tuple.specs.Meant.{IsSmallTuple, is_small_row}

both : (x y : Bool) → IsTrue (x && y) → IsTrue x × IsTrue y
both true y h = (refl, h)
both false y h = cc

small_at : (vs : List Value) (at : ℕ) → IsTrue (list_all is_small vs) → IsTrue (is_small (value_at vs at))
small_at [] at h = refl
small_at (v ∷ vs) zero h = (both (is_small v) (list_all is_small vs) h).0
small_at (v ∷ vs) (suc at) h = small_at vs at (both (is_small v) (list_all is_small vs) h).1

small_part : (r : RowAt) (part : ColPart) → IsTrue (is_small_row r) → IsTrue (is_small (part_value r part))
small_part r (Col at) h = small_at r.values at (both (nat_lt r.mark number_limit) (list_all is_small r.values) (both (nat_lt r.rowid number_limit) (nat_lt r.mark number_limit && list_all is_small r.values) h).1).1
small_part r RowId h = (both (nat_lt r.rowid number_limit) (nat_lt r.mark number_limit && list_all is_small r.values) h).0
small_part r Mark h = (both (nat_lt r.mark number_limit) (list_all is_small r.values) (both (nat_lt r.rowid number_limit) (nat_lt r.mark number_limit && list_all is_small r.values) h).1).0

small_of : (tables : List ℕ) (tuple : List RowAt) (table : ℕ) → IsSmallTuple tuple → IsTrue (is_small_row (row_of tables tuple table))
small_of [] rows table h = refl
small_of (n ∷ ns) [] table h = refl
small_of (n ∷ ns) (r ∷ rs) table h =
    let parts = both (is_small_row r) (list_all is_small_row rs) h in
    by (n == table) parts.0 (small_of ns rs table parts.1)
  where
    by : (b : Bool) → IsTrue (is_small_row r) → IsTrue (is_small_row (row_of ns rs table)) → IsTrue (is_small_row (cond b r (row_of ns rs table)))
    by true h k = h
    by false h k = k

pub small_column : (tables : List ℕ) (tuple : List RowAt) (c : ColRef) → IsSmallTuple tuple → IsTrue (is_small (column_value tables tuple c))
small_column tables tuple c h = small_part (row_of tables tuple c.table) c.part (small_of tables tuple c.table h)

pub ruleset columns = (small_column)
