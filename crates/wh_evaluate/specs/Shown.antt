-- Which base state a store shows, what a query over it stands on, and what is made of its tuples.
use Rattle.std.specs.List.{All, list_all}
use Rattle.std.specs.Prelude.{◌≡◌, Bool, List, None, Ok, Option, is_some, length, map, nat_lt, not, true, ℕ, ◌&&◌}
use Rattle.wh_base.specs.Lists.{option_case, repeated, sorted_by}
use Rattle.wh_base.specs.Tables.{Base, Places, Row, Table, defs_of, part_of_key, rows_shown, value_at}
use Rattle.wh_base.specs.Values.{number_limit, same_value}
use Rattle.wh_base.specs.declared.queries.RawQuery.{RawQuery}
use Rattle.wh_base.specs.declared.queries.StarQuery.{StarQuery}
use Rattle.wh_base.specs.declared.tables.Part.{Part}
use Rattle.wh_base.specs.declared.tables.RowAt.{RowAt}
use Rattle.wh_base.specs.declared.values.Value.{Value}
use Rattle.wh_base.specs.declared.views.ViewEntry.{ViewEntry}
use Rattle.def_effect.specs.Block.{column_values}
use Rattle.def_meaning.specs.Joined.{column_value, rows_at}
use Rattle.def_meaning.specs.Meaning.{entries, entry_cmp, in_order}
use Rattle.def_resolve.specs.Resolve.{resolve}
use Rattle.wh_star.specs.Marked.{is_pair}

-- The store has the tables of the base state: of each its rows with their rowids and partitions, its partition key, and its
-- partitions.
pub record Shows (tables : List Places) (keys : List (Option ℕ)) (partitions : List (List Part)) (base : Base) : Type 0 where
  pub many : length tables ≡ length base
  pub rows : (n : ℕ) → rows_shown tables n ≡ rows_at base n
  pub part_keys : keys ≡ map (λ t. t.def.part_key) base
  pub parts : partitions ≡ map (λ t. t.parts) base

-- ---- what is so of each base state

-- no two rows of the table have the same value in this column, where that isn't NULL
abbrev pub IsUnique : Table → ℕ → Type 0
IsUnique t k = repeated same_value (column_values t k) ≡ None

-- so it is with each key of the table
abbrev pub HasKeys : Table → Type 0
HasKeys t = All (IsUnique t) t.def.keys

-- the partition key of the row is in the interval of a partition, and is no pair, as AVG gives it
abbrev pub is_placed : Table → ℕ → Row → Bool
is_placed t key r = is_some (part_of_key t (value_at r.values key)) && not (is_pair (value_at r.values key))

-- so it is with each row, where the table has partitions
abbrev pub are_placed : Table → Bool
are_placed t = option_case t.def.part_key true (λ key. list_all (is_placed t key) t.rows)

-- rowids and the numbers of partitions are below 10^15, as the numbers in the rows are
abbrev pub are_numbered : Table → Bool
are_numbered t = list_all (λ r. nat_lt r.rowid number_limit) t.rows && list_all (λ p. nat_lt p.number number_limit) t.parts

-- The query can be evaluated over the store: over a base state that it shows, the query is the star form of a query that is
-- written, the keys of each table hold, and each row stands in a partition where its table has any.
pub record CanEvaluate (tables : List Places) (keys : List (Option ℕ)) (partitions : List (List Part)) (query : StarQuery) : Type 0 where
  pub base : Base
  pub shown : Shows tables keys partitions base
  pub raw : RawQuery
  pub resolved : resolve (defs_of base) raw ≡ Ok query
  pub unique : All HasKeys base
  pub placed : list_all are_placed base ≡ true
  pub numbered : list_all are_numbered base ≡ true

-- ---- what is made of tuples

-- what a view of the query stores of these tuples
abbrev pub stored_of : StarQuery → List (List RowAt) → List ViewEntry
stored_of q tuples = sorted_by entry_cmp (entries (column_value q.tables) q tuples)

-- the rows of the answer of these tuples
abbrev pub answer_of : StarQuery → List (List RowAt) → List (List Value)
answer_of q tuples = in_order q.order (map (λ e. e.row) (stored_of q tuples))
