-- The rows of a table with no key in certain intervals.
use Rattle.std.specs.Prelude.{Bool, List, not, ℕ}
use Rattle.std.specs.List.{list_any}
use Rattle.wh_base.specs.Tables.{value_at}
use Rattle.wh_base.specs.Values.{interval_has}
use Rattle.wh_base.specs.declared.tables.RowAt.{RowAt}
use Rattle.wh_base.specs.declared.values.Interval.{Interval}

-- the row's value at this place is in none of the intervals
abbrev pub is_outside : ℕ → List Interval → RowAt → Bool
is_outside k is r = not (list_any (λ i. interval_has i (value_at r.values k)) is)
