-- What the pruning of partitions stands on: each row of the root stands in a partition that has its key, and no condition compares
-- with what AVG gives.
use Rattle.std.specs.List.{All, list_all, list_any}
use Rattle.std.specs.Prelude.{Bool, List, None, Option, Some, false, not, true, ℕ, ◌&&◌, ◌==◌, ◌≡◌}
use Rattle.wh_base.specs.Tables.{value_at, with_intervals}
use Rattle.wh_base.specs.Values.{interval_has}
use Rattle.wh_base.specs.declared.queries.Condition.{Condition}
use Rattle.wh_base.specs.declared.queries.Condition.TheVariants.{Compare, IsNull, NotNull, OneOf}
use Rattle.wh_base.specs.declared.queries.StarQuery.{StarQuery}
use Rattle.wh_base.specs.declared.tables.Part.{Part}
use Rattle.wh_base.specs.declared.tables.RowAt.{RowAt}
use Rattle.wh_base.specs.declared.values.Value.{Value}
use Rattle.wh_base.specs.declared.values.Value.TheVariants.{Ratio}
use Rattle.def_meaning.specs.Ranges.{Seen}

-- what AVG gives, which stands in no table and in no literal
abbrev pub is_pair : Value → Bool
is_pair (Ratio a) = true
is_pair w = false

abbrev pub no_pairs : List Value → Bool
no_pairs ws = list_all (λ w. not (is_pair w)) ws

-- the condition compares with no pair; so does each condition that is written
abbrev pub without_pairs : Condition → Bool
without_pairs (Compare c op w) = not (is_pair w)
without_pairs (OneOf c ws) = no_pairs ws
without_pairs (IsNull c) = true
without_pairs (NotNull c) = true

-- the number of the row's partition is that of a partition with the row's key in its interval
abbrev pub is_marked : List Part → ℕ → RowAt → Bool
is_marked parts key r = list_any (λ p. (p.0.number == r.mark) && interval_has p.1 (value_at r.values key)) (with_intervals None parts)

-- each of these rows stands in a partition that has its key, which is no pair; any rows do in a table without partitions
abbrev pub AreMarked : Option ℕ → List Part → List RowAt → Type 0
AreMarked None parts rows = Unit {0}
AreMarked (Some key) parts rows = All (λ r. (is_marked parts key r && not (is_pair (value_at r.values key))) ≡ true) rows

-- the partitions of the root can be pruned by the query's conditions
abbrev pub CanPrune : StarQuery → (ℕ → Seen) → Type 0
CanPrune q see = (list_all without_pairs q.conditions ≡ true) × AreMarked (see q.root).part_key (see q.root).parts (see q.root).rows
