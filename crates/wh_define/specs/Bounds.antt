-- Partitions behind those that are there.
use Rattle.std.specs.Prelude.{List, Option, [], map, not, ℕ, ◌∷◌}
use Rattle.def_effect.specs.Define.{bound_fits, is_above_last, new_bound}
use Rattle.wh_base.specs.Lists.{first_some, where_true}
use Rattle.wh_base.specs.declared.replies.Refusal.{Refusal}
use Rattle.wh_base.specs.declared.replies.Refusal.TheVariants.{PartitionBound, ValueDoesNotFit}
use Rattle.wh_base.specs.declared.statements.NewRange.{NewRange}
use Rattle.wh_base.specs.declared.tables.Kind.{Kind}
use Rattle.wh_base.specs.declared.tables.Part.{Part}
use Rattle.wh_base.specs.declared.values.Value.{Value}

-- the upper bounds of the partitions
abbrev pub bounds_of : List Part → List (Option Value)
bounds_of parts = map (λ p. p.below) parts

-- the refusal of a bound, of a partition of this name behind those with these bounds
abbrev pub misplaced : List ℕ → List ℕ → Kind → List (Option Value) → List ℕ → Option Value → Option Refusal
misplaced table column k bounds name below =
    first_some (
    where_true (not (bound_fits k below)) (ValueDoesNotFit table column)
    ∷ where_true (not (is_above_last bounds below)) (PartitionBound table name)
    ∷ [])

-- the partition with this number
abbrev pub numbered : ℕ → NewRange → Part
numbered n r = record { name = r.name; number = n; below = new_bound r }
