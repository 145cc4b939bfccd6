-- Intervals of a partition key, their union, and what is stale of a view.
use Rattle.std.specs.Option.{option_cmp}
use Rattle.def_restrictions.specs.Definition.{is_tracked, table_defs}
use Rattle.wh_base.specs.declared.views.ViewDef.{ViewDef}
use Rattle.wh_base.specs.declared.views.TableFacts.{TableFacts}
use Rattle.wh_base.specs.declared.views.RefreshFacts.{RefreshFacts}
use Rattle.std.specs.Ordering.{is_ge, is_lt}
use Rattle.std.specs.Prelude.{Bool, List, None, Option, Some, [], cond, filter, find, map, nat_lt, true, unwrap_or, zip, ℕ, ◌&&◌, ◌∷◌}
use Rattle.std.specs.declared.cmp.Ordering.{Ordering}
use Rattle.wh_base.specs.Lists.{option_case, sorted_by}
use Rattle.wh_base.specs.Values.{value_cmp}
use Rattle.wh_base.specs.declared.values.Interval.{Interval}
use Rattle.wh_base.specs.declared.values.Value.{Value}

-- ---- the union of intervals

-- lower bounds in order; no bound is below every bound
abbrev pub lo_cmp : Option Value → Option Value → Ordering
lo_cmp = option_cmp value_cmp

-- intervals by their lower bounds
abbrev pub interval_cmp : Interval → Interval → Ordering
interval_cmp i j = lo_cmp i.lo j.lo

-- an interval that ends before `hi` overlaps or adjoins one that begins with `lo`, where it begins no later
abbrev pub reaches : Option Value → Option Value → Bool
reaches None lo = true
reaches (Some hi) None = true
reaches (Some hi) (Some lo) = is_ge (value_cmp hi lo)

-- the greater of two upper bounds; no bound is above every bound
abbrev pub greater_hi : Option Value → Option Value → Option Value
greater_hi None h = None
greater_hi (Some v) None = None
greater_hi (Some v) (Some w) = Some (cond (is_lt (value_cmp v w)) w v)

-- an interval and those after it, by their lower bounds, where each that overlaps or adjoins the one before is joined with it
abbrev pub merged_from : Interval → List Interval → List Interval
merged_from i [] = i ∷ []
merged_from i (j ∷ js) = cond (reaches i.hi j.lo) (merged_from (record { lo = i.lo; hi = greater_hi i.hi j.hi }) js) (i ∷ merged_from j js)

abbrev pub merged : List Interval → List Interval
merged [] = []
merged (i ∷ is) = merged_from i is

-- the union of intervals, as intervals that ascend and neither overlap nor adjoin. Both are proved in the laws of this crate:
-- that they are apart, and that the union has a value exactly where one of the intervals has it
abbrev pub union_of : List Interval → List Interval
union_of is = merged (sorted_by interval_cmp is)

-- ---- when two intervals meet

-- a lower bound is below an upper one
abbrev pub bounds_meet : Option Value → Option Value → Bool
bounds_meet None hi = true
bounds_meet (Some lo) None = true
bounds_meet (Some lo) (Some hi) = is_lt (value_cmp lo hi)

-- each of the two intervals begins before the other ends
abbrev pub intervals_meet : Interval → Interval → Bool
intervals_meet i j = bounds_meet i.lo j.hi && bounds_meet j.lo i.hi

-- ---- what is stale of a view, by the touches that are kept of its tables

-- the intervals of a table's partitions that were touched after the point
abbrev pub touched_after : ℕ → TableFacts → List Interval
touched_after point f = map (λ t. t.interval) (filter (λ t. nat_lt point t.scn) f.touches)

-- the stale intervals of a view: the union of the intervals of the tracked table's partitions that were touched after the point
abbrev pub stale_by_touches : ViewDef → RefreshFacts → List Interval
stale_by_touches d f =
    union_of (option_case (find (λ p. is_tracked d p.0.0) (zip (table_defs d) f.tables)) [] (λ p. touched_after (unwrap_or f.point 0) p.1))
