-- The partitions of a table with their past, and the touches by which it is told what is stale.
use Rattle.std.specs.List.{list_any}
use Rattle.std.specs.Ordering.{is_ge}
use Rattle.std.specs.Prelude.{Bool, List, None, Option, [], false, filter, find, map, nat_le, nat_lt, not, position, slice_get, suc, zero, ℕ, ◌++◌, ◌==◌, ◌∷◌}
use Rattle.def_restrictions.specs.Intervals.{intervals_meet}
use Rattle.wh_base.specs.Lists.{last, option_case}
use Rattle.wh_base.specs.Tables.{with_intervals}
use Rattle.wh_base.specs.Values.{interval_has, value_cmp}
use Rattle.wh_base.specs.declared.tables.Part.{Part}
use Rattle.wh_base.specs.declared.tables.Touch.{Touch}
use Rattle.wh_base.specs.declared.values.Interval.{Interval}
use Rattle.wh_base.specs.declared.values.Value.{Value}
use Rattle.wh_partmap.specs.declared.lists.PartList.{PartList}

-- the partitions of a table from the lowest on, with all that was before
pub record PartHistory : Type 0 where
  -- the SCN at which the table was born
  pub born : ℕ
  -- the partitions now
  pub parts : List Part
  -- the SCN from which on they are these
  pub since : ℕ
  -- the lists before, the latest first
  pub earlier : List PartList
  -- how many partitions were ever made
  pub made : ℕ
  -- the touches told so far, in order
  pub touches : List Touch
  -- how many touches more there is room for
  pub spare : ℕ

-- a table without partitions, born at this SCN
abbrev pub born_at : ℕ → PartHistory
born_at scn = record { born = scn; parts = []; since = scn; earlier = []; made = 0; touches = []; spare = 0 }

-- ---- the lists of partitions

-- all lists, the latest first
abbrev pub lists_of : PartHistory → List PartList
lists_of h = record { since = h.since; parts = h.parts } ∷ h.earlier

-- the partitions at an SCN: the latest list that began at or before it
abbrev pub parts_at : PartHistory → ℕ → List Part
parts_at h scn = option_case (find (λ l. nat_le l.since scn) (lists_of h)) [] (λ l. l.parts)

-- these are the partitions from this SCN on; a list that began at it never was
abbrev pub with_parts : PartHistory → ℕ → List Part → PartHistory
with_parts h scn parts = record h { parts = parts; since = scn; earlier = filter (λ l. nat_lt l.since scn) (lists_of h) }

-- ---- bounds and intervals

-- the upper bounds of the partitions; None is no bound
abbrev pub upper_bounds : List Part → List (Option Value)
upper_bounds parts = map (λ p. p.below) parts

-- the bound below the partition at a place: the upper bound of the one before it, and `lo` below the first
abbrev pub bound_before : Option Value → List Part → ℕ → Option Value
bound_before lo parts zero = lo
bound_before lo parts (suc n) = option_case (slice_get parts n) None (λ p. p.below)

-- the upper bound is at or below the key
abbrev pub lies_below : Value → Part → Bool
lies_below key p = option_case p.below false (λ b. is_ge (value_cmp key b))

-- the place of the partition that has the key in its interval
abbrev pub place_of_key : List Part → Value → Option ℕ
place_of_key parts key = position (λ p. interval_has p.1 key) (with_intervals None parts)

-- the partition that has the key in its interval, with that interval
abbrev pub part_with_key : List Part → Value → Option (Part × Interval)
part_with_key parts key = find (λ p. interval_has p.1 key) (with_intervals None parts)

-- ---- ADD and DROP

-- a partition with the next number
abbrev pub next_part : PartHistory → List ℕ → Option Value → Part
next_part h name below = record { name = name; number = suc h.made; below = below }

-- one more partition, above the others
abbrev pub with_added : PartHistory → List ℕ → Option Value → ℕ → PartHistory
with_added h name below scn = record (with_parts h scn (h.parts ++ next_part h name below ∷ [])) { made = suc h.made }

-- the number of the partition at a place; 0, which no partition has, past the end
abbrev pub number_at : List Part → ℕ → ℕ
number_at parts place = option_case (slice_get parts place) 0 (λ p. p.number)

-- the partitions but for the one with this number; the next higher one has its interval then
abbrev pub without_part : List Part → ℕ → List Part
without_part parts number = filter (λ q. not (q.number == number)) parts

-- ---- touches

-- that a partition, given with its interval, is touched at this SCN
abbrev pub touch_of : ℕ → Part × Interval → Touch
touch_of scn p = record { interval = p.1; number = p.0.number; scn = scn }

-- the touch of each partition at this SCN
abbrev pub touches_at : List Part → ℕ → List Touch
touches_at parts scn = map (touch_of scn) (with_intervals None parts)

-- the SCN of the last touch, and 0 before the first
abbrev pub last_touched : List Touch → ℕ
last_touched touches = option_case (last touches) 0 (λ t. t.scn)

-- the touches after an SCN
abbrev pub touches_after : List Touch → ℕ → List Touch
touches_after touches scn = filter (λ t. nat_lt scn t.scn) touches

-- a partition touched after this SCN had an interval then that meets this one
abbrev pub is_touched_since : List Touch → ℕ → Interval → Bool
is_touched_since touches scn i = list_any (λ t. intervals_meet i t.interval) (touches_after touches scn)
