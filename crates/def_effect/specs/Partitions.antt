-- ALTER TABLE: the table that it leaves and the partitions that it touches, or its first refusal.
-- No log records what a partition statement does; it touches the interval that a partition has at that moment: an ended
-- partition that before the statement, a new one that after it.
use Rattle.std.specs.List.{enumerate_from, list_any}
use Rattle.std.specs.Ordering.{is_lt}
use Rattle.std.specs.Prelude.{Bool, List, Ok, Option, Result, Some, [], codes, cond, false, filter, find, is_some, length, map, nat_le, nat_lt, not, option_and_then, option_map, slice_get, suc, true, ℕ, ◌&&◌, ◌++◌, ◌+◌, ◌==◌, ◌||◌, ◌∷◌}
use Rattle.wh_base.specs.Lists.{first_some, has_number, last, option_case, or_refuse, same_text, unless, where_true, ◌>>=◌}
use Rattle.wh_base.specs.Tables.{Base, Row, Table, column_name, defs_of, mark_of, part_intervals, table_at}
use Rattle.wh_base.specs.Values.{literal_value, value_cmp}
use Rattle.wh_base.specs.declared.replies.Counted.TheVariants.{Partitions}
use Rattle.wh_base.specs.declared.replies.Refusal.{Refusal}
use Rattle.wh_base.specs.declared.replies.Refusal.TheVariants.{KeysReferenced, LastPartition, NameTaken, NoSuchObject, PartitionBound, TooManyObjects, ValueDoesNotFit, VersionsFull}
use Rattle.wh_base.specs.declared.statements.Altered.{Altered}
use Rattle.wh_base.specs.declared.statements.MergeParts.{MergeParts}
use Rattle.wh_base.specs.declared.statements.NewRange.{NewRange}
use Rattle.wh_base.specs.declared.statements.PartChange.{PartChange}
use Rattle.wh_base.specs.declared.statements.PartChange.TheVariants.{Add, DropPart, Merge, Movement, Split, Truncate}
use Rattle.wh_base.specs.declared.statements.SplitPart.{SplitPart}
use Rattle.wh_base.specs.declared.tables.Kind.{Kind}
use Rattle.wh_base.specs.declared.tables.Part.{Part}
use Rattle.wh_base.specs.declared.tables.TableDef.{TableDef}
use Rattle.wh_base.specs.declared.values.Interval.{Interval}
use Rattle.wh_base.specs.declared.values.Value.{Value}
use Rattle.def_effect.specs.Block.{enabled, max_versions, the_table}
use Rattle.def_effect.specs.Define.{bound_fits, bound_refusal, max_parts, new_bound}
use Rattle.wh_base.specs.declared.tables.Kind.TheVariants as kind

-- the table after the statement, the partitions touched with their intervals, and the new rowids that rows got
pub record Altering : Type 0 where
  pub table : Table
  pub touched : List (Part × Interval)
  pub renumbered : List ℕ

-- one partition is touched, and each row keeps its rowid
abbrev pub touching : Table → Part × Interval → Altering
touching t p = record { table = t; touched = p ∷ []; renumbered = [] }

-- the partition of this name, with its interval
abbrev pub part_named : Table → List ℕ → Option (Part × Interval)
part_named t name = find (λ p. same_text p.0.name name) (part_intervals t)

-- the upper bounds of the partitions, ascending; None is MAXVALUE
abbrev pub bounds_of : Table → List (Option Value)
bounds_of t = map (λ p. p.below) t.parts

-- the kind of the partition key
abbrev pub key_kind : TableDef → ℕ → Kind
key_kind d k = option_case (slice_get d.columns k) (kind.Number 15) (λ c. c.kind)

-- ---- ADD

-- MV-01 for the name of a partition that is there, MV-16, then MV-04 and MV-11 for the bound
abbrev pub add_refusal : Table → NewRange → ℕ → Option Refusal
add_refusal t r key =
    first_some (
    where_true (is_some (part_named t r.name)) (NameTaken r.name)
    ∷ where_true (nat_le max_parts (length t.parts)) (TooManyObjects Partitions)
    ∷ bound_refusal t.def.name (column_name t.def key) (key_kind t.def key) (bounds_of t) r
    ∷ [])

-- the new partition has the next number
abbrev pub added_part : Table → NewRange → Part
added_part t r = record { name = r.name; number = suc t.made; below = new_bound r }

-- the new partition stands above the others, so its interval runs from the last bound up to its own
abbrev pub added_interval : Table → NewRange → Interval
added_interval t r = record { lo = option_and_then (λ b. b) (last (bounds_of t)); hi = new_bound r }

abbrev pub added : Table → NewRange → Altering
added t r =
    let p = added_part t r in
    touching (record t { parts = t.parts ++ p ∷ []; made = suc t.made }) (p, added_interval t r)

-- ADD: MV-11 with the new name where the table isn't partitioned
abbrev pub add_part : Table → NewRange → Result Altering Refusal
add_part t r = do
  key ← or_refuse t.def.part_key (PartitionBound t.def.name r.name)
  unless (add_refusal t r key) (added t r)

-- ---- DROP and TRUNCATE

-- the first table, by creation, with an enabled foreign key that refers to this one
abbrev pub referring : Base → ℕ → Option TableDef
referring base n = find (λ d. list_any (λ f. f.table == n) (enabled d)) (defs_of base)

-- MV-13 where there is one
abbrev pub referred_refusal : Base → ℕ → Option Refusal
referred_refusal base n = option_map (λ child. KeysReferenced (table_at base n).def.name child.name) (referring base n)

-- the rows that aren't in the partition
abbrev pub without_rows : Table → Part → List Row
without_rows t p = filter (λ r. not (mark_of t r.values == p.number)) t.rows

-- TRUNCATE: the partition's rows go
abbrev pub truncated : Table → Part × Interval → Altering
truncated t p = touching (record t { rows = without_rows t p.0 }) p

-- DROP: the partition's rows and the partition go; the next higher partition then takes over its interval
abbrev pub dropped : Table → Part × Interval → Altering
dropped t p = touching (record t { rows = without_rows t p.0; parts = filter (λ q. not (q.number == p.0.number)) t.parts }) p

-- the table has no other partition
abbrev pub is_only_part : Table → Bool
is_only_part t = length t.parts == 1

-- ---- SPLIT and MERGE: partitions end, new ones take over their intervals, and their rows get new rowids.
-- `ended` has the numbers of the partitions that end, `kept` is how many row versions are kept of all tables

-- the row is in a partition that ends
abbrev pub is_row_of : List ℕ → Table → Row → Bool
is_row_of ended t r = has_number ended (mark_of t r.values)

-- these rows with the next rowids of the table, in the order of their old ones
abbrev pub moved_rows : Table → List ℕ → List Row
moved_rows t ended = map (λ p. record { rowid = p.0; values = p.1.values }) (enumerate_from (suc t.given) (filter (is_row_of ended t) t.rows))

-- the partition ends
abbrev pub is_ended : List ℕ → Part → Bool
is_ended ended p = has_number ended p.number

-- the new partitions stand in the place of those that end
abbrev pub replaced : List ℕ → List Part → List Part → List Part
replaced ended new [] = []
replaced ended new (p ∷ ps) = cond (is_ended ended p) (new ++ filter (λ q. not (is_ended ended q)) ps) (p ∷ replaced ended new ps)

-- the table with the new partitions and their rows. Those that end are touched, and then the new ones
abbrev pub regrouped : Table → List (Part × Interval) → List (Part × Interval) → Altering
regrouped t before after =
    let ended = map (λ p. p.0.number) before in
    let moved = moved_rows t ended in
    record {
      table = record t {
        rows = filter (λ r. not (is_row_of ended t r)) t.rows ++ moved;
        given = t.given + length moved;
        parts = replaced ended (map (λ p. p.0) after) t.parts;
        made = t.made + length after;
      };
      touched = before ++ after;
      renumbered = map (λ r. r.rowid) moved;
    }

-- MV-15: each row that gets a new rowid begins a version
abbrev pub versions_refusal : ℕ → Table → List ℕ → Option Refusal
versions_refusal kept t ended = where_true (nat_lt max_versions (kept + length (moved_rows t ended))) (VersionsFull t.def.name)

-- a partition that stays has the name
abbrev pub is_name_of_other : Table → List ℕ → List ℕ → Bool
is_name_of_other t ended name = list_any (λ p. not (is_ended ended p) && same_text p.name name) t.parts

-- the value is above the lower and below the upper bound
abbrev pub is_inside : Interval → Value → Bool
is_inside i v = option_case i.lo true (λ lo. is_lt (value_cmp lo v)) && option_case i.hi true (λ hi. is_lt (value_cmp v hi))

-- SPLIT: MV-01 for a new name that a partition that stays has, or that both new ones have; MV-16; MV-04 for a value that
-- the key may not hold; MV-11 for one that isn't inside; MV-15
abbrev pub split_refusal : ℕ → Table → SplitPart → Part × Interval → ℕ → Option Refusal
split_refusal kept t s p key =
    let ended = p.0.number ∷ [] in
    let at = literal_value s.at in
    first_some (
    where_true (is_name_of_other t ended s.lower) (NameTaken s.lower)
    ∷ where_true (is_name_of_other t ended s.upper || same_text s.lower s.upper) (NameTaken s.upper)
    ∷ where_true (nat_le max_parts (length t.parts)) (TooManyObjects Partitions)
    ∷ where_true (not (bound_fits (key_kind t.def key) (Some at))) (ValueDoesNotFit t.def.name (column_name t.def key))
    ∷ where_true (not (is_inside p.1 at)) (PartitionBound t.def.name s.name)
    ∷ versions_refusal kept t ended
    ∷ [])

-- the lower of the new partitions runs up to the value, the upper one from it on; the lower one has the next number
abbrev pub lower_half : Table → SplitPart → Part × Interval → Part × Interval
lower_half t s p =
    let at = literal_value s.at in
    (record { name = s.lower; number = suc t.made; below = Some at }, record { lo = p.1.lo; hi = Some at })

abbrev pub upper_half : Table → SplitPart → Part × Interval → Part × Interval
upper_half t s p =
    (record { name = s.upper; number = suc (suc t.made); below = p.0.below }, record { lo = Some (literal_value s.at); hi = p.1.hi })

abbrev pub split_up : Table → SplitPart → Part × Interval → Altering
split_up t s p = regrouped t (p ∷ []) (lower_half t s p ∷ upper_half t s p ∷ [])

-- the partition with the second number follows that with the first
abbrev pub adjoins : List Part → ℕ → ℕ → Bool
adjoins [] m n = false
adjoins (p ∷ []) m n = false
adjoins (p ∷ q ∷ ps) m n = ((p.number == m) && (q.number == n)) || adjoins (q ∷ ps) m n

-- MERGE: MV-01 for a new name that a partition that stays has; MV-11 where the second doesn't adjoin the first from above; MV-15
abbrev pub merge_refusal : ℕ → Table → MergeParts → Part × Interval → Part × Interval → Option Refusal
merge_refusal kept t s p q =
    let ended = p.0.number ∷ q.0.number ∷ [] in
    first_some (
    where_true (is_name_of_other t ended s.name) (NameTaken s.name)
    ∷ where_true (not (adjoins t.parts p.0.number q.0.number)) (PartitionBound t.def.name s.lower)
    ∷ versions_refusal kept t ended
    ∷ [])

-- the new partition runs over both intervals and has the next number
abbrev pub merged_part : Table → MergeParts → Part × Interval → Part × Interval → Part × Interval
merged_part t s p q = (record { name = s.name; number = suc t.made; below = q.0.below }, record { lo = p.1.lo; hi = q.1.hi })

abbrev pub merged : Table → MergeParts → Part × Interval → Part × Interval → Altering
merged t s p q = regrouped t (p ∷ q ∷ []) (merged_part t s p q ∷ [])

-- ---- row movement

-- the table lets its rows move, or no longer. No partition is touched
abbrev pub with_movement : Table → Bool → Altering
with_movement t on = record { table = record t { def = record t.def { movement = on } }; touched = []; renumbered = [] }

-- ---- the statement

-- one form of ALTER TABLE. DROP and TRUNCATE: MV-02 for the partition, MV-13, and for DROP then MV-12. SPLIT: MV-02 for the
-- partition, MERGE: MV-02 for the first and then the second, and then as above. Row movement: MV-11 with `-` where the
-- table isn't partitioned
abbrev pub alter_part : ℕ → Base → ℕ → Table → PartChange → Result Altering Refusal
alter_part kept base n t (Add r) = add_part t r
alter_part kept base n t (DropPart name) = do
  p ← or_refuse (part_named t name) (NoSuchObject name)
  unless (first_some (referred_refusal base n ∷ where_true (is_only_part t) (LastPartition t.def.name) ∷ [])) (dropped t p)
alter_part kept base n t (Truncate name) = do
  p ← or_refuse (part_named t name) (NoSuchObject name)
  unless (referred_refusal base n) (truncated t p)
alter_part kept base n t (Split s) = do
  key ← or_refuse t.def.part_key (NoSuchObject s.name)
  p ← or_refuse (part_named t s.name) (NoSuchObject s.name)
  unless (split_refusal kept t s p key) (split_up t s p)
alter_part kept base n t (Merge s) = do
  p ← or_refuse (part_named t s.lower) (NoSuchObject s.lower)
  q ← or_refuse (part_named t s.upper) (NoSuchObject s.upper)
  unless (merge_refusal kept t s p q) (merged t s p q)
alter_part kept base n t (Movement on) = do
  key ← or_refuse t.def.part_key (PartitionBound t.def.name (codes "-"))
  Ok (with_movement t on)

-- ALTER TABLE, where so many row versions are kept: the table's number with what becomes of it, or the first refusal, MV-02
-- for the table before the others
abbrev pub alter_table : ℕ → Base → Altered → Result (ℕ × Altering) Refusal
alter_table kept base s = do
  n ← the_table base s.table
  a ← alter_part kept base n (table_at base n) s.change
  Ok (n, a)
