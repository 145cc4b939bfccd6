-- A map that a block changes, and what takes the changes back.
use Rattle.std.specs.FinMap as map
use Rattle.std.specs.Prelude.{List, None, Option, Some, [], map as each, ◌∷◌}
use Rattle.std.specs.declared.cmp.Ordering.{Ordering}
use Rattle.wh_keys.specs.declared.was.Was.{Was}

-- what a block changes: as it is now, and as it was before the block
pub record Changing (M : Type 0) : Type 0 where
  pub now : M
  pub before : M

-- after the block: as it was before, or as it is now
abbrev pub rolled_back : {M : Type 0} → Changing M → Changing M
rolled_back c = record { now = c.before; before = c.before }

abbrev pub kept : {M : Type 0} → Changing M → Changing M
kept c = record { now = c.now; before = c.now }

-- a map without keys, and without changes
abbrev pub nothing : {K X : Type 0} {R : K → K → Ordering} → Changing (map.FinMap R X)
nothing = record { now = map.empty; before = map.empty }

-- each of a list as it is now, and as it was before
abbrev pub all_now : {M : Type 0} → List (Changing M) → List M
all_now cs = each (λ c. c.now) cs

abbrev pub all_before : {M : Type 0} → List (Changing M) → List M
all_before cs = each (λ c. c.before) cs

-- the map with what a key is to have: a value, or none
abbrev pub set_to : {K X : Type 0} {R : K → K → Ordering} → map.FinMap R X → K → Option X → map.FinMap R X
set_to m k None = map.remove m k
set_to m k (Some x) = map.insert m k x

-- the map as it was before what is noted, from the first change to the last
abbrev pub undone : {K X : Type 0} {R : K → K → Ordering} → List (Was K X) → map.FinMap R X → map.FinMap R X
undone [] m = m
undone (w ∷ log) m = set_to (undone log m) w.key w.value
