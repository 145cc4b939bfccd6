-- What the fields of an index of a foreign key stand for, and what is true of them.
use Rattle.std.specs.List.{IsDistinct}
use Rattle.std.specs.Ordering.{eq_by_cmp}
use Rattle.std.specs.Prelude.{◌≡◌, ◌<◌, ◌≤◌, List, Some, length, map, nat_eq, unwrap_or, ℕ}
use Rattle.std.specs.FinMap as fin
use Rattle.indexmap.specs.IndexMap as index
use Rattle.wh_base.specs.Tables.{value_at}
use Rattle.wh_base.specs.Values.{value_cmp}
use Rattle.wh_base.specs.declared.values.Value.{Value}
use Rattle.wh_keyindex.specs.Children.{Children, Values, places_with}
use Rattle.wh_keyindex.specs.declared.child_index.ChildIndex.TheInside.{Inside}

-- each place with the value that its number stands for
abbrev pub named : List Value → List (ℕ × ℕ) → List (ℕ × Value)
named known numbers = map (λ e. (e.0, value_at known e.1)) numbers

-- the value of each place
abbrev pub values_of : List Value → List (ℕ × ℕ) → Values
values_of known numbers = fin.from_entries (named known numbers)

abbrev pub shown : Inside → Children
shown c = record { values = values_of (index.keys c.counts) c.numbers.entries; spare = c.room }

-- each number is that of a known value
abbrev pub AreKnown : {S : Type 0} → List Value → index.IndexMap ℕ ℕ S → Type 0
AreKnown known numbers = (place number : ℕ) → index.get nat_eq numbers place ≡ Some number → number < length known

-- how many places have the value, by what was counted
abbrev pub count_in : {S : Type 0} → index.IndexMap Value ℕ S → Value → ℕ
count_in counts value = unwrap_or (index.get (eq_by_cmp value_cmp) counts value) 0

-- each value was counted at the places that have it
abbrev pub AreCounted : {S : Type 0} → index.IndexMap Value ℕ S → Values → Type 0
AreCounted counts values = (value : Value) → count_in counts value ≡ places_with value values

pub record IsTied (c : Inside) : Type 0 where
  pub numbers_room : c.room ≤ index.spare c.numbers
  pub counts_room : c.room ≤ index.spare c.counts
  pub numbers_once : IsDistinct nat_eq (index.keys c.numbers)
  pub counts_once : IsDistinct (eq_by_cmp value_cmp) (index.keys c.counts)
  pub known : AreKnown (index.keys c.counts) c.numbers
  pub counted : AreCounted c.counts (shown c).values
