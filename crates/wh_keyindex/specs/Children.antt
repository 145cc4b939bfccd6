-- What an index of a foreign key holds.
use Rattle.std.specs.Ordering.{nat_cmp}
use Rattle.std.specs.Prelude.{Bool, List, filter, length, not, refl, ℕ}
use Rattle.std.specs.Coded.{Coded, code_by, coded×, coded_ℕ}
use Rattle.std.specs.FinMap as map
use Rattle.wh_base.specs.Values.{same_value}
use Rattle.wh_base.specs.contracts.values.Value.{the_row}
use Rattle.wh_base.specs.declared.values.Value.{Value}
use Rattle.wh_keyindex.specs.Marks.{is_marked}

abbrev pub Values : Type 0
Values = map.FinMap nat_cmp Value

-- the value of each place, and for how many places more there is memory
pub record Children : Type 0 where
  pub values : Values
  pub spare : ℕ

-- it is stored as the pair of its fields
abbrev pub children_code : Coded Children
children_code =
    code_by (Values × ℕ) (coded× (map.code coded_ℕ the_row.coded) coded_ℕ)
    (λ c. (c.values, c.spare)) (λ p. record { values = p.0; spare = p.1 }) (λ _. refl)

-- how many places have the value
abbrev pub places_with : Value → Values → ℕ
places_with value values = length (filter (same_value value) (map.values values))

-- the places that aren't marked
abbrev pub unmarked_places : List Bool → Values → Values
unmarked_places gone values = map.retain_keys values (λ place. not (is_marked gone place))
