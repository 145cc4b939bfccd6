-- What an index of keys holds.
use Rattle.std.specs.Prelude.{refl, ℕ}
use Rattle.std.specs.Coded.{Coded, code_by, coded×, coded_ℕ}
use Rattle.std.specs.FinMap as map
use Rattle.wh_base.specs.Values.{value_cmp}
use Rattle.wh_base.specs.contracts.values.Value.{the_row}

-- the place of each key, and for how many keys more there is memory
pub record Keyed : Type 0 where
  pub places : map.FinMap value_cmp ℕ
  pub spare : ℕ

-- it is stored as the pair of its fields
abbrev pub keyed_code : Coded Keyed
keyed_code =
    code_by (map.FinMap value_cmp ℕ × ℕ) (coded× (map.code the_row.coded coded_ℕ) coded_ℕ)
    (λ k. (k.places, k.spare)) (λ p. record { places = p.0; spare = p.1 }) (λ _. refl)
