-- Places that are marked in a list.
use Rattle.std.specs.Prelude.{Bool, List, false, not, slice_get, unwrap_or, ℕ}
use Rattle.std.specs.FinMap as map
use Rattle.wh_base.specs.Lists.{option_case}
use Rattle.wh_base.specs.Values.{value_cmp}

-- the place is marked; past the end of the list none is
abbrev pub is_marked : List Bool → ℕ → Bool
is_marked gone place = unwrap_or (slice_get gone place) false

-- the keys whose place isn't marked
abbrev pub unmarked : List Bool → map.FinMap value_cmp ℕ → map.FinMap value_cmp ℕ
unmarked gone places = map.retain_keys places (λ key. option_case (map.get places key) false (λ place. not (is_marked gone place)))
