-- What is true of the fields of an index of keys.
use Rattle.std.specs.List.{IsDistinct}
use Rattle.std.specs.Ordering.{eq_by_cmp}
use Rattle.std.specs.Prelude.{◌≤◌}
use Rattle.indexmap.specs.IndexMap as index
use Rattle.wh_base.specs.Values.{value_cmp}
use Rattle.wh_keyindex.specs.declared.key_index.KeyIndex.TheInside.{Inside}

-- there is memory for as many keys as were reserved, and each key stands once
pub record IsKept (k : Inside) : Type 0 where
  pub room : k.room ≤ index.spare k.places
  pub once : IsDistinct (eq_by_cmp value_cmp) (index.keys k.places)
