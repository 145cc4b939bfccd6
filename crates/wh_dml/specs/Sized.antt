-- Tables whose columns are within their sizes.
use Rattle.std.specs.List.{All}
use Rattle.std.specs.Prelude.{IsTrue, List}
use Rattle.wh_load.specs.Sized.{is_sized_def}
use Rattle.wh_table.specs.Stored.{Stored}

-- no number column has more than 15 digits
pub record AreSized (tables : List Stored) : Type 0 where
  pub all : All (λ s. IsTrue (is_sized_def s.def)) tables
