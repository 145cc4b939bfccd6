-- The places of columns.
use Rattle.std.specs.Prelude.{List, Option, position, ℕ}
use Rattle.wh_base.specs.Lists.{same_text}
use Rattle.wh_base.specs.declared.statements.NewColumn.{NewColumn}

-- the place of the column of this name, counted from 0
unfoldable pub place_in : List NewColumn → List ℕ → Option ℕ
place_in columns name = position (λ c. same_text c.name name) columns
