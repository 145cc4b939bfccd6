-- That the sizes of columns are in range.
use Rattle.std.specs.List.{list_all}
use Rattle.std.specs.Prelude.{IsTrue, List}
use Rattle.def_effect.specs.Define.{size_holds}
use Rattle.wh_base.specs.declared.statements.NewColumn.{NewColumn}

-- the size of each column is in range
abbrev pub AreSized : List NewColumn → Type 0
AreSized columns = IsTrue (list_all (λ c. size_holds c.kind) columns)
