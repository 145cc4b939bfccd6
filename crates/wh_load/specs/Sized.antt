-- Kinds of columns within their sizes.
use Rattle.std.specs.List.{list_all}
use Rattle.std.specs.Prelude.{Bool, nat_le, true}
use Rattle.wh_base.specs.declared.tables.Kind.{Kind}
use Rattle.wh_base.specs.declared.tables.Kind.TheVariants.{Date, Number, Text}
use Rattle.wh_base.specs.declared.tables.TableDef.{TableDef}

-- a number column has at most 15 digits
abbrev pub kind_is_sized : Kind → Bool
kind_is_sized (Number p) = nat_le p 15
kind_is_sized (Text n) = true
kind_is_sized Date = true

abbrev pub is_sized_def : TableDef → Bool
is_sized_def d = list_all (λ c. kind_is_sized c.kind) d.columns
