-- A SET list with its columns found, and the new value of one column.
use Rattle.std.specs.List.{find}
use Rattle.std.specs.Prelude.{List, Option, ℕ, ◌==◌}
use Rattle.wh_base.specs.Lists.{option_case}
use Rattle.wh_base.specs.Values.{given_value}
use Rattle.wh_base.specs.declared.replies.Refusal.{Refusal}
use Rattle.wh_base.specs.declared.statements.NewValue.{NewValue}
use Rattle.wh_base.specs.declared.statements.NewValue.TheVariants as new
use Rattle.wh_base.specs.declared.statements.SetColumn.{SetColumn}
use Rattle.wh_base.specs.declared.tables.TableDef.{TableDef}
use Rattle.wh_base.specs.declared.values.Value.{Value}
use Rattle.def_effect.specs.Block.{place_of, set_refusal}
use Rattle.wh_dml.specs.Changing.{value_set}
use Rattle.wh_dml.specs.declared.set_list.PlacedSet.{PlacedSet}
use Rattle.wh_dml.specs.declared.set_list.SetTo.{SetTo}
use Rattle.wh_dml.specs.declared.set_list.SetTo.TheVariants.{Given, Moved}

-- the refusal of the new value of an item
unfoldable pub set_misfit : TableDef → SetColumn → Option Refusal
set_misfit d s = set_refusal d s

-- what a column is set to, with the column found whose old value it takes
abbrev pub set_to : TableDef → NewValue → SetTo
set_to d (new.Given l) = Given (given_value l)
set_to d (new.Moved from n) = Moved (place_of d from) n

abbrev pub placed_set : TableDef → SetColumn → PlacedSet
placed_set d s = record { column = place_of d s.column; to = set_to d s.value }

-- the new value of the column at a place that has this old value: what is set for it by the row's old values, else the old one
abbrev pub value_after : List PlacedSet → List Value → ℕ × Value → Value
value_after sets old p = option_case (find (λ s. s.column == p.0) sets) p.1 (λ s. value_set old s.to)
