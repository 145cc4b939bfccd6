-- The first step of UPDATE and DELETE in one table: what refuses them, which rows they pick, and what a row becomes.
use Rattle.std.specs.List.{enumerate_from, list_all}
use Rattle.std.specs.Prelude.{Bool, List, Option, [], flat_map, map, ℕ, ◌&&◌, ◌∷◌}
use Rattle.wh_base.specs.Lists.{first_of, first_some}
use Rattle.wh_base.specs.Tables.{value_at}
use Rattle.wh_base.specs.Values.{added_value}
use Rattle.wh_base.specs.declared.queries.RawCondition.{RawCondition}
use Rattle.wh_base.specs.declared.replies.Refusal.{Refusal}
use Rattle.wh_base.specs.declared.statements.DeleteRows.{DeleteRows}
use Rattle.wh_base.specs.declared.statements.UpdateRows.{UpdateRows}
use Rattle.wh_base.specs.declared.tables.TableDef.{TableDef}
use Rattle.wh_base.specs.declared.values.Value.{Value}
use Rattle.def_effect.specs.Block.{conditions_unknown, own_column, own_kinds_refusal, own_value, repeated_column, set_names, set_or_old, set_refusal, unknown_column}
use Rattle.def_meaning.specs.Joined.{conditions_true, edge_true}
use Rattle.def_resolve.specs.Resolve.{join_of_condition, resolved_condition}
use Rattle.wh_dml.specs.declared.filter.Filter.{Filter}
use Rattle.wh_dml.specs.declared.set_list.SetList.{SetList}
use Rattle.wh_dml.specs.declared.set_list.SetTo.{SetTo}
use Rattle.wh_dml.specs.declared.set_list.SetTo.TheVariants.{Given, Moved}

-- ---- refusals

-- the first refusal of an UPDATE of the table with this number: an unknown column of the SET list and then of the
-- conditions, a column that is set twice, a new value of the wrong kind, and a comparison with something of another kind
abbrev pub update_refusal : ℕ → TableDef → UpdateRows → Option Refusal
update_refusal n d s =
    first_some (
    unknown_column d (flat_map set_names s.sets)
    ∷ conditions_unknown n d s.conditions
    ∷ repeated_column (map (λ x. x.column) s.sets)
    ∷ first_of (set_refusal d) s.sets
    ∷ first_of (own_kinds_refusal d (own_column n d)) s.conditions
    ∷ [])

-- the same of a DELETE: an unknown column of its conditions, and a comparison with something of another kind
abbrev pub delete_refusal : ℕ → TableDef → DeleteRows → Option Refusal
delete_refusal n d s = first_some (conditions_unknown n d s.conditions ∷ first_of (own_kinds_refusal d (own_column n d)) s.conditions ∷ [])

-- ---- the rows that conditions pick

-- the conditions with their columns found in the table with this number
abbrev pub filter_of : ℕ → TableDef → List RawCondition → Filter
filter_of n d cs =
    record {
      conditions = flat_map (resolved_condition (own_column n d)) cs;
      joins = flat_map (join_of_condition (own_column n d)) cs;
    }

-- the conditions are true of a row with these values
abbrev pub passes : Filter → List Value → Bool
passes f vs = conditions_true (own_value vs) f.conditions && list_all (edge_true (own_value vs)) f.joins

-- ---- the values that a row gets

-- the new value of a column, by the row's old values
abbrev pub value_set : List Value → SetTo → Value
value_set old (Given v) = v
value_set old (Moved from n) = added_value (value_at old from) n

-- the values of a row after the SET list, each by the row's old values
abbrev pub row_set : SetList → List Value → List Value
row_set s old = map (set_or_old (map (λ x. (x.column, value_set old x.to)) s.sets)) (enumerate_from 0 old)
