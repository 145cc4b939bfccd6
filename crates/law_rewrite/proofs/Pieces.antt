-- A concatenated plan by its two lists, the view's rows and other tuples, in place of the one list of both (`Sources`).
use Rattle.std.specs.Prelude.{Bool, List, [], filter, map, ◌++◌, ◌∷◌}
use Rattle.std.specs.List.{list_all}
use Rattle.wh_base.specs.Lists.{distinct}
use Rattle.wh_base.specs.Values.{is_true_that, same_values}
use Rattle.wh_base.specs.declared.columns.Agg.{Agg}
use Rattle.wh_base.specs.declared.columns.ColRef.{ColRef}
use Rattle.wh_base.specs.declared.queries.Item.{Item}
use Rattle.wh_base.specs.declared.queries.Item.TheVariants as item
use Rattle.wh_base.specs.declared.queries.StarQuery.{StarQuery}
use Rattle.wh_base.specs.declared.queries.Test.{Test}
use Rattle.wh_base.specs.declared.tables.TableDef.{TableDef}
use Rattle.wh_base.specs.declared.values.Value.{Value}
use Rattle.def_meaning.specs.Meaning.{agg_value, key_of, key_value}
use Rattle.def_rewriting.specs.Concat.{both_sides}
use Rattle.def_rewriting.specs.PlanRows.{plan_agg}

-- a group: its key, the view's rows and the other tuples
abbrev pub Pieces : Type 0 → Type 0
Pieces T = List Value × (List (List Value) × List T)

abbrev pub pieces_of : {T : Type 0} → (List Value → ColRef → Value) → (T → ColRef → Value) → List ColRef → List (List Value) → List T → List Value → Pieces T
pieces_of value' value keys rows ts k = (k, (filter (λ r. same_values (key_of value' keys r) k) rows, filter (λ t. same_values (key_of value keys t) k) ts))

abbrev pub concat_groups : {T : Type 0} → (List Value → ColRef → Value) → (T → ColRef → Value) → List ColRef → List (List Value) → List T → List (Pieces T)
concat_groups value' value [] rows ts = ([], (rows, ts)) ∷ []
concat_groups value' value (c ∷ cs) rows ts = map (pieces_of value' value (c ∷ cs) rows ts) (distinct same_values (map (key_of value' (c ∷ cs)) rows ++ map (key_of value (c ∷ cs)) ts))

abbrev pub concat_agg : {T : Type 0} → List TableDef → StarQuery → StarQuery → (List Value → ColRef → Value) → (T → ColRef → Value) → Pieces T → Agg → Value
concat_agg defs q v value' value g a = both_sides a (plan_agg defs q v value' g.1.0 a) (agg_value value g.1.1 a)

abbrev pub concat_item : {T : Type 0} → List TableDef → StarQuery → StarQuery → (List Value → ColRef → Value) → (T → ColRef → Value) → Pieces T → Item → Value
concat_item defs q v value' value g (item.Col c) = key_value q.keys g.0 c
concat_item defs q v value' value g (item.Agg a) = concat_agg defs q v value' value g a

abbrev pub concat_test : {T : Type 0} → List TableDef → StarQuery → StarQuery → (List Value → ColRef → Value) → (T → ColRef → Value) → Pieces T → Test → Bool
concat_test defs q v value' value g t = is_true_that (concat_agg defs q v value' value g t.agg) t.op t.value

-- one row for each group that meets HAVING, and without GROUP BY for the one group
abbrev pub concat_rows : {T : Type 0} → List TableDef → StarQuery → StarQuery → (List Value → ColRef → Value) → (T → ColRef → Value) → List (List Value) → List T → List (List Value)
concat_rows defs q v value' value rows ts =
    map (λ g. map (concat_item defs q v value' value g) q.items) (filter (λ g. list_all (concat_test defs q v value' value g) q.having) (concat_groups value' value q.keys rows ts))
