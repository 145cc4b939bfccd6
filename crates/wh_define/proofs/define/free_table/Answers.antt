use Rattle.std.proofs.Common.{◌≡◌, ◌∙◌, ap}
use Rattle.std.specs.Prelude.{flat_map}
use Rattle.def_effect.specs.Define.{column_parts, new_columns, new_foreign, new_keys, part_foreign, part_keys}
use Rattle.wh_define.specs.Made.{defined_from}
use Rattle.wh_define.proofs.Whole.{of_statement}
use Rattle.wh_define.proofs.define.free_table.Goals as goal

pub returns : goal.returns
returns c =
    let s = c.args.statement.now in
    let columns : c.as_slice-2.result.now ≡ new_columns s = c.as_slice-2.ensures.value ∙ c.in_ok-columns.ensures ∙ ap (flat_map column_parts) c.as_slice-parts.ensures.items in
    let keys : c.as_slice-3.result.now ≡ new_keys s = c.as_slice-3.ensures.value ∙ c.in_ok-keys.ensures ∙ ap (flat_map part_keys) c.as_slice-parts.ensures.items in
    let foreign : c.as_slice-4.result.now ≡ new_foreign s = c.as_slice-4.ensures.value ∙ c.in_ok-foreign.ensures ∙ ap (flat_map part_foreign) c.as_slice-parts.ensures.items in
    let made = c.in_ok-defined.ensures ∙ ap (λ ds. defined_from ds s c.as_slice-2.result.now c.as_slice-3.result.now c.as_slice-4.result.now) c.as_slice.ensures.items in
    of_statement c.args.defs.now s c.as_slice-2.result.now c.as_slice-3.result.now c.as_slice-4.result.now c.in_ok-defined.defined columns keys foreign made
