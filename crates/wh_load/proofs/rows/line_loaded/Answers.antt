use Rattle.std.proofs.Common.{ap, arith, length, map, refl, sym, ◌++◌, ◌<◌, ◌∙◌}
use Rattle.std.specs.Prelude.{option_map, zip}
use Rattle.def_effect.specs.Block.{field_value}
use Rattle.wh_base.specs.declared.tables.ColumnDef.{ColumnDef}
use Rattle.wh_load.proofs.Lines.{line_end, line_on, line_refused, none_on}
use Rattle.wh_load.specs.Capped.{capped, loaded_value}
use Rattle.wh_load.proofs.rows.line_loaded.Goals as goal

pub loop-at-preserved : goal.loop-at-preserved
loop-at-preserved c =
    let less : c.loop-at.at < length c.args.columns.now = c.loop-at-test.true in
    let more : c.loop-at.at < length c.args.fields.now = omega (arith, c.requires, less) in
    let value = sym c.in-Some.is ∙ c.in_ok-value.ensures ∙ ap (λ (column : ColumnDef). option_map capped (field_value column.kind c.index-fields-at.result)) (sym c.index-columns-at.is) in
    record {
      done = line_on c.args.columns.now c.args.fields.now c.loop-at.at c.index-columns-at.result c.index-fields-at.result c.in-Some.value c.loop-at.values.items c.push.new.self.items less more c.index-columns-at.is c.index-fields-at.is
          value c.in_ok-push.ensures.items c.loop-at.invariant.done;
      none = none_on c.args.def.now c.args.columns.now c.args.fields.now c.loop-at.at c.index-columns-at.result c.index-fields-at.result c.in-Some.value less more c.index-columns-at.is c.index-fields-at.is value c.loop-at.invariant.none;
    }

pub loop-at-init : goal.loop-at-init
loop-at-init c = record {
  done = ap (λ values. values ++ map capped (map loaded_value (zip c.args.columns.now c.args.fields.now))) c.in_ok-values.ensures.items;
  none = refl;
}

pub returns-in_default : goal.returns-in_default
returns-in_default c =
    let less : c.loop-at.at < length c.args.columns.now = c.loop-at-test.true in
    let more : c.loop-at.at < length c.args.fields.now = omega (arith, c.requires, less) in
    let value = sym c.in_default.is ∙ c.in_ok-value.ensures ∙ ap (λ (column : ColumnDef). option_map capped (field_value column.kind c.index-fields-at.result)) (sym c.index-columns-at.is) in
    line_refused c.args.def.now c.args.columns.now c.args.fields.now c.loop-at.at c.index-columns-at.result c.index-columns-at-in_default.result c.index-fields-at.result c.as_slice.result.now c.in_ok-misfit.field-0 less more c.index-columns-at.is
    c.index-columns-at-in_default.is c.index-fields-at.is value c.in_ok-misfit.ensures (c.as_slice.ensures.bytes ∙ ap (λ (column : ColumnDef). column.name) (sym c.index-columns-at-in_default.is)) c.loop-at.invariant.none

pub returns : goal.returns
returns c = line_end c.args.def.now c.args.columns.now c.args.fields.now c.loop-at.at c.loop-at.values.items c.in_ok-from_vec.field-0 c.loop-at-test.false c.in_ok-from_vec.ensures.ok c.loop-at.invariant.done c.loop-at.invariant.none
