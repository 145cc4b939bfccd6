use Rattle.std.proofs.Common.{ap, map, refl, sym, ◌++◌, ◌∙◌}
use Rattle.def_effect.specs.Block.{load_row_refusal}
use Rattle.wh_load.proofs.Lines.{row_kept, row_none, row_refused, rows_end}
use Rattle.wh_load.specs.Capped.{capped_row, row_loaded}
use Rattle.wh_load.proofs.rows.rows_loaded.Goals as goal

pub loop-row-init : goal.loop-row-init
loop-row-init c = record {
  done = ap (λ rows. rows ++ map (capped_row c.args.def.now) c.args.rows.now) c.in_ok-loaded.ensures.items;
  none = refl;
}

pub returns-in-Err : goal.returns-in-Err
returns-in-Err c =
    row_refused (load_row_refusal c.args.def.now) (capped_row c.args.def.now) c.args.rows.now c.loop-row.row-index c.row-item.result c.in-Err.refusal c.loop-row-test.true c.row-item.is
    (sym c.in-Err.is ∙ c.in_ok-values.ensures ∙ ap (row_loaded c.args.def.now) c.as_slice.ensures.items) c.loop-row.invariant.none

pub loop-row-preserved : goal.loop-row-preserved
loop-row-preserved c =
    let kept = sym c.in-Ok.is ∙ c.in_ok-values.ensures ∙ ap (row_loaded c.args.def.now) c.as_slice.ensures.items in
    record {
      done = row_kept (load_row_refusal c.args.def.now) (capped_row c.args.def.now) c.args.rows.now c.loop-row.row-index c.row-item.result c.in-Ok.values c.loop-row.loaded.items c.push.new.self.items c.loop-row-test.true c.row-item.is kept c.in_ok-push-in-Ok.ensures.items c.loop-row.invariant.done;
      none = row_none (load_row_refusal c.args.def.now) (capped_row c.args.def.now) c.args.rows.now c.loop-row.row-index c.row-item.result c.in-Ok.values c.loop-row-test.true c.row-item.is kept c.loop-row.invariant.none;
    }

pub returns : goal.returns
returns c = rows_end (load_row_refusal c.args.def.now) (capped_row c.args.def.now) c.args.rows.now c.loop-row.row-index c.loop-row.loaded.items c.in_ok-from_vec.field-0 c.loop-row-test.false c.in_ok-from_vec.ensures.ok c.loop-row.invariant.done c.loop-row.invariant.none
