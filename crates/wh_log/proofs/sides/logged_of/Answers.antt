use Rattle.std.proofs.Common.{arith, nat_eq, rules, subst, sym}
use Rattle.std.specs.List.{IsDistinct}
use Rattle.wh_log.proofs.Picked.{pick_step}
use Rattle.wh_log.proofs.sides.logged_of.Goals as goal

pub loop-column-preserved : goal.loop-column-preserved
loop-column-preserved c = record {
  whole =
      pick_step c.args.row c.loop-column.values.items c.as_slice-column-items.result.now c.loop-column.column-index c.loop-column.picked.items c.push_within.new.items.items c.replace-value.result c.replace-value.new.dest
      (subst (IsDistinct nat_eq) (sym c.as_slice-column-items.ensures.items) c.requires.differ) (search rules) (search rules) (search rules) (search rules) (search rules);
  count = omega (arith, c.push_within.ensures.len, c.loop-column.invariant.count);
  room = search rules;
  kept = search rules;
}
