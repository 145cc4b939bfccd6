use Rattle.std.proofs.Common.{arith, length, refl, ◌≡◌, ◌∙◌}
use Rattle.wh_check.proofs.Made.{on_begins, on_done, on_more}
use Rattle.wh_check.proofs.making.make_changes.Goals as goal

pub loop-change-init : goal.loop-change-init
loop-change-init g c = record {
  scn = refl;
  on = on_begins c.args.tables.now.scn c.args.table c.args.changes.items _ c.args.tables.now.tables.items c.into_iter-change-iterator.ensures.into_iter_gives.0 c.requires.there c.requires.placed c.requires.room c.requires.small;
}

pub loop-change-preserved : goal.loop-change-preserved
loop-change-preserved g c = record {
  scn = c.in_ok-make_change.ensures.scn ∙ c.loop-change.invariant.scn;
  on = on_more c.args.tables.now.scn c.loop-change.tables.scn c.args.table c.args.changes.items c.args.tables.now.tables.items c.in-Some.change _ _ c.loop-change.tables.tables.items c.make_change.new.tables.tables.items
      c.loop-change.invariant.on c.in-Some.ensures.steps.0 c.loop-change.invariant.scn c.in_ok-make_change.ensures.made;
}

pub returns-clause-made : goal.returns-clause-made
returns-clause-made g c =
    let rest = c.loop-change.change-iterator.rest in
    let counted = rest.ok in
    let ended = c.in-None.ensures.steps.0 in
    let none : length rest.items ≡ 0 = omega (arith, counted, ended) in
    on_done c.args.tables.now.scn c.args.table c.args.changes.items c.args.tables.now.tables.items rest.items c.loop-change.tables.tables.items c.loop-change.invariant.on none
