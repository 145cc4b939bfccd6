use Rattle.wh_table.specs.Stored.{updated}
use Rattle.wh_table.proofs.Changing.{set_changed, table_is}
use Rattle.wh_table.proofs.tables.update_in.Goals as goal

pub returns-clause-ok : goal.returns-clause-ok
returns-clause-ok g c =
    let there = table_is c.args.tables.now.items c.args.number c.index_mut.result.now c.requires.table c.index_mut.ensures.value in
    set_changed (updated c.args.scn c.args.place c.args.values) c.args.tables.now.items c.args.number c.index_mut.result.now c.update.new.self there c.in_ok-place.ensures.ok
