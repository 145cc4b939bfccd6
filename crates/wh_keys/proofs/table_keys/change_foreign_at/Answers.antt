use Rattle.wh_keys.specs.Indexes.{values_changed}
use Rattle.wh_keys.proofs.Each.{before_at, changed_to, item_is}
use Rattle.wh_keys.proofs.table_keys.change_foreign_at.Goals as goal

pub returns-in_err-change-clause-same : goal.returns-in_err-change-clause-same
returns-in_err-change-clause-same c =
    let there = item_is c.args.indexes.now.items c.args.at c.index_mut.result.now c.requires c.index_mut.ensures.value in
    before_at c.args.indexes.now.items c.args.at c.index_mut.result.now c.change.new.self there c.change.ensures.same

pub returns-clause-same : goal.returns-clause-same
returns-clause-same c =
    let there = item_is c.args.indexes.now.items c.args.at c.index_mut.result.now c.requires c.index_mut.ensures.value in
    before_at c.args.indexes.now.items c.args.at c.index_mut.result.now c.change.new.self there c.change.ensures.same

pub returns-clause-made : goal.returns-clause-made
returns-clause-made c =
    let there = item_is c.args.indexes.now.items c.args.at c.index_mut.result.now c.requires c.index_mut.ensures.value in
    changed_to (values_changed c.args.column c.args.changes.now) c.args.indexes.now.items c.args.at c.index_mut.result.now c.change.new.self there c.in_ok-change.ensures.ok
