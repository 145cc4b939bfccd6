use Rattle.wh_keys.specs.Indexes.{keys_changed}
use Rattle.wh_keys.proofs.Each.{before_at, item_is, made_at}
use Rattle.wh_keys.proofs.table_keys.change_key_at.Goals as goal

pub returns-in_err-made-clause-same : goal.returns-in_err-made-clause-same
returns-in_err-made-clause-same c =
    let there = item_is c.args.keys.now.items c.args.at c.index_mut.result.now c.requires c.index_mut.ensures.value in
    before_at c.args.keys.now.items c.args.at c.index_mut.result.now c.change.new.self there c.change.ensures.same

pub returns-clause-same : goal.returns-clause-same
returns-clause-same c =
    let there = item_is c.args.keys.now.items c.args.at c.index_mut.result.now c.requires c.index_mut.ensures.value in
    before_at c.args.keys.now.items c.args.at c.index_mut.result.now c.change.new.self there c.change.ensures.same

pub returns-clause-made : goal.returns-clause-made
returns-clause-made c =
    let there = item_is c.args.keys.now.items c.args.at c.index_mut.result.now c.requires c.index_mut.ensures.value in
    made_at (keys_changed c.args.column c.args.changes.now) c.in_ok-made.made c.args.keys.now.items c.args.at c.index_mut.result.now c.change.new.self there c.in_ok-made.ensures.made
