use Rattle.std.proofs.Common.{◌∙◌, ap, length}
use Rattle.wh_keys.specs.Indexes.{Indexes}
use Rattle.wh_keys.proofs.Each.{before_at, item_is}
use Rattle.wh_keys.proofs.Tables.{indexes_there, keys_answer}
use Rattle.wh_keys.proofs.keys.change_keys_of.Goals as goal

pub change_keys-requires : goal.change_keys-requires
change_keys-requires c =
    let there = item_is c.args.tables.now.items c.args.table c.index_mut.result.now c.requires.there c.index_mut.ensures.value in
    c.requires.as_many ∙ ap (λ (i : Indexes). length i.keys) (indexes_there c.args.tables.now.items c.args.table c.index_mut.result.now there)

pub returns-in_err-clash-clause-same : goal.returns-in_err-clash-clause-same
returns-in_err-clash-clause-same c =
    let there = item_is c.args.tables.now.items c.args.table c.index_mut.result.now c.requires.there c.index_mut.ensures.value in
    before_at c.args.tables.now.items c.args.table c.index_mut.result.now c.change_keys.new.self there c.change_keys.ensures.same

pub returns-clause-same : goal.returns-clause-same
returns-clause-same c =
    let there = item_is c.args.tables.now.items c.args.table c.index_mut.result.now c.requires.there c.index_mut.ensures.value in
    before_at c.args.tables.now.items c.args.table c.index_mut.result.now c.change_keys.new.self there c.change_keys.ensures.same

pub returns-clause-made : goal.returns-clause-made
returns-clause-made c =
    let there = item_is c.args.tables.now.items c.args.table c.index_mut.result.now c.requires.there c.index_mut.ensures.value in
    keys_answer c.args.columns.now c.args.changes.now c.args.tables.now.items c.args.table c.index_mut.result.now c.change_keys.new.self c.in_ok-clash.clash there c.change_keys.ensures.others c.in_ok-clash.ensures.made
