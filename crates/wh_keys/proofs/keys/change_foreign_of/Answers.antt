use Rattle.std.proofs.Common.{◌∙◌, ap, length}
use Rattle.wh_keys.specs.Indexes.{Indexes}
use Rattle.wh_keys.proofs.Each.{before_at, item_is}
use Rattle.wh_keys.proofs.Tables.{foreign_answer, indexes_there}
use Rattle.wh_keys.proofs.keys.change_foreign_of.Goals as goal

pub change_foreign-requires : goal.change_foreign-requires
change_foreign-requires c =
    let there = item_is c.args.tables.now.items c.args.table c.index_mut.result.now c.requires.there c.index_mut.ensures.value in
    c.requires.as_many ∙ ap (λ (i : Indexes). length i.foreign) (indexes_there c.args.tables.now.items c.args.table c.index_mut.result.now there)

pub returns-in_err-change_foreign-clause-same : goal.returns-in_err-change_foreign-clause-same
returns-in_err-change_foreign-clause-same c =
    let there = item_is c.args.tables.now.items c.args.table c.index_mut.result.now c.requires.there c.index_mut.ensures.value in
    before_at c.args.tables.now.items c.args.table c.index_mut.result.now c.change_foreign.new.self there c.change_foreign.ensures.same

pub returns-clause-same : goal.returns-clause-same
returns-clause-same c =
    let there = item_is c.args.tables.now.items c.args.table c.index_mut.result.now c.requires.there c.index_mut.ensures.value in
    before_at c.args.tables.now.items c.args.table c.index_mut.result.now c.change_foreign.new.self there c.change_foreign.ensures.same

pub returns-clause-made : goal.returns-clause-made
returns-clause-made c =
    let there = item_is c.args.tables.now.items c.args.table c.index_mut.result.now c.requires.there c.index_mut.ensures.value in
    foreign_answer c.args.foreign.now c.args.changes.now c.args.tables.now.items c.args.table c.index_mut.result.now c.change_foreign.new.self there c.change_foreign.ensures.others c.in_ok-change_foreign.ensures.made
