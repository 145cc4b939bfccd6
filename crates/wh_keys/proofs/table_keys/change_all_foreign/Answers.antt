use Rattle.std.proofs.Common.{◌≡◌, ◌∙◌, arith, length, sym}
use Rattle.wh_keys.proofs.Each.{foreign_all}
use Rattle.wh_keys.proofs.table_keys.change_all_foreign.Goals as goal

pub returns-clause-made : goal.returns-clause-made
returns-clause-made c =
    let all : c.loop-at.at ≡ length c.args.foreign.now = omega (arith, c.loop-at-test.false, c.loop-at.auto.at-end) in
    sym (foreign_all c.args.foreign.now c.args.changes.now c.loop-at.indexes.items c.loop-at.at all c.loop-at.invariant.as_many) ∙ c.loop-at.invariant.made
