use Rattle.std.proofs.Common.{◌≡◌, ◌∙◌, arith, false, length, rules, sym}
use Rattle.wh_keys.specs.Undoing.{all_now}
use Rattle.wh_keys.proofs.Each.{keys_all, keys_clash}
use Rattle.wh_keys.proofs.table_keys.change_all_keys.Goals as goal

pub returns-then-not-branch-clause-made : goal.returns-then-not-branch-clause-made
returns-then-not-branch-clause-made c =
    let clash : c.in_ok-change_key_at.field-0 ≡ false = search (rules, c.if-not-branch.true) in
    sym c.loop-at.invariant.made
    ∙ keys_clash c.args.columns.now c.args.changes.now c.loop-at.keys.items (all_now c.change_key_at.new.keys.items) c.loop-at.at c.in_ok-change_key_at.field-0 c.loop-at-test.true c.loop-at.invariant.as_many c.in_ok-change_key_at.ensures.made clash

pub returns-clause-made : goal.returns-clause-made
returns-clause-made c =
    let all : c.loop-at.at ≡ length c.args.columns.now = omega (arith, c.loop-at-test.false, c.loop-at.auto.at-end) in
    sym c.loop-at.invariant.made ∙ keys_all c.args.columns.now c.args.changes.now c.loop-at.keys.items c.loop-at.at all c.loop-at.invariant.as_many
