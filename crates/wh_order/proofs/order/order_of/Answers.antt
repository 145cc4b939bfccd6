use Rattle.std.proofs.Common.{◌≡◌, arith}
use Rattle.std.proofs.lemmas.Grind.{common_steps}
use Rattle.def_journal.specs.Journal.{own_turns}
use Rattle.wh_order.proofs.Journals.{order_whole}
use Rattle.wh_order.proofs.order.order_of.Goals as goal

-- without jobs the sessions' own turns are the whole order
pub returns-clause-whole : goal.returns-clause-whole
returns-clause-whole c = λ none.
    let own : c.push_left.new.journal ≡ own_turns c.args.script.now = grind (arith, common_steps) in
    order_whole c.args.script.now c.push_left.new.journal own none
