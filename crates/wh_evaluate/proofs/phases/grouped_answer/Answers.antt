use Rattle.std.proofs.Common.{◌≡◌, subst, List, IfOk}
use Rattle.wh_base.specs.declared.values.Value.{Value}
use Rattle.wh_evaluate.proofs.Ordered.{grouped-answer}
use Rattle.wh_evaluate.proofs.phases.grouped_answer.Goals as goal

pub returns : goal.returns
returns c =
    let query = c.args.query.now in
    let tuples = c.args.tuples in
    subst (λ (answer : List (List Value)). IfOk c.finish.result (λ rows. rows ≡ answer)) (grouped-answer query tuples c.requires.grouped) (c.finish.ensures tuples c.in_ok-groups.ensures)
