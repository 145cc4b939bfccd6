use Rattle.std.proofs.Common.{◌≡◌, ◌∙◌, subst, List, IfOk}
use Rattle.wh_base.specs.Lists.{sorted_by}
use Rattle.wh_base.specs.declared.values.Value.{Value}
use Rattle.def_meaning.specs.Meaning.{row_cmp}
use Rattle.wh_evaluate.proofs.Ordered.{plain-answer}
use Rattle.wh_evaluate.specs.Shown.{answer_of}
use Rattle.wh_evaluate.proofs.phases.plain_answer.Goals as goal

pub returns : goal.returns
returns c =
    let query = c.args.query.now in
    let tuples = c.args.tuples in
    let all : sorted_by (row_cmp c.as_slice.result.now) c.in_ok-plain_rows.field-0.items ≡ answer_of query tuples =
    (λ i. sorted_by (row_cmp (c.as_slice.ensures.items i)) (c.in_ok-plain_rows.ensures i)) ∙ plain-answer query tuples c.requires in
    subst (λ (answer : List (List Value)). IfOk c.sort_rows.result (λ rows. rows ≡ answer)) all c.sort_rows.ensures
