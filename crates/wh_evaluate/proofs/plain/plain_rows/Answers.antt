use Rattle.std.proofs.Common.{◌≡◌, ◌∙◌, ◌++◌, ◌∷◌, List, [], ap, sym}
use Rattle.std.specs.Prelude.{cond}
use Rattle.wh_base.specs.declared.tables.RowAt.{RowAt}
use Rattle.wh_base.specs.declared.values.Value.{Value}
use Rattle.wh_evaluate.proofs.Turns.{plain_row, plain_rows, rows-push}
use Rattle.wh_evaluate.proofs.plain.plain_rows.Goals as goal

pub tuples-preserved : goal.tuples-preserved
tuples-preserved g c =
    let query = c.args.query.now in
    let tuple : List RowAt = c.next.new.tuple.items in
    let rest : List (List RowAt) = g.S.TupleSource.left c.next.new.self in
    let left : g.S.TupleSource.left c.tuples.source ≡ tuple ∷ rest = c.in_ok-next.ensures ∙ ap (λ found. cond found (tuple ∷ rest) []) c.if-branch.true in
    let row : c.in_ok-row.row ≡ plain_row query tuple = c.in_ok-row.ensures ∙ ap (plain_row query) c.as_slice.ensures.value in
    ap (λ (rows : List (List Value)). rows ++ plain_rows query rest) (c.in_ok-push.ensures.items ∙ ap (λ (r : List Value). c.tuples.rows.items ++ r ∷ []) row)
    ∙ rows-push query rest tuple c.tuples.rows.items
    ∙ ap (λ ts. c.tuples.rows.items ++ plain_rows query ts) (sym left)
    ∙ c.tuples.invariant
