use Rattle.std.proofs.Common.{◌≡◌, ◌∙◌, ◌++◌, ◌∷◌, List, [], ap, sym}
use Rattle.std.specs.Prelude.{cond}
use Rattle.wh_base.specs.declared.tables.RowAt.{RowAt}
use Rattle.wh_base.specs.declared.views.ViewEntry.{ViewEntry}
use Rattle.def_meaning.specs.Joined.{column_value}
use Rattle.def_meaning.specs.Meaning.{plain_entries}
use Rattle.wh_evaluate.proofs.Turns.{entries-push, plain_entry}
use Rattle.wh_evaluate.proofs.plain.plain_entries.Goals as goal

pub tuples-preserved : goal.tuples-preserved
tuples-preserved g c =
    let query = c.args.query.now in
    let tuple : List RowAt = c.next.new.tuple.items in
    let rest : List (List RowAt) = g.S.TupleSource.left c.next.new.self in
    let left : g.S.TupleSource.left c.tuples.source ≡ tuple ∷ rest = c.in_ok-next.ensures ∙ ap (λ found. cond found (tuple ∷ rest) []) c.if-branch.true in
    let entry : c.in_ok-entry.entry ≡ plain_entry query tuple = c.in_ok-entry.ensures ∙ ap (plain_entry query) c.as_slice.ensures.value in
    ap (λ (entries : List ViewEntry). entries ++ plain_entries (column_value query.tables) query rest) (c.in_ok-push.ensures.items ∙ ap (λ (e : ViewEntry). c.tuples.entries.items ++ e ∷ []) entry)
    ∙ entries-push query rest tuple c.tuples.entries.items
    ∙ ap (λ ts. c.tuples.entries.items ++ plain_entries (column_value query.tables) query ts) (sym left)
    ∙ c.tuples.invariant
