-- What is made of tuples in each of the two kinds of queries.
use Rattle.std.proofs.Common.{◌≡◌, ◌∙◌, sym, ap, true, false, cond, List, [], map}
use Rattle.wh_base.specs.Lists.{sorted_by}
use Rattle.wh_base.specs.declared.queries.StarQuery.{StarQuery}
use Rattle.wh_base.specs.declared.tables.RowAt.{RowAt}
use Rattle.wh_base.specs.declared.views.ViewEntry.{ViewEntry}
use Rattle.def_meaning.specs.Joined.{column_value}
use Rattle.def_meaning.specs.Meaning.{entry_cmp, grouped_entries, in_order, plain_entries, row_cmp}
use Rattle.wh_evaluate.proofs.Turns.{plain_row, plain_rows}
use Rattle.wh_evaluate.specs.Shown.{answer_of, stored_of}
use Rattle.wh_group.proofs.Sorted.{rows_of_sorted}
use Rattle.wh_star.proofs.Products.{map-map}

module _ (q : StarQuery) (ts : List (List RowAt)) where
  pub grouped-stored : q.grouped ≡ true → sorted_by entry_cmp (grouped_entries (column_value q.tables) q ts) ≡ stored_of q ts
  grouped-stored e = sym (ap (λ b. sorted_by entry_cmp (cond b (grouped_entries (column_value q.tables) q ts) (plain_entries (column_value q.tables) q ts))) e)

  pub plain-stored : q.grouped ≡ false → sorted_by entry_cmp (plain_entries (column_value q.tables) q ts) ≡ stored_of q ts
  plain-stored e = sym (ap (λ b. sorted_by entry_cmp (cond b (grouped_entries (column_value q.tables) q ts) (plain_entries (column_value q.tables) q ts))) e)

  pub grouped-answer : q.grouped ≡ true → in_order q.order (map (λ e. e.row) (sorted_by entry_cmp (grouped_entries (column_value q.tables) q ts))) ≡ answer_of q ts
  grouped-answer e = ap (λ (es : List ViewEntry). in_order q.order (map (λ e. e.row) es)) (grouped-stored e)

  -- rows that are sorted at once are those of the sorted entries
  pub plain-answer : q.grouped ≡ false → sorted_by (row_cmp q.order) (plain_rows q ts) ≡ answer_of q ts
  plain-answer e =
      ap (sorted_by (row_cmp q.order)) (sym (map-map (λ (entry : ViewEntry). entry.row) (λ t. record { key = []; row = plain_row q t }) ts))
      ∙ rows_of_sorted q.order (plain_entries (column_value q.tables) q ts)
      ∙ ap (λ (es : List ViewEntry). in_order q.order (map (λ entry. entry.row) es)) (plain-stored e)
