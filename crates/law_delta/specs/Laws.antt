-- What a delta gives, on lists alone: whatever has a key and a row before, the sides of the changes as tuples, and what it is after them.
use Rattle.std.specs.Prelude.{Bool, List, Some, [], false, filter, fold, not, slice_get, true, ℕ, ◌++◌, ◌+ℤ◌, ◌≡◌, ℤ}
use Rattle.wh_base.specs.Columns.{has_column}
use Rattle.wh_base.specs.Lists.{is_empty, sorted_by}
use Rattle.wh_base.specs.Tables.{Row, rows_after, value_at}
use Rattle.wh_base.specs.declared.columns.Agg.TheVariants.{CountAll}
use Rattle.wh_base.specs.declared.columns.ColRef.{ColRef}
use Rattle.wh_base.specs.declared.queries.Item.TheVariants as item
use Rattle.wh_base.specs.declared.queries.StarQuery.{StarQuery}
use Rattle.wh_base.specs.declared.tables.Change.{Change}
use Rattle.wh_base.specs.declared.tables.RowAt.{RowAt}
use Rattle.wh_base.specs.declared.values.Value.{Value}
use Rattle.wh_base.specs.declared.views.ViewEntry.{ViewEntry}
use Rattle.def_meaning.specs.Joined.{column_value, joined_over}
use Rattle.def_meaning.specs.Meaning.{entries, entry_cmp, stored_over}
use Rattle.law_delta.specs.Deltas.{AllApply, Balanced, joined_mixed, new_rows, old_rows, weight}
use Rattle.law_delta.specs.Moved.{Counted, KeysApart, delta_entries, found_row, row_after, row_inserted, selects}

pub record DeltaLaws : Type 0 where
  -- changes that apply one after another: the rows after them with the old sides weigh as the rows before with the new sides
  pub balance : (f : Row → ℤ) (rows : List Row) (changes : List Change) → AllApply rows changes
      → weight f (fold rows_after rows changes) +ℤ weight f (old_rows changes) ≡ weight f rows +ℤ weight f (new_rows changes)
  -- the entries of groups after changes are those that have the rows of the delta at each key
  pub moved : (value : List RowAt → ColRef → Value) (q : StarQuery) → q.having ≡ [] → is_empty q.keys ≡ false → selects q.items CountAll ≡ true → q.grouped ≡ true
      → (now olds before news : List (List RowAt)) → Balanced now olds before news → Counted value q before → (es : List ViewEntry) → KeysApart es
      → ((k : List Value) → found_row k es ≡ row_after value q (sorted_by entry_cmp (entries value q before)) olds news k) → sorted_by entry_cmp es ≡ sorted_by entry_cmp (entries value q now)
  -- such entries are there: those that the delta makes
  pub made : (value : List RowAt → ColRef → Value) (q : StarQuery) → q.having ≡ [] → is_empty q.keys ≡ false → selects q.items CountAll ≡ true → q.grouped ≡ true
      → (now olds before news : List (List RowAt)) → Balanced now olds before news → Counted value q before
      → sorted_by entry_cmp (delta_entries value q (sorted_by entry_cmp (entries value q before)) olds news) ≡ sorted_by entry_cmp (entries value q now)
  -- after inserts alone, whatever is selected
  pub inserted : (value : List RowAt → ColRef → Value) (q : StarQuery) → q.having ≡ [] → is_empty q.keys ≡ false → q.grouped ≡ true
      → (now before news : List (List RowAt)) → Balanced now [] before news → (es : List ViewEntry) → KeysApart es
      → ((k : List Value) → found_row k es ≡ row_inserted value q (sorted_by entry_cmp (entries value q before)) news k) → sorted_by entry_cmp es ≡ sorted_by entry_cmp (entries value q now)
  -- a star of which any tables changed: each changed tuple counts once
  pub star : (q : StarQuery) (now olds before news : ℕ → List RowAt) → ((n : ℕ) → Balanced (now n) (olds n) (before n) (news n))
      → q.grouped ≡ true → q.having ≡ [] → is_empty q.keys ≡ false → selects q.items CountAll ≡ true → Counted (column_value q.tables) q (joined_over q before)
      → (es : List ViewEntry) → KeysApart es
      → ((k : List Value) → found_row k es ≡ row_after (column_value q.tables) q (stored_over q before) (joined_mixed q now olds before) (joined_mixed q now news before) k)
      → sorted_by entry_cmp es ≡ stored_over q now
  -- parts of a view: the entries whose value of a selected column passes a test are those of the tuples whose value does
  pub parts : (value : List RowAt → ColRef → Value) (q : StarQuery) (place : ℕ) (col : ColRef) → slice_get q.items place ≡ Some (item.Col col) → (test : Value → Bool)
      → (q.grouped ≡ true → has_column q.keys col ≡ true) → (before now : List (List RowAt))
      → filter (λ t. not (test (value t col))) before ≡ filter (λ t. not (test (value t col))) now
      → sorted_by entry_cmp (filter (λ e. not (test (value_at e.row place))) (sorted_by entry_cmp (entries value q before)) ++ entries value q (filter (λ t. test (value t col)) now))
      ≡ sorted_by entry_cmp (entries value q now)
