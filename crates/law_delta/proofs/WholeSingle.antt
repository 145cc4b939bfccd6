-- Without group columns: the one entry after the changes of the root, by the root's log.
use Rattle.std.proofs.Common.{◌≡◌, ◌∙◌, sym, ap, subst, refl, ℕ, Bool, true, false, cond, List, [], ◌∷◌, map, Some, inl, inr, ◌⊎◌, true≢false}
use Rattle.std.specs.Prelude.{◌==◌}
use Rattle.wh_base.specs.Lists.{has_number, sorted_by}
use Rattle.wh_base.specs.Tables.{Table, row_at, table_after}
use Rattle.wh_base.specs.declared.columns.Agg.{Agg}
use Rattle.wh_base.specs.declared.columns.Agg.TheVariants.{CountAll}
use Rattle.wh_base.specs.declared.columns.ColRef.{ColRef}
use Rattle.wh_base.specs.declared.queries.StarQuery.{StarQuery}
use Rattle.wh_base.specs.declared.tables.Change.{Change}
use Rattle.wh_base.specs.declared.tables.RowAt.{RowAt}
use Rattle.wh_base.specs.declared.values.Value.{Value}
use Rattle.wh_base.specs.declared.views.ViewEntry.{ViewEntry}
use Rattle.def_meaning.specs.Accumulated.{acc_of}
use Rattle.def_meaning.specs.Joined.{column_value, part_value}
use Rattle.def_meaning.specs.Meaning.{agg_value, entries, entry_cmp, group_item, stored_over}
use Rattle.law_delta.specs.Deltas.{AllApply, Balanced, new_rows, new_rows_at, old_rows, old_rows_at}
use Rattle.law_delta.specs.Masked.{UsesOnly, at_first}
use Rattle.law_delta.specs.Moved.{IsAdded, counting, inserted_item, inserted_single, moved_item, moved_single, row_says, selects, side_tuples, value_in_row, with_rows, found_row}
use Rattle.law_delta.specs.Restored.{logged_at}
use Rattle.law_delta.proofs.Inserted.{items_inserted}
use Rattle.law_delta.proofs.Masking.{first_agree, items_agree, tuples_masked}
use Rattle.law_delta.proofs.Moving.{items_moved}
use Rattle.law_delta.proofs.Refreshed.{all_known, says_value}
use Rattle.law_delta.proofs.Restoring.{logged_keeps, part_logged}
use Rattle.law_delta.proofs.Single.{entries_single}
use Rattle.law_delta.proofs.Star.{root_balanced}
use Rattle.law_delta.proofs.Tuples.{table_balanced}
use Rattle.law_delta.proofs.Whole.{log_rows_are, log_rows_at}
use Rattle.law_delta.proofs.WholeInserts.{inserted_agree, no_sides}

-- of each aggregate that is selected its count is too, or COUNT(*) says it; none is MIN or MAX
abbrev pub CountedAll : {T : Type 0} → (T → ColRef → Value) → StarQuery → List T → Type 0
CountedAll value q before = (a : Agg) → selects q.items a ≡ true → IsAdded a × ((selects q.items (counting a) ≡ true) ⊎ (agg_value value before (counting a) ≡ agg_value value before CountAll))

module _ {T : Type 0} (value : T → ColRef → Value) (q : StarQuery) (having : q.having ≡ []) (single : q.keys ≡ []) (grouped : q.grouped ≡ true) where
  abbrev row_of_all : List T → List Value
  row_of_all ts = map (group_item value q.keys ([], ts)) q.items

  abbrev said_of : List T → Agg → Value
  said_of before = row_says q.items (Some (row_of_all before))

  says : (before : List T) (a : Agg) → selects q.items a ≡ true → said_of before a ≡ agg_value value before a
  says before a e = ap (λ b. cond b (value_in_row q.items (row_of_all before) a) (value_in_row q.items (row_of_all before) CountAll)) e ∙ says_value value q.keys [] before q.items a e

  pub single_moved : selects q.items CountAll ≡ true → (now olds before news : List T) → CountedAll value q before → Balanced now olds before news
      → moved_single value q (sorted_by entry_cmp (entries value q before)) olds news ≡ sorted_by entry_cmp (entries value q now)
  single_moved rows now olds before news counted h =
      let is : row_of_all now ≡ map (moved_item q.keys [] (said_of before) (acc_of value news) (acc_of value olds)) q.items =
      items_moved value now olds before news h (said_of before) (says before CountAll rows) q.keys [] q.items
      (all_known value before (said_of before) q.items (λ a e. ((counted a e).0, count a (counted a e).1 (selects q.items (counting a)) refl, says before a e)) q.items (λ a x. x)) in
      (λ i. moved_single value q (sorted_by entry_cmp (entries_single value q having single grouped before i)) olds news)
      ∙ (λ i. record { key = []; row = sym is i } ∷ [])
      ∙ (λ i. sorted_by entry_cmp (sym (entries_single value q having single grouped now) i))
    where
      count : (a : Agg) → (selects q.items (counting a) ≡ true) ⊎ (agg_value value before (counting a) ≡ agg_value value before CountAll) → (b : Bool) → selects q.items (counting a) ≡ b
          → said_of before (counting a) ≡ agg_value value before (counting a)
      count a given true e = says before (counting a) e
      count a (inl x) false e = absurd (true≢false (sym x ∙ e))
      count a (inr full) false e =
          ap (λ b. cond b (value_in_row q.items (row_of_all before) (counting a)) (value_in_row q.items (row_of_all before) CountAll)) e
          ∙ says_value value q.keys [] before q.items CountAll rows ∙ sym full

  pub single_inserted : (now before news : List T) → Balanced now [] before news → inserted_single value q (sorted_by entry_cmp (entries value q before)) news ≡ sorted_by entry_cmp (entries value q now)
  single_inserted now before news h =
      let is : row_of_all now ≡ map (inserted_item q.keys [] (said_of before) (acc_of value news)) q.items = items_inserted value q [] now before news h (said_of before) q.items (says before) q.items (λ a x. x) in
      (λ i. inserted_single value q (sorted_by entry_cmp (entries_single value q having single grouped before i)) news)
      ∙ (λ i. record { key = []; row = sym is i } ∷ [])
      ∙ (λ i. sorted_by entry_cmp (sym (entries_single value q having single grouped now) i))

module _ (q : StarQuery) (root : ℕ) (others : List ℕ) (t : Table) (changes : List Change) (rows : ℕ → List RowAt) (width : ℕ) (columns : List ℕ)
    (tables : q.tables ≡ root ∷ others) (apart : has_number others root ≡ false)
    (used : ColRef → Bool) (uses : UsesOnly used q) (logs : (c : ColRef) → (root == c.table) ≡ true → used c ≡ true → part_logged t width columns c.part ≡ true)
    (grouped : q.grouped ≡ true) (having : q.having ≡ []) (single : q.keys ≡ []) (fit : AllApply t.rows changes) where
  abbrev now_rows : List RowAt
  now_rows = map (row_at (table_after t changes)) (table_after t changes).rows

  abbrev then_rows : List RowAt
  then_rows = map (row_at t) t.rows

  keeps : (r : RowAt) (c : ColRef) → (root == c.table) ≡ true → used c ≡ true → part_value (logged_at t width columns r) c.part ≡ part_value r c.part
  keeps r c e u = logged_keeps t width columns r c.part (logs c e u)

  moved : Balanced (side_tuples q root now_rows rows) (side_tuples q root (old_rows_at t changes) rows) (side_tuples q root then_rows rows) (side_tuples q root (new_rows_at t changes) rows)
  moved = root_balanced q root others now_rows (old_rows_at t changes) then_rows (new_rows_at t changes) rows tables apart (table_balanced t changes fit)

  pub single_from_log : selects q.items CountAll ≡ true → CountedAll (column_value q.tables) q (side_tuples q root then_rows rows)
      → moved_single (column_value q.tables) q (stored_over q (with_rows root then_rows rows)) (side_tuples q root (log_rows_at t width columns (old_rows changes)) rows) (side_tuples q root (log_rows_at t width columns (new_rows changes)) rows)
      ≡ stored_over q (with_rows root now_rows rows)
  single_from_log count counted =
      let value : List RowAt → ColRef → Value = column_value q.tables in
      let old : List ViewEntry = stored_over q (with_rows root then_rows rows) in
      let said : Agg → Value = row_says q.items (found_row [] old) in
      let mask : RowAt → RowAt = logged_at t width columns in
      (λ i. moved_single value q old (side_tuples q root (log_rows_are t width columns (old_rows changes) i) rows) (side_tuples q root (log_rows_are t width columns (new_rows changes) i) rows))
      ∙ (λ i. moved_single value q old (tuples_masked q root others rows tables apart used uses mask keeps (old_rows_at t changes) i) (tuples_masked q root others rows tables apart used uses mask keeps (new_rows_at t changes) i))
      ∙ (λ i. record { key = []; row = items_agree value used (at_first mask) (first_agree q root others rows tables apart used uses mask keeps) q.keys [] said (side_tuples q root (new_rows_at t changes) rows) (side_tuples q root (old_rows_at t changes) rows) q.items uses.items i } ∷ [])
      ∙ single_moved value q having single grouped count (side_tuples q root now_rows rows) (side_tuples q root (old_rows_at t changes) rows) (side_tuples q root then_rows rows) (side_tuples q root (new_rows_at t changes) rows) counted moved

  pub single_inserts : old_rows changes ≡ []
      → inserted_single (column_value q.tables) q (stored_over q (with_rows root then_rows rows)) (side_tuples q root (log_rows_at t width columns (new_rows changes)) rows)
      ≡ stored_over q (with_rows root now_rows rows)
  single_inserts inserts =
      let value : List RowAt → ColRef → Value = column_value q.tables in
      let old : List ViewEntry = stored_over q (with_rows root then_rows rows) in
      let said : Agg → Value = row_says q.items (found_row [] old) in
      let mask : RowAt → RowAt = logged_at t width columns in
      let news : List (List RowAt) = side_tuples q root (new_rows_at t changes) rows in
      let nothing : side_tuples q root (old_rows_at t changes) rows ≡ [] = ap (λ rs. side_tuples q root (map (row_at t) rs) rows) inserts ∙ no_sides q root others rows tables apart in
      let balanced : Balanced (side_tuples q root now_rows rows) [] (side_tuples q root then_rows rows) news =
      subst (λ olds. Balanced (side_tuples q root now_rows rows) olds (side_tuples q root then_rows rows) news) nothing moved in
      (λ i. inserted_single value q old (side_tuples q root (log_rows_are t width columns (new_rows changes) i) rows))
      ∙ (λ i. inserted_single value q old (tuples_masked q root others rows tables apart used uses mask keeps (new_rows_at t changes) i))
      ∙ (λ i. record { key = []; row = inserted_agree value used (at_first mask) (first_agree q root others rows tables apart used uses mask keeps) q.keys [] said news q.items uses.items i } ∷ [])
      ∙ single_inserted value q having single grouped (side_tuples q root now_rows rows) (side_tuples q root then_rows rows) news balanced
