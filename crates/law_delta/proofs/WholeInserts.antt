-- A view of which the root had inserts alone, from what it stored and the new rows joined with the other tables: all aggregates, insert-only views too.
use Rattle.std.proofs.Common.{◌≡◌, ◌∙◌, ap, subst, refl, ℕ, Bool, true, false, cond, List, [], ◌∷◌, map, Option, Some, None}
use Rattle.std.specs.Prelude.{filter, ◌==◌, ◌&&◌, is_none}
use Rattle.wh_base.specs.Lists.{has_number, is_empty, sorted_by}
use Rattle.wh_base.specs.Tables.{Table, row_at, table_after}
use Rattle.wh_base.specs.declared.columns.Agg.{Agg}
use Rattle.wh_base.specs.declared.columns.ColRef.{ColRef}
use Rattle.wh_base.specs.declared.queries.Item.{Item}
use Rattle.wh_base.specs.declared.queries.StarQuery.{StarQuery}
use Rattle.wh_base.specs.declared.tables.Change.{Change}
use Rattle.wh_base.specs.declared.tables.RowAt.{RowAt}
use Rattle.wh_base.specs.declared.values.Value.{Value}
use Rattle.wh_base.specs.declared.views.ViewEntry.{ViewEntry}
use Rattle.def_meaning.specs.Accumulated.{acc_of}
use Rattle.def_meaning.specs.Joined.{column_value, part_value, product, tuple_true}
use Rattle.def_meaning.specs.Meaning.{entry_cmp, key_of, stored_over}
use Rattle.wh_base.specs.declared.queries.Item.TheVariants as item
use Rattle.law_delta.specs.Deltas.{AllApply, Balanced, new_rows, new_rows_at, old_rows, old_rows_at}
use Rattle.law_delta.specs.Masked.{Each, ItemUsed, UsesOnly, at_first}
use Rattle.law_delta.specs.Moved.{KeysApart, found_row, inserted_agg, inserted_item, row_inserted, row_says, side_tuples, with_key, with_rows}
use Rattle.law_delta.specs.Restored.{logged_at}
use Rattle.law_delta.proofs.Inserted.{refreshed_by_inserts}
use Rattle.law_delta.proofs.Masking.{acc_agree, first_agree, tuples_masked, with_key_agree}
use Rattle.law_delta.proofs.Restoring.{logged_keeps, part_logged}
use Rattle.law_delta.proofs.Star.{root_balanced, root_rows}
use Rattle.law_delta.proofs.Tuples.{table_balanced}
use Rattle.law_delta.proofs.Whole.{log_rows_are, log_rows_at}

pub no_sides : (q : StarQuery) (root : ℕ) (others : List ℕ) (rows : ℕ → List RowAt) → q.tables ≡ root ∷ others → has_number others root ≡ false → side_tuples q root [] rows ≡ []
no_sides q root others rows tables apart =
    ap (λ ts. filter (tuple_true q) (product (map (with_rows root [] rows) ts))) tables ∙ ap (λ ls. filter (tuple_true q) (product ls)) (root_rows root [] rows others apart)

module _ {T : Type 0} (value : T → ColRef → Value) (used : ColRef → Bool) (g : T → T) (agree : (t : T) (c : ColRef) → used c ≡ true → value (g t) c ≡ value t c) where
  pub inserted_agree : (keys : List ColRef) (k : List Value) (said : Agg → Value) (news : List T) (is : List Item) → Each (ItemUsed used) is
      → map (inserted_item keys k said (acc_of value (map g news))) is ≡ map (inserted_item keys k said (acc_of value news)) is
  inserted_agree keys k said news [] h = refl
  inserted_agree keys k said news (item.Col c ∷ is) h = ap (λ rest. inserted_item keys k said (acc_of value news) (item.Col c) ∷ rest) (inserted_agree keys k said news is h.1)
  inserted_agree keys k said news (item.Agg a ∷ is) h = λ i. inserted_agg (said a) (acc_agree value used g agree a h.0 news i) a ∷ inserted_agree keys k said news is h.1 i

  empty_map : (xs : List T) → is_empty (map g xs) ≡ is_empty xs
  empty_map [] = refl
  empty_map (x ∷ xs) = refl

  row_inserted_agree : (q : StarQuery) → Each (λ c. used c ≡ true) q.keys → Each (ItemUsed used) q.items → (before : List ViewEntry) (news : List T) (k : List Value)
      → row_inserted value q before (map g news) k ≡ row_inserted value q before news k
  row_inserted_agree q keys items before news k =
      let new : List T = with_key (key_of value q.keys) k news in
      let old : Option (List Value) = found_row k before in
      (λ i. let n = with_key_agree value used g agree q.keys keys k news i in cond (is_none old && is_empty n) None (Some (map (inserted_item q.keys k (row_says q.items old) (acc_of value n)) q.items)))
      ∙ (λ i. cond (is_none old && empty_map new i) None (Some (inserted_agree q.keys k (row_says q.items old) new q.items items i)))

pub inserts_from_log : (q : StarQuery) (root : ℕ) (others : List ℕ) (t : Table) (changes : List Change) (rows : ℕ → List RowAt) (width : ℕ) (columns : List ℕ)
    → q.tables ≡ root ∷ others → has_number others root ≡ false
    → (used : ColRef → Bool) → UsesOnly used q → ((c : ColRef) → (root == c.table) ≡ true → used c ≡ true → part_logged t width columns c.part ≡ true)
    → q.grouped ≡ true → q.having ≡ [] → is_empty q.keys ≡ false
    → AllApply t.rows changes → old_rows changes ≡ []
    → (es : List ViewEntry) → KeysApart es
    → ((k : List Value) → found_row k es ≡ row_inserted (column_value q.tables) q (stored_over q (with_rows root (map (row_at t) t.rows) rows)) (side_tuples q root (log_rows_at t width columns (new_rows changes)) rows) k)
    → sorted_by entry_cmp es ≡ stored_over q (with_rows root (map (row_at (table_after t changes)) (table_after t changes).rows) rows)
inserts_from_log q root others t changes rows width columns tables apart used uses logs grouped having keyed fit inserts es apart_keys found =
    let now : List RowAt = map (row_at (table_after t changes)) (table_after t changes).rows in
    let before : List RowAt = map (row_at t) t.rows in
    let news : List RowAt = new_rows_at t changes in
    let keeps : (r : RowAt) (c : ColRef) → (root == c.table) ≡ true → used c ≡ true → part_value (logged_at t width columns r) c.part ≡ part_value r c.part = λ r c e u. logged_keeps t width columns r c.part (logs c e u) in
    let moved : Balanced (side_tuples q root now rows) (side_tuples q root (old_rows_at t changes) rows) (side_tuples q root before rows) (side_tuples q root news rows) =
    root_balanced q root others now (old_rows_at t changes) before news rows tables apart (table_balanced t changes fit) in
    let nothing : side_tuples q root (old_rows_at t changes) rows ≡ [] = ap (λ rs. side_tuples q root (map (row_at t) rs) rows) inserts ∙ no_sides q root others rows tables apart in
    let balanced : Balanced (side_tuples q root now rows) [] (side_tuples q root before rows) (side_tuples q root news rows) =
    subst (λ olds. Balanced (side_tuples q root now rows) olds (side_tuples q root before rows) (side_tuples q root news rows)) nothing moved in
    let old : List ViewEntry = stored_over q (with_rows root before rows) in
    refreshed_by_inserts (column_value q.tables) q having keyed grouped (side_tuples q root now rows) (side_tuples q root before rows) (side_tuples q root news rows) balanced es apart_keys
    (λ k. found k
    ∙ (λ i. row_inserted (column_value q.tables) q old (side_tuples q root (log_rows_are t width columns (new_rows changes) i) rows) k)
    ∙ (λ i. row_inserted (column_value q.tables) q old (tuples_masked q root others rows tables apart used uses (logged_at t width columns) keeps news i) k)
    ∙ row_inserted_agree (column_value q.tables) used (at_first (logged_at t width columns)) (first_agree q root others rows tables apart used uses (logged_at t width columns) keeps) q uses.keys uses.items old (side_tuples q root news rows) k)
