-- A view of which one table changed: what it stores after the changes, from what it stored before and the changes' sides joined with the other tables.
use Rattle.std.proofs.Common.{◌≡◌, ◌∙◌, sym, ap, refl, ℕ, Bool, true, false, cond, List, [], ◌∷◌, map}
use Rattle.std.specs.Prelude.{◌+ℤ◌, filter, ◌==◌, ◌||◌}
use Rattle.std.proofs.lemmas.Bool.Decides.{Decides-eqb}
use Rattle.wh_base.specs.Lists.{has_number, is_empty, sorted_by}
use Rattle.wh_base.specs.Tables.{Table, row_at, table_after}
use Rattle.wh_base.specs.declared.columns.Agg.TheVariants.{CountAll}
use Rattle.wh_base.specs.declared.queries.StarQuery.{StarQuery}
use Rattle.wh_base.specs.declared.tables.Change.{Change}
use Rattle.wh_base.specs.declared.tables.RowAt.{RowAt}
use Rattle.wh_base.specs.declared.values.Value.{Value}
use Rattle.wh_base.specs.declared.views.ViewEntry.{ViewEntry}
use Rattle.def_meaning.specs.Joined.{column_value, product, tuple_true}
use Rattle.def_meaning.specs.Meaning.{entry_cmp, stored_over}
use Rattle.law_delta.specs.Deltas.{AllApply, Balanced, front_by, weight, new_rows_at, old_rows_at}
use Rattle.law_delta.specs.Moved.{Counted, KeysApart, found_row, row_after, selects, side_tuples, with_rows}
use Rattle.law_delta.proofs.Tuples.{Balanced-filter, Balanced-flat_map, table_balanced}
use Rattle.law_delta.proofs.Refreshed.{refreshed}

-- a table that isn't among these
others_same : (n : ℕ) (sides : List RowAt) (rows : ℕ → List RowAt) (ns : List ℕ) → has_number ns n ≡ false → map (with_rows n sides rows) ns ≡ map rows ns
others_same n sides rows [] h = refl
others_same n sides rows (m ∷ ns) h = by (m == n) h (others_same n sides rows ns)
  where
    by : (b : Bool) → (b || has_number ns n) ≡ false → (has_number ns n ≡ false → map (with_rows n sides rows) ns ≡ map rows ns) → (cond b sides (rows m) ∷ map (with_rows n sides rows) ns) ≡ rows m ∷ map rows ns
    by true x more = cc
    by false x more = ap (λ rest. rows m ∷ rest) (more x)

pub here : (n : ℕ) (sides : List RowAt) (rows : ℕ → List RowAt) → with_rows n sides rows n ≡ sides
here n sides rows = let e : (n == n) ≡ true = (Decides-eqb n n).1 refl in ap (λ b. cond b sides (rows n)) e

-- the tables in tree order, with the rows of the first written out
pub root_rows : (n : ℕ) (sides : List RowAt) (rows : ℕ → List RowAt) (ns : List ℕ) → has_number ns n ≡ false → map (with_rows n sides rows) (n ∷ ns) ≡ sides ∷ map rows ns
root_rows n sides rows ns h = λ i. here n sides rows i ∷ others_same n sides rows ns h i

-- the tuples balance where the rows of the root do
pub root_balanced : (q : StarQuery) (root : ℕ) (others : List ℕ) (now olds before news : List RowAt) (rows : ℕ → List RowAt) → q.tables ≡ root ∷ others → has_number others root ≡ false → Balanced now olds before news
    → Balanced (side_tuples q root now rows) (side_tuples q root olds rows) (side_tuples q root before rows) (side_tuples q root news rows)
root_balanced q root others now olds before news rows tables apart h =
    let is : (sides : List RowAt) → side_tuples q root sides rows ≡ filter (tuple_true q) (front_by sides (product (map rows others))) = λ sides.
    ap (λ ts. filter (tuple_true q) (product (map (with_rows root sides rows) ts))) tables
    ∙ ap (λ ls. filter (tuple_true q) (product ls)) (root_rows root sides rows others apart) in
    let each : Balanced (front_by now (product (map rows others))) (front_by olds (product (map rows others))) (front_by before (product (map rows others))) (front_by news (product (map rows others))) =
    Balanced-flat_map (λ x. map (λ rest. x ∷ rest) (product (map rows others))) now olds before news h in
    let all : Balanced (filter (tuple_true q) (front_by now (product (map rows others)))) (filter (tuple_true q) (front_by olds (product (map rows others)))) (filter (tuple_true q) (front_by before (product (map rows others)))) (filter (tuple_true q) (front_by news (product (map rows others)))) =
    Balanced-filter (tuple_true q) (front_by now (product (map rows others))) (front_by olds (product (map rows others))) (front_by before (product (map rows others))) (front_by news (product (map rows others))) each in
    λ f. (λ i. weight f (is now i) +ℤ weight f (is olds i)) ∙ all f ∙ sym (λ i. weight f (is before i) +ℤ weight f (is news i))

-- The fast refresh of an aggregate view without MIN and MAX, with a count of each aggregate, of which only the root changed:
-- t is the root before, and `rows` gives the rows of the other tables. With no other tables it is the view of one table.
pub fast_refresh : (q : StarQuery) (root : ℕ) (others : List ℕ) (t : Table) (changes : List Change) (rows : ℕ → List RowAt)
    → q.tables ≡ root ∷ others → has_number others root ≡ false
    → q.grouped ≡ true → q.having ≡ [] → is_empty q.keys ≡ false
    → selects q.items CountAll ≡ true → Counted (column_value q.tables) q (side_tuples q root (map (row_at t) t.rows) rows)
    → AllApply t.rows changes
    → (es : List ViewEntry) → KeysApart es
    → ((k : List Value) → found_row k es ≡ row_after (column_value q.tables) q (stored_over q (with_rows root (map (row_at t) t.rows) rows)) (side_tuples q root (old_rows_at t changes) rows) (side_tuples q root (new_rows_at t changes) rows) k)
    → sorted_by entry_cmp es ≡ stored_over q (with_rows root (map (row_at (table_after t changes)) (table_after t changes).rows) rows)
fast_refresh q root others t changes rows tables apart grouped having keyed count counted fit es apart_keys found =
    refreshed (column_value q.tables) q having keyed count grouped
    (side_tuples q root (map (row_at (table_after t changes)) (table_after t changes).rows) rows)
    (side_tuples q root (old_rows_at t changes) rows)
    (side_tuples q root (map (row_at t) t.rows) rows)
    (side_tuples q root (new_rows_at t changes) rows)
    (root_balanced q root others (map (row_at (table_after t changes)) (table_after t changes).rows) (old_rows_at t changes) (map (row_at t) t.rows) (new_rows_at t changes) rows tables apart (table_balanced t changes fit))
    counted es apart_keys found
