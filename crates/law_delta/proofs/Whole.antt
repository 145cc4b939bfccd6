-- The whole theorems: by a log's columns, over all tables of a star, and that rows keep rising.
use Rattle.std.proofs.Common.{◌≡◌, ◌∙◌, refl, arith, ℕ, ◌≤◌, Bool, true, false, cond, not, List, [], ◌∷◌, map, Option, Some, None}
use Rattle.std.specs.Prelude.{filter, ◌==◌}
use Rattle.wh_base.specs.Lists.{change_where, has_number, is_empty, sorted_by}
use Rattle.wh_base.specs.Tables.{Row, Table, row_at, rows_after, table_after}
use Rattle.wh_base.specs.declared.columns.Agg.TheVariants.{CountAll}
use Rattle.wh_base.specs.declared.columns.ColRef.{ColRef}
use Rattle.wh_base.specs.declared.queries.StarQuery.{StarQuery}
use Rattle.wh_base.specs.declared.tables.Change.{Change}
use Rattle.wh_base.specs.declared.tables.RowAt.{RowAt}
use Rattle.wh_base.specs.declared.values.Value.{Value}
use Rattle.wh_base.specs.declared.views.ViewEntry.{ViewEntry}
use Rattle.def_meaning.specs.Joined.{column_value, joined_over}
use Rattle.def_meaning.specs.Meaning.{entry_cmp, stored_over}
use Rattle.law_delta.specs.Deltas.{AllApply, Balanced, joined_mixed, new_rows, new_rows_at, old_rows, old_rows_at}
use Rattle.law_delta.specs.Masked.{UsesOnly}
use Rattle.law_delta.specs.Moved.{Counted, KeysApart, found_row, row_after, selects, side_tuples, with_rows}
use Rattle.law_delta.specs.Restored.{logged_at, logged_row}
use Rattle.law_delta.proofs.Applying.{Rising}
use Rattle.law_delta.proofs.Masking.{row_from_log}
use Rattle.law_delta.proofs.Refreshed.{refreshed}
use Rattle.law_delta.proofs.Restoring.{logged_keeps, logged_row_at, part_logged}
use Rattle.law_delta.proofs.Star.{fast_refresh}
use Rattle.law_delta.proofs.Tuples.{joined_balanced}

-- the sides of changes as they are read back from a log
abbrev pub log_rows_at : Table → ℕ → List ℕ → List Row → List RowAt
log_rows_at t width columns sides = map (row_at t) (map (logged_row width columns) sides)

pub log_rows_are : (t : Table) (width : ℕ) (columns : List ℕ) (sides : List Row) → log_rows_at t width columns sides ≡ map (logged_at t width columns) (map (row_at t) sides)
log_rows_are t width columns [] = refl
log_rows_are t width columns (r ∷ rs) = λ i. logged_row_at t width columns r i ∷ log_rows_are t width columns rs i

-- The fast refresh of an aggregate view of which only the root changed, by the root's log. The view's rows are determined by
-- what it stored, the log's rows and the rows of the other tables; the root's rows are not read.
pub refresh_from_log : (q : StarQuery) (root : ℕ) (others : List ℕ) (t : Table) (changes : List Change) (rows : ℕ → List RowAt) (width : ℕ) (columns : List ℕ)
    → q.tables ≡ root ∷ others → has_number others root ≡ false
    → (used : ColRef → Bool) → UsesOnly used q → ((c : ColRef) → (root == c.table) ≡ true → used c ≡ true → part_logged t width columns c.part ≡ true)
    → q.grouped ≡ true → q.having ≡ [] → is_empty q.keys ≡ false
    → selects q.items CountAll ≡ true → Counted (column_value q.tables) q (side_tuples q root (map (row_at t) t.rows) rows)
    → AllApply t.rows changes
    → (es : List ViewEntry) → KeysApart es
    → ((k : List Value) → found_row k es ≡ row_after (column_value q.tables) q (stored_over q (with_rows root (map (row_at t) t.rows) rows)) (side_tuples q root (log_rows_at t width columns (old_rows changes)) rows) (side_tuples q root (log_rows_at t width columns (new_rows changes)) rows) k)
    → sorted_by entry_cmp es ≡ stored_over q (with_rows root (map (row_at (table_after t changes)) (table_after t changes).rows) rows)
refresh_from_log q root others t changes rows width columns tables apart used uses logs grouped having keyed count counted fit es apart_keys found =
    let before : List ViewEntry = stored_over q (with_rows root (map (row_at t) t.rows) rows) in
    fast_refresh q root others t changes rows tables apart grouped having keyed count counted fit es apart_keys
    (λ k. found k
    ∙ (λ i. row_after (column_value q.tables) q before (side_tuples q root (log_rows_are t width columns (old_rows changes) i) rows) (side_tuples q root (log_rows_are t width columns (new_rows changes) i) rows) k)
    ∙ row_from_log q root others rows tables apart used uses (logged_at t width columns) (λ r c e u. logged_keeps t width columns r c.part (logs c e u)) before (old_rows_at t changes) (new_rows_at t changes) k)

-- The same where any of the tables changed: each tuple with a changed row is counted once, with the rows of now up to the table that it is
-- counted at, and the rows before from there on.
pub star_refresh : (q : StarQuery) (now olds before news : ℕ → List RowAt) → ((n : ℕ) → Balanced (now n) (olds n) (before n) (news n))
    → q.grouped ≡ true → q.having ≡ [] → is_empty q.keys ≡ false
    → selects q.items CountAll ≡ true → Counted (column_value q.tables) q (joined_over q before)
    → (es : List ViewEntry) → KeysApart es
    → ((k : List Value) → found_row k es ≡ row_after (column_value q.tables) q (stored_over q before) (joined_mixed q now olds before) (joined_mixed q now news before) k)
    → sorted_by entry_cmp es ≡ stored_over q now
star_refresh q now olds before news each grouped having keyed count counted es apart found =
    refreshed (column_value q.tables) q having keyed count grouped (joined_over q now) (joined_mixed q now olds before) (joined_over q before) (joined_mixed q now news before)
    (joined_balanced q now olds before news each) counted es apart found

-- ---- rows keep rising, so that the next statement's changes apply

rising_lower : (low mid : ℕ) (rows : List Row) (high : ℕ) → low ≤ mid → Rising mid rows high → Rising low rows high
rising_lower low mid [] high h up = omega (arith, up)
rising_lower low mid (r ∷ rs) high h up = (omega (arith, up.0), up.1)

rising_filter : (p : Row → Bool) (low : ℕ) (rows : List Row) (high : ℕ) → Rising low rows high → Rising low (filter p rows) high
rising_filter p low [] high up = up
rising_filter p low (r ∷ rs) high up = by (p r) (rising_filter p r.rowid rs high up.1)
  where
    by : (b : Bool) → Rising r.rowid (filter p rs) high → Rising low (cond b (r ∷ filter p rs) (filter p rs)) high
    by true rest = (up.0, rest)
    by false rest = rising_lower low r.rowid (filter p rs) high (omega (arith, up.0)) rest

rising_change : (n : ℕ) (vs : List Value) (low : ℕ) (rows : List Row) (high : ℕ) → Rising low rows high → Rising low (change_where (λ r. r.rowid == n) (λ r. record { rowid = r.rowid; values = vs }) rows) high
rising_change n vs low [] high up = up
rising_change n vs low (r ∷ rs) high up = by (r.rowid == n) (rising_change n vs r.rowid rs high up.1)
  where
    by : (b : Bool) → Rising r.rowid (change_where (λ r. r.rowid == n) (λ r. record { rowid = r.rowid; values = vs }) rs) high → Rising low (cond b (record { rowid = r.rowid; values = vs }) r ∷ change_where (λ r. r.rowid == n) (λ r. record { rowid = r.rowid; values = vs }) rs) high
    by true rest = (up.0, rest)
    by false rest = (up.0, rest)

-- a delete or an update
pub rising_after : (rows : List Row) (high : ℕ) (i : ℕ) (old : List Value) (new : Option (List Value)) → Rising 0 rows high → Rising 0 (rows_after rows (record { rowid = i; old = Some old; new = new })) high
rising_after rows high i old None up = rising_filter (λ r. not (r.rowid == i)) 0 rows high up
rising_after rows high i old (Some new) up = rising_change i new 0 rows high up
