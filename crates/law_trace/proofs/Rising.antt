-- Rowids ascend, from 1 at least up to how many were given at most.
use Rattle.std.proofs.Common.{◌≡◌, sym, refl, subst, arith, ℕ, suc, ◌+◌, ◌<◌, ◌≤◌, Bool, true, false, cond, List, [], ◌∷◌, ◌++◌, length, map, not, ◌∙◌, ◌==◌}
use Rattle.std.specs.List.{enumerate_from, filter, fold}
use Rattle.std.specs.Prelude.{count_by}
use Rattle.std.proofs.lemmas.List.{length-map}
use Rattle.std.proofs.lemmas.List.FromFn.{length-enumerate_from}
use Rattle.wh_base.specs.Tables.{Row, Table, is_insert, rows_after, table_after, table_at}
use Rattle.wh_base.specs.declared.statements.Statement.{Statement}
use Rattle.wh_base.specs.declared.tables.Part.{Part}
use Rattle.wh_base.specs.declared.values.Interval.{Interval}
use Rattle.wh_base.specs.declared.tables.Change.{Change}
use Rattle.wh_base.specs.declared.values.Value.{Value}
use Rattle.def_effect.specs.Block.{Asks, Progress, changed_row_refusal, deleted_change}
use Rattle.def_effect.specs.Partitions.{is_row_of, moved_rows, regrouped}
use Rattle.law_trace.proofs.Asking.{shape_of}
pub use Rattle.law_trace.proofs.Makings.{AllFit, Comes, Goes, HasRow, Rises, RowsFit, Sound, Step, Steps, Turns, count_more, each_unit, steps_keep, steps_of, weight}
use Rattle.law_trace.proofs.Basing.{Passes, made_of, none_each}
use Rattle.law_trace.proofs.Listed.{Each, Pairs, each_append, each_filter, each_map, each_weaker, pairs_append, pairs_filter, pairs_map, pairs_push}
use Rattle.law_trace.specs.Rows.{Fits, IsGiven, IsOlder}

-- the row of this rowid with other values
abbrev pub changed_row : ℕ → List Value → Row → Row
changed_row n new r = cond (r.rowid == n) (record { rowid = r.rowid; values = new }) r

pub same_rowid : (n : ℕ) (new : List Value) (r : Row) → (changed_row n new r).rowid ≡ r.rowid
same_rowid n new r = by (r.rowid == n)
  where
    by : (b : Bool) → (cond b (record { rowid = r.rowid; values = new }) r).rowid ≡ r.rowid
    by true = refl
    by false = refl

-- ---- a statement

abbrev Rise : ℕ → List Row → Type 0
Rise m rows = Pairs IsOlder rows × Each (IsGiven m) rows

-- each change keeps that rowids ascend and that rows fit
abbrev SoundRows : Table → ℕ → List Row → Type 0
SoundRows t m rows = Rise m rows × RowsFit t rows

sound_step : (t : Table) (m : ℕ) (rows : List Row) (c : Change) → Step t m rows c → SoundRows t m rows → SoundRows t (m + weight c) (rows_after rows c)
sound_step t m rows c (Comes vs fits none is) h =
    let new : Row = record { rowid = suc m; values = vs } in
    let one : suc m ≡ m + 1 = omega arith in
    let whole : SoundRows t (suc m) (rows ++ new ∷ []) = (
      (
        pairs_push IsOlder rows new h.0.0 (each_weaker (IsGiven m) (λ r. IsOlder r new) (λ r g. omega (arith, g.1)) rows h.0.1),
        each_append (IsGiven (suc m)) rows (new ∷ []) (each_weaker (IsGiven m) (IsGiven (suc m)) (λ r g. (g.0, omega (arith, g.1))) rows h.0.1) ((omega arith, omega arith), tt),
      ),
      each_append (λ r. Fits t r.values) rows (new ∷ []) h.1 (fits, tt),
    ) in
    subst (λ c. SoundRows t (m + weight c) (rows_after rows c)) (sym is) (subst (λ n. SoundRows t n (rows ++ new ∷ [])) one whole)
sound_step t m rows c (Turns r vs has fits is) h =
    let same : (q : Row) → (changed_row r.rowid vs q).rowid ≡ q.rowid = same_rowid r.rowid vs in
    let whole : SoundRows t m (map (changed_row r.rowid vs) rows) = (
      (
        pairs_map IsOlder (changed_row r.rowid vs) (λ p q older. omega (arith, same p, same q, older)) rows h.0.0,
        each_map (IsGiven m) (IsGiven m) (changed_row r.rowid vs) (λ q g. (omega (arith, same q, g.0), omega (arith, same q, g.1))) rows h.0.1,
      ),
      each_map (λ q. Fits t q.values) (λ q. Fits t q.values) (changed_row r.rowid vs) (changed_fits t r.rowid vs fits) rows h.1,
    ) in
    subst (λ c. SoundRows t (m + weight c) (rows_after rows c)) (sym is) (subst (λ n. SoundRows t n (map (changed_row r.rowid vs) rows)) (none_more m) whole)
  where
    none_more : (m : ℕ) → m ≡ m + 0
    none_more m = omega arith

    changed_fits : (t : Table) (n : ℕ) (new : List Value) → Fits t new → (q : Row) → Fits t q.values → Fits t (changed_row n new q).values
    changed_fits t n new fits q h = by (q.rowid == n)
      where
        by : (b : Bool) → Fits t (cond b (record { rowid = q.rowid; values = new }) q).values
        by true = fits
        by false = h
sound_step t m rows c (Goes r has is) h =
    let whole : SoundRows t m (rows_after rows (deleted_change r)) = (
      (pairs_filter IsOlder (λ q. not (q.rowid == r.rowid)) rows h.0.0, each_filter (IsGiven m) (λ q. not (q.rowid == r.rowid)) rows h.0.1),
      each_filter (λ q. Fits t q.values) (λ q. not (q.rowid == r.rowid)) rows h.1,
    ) in
    subst (λ c. SoundRows t (m + weight c) (rows_after rows c)) (sym is) (subst (λ n. SoundRows t n (rows_after rows (deleted_change r))) (none_more m) whole)
  where
    none_more : (m : ℕ) → m ≡ m + 0
    none_more m = omega arith

fits_told : (t : Table) (given : ℕ) (rows : List Row) (vs : List Value) → Fits t vs → Fits (record t { rows = rows; given = given }) vs
fits_told t given rows vs h = record { width = h.width; columns = h.columns; placed = h.placed }

-- the table after the changes of a statement
pub sound_after : (t : Table) (cs : List Change) → Steps t t.given t.rows cs → Sound t → Sound (table_after t cs)
sound_after t cs steps h =
    let end : SoundRows t (t.given + count_by is_insert cs) (fold rows_after t.rows cs) =
    steps_keep t (λ c. Unit {0}) (SoundRows t) (λ m rows c step u k. sound_step t m rows c step k) t.given t.rows cs steps (each_unit cs) h in
    (end.0, each_weaker (λ r. Fits t r.values) (λ r. Fits (table_after t cs) r.values) (λ r. fits_told t (t.given + count_by is_insert cs) (fold rows_after t.rows cs) r.values) (fold rows_after t.rows cs) end.1)

-- the changes that a statement of a block makes
pub steps_made : (kept : ℕ) (p : Progress) (s : Statement) (a : Asks) → Passes kept p s a → Sound (table_at p.base a.table) → Steps (table_at p.base a.table) (table_at p.base a.table).given (table_at p.base a.table).rows (made_of p.base a)
steps_made kept p s a passes h =
    steps_of (table_at p.base a.table) a.changes (shape_of p.base s a passes.asks) h (none_each (changed_row_refusal (table_at p.base a.table)) a.changes passes.rows)

pub fewer_rise : (t : Table) (p : Row → Bool) → Rises t → Pairs IsOlder (filter p t.rows) × Each (IsGiven t.given) (filter p t.rows)
fewer_rise t p h = (pairs_filter IsOlder p t.rows h.0, each_filter (IsGiven t.given) p t.rows h.1)

-- rows with the next rowids
pub numbered_rows : (m : ℕ) (rs : List Row) → List Row
numbered_rows m rs = map (λ p. record { rowid = p.0; values = p.1.values }) (enumerate_from m rs)

pub rise_numbered : (m : ℕ) (rs : List Row) → Pairs IsOlder (map (λ p. record { rowid = p.0; values = p.1.values }) (enumerate_from m rs)) × Each (λ (r : Row). (m ≤ r.rowid) × (r.rowid < m + length rs)) (map (λ p. record { rowid = p.0; values = p.1.values }) (enumerate_from m rs))
rise_numbered m [] = (tt, tt)
rise_numbered m (r ∷ rs) =
    let rest = rise_numbered (m + 1) rs in
    let all : List Row = map (λ (p : ℕ × Row). record { rowid = p.0; values = p.1.values }) (enumerate_from (m + 1) rs) in (
      (each_weaker (λ (q : Row). ((m + 1) ≤ q.rowid) × (q.rowid < (m + 1) + length rs)) (IsOlder (record { rowid = m; values = r.values })) (λ q k. omega (arith, k.0)) all rest.1, rest.0),
      (
        (omega arith, omega arith),
        each_weaker (λ (q : Row). ((m + 1) ≤ q.rowid) × (q.rowid < (m + 1) + length rs)) (λ q. (m ≤ q.rowid) × (q.rowid < m + length (r ∷ rs))) (λ q k. (omega (arith, k.0), omega (arith, k.1))) all rest.1,
      ),
    )

pub moved_many : (t : Table) (ended : List ℕ) → length (moved_rows t ended) ≡ length (filter (is_row_of ended t) t.rows)
moved_many t ended =
    length-map (enumerate_from (suc t.given) (filter (is_row_of ended t) t.rows)) (λ p. record { rowid = p.0; values = p.1.values }) ∙ length-enumerate_from (suc t.given) (filter (is_row_of ended t) t.rows)

pub regrouped_rises : (t : Table) (before after : List (Part × Interval)) → Rises t → Rises (regrouped t before after).table
regrouped_rises t before after h =
    let ended : List ℕ = map (λ p. p.0.number) before in
    let stay : List Row = filter (λ r. not (is_row_of ended t r)) t.rows in
    let moved : List Row = moved_rows t ended in
    let new = rise_numbered (suc t.given) (filter (is_row_of ended t) t.rows) in
    let many : length moved ≡ length (filter (is_row_of ended t) t.rows) = moved_many t ended in
    let given : Each (IsGiven t.given) stay = each_filter (IsGiven t.given) (λ r. not (is_row_of ended t r)) t.rows h.1 in (
      pairs_append IsOlder stay moved (pairs_filter IsOlder (λ r. not (is_row_of ended t r)) t.rows h.0) new.0
          (each_weaker (IsGiven t.given) (λ r. Each (IsOlder r) moved)
          (λ r g. each_weaker (λ (q : Row). (suc t.given ≤ q.rowid) × (q.rowid < suc t.given + length (filter (is_row_of ended t) t.rows))) (IsOlder r) (λ q k. omega (arith, g.1, k.0)) moved new.1) stay given),
      each_append (IsGiven (t.given + length moved)) stay moved
          (each_weaker (IsGiven t.given) (IsGiven (t.given + length moved)) (λ r g. (g.0, omega (arith, g.1))) stay given)
          (each_weaker (λ (q : Row). (suc t.given ≤ q.rowid) × (q.rowid < suc t.given + length (filter (is_row_of ended t) t.rows))) (IsGiven (t.given + length moved)) (λ q k. (omega (arith, k.0), omega (arith, k.1, many))) moved new.1),
    )
