-- The row versions that a block makes are the live ones that were born at its SCN, and what each change does to their number.
use Rattle.std.proofs.Common.{◌≡◌, ◌∙◌, sym, ap, refl, subst, arith, ℕ, zero, suc, ◌+◌, ◌<◌, ◌≤◌, Bool, true, false, cond, ◌&&◌, ◌||◌, ◌==◌, List, [], ◌∷◌, ◌++◌, length, Option, None, Some, is_none, is_some, map, slice_get, slice_set, true≢false}
use Rattle.std.proofs.Math.Bool.{or-false}
use Rattle.std.proofs.lemmas.Option.{none-some, same_Some}
use Rattle.std.proofs.lemmas.Bool.{eqb-true}
use Rattle.std.proofs.lemmas.List.{length_push}
use Rattle.std.proofs.lemmas.List.Sums.{sum_by-cons}
use Rattle.std.specs.List.{All, filter, filter_map, list_any}
use Rattle.std.specs.Option.{ForSome}
use Rattle.def_effect.specs.Block.{is_live as row_lives, new_versions, same_place, written_row}
use Rattle.wh_base.proofs.Sorting.{sorted_counts, times}
use Rattle.wh_base.specs.Lists.{distinct_after, option_case, where_true}
use Rattle.wh_base.specs.Tables.{Base, Places, Row, Table, TableChange, live_rows, rowid_cmp}
use Rattle.wh_base.specs.declared.tables.RowAt.{RowAt}
use Rattle.wh_base.specs.declared.values.Value.{Value}
use Rattle.wh_check.specs.Fresh.{AreMarked, brings, fresh_at, fresh_come, fresh_gone, fresh_in, fresh_of, is_fresh, takes_fresh, was_written}
use Rattle.wh_check.proofs.FreshSteps.{equal_next, equal_self, stands, step_case, unequal}
use Rattle.wh_dml.specs.Placed.{AreNext, ArePlaced, IsNext, StandsAt, all_made, made, made_of}
use Rattle.wh_dml.specs.declared.changes.PlacedRow.{PlacedRow}
use Rattle.wh_dml.specs.declared.changes.RowChange.{RowChange}
use Rattle.wh_segment.specs.Versions.{born_at, ended, ended_at, is_live, rows_at}
use Rattle.wh_segment.specs.declared.version.Version.{Version}
use Rattle.wh_table.specs.Kept.{with_change}
use Rattle.wh_table.specs.Stored.{IsStored, Stored, base_seen, changed_at, last_scn, plain_row, rowid_at, rows_living, seen}
use Rattle.wh_table.proofs.Counting.{each_from, ended_is, length_ended}
use Rattle.wh_table.proofs.Living.{differ_from, settled as settled_row}
use Rattle.wh_table.proofs.Ordered.{Above, Each, Rises, sort, sorted_rises}

-- ---- the rows of a base state that pass a test

-- so many rows have a table number and a rowid that pass
abbrev pub rows_by : (ℕ → ℕ → Bool) → Base → ℕ
rows_by test [] = 0
rows_by test (t ∷ ts) = times (λ r. test 0 r.rowid) t.rows + rows_by (λ n. test (suc n)) ts

rows_alike : (f g : ℕ → ℕ → Bool) (base : Base) → ((n id : ℕ) → f n id ≡ g n id) → rows_by f base ≡ rows_by g base
rows_alike f g base h = ap (λ t. rows_by t base) (λ i n id. h n id i)

-- each row has a greater rowid than those before it
abbrev pub RowsRise : List Row → Type 0
RowsRise [] = Unit {0}
RowsRise (r ∷ rows) = Each (λ (q : Row). r.rowid < q.rowid) rows × RowsRise rows

times_none : (rows : List Row) → times (λ _. false) rows ≡ 0
times_none [] = refl
times_none (r ∷ rows) = omega (arith, times_none rows)

rows_none : (base : Base) → rows_by (λ _ _. false) base ≡ 0
rows_none [] = refl
rows_none (t ∷ ts) = omega (arith, times_none t.rows, rows_none ts)

abbrev weight : Bool → ℕ
weight b = cond b 1 0

abbrev has_rowid : ℕ → List Row → Bool
has_rowid id rows = list_any (λ (r : Row). r.rowid == id) rows

abbrev with_id : (ℕ → Bool) → ℕ → ℕ → Bool
with_id T id i = (i == id) || T i

-- no row has the rowid
above_none : (T : ℕ → Bool) (id : ℕ) (rows : List Row) → Each (λ (q : Row). id < q.rowid) rows → times (λ r. with_id T id r.rowid) rows ≡ times (λ r. T r.rowid) rows
above_none T id [] h = refl
above_none T id (r ∷ rows) h =
    let above : id < r.rowid = h.0 in
    ap (λ b. cond (b || T r.rowid) 1 0 + times (λ q. with_id T id q.rowid) rows) (unequal r.rowid id (λ same. omega (arith, above, same)))
    ∙ ap (λ n. cond (T r.rowid) 1 0 + n) (above_none T id rows h.1)

above_has : (id : ℕ) (rows : List Row) → Each (λ (q : Row). id < q.rowid) rows → has_rowid id rows ≡ false
above_has id [] h = refl
above_has id (r ∷ rows) h =
    let above : id < r.rowid = h.0 in
    ap (λ b. b || has_rowid id rows) (unequal r.rowid id (λ same. omega (arith, above, same))) ∙ above_has id rows h.1

-- a rowid that didn't pass is one row more, where a row has it
one_more : (T : ℕ → Bool) (id : ℕ) (rows : List Row) → RowsRise rows → T id ≡ false → times (λ r. with_id T id r.rowid) rows ≡ times (λ r. T r.rowid) rows + cond (has_rowid id rows) 1 0
one_more T id [] h lacks = refl
one_more T id (r ∷ rows) h lacks = by (r.rowid == id) refl (one_more T id rows h.1 lacks)
  where
    by : (b : Bool) → (r.rowid == id) ≡ b → times (λ q. with_id T id q.rowid) rows ≡ times (λ q. T q.rowid) rows + cond (has_rowid id rows) 1 0
        → cond (b || T r.rowid) 1 0 + times (λ q. with_id T id q.rowid) rows ≡ (cond (T r.rowid) 1 0 + times (λ q. T q.rowid) rows) + cond (b || has_rowid id rows) 1 0
    by true e rest =
        let same : r.rowid ≡ id = eqb-true r.rowid id e in
        let above : Each (λ (q : Row). id < q.rowid) rows = subst (λ n. Each (λ (q : Row). n < q.rowid) rows) same h.0 in
        let not_yet : T r.rowid ≡ false = ap T same ∙ lacks in
        let others = above_none T id rows above in
        let one : weight (T r.rowid) ≡ 0 = ap weight not_yet in
        omega (arith, others, one)
    by false e rest = omega (arith, rest)

-- ---- in all tables

abbrev EachRise : Base → Type 0
EachRise base = Each (λ (t : Table). RowsRise t.rows) base

-- the test passes this row, or another one did
abbrev with_row : (ℕ → ℕ → Bool) → ℕ → ℕ → ℕ → ℕ → Bool
with_row T k id n i = ((n == k) && (i == id)) || T n i

next_row : (T : ℕ → ℕ → Bool) (k id n i : ℕ) → with_row T (suc k) id (suc n) i ≡ with_row (λ m. T (suc m)) k id n i
next_row T k id n i = ap (λ b. (b && (i == id)) || T (suc n) i) (equal_next n k)

not_first : (T : ℕ → ℕ → Bool) (id n i : ℕ) → with_row T 0 id (suc n) i ≡ T (suc n) i
not_first T id n i = ap (λ b. (b && (i == id)) || T (suc n) i) (unequal (suc n) 0 (λ h. omega (arith, h)))

row_more : (T : ℕ → ℕ → Bool) (k id : ℕ) (base : Base) → EachRise base → T k id ≡ false → rows_by (with_row T k id) base ≡ rows_by T base + cond (row_lives base (k, id)) 1 0
row_more T k id [] h lacks = refl
row_more T zero id (t ∷ ts) h lacks =
    let here : times (λ r. with_row T 0 id 0 r.rowid) t.rows ≡ times (λ r. T 0 r.rowid) t.rows + weight (row_lives (t ∷ ts) (0, id)) = one_more (T 0) id t.rows h.0 lacks in
    let rest : rows_by (λ n. with_row T 0 id (suc n)) ts ≡ rows_by (λ n. T (suc n)) ts = rows_alike (λ n. with_row T 0 id (suc n)) (λ n. T (suc n)) ts (not_first T id) in
    omega (arith, here, rest)
row_more T (suc k) id (t ∷ ts) h lacks =
    let rest : rows_by (λ n. with_row T (suc k) id (suc n)) ts ≡ rows_by (λ n. T (suc n)) ts + weight (row_lives ts (k, id)) =
    rows_alike (λ n. with_row T (suc k) id (suc n)) (with_row (λ m. T (suc m)) k id) ts (next_row T k id) ∙ row_more (λ m. T (suc m)) k id ts h.1 lacks in
    let here : times (λ r. with_row T (suc k) id 0 r.rowid) t.rows ≡ times (λ r. T 0 r.rowid) t.rows =
    ap (λ b. times (λ (r : Row). (b && (r.rowid == id)) || T 0 r.rowid) t.rows) (unequal 0 (suc k) (λ h. omega (arith, h))) in
    omega (arith, here, rest)

-- ---- each row counted once

abbrev in_rows : List (ℕ × ℕ) → ℕ → ℕ → Bool
in_rows qs n id = list_any (same_place (n, id)) qs

swapped : (p q r : Bool) → ((p || q) || r) ≡ (q || (p || r))
swapped true true r = refl
swapped true false r = refl
swapped false true r = refl
swapped false false r = refl

-- a row that was seen adds nothing to the test
had_adds : (had qs : List (ℕ × ℕ)) (k id n i : ℕ) → in_rows had k id ≡ true → ((((n == k) && (i == id)) || in_rows qs n i) || in_rows had n i) ≡ (in_rows qs n i || in_rows had n i)
had_adds had qs k id n i h = by (n == k) (i == id) refl refl
  where
    or_true : (a : Bool) → (a || true) ≡ true
    or_true true = refl
    or_true false = refl

    by : (a b : Bool) → (n == k) ≡ a → (i == id) ≡ b → (((a && b) || in_rows qs n i) || in_rows had n i) ≡ (in_rows qs n i || in_rows had n i)
    by false b e f = refl
    by true false e f = refl
    by true true e f =
        let there : in_rows had n i ≡ true = ap (λ m. in_rows had m i) (eqb-true n k e) ∙ ap (in_rows had k) (eqb-true i id f) ∙ h in
        sym (ap (λ b. in_rows qs n i || b) there ∙ or_true (in_rows qs n i))

pub distinct_counts : (base : Base) (had qs : List (ℕ × ℕ)) → EachRise base
    → length (filter (row_lives base) (distinct_after same_place had qs)) + rows_by (in_rows had) base ≡ rows_by (λ n i. in_rows qs n i || in_rows had n i) base
distinct_counts base had [] h = omega arith
distinct_counts base had (q ∷ qs) h = by (in_rows had q.0 q.1) refl (distinct_counts base had qs h) (distinct_counts base (q ∷ had) qs h)
  where
    step : (b : Bool) (rest : List (ℕ × ℕ)) (m n : ℕ) → length (filter (row_lives base) rest) + (m + cond b 1 0) ≡ n → length (cond b (q ∷ filter (row_lives base) rest) (filter (row_lives base) rest)) + m ≡ n
    step true rest m n e = omega (arith, e)
    step false rest m n e = omega (arith, e)

    by : (b : Bool) → in_rows had q.0 q.1 ≡ b
        → length (filter (row_lives base) (distinct_after same_place had qs)) + rows_by (in_rows had) base ≡ rows_by (λ n i. in_rows qs n i || in_rows had n i) base
        → length (filter (row_lives base) (distinct_after same_place (q ∷ had) qs)) + rows_by (in_rows (q ∷ had)) base ≡ rows_by (λ n i. in_rows qs n i || in_rows (q ∷ had) n i) base
        → length (filter (row_lives base) (cond b (distinct_after same_place had qs) (q ∷ distinct_after same_place (q ∷ had) qs))) + rows_by (in_rows had) base
        ≡ rows_by (λ n i. in_rows (q ∷ qs) n i || in_rows had n i) base
    by true e same other =
        same
        ∙ sym (rows_alike (λ n i. in_rows (q ∷ qs) n i || in_rows had n i) (λ n i. in_rows qs n i || in_rows had n i) base (λ n i. had_adds had qs q.0 q.1 n i e))
    by false e same rest =
        let more : rows_by (in_rows (q ∷ had)) base ≡ rows_by (in_rows had) base + cond (row_lives base q) 1 0 = row_more (in_rows had) q.0 q.1 base h e in
        step (row_lives base q) (distinct_after same_place (q ∷ had) qs) (rows_by (in_rows had) base) (rows_by (λ n i. in_rows (q ∷ qs) n i || in_rows had n i) base)
        (ap (λ m. length (filter (row_lives base) (distinct_after same_place (q ∷ had) qs)) + m) (sym more) ∙ rest
        ∙ sym (rows_alike (λ n i. in_rows (q ∷ qs) n i || in_rows had n i) (λ n i. in_rows qs n i || in_rows (q ∷ had) n i) base
        (λ n i. swapped ((n == q.0) && (i == q.1)) (in_rows qs n i) (in_rows had n i))))

pub written_counts : (base : Base) (changes : List TableChange) → EachRise base → new_versions base changes ≡ rows_by (was_written changes) base
written_counts base changes h =
    let all = distinct_counts base [] (filter_map written_row changes) h in
    let none = rows_none base in
    let same : rows_by (λ n i. was_written changes n i || false) base ≡ rows_by (was_written changes) base =
    rows_alike (λ n i. was_written changes n i || false) (was_written changes) base (λ n i. or-false (was_written changes n i)) in
    omega (arith, all, none, same)

-- ---- the live versions of a table

times_map : {A B : Type 0} (p : B → Bool) (f : A → B) (xs : List A) → times p (map f xs) ≡ times (λ x. p (f x)) xs
times_map p f [] = refl
times_map p f (x ∷ xs) = ap (λ n. weight (p (f x)) + n) (times_map p f xs)

-- one version more in front
row_counts : (died : Option ℕ) (v : Version) (rows : Places) (fs : List Version) (values : Option (List Value)) (T : ℕ → Bool) (b : Bool) → times (λ (r : RowAt). T r.rowid) (live_rows rows) ≡ length fs
    → ((is_none died && is_some values) ≡ true → b ≡ T v.rowid)
    → times (λ (r : RowAt). T r.rowid) (live_rows (option_case values None (λ ws. where_true (is_none died && is_some values) (record { rowid = v.rowid; mark = v.part; values = ws })) ∷ rows))
    ≡ length (cond ((is_none died && is_some values) && b) (v ∷ fs) fs)
row_counts None v rows fs None T b rest h = rest
row_counts None v rows fs (Some ws) T b rest h = by (T v.rowid) b (h refl)
  where
    by : (t b : Bool) → b ≡ t → weight t + times (λ (r : RowAt). T r.rowid) (live_rows rows) ≡ length (cond b (v ∷ fs) fs)
    by true true e = omega (arith, rest)
    by true false e = absurd (true≢false (sym e))
    by false true e = absurd (true≢false e)
    by false false e = omega (arith, rest)
row_counts (Some d) v rows fs None T b rest h = rest
row_counts (Some d) v rows fs (Some ws) T b rest h = rest

versions_count : (scn : ℕ) (vs : List Version) (T : ℕ → Bool) → last_scn vs ≤ scn → ((place : ℕ) (v : Version) → slice_get vs place ≡ Some v → is_live v ≡ true → (v.born == scn) ≡ T v.rowid)
    → times (λ (r : RowAt). T r.rowid) (live_rows (rows_at scn vs)) ≡ length (filter (is_fresh scn) vs)
versions_count scn [] T h marks = refl
versions_count scn (v ∷ vs) T h marks =
    ap (λ b. times (λ (r : RowAt). T r.rowid) (live_rows (option_case v.values None (λ ws. where_true b (record { rowid = v.rowid; mark = v.part; values = ws })) ∷ rows_at scn vs))) (settled_row scn v (omega (arith, h)))
    ∙ row_counts v.died v (rows_at scn vs) (filter (is_fresh scn) vs) v.values T (v.born == scn) (versions_count scn vs T (omega (arith, h)) (λ place w e live. marks (suc place) w e live)) (λ live. marks 0 v refl live)

-- the rows that pass are the live versions of the SCN
table_counts : (scn : ℕ) (s : Stored) (T : ℕ → Bool) → last_scn s.versions ≤ scn → ((place : ℕ) (v : Version) → slice_get s.versions place ≡ Some v → is_live v ≡ true → (v.born == scn) ≡ T v.rowid)
    → times (λ (r : Row). T r.rowid) (seen scn s).rows ≡ fresh_in scn s
table_counts scn s T h marks =
    times_map (λ (r : Row). T r.rowid) plain_row (sort [] (rows_living scn s))
    ∙ sorted_counts rowid_cmp (rows_living scn s) (λ (r : RowAt). T r.rowid)
    ∙ versions_count scn s.versions T h marks

rows_rise : (rows : List RowAt) → Rises rows → RowsRise (map plain_row rows)
rows_rise [] h = tt
rows_rise (r ∷ rows) h = (each_plain r rows h.0, rows_rise rows h.1)
  where
    each_plain : (r : RowAt) (rows : List RowAt) → Each (Above r) rows → Each (λ (q : Row). r.rowid < q.rowid) (map plain_row rows)
    each_plain r [] h = tt
    each_plain r (q ∷ rows) h = (h.0, each_plain r rows h.1)

base_rises : (scn : ℕ) (tables : List Stored) → Each IsStored tables → EachRise (base_seen scn tables)
base_rises scn [] h = tt
base_rises scn (s ∷ tables) h = (rows_rise (sort [] (rows_living scn s)) (sorted_rises (rows_living scn s) (differ_from (rows_living scn s) (h.0.differ scn))), base_rises scn tables h.1)

base_counts : (scn : ℕ) (tables : List Stored) (T : ℕ → ℕ → Bool) → Each (λ (s : Stored). last_scn s.versions ≤ scn) tables
    → ((n place : ℕ) (s : Stored) (v : Version) → slice_get tables n ≡ Some s → slice_get s.versions place ≡ Some v → is_live v ≡ true → (v.born == scn) ≡ T n v.rowid) → rows_by T (base_seen scn tables) ≡ fresh_of scn tables
base_counts scn [] T h marks = refl
base_counts scn (s ∷ tables) T h marks =
    let here = table_counts scn s (T 0) h.0 (λ place v e live. marks 0 place s v refl e live) in
    let rest = base_counts scn tables (λ n. T (suc n)) h.1 (λ n place t v f e live. marks (suc n) place t v f e live) in
    let all = sum_by-cons (fresh_in scn) s tables in
    omega (arith, here, rest, all)

pub counted : (scn : ℕ) (tables : List Stored) (changes : List TableChange) → All IsStored tables → All (λ s. last_scn s.versions ≤ scn) tables → AreMarked scn tables changes
    → new_versions (base_seen scn tables) changes ≡ fresh_of scn tables
counted scn tables changes stored settled marks =
    written_counts (base_seen scn tables) changes (base_rises scn tables (each_from IsStored tables stored))
    ∙ base_counts scn tables (was_written changes) (each_from (λ (s : Stored). last_scn s.versions ≤ scn) tables settled) marks.marked

-- ---- before the block

table_none : (scn : ℕ) (vs : List Version) → last_scn vs ≤ scn → length (filter (is_fresh (scn + 1)) vs) ≡ 0
table_none scn [] h = refl
table_none scn (v ∷ vs) h =
    let here : v.born ≤ changed_at v = omega arith in
    let older : (v.born == (scn + 1)) ≡ false = unequal v.born (scn + 1) (λ same. omega (arith, h, here, same)) in
    by (is_live v) (v.born == (scn + 1)) older (table_none scn vs (omega (arith, h)))
  where
    by : (a b : Bool) → b ≡ false → length (filter (is_fresh (scn + 1)) vs) ≡ 0 → length (cond (a && b) (v ∷ filter (is_fresh (scn + 1)) vs) (filter (is_fresh (scn + 1)) vs)) ≡ 0
    by true true e rest = absurd (true≢false e)
    by true false e rest = rest
    by false b e rest = rest

tables_none : (scn : ℕ) (tables : List Stored) → Each (λ (s : Stored). last_scn s.versions ≤ scn) tables → fresh_of (scn + 1) tables ≡ 0
tables_none scn [] h = refl
tables_none scn (s ∷ tables) h =
    let here = table_none scn s.versions h.0 in
    let rest = tables_none scn tables h.1 in
    let all = sum_by-cons (fresh_in (scn + 1)) s tables in
    omega (arith, here, rest, all)

pub fresh_none : (scn : ℕ) (tables : List Stored) → All (λ s. last_scn s.versions ≤ scn) tables → fresh_of (scn + 1) tables ≡ 0
fresh_none scn tables h = tables_none scn tables (each_from (λ (s : Stored). last_scn s.versions ≤ scn) tables h)

-- ---- after changes of a table

filter_push : (p : Version → Bool) (vs : List Version) (v : Version) → p v ≡ true → length (filter p (vs ++ v ∷ [])) ≡ length (filter p vs) + 1
filter_push p [] v h = ap (λ b. length (cond b (v ∷ []) [])) h
filter_push p (w ∷ vs) v h = by (p w) (filter_push p vs v h)
  where
    by : (b : Bool) → length (filter p (vs ++ v ∷ [])) ≡ length (filter p vs) + 1
        → length (cond b (w ∷ filter p (vs ++ v ∷ [])) (filter p (vs ++ v ∷ []))) ≡ length (cond b (w ∷ filter p vs) (filter p vs)) + 1
    by true rest = omega (arith, rest)
    by false rest = rest

filter_set : (p : Version → Bool) (vs : List Version) (place : ℕ) (v x : Version) → slice_get vs place ≡ Some v → p x ≡ false → length (filter p (slice_set vs place x)) + weight (p v) ≡ length (filter p vs)
filter_set p [] place v x e h = absurd (none-some v e)
filter_set p (w ∷ vs) zero v x e h =
    let same : p w ≡ p v = ap p (same_Some w v e) in
    ap (λ b. length (cond b (x ∷ filter p vs) (filter p vs)) + weight (p v)) h ∙ by (p v) (p w) same
  where
    by : (a b : Bool) → b ≡ a → length (filter p vs) + weight a ≡ length (cond b (w ∷ filter p vs) (filter p vs))
    by true true e = omega arith
    by true false e = absurd (true≢false (sym e))
    by false true e = absurd (true≢false e)
    by false false e = omega arith
filter_set p (w ∷ vs) (suc place) v x e h = by (p w) (filter_set p vs place v x e h)
  where
    by : (b : Bool) → length (filter p (slice_set vs place x)) + weight (p v) ≡ length (filter p vs)
        → length (cond b (w ∷ filter p (slice_set vs place x)) (filter p (slice_set vs place x))) + weight (p v) ≡ length (cond b (w ∷ filter p vs) (filter p vs))
    by true rest = omega (arith, rest)
    by false rest = rest

ended_old : (scn : ℕ) (s : Stored) (place : ℕ) (w : Version) → slice_get s.versions place ≡ Some w → length (filter (is_fresh scn) (ended_at place scn s.versions)) + weight (fresh_at scn s place) ≡ fresh_in scn s
ended_old scn s place w e =
    ap (λ vs. length (filter (is_fresh scn) vs) + weight (fresh_at scn s place)) (ended_is s.versions place scn w e)
    ∙ ap (λ o. length (filter (is_fresh scn) (slice_set s.versions place (ended scn w))) + weight (option_case o false (is_fresh scn))) e
    ∙ filter_set (is_fresh scn) s.versions place w (ended scn w) e refl

born_fresh : (scn rowid : ℕ) (values : List Value) → is_fresh scn (born_at scn rowid 0 values) ≡ true
born_fresh scn rowid values = equal_self scn

-- one change of a table
made_counts : (scn rowid : ℕ) (old new : Option PlacedRow) (s : Stored) → ForSome old (StandsAt s rowid)
    → fresh_in scn (made_of scn old new s) + weight (option_case old false (λ q. fresh_at scn s q.place)) ≡ fresh_in scn s + weight (is_some new)
made_counts scn rowid None None s there = refl
made_counts scn rowid None (Some r) s there =
    let more = filter_push (is_fresh scn) s.versions (born_at scn (s.given + 1) 0 r.values) (born_fresh scn (s.given + 1) r.values) in
    omega (arith, more)
made_counts scn rowid (Some q) None s there =
    let w = stands s rowid q (there q refl) in
    let less = ended_old scn s q.place w.0 w.1.0 in
    omega (arith, less)
made_counts scn rowid (Some q) (Some r) s there =
    let w = stands s rowid q (there q refl) in
    let less = ended_old scn s q.place w.0 w.1.0 in
    let more = filter_push (is_fresh scn) (ended_at q.place scn s.versions) (born_at scn (rowid_at s q.place) 0 r.values) (born_fresh scn (rowid_at s q.place) r.values) in
    omega (arith, less, more)

-- the live versions that stand at the places of the first table are those that it has
abbrev Keeps : Stored → Stored → Type 0
Keeps first s = (i : ℕ) (v : Version) → i < length first.versions → slice_get s.versions i ≡ Some v → is_live v ≡ true → slice_get first.versions i ≡ Some v

-- the old row of the change has a place in the first table
abbrev IsApart : Stored → RowChange → Type 0
IsApart first c = ForSome c.old (λ q. q.place < length first.versions)

keeps_longer : (scn rowid : ℕ) (old new : Option PlacedRow) (s : Stored) → ForSome old (StandsAt s rowid) → length s.versions ≤ length (made_of scn old new s).versions
keeps_longer scn rowid None None s there = omega arith
keeps_longer scn rowid None (Some r) s there = (let longer = length_push s.versions (born_at scn (s.given + 1) 0 r.values) in omega (arith, longer))
keeps_longer scn rowid (Some q) None s there =
    let w = stands s rowid q (there q refl) in
    let same = length_ended s.versions q.place scn w.0 w.1.0 in
    omega (arith, same)
keeps_longer scn rowid (Some q) (Some r) s there =
    let w = stands s rowid q (there q refl) in
    let same = length_ended s.versions q.place scn w.0 w.1.0 in
    let longer = length_push (ended_at q.place scn s.versions) (born_at scn (rowid_at s q.place) 0 r.values) in
    omega (arith, same, longer)

keeps_made : (scn : ℕ) (c : RowChange) (first s : Stored) → IsNext s c → length first.versions ≤ length s.versions → Keeps first s → Keeps first (made scn c s)
keeps_made scn c first s h longer keeps i v less e live =
    step_case scn c.rowid c.old c.new s i v (slice_get first.versions i ≡ Some v) h.old h.next e live
    (λ at born id some. absurd (omega (arith, less, longer, at)))
    (λ f apart. keeps i v less f live)

-- the change takes away what it took away from the first table
taken_same : (scn rowid : ℕ) (old : Option PlacedRow) (first s : Stored) → ForSome old (StandsAt s rowid) → ForSome old (λ q. q.place < length first.versions) → Keeps first s
    → option_case old false (λ q. fresh_at scn s q.place) ≡ option_case old false (λ q. fresh_at scn first q.place)
taken_same scn rowid None first s there apart keeps = refl
taken_same scn rowid (Some q) first s there apart keeps =
    let w = stands s rowid q (there q refl) in
    ap (λ o. option_case o false (is_fresh scn)) (w.1.0 ∙ sym (keeps q.place w.0 (apart q refl) w.1.0 w.1.1.0))

all_counts : (scn : ℕ) (cs : List RowChange) (first s : Stored) → length first.versions ≤ length s.versions → Keeps first s → AreNext scn s cs → Each (IsApart first) cs
    → fresh_in scn (all_made scn cs s) + fresh_gone scn first cs ≡ fresh_in scn s + fresh_come cs
all_counts scn [] first s longer keeps h apart = refl
all_counts scn (c ∷ cs) first s longer keeps h apart =
    let here = made_counts scn c.rowid c.old c.new s h.0.old in
    let same : weight (option_case c.old false (λ q. fresh_at scn s q.place)) ≡ weight (takes_fresh scn first c) = ap weight (taken_same scn c.rowid c.old first s h.0.old apart.0 keeps) in
    let more = keeps_longer scn c.rowid c.old c.new s h.0.old in
    let rest = all_counts scn cs first (made scn c s) (omega (arith, longer, more)) (keeps_made scn c first s h.0 longer keeps) h.1 apart.1 in
    let gone = sum_by-cons (λ d. weight (takes_fresh scn first d)) c cs in
    let come = sum_by-cons (λ d. weight (brings d)) c cs in
    omega (arith, here, same, rest, gone, come)

pub fresh_table : (scn : ℕ) (s : Stored) (cs : List RowChange) → ArePlaced scn s cs → fresh_in scn (all_made scn cs s) + fresh_gone scn s cs ≡ fresh_in scn s + fresh_come cs
fresh_table scn s cs placed = all_counts scn cs s s (omega arith) (λ i v less e live. e) placed.next (each_from (IsApart s) cs placed.apart)

change_counts : (scn n : ℕ) (change : Stored → Stored) (tables : List Stored) (s : Stored) → slice_get tables n ≡ Some s → fresh_of scn (with_change n change tables) + fresh_in scn s ≡ fresh_of scn tables + fresh_in scn (change s)
change_counts scn n change [] s e = absurd (none-some s e)
change_counts scn zero change (t ∷ tables) s e =
    let here : fresh_in scn t ≡ fresh_in scn s = ap (fresh_in scn) (same_Some t s e) in
    let there : fresh_in scn (change t) ≡ fresh_in scn (change s) = ap (λ u. fresh_in scn (change u)) (same_Some t s e) in
    let before = sum_by-cons (fresh_in scn) t tables in
    let after = sum_by-cons (fresh_in scn) (change t) tables in
    omega (arith, here, there, before, after)
change_counts scn (suc n) change (t ∷ tables) s e =
    let rest = change_counts scn n change tables s e in
    let before = sum_by-cons (fresh_in scn) t tables in
    let after = sum_by-cons (fresh_in scn) t (with_change n change tables) in
    omega (arith, rest, before, after)

pub fresh_more : (scn : ℕ) (tables : List Stored) (n : ℕ) (s : Stored) (cs : List RowChange) → slice_get tables n ≡ Some s → ArePlaced scn s cs
    → fresh_of scn (with_change n (all_made scn cs) tables) + fresh_gone scn s cs ≡ fresh_of scn tables + fresh_come cs
fresh_more scn tables n s cs there placed =
    let one = fresh_table scn s cs placed in
    let all = change_counts scn n (all_made scn cs) tables s there in
    omega (arith, one, all)

-- ---- the number that a block keeps

-- what goes is no more than what was there and what comes
pub fresh_enough : (scn : ℕ) (tables : List Stored) (n : ℕ) (s : Stored) (cs : List RowChange) (fresh : ℕ) → slice_get tables n ≡ Some s → ArePlaced scn s cs → fresh ≡ fresh_of scn tables
    → fresh_gone scn s cs ≤ fresh + fresh_come cs
fresh_enough scn tables n s cs fresh there placed is = let more = fresh_more scn tables n s cs there placed in omega (arith, more, is)

-- the number after a statement is that of the tables after it
pub fresh_then : (scn : ℕ) (tables : List Stored) (n : ℕ) (s : Stored) (cs : List RowChange) (fresh after : ℕ) → slice_get tables n ≡ Some s → ArePlaced scn s cs → fresh ≡ fresh_of scn tables
    → after + fresh_gone scn s cs ≡ fresh + fresh_come cs → after ≡ fresh_of scn (with_change n (all_made scn cs) tables)
fresh_then scn tables n s cs fresh after there placed is moved = let more = fresh_more scn tables n s cs there placed in omega (arith, more, is, moved)
