-- The rows of a table at an SCN after each change, and so what the table is then.
use Rattle.std.proofs.Common.{◌≡◌, ◌∙◌, sym, ap, refl, subst, arith, ℕ, zero, suc, ◌+◌, ◌<◌, ◌≤◌, max, Bool, true, false, cond, not, ◌||◌, ◌==◌, List, [], ◌∷◌, ◌++◌, map, length, Option, None, Some, IfSome, IsSomeAnd, IsTrue, slice_get, slice_set, nat_le}
use Rattle.std.proofs.lemmas.Bool.{le-leb, leb-true, lt-leb, eqb-true}
use Rattle.std.proofs.lemmas.List.{map-append}
use Rattle.std.specs.List.{All, filter}
use Rattle.wh_base.specs.Lists.{change_where, option_case, where_true}
use Rattle.wh_base.specs.Tables.{Places, Row, Table, live_rows, mark_of, part_of_key, row_at, row_key, rows_shown, table_after, with_table}
use Rattle.wh_base.specs.declared.tables.RowAt.{RowAt}
use Rattle.wh_base.specs.declared.tables.TableDef.{TableDef}
use Rattle.wh_base.specs.declared.values.Value.{Value}
use Rattle.def_meaning.specs.Joined as meaning
use Rattle.wh_segment.proofs.Lawful.{lawful}
use Rattle.wh_segment.specs.Versions.{born_at, ended_at, is_live, row_at as version_row, rows_at}
use Rattle.wh_segment.specs.declared.version.Version.{Version}
use Rattle.wh_table.specs.Kept.{LivesIn, with_change}
use Rattle.wh_table.specs.Laws.{Laws}
use Rattle.wh_table.specs.Stored.{IsNamed, IsStored, Stored, base_seen, changed_at, deleted, deletion, given_at, inserted, insertion, last_scn, places_at, plain_row, rowid_at, rows_living, seen, update, updated}
use Rattle.wh_table.proofs.Counting.{each_from, each_get, given_append, given_ended}
use Rattle.wh_table.proofs.Living.{differ_from, each_version, has_place, live_append, live_append_none, live_less, live_row, live_without, settled as settled_row, settled_count}
use Rattle.wh_table.proofs.Ordered.{Differ, Each, each_sort, each_weaker, has, has_sort, keeps, put_last, put_replaced, replaced, sort, sort_append, sorted_filter, sorted_rises}

-- ---- names

-- a row of a table with so many rowids given
pub record IsRowOf (given : ℕ) (r : RowAt) : Type 0 where
  pub last : r.rowid ≤ given
  pub unmarked : r.mark ≡ 0

pub rows_named : (s : Stored) (at : ℕ) → IsStored s → Each (IsRowOf s.given) (rows_living at s)
rows_named s at h =
    each_version (IsRowOf s.given) at s.versions
    (each_weaker (IsNamed s.given) (λ v. (values : List Value) → IsRowOf s.given (record { rowid = v.rowid; mark = v.part; values = values }))
    (λ v n values. record { last = n.last; unmarked = n.unmarked }) s.versions (each_from (IsNamed s.given) s.versions h.named))

pub rowid_is : (s : Stored) (place : ℕ) (v : Version) → slice_get s.versions place ≡ Some v → rowid_at s place ≡ v.rowid
rowid_is s place v e = ap (λ o. option_case o 0 (λ u. u.rowid)) e

pub name_at : (s : Stored) (place : ℕ) (v : Version) → IsStored s → slice_get s.versions place ≡ Some v → IsNamed s.given v
name_at s place v h e = each_get (IsNamed s.given) s.versions place v e (each_from (IsNamed s.given) s.versions h.named)

-- ---- the rows that live at an SCN after a change

abbrev pub new_row : ℕ → List Value → RowAt
new_row rowid values = record { rowid = rowid; mark = 0; values = values }

more : (ps : Places) (r : RowAt) (b : Bool) → live_rows (ps ++ where_true b r ∷ []) ≡ cond b (live_rows ps ++ r ∷ []) (live_rows ps)
more ps r true = live_append ps r
more ps r false = live_append_none ps

pub rows_inserted : (s : Stored) (scn : ℕ) (values : List Value) (at : ℕ)
    → rows_living at (inserted scn values s) ≡ cond (nat_le scn at) (rows_living at s ++ new_row (s.given + 1) values ∷ []) (rows_living at s)
rows_inserted s scn values at =
    ap live_rows (lawful.appends s.versions scn (s.given + 1) 0 values at) ∙ more (rows_at at s.versions) (new_row (s.given + 1) values) (nat_le scn at)

-- the row at a place with a live version, after its last change
pub there : (s : Stored) (scn place : ℕ) (v : Version) (at : ℕ) → last_scn s.versions ≤ scn → slice_get s.versions place ≡ Some v → is_live v ≡ true → nat_le scn at ≡ true
    → (values : List Value) × (slice_get (rows_at at s.versions) place ≡ Some (Some (record { rowid = v.rowid; mark = v.part; values = values })))
there s scn place v at settled e live f =
    let later : scn ≤ at = leb-true scn at f in
    let row = live_row at s.versions place v (omega (arith, later, settled)) e live in
    (row.0, row.1.1)

pub rows_deleted : (s : Stored) (scn place : ℕ) (v : Version) (at : ℕ) → IsStored s → last_scn s.versions ≤ scn → slice_get s.versions place ≡ Some v → is_live v ≡ true
    → rows_living at (deleted scn place s) ≡ cond (nat_le scn at) (filter (keeps v.rowid) (rows_living at s)) (rows_living at s)
rows_deleted s scn place v at h settled e live = ap live_rows (lawful.ends s.versions place scn at v e live) ∙ by (nat_le scn at) (there s scn place v at settled e live)
  where
    by : (b : Bool) → (b ≡ true → (values : List Value) × (slice_get (rows_at at s.versions) place ≡ Some (Some (record { rowid = v.rowid; mark = v.part; values = values }))))
        → live_rows (cond b (slice_set (rows_at at s.versions) place None) (rows_at at s.versions)) ≡ cond b (filter (keeps v.rowid) (rows_living at s)) (rows_living at s)
    by true row =
        let found = row refl in
        live_without (rows_at at s.versions) place (record { rowid = v.rowid; mark = v.part; values = found.0 }) found.1 (differ_from (rows_living at s) (h.differ at))
    by false row = refl

pub rows_updated : (s : Stored) (scn place : ℕ) (values : List Value) (v : Version) (at : ℕ) → IsStored s → last_scn s.versions ≤ scn → slice_get s.versions place ≡ Some v → is_live v ≡ true
    → rows_living at (updated scn place values s) ≡ cond (nat_le scn at) (filter (keeps v.rowid) (rows_living at s) ++ new_row (rowid_at s place) values ∷ []) (rows_living at s)
rows_updated s scn place values v at h settled e live =
    ap live_rows (lawful.appends (ended_at place scn s.versions) scn (rowid_at s place) 0 values at)
    ∙ more (rows_at at (ended_at place scn s.versions)) (new_row (rowid_at s place) values) (nat_le scn at)
    ∙ by (nat_le scn at) (rows_deleted s scn place v at h settled e live)
  where
    by : (b : Bool) → rows_living at (deleted scn place s) ≡ cond b (filter (keeps v.rowid) (rows_living at s)) (rows_living at s)
        → cond b (rows_living at (deleted scn place s) ++ new_row (rowid_at s place) values ∷ []) (rows_living at (deleted scn place s))
        ≡ cond b (filter (keeps v.rowid) (rows_living at s) ++ new_row (rowid_at s place) values ∷ []) (rows_living at s)
    by true f = ap (λ rows. rows ++ new_row (rowid_at s place) values ∷ []) f
    by false f = f

-- a row less, from the change on
pub rows_less : (s : Stored) (scn place : ℕ) (v : Version) (at : ℕ) → IsStored s → last_scn s.versions ≤ scn → slice_get s.versions place ≡ Some v → is_live v ≡ true → nat_le scn at ≡ true
    → length (filter (keeps v.rowid) (rows_living at s)) + 1 ≡ length (rows_living at s)
rows_less s scn place v at h settled e live f =
    let found = there s scn place v at settled e live f in
    let row : RowAt = record { rowid = v.rowid; mark = v.part; values = found.0 } in
    ap (λ rows. length rows + 1) (sym (live_without (rows_at at s.versions) place row found.1 (differ_from (rows_living at s) (h.differ at))))
    ∙ live_less (rows_at at s.versions) place row found.1

pub rows_have : (s : Stored) (scn place : ℕ) (v : Version) (at : ℕ) → last_scn s.versions ≤ scn → slice_get s.versions place ≡ Some v → is_live v ≡ true → nat_le scn at ≡ true
    → has v.rowid (rows_living at s) ≡ true
rows_have s scn place v at settled e live f =
    let found = there s scn place v at settled e live f in
    has_place (rows_at at s.versions) place (record { rowid = v.rowid; mark = v.part; values = found.0 }) found.1

-- ---- rows as the definitions have them

plain_filter : (id : ℕ) (ys : List RowAt) → map plain_row (filter (keeps id) ys) ≡ filter (λ r. not (r.rowid == id)) (map plain_row ys)
plain_filter id [] = refl
plain_filter id (y ∷ ys) = by (keeps id y) (plain_filter id ys)
  where
    by : (b : Bool) → map plain_row (filter (keeps id) ys) ≡ filter (λ r. not (r.rowid == id)) (map plain_row ys)
        → map plain_row (cond b (y ∷ filter (keeps id) ys) (filter (keeps id) ys))
        ≡ cond b (plain_row y ∷ filter (λ r. not (r.rowid == id)) (map plain_row ys)) (filter (λ r. not (r.rowid == id)) (map plain_row ys))
    by true rest = ap (λ rows. plain_row y ∷ rows) rest
    by false rest = rest

abbrev revalued : List Value → Row → Row
revalued values r = record { rowid = r.rowid; values = values }

plain_replaced : (id : ℕ) (r : RowAt) (ys : List RowAt) → r.rowid ≡ id → map plain_row (replaced id r ys) ≡ change_where (λ y. y.rowid == id) (revalued r.values) (map plain_row ys)
plain_replaced id r [] same = refl
plain_replaced id r (y ∷ ys) same = by (y.rowid == id) refl (plain_replaced id r ys same)
  where
    by : (b : Bool) → (y.rowid == id) ≡ b → map plain_row (replaced id r ys) ≡ change_where (λ y. y.rowid == id) (revalued r.values) (map plain_row ys)
        → plain_row (cond b r y) ∷ map plain_row (replaced id r ys) ≡ cond b (revalued r.values (plain_row y)) (plain_row y) ∷ change_where (λ y. y.rowid == id) (revalued r.values) (map plain_row ys)
    by true e rest =
        let at : r.rowid ≡ y.rowid = same ∙ sym (eqb-true y.rowid id e) in
        ap (λ n. record { rowid = n; values = r.values } ∷ map plain_row (replaced id r ys)) at ∙ ap (λ rows. revalued r.values (plain_row y) ∷ rows) rest
    by false e rest = ap (λ rows. plain_row y ∷ rows) rest

-- ---- the table at an SCN after a change

table_of : (def : TableDef) (rows more : List Row) (given upto : ℕ) → rows ≡ more → given ≡ upto
    → ◌≡◌ {A = Table} (record { def = def; rows = rows; given = given; parts = []; made = 0 }) (record { def = def; rows = more; given = upto; parts = []; made = 0 })
table_of def rows more given upto p q = λ i. record { def = def; rows = p i; given = q i; parts = []; made = 0 }

-- a table with these rows, of which so many rowids were given
abbrev table_with : Stored → List RowAt → ℕ → Table
table_with s rows given = record { def = s.def; rows = map plain_row (sort [] rows); given = given; parts = []; made = 0 }

inserted_then : (s : Stored) (scn : ℕ) (values : List Value) (at : ℕ) → IsStored s → last_scn s.versions ≤ scn → nat_le scn at ≡ true
    → table_with s (rows_living at s ++ new_row (s.given + 1) values ∷ []) (given_at at (inserted scn values s).versions) ≡ table_after (seen at s) (insertion s values ∷ [])
inserted_then s scn values at h settled f =
    let later : scn ≤ at = leb-true scn at f in
    let all : given_at at s.versions ≡ s.given = h.given at (omega (arith, later, settled)) in
    let below : Each (λ r. r.rowid < s.given + 1) (rows_living at s) = each_weaker (IsRowOf s.given) (λ r. r.rowid < s.given + 1) (λ r n. (let least : r.rowid ≤ s.given = n.last in omega (arith, least))) (rows_living at s) (rows_named s at h) in
    let row : RowAt = new_row (s.given + 1) values in
    let rows : map plain_row (sort [] (rows_living at s ++ row ∷ [])) ≡ map plain_row (sort [] (rows_living at s)) ++ plain_row row ∷ [] =
    ap (map plain_row) (sort_append [] (rows_living at s) row ∙ put_last row (sort [] (rows_living at s)) (each_sort (λ r. r.rowid < s.given + 1) [] (rows_living at s) tt below))
    ∙ map-append plain_row (sort [] (rows_living at s)) (row ∷ []) in
    let given : given_at at (inserted scn values s).versions ≡ given_at at s.versions + 1 =
    given_append at s.versions (born_at scn (s.given + 1) 0 values) ∙ ap (λ b. max (given_at at s.versions) (cond b (s.given + 1) 0)) f ∙ omega (arith, all) in
    table_of s.def _ _ _ _ rows given

deleted_then : (s : Stored) (scn place : ℕ) (v : Version) (at : ℕ) → IsStored s → slice_get s.versions place ≡ Some v
    → table_with s (filter (keeps v.rowid) (rows_living at s)) (given_at at (deleted scn place s).versions) ≡ table_after (seen at s) (deletion s place ∷ [])
deleted_then s scn place v at h e =
    let rows : map plain_row (sort [] (filter (keeps v.rowid) (rows_living at s))) ≡ filter (λ r. not (r.rowid == rowid_at s place)) (map plain_row (sort [] (rows_living at s))) =
    ap (map plain_row) (sorted_filter v.rowid (rows_living at s) (differ_from (rows_living at s) (h.differ at)))
    ∙ plain_filter v.rowid (sort [] (rows_living at s))
    ∙ ap (λ id. filter (λ r. not (r.rowid == id)) (map plain_row (sort [] (rows_living at s)))) (sym (rowid_is s place v e)) in
    let given : given_at at (deleted scn place s).versions ≡ given_at at s.versions + 0 = given_ended at s.versions place scn v e ∙ omega arith in
    table_of s.def _ _ _ _ rows given

updated_then : (s : Stored) (scn place : ℕ) (values : List Value) (v : Version) (at : ℕ) → IsStored s → last_scn s.versions ≤ scn → slice_get s.versions place ≡ Some v → is_live v ≡ true → nat_le scn at ≡ true
    → table_with s (filter (keeps v.rowid) (rows_living at s) ++ new_row (rowid_at s place) values ∷ []) (given_at at (updated scn place values s).versions)
    ≡ table_after (seen at s) (update s place values ∷ [])
updated_then s scn place values v at h settled e live f =
    let later : scn ≤ at = leb-true scn at f in
    let all : given_at at s.versions ≡ s.given = h.given at (omega (arith, later, settled)) in
    let name = (name_at s place v h e).last in
    let id : rowid_at s place ≡ v.rowid = rowid_is s place v e in
    let row : RowAt = new_row (rowid_at s place) values in
    let differ : Differ (rows_living at s) = differ_from (rows_living at s) (h.differ at) in
    let found : has v.rowid (sort [] (rows_living at s)) ≡ true = has_sort v.rowid [] (rows_living at s) (ap (λ b. b || false) (rows_have s scn place v at settled e live f)) in
    let rows : map plain_row (sort [] (filter (keeps v.rowid) (rows_living at s) ++ row ∷ [])) ≡ change_where (λ y. y.rowid == rowid_at s place) (revalued values) (map plain_row (sort [] (rows_living at s))) =
    ap (map plain_row) (sort_append [] (filter (keeps v.rowid) (rows_living at s)) row
    ∙ ap (λ rs. sort rs (row ∷ [])) (sorted_filter v.rowid (rows_living at s) differ)
    ∙ put_replaced v.rowid row (sort [] (rows_living at s)) id (sorted_rises (rows_living at s) differ) found)
    ∙ plain_replaced v.rowid row (sort [] (rows_living at s)) id
    ∙ ap (λ n. change_where (λ y. y.rowid == n) (revalued values) (map plain_row (sort [] (rows_living at s)))) (sym id) in
    let given : given_at at (updated scn place values s).versions ≡ given_at at s.versions + 0 =
    given_append at (ended_at place scn s.versions) (born_at scn (rowid_at s place) 0 values)
    ∙ ap (λ n. max n (cond (nat_le scn at) (rowid_at s place) 0)) (given_ended at s.versions place scn v e)
    ∙ ap (λ b. max (given_at at s.versions) (cond b (rowid_at s place) 0)) f
    ∙ omega (arith, all, name, id) in
    table_of s.def _ _ _ _ rows given

-- before the SCN of the birth the rowid isn't given yet
not_given : (at : ℕ) (vs : List Version) (scn rowid : ℕ) (values : List Value) → nat_le scn at ≡ false → given_at at (vs ++ born_at scn rowid 0 values ∷ []) ≡ given_at at vs
not_given at vs scn rowid values f = given_append at vs (born_at scn rowid 0 values) ∙ ap (λ b. max (given_at at vs) (cond b rowid 0)) f ∙ omega arith

inserts : (s : Stored) (scn : ℕ) (values : List Value) (at : ℕ) → IsStored s → last_scn s.versions ≤ scn
    → seen at (inserted scn values s) ≡ cond (nat_le scn at) (table_after (seen at s) (insertion s values ∷ [])) (seen at s)
inserts s scn values at h settled =
    ap (λ rows. table_with s rows (given_at at (inserted scn values s).versions)) (rows_inserted s scn values at)
    ∙ by (nat_le scn at) (inserted_then s scn values at h settled) (not_given at s.versions scn (s.given + 1) values)
  where
    by : (b : Bool)
        → (b ≡ true → table_with s (rows_living at s ++ new_row (s.given + 1) values ∷ []) (given_at at (inserted scn values s).versions) ≡ table_after (seen at s) (insertion s values ∷ []))
        → (b ≡ false → given_at at (inserted scn values s).versions ≡ given_at at s.versions)
        → table_with s (cond b (rows_living at s ++ new_row (s.given + 1) values ∷ []) (rows_living at s)) (given_at at (inserted scn values s).versions)
        ≡ cond b (table_after (seen at s) (insertion s values ∷ [])) (seen at s)
    by true then before = then refl
    by false then before = ap (table_with s (rows_living at s)) (before refl)

deletes : (s : Stored) (scn place : ℕ) (v : Version) (at : ℕ) → IsStored s → last_scn s.versions ≤ scn → slice_get s.versions place ≡ Some v → is_live v ≡ true
    → seen at (deleted scn place s) ≡ cond (nat_le scn at) (table_after (seen at s) (deletion s place ∷ [])) (seen at s)
deletes s scn place v at h settled e live =
    ap (λ rows. table_with s rows (given_at at (deleted scn place s).versions)) (rows_deleted s scn place v at h settled e live)
    ∙ by (nat_le scn at) (deleted_then s scn place v at h e)
  where
    by : (b : Bool)
        → table_with s (filter (keeps v.rowid) (rows_living at s)) (given_at at (deleted scn place s).versions) ≡ table_after (seen at s) (deletion s place ∷ [])
        → table_with s (cond b (filter (keeps v.rowid) (rows_living at s)) (rows_living at s)) (given_at at (deleted scn place s).versions)
        ≡ cond b (table_after (seen at s) (deletion s place ∷ [])) (seen at s)
    by true then = then
    by false then = ap (table_with s (rows_living at s)) (given_ended at s.versions place scn v e)

updates : (s : Stored) (scn place : ℕ) (values : List Value) (v : Version) (at : ℕ) → IsStored s → last_scn s.versions ≤ scn → slice_get s.versions place ≡ Some v → is_live v ≡ true
    → seen at (updated scn place values s) ≡ cond (nat_le scn at) (table_after (seen at s) (update s place values ∷ [])) (seen at s)
updates s scn place values v at h settled e live =
    ap (λ rows. table_with s rows (given_at at (updated scn place values s).versions)) (rows_updated s scn place values v at h settled e live)
    ∙ by (nat_le scn at) (updated_then s scn place values v at h settled e live) (not_given at (ended_at place scn s.versions) scn (rowid_at s place) values)
  where
    by : (b : Bool)
        → (b ≡ true → table_with s (filter (keeps v.rowid) (rows_living at s) ++ new_row (rowid_at s place) values ∷ []) (given_at at (updated scn place values s).versions) ≡ table_after (seen at s) (update s place values ∷ []))
        → (b ≡ false → given_at at (updated scn place values s).versions ≡ given_at at (ended_at place scn s.versions))
        → table_with s (cond b (filter (keeps v.rowid) (rows_living at s) ++ new_row (rowid_at s place) values ∷ []) (rows_living at s)) (given_at at (updated scn place values s).versions)
        ≡ cond b (table_after (seen at s) (update s place values ∷ [])) (seen at s)
    by true then before = then refl
    by false then before = ap (table_with s (rows_living at s)) (before refl ∙ given_ended at s.versions place scn v e)

-- ---- the rows shown

no_mark : (s : Stored) (at : ℕ) (values : List Value) → mark_of (seen at s) values ≡ 0
no_mark s at values = by (row_key (seen at s) values)
  where
    by : (key : Option Value) → option_case key 0 (λ k. option_case (part_of_key (seen at s) k) 0 (λ p. p.0.number)) ≡ 0
    by None = refl
    by (Some k) = refl

plain_back : (s : Stored) (at : ℕ) (rows : List RowAt) → Each (IsRowOf s.given) rows → rows ≡ map (row_at (seen at s)) (map plain_row rows)
plain_back s at [] h = refl
plain_back s at (r ∷ rows) h =
    ap (λ m. record { rowid = r.rowid; mark = m; values = r.values } ∷ rows) (h.0.unmarked ∙ sym (no_mark s at r.values))
    ∙ ap (λ rest. row_at (seen at s) (plain_row r) ∷ rest) (plain_back s at rows h.1)

shown : (tables : List Stored) (at n : ℕ) → Each IsStored tables → rows_shown (map (places_at at) tables) n ≡ meaning.rows_at (base_seen at tables) n
shown [] at n h = refl
shown (s ∷ tables) at zero h = plain_back s at (sort [] (rows_living at s)) (each_sort (IsRowOf s.given) [] (rows_living at s) tt (rows_named s at h.0))
shown (s ∷ tables) at (suc n) h = shown tables at n h.1

some_same : (x y : Stored) → Some x ≡ Some y → x ≡ y
some_same x y e = cc

changed_base : (change : Stored → Stored) (tables : List Stored) (at n : ℕ) (s : Stored) → slice_get tables n ≡ Some s
    → base_seen at (with_change n change tables) ≡ with_table (base_seen at tables) n (seen at (change s))
changed_base change [] at n s e = refl
changed_base change (t ∷ tables) at zero s e = ap (λ u. seen at (change u) ∷ base_seen at tables) (some_same t s e)
changed_base change (t ∷ tables) at (suc n) s e = ap (λ rest. seen at t ∷ rest) (changed_base change tables at n s e)

-- ---- before a change, and after the last one

same_base : (change : Stored → Stored) (tables : List Stored) (at n : ℕ) → ((s : Stored) → slice_get tables n ≡ Some s → seen at (change s) ≡ seen at s)
    → base_seen at (with_change n change tables) ≡ base_seen at tables
same_base change [] at n f = refl
same_base change (t ∷ tables) at zero f = ap (λ u. u ∷ base_seen at tables) (f t refl)
same_base change (t ∷ tables) at (suc n) f = ap (λ rest. seen at t ∷ rest) (same_base change tables at n f)

not_yet : (scn at : ℕ) → at < scn → nat_le scn at ≡ false
not_yet scn at less = lt-leb scn at less

-- the table with a number is as its calls leave it
stored_in : (tables : List Stored) (n : ℕ) (s : Stored) → All IsStored tables → slice_get tables n ≡ Some s → IsStored s
stored_in tables n s h e = each_get IsStored tables n s e (each_from IsStored tables h)

settled_in : (tables : List Stored) (scn n : ℕ) (s : Stored) → All (λ s. last_scn s.versions ≤ scn) tables → slice_get tables n ≡ Some s → last_scn s.versions ≤ scn
settled_in tables scn n s h e = each_get (λ s. last_scn s.versions ≤ scn) tables n s e (each_from (λ s. last_scn s.versions ≤ scn) tables h)

version_in : (tables : List Stored) (n place : ℕ) (s : Stored) → LivesIn tables n place → slice_get tables n ≡ Some s → (v : Version) × ((slice_get s.versions place ≡ Some v) × (is_live v ≡ true))
version_in tables n place s h e = by (slice_get s.versions place) refl (subst (λ o. IfSome o (λ t. IsSomeAnd (slice_get t.versions place) (λ v. IsTrue (is_live v)))) e h)
  where
    by : (o : Option Version) → slice_get s.versions place ≡ o → IsSomeAnd o (λ v. IsTrue (is_live v)) → (v : Version) × ((slice_get s.versions place ≡ Some v) × (is_live v ≡ true))
    by None f k = absurd k
    by (Some v) f k = (v, (f, k))

inserts_later : (tables : List Stored) (scn at n : ℕ) (values : List Value) → All IsStored tables → All (λ s. last_scn s.versions ≤ scn) tables → at < scn
    → base_seen at (with_change n (inserted scn values) tables) ≡ base_seen at tables
inserts_later tables scn at n values h k less =
    same_base (inserted scn values) tables at n
    (λ s e. inserts s scn values at (stored_in tables n s h e) (settled_in tables scn n s k e)
    ∙ ap (λ b. cond b (table_after (seen at s) (insertion s values ∷ [])) (seen at s)) (not_yet scn at less))

deletes_later : (tables : List Stored) (scn at n place : ℕ) → All IsStored tables → All (λ s. last_scn s.versions ≤ scn) tables → LivesIn tables n place → at < scn
    → base_seen at (with_change n (deleted scn place) tables) ≡ base_seen at tables
deletes_later tables scn at n place h k lives less =
    same_base (deleted scn place) tables at n
    (λ s e. (let v = version_in tables n place s lives e in
    deletes s scn place v.0 at (stored_in tables n s h e) (settled_in tables scn n s k e) v.1.0 v.1.1
    ∙ ap (λ b. cond b (table_after (seen at s) (deletion s place ∷ [])) (seen at s)) (not_yet scn at less)))

updates_later : (tables : List Stored) (scn at n place : ℕ) (values : List Value) → All IsStored tables → All (λ s. last_scn s.versions ≤ scn) tables → LivesIn tables n place → at < scn
    → base_seen at (with_change n (updated scn place values) tables) ≡ base_seen at tables
updates_later tables scn at n place values h k lives less =
    same_base (updated scn place values) tables at n
    (λ s e. (let v = version_in tables n place s lives e in
    updates s scn place values v.0 at (stored_in tables n s h e) (settled_in tables scn n s k e) v.1.0 v.1.1
    ∙ ap (λ b. cond b (table_after (seen at s) (update s place values ∷ [])) (seen at s)) (not_yet scn at less)))

row_rests : (from to : ℕ) (v : Version) → changed_at v ≤ from → from ≤ to → version_row from v ≡ version_row to v
row_rests from to v h later =
    ap (λ b. option_case v.values None (λ ws. where_true b (record { rowid = v.rowid; mark = v.part; values = ws })))
    (settled_row from v h ∙ sym (settled_row to v (omega (arith, h, later))))

rows_rest : (from to : ℕ) (vs : List Version) → last_scn vs ≤ from → from ≤ to → rows_at from vs ≡ rows_at to vs
rows_rest from to [] h later = refl
rows_rest from to (v ∷ vs) h later = (λ i. row_rests from to v (omega (arith, h)) later i ∷ rows_rest from to vs (omega (arith, h)) later i)

born_by : (at : ℕ) (v : Version) → changed_at v ≤ at → nat_le v.born at ≡ true
born_by at v h = le-leb v.born at (omega (arith, h))

given_rests : (from to : ℕ) (vs : List Version) → last_scn vs ≤ from → from ≤ to → given_at from vs ≡ given_at to vs
given_rests from to [] h later = refl
given_rests from to (v ∷ vs) h later =
    let now : changed_at v ≤ from = omega (arith, h) in
    let then : changed_at v ≤ to = omega (arith, now, later) in
    ap (λ b. max (cond b v.rowid 0) (given_at from vs)) (born_by from v now ∙ sym (born_by to v then))
    ∙ ap (λ n. max (cond (nat_le v.born to) v.rowid 0) n) (given_rests from to vs (omega (arith, h)) later)

rests : (s : Stored) (from to : ℕ) → last_scn s.versions ≤ from → from ≤ to → seen from s ≡ seen to s
rests s from to h later =
    table_of s.def _ _ _ _ (ap (λ ps. map plain_row (sort [] (live_rows ps))) (rows_rest from to s.versions h later)) (given_rests from to s.versions h later)

pub laws_hold : Laws
laws_hold = record {
  inserts = inserts;
  deletes = deletes;
  updates = updates;
  changes = changed_base;
  settles = λ s at h. settled_count at s.versions h;
  shows = λ tables at n h. shown tables at n (each_from IsStored tables h);
  inserts_later = inserts_later;
  deletes_later = deletes_later;
  updates_later = updates_later;
  rests = rests;
}
