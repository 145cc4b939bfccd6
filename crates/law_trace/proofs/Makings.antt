-- The changes that a statement makes, one after another: a row comes, takes new values, or goes. A row that moves goes, and comes again.
use Rattle.std.proofs.Common.{◌≡◌, ◌∙◌, sym, ap, refl, subst, arith, ℕ, suc, ◌+◌, ◌≤◌, Bool, true, false, true≢false, cond, not, List, [], ◌∷◌, ◌++◌, map, Option, None, Some, ◌==◌, ◌&&◌}
use Rattle.std.proofs.Math.Bool.{and-false}
use Rattle.std.specs.List.{enumerate_from, filter, fold}
use Rattle.std.specs.Prelude.{count_by, zip}
use Rattle.std.proofs.lemmas.Bool.{eq-eqb}
use Rattle.std.proofs.lemmas.Bool.Decides.{Decides-eqb}
use Rattle.std.proofs.lemmas.List.{append-nil, length-map}
use Rattle.std.proofs.lemmas.List.Elements.{filter-append}
use Rattle.std.proofs.lemmas.List.FromFn.{length-enumerate_from}
use Rattle.std.proofs.lemmas.List.Sums.{sum_by-cons}
use Rattle.wh_base.specs.Lists.{first_of, where_true}
use Rattle.wh_base.specs.Tables.{Row, Table, is_insert, rows_after}
use Rattle.wh_base.specs.declared.replies.Refusal.{Refusal}
use Rattle.wh_base.specs.declared.replies.Refusal.TheVariants.{NoPartition, RowMovement}
use Rattle.wh_base.specs.declared.statements.SetColumn.{SetColumn}
use Rattle.wh_base.specs.declared.tables.Change.{Change}
use Rattle.wh_base.specs.declared.tables.TableDef.{TableDef}
use Rattle.wh_base.specs.declared.values.Value.{Value}
use Rattle.def_effect.specs.Block.{changed_row_refusal, column_refusal, deleted_change, has_no_partition, inserted_change, is_moved, made_changes, moves_row, new_row_refusal, set_or_old, set_value, updated_change, updated_row}
use Rattle.law_trace.proofs.Asking.{Deletes, Inserts, IsWide, Shape, Updates}
use Rattle.law_trace.proofs.Listed.{Each, Pairs, below_differs, each_append, each_filter, each_map, each_two, each_unmap, each_weaker, eq_false, filter_none, pairs_filter}
use Rattle.law_trace.proofs.Basing.{none_first, none_rest, none_where}
use Rattle.law_trace.specs.Rows.{Fits, IsGiven, IsOlder}

-- ---- what is so of the rows of a table

abbrev pub Rises : Table → Type 0
Rises t = Pairs IsOlder t.rows × Each (IsGiven t.given) t.rows

abbrev pub RowsFit : Table → List Row → Type 0
RowsFit t rows = Each (λ r. Fits t r.values) rows

abbrev pub AllFit : Table → Type 0
AllFit t = RowsFit t t.rows

-- both
abbrev pub Sound : Table → Type 0
Sound t = Rises t × AllFit t

-- a row that is not refused
pub fits_new : (t : Table) (old : Option (List Value)) (new : List Value) → IsWide t.def new → new_row_refusal t old new ≡ None → Fits t new
fits_new t old new wide none =
    let columns : Option Refusal = first_of (column_refusal t.def) (zip t.def.columns new) in
    let placed : Option Refusal = where_true (has_no_partition t new) (NoPartition t.def.name) in
    let moved : Option Refusal = where_true (moves_row t old new && not t.def.movement) (RowMovement t.def.name) in
    record {
      width = wide;
      columns = none_first columns (placed ∷ moved ∷ []) none;
      placed = none_where (has_no_partition t new) (NoPartition t.def.name) (none_first placed (moved ∷ []) (none_rest columns (placed ∷ moved ∷ []) none));
    }

-- ---- one change

-- the row is among these, alone with its rowid, which was given
pub record HasRow (m : ℕ) (rows : List Row) (r : Row) : Type 0 where
  pub low : 1 ≤ r.rowid
  pub given : r.rowid ≤ m
  pub alone : filter (λ q. q.rowid == r.rowid) rows ≡ r ∷ []

-- a change of these rows, where so many rowids were given
pub data Step (t : Table) (m : ℕ) (rows : List Row) (c : Change) : Type 0 where
  Comes : (vs : List Value) → Fits t vs → filter (λ q. q.rowid == suc m) rows ≡ [] → c ≡ inserted_change (suc m, vs) → Step t m rows c
  Turns : (r : Row) (vs : List Value) → HasRow m rows r → Fits t vs → c ≡ record { rowid = r.rowid; old = Some r.values; new = Some vs } → Step t m rows c
  Goes : (r : Row) → HasRow m rows r → c ≡ deleted_change r → Step t m rows c

-- 1 for an insert
abbrev pub weight : Change → ℕ
weight c = cond (is_insert c) 1 0

-- each change after those before it
abbrev pub Steps : Table → ℕ → List Row → List Change → Type 0
Steps t m rows [] = Unit {0}
Steps t m rows (c ∷ cs) = Step t m rows c × Steps t (m + weight c) (rows_after rows c) cs

pub count_more : (m : ℕ) (c : Change) (cs : List Change) → (m + weight c) + count_by is_insert cs ≡ m + count_by is_insert (c ∷ cs)
count_more m c cs = let one : count_by is_insert (c ∷ cs) ≡ weight c + count_by is_insert cs = sum_by-cons weight c cs in omega arith

count_none : (m : ℕ) → m ≡ m + 0
count_none m = omega arith

-- what each change keeps they all keep
pub steps_keep : (t : Table) (Q : Change → Type 0) (P : ℕ → List Row → Type 0) → ((m : ℕ) (rows : List Row) (c : Change) → Step t m rows c → Q c → P m rows → P (m + weight c) (rows_after rows c))
    → (m : ℕ) (rows : List Row) (cs : List Change) → Steps t m rows cs → Each Q cs → P m rows → P (m + count_by is_insert cs) (fold rows_after rows cs)
steps_keep t Q P k m rows [] steps each h = subst (λ n. P n rows) (count_none m) h
steps_keep t Q P k m rows (c ∷ cs) steps each h =
    subst (λ n. P n (fold rows_after (rows_after rows c) cs)) (count_more m c cs)
    (steps_keep t Q P k (m + weight c) (rows_after rows c) cs steps.1 each.1 (k m rows c steps.0 each.0 h))

pub each_unit : (cs : List Change) → Each (λ c. Unit {0}) cs
each_unit [] = tt
each_unit (c ∷ cs) = (tt, each_unit cs)

-- ---- rows of other rowids stay

filter_within : {A : Type 0} (p q : A → Bool) → ((x : A) → p x ≡ true → q x ≡ true) → (xs : List A) → filter p (filter q xs) ≡ filter p xs
filter_within p q h [] = refl
filter_within p q h (x ∷ xs) = by (p x) (q x) refl refl (filter_within p q h xs)
  where
    by : (a b : Bool) → p x ≡ a → q x ≡ b → filter p (filter q xs) ≡ filter p xs → filter p (cond b (x ∷ filter q xs) (filter q xs)) ≡ cond a (x ∷ filter p xs) (filter p xs)
    by true true ea eb e = (λ i. cond (ea i) (x ∷ filter p (filter q xs)) (filter p (filter q xs))) ∙ ap (λ rest. x ∷ rest) e
    by false true ea eb e = (λ i. cond (ea i) (x ∷ filter p (filter q xs)) (filter p (filter q xs))) ∙ e
    by true false ea eb e = let g : q x ≡ true = h x ea in absurd (true≢false (sym g ∙ eb))
    by false false ea eb e = e

filter_changed : {A : Type 0} (p q : A → Bool) (g : A → A) → ((x : A) → q x ≡ true → p x ≡ false) → ((x : A) → q x ≡ true → p (g x) ≡ false) → (xs : List A) → filter p (map (λ x. cond (q x) (g x) x) xs) ≡ filter p xs
filter_changed p q g h k [] = refl
filter_changed {A} p q g h k (x ∷ xs) = by (q x) refl (filter p (map (λ x. cond (q x) (g x) x) xs)) (filter_changed p q g h k xs)
  where
    by : (b : Bool) → q x ≡ b → (rest : List A) → rest ≡ filter p xs → cond (p (cond b (g x) x)) (cond b (g x) x ∷ rest) rest ≡ cond (p x) (x ∷ filter p xs) (filter p xs)
    by true e rest r = (λ i. cond (k x e i) (g x ∷ rest) rest) ∙ r ∙ sym (λ i. cond (h x e i) (x ∷ filter p xs) (filter p xs))
    by false e rest r = λ i. cond (p x) (x ∷ r i) (r i)

other_than : (i j n : ℕ) → (i == j) ≡ false → (n == i) ≡ true → (n == j) ≡ false
other_than i j n h k = grind (arith, Decides-eqb i j, Decides-eqb n i, Decides-eqb n j)

not_other : (i j n : ℕ) → (i == j) ≡ false → (n == j) ≡ true → not (n == i) ≡ true
not_other i j n h k = grind (arith, Decides-eqb i j, Decides-eqb n i, Decides-eqb n j)

pub other_kept : (rows : List Row) (i j : ℕ) (old new : Option (List Value)) → (i == j) ≡ false → filter (λ r. r.rowid == j) (rows_after rows (record { rowid = i; old = old; new = new })) ≡ filter (λ r. r.rowid == j) rows
other_kept rows i j old None h = filter_within (λ r. r.rowid == j) (λ r. not (r.rowid == i)) (λ r k. not_other i j r.rowid h k) rows
other_kept rows i j None (Some new) h =
    filter-append (λ r. r.rowid == j) rows (record { rowid = i; values = new } ∷ [])
    ∙ (λ k. filter (λ r. r.rowid == j) rows ++ cond (h k) (record { rowid = i; values = new } ∷ []) [])
    ∙ append-nil (filter (λ r. r.rowid == j) rows)
other_kept rows i j (Some old) (Some new) h =
    filter_changed (λ r. r.rowid == j) (λ r. r.rowid == i) (λ r. record { rowid = r.rowid; values = new }) (λ r k. other_than i j r.rowid h k) (λ r k. other_than i j r.rowid h k) rows

row_stays : (m k : ℕ) (rows : List Row) (c : Change) (r : Row) → m ≤ k → (c.rowid == r.rowid) ≡ false → HasRow m rows r → HasRow k (rows_after rows c) r
row_stays m k rows c r low differ h = record { low = h.low; given = omega (arith, h.given); alone = other_kept rows c.rowid r.rowid c.old c.new differ ∙ h.alone }

-- those after the row that changes
later_stay : (m k : ℕ) (rows : List Row) (c : Change) (r : Row) (rs : List Row) → m ≤ k → c.rowid ≡ r.rowid → Each (IsOlder r) rs → Each (HasRow m rows) rs → Each (HasRow k (rows_after rows c)) rs
later_stay m k rows c r rs low is older h =
    each_weaker (λ q. IsOlder r q × HasRow m rows q) (HasRow k (rows_after rows c))
    (λ q both. row_stays m k rows c q low (ap (λ n. n == q.rowid) is ∙ below_differs r.rowid q.rowid both.0) both.1) rs (each_two (IsOlder r) (HasRow m rows) rs older h)

-- where a row comes
come_stay : (m : ℕ) (rows : List Row) (vs : List Value) (rs : List Row) → Each (HasRow m rows) rs → Each (HasRow (suc m) (rows ++ record { rowid = suc m; values = vs } ∷ [])) rs
come_stay m rows vs rs h =
    each_weaker (HasRow m rows) (HasRow (suc m) (rows ++ record { rowid = suc m; values = vs } ∷ []))
    (λ q k. row_stays m (suc m) rows (inserted_change (suc m, vs)) q (omega arith) (eq_false q.rowid (suc m) (omega (arith, k.given))) k) rs h

-- each row is there
pub rows_own : (m : ℕ) (rows : List Row) → Pairs IsOlder rows → Each (IsGiven m) rows → Each (HasRow m rows) rows
rows_own m [] older given = tt
rows_own m (x ∷ xs) older given = (
  record {
    low = given.0.0;
    given = given.0.1;
    alone = ap (λ b. cond b (x ∷ filter (λ q. q.rowid == x.rowid) xs) (filter (λ q. q.rowid == x.rowid) xs)) (eq-eqb x.rowid x.rowid refl)
        ∙ ap (λ rest. x ∷ rest) (filter_none (λ q. q.rowid == x.rowid) xs (each_weaker (IsOlder x) (λ q. (q.rowid == x.rowid) ≡ false) (λ q low. eq_false x.rowid q.rowid low) xs older.0));
  },
  each_weaker (λ y. IsOlder x y × HasRow m xs y) (HasRow m (x ∷ xs))
      (λ y both. record {
        low = both.1.low;
        given = both.1.given;
        alone = ap (λ b. cond b (x ∷ filter (λ q. q.rowid == y.rowid) xs) (filter (λ q. q.rowid == y.rowid) xs)) (below_differs x.rowid y.rowid both.0) ∙ both.1.alone;
      }) xs (each_two (IsOlder x) (HasRow m xs) xs older.0 (rows_own m xs older.1 given.1)),
)

-- ---- a statement

absent : (m : ℕ) (rows : List Row) → Each (IsGiven m) rows → filter (λ q. q.rowid == suc m) rows ≡ []
absent m rows given = filter_none (λ q. q.rowid == suc m) rows (each_weaker (IsGiven m) (λ q. (q.rowid == suc m) ≡ false) (λ q g. below_differs q.rowid (suc m) (omega (arith, g.1))) rows given)

given_more : (m : ℕ) (rows : List Row) (vs : List Value) → Each (IsGiven m) rows → Each (IsGiven (suc m)) (rows ++ record { rowid = suc m; values = vs } ∷ [])
given_more m rows vs h =
    each_append (IsGiven (suc m)) rows (record { rowid = suc m; values = vs } ∷ []) (each_weaker (IsGiven m) (IsGiven (suc m)) (λ r g. (g.0, omega (arith, g.1))) rows h) ((omega arith, omega arith), tt)

module _ (t : Table) where
  inserts_step : (m : ℕ) (rows : List Row) (vs : List (List Value)) → Each (Fits t) vs → Each (IsGiven m) rows → Steps t m rows (made_changes t m (map inserted_change (enumerate_from (suc m) vs)))
  inserts_step m rows [] fits given = tt
  inserts_step m rows (v ∷ vs) fits given =
      let one : suc m ≡ m + 1 = omega arith in
      let next : suc (suc m) ≡ suc m + 1 = omega arith in
      let rest : Steps t (suc m) (rows ++ record { rowid = suc m; values = v } ∷ []) (made_changes t (suc m) (map inserted_change (enumerate_from (suc (suc m)) vs))) =
      inserts_step (suc m) (rows ++ record { rowid = suc m; values = v } ∷ []) vs fits.1 (given_more m rows v given) in
      let there : Steps t (suc m) (rows ++ record { rowid = suc m; values = v } ∷ []) (made_changes t (suc m) (map inserted_change (enumerate_from (suc m + 1) vs))) =
      subst (λ n. Steps t (suc m) (rows ++ record { rowid = suc m; values = v } ∷ []) (made_changes t (suc m) (map inserted_change (enumerate_from n vs)))) next rest in
      let whole : Steps t m rows (inserted_change (suc m, v) ∷ made_changes t (suc m) (map inserted_change (enumerate_from (suc m + 1) vs))) =
      (Comes v fits.0 (absent m rows given) refl, subst (λ n. Steps t n (rows ++ record { rowid = suc m; values = v } ∷ []) (made_changes t (suc m) (map inserted_change (enumerate_from (suc m + 1) vs)))) one there) in
      subst (λ b. Steps t m rows (cond b (record { rowid = suc m; old = None; new = None } ∷ record { rowid = suc m; old = None; new = Some v } ∷ made_changes t (suc m) (map inserted_change (enumerate_from (suc m + 1) vs)))
      (inserted_change (suc m, v) ∷ made_changes t (suc m) (map inserted_change (enumerate_from (suc m + 1) vs))))) (sym (and-false t.def.movement)) whole

  deletes_step : (m : ℕ) (rows rs : List Row) → Pairs IsOlder rs → Each (HasRow m rows) rs → Steps t m rows (made_changes t m (map deleted_change rs))
  deletes_step m rows [] older h = tt
  deletes_step m rows (r ∷ rs) older h =
      let rest : Steps t m (rows_after rows (deleted_change r)) (made_changes t m (map deleted_change rs)) =
      deletes_step m (rows_after rows (deleted_change r)) rs older.1 (later_stay m m rows (deleted_change r) r rs (omega arith) refl older.0 h.1) in
      let whole : Steps t m rows (deleted_change r ∷ made_changes t m (map deleted_change rs)) =
      (Goes r h.0 refl, subst (λ n. Steps t n (rows_after rows (deleted_change r)) (made_changes t m (map deleted_change rs))) (count_none m) rest) in
      subst (λ b. Steps t m rows (cond b (record { rowid = r.rowid; old = Some r.values; new = None } ∷ record { rowid = suc m; old = None; new = None } ∷ made_changes t (suc m) (map deleted_change rs))
      (deleted_change r ∷ made_changes t m (map deleted_change rs)))) (sym (and-false t.def.movement)) whole

  updates_step : (sets : List SetColumn) (m : ℕ) (rows rs : List Row) → Pairs IsOlder rs → Each (HasRow m rows) rs → Each (IsGiven m) rows → Each (λ r. Fits t (updated_row t.def sets r.values)) rs
      → Steps t m rows (made_changes t m (map (updated_change t.def sets) rs))
  updates_step sets m rows [] older h given fits = tt
  updates_step sets m rows (r ∷ rs) older h given fits =
      by (is_moved t c) (updates_step sets m turned rs older.1 (later_stay m m rows c r rs (omega arith) refl older.0 h.1) turned_given fits.1)
      (updates_step sets (suc m) came rs older.1 (come_stay m gone new rs (later_stay m m rows (deleted_change r) r rs (omega arith) refl older.0 h.1)) (given_more m gone new gone_given) fits.1)
    where
      new : List Value
      new = updated_row t.def sets r.values

      c : Change
      c = updated_change t.def sets r

      gone : List Row
      gone = rows_after rows (deleted_change r)

      came : List Row
      came = gone ++ record { rowid = suc m; values = new } ∷ []

      turned : List Row
      turned = rows_after rows c

      gone_given : Each (IsGiven m) gone
      gone_given = each_filter (IsGiven m) (λ q. not (q.rowid == r.rowid)) rows given

      still_given : (q : Row) (b : Bool) → IsGiven m q → IsGiven m (cond b (record { rowid = q.rowid; values = new }) q)
      still_given q true g = g
      still_given q false g = g

      turned_given : Each (IsGiven m) turned
      turned_given = each_map (IsGiven m) (IsGiven m) (λ q. cond (q.rowid == r.rowid) (record { rowid = q.rowid; values = new }) q) (λ q g. still_given q (q.rowid == r.rowid) g) rows given

      by : (b : Bool) → Steps t m turned (made_changes t m (map (updated_change t.def sets) rs)) → Steps t (suc m) came (made_changes t (suc m) (map (updated_change t.def sets) rs))
          → Steps t m rows (cond b (deleted_change r ∷ inserted_change (suc m, new) ∷ made_changes t (suc m) (map (updated_change t.def sets) rs)) (c ∷ made_changes t m (map (updated_change t.def sets) rs)))
      by true stays moves =
          let one : suc m ≡ m + 1 = omega arith in
          let rest : Steps t m gone (inserted_change (suc m, new) ∷ made_changes t (suc m) (map (updated_change t.def sets) rs)) =
          (Comes new fits.0 (absent m gone gone_given) refl, subst (λ n. Steps t n came (made_changes t (suc m) (map (updated_change t.def sets) rs))) one moves) in
          (Goes r h.0 refl, subst (λ n. Steps t n gone (inserted_change (suc m, new) ∷ made_changes t (suc m) (map (updated_change t.def sets) rs))) (count_none m) rest)
      by false stays moves = (Turns r new h.0 fits.0 refl, subst (λ n. Steps t n turned (made_changes t m (map (updated_change t.def sets) rs))) (count_none m) stays)

numbered_wide : (d : TableDef) (m : ℕ) (rows : List (List Value)) → Each (IsWide d) rows → Each (λ p. IsWide d p.1) (enumerate_from m rows)
numbered_wide d m [] h = tt
numbered_wide d m (vs ∷ rows) h = (h.0, numbered_wide d (m + 1) rows h.1)

from_numbered : (P : List Value → Type 0) (m : ℕ) (rows : List (List Value)) → Each (λ p. P p.1) (enumerate_from m rows) → Each P rows
from_numbered P m [] h = tt
from_numbered P m (vs ∷ rows) h = (h.0, from_numbered P (m + 1) rows h.1)

updated_wide : (d : TableDef) (sets : List SetColumn) (old : List Value) → IsWide d old → IsWide d (updated_row d sets old)
updated_wide d sets old wide = length-map (enumerate_from 0 old) (set_or_old (map (set_value d old) sets)) ∙ length-enumerate_from 0 old ∙ wide

-- the changes that are made of what a statement asks
pub steps_of : (t : Table) (changes : List Change) → Shape t changes → Sound t → Each (λ c. changed_row_refusal t c ≡ None) changes → Steps t t.given t.rows (made_changes t t.given changes)
steps_of t changes (Inserts rows wide is) h passes =
    let numbered : List (ℕ × List Value) = enumerate_from (suc t.given) rows in
    let fits : Each (λ p. Fits t p.1) numbered =
    each_weaker (λ p. IsWide t.def p.1 × (changed_row_refusal t (inserted_change p) ≡ None)) (λ p. Fits t p.1) (λ p both. fits_new t None p.1 both.0 both.1) numbered
    (each_two (λ p. IsWide t.def p.1) (λ p. changed_row_refusal t (inserted_change p) ≡ None) numbered (numbered_wide t.def (suc t.given) rows wide)
    (each_unmap (λ c. changed_row_refusal t c ≡ None) inserted_change numbered (subst (Each (λ c. changed_row_refusal t c ≡ None)) is passes))) in
    subst (λ cs. Steps t t.given t.rows (made_changes t t.given cs)) (sym is) (inserts_step t t.given t.rows rows (from_numbered (Fits t) (suc t.given) rows fits) h.0.1)
steps_of t changes (Updates sets p is) h passes =
    let met : List Row = filter p t.rows in
    let fits : Each (λ r. Fits t (updated_row t.def sets r.values)) met =
    each_weaker (λ r. Fits t r.values × (changed_row_refusal t (updated_change t.def sets r) ≡ None)) (λ r. Fits t (updated_row t.def sets r.values))
    (λ r both. fits_new t (Some r.values) (updated_row t.def sets r.values) (updated_wide t.def sets r.values both.0.width) both.1) met
    (each_two (λ r. Fits t r.values) (λ r. changed_row_refusal t (updated_change t.def sets r) ≡ None) met (each_filter (λ r. Fits t r.values) p t.rows h.1)
    (each_unmap (λ c. changed_row_refusal t c ≡ None) (updated_change t.def sets) met (subst (Each (λ c. changed_row_refusal t c ≡ None)) is passes))) in
    subst (λ cs. Steps t t.given t.rows (made_changes t t.given cs)) (sym is)
    (updates_step t sets t.given t.rows met (pairs_filter IsOlder p t.rows h.0.0) (each_filter (HasRow t.given t.rows) p t.rows (rows_own t.given t.rows h.0.0 h.0.1)) h.0.1 fits)
steps_of t changes (Deletes p is) h passes =
    subst (λ cs. Steps t t.given t.rows (made_changes t t.given cs)) (sym is)
    (deletes_step t t.given t.rows (filter p t.rows) (pairs_filter IsOlder p t.rows h.0.0) (each_filter (HasRow t.given t.rows) p t.rows (rows_own t.given t.rows h.0.0 h.0.1)))
