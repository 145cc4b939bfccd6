-- What changes a statement asks: whose numbers are small once no row is refused, and whether they insert rows.
use Rattle.std.proofs.Common.{◌≡◌, ◌∙◌, sym, ap, subst, refl, arith, ℕ, zero, suc, ◌+◌, ◌≤◌, ◌<◌, ◌^◌, ◌&&◌, Bool, true, false, not, cond, is_lt, List, [], ◌∷◌, ◌++◌, length, map, Option, Some, None, IsTrue, lit<, ◌==◌, nat_lt, true≢false}
use Rattle.std.specs.Prelude.{Err, Ok, Result, filter, find, flat_map, is_none, nat_abs, option_map, unwrap_or, zip}
use Rattle.std.proofs.lemmas.Bool.{and_from, and_parts, ltb-true}
use Rattle.std.proofs.lemmas.Bool.Decides.{nat_tests}
use Rattle.std.proofs.lemmas.List.{length-map}
use Rattle.std.proofs.Math.Nat.{pow-le-pow_right}
use Rattle.std.specs.List.{All, enumerate_from, list_all, position_or_len}
use Rattle.def_effect.specs.Block.{Asks, changed_row_refusal, column_refusal, conditions_unknown, deleted_change, fits_kind, full_row, given_row_refusal, insert_changes, inserted_change, load_row_refusal, loaded_row, named_places, new_row_refusal, own_column, own_kinds_refusal, place_of, repeated_column, row_meets, set_names, set_or_old, set_refusal, set_value, statement_asks, unknown_column, updated_change, updated_row}
use Rattle.wh_base.specs.Lists.{count_from, first_of, first_some, option_case, or_refuse, put_in_order, same_text, sort_onto, unless, where_true, ◌>>=◌}
use Rattle.wh_base.specs.Tables.{Base, Row, Table, column_number, defs_of, rowid_cmp, table_at, table_number}
use Rattle.wh_base.specs.Values.{given_value, is_null, is_small}
use Rattle.wh_base.specs.declared.queries.RawCondition.{RawCondition}
use Rattle.wh_base.specs.declared.replies.Refusal.{Refusal}
use Rattle.wh_base.specs.declared.replies.Refusal.TheVariants.{NoSuchColumn, NoSuchObject, NullNotAllowed, ValueDoesNotFit}
use Rattle.wh_base.specs.declared.statements.ChangeStatement.TheVariants.{Delete, Insert, Load, Update}
use Rattle.wh_base.specs.declared.statements.DeleteRows.{DeleteRows}
use Rattle.wh_base.specs.declared.statements.InsertRows.{InsertRows}
use Rattle.wh_base.specs.declared.statements.LoadRows.{LoadRows}
use Rattle.wh_base.specs.declared.statements.SetColumn.{SetColumn}
use Rattle.wh_base.specs.declared.statements.Statement.{Statement}
use Rattle.wh_base.specs.declared.statements.Statement.TheVariants as about
use Rattle.wh_base.specs.declared.statements.UpdateRows.{UpdateRows}
use Rattle.wh_base.specs.declared.tables.Change.{Change}
use Rattle.wh_base.specs.declared.tables.ColumnDef.{ColumnDef}
use Rattle.wh_base.specs.declared.tables.Kind.{Kind}
use Rattle.wh_base.specs.declared.tables.Kind.TheVariants as kind
use Rattle.wh_base.specs.declared.tables.RowAt.{RowAt}
use Rattle.wh_base.specs.declared.tables.TableDef.{TableDef}
use Rattle.wh_base.specs.declared.values.Value.{Value}
use Rattle.wh_base.specs.declared.values.Value.TheVariants.{Day, Null, Num, Ratio, Text}
use Rattle.wh_dml.specs.Asked.{AsksFor}
use Rattle.wh_check.specs.Making.{HaveShape, HaveShapeOnceFit, is_small_change}
use Rattle.wh_dml.specs.Changes.{change_of}
use Rattle.wh_dml.specs.Sized.{AreSized}
use Rattle.wh_dml.specs.declared.changes.PlacedRow.{PlacedRow}
use Rattle.wh_dml.specs.declared.changes.RowChange.{RowChange}
use Rattle.wh_load.specs.Capped.{loaded_value}
use Rattle.wh_load.specs.Sized.{is_sized_def, kind_is_sized}
use Rattle.wh_table.specs.Stored.{IsStored, Stored, base_seen, plain_row, rows_living, seen}
use Rattle.wh_table.proofs.Counting.{all_from, each_from}
use Rattle.wh_table.proofs.Ordered.{Each}

-- ---- what isn't refused

pub first_none : {A : Type 0} (o : Option A) (os : List (Option A)) → first_some (o ∷ os) ≡ None → (o ≡ None) × (first_some os ≡ None)
first_none None os h = (refl, h)
first_none (Some r) os h = cc

-- ---- numbers are small

small_value : (k : Kind) (v : Value) → kind_is_sized k ≡ true → fits_kind k v ≡ true → is_small v ≡ true
small_value (kind.Number p) (Num n) h f =
    let few : p ≤ 15 = grind (arith, nat_tests) in
    let low : nat_abs n < 10 ^ p = grind (arith, nat_tests) in
    let most : 10 ^ p ≤ 10 ^ 15 = pow-le-pow_right (lit< tt) few in
    grind (arith, nat_tests)
small_value (kind.Text m) (Num n) h f = cc
small_value kind.Date (Num n) h f = cc
small_value k (Text t) h f = refl
small_value k (Ratio a) h f = refl
small_value k (Day n) h f = refl
small_value k Null h f = refl

fits_column : (d : TableDef) (c : ColumnDef) (v : Value) → column_refusal d (c, v) ≡ None → fits_kind c.kind v ≡ true
fits_column d c v h = by (fits_kind c.kind v) refl h
  where
    by : (b : Bool) → fits_kind c.kind v ≡ b → first_some (where_true (not b) (ValueDoesNotFit d.name c.name) ∷ where_true (c.not_null && is_null v) (NullNotAllowed d.name c.name) ∷ []) ≡ None → fits_kind c.kind v ≡ true
    by true e h = e
    by false e h = cc

-- a row with a value for each column, or for the first of them
small_row : (d : TableDef) (cs : List ColumnDef) (vs : List Value) → length vs ≤ length cs → list_all (λ c. kind_is_sized c.kind) cs ≡ true → first_of (column_refusal d) (zip cs vs) ≡ None → list_all is_small vs ≡ true
small_row d [] [] few h e = refl
small_row d [] (v ∷ vs) few h e = absurd (omega (arith, few))
small_row d (c ∷ cs) [] few h e = refl
small_row d (c ∷ cs) (v ∷ vs) few h e =
    let kinds = and_parts (kind_is_sized c.kind) (list_all (λ c. kind_is_sized c.kind) cs) h in
    let none = first_none (column_refusal d (c, v)) (map (column_refusal d) (zip cs vs)) e in
    and_from (is_small v) (list_all is_small vs) (small_value c.kind v kinds.0 (fits_column d c v none.0)) (small_row d cs vs (omega (arith, few)) kinds.1 none.1)

-- values that are set in these columns at the most
abbrev AreBelow : ℕ → List (ℕ × Value) → Type 0
AreBelow m new = Each (λ (p : ℕ × Value). p.0 < m) new

not_set : (new : List (ℕ × Value)) (m k : ℕ) → AreBelow m new → m ≤ k → find (λ q. q.0 == k) new ≡ None
not_set [] m k h less = refl
not_set (p ∷ new) m k h less =
    let low : p.0 < m = h.0 in
    let other : (p.0 == k) ≡ false = grind (arith, nat_tests, low, less) in
    ap (λ b. cond b (Some p) (find (λ q. q.0 == k) new)) other ∙ not_set new m k h.1 less

-- old values behind the columns stay as they are
small_set : (d : TableDef) (cs : List ColumnDef) (vs : List Value) (k m : ℕ) (new : List (ℕ × Value)) → AreBelow m new → m ≤ k + length cs → list_all (λ c. kind_is_sized c.kind) cs ≡ true → list_all is_small vs ≡ true
    → first_of (column_refusal d) (zip cs (map (set_or_old new) (enumerate_from k vs))) ≡ None → list_all is_small (map (set_or_old new) (enumerate_from k vs)) ≡ true
small_set d cs [] k m new below most h small e = refl
small_set d [] (v ∷ vs) k m new below most h small e =
    let smalls = and_parts (is_small v) (list_all is_small vs) small in
    let old : set_or_old new (k, v) ≡ v = ap (λ o. option_case o v (λ q. q.1)) (not_set new m k below (omega (arith, most))) in
    and_from (is_small (set_or_old new (k, v))) (list_all is_small (map (set_or_old new) (enumerate_from (k + 1) vs))) (ap is_small old ∙ smalls.0)
    (small_set d [] vs (k + 1) m new below (omega (arith, most)) h smalls.1 refl)
small_set d (c ∷ cs) (v ∷ vs) k m new below most h small e =
    let smalls = and_parts (is_small v) (list_all is_small vs) small in
    let kinds = and_parts (kind_is_sized c.kind) (list_all (λ c. kind_is_sized c.kind) cs) h in
    let w : Value = set_or_old new (k, v) in
    let ws : List Value = map (set_or_old new) (enumerate_from (k + 1) vs) in
    let none = first_none (column_refusal d (c, w)) (map (column_refusal d) (zip cs ws)) e in
    and_from (is_small w) (list_all is_small ws) (small_value c.kind w kinds.0 (fits_column d c w none.0)) (small_set d cs vs (k + 1) m new below (omega (arith, most)) kinds.1 smalls.1 none.1)

-- ---- the rows of a table

abbrev are_small : List Row → Bool
are_small rows = list_all (λ r. list_all is_small r.values) rows

abbrev are_small_at : List RowAt → Bool
are_small_at rows = list_all (λ r. list_all is_small r.values) rows

small_put : (x : RowAt) (ys : List RowAt) → list_all is_small x.values ≡ true → are_small_at ys ≡ true → are_small_at (put_in_order rowid_cmp x ys) ≡ true
small_put x [] h k = and_from (list_all is_small x.values) true h refl
small_put x (y ∷ ys) h k = by (is_lt (rowid_cmp x y)) (small_put x ys h (and_parts (list_all is_small y.values) (are_small_at ys) k).1)
  where
    by : (b : Bool) → are_small_at (put_in_order rowid_cmp x ys) ≡ true → are_small_at (cond b (x ∷ y ∷ ys) (y ∷ put_in_order rowid_cmp x ys)) ≡ true
    by true later = and_from (list_all is_small x.values) (are_small_at (y ∷ ys)) h k
    by false later = and_from (list_all is_small y.values) (are_small_at (put_in_order rowid_cmp x ys)) (and_parts (list_all is_small y.values) (are_small_at ys) k).0 later

small_sort : (done xs : List RowAt) → are_small_at done ≡ true → are_small_at xs ≡ true → are_small_at (sort_onto rowid_cmp done xs) ≡ true
small_sort done [] h k = h
small_sort done (x ∷ xs) h k = let parts = and_parts (list_all is_small x.values) (are_small_at xs) k in small_sort (put_in_order rowid_cmp x done) xs (small_put x done parts.0 h) parts.1

small_plain : (xs : List RowAt) → are_small_at xs ≡ true → are_small (map plain_row xs) ≡ true
small_plain [] h = refl
small_plain (x ∷ xs) h = let parts = and_parts (list_all is_small x.values) (are_small_at xs) h in and_from (list_all is_small x.values) (are_small (map plain_row xs)) parts.0 (small_plain xs parts.1)

small_seen : (scn : ℕ) (s : Stored) → IsStored s → are_small (seen scn s).rows ≡ true
small_seen scn s h = small_plain (sort_onto rowid_cmp [] (rows_living scn s)) (small_sort [] (rows_living scn s) refl (h.small scn))

small_picked : (p : Row → Bool) (rows : List Row) → are_small rows ≡ true → are_small (filter p rows) ≡ true
small_picked p [] h = refl
small_picked p (r ∷ rows) h =
    let parts = and_parts (list_all is_small r.values) (are_small rows) h in
    by (p r) parts.0 (small_picked p rows parts.1)
  where
    by : (b : Bool) → list_all is_small r.values ≡ true → are_small (filter p rows) ≡ true → are_small (cond b (r ∷ filter p rows) (filter p rows)) ≡ true
    by true first rest = and_from (list_all is_small r.values) (are_small (filter p rows)) first rest
    by false first rest = rest

few_picked : (p : Row → Bool) (rows : List Row) → length (filter p rows) ≤ length rows
few_picked p [] = omega arith
few_picked p (r ∷ rows) = by (p r) (few_picked p rows)
  where
    by : (b : Bool) → length (filter p rows) ≤ length rows → length (cond b (r ∷ filter p rows) (filter p rows)) ≤ suc (length rows)
    by true h = omega (arith, h)
    by false h = omega (arith, h)

-- ---- the columns that an UPDATE sets

none_of : {A : Type 0} (f : List ℕ → A) (name : Option (List ℕ)) → option_map f name ≡ None → name ≡ None
none_of f None h = refl
none_of f (Some n) h = cc

column_found : (d : TableDef) (name : List ℕ) → is_none (column_number d name) ≡ false → place_of d name < length d.columns
column_found d name h = by (position_or_len (λ c. same_text c.name name) d.columns) (nat_lt (position_or_len (λ c. same_text c.name name) d.columns) (length d.columns)) refl h
  where
    by : (m : ℕ) (b : Bool) → nat_lt m (length d.columns) ≡ b → is_none (cond b (Some m) None) ≡ false → unwrap_or (cond b (Some m) None) 0 < length d.columns
    by m true less h = ltb-true m (length d.columns) less
    by m false less h = absurd (true≢false h)

all_known : (d : TableDef) (names : List (List ℕ)) → find (λ n. is_none (column_number d n)) names ≡ None → Each (λ (n : List ℕ). is_none (column_number d n) ≡ false) names
all_known d [] h = tt
all_known d (n ∷ names) h = by (is_none (column_number d n)) refl h (all_known d names)
  where
    by : (b : Bool) → is_none (column_number d n) ≡ b → cond b (Some n) (find (λ n. is_none (column_number d n)) names) ≡ None
        → (find (λ n. is_none (column_number d n)) names ≡ None → Each (λ (n : List ℕ). is_none (column_number d n) ≡ false) names)
        → Each (λ (n : List ℕ). is_none (column_number d n) ≡ false) (n ∷ names)
    by true e h later = absurd (cc)
    by false e h later = (e, later h)

each_left : {A : Type 0} (P : A → Type 0) (xs ys : List A) → Each P (xs ++ ys) → Each P xs × Each P ys
each_left P [] ys h = (tt, h)
each_left P (x ∷ xs) ys h = let rest = each_left P xs ys h.1 in ((h.0, rest.0), rest.1)

sets_below : (d : TableDef) (old : List Value) (sets : List SetColumn) → Each (λ (n : List ℕ). is_none (column_number d n) ≡ false) (flat_map set_names sets) → AreBelow (length d.columns) (map (set_value d old) sets)
sets_below d old [] h = tt
sets_below d old (s ∷ sets) h =
    let parts = each_left (λ (n : List ℕ). is_none (column_number d n) ≡ false) (set_names s) (flat_map set_names sets) h in
    (column_found d s.column parts.0.0, sets_below d old sets parts.1)

-- ---- the changes of each kind of statement

abbrev is_small_row : Option (List Value) → Bool
is_small_row new = option_case new true (list_all is_small)

record AreShaped (t : Table) (cs : List Change) : Type 0 where
  small : Each (λ (c : Change). changed_row_refusal t c ≡ None → is_small_row c.new ≡ true) cs
  inserts : Bool
  alike : Each (λ (c : Change). is_none c.old ≡ inserts) cs
  few : inserts ≡ false → length cs ≤ length t.rows

length_count : (n k : ℕ) → length (count_from n k) ≡ k
length_count n zero = refl
length_count n (suc k) = ap suc (length_count (suc n) k)

length_full : (d : TableDef) (given : List (ℕ × Value)) → length (full_row d given) ≡ length d.columns
length_full d given = length-map (count_from 0 (length d.columns)) _ ∙ length_count 0 (length d.columns)

-- the refusals of a row in turn
row_parts : (t : Table) (old : Option (List Value)) (new : List Value) → new_row_refusal t old new ≡ None → first_of (column_refusal t.def) (zip t.def.columns new) ≡ None
row_parts t old new h = (first_none (first_of (column_refusal t.def) (zip t.def.columns new)) _ h).0

-- no row has more values than the table has columns
abbrev AreWithin : TableDef → List (List Value) → Type 0
AreWithin d rows = Each (λ (vs : List Value). length vs ≤ length d.columns) rows

inserted_shape : (t : Table) (rows : List (List Value)) → AreWithin t.def rows → is_sized_def t.def ≡ true → AreShaped t (insert_changes t rows)
inserted_shape t rows within sized = record { small = smalls (suc t.given) rows within; inserts = true; alike = news (suc t.given) rows; few = λ e. absurd (true≢false e) }
  where
    smalls : (k : ℕ) (rows : List (List Value)) → AreWithin t.def rows → Each (λ (c : Change). changed_row_refusal t c ≡ None → is_small_row c.new ≡ true) (map inserted_change (enumerate_from k rows))
    smalls k [] few = tt
    smalls k (r ∷ rows) few = ((λ h. small_row t.def t.def.columns r few.0 sized (row_parts t None r h)), smalls (k + 1) rows few.1)

    news : (k : ℕ) (rows : List (List Value)) → Each (λ (c : Change). is_none c.old ≡ true) (map inserted_change (enumerate_from k rows))
    news k [] = tt
    news k (r ∷ rows) = (refl, news (k + 1) rows)

updated_shape : (t : Table) (sets : List SetColumn) (rows : List Row) → is_sized_def t.def ≡ true → are_small rows ≡ true → length rows ≤ length t.rows
    → Each (λ (n : List ℕ). is_none (column_number t.def n) ≡ false) (flat_map set_names sets) → AreShaped t (map (updated_change t.def sets) rows)
updated_shape t sets rows sized small few known = record {
  small = smalls rows small;
  inserts = false;
  alike = olds rows;
  few = λ e. (let count = length-map rows (updated_change t.def sets) in omega (arith, count, few));
}
  where
    smalls : (rows : List Row) → are_small rows ≡ true → Each (λ (c : Change). changed_row_refusal t c ≡ None → is_small_row c.new ≡ true) (map (updated_change t.def sets) rows)
    smalls [] small = tt
    smalls (r ∷ rows) small =
        let parts = and_parts (list_all is_small r.values) (are_small rows) small in (
          (λ h. small_set t.def t.def.columns r.values 0 (length t.def.columns) (map (set_value t.def r.values) sets) (sets_below t.def r.values sets known) (omega arith) sized parts.0 (row_parts t (Some r.values) (updated_row t.def sets r.values) h)),
          smalls rows parts.1,
        )

    olds : (rows : List Row) → Each (λ (c : Change). is_none c.old ≡ false) (map (updated_change t.def sets) rows)
    olds [] = tt
    olds (r ∷ rows) = (refl, olds rows)

deleted_shape : (t : Table) (rows : List Row) → length rows ≤ length t.rows → AreShaped t (map deleted_change rows)
deleted_shape t rows few = record {
  small = smalls rows;
  inserts = false;
  alike = olds rows;
  few = λ e. (let count = length-map rows deleted_change in omega (arith, count, few));
}
  where
    smalls : (rows : List Row) → Each (λ (c : Change). changed_row_refusal t c ≡ None → is_small_row c.new ≡ true) (map deleted_change rows)
    smalls [] = tt
    smalls (r ∷ rows) = ((λ h. refl), smalls rows)

    olds : (rows : List Row) → Each (λ (c : Change). is_none c.old ≡ false) (map deleted_change rows)
    olds [] = tt
    olds (r ∷ rows) = (refl, olds rows)

-- ---- what a statement asks

abbrev EachOk : (Asks → Type 0) → Result Asks Refusal → Type 0
EachOk P (Ok a) = P a
EachOk P (Err e) = Unit {0}

bind_ok : (P : Asks → Type 0) (o : Option ℕ) (e : Refusal) (f : ℕ → Result Asks Refusal) → ((n : ℕ) → EachOk P (f n)) → EachOk P (or_refuse o e >>= f)
bind_ok P None e f h = tt
bind_ok P (Some n) e f h = h n

unless_ok : (P : Asks → Type 0) (o : Option Refusal) (a : Asks) → (o ≡ None → P a) → EachOk P (unless o a)
unless_ok P None a h = h refl
unless_ok P (Some r) a h = tt

-- the tables of a base state
record AreFit (base : Base) : Type 0 where
  sized : Each (λ (t : Table). is_sized_def t.def ≡ true) base
  small : Each (λ (t : Table). are_small t.rows ≡ true) base

sized_in : (base : Base) (n : ℕ) → Each (λ (t : Table). is_sized_def t.def ≡ true) base → is_sized_def (table_at base n).def ≡ true
sized_in [] n h = refl
sized_in (t ∷ base) zero h = h.0
sized_in (t ∷ base) (suc n) h = sized_in base n h.1

small_in : (base : Base) (n : ℕ) → Each (λ (t : Table). are_small t.rows ≡ true) base → are_small (table_at base n).rows ≡ true
small_in [] n h = refl
small_in (t ∷ base) zero h = h.0
small_in (t ∷ base) (suc n) h = small_in base n h.1

abbrev AreShapedIn : Base → Asks → Type 0
AreShapedIn base a = AreShaped (table_at base a.table) a.changes

full_within : (d : TableDef) (places : List ℕ) (rows : List (List Value)) → AreWithin d (map (λ r. full_row d (zip places r)) rows)
full_within d places [] = tt
full_within d places (r ∷ rows) = ((let same = length_full d (zip places r) in omega (arith, same)), full_within d places rows)

line_within : (cs : List ColumnDef) (fields : List (List ℕ)) → length (map loaded_value (zip cs fields)) ≤ length cs
line_within [] fields = omega arith
line_within (c ∷ cs) [] = omega arith
line_within (c ∷ cs) (f ∷ fields) = let rest = line_within cs fields in omega (arith, rest)

loaded_within : (d : TableDef) (rows : List (List (List ℕ))) → AreWithin d (map (loaded_row d) rows)
loaded_within d [] = tt
loaded_within d (r ∷ rows) = (line_within d.columns r, loaded_within d rows)

-- what refuses a statement of a table, and what it asks else
abbrev insert_refused : TableDef → InsertRows → Option Refusal
insert_refused d s =
    let names = unwrap_or s.columns [] in
    first_some (unknown_column d names ∷ repeated_column names ∷ first_of (given_row_refusal d (named_places d s.columns)) (map (map given_value) s.rows) ∷ [])

abbrev inserted_rows : TableDef → InsertRows → List (List Value)
inserted_rows d s = map (λ r. full_row d (zip (named_places d s.columns) r)) (map (map given_value) s.rows)

abbrev update_refused : ℕ → TableDef → UpdateRows → List (Option Refusal)
update_refused n d s = conditions_unknown n d s.conditions ∷ repeated_column (map (λ x. x.column) s.sets) ∷ first_of (set_refusal d) s.sets ∷ first_of (own_kinds_refusal d (own_column n d)) s.conditions ∷ []

abbrev delete_refused : ℕ → TableDef → DeleteRows → Option Refusal
delete_refused n d s = first_some (conditions_unknown n d s.conditions ∷ first_of (own_kinds_refusal d (own_column n d)) s.conditions ∷ [])

abbrev picked : ℕ → Table → List RawCondition → List Row
picked n t cs = filter (λ r. row_meets n t.def cs r.values) t.rows

abbrev asked : ℕ → List Change → ℕ → Asks
asked n cs scanned = record { table = n; changes = cs; scanned = scanned }

insert_shape : (base : Base) (s : InsertRows) (n : ℕ) → AreFit base → EachOk (AreShapedIn base) (unless (insert_refused (table_at base n).def s) (asked n (insert_changes (table_at base n) (inserted_rows (table_at base n).def s)) 0))
insert_shape base s n fit =
    let t : Table = table_at base n in
    unless_ok (AreShapedIn base) (insert_refused (table_at base n).def s) (asked n (insert_changes (table_at base n) (inserted_rows (table_at base n).def s)) 0)
    (λ none. inserted_shape t (inserted_rows t.def s) (full_within t.def (named_places t.def s.columns) (map (map given_value) s.rows)) (sized_in base n fit.sized))

load_shape : (base : Base) (s : LoadRows) (n : ℕ) → AreFit base
    → EachOk (AreShapedIn base) (unless (first_of (load_row_refusal (table_at base n).def) s.rows) (asked n (insert_changes (table_at base n) (map (loaded_row (table_at base n).def) s.rows)) 0))
load_shape base s n fit =
    let t : Table = table_at base n in
    unless_ok (AreShapedIn base) (first_of (load_row_refusal t.def) s.rows) (asked n (insert_changes t (map (loaded_row t.def) s.rows)) 0)
    (λ none. inserted_shape t (map (loaded_row t.def) s.rows) (loaded_within t.def s.rows) (sized_in base n fit.sized))

update_shape : (base : Base) (s : UpdateRows) (n : ℕ) → AreFit base
    → EachOk (AreShapedIn base) (unless (first_some (unknown_column (table_at base n).def (flat_map set_names s.sets) ∷ update_refused n (table_at base n).def s))
    (asked n (map (updated_change (table_at base n).def s.sets) (picked n (table_at base n) s.conditions)) (length (table_at base n).rows)))
update_shape base s n fit =
    let t : Table = table_at base n in
    let p : (Row → Bool) = (λ r. row_meets n t.def s.conditions r.values) in
    let unknown : Option Refusal = unknown_column t.def (flat_map set_names s.sets) in
    let first : Option (List ℕ) = find (λ m. is_none (column_number t.def m)) (flat_map set_names s.sets) in
    unless_ok (AreShapedIn base) (first_some (unknown ∷ update_refused n t.def s)) (asked n (map (updated_change t.def s.sets) (picked n t s.conditions)) (length t.rows))
    (λ none. updated_shape t s.sets (picked n t s.conditions) (sized_in base n fit.sized) (small_picked p t.rows (small_in base n fit.small)) (few_picked p t.rows)
    (all_known t.def (flat_map set_names s.sets) (none_of NoSuchColumn first (first_none unknown (update_refused n t.def s) none).0)))

delete_shape : (base : Base) (s : DeleteRows) (n : ℕ) → AreFit base
    → EachOk (AreShapedIn base) (unless (delete_refused n (table_at base n).def s) (asked n (map deleted_change (picked n (table_at base n) s.conditions)) (length (table_at base n).rows)))
delete_shape base s n fit =
    let t : Table = table_at base n in
    unless_ok (AreShapedIn base) (delete_refused n t.def s) (asked n (map deleted_change (picked n t s.conditions)) (length t.rows))
    (λ none. deleted_shape t (picked n t s.conditions) (few_picked (λ r. row_meets n t.def s.conditions r.values) t.rows))

shape_of : (base : Base) (s : Statement) → AreFit base → EachOk (AreShapedIn base) (statement_asks base s)
shape_of base (about.Change (Insert s)) fit =
    bind_ok (AreShapedIn base) (table_number (defs_of base) s.table) (NoSuchObject s.table)
    (λ n. unless (insert_refused (table_at base n).def s) (asked n (insert_changes (table_at base n) (inserted_rows (table_at base n).def s)) 0)) (λ n. insert_shape base s n fit)
shape_of base (about.Change (Update s)) fit =
    bind_ok (AreShapedIn base) (table_number (defs_of base) s.table) (NoSuchObject s.table)
    (λ n. unless (first_some (unknown_column (table_at base n).def (flat_map set_names s.sets) ∷ update_refused n (table_at base n).def s))
    (asked n (map (updated_change (table_at base n).def s.sets) (picked n (table_at base n) s.conditions)) (length (table_at base n).rows))) (λ n. update_shape base s n fit)
shape_of base (about.Change (Delete s)) fit =
    bind_ok (AreShapedIn base) (table_number (defs_of base) s.table) (NoSuchObject s.table)
    (λ n. unless (delete_refused n (table_at base n).def s) (asked n (map deleted_change (picked n (table_at base n) s.conditions)) (length (table_at base n).rows))) (λ n. delete_shape base s n fit)
shape_of base (about.Change (Load s)) fit =
    bind_ok (AreShapedIn base) (table_number (defs_of base) s.table) (NoSuchObject s.table)
    (λ n. unless (first_of (load_row_refusal (table_at base n).def) s.rows) (asked n (insert_changes (table_at base n) (map (loaded_row (table_at base n).def) s.rows)) 0)) (λ n. load_shape base s n fit)
shape_of base _ fit = tt

-- ---- in the words of tables

fit_seen : (scn : ℕ) (tables : List Stored) → Each (λ (s : Stored). IsTrue (is_sized_def s.def)) tables → Each IsStored tables → AreFit (base_seen scn tables)
fit_seen scn [] sized stored = record { sized = tt; small = tt }
fit_seen scn (s ∷ tables) sized stored =
    let rest = fit_seen scn tables sized.1 stored.1 in
    record { sized = (sized.0, rest.sized); small = (small_seen scn s stored.0, rest.small) }

each_placed : (P : Change → Type 0) (Q : RowChange → Type 0) (cs : List RowChange) → ((c : RowChange) → P (change_of c) → Q c) → Each P (map change_of cs) → Each Q cs
each_placed P Q [] f h = tt
each_placed P Q (c ∷ cs) f h = (f c h.0, each_placed P Q cs f h.1)

small_placed : (new : Option PlacedRow) → is_small_row (option_map (λ r. r.values) new) ≡ option_case new true (λ r. list_all is_small r.values)
small_placed None = refl
small_placed (Some r) = refl

none_placed : (old : Option PlacedRow) → is_none (option_map (λ (r : PlacedRow). r.values) old) ≡ is_none old
none_placed None = refl
none_placed (Some r) = refl

shaped_placed : (t : Table) (cs : List RowChange) → AreShaped t (map change_of cs) → HaveShape t cs
shaped_placed t cs h = record {
  small = all_from (λ c. changed_row_refusal t (change_of c) ≡ None → IsTrue (is_small_change c)) cs
      (each_placed (λ c. changed_row_refusal t c ≡ None → is_small_row c.new ≡ true) (λ c. changed_row_refusal t (change_of c) ≡ None → IsTrue (is_small_change c)) cs
      (λ c f none. sym (small_placed c.new) ∙ f none) h.small);
  inserts = h.inserts;
  alike = all_from (λ c. is_none c.old ≡ h.inserts) cs (each_placed (λ c. is_none c.old ≡ h.inserts) (λ c. is_none c.old ≡ h.inserts) cs (λ c e. sym (none_placed c.old) ∙ e) h.alike);
  few = λ e. (let count = length-map cs change_of in let most = h.few e in omega (arith, count, most));
}

pub have_shape : (scn : ℕ) (tables : List Stored) (s : Statement) (n : ℕ) (cs : List RowChange) (scanned : ℕ) → All IsStored tables → AreSized tables
    → AsksFor scn tables s n cs scanned → HaveShapeOnceFit (table_at (base_seen scn tables) n) cs
have_shape scn tables s n cs scanned stored sized asks =
    let base : Base = base_seen scn tables in
    let fit = fit_seen scn tables (each_from (λ (s : Stored). IsTrue (is_sized_def s.def)) tables sized.all) (each_from IsStored tables stored) in
    let shaped : AreShaped (table_at base n) asks.asked = subst (EachOk (AreShapedIn base)) asks.is (shape_of base s fit) in
    record { once = λ none. shaped_placed (table_at base n) cs (subst (AreShaped (table_at base n)) (asks.same (asks.refused ∙ none)) shaped) }
