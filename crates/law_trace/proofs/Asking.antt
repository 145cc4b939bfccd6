-- What a statement of a block may ask of its table: new rows, new values of rows, or that rows go.
use Rattle.std.proofs.Common.{◌<◌, ◌≡◌, ◌∙◌, ap, refl, arith, ℕ, zero, suc, Bool, false, not, List, [], ◌∷◌, length, map, Option, None, ◌==◌}
use Rattle.std.specs.List.{filter}
use Rattle.std.specs.Prelude.{Ok, flat_map, unwrap_or, zip}
use Rattle.std.proofs.lemmas.Bool.{eqb-true, not-false}
use Rattle.std.proofs.lemmas.List.{length-map}
use Rattle.wh_base.specs.Lists.{count_from, first_of, first_some, unless}
use Rattle.wh_base.specs.Tables.{Base, Row, Table, table_at}
use Rattle.wh_base.specs.Values.{given_value}
use Rattle.wh_base.specs.declared.replies.Refusal.{Refusal}
use Rattle.wh_base.specs.declared.statements.ChangeStatement.TheVariants.{Delete, Insert, Load, Update}
use Rattle.wh_base.specs.declared.statements.DeleteRows.{DeleteRows}
use Rattle.wh_base.specs.declared.statements.InsertRows.{InsertRows}
use Rattle.wh_base.specs.declared.statements.LoadRows.{LoadRows}
use Rattle.wh_base.specs.declared.statements.SetColumn.{SetColumn}
use Rattle.wh_base.specs.declared.statements.Statement.{Statement}
use Rattle.wh_base.specs.declared.statements.Statement.TheVariants as about
use Rattle.wh_base.specs.declared.statements.UpdateRows.{UpdateRows}
use Rattle.wh_base.specs.declared.tables.Change.{Change}
use Rattle.wh_base.specs.declared.tables.TableDef.{TableDef}
use Rattle.wh_base.specs.declared.values.Value.{Value}
use Rattle.def_effect.specs.Block.{Asks, conditions_unknown, deleted_change, field_misfits, full_row, given_row_refusal, insert_changes, load_row_refusal, loaded_row, named_places, own_column, own_kinds_refusal, placed_value, repeated_column, row_meets, set_names, set_refusal, statement_asks, the_table, unknown_column, updated_change, wrong_number}
use Rattle.law_trace.proofs.Stepping.{named_there}
use Rattle.law_trace.proofs.Basing.{none_each, none_first, none_where}
use Rattle.law_trace.proofs.Listed.{Each, each_made, each_map}
use Rattle.law_trace.proofs.Outcomes.{EachOk, bind_ok, ok_holds, unless_ok}

-- as many values as the table has columns
abbrev pub IsWide : TableDef → List Value → Type 0
IsWide d vs = length vs ≡ length d.columns

pub data Shape (t : Table) (changes : List Change) : Type 0 where
  Inserts : (rows : List (List Value)) → Each (IsWide t.def) rows → changes ≡ insert_changes t rows → Shape t changes
  Updates : (sets : List SetColumn) (p : Row → Bool) → changes ≡ map (updated_change t.def sets) (filter p t.rows) → Shape t changes
  Deletes : (p : Row → Bool) → changes ≡ map deleted_change (filter p t.rows) → Shape t changes

abbrev Shaped : Base → Asks → Type 0
Shaped base a = Shape (table_at base a.table) a.changes

-- ---- how wide new rows are

counted : (m n : ℕ) → length (count_from m n) ≡ n
counted m zero = refl
counted m (suc n) = ap suc (counted (suc m) n)

full_wide : (d : TableDef) (given : List (ℕ × Value)) → IsWide d (full_row d given)
full_wide d given = length-map (count_from 0 (length d.columns)) (placed_value given) ∙ counted 0 (length d.columns)

suc_same : (m n : ℕ) → suc m ≡ suc n → m ≡ n
suc_same m n e = omega arith

zipped : {A B : Type 0} (xs : List A) (ys : List B) → length xs ≡ length ys → length (zip xs ys) ≡ length xs
zipped [] ys e = refl
zipped (x ∷ xs) [] e = absurd (omega arith)
zipped (x ∷ xs) (y ∷ ys) e = ap suc (zipped xs ys (suc_same (length xs) (length ys) e))

loaded_wide : (d : TableDef) (fields : List (List ℕ)) → load_row_refusal d fields ≡ None → IsWide d (loaded_row d fields)
loaded_wide d fields none =
    let same : not (length d.columns == length fields) ≡ false = none_where _ _ (none_first (wrong_number d d.columns fields) (first_of (field_misfits d) (zip d.columns fields) ∷ []) none) in
    length-map (zip d.columns fields) _ ∙ zipped d.columns fields (eqb-true (length d.columns) (length fields) (not-false (length d.columns == length fields) same))

-- ---- the four statements

abbrev pub given_rows : InsertRows → List (List Value)
given_rows s = map (map given_value) s.rows

abbrev pub insert_refusal : Table → InsertRows → Option Refusal
insert_refusal t s =
    first_some (unknown_column t.def (unwrap_or s.columns []) ∷ repeated_column (unwrap_or s.columns []) ∷ first_of (given_row_refusal t.def (named_places t.def s.columns)) (given_rows s) ∷ [])

abbrev pub inserts : ℕ → Table → InsertRows → Asks
inserts n t s = record { table = n; changes = insert_changes t (map (λ r. full_row t.def (zip (named_places t.def s.columns) r)) (given_rows s)); scanned = 0 }

insert_shape : (base : Base) (s : InsertRows) → EachOk (Shaped base) (statement_asks base (about.Change (Insert s)))
insert_shape base s =
    bind_ok (Shaped base) (the_table base s.table) (λ n. unless (insert_refusal (table_at base n) s) (inserts n (table_at base n) s))
    (λ n e. unless_ok (Shaped base) (insert_refusal (table_at base n) s) (inserts n (table_at base n) s)
    (λ none. Inserts (map (λ r. full_row (table_at base n).def (zip (named_places (table_at base n).def s.columns) r)) (given_rows s))
    (each_made (IsWide (table_at base n).def) (λ r. full_row (table_at base n).def (zip (named_places (table_at base n).def s.columns) r))
    (λ r. full_wide (table_at base n).def (zip (named_places (table_at base n).def s.columns) r)) (given_rows s)) refl))

abbrev pub loads : ℕ → Table → LoadRows → Asks
loads n t s = record { table = n; changes = insert_changes t (map (loaded_row t.def) s.rows); scanned = 0 }

load_shape : (base : Base) (s : LoadRows) → EachOk (Shaped base) (statement_asks base (about.Change (Load s)))
load_shape base s =
    bind_ok (Shaped base) (the_table base s.table) (λ n. unless (first_of (load_row_refusal (table_at base n).def) s.rows) (loads n (table_at base n) s))
    (λ n e. unless_ok (Shaped base) (first_of (load_row_refusal (table_at base n).def) s.rows) (loads n (table_at base n) s)
    (λ none. Inserts (map (loaded_row (table_at base n).def) s.rows)
    (each_map (λ fields. load_row_refusal (table_at base n).def fields ≡ None) (IsWide (table_at base n).def) (loaded_row (table_at base n).def)
    (loaded_wide (table_at base n).def) s.rows (none_each (load_row_refusal (table_at base n).def) s.rows none)) refl))

abbrev pub update_refusal : ℕ → Table → UpdateRows → Option Refusal
update_refusal n t s =
    first_some (
    unknown_column t.def (flat_map set_names s.sets)
    ∷ conditions_unknown n t.def s.conditions
    ∷ repeated_column (map (λ x. x.column) s.sets)
    ∷ first_of (set_refusal t.def) s.sets
    ∷ first_of (own_kinds_refusal t.def (own_column n t.def)) s.conditions
    ∷ [])

abbrev pub updates : ℕ → Table → UpdateRows → Asks
updates n t s = record { table = n; changes = map (updated_change t.def s.sets) (filter (λ r. row_meets n t.def s.conditions r.values) t.rows); scanned = length t.rows }

update_shape : (base : Base) (s : UpdateRows) → EachOk (Shaped base) (statement_asks base (about.Change (Update s)))
update_shape base s =
    bind_ok (Shaped base) (the_table base s.table) (λ n. unless (update_refusal n (table_at base n) s) (updates n (table_at base n) s))
    (λ n e. unless_ok (Shaped base) (update_refusal n (table_at base n) s) (updates n (table_at base n) s)
    (λ none. Updates s.sets (λ r. row_meets n (table_at base n).def s.conditions r.values) refl))

abbrev pub delete_refusal : ℕ → Table → DeleteRows → Option Refusal
delete_refusal n t s = first_some (conditions_unknown n t.def s.conditions ∷ first_of (own_kinds_refusal t.def (own_column n t.def)) s.conditions ∷ [])

abbrev pub deletes : ℕ → Table → DeleteRows → Asks
deletes n t s = record { table = n; changes = map deleted_change (filter (λ r. row_meets n t.def s.conditions r.values) t.rows); scanned = length t.rows }

delete_shape : (base : Base) (s : DeleteRows) → EachOk (Shaped base) (statement_asks base (about.Change (Delete s)))
delete_shape base s =
    bind_ok (Shaped base) (the_table base s.table) (λ n. unless (delete_refusal n (table_at base n) s) (deletes n (table_at base n) s))
    (λ n e. unless_ok (Shaped base) (delete_refusal n (table_at base n) s) (deletes n (table_at base n) s)
    (λ none. Deletes (λ r. row_meets n (table_at base n).def s.conditions r.values) refl))

shapes : (base : Base) (s : Statement) → EachOk (Shaped base) (statement_asks base s)
shapes base (about.Change (Insert s)) = insert_shape base s
shapes base (about.Change (Load s)) = load_shape base s
shapes base (about.Change (Update s)) = update_shape base s
shapes base (about.Change (Delete s)) = delete_shape base s
shapes base s = tt

-- what the statement asks has one of the shapes
pub shape_of : (base : Base) (s : Statement) (a : Asks) → statement_asks base s ≡ Ok a → Shape (table_at base a.table) a.changes
shape_of base s a asks = ok_holds (Shaped base) (statement_asks base s) a (shapes base s) asks

-- ---- the table of a statement that goes through is there

abbrev IsThere : Base → Asks → Type 0
IsThere base a = a.table < length base

asked_there : (base : Base) (s : Statement) → EachOk (IsThere base) (statement_asks base s)
asked_there base (about.Change (Insert s)) =
    bind_ok (IsThere base) (the_table base s.table) (λ n. unless (insert_refusal (table_at base n) s) (inserts n (table_at base n) s))
    (λ n e. unless_ok (IsThere base) (insert_refusal (table_at base n) s) (inserts n (table_at base n) s) (λ none. named_there base s.table n e))
asked_there base (about.Change (Load s)) =
    bind_ok (IsThere base) (the_table base s.table) (λ n. unless (first_of (load_row_refusal (table_at base n).def) s.rows) (loads n (table_at base n) s))
    (λ n e. unless_ok (IsThere base) (first_of (load_row_refusal (table_at base n).def) s.rows) (loads n (table_at base n) s) (λ none. named_there base s.table n e))
asked_there base (about.Change (Update s)) =
    bind_ok (IsThere base) (the_table base s.table) (λ n. unless (update_refusal n (table_at base n) s) (updates n (table_at base n) s))
    (λ n e. unless_ok (IsThere base) (update_refusal n (table_at base n) s) (updates n (table_at base n) s) (λ none. named_there base s.table n e))
asked_there base (about.Change (Delete s)) =
    bind_ok (IsThere base) (the_table base s.table) (λ n. unless (delete_refusal n (table_at base n) s) (deletes n (table_at base n) s))
    (λ n e. unless_ok (IsThere base) (delete_refusal n (table_at base n) s) (deletes n (table_at base n) s) (λ none. named_there base s.table n e))
asked_there base s = tt

pub is_there : (base : Base) (s : Statement) (a : Asks) → statement_asks base s ≡ Ok a → a.table < length base
is_there base s a asks = ok_holds (IsThere base) (statement_asks base s) a (asked_there base s) asks
