-- What a statement asks of tables, from what its steps give.
use Rattle.std.proofs.Common.{◌≡◌, ◌∙◌, sym, ap, refl, subst, arith, ℕ, suc, ◌+◌, ◌<◌, ◌≤◌, List, [], ◌∷◌, map, length, Option, None, Some, slice_get, IsTrue, true}
use Rattle.std.proofs.lemmas.List.{length-map}
use Rattle.std.specs.List.{All, enumerate_from}
use Rattle.std.specs.Prelude.{Err, IfSome, Ok, Result}
use Rattle.def_effect.specs.Block.{Asks, changed_row_refusal, deleted_change, insert_changes, inserted_change, load_row_refusal, loaded_row, rows_met, statement_asks, the_table, updated_change, updated_row}
use Rattle.wh_base.specs.Lists.{first_of, or_refuse, unless, ◌>>=◌}
use Rattle.wh_base.specs.Tables.{Table, defs_of as base_defs, live_rows, places_of, table_at}
use Rattle.wh_base.specs.declared.replies.Refusal.{Refusal}
use Rattle.wh_base.specs.declared.replies.Refusal.TheVariants.{NoSuchObject}
use Rattle.wh_base.specs.declared.statements.ChangeStatement.TheVariants.{Delete, Insert, Load, Update}
use Rattle.wh_base.specs.declared.statements.DeleteRows.{DeleteRows}
use Rattle.wh_base.specs.declared.statements.InsertRows.{InsertRows}
use Rattle.wh_base.specs.declared.statements.LoadRows.{LoadRows}
use Rattle.wh_base.specs.declared.statements.Statement.TheVariants as about
use Rattle.wh_base.specs.declared.statements.UpdateRows.{UpdateRows}
use Rattle.wh_base.specs.declared.tables.TableDef.{TableDef}
use Rattle.wh_base.specs.declared.values.Value.{Value}
use Rattle.wh_dml.specs.Asked.{AsksFor}
use Rattle.wh_dml.specs.Asking.{asked_from, number_in}
use Rattle.wh_dml.specs.Picking.{deleted_of, inserts_from, rows_picked, updates_from}
use Rattle.wh_dml.specs.declared.asks.Asked.{Asked}
use Rattle.wh_dml.specs.declared.picking.Picked.{Picked}
use Rattle.wh_dml.proofs.Loading.{rows_exact, rows_refused}
use Rattle.wh_dml.proofs.Placing.{AreBeside, Stands, deletes_placed, inserts_placed, picked_beside, picked_stand, updates_placed}
use Rattle.wh_dml.proofs.Shown.{deletes_are, inserts_are, met_are, places_are, row_of, rows_count, table_is, updates_are}
use Rattle.wh_dml.proofs.Sourcing.{asks_is, asks_of}
use Rattle.wh_dml.specs.Changes.{change_of}
use Rattle.wh_dml.specs.Changing.{delete_refusal, filter_of, row_set, update_refusal}
use Rattle.wh_dml.specs.Placed.{ArePlaced}
use Rattle.wh_dml.specs.Sized.{AreSized}
use Rattle.wh_dml.specs.declared.changes.RowChange.{RowChange}
use Rattle.wh_dml.specs.declared.filter.Filter.{Filter}
use Rattle.wh_dml.specs.declared.set_list.SetList.{SetList}
use Rattle.wh_load.specs.Capped.{capped_row, rows_loaded}
use Rattle.wh_load.specs.Sized.{is_sized_def}
use Rattle.wh_table.specs.Kept.{defs_of, tables_at}
use Rattle.wh_table.specs.Stored.{IsStored, Stored, base_seen, given_at, last_scn, live_count, places_at, seen}
use Rattle.wh_table.proofs.Counting.{each_from, each_get}
use Rattle.wh_table.proofs.Ordered.{Each}
use Rattle.wh_table.proofs.Seen.{laws_hold}

-- ---- tables

-- the tables at their SCN, with the one of this number
pub record HasTable (scn : ℕ) (tables : List Stored) (n : ℕ) (s : Stored) : Type 0 where
  pub is : slice_get tables n ≡ Some s
  pub there : n < length tables
  pub stored : IsStored s
  pub settled : last_scn s.versions ≤ scn

pub has_table : (scn : ℕ) (tables : List Stored) (n : ℕ) (s : Stored) → All IsStored tables → All (λ s. last_scn s.versions ≤ scn) tables → n < length tables → slice_get tables n ≡ Some s → HasTable scn tables n s
has_table scn tables n s stored settled there e = record {
  is = e;
  there = there;
  stored = each_get IsStored tables n s e (each_from IsStored tables stored);
  settled = each_get (λ s. last_scn s.versions ≤ scn) tables n s e (each_from (λ s. last_scn s.versions ≤ scn) tables settled);
}

pub defs_seen : (at : ℕ) (tables : List Stored) → base_defs (base_seen at tables) ≡ defs_of tables
defs_seen at [] = refl
defs_seen at (s ∷ tables) = ap (λ ds. s.def ∷ ds) (defs_seen at tables)

-- the table of a name
pub named : (scn : ℕ) (tables : List Stored) (defs : List TableDef) (name : List ℕ) (o : Option ℕ) → defs ≡ defs_of tables → o ≡ number_in defs name → or_refuse o (NoSuchObject name) ≡ the_table (base_seen scn tables) name
unfolding number_in
named scn tables defs name o same e = ap (λ p. or_refuse p (NoSuchObject name)) (e ∙ ap (λ ds. number_in ds name) (same ∙ sym (defs_seen scn tables)))

pub within_tables : (tables : List Stored) (defs : List TableDef) (n : ℕ) → defs ≡ defs_of tables → n < length defs → n < length tables
within_tables tables defs n same h = subst (λ m. n < m) (ap length same ∙ length-map tables (λ s. s.def)) h

-- as many rows are read as live
pub reads_are : (scn : ℕ) (tables : List Stored) (n : ℕ) (s : Stored) → HasTable scn tables n s → length (live_rows (places_of (tables_at scn tables) n)) ≡ live_count s
reads_are scn tables n s h = ap (λ ps. length (live_rows ps)) (places_are scn tables n s h.is) ∙ laws_hold.settles s scn h.settled

some_here : (tables : List Stored) (n : ℕ) (s : Stored) (P : Stored → Type 0) → slice_get tables n ≡ Some s → P s → IfSome (slice_get tables n) P
some_here tables n s P e h = subst (λ o. IfSome o P) (sym e) h

-- ---- UPDATE

-- what an UPDATE asks of its table
abbrev asked_update : ℕ → Table → UpdateRows → Result Asks Refusal
asked_update n t u = unless (update_refusal n t.def u) (record { table = n; changes = map (updated_change t.def u.sets) (rows_met n t u.conditions); scanned = length t.rows })

update_by : (scn : ℕ) (tables : List Stored) (u : UpdateRows) (n : ℕ) (s : Stored) → HasTable scn tables n s → the_table (base_seen scn tables) u.table ≡ Ok n
    → statement_asks (base_seen scn tables) (about.Change (Update u)) ≡ asked_update n (seen scn s) u
update_by scn tables u n s h e =
    ap (λ (r : Result ℕ Refusal). r >>= (λ m. asked_update m (table_at (base_seen scn tables) m) u)) e ∙ ap (λ t. asked_update n t u) (table_is scn tables n s h.is)

pub update_unknown : (scn : ℕ) (tables : List Stored) (u : UpdateRows) (code : Refusal) → the_table (base_seen scn tables) u.table ≡ Err code → statement_asks (base_seen scn tables) (about.Change (Update u)) ≡ Err code
update_unknown scn tables u code e = ap (λ (r : Result ℕ Refusal). r >>= (λ m. asked_update m (table_at (base_seen scn tables) m) u)) e

pub update_refused : (scn : ℕ) (tables : List Stored) (u : UpdateRows) (n : ℕ) (s : Stored) (code : Refusal) → HasTable scn tables n s → the_table (base_seen scn tables) u.table ≡ Ok n → update_refusal n s.def u ≡ Some code
    → statement_asks (base_seen scn tables) (about.Change (Update u)) ≡ Err code
update_refused scn tables u n s code h e refused =
    update_by scn tables u n s h e
    ∙ ap (λ (o : Option Refusal). unless o (record { table = n; changes = map (updated_change s.def u.sets) (rows_met n (seen scn s) u.conditions); scanned = length (seen scn s).rows })) refused

pub update_asked :
    (scn : ℕ) (tables : List Stored) (u : UpdateRows) (n : ℕ) (s : Stored) (f : Filter) (sets : SetList) (rows : List Picked) (place : ℕ) (changes : List RowChange) (scanned : ℕ)
    → HasTable scn tables n s → the_table (base_seen scn tables) u.table ≡ Ok n → update_refusal n s.def u ≡ None
    → f ≡ filter_of n s.def u.conditions → ((old : List Value) → row_set sets old ≡ updated_row s.def u.sets old)
    → rows ≡ rows_picked f (places_of (tables_at scn tables) n) → place ≡ length s.versions → changes ≡ updates_from sets place rows → scanned ≡ live_count s
    → AsksFor scn tables (about.Change (Update u)) n changes scanned
update_asked scn tables u n s f sets rows place changes scanned h e none filtered set picked at made counted =
    let all : rows ≡ rows_picked (filter_of n s.def u.conditions) (places_at scn s) = picked ∙ (λ i. rows_picked (filtered i) (places_are scn tables n s h.is i)) in
    let asked : changes ≡ updates_from sets (length s.versions) rows = made ∙ ap (λ p. updates_from sets p rows) at in
    let are : map (updated_change s.def u.sets) (rows_met n (seen scn s) u.conditions) ≡ map change_of changes =
    ap (map (updated_change s.def u.sets)) (sym (met_are n u.conditions s scn) ∙ ap (map row_of) (sym all))
    ∙ sym (ap (map change_of) asked ∙ updates_are s.def u.sets sets (length s.versions) rows set) in
    let count : length (seen scn s).rows ≡ scanned = rows_count s scn h.settled ∙ sym counted in
    let stand : Each (Stands s) rows = subst (Each (Stands s)) (sym all) (picked_stand (filter_of n s.def u.conditions) s scn h.settled) in
    let beside : AreBeside rows = subst AreBeside (sym all) (picked_beside (filter_of n s.def u.conditions) s scn) in
    record {
      asked = map change_of changes;
      is = update_by scn tables u n s h e
          ∙ ap (λ (o : Option Refusal). unless o (record { table = n; changes = map (updated_change s.def u.sets) (rows_met n (seen scn s) u.conditions); scanned = length (seen scn s).rows })) none
          ∙ (λ i. Ok (record { table = n; changes = are i; scanned = count i }));
      refused = refl;
      same = λ none. refl;
      there = h.there;
      placed = some_here tables n s (λ t. ArePlaced scn t changes) h.is (subst (ArePlaced scn s) (sym asked) (updates_placed scn s sets rows stand beside));
    }

-- ---- DELETE

-- what a DELETE asks of its table
abbrev asked_delete : ℕ → Table → DeleteRows → Result Asks Refusal
asked_delete n t d = unless (delete_refusal n t.def d) (record { table = n; changes = map deleted_change (rows_met n t d.conditions); scanned = length t.rows })

delete_by : (scn : ℕ) (tables : List Stored) (d : DeleteRows) (n : ℕ) (s : Stored) → HasTable scn tables n s → the_table (base_seen scn tables) d.table ≡ Ok n
    → statement_asks (base_seen scn tables) (about.Change (Delete d)) ≡ asked_delete n (seen scn s) d
delete_by scn tables d n s h e =
    ap (λ (r : Result ℕ Refusal). r >>= (λ m. asked_delete m (table_at (base_seen scn tables) m) d)) e ∙ ap (λ t. asked_delete n t d) (table_is scn tables n s h.is)

pub delete_unknown : (scn : ℕ) (tables : List Stored) (d : DeleteRows) (code : Refusal) → the_table (base_seen scn tables) d.table ≡ Err code → statement_asks (base_seen scn tables) (about.Change (Delete d)) ≡ Err code
delete_unknown scn tables d code e = ap (λ (r : Result ℕ Refusal). r >>= (λ m. asked_delete m (table_at (base_seen scn tables) m) d)) e

pub delete_refused : (scn : ℕ) (tables : List Stored) (d : DeleteRows) (n : ℕ) (s : Stored) (code : Refusal) → HasTable scn tables n s → the_table (base_seen scn tables) d.table ≡ Ok n → delete_refusal n s.def d ≡ Some code
    → statement_asks (base_seen scn tables) (about.Change (Delete d)) ≡ Err code
delete_refused scn tables d n s code h e refused =
    delete_by scn tables d n s h e
    ∙ ap (λ (o : Option Refusal). unless o (record { table = n; changes = map deleted_change (rows_met n (seen scn s) d.conditions); scanned = length (seen scn s).rows })) refused

pub delete_asked :
    (scn : ℕ) (tables : List Stored) (d : DeleteRows) (n : ℕ) (s : Stored) (f : Filter) (rows : List Picked) (changes : List RowChange) (scanned : ℕ)
    → HasTable scn tables n s → the_table (base_seen scn tables) d.table ≡ Ok n → delete_refusal n s.def d ≡ None
    → f ≡ filter_of n s.def d.conditions → rows ≡ rows_picked f (places_of (tables_at scn tables) n) → changes ≡ map deleted_of rows → scanned ≡ live_count s
    → AsksFor scn tables (about.Change (Delete d)) n changes scanned
delete_asked scn tables d n s f rows changes scanned h e none filtered picked made counted =
    let all : rows ≡ rows_picked (filter_of n s.def d.conditions) (places_at scn s) = picked ∙ (λ i. rows_picked (filtered i) (places_are scn tables n s h.is i)) in
    let are : map deleted_change (rows_met n (seen scn s) d.conditions) ≡ map change_of changes =
    ap (map deleted_change) (sym (met_are n d.conditions s scn) ∙ ap (map row_of) (sym all)) ∙ sym (ap (map change_of) made ∙ deletes_are rows) in
    let count : length (seen scn s).rows ≡ scanned = rows_count s scn h.settled ∙ sym counted in
    let stand : Each (Stands s) rows = subst (Each (Stands s)) (sym all) (picked_stand (filter_of n s.def d.conditions) s scn h.settled) in
    let beside : AreBeside rows = subst AreBeside (sym all) (picked_beside (filter_of n s.def d.conditions) s scn) in
    record {
      asked = map change_of changes;
      is = delete_by scn tables d n s h e
          ∙ ap (λ (o : Option Refusal). unless o (record { table = n; changes = map deleted_change (rows_met n (seen scn s) d.conditions); scanned = length (seen scn s).rows })) none
          ∙ (λ i. Ok (record { table = n; changes = are i; scanned = count i }));
      refused = refl;
      same = λ none. refl;
      there = h.there;
      placed = some_here tables n s (λ t. ArePlaced scn t changes) h.is (subst (ArePlaced scn s) (sym made) (deletes_placed scn s rows stand beside));
    }

-- ---- INSERT

insert_by : (scn : ℕ) (tables : List Stored) (defs : List TableDef) (s : InsertRows) (r : Result Asked Refusal) → defs ≡ defs_of tables → r ≡ asked_from defs s
    → statement_asks (base_seen scn tables) (about.Change (Insert s)) ≡ r >>= (λ a. Ok (asks_of (base_seen scn tables) a))
insert_by scn tables defs s r same e =
    asks_is (base_seen scn tables) s ∙ ap (λ o. o >>= (λ a. Ok (asks_of (base_seen scn tables) a))) (ap (λ ds. asked_from ds s) (defs_seen scn tables ∙ sym same) ∙ sym e)

pub insert_refused : (scn : ℕ) (tables : List Stored) (defs : List TableDef) (s : InsertRows) (code : Refusal) → defs ≡ defs_of tables → Err code ≡ asked_from defs s
    → statement_asks (base_seen scn tables) (about.Change (Insert s)) ≡ Err code
insert_refused scn tables defs s code same e = insert_by scn tables defs s (Err code) same e

pub insert_asked :
    (scn : ℕ) (tables : List Stored) (defs : List TableDef) (s : InsertRows) (a : Asked) (t : Stored) (rows : List (List Value)) (rowid place : ℕ) (changes : List RowChange)
    → HasTable scn tables a.table t → defs ≡ defs_of tables → Ok a ≡ asked_from defs s → rows ≡ a.rows → rowid ≡ t.given → place ≡ length t.versions → changes ≡ inserts_from (rowid + 1) place rows
    → AsksFor scn tables (about.Change (Insert s)) a.table changes 0
insert_asked scn tables defs s a t rows rowid place changes h same e moved given at made =
    let asked : changes ≡ inserts_from (t.given + 1) (length t.versions) a.rows = made ∙ (λ i. inserts_from (given i + 1) (at i) (moved i)) in
    let all : given_at scn t.versions ≡ t.given = h.stored.given scn h.settled in
    let next : suc (given_at scn t.versions) ≡ t.given + 1 = omega (arith, all) in
    let are : map inserted_change (enumerate_from (suc (table_at (base_seen scn tables) a.table).given) a.rows) ≡ map change_of changes =
    ap (λ (u : Table). map inserted_change (enumerate_from (suc u.given) a.rows)) (table_is scn tables a.table t h.is)
    ∙ ap (λ m. map inserted_change (enumerate_from m a.rows)) next
    ∙ sym (ap (map change_of) asked ∙ inserts_are (t.given + 1) (length t.versions) a.rows) in
    record {
      asked = map change_of changes;
      is = insert_by scn tables defs s (Ok a) same e ∙ (λ i. Ok (record { table = a.table; changes = are i; scanned = 0 }));
      refused = refl;
      same = λ none. refl;
      there = h.there;
      placed = some_here tables a.table t (λ u. ArePlaced scn u changes) h.is (subst (ArePlaced scn t) (sym asked) (inserts_placed scn t a.rows));
    }

-- ---- LOAD

-- what a LOAD asks of its table
abbrev asked_load : ℕ → Table → LoadRows → Result Asks Refusal
asked_load n t l = unless (first_of (load_row_refusal t.def) l.rows) (record { table = n; changes = insert_changes t (map (loaded_row t.def) l.rows); scanned = 0 })

load_by : (scn : ℕ) (tables : List Stored) (l : LoadRows) (n : ℕ) (s : Stored) → HasTable scn tables n s → the_table (base_seen scn tables) l.table ≡ Ok n
    → statement_asks (base_seen scn tables) (about.Change (Load l)) ≡ asked_load n (seen scn s) l
load_by scn tables l n s h e =
    ap (λ (r : Result ℕ Refusal). r >>= (λ m. asked_load m (table_at (base_seen scn tables) m) l)) e ∙ ap (λ t. asked_load n t l) (table_is scn tables n s h.is)

refused_by : {A : Type 0} (o : Option Refusal) (x : A) (code : Refusal) → Err code ≡ unless o x → o ≡ Some code
refused_by None x code e = cc
refused_by (Some r) x code e = cc

not_refused : {A : Type 0} (o : Option Refusal) (x y : A) → Ok y ≡ unless o x → (o ≡ None) × (y ≡ x)
not_refused None x y e = (refl, cc)
not_refused (Some r) x y e = cc

pub load_refused : (scn : ℕ) (tables : List Stored) (l : LoadRows) (n : ℕ) (s : Stored) (code : Refusal) → HasTable scn tables n s → the_table (base_seen scn tables) l.table ≡ Ok n → Err code ≡ rows_loaded s.def l.rows
    → statement_asks (base_seen scn tables) (about.Change (Load l)) ≡ Err code
load_refused scn tables l n s code h e refused =
    load_by scn tables l n s h e
    ∙ ap (λ (o : Option Refusal). unless o (record { table = n; changes = insert_changes (seen scn s) (map (loaded_row s.def) l.rows); scanned = 0 }))
    (refused_by (first_of (load_row_refusal s.def) l.rows) (map (capped_row s.def) l.rows) code refused)

pub load_asked :
    (scn : ℕ) (tables : List Stored) (l : LoadRows) (n : ℕ) (s : Stored) (loaded rows : List (List Value)) (rowid place : ℕ) (changes : List RowChange)
    → HasTable scn tables n s → AreSized tables → the_table (base_seen scn tables) l.table ≡ Ok n → Ok loaded ≡ rows_loaded s.def l.rows
    → rows ≡ loaded → rowid ≡ s.given → place ≡ length s.versions → changes ≡ inserts_from (rowid + 1) place rows
    → AsksFor scn tables (about.Change (Load l)) n changes 0
load_asked scn tables l n s loaded rows rowid place changes h sizes e done moved given at made =
    let t : Table = seen scn s in
    let kept = not_refused (first_of (load_row_refusal s.def) l.rows) (map (capped_row s.def) l.rows) loaded done in
    let asked : changes ≡ inserts_from (s.given + 1) (length s.versions) (map (capped_row s.def) l.rows) =
    made ∙ (λ i. inserts_from (given i + 1) (at i) (moved i)) ∙ ap (inserts_from (s.given + 1) (length s.versions)) kept.1 in
    let all : given_at scn s.versions ≡ s.given = h.stored.given scn h.settled in
    let next : suc (given_at scn s.versions) ≡ s.given + 1 = omega (arith, all) in
    let are : insert_changes t (map (capped_row s.def) l.rows) ≡ map change_of changes =
    ap (λ m. map inserted_change (enumerate_from m (map (capped_row s.def) l.rows))) next
    ∙ sym (ap (map change_of) asked ∙ inserts_are (s.given + 1) (length s.versions) (map (capped_row s.def) l.rows)) in
    let sized : is_sized_def s.def ≡ true = each_get (λ u. IsTrue (is_sized_def u.def)) tables n s h.is (each_from (λ u. IsTrue (is_sized_def u.def)) tables sizes.all) in
    let table : table_at (base_seen scn tables) n ≡ t = table_is scn tables n s h.is in
    let refused : first_of (changed_row_refusal t) (insert_changes t (map (loaded_row s.def) l.rows)) ≡ first_of (changed_row_refusal t) (map change_of changes) =
    rows_refused t (suc t.given) l.rows sized ∙ ap (first_of (changed_row_refusal t)) are in
    record {
      asked = insert_changes t (map (loaded_row s.def) l.rows);
      is = load_by scn tables l n s h e
          ∙ ap (λ (o : Option Refusal). unless o (record { table = n; changes = insert_changes t (map (loaded_row s.def) l.rows); scanned = 0 })) kept.0;
      refused = subst (λ (u : Table). first_of (changed_row_refusal u) (insert_changes t (map (loaded_row s.def) l.rows)) ≡ first_of (changed_row_refusal u) (map change_of changes)) (sym table) refused;
      same = λ none. rows_exact t (suc t.given) l.rows sized (subst (λ (u : Table). first_of (changed_row_refusal u) (insert_changes t (map (loaded_row s.def) l.rows)) ≡ None) table none) ∙ are;
      there = h.there;
      placed = some_here tables n s (λ u. ArePlaced scn u changes) h.is (subst (ArePlaced scn s) (sym asked) (inserts_placed scn s (map (capped_row s.def) l.rows)));
    }
