-- The definitions of tables are right: what they name is there.
use Rattle.std.proofs.Common.{◌≡◌, ◌≢◌, ◌∙◌, sym, ap, refl, subst, arith, ℕ, zero, suc, ◌+◌, ◌<◌, Bool, true, false, cond, not, List, [], ◌∷◌, ◌++◌, length, map, Option, None, Some, nat_le, nat_lt, true≢false}
use Rattle.std.proofs.lemmas.Option.{same_Some}
use Rattle.std.specs.List.{All, cons_option, find, position, position_or_len}
use Rattle.std.specs.Prelude.{filter_map, is_none, is_some, option_and_then, option_map, slice_get, unwrap_or}
use Rattle.std.proofs.lemmas.Bool.{and_parts, lt-ltb, not-false}
use Rattle.std.proofs.lemmas.List.{length-append, length-map, map-append}
use Rattle.std.proofs.lemmas.Slice.Eq.{bytes_eq-Decides}
use Rattle.wh_base.specs.Lists.{first_of, has_text, option_case, same_text, where_true}
use Rattle.wh_base.specs.Tables.{Base, Table, def_at, defs_of, empty_def, is_key, table_after, table_at, table_number}
use Rattle.wh_base.specs.declared.replies.Counted.TheVariants.{Columns, Partitions, Tables}
use Rattle.wh_base.specs.declared.replies.Refusal.{Refusal}
use Rattle.wh_base.specs.declared.replies.Refusal.TheVariants.{NameTaken, NoSuchColumn, NoSuchObject, NotAKey, TooManyObjects, ValueDoesNotFit}
use Rattle.wh_base.specs.declared.statements.Event.{Event}
use Rattle.wh_base.specs.declared.statements.NewColumn.{NewColumn}
use Rattle.wh_base.specs.declared.statements.NewForeign.{NewForeign}
use Rattle.wh_base.specs.declared.statements.NewKey.{NewKey}
use Rattle.wh_base.specs.declared.statements.NewTable.{NewTable}
use Rattle.wh_base.specs.declared.statements.Partitioning.{Partitioning}
use Rattle.wh_base.specs.declared.tables.ColumnDef.{ColumnDef}
use Rattle.wh_base.specs.declared.tables.ForeignDef.{ForeignDef}
use Rattle.wh_base.specs.declared.tables.TableDef.{TableDef}
use Rattle.def_effect.specs.Define.{column_called, define_refusal, defined, foreign_def, foreign_refusal, foreign_to, is_key_of_sort, is_no_column, max_columns, max_objects, max_parts, new_column, new_column_refusal, new_column_sort, new_columns, new_foreign, new_key_refusal, new_keys, new_place, new_ranges, parent_def, partitioning_refusal, referred, refers_to_key, size_holds, table_def}
use Rattle.def_effect.specs.Partitions.{alter_part}
use Rattle.def_history.specs.Catalog.{defs_now}
use Rattle.def_resolve.specs.Earlier.{first_after, first_in_turn}
use Rattle.def_resolve.specs.Kinds.{Sort, agrees, part_sort}
use Rattle.wh_base.specs.declared.columns.ColPart.TheVariants.{Col}
use Rattle.law_trace.proofs.Basing.{KeepsBase, base_holds, made_of, none_each, none_first, none_rest, none_where}
use Rattle.law_trace.proofs.Listed.{Each, Pairs, all_from, each_append, each_every, each_left, each_right, each_two, each_unmap, each_weaker, pairs_from}
use Rattle.law_trace.proofs.Outcomes.{ok_holds}
use Rattle.law_trace.proofs.Parenting.{find_none}
use Rattle.law_trace.proofs.Stepping.{HasDef, part_keeps, within_places}
use Rattle.law_trace.proofs.Tabling.{with_table_defs, with_table_still}
use Rattle.law_trace.specs.Reached.{catalog_of, still}
use Rattle.law_trace.specs.Rows.{IsDefined}

-- ---- places

one_more : (n : ℕ) → 1 + n ≡ suc n
one_more n = omega arith

-- what is found stands at its place
pub found_place : {A : Type 0} (p : A → Bool) (xs : List A) → is_none (find p xs) ≡ false → (position_or_len p xs < length xs) × (slice_get xs (position_or_len p xs) ≡ find p xs)
found_place p [] e = absurd (true≢false e)
found_place p (x ∷ xs) e = by (p x) e (found_place p xs)
  where
    by : (b : Bool) → is_none (cond b (Some x) (find p xs)) ≡ false
        → (is_none (find p xs) ≡ false → (position_or_len p xs < length xs) × (slice_get xs (position_or_len p xs) ≡ find p xs))
        → (cond (not b) (1 + position_or_len p xs) 0 < length (x ∷ xs)) × (slice_get (x ∷ xs) (cond (not b) (1 + position_or_len p xs) 0) ≡ cond b (Some x) (find p xs))
    by true e later = (omega arith, refl)
    by false e later =
        let h : (position_or_len p xs < length xs) × (slice_get xs (position_or_len p xs) ≡ find p xs) = later e in
        (omega (arith, h.0), ap (λ n. slice_get (x ∷ xs) n) (one_more (position_or_len p xs)) ∙ h.1)

pub found_position : {A : Type 0} (p : A → Bool) (xs : List A) → is_none (find p xs) ≡ false → position p xs ≡ Some (position_or_len p xs)
found_position p xs e = ap (λ b. cond b (Some (position_or_len p xs)) None) (lt-ltb (position_or_len p xs) (length xs) (found_place p xs e).0)

pub each_given : {A B : Type 0} (P : A → Type 0) (Q : B → Type 0) (f : A → Option B) → ((x : A) (y : B) → P x → f x ≡ Some y → Q y) → (xs : List A) → Each P xs → Each Q (filter_map f xs)
each_given P Q f k [] h = tt
each_given {B = B} P Q f k (x ∷ xs) h = by (f x) refl (each_given P Q f k xs h.1)
  where
    by : (o : Option B) → f x ≡ o → Each Q (filter_map f xs) → Each Q (cons_option o (filter_map f xs))
    by None is rest = rest
    by (Some y) is rest = (k x y h.0 is, rest)

-- ---- what no refusal of CREATE TABLE says

record Accepts (defs : List TableDef) (s : NewTable) : Type 0 where
  columns : first_in_turn (new_column_refusal s.name) (new_columns s) ≡ None
  foreign : first_of (foreign_refusal defs s.name (new_columns s)) (new_foreign s) ≡ None

accepts : (taken : List (List ℕ)) (defs : List TableDef) (s : NewTable) → define_refusal taken defs s ≡ None → Accepts defs s
accepts taken defs s none =
    let a : Option Refusal = where_true (has_text taken s.name) (NameTaken s.name) in
    let b : Option Refusal = where_true (nat_le max_objects (length defs)) (TooManyObjects Tables) in
    let c : Option Refusal = where_true (nat_lt max_columns (length (new_columns s))) (TooManyObjects Columns) in
    let d : Option Refusal = where_true (nat_lt max_parts (length (new_ranges s))) (TooManyObjects Partitions) in
    let columns : Option Refusal = first_in_turn (new_column_refusal s.name) (new_columns s) in
    let keys : Option Refusal = first_in_turn (new_key_refusal (new_columns s)) (new_keys s) in
    let foreign : Option Refusal = first_of (foreign_refusal defs s.name (new_columns s)) (new_foreign s) in
    let parts : Option Refusal = option_and_then (partitioning_refusal s.name (new_columns s)) s.partitioning in
    let from_b = none_rest a (b ∷ c ∷ d ∷ columns ∷ keys ∷ foreign ∷ parts ∷ []) none in
    let from_c = none_rest b (c ∷ d ∷ columns ∷ keys ∷ foreign ∷ parts ∷ []) from_b in
    let from_d = none_rest c (d ∷ columns ∷ keys ∷ foreign ∷ parts ∷ []) from_c in
    let from_columns = none_rest d (columns ∷ keys ∷ foreign ∷ parts ∷ []) from_d in
    let from_keys = none_rest columns (keys ∷ foreign ∷ parts ∷ []) from_columns in
    let from_foreign = none_rest keys (foreign ∷ parts ∷ []) from_keys in
    record { columns = none_first columns (keys ∷ foreign ∷ parts ∷ []) from_columns; foreign = none_first foreign (parts ∷ []) from_foreign }

-- ---- the names of columns

name_apart : (earlier : List NewColumn) (name : List ℕ) → is_some (column_called earlier name) ≡ false → Each (λ e. e.name ≢ name) earlier
name_apart earlier name e =
    each_weaker (λ c. same_text c.name name ≡ false) (λ c. c.name ≢ name) (λ c differ same. true≢false (sym ((bytes_eq-Decides c.name name).1 same) ∙ differ)) earlier
    (find_none (λ c. same_text c.name name) earlier (none_of (column_called earlier name) e))
  where
    none_of : (o : Option NewColumn) → is_some o ≡ false → o ≡ None
    none_of None e = refl
    none_of (Some c) e = absurd (true≢false e)

column_apart : (table : List ℕ) (earlier : List NewColumn) (c : NewColumn) → new_column_refusal table earlier c ≡ None → Each (λ e. e.name ≢ c.name) earlier
column_apart table earlier c none =
    name_apart earlier c.name
    (none_where (is_some (column_called earlier c.name)) (NameTaken c.name)
    (none_first (where_true (is_some (column_called earlier c.name)) (NameTaken c.name)) (where_true (not (size_holds c.kind)) (ValueDoesNotFit table c.name) ∷ []) none))

abbrev NamesApart : NewColumn → NewColumn → Type 0
NamesApart a b = a.name ≢ b.name

-- each differs from all before it, so all differ
columns_apart : (table : List ℕ) (earlier xs : List NewColumn) → first_after (new_column_refusal table) earlier xs ≡ None → Each (λ a. Each (NamesApart a) xs) earlier × Pairs NamesApart xs
columns_apart table earlier [] none = (each_every (λ a. Each (NamesApart a) []) (λ a. tt) earlier, tt)
columns_apart table earlier (x ∷ xs) none =
    let first : Option Refusal = new_column_refusal table earlier x in
    let rest : Option Refusal = first_after (new_column_refusal table) (earlier ++ x ∷ []) xs in
    let h : Each (λ a. Each (NamesApart a) xs) (earlier ++ x ∷ []) × Pairs NamesApart xs = columns_apart table (earlier ++ x ∷ []) xs (none_first rest [] (none_rest first (rest ∷ []) none)) in
    let now : Each (λ e. e.name ≢ x.name) earlier = column_apart table earlier x (none_first first (rest ∷ []) none) in (
      each_two (λ a. NamesApart a x) (λ a. Each (NamesApart a) xs) earlier now (each_left (λ a. Each (NamesApart a) xs) earlier (x ∷ []) h.0),
      ((each_right (λ a. Each (NamesApart a) xs) earlier (x ∷ []) h.0).0, h.1),
    )

abbrev ColumnsApart : ColumnDef → ColumnDef → Type 0
ColumnsApart a b = a.name ≢ b.name

made_apart : (s : NewTable) (a : NewColumn) (xs : List NewColumn) → Each (NamesApart a) xs → Each (ColumnsApart (new_column s a)) (map (new_column s) xs)
made_apart s a [] h = tt
made_apart s a (x ∷ xs) h = (h.0, made_apart s a xs h.1)

all_apart : (s : NewTable) (xs : List NewColumn) → Pairs NamesApart xs → Pairs ColumnsApart (map (new_column s) xs)
all_apart s [] h = tt
all_apart s (x ∷ xs) h = (made_apart s x xs h.0, all_apart s xs h.1)

-- ---- keys and foreign keys

-- the place is one of a column of the new table
new_within : (s : NewTable) (name : List ℕ) (k : ℕ) → new_place s name ≡ Some k → k < length (map (new_column s) (new_columns s))
new_within s name k e =
    let many : length (map (new_column s) (new_columns s)) ≡ length (new_columns s) = length-map (new_columns s) (new_column s) in
    let low : k < length (new_columns s) = within_places (λ c. same_text c.name name) (new_columns s) k e in
    omega arith

new_there : (s : NewTable) (name : List ℕ) → is_no_column (new_columns s) name ≡ false → unwrap_or (new_place s name) 0 < length (map (new_column s) (new_columns s))
new_there s name e =
    let found : new_place s name ≡ Some (position_or_len (λ c. same_text c.name name) (new_columns s)) = found_position (λ c. same_text c.name name) (new_columns s) e in
    subst (λ o. unwrap_or o 0 < length (map (new_column s) (new_columns s))) (sym found) (new_within s name _ found)

-- what a foreign key meets
abbrev RefersTo : List TableDef → ForeignDef → Type 0
RefersTo defs f = (f.table < length defs) × (is_key (def_at defs f.table) f.to ≡ true)

abbrev Foreign : List TableDef → NewTable → ForeignDef → Type 0
Foreign defs s f = (f.column < length (map (new_column s) (new_columns s))) × RefersTo defs f

none_case : {A : Type 0} (o : Option A) (test : A → Bool) (x : A) → o ≡ Some x → option_case o false test ≡ true → test x ≡ true
none_case None test x e h = absurd (cc)
none_case (Some y) test x e h = subst (λ z. test z ≡ true) (same_Some y x e) h

abbrev has_name : List ℕ → TableDef → Bool
has_name name d = same_text d.name name

-- the table that is found has the number that is found
numbered_found : (defs : List TableDef) (name : List ℕ) (n : ℕ) → table_number defs name ≡ Some n → is_none (find (has_name name) defs) ≡ false → find (has_name name) defs ≡ Some (def_at defs n)
numbered_found defs name n is found =
    let same : position_or_len (has_name name) defs ≡ n = same_Some _ n (sym (found_position (has_name name) defs found) ∙ is) in
    let at : slice_get defs n ≡ find (has_name name) defs = subst (λ k. slice_get defs k ≡ find (has_name name) defs) same (found_place (has_name name) defs found).1 in
    by (find (has_name name) defs) refl found at
  where
    by : (o : Option TableDef) → find (has_name name) defs ≡ o → is_none o ≡ false → slice_get defs n ≡ o → o ≡ Some (def_at defs n)
    by None e found at = absurd (true≢false found)
    by (Some d) e found at = sym (ap (λ o. Some (unwrap_or o empty_def)) at)

abbrev foreign_made : NewTable → NewForeign → ℕ → ℕ → ForeignDef
foreign_made s f n to = record { column = unwrap_or (new_place s f.column) 0; table = n; to = to; rely = f.reference.rely }

abbrev key_of : NewTable → NewForeign → TableDef → Bool
key_of s f d = refers_to_key d f.reference (new_column_sort (new_columns s) f.column)

-- what no refusal of a foreign key says
record Meets (defs : List TableDef) (s : NewTable) (f : NewForeign) : Type 0 where
  column : is_no_column (new_columns s) f.column ≡ false
  parent : is_none (find (has_name f.reference.table) defs) ≡ false
  key : option_case (find (has_name f.reference.table) defs) false (key_of s f) ≡ true

meets : (defs : List TableDef) (s : NewTable) (f : NewForeign) → foreign_refusal defs s.name (new_columns s) f ≡ None → Meets defs s f
meets defs s f none =
    let column : Option Refusal = where_true (is_no_column (new_columns s) f.column) (NoSuchColumn f.column) in
    let parent : Option Refusal = where_true (is_none (parent_def defs f.reference)) (NoSuchObject f.reference.table) in
    let key : Option Refusal = where_true (not (option_case (parent_def defs f.reference) false (key_of s f))) (NotAKey s.name f.column) in
    let second = none_rest column (parent ∷ key ∷ []) none in
    let third = none_rest parent (key ∷ []) second in
    record {
      column = none_where (is_no_column (new_columns s) f.column) (NoSuchColumn f.column) (none_first column (parent ∷ key ∷ []) none);
      parent = none_where (is_none (parent_def defs f.reference)) (NoSuchObject f.reference.table) (none_first parent (key ∷ []) second);
      key = not-false (option_case (parent_def defs f.reference) false (key_of s f))
          (none_where (not (option_case (parent_def defs f.reference) false (key_of s f))) (NotAKey s.name f.column) (none_first key [] third));
    }

foreign_at : (defs : List TableDef) (s : NewTable) (f : NewForeign) (g : ForeignDef) (n : ℕ) → Meets defs s f → table_number defs f.reference.table ≡ Some n
    → (o : Option ℕ) → referred (def_at defs n) f.reference ≡ o → option_map (foreign_made s f n) o ≡ Some g → Foreign defs s g
foreign_at defs s f g n h is None refers made = absurd (cc)
foreign_at defs s f g n h is (Some to) refers made =
    let same : foreign_made s f n to ≡ g = same_Some (foreign_made s f n to) g made in
    let parent : key_of s f (def_at defs n) ≡ true =
    none_case (find (has_name f.reference.table) defs) (key_of s f) (def_at defs n) (numbered_found defs f.reference.table n is h.parent) h.key in
    let sort : Sort = new_column_sort (new_columns s) f.column in
    let key : is_key_of_sort (def_at defs n) to sort ≡ true = none_case (referred (def_at defs n) f.reference) (λ c. is_key_of_sort (def_at defs n) c sort) to refers parent in
    subst (Foreign defs s) same
    (new_there s f.column h.column, (within_places (has_name f.reference.table) defs n is, (and_parts (is_key (def_at defs n) to) (agrees (part_sort (def_at defs n) (Col to)) sort) key).0))

foreign_holds : (defs : List TableDef) (s : NewTable) (f : NewForeign) (g : ForeignDef) → foreign_refusal defs s.name (new_columns s) f ≡ None → foreign_def defs s f ≡ Some g → Foreign defs s g
foreign_holds defs s f g none made = by (table_number defs f.reference.table) refl made
  where
    by : (o : Option ℕ) → table_number defs f.reference.table ≡ o → option_and_then (foreign_to defs s f) o ≡ Some g → Foreign defs s g
    by None is made = absurd (cc)
    by (Some n) is made = foreign_at defs s f g n (meets defs s f none) is (referred (def_at defs n) f.reference) refl made

-- ---- a definition

-- the place is one of a column
abbrev IsPlace : TableDef → ℕ → Type 0
IsPlace d k = k < length d.columns

record Right (defs : List TableDef) (d : TableDef) : Type 0 where
  keys : Each (IsPlace d) d.keys
  foreign : Each (λ f. IsPlace d f.column) d.foreign
  parents : Each (RefersTo defs) d.foreign
  part_key : (k : ℕ) → d.part_key ≡ Some k → IsPlace d k
  names : Pairs ColumnsApart d.columns

abbrev AnyKey : NewKey → Type 0
AnyKey k = Unit {0}

part_within : (s : NewTable) (o : Option Partitioning) (k : ℕ) → option_and_then (λ (p : Partitioning). new_place s p.column) o ≡ Some k → k < length (map (new_column s) (new_columns s))
part_within s None k e = absurd (cc)
part_within s (Some p) k e = new_within s p.column k e

new_right : (taken : List (List ℕ)) (defs : List TableDef) (s : NewTable) → define_refusal taken defs s ≡ None → Right defs (table_def defs s)
new_right taken defs s none =
    let h : Accepts defs s = accepts taken defs s none in
    let passed : Each (λ f. foreign_refusal defs s.name (new_columns s) f ≡ None) (new_foreign s) = none_each (foreign_refusal defs s.name (new_columns s)) (new_foreign s) h.foreign in
    record {
      keys = each_given AnyKey (IsPlace (table_def defs s)) (λ k. new_place s k.column) (λ k i any is. new_within s k.column i is) (new_keys s) (each_every AnyKey (λ k. tt) (new_keys s));
      foreign = each_given (λ f. foreign_refusal defs s.name (new_columns s) f ≡ None) (λ g. IsPlace (table_def defs s) g.column) (foreign_def defs s)
          (λ f g e is. (foreign_holds defs s f g e is).0) (new_foreign s) passed;
      parents = each_given (λ f. foreign_refusal defs s.name (new_columns s) f ≡ None) (RefersTo defs) (foreign_def defs s) (λ f g e is. (foreign_holds defs s f g e is).1) (new_foreign s) passed;
      part_key = part_within s s.partitioning;
      names = all_apart s (new_columns s) (columns_apart s.name [] (new_columns s) h.columns).1;
    }

-- ---- a table more

def_more : (defs : List TableDef) (e : TableDef) (n : ℕ) → n < length defs → def_at defs n ≡ def_at (defs ++ e ∷ []) n
def_more [] e n low = absurd (omega arith)
def_more (d ∷ defs) e zero low = refl
def_more (d ∷ defs) e (suc n) low = def_more defs e n (omega arith)

refers_later : (defs : List TableDef) (e : TableDef) (f : ForeignDef) → RefersTo defs f → RefersTo (defs ++ e ∷ []) f
refers_later defs e f h =
    let many : length (defs ++ e ∷ []) ≡ length defs + length (e ∷ []) = length-append defs (e ∷ []) in
    (omega (arith, h.0), subst (λ d. is_key d f.to ≡ true) (def_more defs e f.table h.0) h.1)

right_later : (defs : List TableDef) (e d : TableDef) → Right defs d → Right (defs ++ e ∷ []) d
right_later defs e d h =
    record { keys = h.keys; foreign = h.foreign; parents = each_weaker (RefersTo defs) (RefersTo (defs ++ e ∷ [])) (refers_later defs e) d.foreign h.parents; part_key = h.part_key; names = h.names }

abbrev AllRight : List TableDef → Type 0
AllRight defs = Each (Right defs) defs

-- the row movement tells nothing of it
abbrev IsRight : Base → Type 0
IsRight base = AllRight (map still (defs_of base))

pub def_still : (defs : List TableDef) (n : ℕ) → def_at (map still defs) n ≡ still (def_at defs n)
def_still [] n = refl
def_still (d ∷ defs) zero = refl
def_still (d ∷ defs) (suc n) = def_still defs n

refers_still : (defs : List TableDef) (f : ForeignDef) → RefersTo defs f → RefersTo (map still defs) f
refers_still defs f h =
    let many : length (map still defs) ≡ length defs = length-map defs still in
    (omega (arith, h.0), ap (λ (d : TableDef). is_key d f.to) (def_still defs f.table) ∙ h.1)

refers_back : (defs : List TableDef) (f : ForeignDef) → RefersTo (map still defs) f → RefersTo defs f
refers_back defs f h =
    let many : length (map still defs) ≡ length defs = length-map defs still in
    (omega (arith, h.0), sym (ap (λ (d : TableDef). is_key d f.to) (def_still defs f.table)) ∙ h.1)

right_still : (defs : List TableDef) (d : TableDef) → Right defs d → Right (map still defs) (still d)
right_still defs d h =
    record { keys = h.keys; foreign = h.foreign; parents = each_weaker (RefersTo defs) (RefersTo (map still defs)) (refers_still defs) d.foreign h.parents; part_key = h.part_key; names = h.names }

right_back : (defs : List TableDef) (d : TableDef) → Right (map still defs) (still d) → Right defs d
right_back defs d h =
    record { keys = h.keys; foreign = h.foreign; parents = each_weaker (RefersTo (map still defs)) (RefersTo defs) (refers_back defs) d.foreign h.parents; part_key = h.part_key; names = h.names }

keep_right : KeepsBase IsRight
keep_right =
    record {
      none = tt;
      asked = λ kept p s a passes h. subst AllRight (sym (ap (map still) (with_table_defs p.base a.table (table_after (table_at p.base a.table) (made_of p.base a)) refl))) h;
      created = λ taken base t fits h.
          let defs : List TableDef = defs_of base in
          let new : TableDef = table_def defs t in
          let stills : List TableDef = map still defs in
          let last : Right (map still (defs ++ new ∷ [])) (still new) = right_still (defs ++ new ∷ []) new (right_later defs new new (new_right taken defs t fits)) in
          subst AllRight (sym (ap (map still) (map-append (λ (t : Table). t.def) base (defined defs t ∷ [])) ∙ map-append still defs (new ∷ [])))
          (each_append (Right (stills ++ still new ∷ [])) stills (still new ∷ []) (each_weaker (Right stills) (Right (stills ++ still new ∷ [])) (right_later stills (still new)) stills h)
          (subst (λ ds. Right ds (still new)) (map-append still defs (new ∷ [])) last, tt));
      cut = λ kept base n change a same h.
          subst AllRight
          (sym (with_table_still base n a.table (ok_holds (HasDef (table_at base n)) (alter_part kept base n (table_at base n) change) a (part_keeps kept base n (table_at base n) change) same))) h;
    }

right_defined : (defs : List TableDef) (d : TableDef) → Right defs d → IsDefined defs d
right_defined defs d h =
    record {
      keys = all_from (IsPlace d) d.keys h.keys;
      foreign = all_from (λ f. IsPlace d f.column) d.foreign h.foreign;
      parents = all_from (RefersTo defs) d.foreign h.parents;
      part_key = λ k e. h.part_key k e;
      names = pairs_from ColumnsApart d.columns h.names;
    }

pub trace_defined : (trace : List Event) → All (IsDefined (defs_now (catalog_of trace))) (defs_now (catalog_of trace))
trace_defined trace =
    let defs : List TableDef = defs_now (catalog_of trace) in
    all_from (IsDefined defs) defs
    (each_weaker (λ d. Right (map still defs) (still d)) (IsDefined defs) (λ d h. right_defined defs d (right_back defs d h)) defs (each_unmap (Right (map still defs)) still defs (base_holds IsRight keep_right trace)))
