-- There are 64 tables at most, and columns have their sizes.
use Rattle.std.proofs.Common.{◌≡◌, refl, arith, ℕ, ◌+◌, ◌<◌, ◌≤◌, true, false, not, List, [], ◌∷◌, ◌++◌, length, map, Option, None, Some, nat_le, nat_lt}
use Rattle.std.specs.List.{list_all}
use Rattle.std.specs.Prelude.{ℤ, is_some, negsuc, option_and_then, pos}
use Rattle.std.proofs.lemmas.Bool.{and_from, and_parts, leb-false, not-false}
use Rattle.std.proofs.lemmas.List.{length-append, length-map}
use Rattle.wh_base.specs.Lists.{first_of, has_text, where_true}
use Rattle.wh_base.specs.Tables.{Base, Table, defs_of, table_after, table_at, with_table}
use Rattle.wh_base.specs.declared.replies.Counted.TheVariants.{Columns, Partitions, Tables}
use Rattle.wh_base.specs.declared.replies.Refusal.{Refusal}
use Rattle.wh_base.specs.declared.replies.Refusal.TheVariants.{NameTaken, TooManyObjects, ValueDoesNotFit}
use Rattle.wh_base.specs.declared.statements.NewColumn.{NewColumn}
use Rattle.wh_base.specs.declared.statements.NewTable.{NewTable}
use Rattle.wh_base.specs.declared.statements.RawKind.{RawKind}
use Rattle.wh_base.specs.declared.statements.RawKind.TheVariants.{Bytes, Days, Digits}
use Rattle.wh_base.specs.declared.tables.ColumnDef.{ColumnDef}
use Rattle.wh_base.specs.declared.tables.TableDef.{TableDef}
use Rattle.def_effect.specs.Define.{column_called, define_refusal, foreign_refusal, max_columns, max_objects, max_parts, new_column, new_column_refusal, new_columns, new_foreign, new_key_refusal, new_keys, new_kind, new_ranges, partitioning_refusal, size_holds}
use Rattle.def_history.specs.Catalog.{base_now, defs_now}
use Rattle.def_resolve.specs.Earlier.{first_after, first_in_turn}
use Rattle.law_trace.proofs.Basing.{KeepsBase, KeepsTable, base_holds, each_table, made, made_of, none_first, none_rest, none_where}
use Rattle.law_trace.proofs.Listed.{all_from, each_map}
use Rattle.law_trace.proofs.Untouched.{with_length}
use Rattle.law_trace.specs.Reached.{catalog_of}
use Rattle.law_views.specs.Laws.{TableSizes, is_sized}

-- ---- what no refusal of CREATE TABLE says

record Accepts (defs : List TableDef) (s : NewTable) : Type 0 where
  few : nat_le max_objects (length defs) ≡ false
  columns : first_in_turn (new_column_refusal s.name) (new_columns s) ≡ None

accepts : (taken : List (List ℕ)) (defs : List TableDef) (s : NewTable) → define_refusal taken defs s ≡ None → Accepts defs s
accepts taken defs s none =
    let a : Option Refusal = where_true (has_text taken s.name) (NameTaken s.name) in
    let b : Option Refusal = where_true (nat_le max_objects (length defs)) (TooManyObjects Tables) in
    let c : Option Refusal = where_true (nat_lt max_columns (length (new_columns s))) (TooManyObjects Columns) in
    let d : Option Refusal = where_true (nat_lt max_parts (length (new_ranges s))) (TooManyObjects Partitions) in
    let columns : Option Refusal = first_in_turn (new_column_refusal s.name) (new_columns s) in
    let keys : Option Refusal = first_in_turn (new_key_refusal (new_columns s)) (new_keys s) in
    let foreign : Option Refusal = first_of (foreign_refusal defs s.name (new_columns s)) (new_foreign s) in
    let parts : Option Refusal = option_and_then (partitioning_refusal s.name (new_columns s)) s.partitioning in
    let from_b = none_rest a (b ∷ c ∷ d ∷ columns ∷ keys ∷ foreign ∷ parts ∷ []) none in
    let from_c = none_rest b (c ∷ d ∷ columns ∷ keys ∷ foreign ∷ parts ∷ []) from_b in
    let from_d = none_rest c (d ∷ columns ∷ keys ∷ foreign ∷ parts ∷ []) from_c in
    let from_columns = none_rest d (columns ∷ keys ∷ foreign ∷ parts ∷ []) from_d in
    record {
      few = none_where (nat_le max_objects (length defs)) (TooManyObjects Tables) (none_first b (c ∷ d ∷ columns ∷ keys ∷ foreign ∷ parts ∷ []) from_b);
      columns = none_first columns (keys ∷ foreign ∷ parts ∷ []) from_columns;
    }

-- ---- how many tables

abbrev AreFew : Base → Type 0
AreFew base = length base ≤ max_objects

one_more : (taken : List (List ℕ)) (base : Base) (s : NewTable) (t : Table) → define_refusal taken (defs_of base) s ≡ None → AreFew (base ++ t ∷ [])
one_more taken base s t none =
    let room : length (defs_of base) < max_objects = leb-false max_objects (length (defs_of base)) (accepts taken (defs_of base) s none).few in
    let same : length (defs_of base) ≡ length base = length-map base (λ (t : Table). t.def) in
    let more : length (base ++ t ∷ []) ≡ length base + 1 = length-append base (t ∷ []) in
    omega (arith, room, same, more)

keep_few : KeepsBase AreFew
keep_few =
    record {
      none = omega arith;
      asked = λ kept p s a passes h.
          let same : length (made p.base a) ≡ length p.base = with_length p.base a.table (table_after (table_at p.base a.table) (made_of p.base a)) in
          omega (arith, same, h);
      created = λ taken base t none h. one_more taken base t _ none;
      cut = λ kept base n change a same h. let many : length (with_table base n a.table) ≡ length base = with_length base n a.table in omega (arith, many, h);
    }

-- ---- the columns of a new table

-- a column of this kind
abbrev of_kind : RawKind → ColumnDef
of_kind k = record { name = []; kind = new_kind k; not_null = false }

sized_digits : (n : Option ℤ) → size_holds (Digits n) ≡ true → is_sized (of_kind (Digits n)) ≡ true
sized_digits None e = refl
sized_digits (Some (pos n)) e = (and_parts (nat_le 1 n) (nat_le n 15) e).1
sized_digits (Some (negsuc n)) e = absurd (cc)

sized_bytes : (n : ℤ) → size_holds (Bytes n) ≡ true → is_sized (of_kind (Bytes n)) ≡ true
sized_bytes (pos n) e = (and_parts (nat_le 1 n) (nat_le n 64) e).1
sized_bytes (negsuc n) e = absurd (cc)

sized_kind : (k : RawKind) → size_holds k ≡ true → is_sized (of_kind k) ≡ true
sized_kind (Digits n) e = sized_digits n e
sized_kind (Bytes n) e = sized_bytes n e
sized_kind Days e = refl

sized_column : (table : List ℕ) (earlier : List NewColumn) (s : NewTable) (c : NewColumn) → new_column_refusal table earlier c ≡ None → is_sized (new_column s c) ≡ true
sized_column table earlier s c none =
    let named : Option Refusal = where_true (is_some (column_called earlier c.name)) (NameTaken c.name) in
    let size : Option Refusal = where_true (not (size_holds c.kind)) (ValueDoesNotFit table c.name) in
    sized_kind c.kind
    (not-false (size_holds c.kind) (none_where (not (size_holds c.kind)) (ValueDoesNotFit table c.name) (none_first size [] (none_rest named (size ∷ []) none))))

sized_columns : (table : List ℕ) (s : NewTable) (earlier columns : List NewColumn) → first_after (new_column_refusal table) earlier columns ≡ None
    → list_all is_sized (map (new_column s) columns) ≡ true
sized_columns table s earlier [] none = refl
sized_columns table s earlier (c ∷ columns) none =
    let first : Option Refusal = new_column_refusal table earlier c in
    let rest : Option Refusal = first_after (new_column_refusal table) (earlier ++ c ∷ []) columns in
    and_from (is_sized (new_column s c)) (list_all is_sized (map (new_column s) columns))
    (sized_column table earlier s c (none_first first (rest ∷ []) none))
    (sized_columns table s (earlier ++ c ∷ []) columns (none_first rest [] (none_rest first (rest ∷ []) none)))

abbrev IsSized : Table → Type 0
IsSized t = list_all is_sized t.def.columns ≡ true

keep_sizes : KeepsTable IsSized
keep_sizes =
    record {
      asked = λ kept p s a passes same h. h;
      created = λ taken defs t none. sized_columns t.name t [] (new_columns t) (accepts taken defs t none).columns;
      cut = record {
        adds = λ t r key none h. h;
        truncates = λ base n t p none h. h;
        drops = λ base n t p none h. h;
        regroups = λ kept t before after how h. h;
        moves = λ t on h. h;
      };
    }

pub table_sizes : TableSizes
table_sizes =
    record {
      few = base_holds AreFew keep_few;
      sized = λ trace.
          all_from (λ d. list_all is_sized d.columns ≡ true) (defs_now (catalog_of trace))
          (each_map IsSized (λ d. list_all is_sized d.columns ≡ true) (λ t. t.def) (λ t h. h) (base_now (catalog_of trace)) (each_table IsSized keep_sizes trace));
    }
