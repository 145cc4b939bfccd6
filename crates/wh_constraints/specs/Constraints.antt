-- What the indexes say of a statement's changes: whose keys have no parent, and which tables would lose one.
use Rattle.std.specs.FinMap as map
use Rattle.std.specs.List.{All, enumerate_from, list_any}
use Rattle.std.specs.Prelude.{◌≡◌, ◌<◌, Bool, Err, List, None, Ok, Option, Result, Some, [], false, is_none, length, nat_lt, not, position, slice_get, true, ℕ, ◌&&◌, ◌==◌, ◌∷◌}
use Rattle.wh_base.specs.Lists.{first_of, first_some, option_case, where_true}
use Rattle.wh_base.specs.Tables.{column_name, def_at, is_key, table_at}
use Rattle.wh_base.specs.declared.replies.Refusal.{Refusal}
use Rattle.wh_base.specs.declared.replies.Refusal.TheVariants.{ChildExists, DuplicateKey, ParentMissing}
use Rattle.wh_base.specs.declared.tables.ForeignDef.{ForeignDef}
use Rattle.wh_base.specs.declared.tables.TableDef.{TableDef}
use Rattle.wh_base.specs.declared.values.Value.{Value}
use Rattle.def_effect.specs.Block.{child_refusal, enabled, is_orphaned, key_refusal, parent_refusal}
use Rattle.wh_dml.specs.Placed.{all_made}
use Rattle.wh_dml.specs.declared.changes.RowChange.{RowChange}
use Rattle.wh_keyindex.specs.Children.{Values, places_with}
use Rattle.law_keys.specs.Fitting.{KeyFits, ValuesFit}
use Rattle.wh_keys.specs.Indexes.{Indexes, Places, coming, going}
use Rattle.wh_keys.specs.Made.{foreign_at, foreign_made, indexes_at, key_at}
use Rattle.wh_table.specs.Kept.{defs_of, with_change}
use Rattle.wh_table.specs.Stored.{Stored, base_seen}

-- the number of the key in a column among the keys of a table
abbrev pub key_number : TableDef → ℕ → Option ℕ
key_number d column = position (λ k. k == column) d.keys

-- the index of the key in a column of the table with this number
abbrev pub key_index : List TableDef → List Indexes → ℕ → ℕ → Places
key_index defs all n column = option_case (key_number (def_at defs n) column) map.empty (key_at (indexes_at all n).keys)

-- ---- parents

-- the value of an entry stands in no row of this key
abbrev pub is_absent : Places → Value × ℕ → Bool
is_absent keys e = is_none (map.get keys e.0)

-- a value that comes into the foreign key stands in no row of the key that it refers to
abbrev pub parent_missing : List TableDef → List Indexes → List RowChange → ForeignDef → Bool
parent_missing defs all cs f = list_any (is_absent (key_index defs all f.table f.to)) (coming f.column cs)

-- that is so of an enabled foreign key of a table with this definition
abbrev pub missing_refusal : List TableDef → List Indexes → List RowChange → TableDef → ForeignDef → Option Refusal
missing_refusal defs all cs d f = where_true (not f.rely && parent_missing defs all cs f) (ParentMissing d.name (column_name d f.column))

-- the first enabled foreign key of the table with this number of which that is so
abbrev pub parents_refusal : List TableDef → List Indexes → ℕ → List RowChange → Option Refusal
parents_refusal defs all n cs = first_of (missing_refusal defs all cs (def_at defs n)) (def_at defs n).foreign

-- ---- children

-- the value of an entry stands in this key no more, and has children in this index
abbrev pub is_left : Places → Values → Value × ℕ → Bool
is_left keys children e = is_absent keys e && nat_lt 0 (places_with e.0 children)

-- that is so of a value that goes from the key that this foreign key refers to
abbrev pub parent_lost : Places → Values → List RowChange → ForeignDef → Bool
parent_lost keys children cs f = list_any (is_left keys children) (going f.to cs)

-- an enabled foreign key of the table `child` to the table with this number lost a parent; the foreign key has this number there
abbrev pub child_left : List TableDef → List Indexes → ℕ → List RowChange → ℕ → ℕ × ForeignDef → Bool
child_left defs all n cs child p =
    not p.1.rely && ((p.1.table == n) && parent_lost (key_index defs all n p.1.to) (foreign_at (indexes_at all child).foreign p.0) cs p.1)

-- the table `child` has a foreign key of which that is so
abbrev pub left_refusal : List TableDef → List Indexes → ℕ → List RowChange → ℕ × TableDef → Option Refusal
left_refusal defs all n cs child =
    where_true (list_any (child_left defs all n cs child.0) (enumerate_from 0 child.1.foreign)) (ChildExists (def_at defs n).name child.1.name)

-- the first table, by creation, of which that is so
abbrev pub children_refusal : List TableDef → List Indexes → ℕ → List RowChange → Option Refusal
children_refusal defs all n cs = first_of (left_refusal defs all n cs) (enumerate_from 0 defs)

-- ---- a statement

-- the refusal by the indexes: the column of a clash, or else all indexes as they are after the changes of the keys
abbrev pub told_refusal : List TableDef → ℕ → List RowChange → Result (List Indexes) ℕ → Option Refusal
told_refusal defs n cs (Err column) = Some (DuplicateKey (def_at defs n).name (column_name (def_at defs n) column))
told_refusal defs n cs (Ok all) =
    first_some (parents_refusal defs all n cs ∷ children_refusal defs (foreign_made n (def_at defs n).foreign cs all) n cs ∷ [])

-- the indexes after the changes of the foreign keys, too
abbrev pub AreMade : List TableDef → ℕ → List RowChange → Result (List Indexes) ℕ → List Indexes → Type 0
AreMade defs n cs (Err column) now = ⊥
AreMade defs n cs (Ok all) now = now ≡ foreign_made n (def_at defs n).foreign cs all

-- What the indexes tell of changes is this, and they are left as these, where nothing is refused.
pub record Tells (defs : List TableDef) (n : ℕ) (cs : List RowChange) (made : Result (List Indexes) ℕ) (code : Option Refusal) (now : List Indexes) : Type 0 where
  pub told : code ≡ told_refusal defs n cs made
  pub left : code ≡ None → AreMade defs n cs made now

-- ---- what holds of tables and their indexes

-- The indexes of a table are those of its keys and foreign keys, in the order of declaration.
pub record TableFits (s : Stored) (i : Indexes) : Type 0 where
  pub keys : length i.keys ≡ length s.def.keys
  pub foreign : length i.foreign ≡ length s.def.foreign
  pub key_fits : (k column : ℕ) (m : Places) → slice_get s.def.keys k ≡ Some column → slice_get i.keys k ≡ Some m → KeyFits s column m
  pub foreign_fits : (k : ℕ) (f : ForeignDef) (m : Values) → slice_get s.def.foreign k ≡ Some f → slice_get i.foreign k ≡ Some m → ValuesFit s f.column m

pub record AreIndexed (tables : List Stored) (all : List Indexes) : Type 0 where
  pub count : length all ≡ length tables
  pub fits : (n : ℕ) (s : Stored) (i : Indexes) → slice_get tables n ≡ Some s → slice_get all n ≡ Some i → TableFits s i

-- a foreign key of the table with this number refers to a key of an earlier table
abbrev pub RefersBack : List TableDef → ℕ → ForeignDef → Type 0
RefersBack defs n f = (f.table < n) × (is_key (def_at defs f.table) f.to ≡ true)

-- The tables at an SCN with their indexes: the indexes are those of the tables, each enabled foreign key holds, and each foreign key refers to a key of an earlier table.
pub record AreRight (scn : ℕ) (tables : List Stored) (all : List Indexes) : Type 0 where
  pub indexed : AreIndexed tables all
  pub parents : All (λ t. All (λ f. is_orphaned (base_seen scn tables) t f ≡ false) (enabled t.def)) (base_seen scn tables)
  pub earlier : (n : ℕ) (s : Stored) → slice_get tables n ≡ Some s → All (RefersBack (defs_of tables) n) s.def.foreign

-- the refusals of the definition for keys, foreign keys and child tables, over the tables as the changes leave them
abbrev pub keys_refusal : ℕ → List Stored → ℕ → List RowChange → Option Refusal
keys_refusal scn tables n cs =
    let base = base_seen scn (with_change n (all_made scn cs) tables) in
    let t = table_at base n in
    first_some (first_of (key_refusal t) t.def.keys ∷ first_of (parent_refusal base t) (enabled t.def) ∷ first_of (child_refusal base n) base ∷ [])
