-- Why it is enough to ask the indexes, and those alone for what changed: what the definitions ask of keys and foreign keys over all rows of a table.
use Rattle.std.specs.FinMap as map
use Rattle.std.specs.List.{list_any}
use Rattle.std.specs.Prelude.{◌≡◌, ◌≤◌, List, None, Some, false, is_none, nat_lt, true, ℕ, ◌&&◌}
use Rattle.wh_base.specs.Tables.{Base, column_name, table_at}
use Rattle.wh_base.specs.declared.replies.Refusal.TheVariants.{DuplicateKey}
use Rattle.wh_base.specs.declared.tables.ForeignDef.{ForeignDef}
use Rattle.wh_base.specs.declared.values.Value.{Value}
use Rattle.def_effect.specs.Block.{is_orphaned, key_refusal}
use Rattle.def_meaning.specs.Meaning.{not_null}
use Rattle.wh_dml.specs.Placed.{ArePlaced, all_made}
use Rattle.wh_dml.specs.declared.changes.RowChange.{RowChange}
use Rattle.law_keys.specs.Fitting.{KeyFits, ValuesFit, count_in}
use Rattle.wh_keyindex.specs.Children.{Values, places_with}
use Rattle.wh_keys.specs.Indexes.{Places, coming, going, keys_changed, values_changed}
use Rattle.wh_table.specs.Stored.{IsStored, Stored, last_scn, seen}

-- Keys.
pub record KeyLaws : Type 0 where
  -- two rows would have one key after the changes exactly where the index meets a key that is there
  pub clash : (scn : ℕ) (s : Stored) (column : ℕ) (cs : List RowChange) (m : Places) → IsStored s → last_scn s.versions ≤ scn → ArePlaced scn s cs → KeyFits s column m
      → keys_changed column cs m ≡ None → key_refusal (seen scn (all_made scn cs s)) column ≡ Some (DuplicateKey s.def.name (column_name s.def column))
  pub unique : (scn : ℕ) (s : Stored) (column : ℕ) (cs : List RowChange) (m n : Places) → IsStored s → last_scn s.versions ≤ scn → ArePlaced scn s cs → KeyFits s column m
      → keys_changed column cs m ≡ Some n → key_refusal (seen scn (all_made scn cs s)) column ≡ None
  -- the index after the changes is that of the table after them
  pub fits : (scn : ℕ) (s : Stored) (column : ℕ) (cs : List RowChange) (m n : Places) → IsStored s → last_scn s.versions ≤ scn → ArePlaced scn s cs → KeyFits s column m
      → keys_changed column cs m ≡ Some n → KeyFits (all_made scn cs s) column n

-- Foreign keys.
pub record ForeignLaws : Type 0 where
  pub fits : (scn : ℕ) (s : Stored) (column : ℕ) (cs : List RowChange) (m : Values) → ArePlaced scn s cs → ValuesFit s column m
      → ValuesFit (all_made scn cs s) column (values_changed column cs m)
  -- so many rows have the value
  pub counted : (s : Stored) (column : ℕ) (m : Values) (value : Value) → ValuesFit s column m → not_null value ≡ true → places_with value m ≡ count_in s column value
  -- Of a foreign key that held, it is enough to ask for the parents of the rows that come. The parent is another table, which stays, with the index of the key referred to.
  pub parents : (scn : ℕ) (s p : Stored) (f : ForeignDef) (cs : List RowChange) (m : Places) (before after : Base) → IsStored s → IsStored p
      → last_scn s.versions ≤ scn → last_scn p.versions ≤ scn → ArePlaced scn s cs → KeyFits p f.to m
      → table_at before f.table ≡ seen scn p → table_at after f.table ≡ seen scn p → is_orphaned before (seen scn s) f ≡ false
      → is_orphaned after (seen scn (all_made scn cs s)) f ≡ list_any (λ e. is_none (map.get m e.0)) (coming f.column cs)
  -- Of a child table whose foreign key held, it is enough to ask for the children of the keys that went and aren't there again. The child is another table, which stays.
  pub children : (scn : ℕ) (s c : Stored) (f : ForeignDef) (cs : List RowChange) (n : Places) (m : Values) (before after : Base) → IsStored s → IsStored c
      → last_scn s.versions ≤ scn → last_scn c.versions ≤ scn → ArePlaced scn s cs → KeyFits (all_made scn cs s) f.to n → ValuesFit c f.column m
      → table_at before f.table ≡ seen scn s → table_at after f.table ≡ seen scn (all_made scn cs s) → is_orphaned before (seen scn c) f ≡ false
      → is_orphaned after (seen scn c) f ≡ list_any (λ e. is_none (map.get n e.0) && nat_lt 0 (places_with e.0 m)) (going f.to cs)
