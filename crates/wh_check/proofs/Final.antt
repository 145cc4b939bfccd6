-- The second and the third step of a statement over tables without partitions.
use Rattle.std.proofs.Common.{◌≡◌, ◌∙◌, ap, refl, ℕ, zero, suc, ◌+◌, false, not, ◌&&◌, List, [], ◌∷◌, length, map, Option, Some, None, ◌==◌, nat_lt}
use Rattle.std.specs.Prelude.{is_none, option_map}
use Rattle.def_effect.specs.Block.{changed_row_refusal, child_refusal, enabled, final_refusal, key_refusal, max_rows, max_versions, new_versions, parent_refusal}
use Rattle.wh_base.specs.Lists.{first_of, first_some, option_case, where_true}
use Rattle.wh_base.specs.Tables.{Base, Table, TableChange, part_of_key, table_at, value_at}
use Rattle.wh_base.specs.declared.replies.Refusal.{Refusal}
use Rattle.wh_base.specs.declared.replies.Refusal.TheVariants.{NoPartition, RowMovement, TableFull, VersionsFull}
use Rattle.wh_base.specs.declared.values.Value.{Value}
use Rattle.wh_check.specs.Making.{AreWhole, change_refusal, changes_refusal}
use Rattle.wh_check.specs.Rows.{row_refusal}
use Rattle.wh_dml.specs.Changes.{change_of}
use Rattle.wh_dml.specs.declared.changes.PlacedRow.{PlacedRow}
use Rattle.wh_dml.specs.declared.changes.RowChange.{RowChange}
use Rattle.wh_table.specs.Stored.{Stored, base_seen}
use Rattle.wh_table.proofs.Counting.{each_from}
use Rattle.wh_table.proofs.Ordered.{Each}

-- ---- tables without partitions

abbrev IsWhole : Table → Type 0
IsWhole t = t.def.part_key ≡ None

whole_each : (at : ℕ) (tables : List Stored) (n : ℕ) → Each (λ (s : Stored). s.def.part_key ≡ None) tables → IsWhole (table_at (base_seen at tables) n)
whole_each at [] n h = refl
whole_each at (s ∷ tables) zero h = h.0
whole_each at (s ∷ tables) (suc n) h = whole_each at tables n h.1

pub whole_at : (at : ℕ) (tables : List Stored) (n : ℕ) → AreWhole tables → IsWhole (table_at (base_seen at tables) n)
whole_at at tables n h = whole_each at tables n (each_from (λ (s : Stored). s.def.part_key ≡ None) tables h.all)

-- ---- the third step

-- the refusals of keys, foreign keys and child tables
abbrev pub constraints_refusal : Base → ℕ → Option Refusal
constraints_refusal base n =
    let t = table_at base n in
    first_some (first_of (key_refusal t) t.def.keys ∷ first_of (parent_refusal base t) (enabled t.def) ∷ first_of (child_refusal base n) base ∷ [])

three_first : (a b c : Option Refusal) (rest : List (Option Refusal)) → first_some (a ∷ b ∷ c ∷ rest) ≡ first_some (first_some (a ∷ b ∷ c ∷ []) ∷ rest)
three_first None None None rest = refl
three_first None None (Some r) rest = refl
three_first None (Some r) c rest = refl
three_first (Some r) b c rest = refl

-- so many rows would live in the table of this name, and so many row versions would be kept
abbrev pub limits : List ℕ → ℕ → ℕ → List (Option Refusal)
limits name live versions = where_true (nat_lt max_rows live) (TableFull name) ∷ where_true (nat_lt max_versions versions) (VersionsFull name) ∷ []

-- they come before the limits
pub final_is : (base : Base) (n kept : ℕ) (changes : List TableChange)
    → final_refusal base n kept changes ≡ first_some (constraints_refusal base n ∷ limits (table_at base n).def.name (length (table_at base n).rows) (kept + new_versions base changes))
final_is base n kept changes =
    three_first (first_of (key_refusal (table_at base n)) (table_at base n).def.keys) (first_of (parent_refusal base (table_at base n)) (enabled (table_at base n).def)) (first_of (child_refusal base n) base)
    (limits (table_at base n).def.name (length (table_at base n).rows) (kept + new_versions base changes))

-- ---- the second step

only_first : (o : Option Refusal) → first_some (o ∷ None ∷ None ∷ []) ≡ o
only_first None = refl
only_first (Some r) = refl

-- the number of the partition by the key of the partitions
abbrev mark_by : Table → Option ℕ → List Value → ℕ
mark_by t key vs = option_case (option_map (value_at vs) key) 0 (λ v. option_case (part_of_key t v) 0 (λ p. p.0.number))

abbrev row_by : Table → Option (List Value) → List Value → Option ℕ → Option Refusal
row_by t old vs key =
    first_some (
    row_refusal t.def vs
    ∷ where_true (option_case (option_map (value_at vs) key) false (λ v. is_none (part_of_key t v))) (NoPartition t.def.name)
    ∷ where_true (option_case old false (λ ws. not (mark_by t key ws == mark_by t key vs)) && not t.def.movement) (RowMovement t.def.name)
    ∷ [])

row_plain : (t : Table) (old : Option (List Value)) (vs : List Value) → row_by t old vs None ≡ row_refusal t.def vs
row_plain t None vs = only_first (row_refusal t.def vs)
row_plain t (Some ws) vs = only_first (row_refusal t.def vs)

placed_row : (t : Table) (rowid : ℕ) (old : Option (List Value)) (new : Option PlacedRow) → IsWhole t
    → changed_row_refusal t (record { rowid = rowid; old = old; new = option_map (λ r. r.values) new }) ≡ option_case new None (λ r. row_refusal t.def r.values)
placed_row t rowid old None h = refl
placed_row t rowid old (Some r) h = ap (row_by t old r.values) h ∙ row_plain t old r.values

-- of a change only the new row counts
pub placed_refusal : (t : Table) (c : RowChange) → IsWhole t → changed_row_refusal t (change_of c) ≡ change_refusal t.def c
placed_refusal t c h = placed_row t c.rowid (option_map (λ r. r.values) c.old) c.new h

first_along : (o : Option Refusal) (os ps : List (Option Refusal)) → first_some os ≡ first_some ps → first_some (o ∷ os) ≡ first_some (o ∷ ps)
first_along None os ps h = h
first_along (Some q) os ps h = refl

pub placed_refusals : (t : Table) (cs : List RowChange) → IsWhole t → first_of (changed_row_refusal t) (map change_of cs) ≡ changes_refusal t.def cs
placed_refusals t [] h = refl
placed_refusals t (c ∷ cs) h =
    ap (λ o. first_some (o ∷ map (changed_row_refusal t) (map change_of cs))) (placed_refusal t c h)
    ∙ first_along (change_refusal t.def c) (map (changed_row_refusal t) (map change_of cs)) (map (change_refusal t.def) cs) (placed_refusals t cs h)
