-- What no longer refuses a statement holds of the table that it leaves.
use Rattle.std.proofs.Common.{◌≡◌, ℕ, ◌+◌, ◌≤◌, List, [], ◌∷◌, length, None, Option, nat_lt}
use Rattle.std.proofs.lemmas.Bool.{ltb-false}
use Rattle.wh_base.specs.Lists.{first_of, where_true}
use Rattle.wh_base.specs.Tables.{Base, Table, TableChange, table_at}
use Rattle.wh_base.specs.declared.replies.Refusal.{Refusal}
use Rattle.wh_base.specs.declared.replies.Refusal.TheVariants.{TableFull, VersionsFull}
use Rattle.def_effect.specs.Block.{child_refusal, enabled, final_refusal, key_refusal, max_rows, max_versions, new_versions, parent_refusal}
use Rattle.law_trace.proofs.Basing.{none_first, none_rest, none_where}

pub record Finished (base : Base) (n kept : ℕ) (changes : List TableChange) : Type 0 where
  pub keys : first_of (key_refusal (table_at base n)) (table_at base n).def.keys ≡ None
  pub parents : first_of (parent_refusal base (table_at base n)) (enabled (table_at base n).def) ≡ None
  pub children : first_of (child_refusal base n) base ≡ None
  pub few : length (table_at base n).rows ≤ max_rows
  pub versions : kept + new_versions base changes ≤ max_versions

pub finished : (base : Base) (n kept : ℕ) (changes : List TableChange) → final_refusal base n kept changes ≡ None → Finished base n kept changes
finished base n kept changes none =
    let t : Table = table_at base n in
    let keys : Option Refusal = first_of (key_refusal t) t.def.keys in
    let parents : Option Refusal = first_of (parent_refusal base t) (enabled t.def) in
    let children : Option Refusal = first_of (child_refusal base n) base in
    let few : Option Refusal = where_true (nat_lt max_rows (length t.rows)) (TableFull t.def.name) in
    let versions : Option Refusal = where_true (nat_lt max_versions (kept + new_versions base changes)) (VersionsFull t.def.name) in
    let second = none_rest keys (parents ∷ children ∷ few ∷ versions ∷ []) none in
    let third = none_rest parents (children ∷ few ∷ versions ∷ []) second in
    let fourth = none_rest children (few ∷ versions ∷ []) third in
    let fifth = none_rest few (versions ∷ []) fourth in
    record {
      keys = none_first keys (parents ∷ children ∷ few ∷ versions ∷ []) none;
      parents = none_first parents (children ∷ few ∷ versions ∷ []) second;
      children = none_first children (few ∷ versions ∷ []) third;
      few = ltb-false max_rows (length t.rows) (none_where (nat_lt max_rows (length t.rows)) (TableFull t.def.name) (none_first few (versions ∷ []) fourth));
      versions = ltb-false max_versions (kept + new_versions base changes)
          (none_where (nat_lt max_versions (kept + new_versions base changes)) (VersionsFull t.def.name) (none_first versions [] fifth));
    }
