-- What is asked where tables with their indexes are changed, from what holds of both.
use Rattle.std.proofs.Common.{◌≡◌, ◌∙◌, sym, ap, subst, ℕ, ◌<◌, ◌≤◌, List, length, Option, slice_get}
use Rattle.std.specs.List.{All}
use Rattle.std.specs.Prelude.{IfSome}
use Rattle.wh_base.specs.Tables.{def_at}
use Rattle.wh_base.specs.declared.replies.Refusal.{Refusal}
use Rattle.wh_constraints.proofs.Fitted.{Setting, fits_at}
use Rattle.wh_constraints.proofs.Indexed.{def_there, item_at}
use Rattle.wh_constraints.proofs.Refusing.{Answered, answered}
use Rattle.wh_constraints.specs.Constraints.{AreRight, Tells}
use Rattle.wh_dml.specs.Placed.{ArePlaced}
use Rattle.wh_dml.specs.declared.changes.RowChange.{RowChange}
use Rattle.law_keys.specs.Laws.{ForeignLaws, KeyLaws}
use Rattle.wh_keys.specs.Indexes.{Indexes}
use Rattle.wh_keys.specs.Made.{indexes_at, keys_made}
use Rattle.wh_table.proofs.Counting.{each_from}
use Rattle.wh_table.specs.Kept.{defs_of}
use Rattle.wh_table.specs.Stored.{IsStored, Stored, last_scn}

-- the table that changes
record Changed (scn : ℕ) (tables : List Stored) (all : List Indexes) (n : ℕ) (cs : List RowChange) : Type 0 where
  table : Stored
  set : Setting scn tables all n table cs

module _ (scn : ℕ) (tables : List Stored) (stored : All IsStored tables) (settled : All (λ t. last_scn t.versions ≤ scn) tables) (all : List Indexes) (n : ℕ) (cs : List RowChange)
    (right : AreRight scn tables all) (there : n < length tables) (placed : IfSome (slice_get tables n) (λ t. ArePlaced scn t cs)) where
  changed : Changed scn tables all n cs
  changed =
      let i = item_at tables n there in
      record {
        table = i.item;
        set = record {
          stored = each_from IsStored tables stored;
          settled = each_from (λ t. last_scn t.versions ≤ scn) tables settled;
          there = i.is;
          placed = subst (λ o. IfSome o (λ t. ArePlaced scn t cs)) i.is placed;
          right = right;
        };
      }

  pub keys_there : length (def_at (defs_of tables) n).keys ≡ length (indexes_at all n).keys
  keys_there =
      let c = changed in
      ap (λ d. length d.keys) (def_there tables n c.table c.set.there) ∙ sym (fits_at scn tables all n c.table cs c.set n c.table c.set.there).keys

  pub foreign_there : length (def_at (defs_of tables) n).foreign ≡ length (indexes_at all n).foreign
  foreign_there =
      let c = changed in
      ap (λ d. length d.foreign) (def_there tables n c.table c.set.there) ∙ sym (fits_at scn tables all n c.table cs c.set n c.table c.set.there).foreign

  pub told_so : (keys : KeyLaws) (laws : ForeignLaws) (code : Option Refusal) (now : List Indexes) → Tells (defs_of tables) n cs (keys_made n (def_at (defs_of tables) n).keys cs all) code now
      → Answered scn tables n cs code now
  told_so keys laws code now told = let c = changed in answered keys laws scn tables all n c.table cs c.set code now told
