-- SPLIT and MERGE make a row version for each row that gets a new rowid, so they are refused where too many would be kept. The
-- number that is kept is given here, since no script of this size makes it.
use Rattle.std.specs.Prelude.{Err, List, Ok, Result, [], codes, pos, refl, true, None, Some, ℕ, ◌∷◌, ◌≡◌}
use Rattle.wh_base.specs.Tables.{Table}
use Rattle.wh_base.specs.declared.replies.Refusal.{Refusal}
use Rattle.wh_base.specs.declared.replies.Refusal.TheVariants.{VersionsFull}
use Rattle.wh_base.specs.declared.statements.PartChange.{PartChange}
use Rattle.wh_base.specs.declared.statements.PartChange.TheVariants.{Merge, Split}
use Rattle.wh_base.specs.declared.tables.Kind.TheVariants as kind
use Rattle.wh_base.specs.declared.values.Literal.TheVariants.{Number}
use Rattle.wh_base.specs.declared.values.Value.TheVariants.{Num}
use Rattle.def_effect.specs.Partitions.{Altering, alter_table}

abbrev table_s : Table
table_s = record {
  def = record {
    name = codes "S";
    columns = record { name = codes "K"; kind = kind.Number 15; not_null = true } ∷ [];
    keys = [];
    primary = None;
    foreign = [];
    part_key = Some 0;
    movement = true;
  };
  rows = record { rowid = 1; values = Num (pos 5) ∷ [] } ∷ record { rowid = 2; values = Num (pos 15) ∷ [] } ∷ record { rowid = 3; values = Num (pos 16) ∷ [] } ∷ [];
  given = 3;
  parts = record { name = codes "P1"; number = 1; below = Some (Num (pos 10)) } ∷ record { name = codes "P2"; number = 2; below = Some (Num (pos 20)) } ∷ [];
  made = 2;
}

-- the rowids that are given, or the refusal
abbrev given_or_refused : Result (ℕ × Altering) Refusal → Result (List ℕ) Refusal
given_or_refused (Ok p) = Ok p.1.renumbered
given_or_refused (Err code) = Err code

abbrev after : ℕ → PartChange → Result (List ℕ) Refusal
after kept change = given_or_refused (alter_table kept (table_s ∷ []) (record { table = codes "S"; change = change }))

abbrev split : PartChange
split = Split (record { name = codes "P2"; at = Number (pos 16); lower = codes "P2"; upper = codes "P3" })

abbrev merge : PartChange
merge = Merge (record { lower = codes "P1"; upper = codes "P2"; name = codes "P1" })

pub split_at_the_limit : after 1048574 split ≡ Ok (4 ∷ 5 ∷ [])
split_at_the_limit = refl

pub split_past_the_limit : after 1048575 split ≡ Err (VersionsFull (codes "S"))
split_past_the_limit = refl

pub merge_at_the_limit : after 1048573 merge ≡ Ok (4 ∷ 5 ∷ 6 ∷ [])
merge_at_the_limit = refl

pub merge_past_the_limit : after 1048574 merge ≡ Err (VersionsFull (codes "S"))
merge_past_the_limit = refl
