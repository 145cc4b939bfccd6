-- What tables are at their SCN, and what is true of them.
use Rattle.std.proofs.Common.{not-suc-le-zero, refl, zero-le}
use Rattle.std.proofs.lemmas.List.Elements.{All-head, All-tail}
use Rattle.std.specs.List.{All}
use Rattle.std.specs.Prelude.{◌≡◌, ◌<◌, ◌≤◌, ◌^◌, IfSome, IsSomeAnd, IsTrue, List, None, Option, [], length, map, slice_get, suc, zero, ℕ, ◌∷◌}
use Rattle.wh_base.specs.Tables.{AreSmall, HaveRowids, Places, live_rows, most_live, places_of}
use Rattle.wh_base.specs.declared.tables.Part.{Part}
use Rattle.wh_base.specs.declared.tables.TableDef.{TableDef}
use Rattle.wh_segment.specs.Versions.{is_live}
use Rattle.wh_table.specs.Stored.{IsStored, Stored, last_scn, places_at}

-- the tables as their places at an SCN
abbrev pub tables_at : ℕ → List Stored → List Places
tables_at at tables = map (places_at at) tables

-- no table is partitioned
abbrev pub no_key : Stored → Option ℕ
no_key s = None

abbrev pub no_part : Stored → List Part
no_part s = []

-- the tables with a change of the one with this number
abbrev pub with_change : ℕ → (Stored → Stored) → List Stored → List Stored
with_change n change [] = []
with_change zero change (s ∷ tables) = change s ∷ tables
with_change (suc n) change (s ∷ tables) = s ∷ with_change n change tables

-- the definitions of the tables
abbrev pub defs_of : List Stored → List TableDef
defs_of tables = map (λ s. s.def) tables

-- the row at a place of the table with this number lives
abbrev pub LivesIn : List Stored → ℕ → ℕ → Type 0
LivesIn tables n place = IfSome (slice_get tables n) (λ s. IsSomeAnd (slice_get s.versions place) (λ v. IsTrue (is_live v)))

-- Each table is as its calls leave it, none was changed after the SCN, they are fewer than 2^32, these are their definitions, and no table has partitions.
pub record AreKept (scn : ℕ) (tables : List Stored) (defs : List TableDef) (parts : List Part) : Type 0 where
  pub stored : All IsStored tables
  pub settled : All (λ s. last_scn s.versions ≤ scn) tables
  pub few : length tables < 2 ^ 32
  pub listed : defs ≡ defs_of tables
  pub none : length parts ≡ 0

-- ---- what is true of the rows of each table, at any SCN

pub few_at : (at : ℕ) (tables : List Stored) (n : ℕ) → All IsStored tables → length (live_rows (places_of (tables_at at tables) n)) ≤ most_live
few_at at [] n h = zero-le
few_at at (s ∷ tables) zero h = (All-head IsStored s tables h).few at
few_at at (s ∷ tables) (suc n) h = few_at at tables n (All-tail IsStored s tables h)

pub differ_at : (at : ℕ) (tables : List Stored) (n : ℕ) → All IsStored tables → HaveRowids (live_rows (places_of (tables_at at tables) n))
differ_at at [] n h = λ i j less within same. absurd (not-suc-le-zero within)
differ_at at (s ∷ tables) zero h = (All-head IsStored s tables h).differ at
differ_at at (s ∷ tables) (suc n) h = differ_at at tables n (All-tail IsStored s tables h)

pub small_at : (at : ℕ) (tables : List Stored) (n : ℕ) → All IsStored tables → AreSmall (live_rows (places_of (tables_at at tables) n))
small_at at [] n h = refl
small_at at (s ∷ tables) zero h = (All-head IsStored s tables h).small at
small_at at (s ∷ tables) (suc n) h = small_at at tables n (All-tail IsStored s tables h)
