-- What changes of rows at their places make of a table of row versions.
use Rattle.std.specs.List.{All}
use Rattle.std.specs.Option.{ForSome, IsSomeAnd}
use Rattle.std.specs.Prelude.{◌≡◌, ◌<◌, ◌+◌, IsTrue, List, None, Option, Some, [], length, slice_get, ℕ, ◌∷◌}
use Rattle.wh_dml.specs.declared.changes.PlacedRow.{PlacedRow}
use Rattle.wh_dml.specs.declared.changes.RowChange.{RowChange}
use Rattle.wh_segment.specs.Versions.{is_live}
use Rattle.wh_table.specs.Stored.{Stored, deleted, inserted, updated}

-- the table with a row changed from an SCN on: it goes, it comes, or it gets new values
abbrev pub made_of : ℕ → Option PlacedRow → Option PlacedRow → Stored → Stored
made_of scn None None s = s
made_of scn None (Some r) s = inserted scn r.values s
made_of scn (Some q) None s = deleted scn q.place s
made_of scn (Some q) (Some r) s = updated scn q.place r.values s

abbrev pub made : ℕ → RowChange → Stored → Stored
made scn c s = made_of scn c.old c.new s

-- the table with these changes made, one after another
abbrev pub all_made : ℕ → List RowChange → Stored → Stored
all_made scn [] s = s
all_made scn (c ∷ cs) s = all_made scn cs (made scn c s)

-- the row lives at its place, with this rowid and these values
abbrev pub StandsAt : Stored → ℕ → PlacedRow → Type 0
StandsAt s rowid q = IsSomeAnd (slice_get s.versions q.place) (λ v. IsTrue (is_live v) × ((v.rowid ≡ rowid) × (v.values ≡ Some q.values)))

-- The row that the change takes away stands where it says, a new row has the next rowid, and what comes takes the next place. It has an old or a new row.
pub record IsNext (s : Stored) (c : RowChange) : Type 0 where
  pub old : ForSome c.old (StandsAt s c.rowid)
  pub next : c.old ≡ None → c.rowid ≡ s.given + 1
  pub new : ForSome c.new (λ r. r.place ≡ length s.versions)
  pub some : c.old ≡ None → c.new ≡ None → ⊥

-- each of the changes fits the table that those before it leave
abbrev pub AreNext : ℕ → Stored → List RowChange → Type 0
AreNext scn s [] = Unit {0}
AreNext scn s (c ∷ cs) = IsNext s c × AreNext scn (made scn c s) cs

-- The changes fit the table one after another, and none takes away what another brings.
pub record ArePlaced (scn : ℕ) (s : Stored) (cs : List RowChange) : Type 0 where
  pub next : AreNext scn s cs
  pub apart : All (λ c. ForSome c.old (λ q. q.place < length s.versions)) cs
