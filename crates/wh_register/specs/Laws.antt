-- The purge point of a register that stands for the views of a catalog.
use Rattle.std.specs.FinMap as map
use Rattle.std.specs.Prelude.{◌≡◌, ◌≢◌, All, List, None, Some, cond, ℕ}
use Rattle.def_history.specs.Catalog.{Catalog, View}
use Rattle.def_history.specs.Logs as logs
use Rattle.wh_register.specs.Register.{Rooms, purge_point}
use Rattle.wh_register.specs.declared.register.Room.{Room}

-- what the register holds of a view: the tables in its FROM, and its point where it is registered
abbrev pub room_of : View → Room
room_of v = record { tables = v.def.query.tables; point = cond v.registered v.point None }

-- The register holds each of these views, and no other view is registered in it.
pub record StandsFor (rooms : Rooms) (views : List View) : Type 0 where
  pub held : All (λ v. map.get rooms v.def.view ≡ Some (room_of v)) views
  pub others : (number : ℕ) (room : Room) → map.get rooms number ≡ Some room → All (λ v. v.def.view ≢ number) views → room.point ≡ None

pub record Laws : Type 0 where
  -- the purge point is the one of the definition
  pub purges : (c : Catalog) (rooms : Rooms) (table : ℕ) → StandsFor rooms c.views → purge_point (map.values rooms) table c.scn ≡ logs.purge_point c table
