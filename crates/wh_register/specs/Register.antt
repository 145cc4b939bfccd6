-- What the register holds, and the point of a purge.
use Rattle.std.specs.List.{filter_map}
use Rattle.std.specs.Ordering.{nat_cmp}
use Rattle.std.specs.Prelude.{List, None, Option, Some, [], cond, nat_lt, ℕ, ◌∷◌}
use Rattle.std.specs.FinMap as map
use Rattle.wh_base.specs.Lists.{has_number, least_of, option_case}
use Rattle.wh_register.specs.declared.register.Room.{Room}

-- each view for which room was made, by its number
abbrev pub Rooms : Type 0
Rooms = map.FinMap nat_cmp Room

-- room for a view over these tables that isn't registered
abbrev pub room_over : List ℕ → Room
room_over tables = record { tables = tables; point = None }

-- the view at this point, or not registered where it has none; it keeps its tables, and all other views stay as they are
abbrev pub with_point : Rooms → ℕ → Option ℕ → Rooms
with_point rooms view point = option_case (map.get rooms view) rooms (λ room. map.insert rooms view (record room { point = point }))

-- the view's point, where it is registered and has the table in its FROM
abbrev pub point_over : ℕ → Room → Option ℕ
point_over table room = cond (has_number room.tables table) room.point None

-- the least of these points, or `now` where there is none
abbrev pub least_point : ℕ → List ℕ → ℕ
least_point now [] = now
least_point now (p ∷ ps) = least_of p ps

-- up to where the log of the table may be purged: the least point of the registered views on it
abbrev pub purge_point : List Room → ℕ → ℕ → ℕ
purge_point rooms table now = least_point now (filter_map (point_over table) rooms)

-- the lesser of two points, of which either may be missing
abbrev pub lesser_point : Option ℕ → Option ℕ → Option ℕ
lesser_point (Some a) (Some b) = Some (cond (nat_lt b a) b a)
lesser_point None point = point
lesser_point point None = point
