-- Whether the relations that are declared and not enforced do hold: RELY foreign keys and dimensions, over the base rows of now.
use Rattle.std.specs.List.{list_all, list_any}
use Rattle.std.specs.Prelude.{Bool, filter, not, ◌&&◌}
use Rattle.wh_base.specs.Tables.{Base, Table}
use Rattle.def_dimensions.specs.Relations.{dimension_holds}
use Rattle.def_effect.specs.Block.{is_orphaned}
use Rattle.def_history.specs.Catalog.{Catalog, base_now}

-- Every value of a RELY foreign key of this table stands in the key that it refers to; NULL needs no parent.
abbrev pub rely_holds : Base → Table → Bool
rely_holds base t = not (list_any (is_orphaned base t) (filter (λ f. f.rely) t.def.foreign))

-- All RELY foreign keys of all tables hold, and all dimensions.
abbrev pub relations_hold : Catalog → Bool
relations_hold c = let base = base_now c in list_all (rely_holds base) base && list_all (dimension_holds base) c.dimensions
