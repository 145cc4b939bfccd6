-- The columns that a view has for a definition over it: its items, by the names that its own CREATE writes.
use Rattle.std.specs.Prelude.{Bool, List, None, Option, Some, [], cond, false, filter, length, map, option_and_then, option_map, true, zip, ℕ, ◌==◌}
use Rattle.wh_base.specs.Lists.{option_case, same_text}
use Rattle.wh_base.specs.declared.columns.Agg.{Agg}
use Rattle.wh_base.specs.declared.columns.ColRef.{ColRef}
use Rattle.wh_base.specs.declared.queries.ColName.{ColName}
use Rattle.wh_base.specs.declared.queries.Item.{Item}
use Rattle.wh_base.specs.declared.queries.NamePart.{NamePart}
use Rattle.wh_base.specs.declared.queries.NamePart.TheVariants.{MarkName, Plain, RowIdName}
use Rattle.wh_base.specs.declared.queries.RawItem.{RawItem}
use Rattle.wh_base.specs.declared.queries.RawWhat.{RawWhat}
use Rattle.wh_base.specs.declared.views.ViewDef.{ViewDef}
use Rattle.def_grammar.specs.Query.{select}
use Rattle.def_grammar.specs.Reading.{whole}
use Rattle.def_resolve.specs.Names.{the_only}
use Rattle.wh_base.specs.declared.queries.Item.TheVariants as item
use Rattle.wh_base.specs.declared.queries.RawWhat.TheVariants as what

-- ---- the names of items

-- a plain name; ROWID and PMARKER are none
abbrev pub plain_name : NamePart → Option (List ℕ)
plain_name (Plain n) = Some n
plain_name RowIdName = None
plain_name MarkName = None

-- the name of a plain column that is selected; an aggregate has none
abbrev pub what_name : RawWhat → Option (List ℕ)
what_name (what.Plain c) = plain_name c.part
what_name (what.Computed a) = None

-- the name of an item: its alias, or else the name of a plain column
abbrev pub item_name : RawItem → Option (List ℕ)
item_name i = option_case i.alias (what_name i.what) Some

-- the names of a view's items as its own CREATE writes them, also where the view is over another one; none where its tokens don't read
-- as a query with as many items
abbrev pub item_names : ViewDef → List (Option (List ℕ))
item_names d =
    option_case (whole select d.tokens) [] (λ q. cond (length q.items == length d.query.items) (map item_name q.items) [])

-- ---- what a name stands for

-- the item bears this name
abbrev pub bears : List ℕ → Option (List ℕ) × Item → Bool
bears name p = option_case p.0 false (same_text name)

-- the item that a name stands for; none where no item bears it, or where two do
abbrev pub item_named : ViewDef → List ℕ → Option Item
item_named d name = option_map (λ p. p.1) (the_only (filter (bears name) (zip (item_names d) d.query.items)))

-- the item that a column over the view stands for; its qualifier, where it has one, is the view's own name
abbrev pub item_of : ViewDef → ColName → Option Item
item_of d c = cond (option_case c.qualifier true (same_text d.name)) (option_and_then (item_named d) (plain_name c.part)) None

-- an item that is a column; in an aggregate view it is grouped
abbrev pub column_in_item : Item → Option ColRef
column_in_item (item.Col c) = Some c
column_in_item (item.Agg a) = None

-- an item that is an aggregate
abbrev pub agg_in_item : Item → Option Agg
agg_in_item (item.Col c) = None
agg_in_item (item.Agg a) = Some a

-- the column of a base table that a column over the view stands for, where it names a grouped item
abbrev pub grouped_column : ViewDef → ColName → Option ColRef
grouped_column d c = option_and_then column_in_item (item_of d c)

-- the aggregate that a column over the view stands for
abbrev pub agg_named : ViewDef → ColName → Option Agg
agg_named d c = option_and_then agg_in_item (item_of d c)
