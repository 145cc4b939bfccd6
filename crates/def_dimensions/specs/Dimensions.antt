-- CREATE DIMENSION: the dimension that it makes, or its first refusal.
-- A dimension has levels, each one column of a table; hierarchies, whose steps lead from a level to its parent; and
-- attributes, which are columns that a level determines.
use Rattle.std.specs.List.{list_all, list_any}
use Rattle.std.specs.Prelude.{Bool, List, Option, [], false, filter, filter_map, find, flat_map, is_none, map, not, option_and_then, option_map, ℕ, ◌&&◌, ◌++◌, ◌∷◌}
use Rattle.wh_base.specs.Lists.{first_of, first_some, is_empty, option_case, option_nat_is, option_nat_same, same_text, where_true}
use Rattle.wh_base.specs.Tables.{column_number, def_at, table_number}
use Rattle.wh_base.specs.declared.columns.ColPart.TheVariants.{Col}
use Rattle.wh_base.specs.declared.columns.ColRef.{ColRef}
use Rattle.wh_base.specs.declared.replies.Refusal.{Refusal}
use Rattle.wh_base.specs.declared.replies.Refusal.TheVariants.{NameTaken, NoSuchColumn, NoSuchObject, NotAKey}
use Rattle.wh_base.specs.declared.statements.JoinKey.{JoinKey}
use Rattle.wh_base.specs.declared.statements.NewAttribute.{NewAttribute}
use Rattle.wh_base.specs.declared.statements.NewDimension.{NewDimension}
use Rattle.wh_base.specs.declared.statements.NewHierarchy.{NewHierarchy}
use Rattle.wh_base.specs.declared.statements.NewLevel.{NewLevel}
use Rattle.wh_base.specs.declared.tables.TableDef.{TableDef}
use Rattle.def_resolve.specs.Earlier.{first_in_turn}
use Rattle.def_resolve.specs.Kinds.{printed_part}

-- a level and its column
pub record DimLevel : Type 0 where
  pub name : List ℕ
  pub column : ColRef

-- a step of a hierarchy: a level, its parent, and the step's JOIN KEY columns, which stand in the level's table and lead to
-- the parent's
pub record DimStep : Type 0 where
  pub child : List ℕ
  pub parent : List ℕ
  pub keys : List ColRef

-- an attribute: a level, and a column that it determines
pub record DimAttribute : Type 0 where
  pub level : List ℕ
  pub column : ColRef

-- a dimension, with the steps of all its hierarchies and each column of its attributes in the order of the text
pub record Dimension : Type 0 where
  pub name : List ℕ
  pub levels : List DimLevel
  pub steps : List DimStep
  pub attributes : List DimAttribute

-- the column `T.C`, where there is such a table and such a column of it
abbrev pub named_column : List TableDef → List ℕ → List ℕ → Option ColRef
named_column defs table column =
    option_and_then (λ n. option_map (λ c. record { table = n; part = Col c }) (column_number (def_at defs n) column)) (table_number defs table)

-- `T.C`
abbrev pub dotted : List ℕ → List ℕ → List ℕ
dotted table column = table ++ (46 ∷ column)

-- ---- levels

-- a level: MV-01 where an earlier one has its name, then MV-02 for its table, then MV-03 for its column
abbrev pub level_refusal : List TableDef → List NewLevel → NewLevel → Option Refusal
level_refusal defs earlier l =
    first_some (
    where_true (list_any (λ e. same_text e.name l.name) earlier) (NameTaken l.name)
    ∷ where_true (is_none (table_number defs l.table)) (NoSuchObject l.table)
    ∷ where_true (is_none (named_column defs l.table l.column)) (NoSuchColumn (dotted l.table l.column))
    ∷ [])

abbrev pub new_level : List TableDef → NewLevel → Option DimLevel
new_level defs l = option_map (λ c. record { name = l.name; column = c }) (named_column defs l.table l.column)

-- the column of the level of this name, and the number of its table
abbrev pub level_column : List DimLevel → List ℕ → Option ColRef
level_column levels name = option_map (λ l. l.column) (find (λ l. same_text l.name name) levels)

abbrev pub level_table : List DimLevel → List ℕ → Option ℕ
level_table levels name = option_map (λ c. c.table) (level_column levels name)

-- ---- hierarchies

-- the steps of a hierarchy: each level with its parent, which is the one after it
abbrev pub pairs_up : List (List ℕ) → List (List ℕ × List ℕ)
pairs_up [] = []
pairs_up (l ∷ []) = []
pairs_up (l ∷ m ∷ ms) = (l, m) ∷ pairs_up (m ∷ ms)

-- the column of a JOIN KEY
abbrev pub key_column : List TableDef → JoinKey → Option ColRef
key_column defs k = named_column defs k.table k.column

-- a step with the JOIN KEYs that name its parent; where a parent stands in two steps, both take them
abbrev pub step_of : List TableDef → List JoinKey → List ℕ × List ℕ → DimStep
step_of defs keys p = record { child = p.0; parent = p.1; keys = filter_map (key_column defs) (filter (λ k. same_text k.parent p.1) keys) }

abbrev pub steps_of : List TableDef → NewHierarchy → List DimStep
steps_of defs h = map (step_of defs h.joins) (pairs_up h.levels)

-- the levels below this parent in the hierarchy
abbrev pub children_of : NewHierarchy → List ℕ → List (List ℕ)
children_of h parent = map (λ p. p.0) (filter (λ p. same_text p.1 parent) (pairs_up h.levels))

-- MV-02 of a JOIN KEY: for its table, then for a level that is no parent in the hierarchy
abbrev pub unknown_in_key : List TableDef → NewHierarchy → JoinKey → Option Refusal
unknown_in_key defs h k =
    first_some (
    where_true (is_none (table_number defs k.table)) (NoSuchObject k.table)
    ∷ where_true (is_empty (children_of h k.parent)) (NoSuchObject k.parent)
    ∷ [])

-- MV-02 of a hierarchy: for the first level that isn't there, then for what a JOIN KEY names
abbrev pub unknown_level : List TableDef → List DimLevel → NewHierarchy → Option Refusal
unknown_level defs levels h =
    first_some (
    option_map NoSuchObject (find (λ n. is_none (level_column levels n)) h.levels)
    ∷ first_of (unknown_in_key defs h) h.joins
    ∷ [])

-- the column `T.C` stands in the table of this level
abbrev pub stands_in : List TableDef → List DimLevel → List ℕ → List ℕ → List ℕ → Bool
stands_in defs levels level table column =
    option_case (named_column defs table column) false (λ c. option_nat_is (level_table levels level) c.table)

-- a JOIN KEY's column stands in the table of each level below the parent that it names
abbrev pub key_stands : List TableDef → List DimLevel → NewHierarchy → JoinKey → Bool
key_stands defs levels h k = list_all (λ child. stands_in defs levels child k.table k.column) (children_of h k.parent)

-- MV-03 of a hierarchy: for the first JOIN KEY whose column stands elsewhere
abbrev pub misplaced_key : List TableDef → List DimLevel → NewHierarchy → Option Refusal
misplaced_key defs levels h =
    option_map (λ k. NoSuchColumn (dotted k.table k.column)) (find (λ k. not (key_stands defs levels h k)) h.joins)

-- the step leads to a level of another table without a JOIN KEY
abbrev pub has_no_way : List DimLevel → DimStep → Bool
has_no_way levels s = is_empty s.keys && not (option_nat_same (level_table levels s.child) (level_table levels s.parent))

-- MV-27 with the table and the column of the step's lower level
abbrev pub not_a_key : List TableDef → List DimLevel → DimStep → Refusal
not_a_key defs levels s =
    option_case (level_column levels s.child) (NotAKey [] []) (λ c. NotAKey (def_at defs c.table).name (printed_part (def_at defs c.table) c.part))

-- a hierarchy: MV-02, then MV-03, then MV-27
abbrev pub hierarchy_refusal : List TableDef → List DimLevel → NewHierarchy → Option Refusal
hierarchy_refusal defs levels h =
    first_some (
    unknown_level defs levels h
    ∷ misplaced_key defs levels h
    ∷ option_map (not_a_key defs levels) (find (has_no_way levels) (steps_of defs h))
    ∷ [])

-- ---- attributes and the whole statement

-- an attribute: MV-02 for its level, MV-02 for the table of a column, then MV-03 for a column that isn't in its level's table
abbrev pub attribute_refusal : List TableDef → List DimLevel → NewAttribute → Option Refusal
attribute_refusal defs levels a =
    first_some (
    where_true (is_none (level_column levels a.level)) (NoSuchObject a.level)
    ∷ option_map (λ c. NoSuchObject c.table) (find (λ c. is_none (table_number defs c.table)) a.columns)
    ∷ option_map (λ c. NoSuchColumn (dotted c.table c.column)) (find (λ c. not (stands_in defs levels a.level c.table c.column)) a.columns)
    ∷ [])

-- the first refusal after those of the dimension's name (MV-01) and of the number of dimensions (MV-16): the levels, the
-- hierarchies and the attributes, each element by element
abbrev pub dimension_refusal : List TableDef → NewDimension → Option Refusal
dimension_refusal defs s =
    let levels = filter_map (new_level defs) s.levels in
    first_some (
    first_in_turn (level_refusal defs) s.levels
    ∷ first_of (hierarchy_refusal defs levels) s.hierarchies
    ∷ first_of (attribute_refusal defs levels) s.attributes
    ∷ [])

-- each column of an attribute
abbrev pub attributes_of : List TableDef → NewAttribute → List DimAttribute
attributes_of defs a = filter_map (λ c. option_map (λ r. record { level = a.level; column = r }) (named_column defs c.table c.column)) a.columns

-- the dimension that the statement makes, where it isn't refused
abbrev pub new_dimension : List TableDef → NewDimension → Dimension
new_dimension defs s =
    record {
      name = s.name;
      levels = filter_map (new_level defs) s.levels;
      steps = flat_map (steps_of defs) s.hierarchies;
      attributes = flat_map (attributes_of defs) s.attributes;
    }
