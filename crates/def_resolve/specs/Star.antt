-- The tree that the joins of a query form: its root, its tables in tree order, and the join that reaches each.
use Rattle.std.specs.List.{list_all, list_any}
use Rattle.std.specs.Prelude.{Bool, List, None, Option, Some, [], cond, false, is_some, length, map, nat_eq, not, suc, true, zero, ℕ, ◌&&◌, ◌++◌, ◌+◌, ◌==◌, ◌||◌, ◌∷◌, ◌≡◌}
use Rattle.wh_base.specs.Columns.{same_column}
use Rattle.wh_base.specs.Lists.{first_of, has_number, repeated, where_true}
use Rattle.wh_base.specs.Tables.{def_at, is_key}
use Rattle.wh_base.specs.declared.columns.ColPart.{ColPart}
use Rattle.wh_base.specs.declared.columns.ColPart.TheVariants.{Col, Mark, RowId}
use Rattle.wh_base.specs.declared.columns.ColRef.{ColRef}
use Rattle.wh_base.specs.declared.queries.Edge.{Edge}
use Rattle.wh_base.specs.declared.tables.TableDef.{TableDef}

-- a tree as far as it has grown: its tables in order, and for each but the root the join that reached it
pub record Tree : Type 0 where
  pub tables : List ℕ
  pub edges : List Edge

-- the column is a key of its table; ROWID and PMARKER are none
abbrev pub is_key_column : List TableDef → ColRef → Bool
is_key_column defs c = is_key_part (def_at defs c.table) c.part
  where
    is_key_part : TableDef → ColPart → Bool
    is_key_part d (Col n) = is_key d n
    is_key_part d RowId = false
    is_key_part d Mark = false

-- the join, written the other way round
abbrev pub turned : Edge → Edge
turned e = record { from = e.to; to = e.from }

-- the join leads from a table of the tree to this one, over a column that is a key of this one
abbrev pub leads_to : List TableDef → Tree → ℕ → Edge → Bool
leads_to defs tree n e = has_number tree.tables e.from.table && ((e.to.table == n) && is_key_column defs e.to)

-- the join, directed so that it leads from the tree to this table, where it can be
abbrev pub directed : List TableDef → Tree → ℕ → Edge → Option Edge
directed defs tree n e = cond (leads_to defs tree n e) (Some e) (where_true (leads_to defs tree n (turned e)) (turned e))

-- the join over which the table can be added to the tree; None where it is in the tree
abbrev pub branch_to : List TableDef → List Edge → Tree → ℕ → Option Edge
branch_to defs joins tree n = cond (has_number tree.tables n) None (first_of (directed defs tree n) joins)

-- the join to the first table of FROM that can be added
abbrev pub next_branch : List TableDef → List Edge → List ℕ → Tree → Option Edge
next_branch defs joins from tree = first_of (branch_to defs joins tree) from

-- the tree with the table that this join reaches
abbrev pub with_branch : Tree → Option Edge → Tree
with_branch tree None = tree
with_branch tree (Some e) = record { tables = tree.tables ++ e.to.table ∷ []; edges = tree.edges ++ e ∷ [] }

-- tree order: again and again the first table of FROM that can be added
abbrev pub grow : ℕ → List TableDef → List Edge → List ℕ → Tree → Tree
grow zero defs joins from tree = tree
grow (suc n) defs joins from tree = grow n defs joins from (with_branch tree (next_branch defs joins from tree))

-- the tree that grows from this root
abbrev pub tree_from : List TableDef → List Edge → List ℕ → ℕ → Tree
tree_from defs joins from root = grow (length from) defs joins from (record { tables = root ∷ []; edges = [] })

-- the tree from this root, where it reaches all tables. One join fewer than tables then means that each join is in it,
-- directed outwards with a key as its far column
abbrev pub spanning : List TableDef → List Edge → List ℕ → ℕ → Option Tree
spanning defs joins from root = let tree = tree_from defs joins from root in where_true (length tree.tables == length from) tree

-- a table stands twice
abbrev pub is_repeated_number : List ℕ → Bool
is_repeated_number ns = is_some (repeated nat_eq ns)

-- the tree of a query: no table stands twice, there is one join fewer than tables, and the root is the first table of
-- FROM from which the joins lead to all others. None where there is no such root
abbrev pub star_of : List TableDef → List Edge → List ℕ → Option Tree
star_of defs joins from =
    cond (is_repeated_number from || not (length joins + 1 == length from)) None (first_of (spanning defs joins from) from)

-- ---- what is so of every tree

-- each of these joins in turn leads from a table that is listed to one that isn't, over a key of that one, and lists it
abbrev pub leads_outwards : List TableDef → List ℕ → List Edge → Bool
leads_outwards defs listed [] = true
leads_outwards defs listed (e ∷ es) =
    (has_number listed e.from.table && (not (has_number listed e.to.table) && is_key_column defs e.to))
    && leads_outwards defs (listed ++ e.to.table ∷ []) es

-- a tree with this root: its tables are the root and those that its joins reach, and the joins lead outwards from the root
abbrev pub IsTreeFrom : List TableDef → ℕ → List ℕ → List Edge → Type 0
IsTreeFrom defs root tables edges = (tables ≡ root ∷ map (λ e. e.to.table) edges) × (leads_outwards defs (root ∷ []) edges ≡ true)

-- the edge is one of the joins, as it is written or the other way round
abbrev pub same_join : Edge → Edge → Bool
same_join d e = same_column d.from e.from && same_column d.to e.to

abbrev pub is_one_of : List Edge → Edge → Bool
is_one_of joins e = list_any (λ j. same_join j e || same_join (turned j) e) joins

-- these edges, each one of the joins, make a tree with this root over the tables of FROM, all of them and no others
pub record IsTreeOver (defs : List TableDef) (joins : List Edge) (from : List ℕ) (root : ℕ) (edges : List Edge) : Type 0 where
  pub outwards : leads_outwards defs (root ∷ []) edges ≡ true
  pub by_joins : list_all (is_one_of joins) edges ≡ true
  pub all_tables : (n : ℕ) → has_number (root ∷ map (λ e. e.to.table) edges) n ≡ has_number from n

-- what is found for a root is such a tree, and none is found where there is no such tree with this root
pub record IsSpanning (defs : List TableDef) (joins : List Edge) (from : List ℕ) (root : ℕ) (found : Option Tree) : Type 0 where
  pub some : (tree : Tree) → found ≡ Some tree → (tree.tables ≡ root ∷ map (λ e. e.to.table) tree.edges) × IsTreeOver defs joins from root tree.edges
  pub none : found ≡ None → (edges : List Edge) → IsTreeOver defs joins from root edges → ⊥

-- what is found for a query is the tree of some root, and none is found exactly where a table stands twice, or there are more or
-- fewer joins than tables but one, or no root has such a tree
pub record IsStarOf (defs : List TableDef) (joins : List Edge) (from : List ℕ) (found : Option Tree) : Type 0 where
  pub some :
      (tree : Tree) → found ≡ Some tree
      → (root : ℕ) × ((tree.tables ≡ root ∷ map (λ e. e.to.table) tree.edges) × IsTreeOver defs joins from root tree.edges)
  pub once : (tree : Tree) → found ≡ Some tree → (is_repeated_number from ≡ false) × ((length joins + 1 == length from) ≡ true)
  pub none :
      found ≡ None → is_repeated_number from ≡ false → (length joins + 1 == length from) ≡ true
      → (root : ℕ) (edges : List Edge) → IsTreeOver defs joins from root edges → ⊥
