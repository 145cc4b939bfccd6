-- What a star form, a view and the rows of a base state have to be for the law of plans. The first is owed by `resolve`, the second by each base state.
use Rattle.std.specs.Prelude.{Bool, List, false, length, not, true, ℕ, ◌||◌, ◌≡◌, ◌≤◌}
use Rattle.std.specs.List.{filter, flat_map}
use Rattle.wh_base.specs.Columns.{has_column}
use Rattle.wh_base.specs.Lists.{count_from, has_number}
use Rattle.wh_base.specs.Tables.{def_at, never_null, value_at}
use Rattle.wh_base.specs.Values.{equal_not_null}
use Rattle.wh_base.specs.declared.columns.Agg.{Agg}
use Rattle.wh_base.specs.declared.columns.Agg.TheVariants.{Avg, Count, CountAll, Max, Min, Sum}
use Rattle.wh_base.specs.declared.columns.ColPart.{ColPart}
use Rattle.wh_base.specs.declared.columns.ColPart.TheVariants.{Col, Mark, RowId}
use Rattle.wh_base.specs.declared.columns.ColRef.{ColRef}
use Rattle.wh_base.specs.declared.columns.Expr.{Expr}
use Rattle.wh_base.specs.declared.columns.Expr.TheVariants as expr
use Rattle.wh_base.specs.declared.queries.Item.{Item}
use Rattle.wh_base.specs.declared.queries.Item.TheVariants as item
use Rattle.wh_base.specs.declared.queries.StarQuery.{StarQuery}
use Rattle.wh_base.specs.declared.tables.ForeignDef.{ForeignDef}
use Rattle.wh_base.specs.declared.tables.RowAt.{RowAt}
use Rattle.wh_base.specs.declared.tables.TableDef.{TableDef}
use Rattle.wh_base.specs.declared.values.Value.{Value}
use Rattle.wh_base.specs.declared.values.Value.TheVariants.{Null, Num}
use Rattle.def_meaning.specs.Joined.{part_value}
use Rattle.def_meaning.specs.Meaning.{not_null}
use Rattle.def_resolve.specs.Star.{IsTreeFrom, is_key_column}
use Rattle.def_restrictions.specs.Definition.{used_columns}
use Rattle.def_rewriting.specs.Reaching.{plain_columns}
use Rattle.law_rewrite.specs.Words.{Each, PlainIn, is_plain}

-- the column is declared, where it is no ROWID or PMARKER
abbrev pub Declared : List TableDef → ColRef → Type 0
Declared defs c = place c.part
  where
    place : ColPart → Type 0
    place (Col n) = has_number (count_from 0 (length (def_at defs c.table).columns)) n ≡ true
    place RowId = Unit {0}
    place Mark = Unit {0}

-- the table and the column are there
abbrev pub OwnColumn : List TableDef → StarQuery → ColRef → Type 0
OwnColumn defs q c = (has_number q.tables c.table ≡ true) × Declared defs c

-- an item without an aggregate
abbrev pub IsColumn : Item → Type 0
IsColumn (item.Col c) = Unit {0}
IsColumn (item.Agg a) = ⊥

-- a star form
pub record StarFine (defs : List TableDef) (q : StarQuery) : Type 0 where
  pub tree : IsTreeFrom defs q.root q.tables q.edges
  pub columns : Each (OwnColumn defs q) (used_columns q)
  -- no literal is a pair
  pub literals : Each PlainIn q.conditions
  -- a plain item of a grouped query is a group column
  pub selected : q.grouped ≡ true → Each (λ d. has_column q.keys d ≡ true) (flat_map plain_columns q.items)
  -- and one that isn't grouped has no aggregates
  pub alone : q.grouped ≡ false → Each IsColumn q.items

-- how many of these rows have the value
abbrev pub with_value : ColPart → Value → List RowAt → ℕ
with_value p w rows = length (filter (λ r. equal_not_null w (part_value r p)) rows)

-- a row refers by the foreign key to some row, unless its column is NULL
abbrev pub HasParent : (ℕ → List RowAt) → ForeignDef → RowAt → Type 0
HasParent rows f r = not_null (value_at r.values f.column) ≡ true → 1 ≤ with_value (Col f.to) (value_at r.values f.column) (rows f.table)

-- the rows of all tables, and the foreign keys between these
pub record RowsFine (defs : List TableDef) (tables : List ℕ) (rely : Bool) (rows : ℕ → List RowAt) : Type 0 where
  -- no value is a pair
  pub plain : (n : ℕ) → Each (λ r. (p : ColPart) → is_plain (part_value r p) ≡ true) (rows n)
  -- NOT NULL columns aren't NULL
  pub sure : (n : ℕ) → Each (λ r. (p : ColPart) → never_null defs (record { table = n; part = p }) ≡ true → not_null (part_value r p) ≡ true) (rows n)
  -- keys are unique
  pub unique : (c : ColRef) → is_key_column defs c ≡ true → (w : Value) → with_value c.part w (rows c.table) ≤ 1
  -- foreign keys hold that are enabled, or may be relied on
  pub foreign : (n : ℕ) → has_number tables n ≡ true → Each (λ f. has_number tables f.table ≡ true → (not f.rely || rely) ≡ true → Each (HasParent rows f) (rows n)) (def_at defs n).foreign

-- a number, or NULL
abbrev pub may_be_number : Value → Bool
may_be_number Null = true
may_be_number (Num n) = true
may_be_number w = false

-- a column of numbers
abbrev pub Numbers : (ℕ → List RowAt) → ColRef → Type 0
Numbers rows c = Each (λ r. may_be_number (part_value r c.part) ≡ true) (rows c.table)

-- the columns of a product are numbers
abbrev pub ProductFine : (ℕ → List RowAt) → Expr → Type 0
ProductFine rows (expr.Col c) = Unit {0}
ProductFine rows (expr.Product a b) = Numbers rows a × Numbers rows b
ProductFine rows (expr.Lit n) = Unit {0}

-- of COUNT alone, since a sum of anything but numbers is refused anyway
abbrev pub KindsFine : (ℕ → List RowAt) → Agg → Type 0
KindsFine rows CountAll = Unit {0}
KindsFine rows (Count e) = ProductFine rows e
KindsFine rows (Sum e) = Unit {0}
KindsFine rows (Avg e) = Unit {0}
KindsFine rows (Min e) = Unit {0}
KindsFine rows (Max e) = Unit {0}
