-- Worked examples: three rows of a root with a far table of two rows, one of the root's values NULL and one with no far row.
use Rattle.std.proofs.Common.{◌≡◌, refl, ℕ, zero, List, [], ◌∷◌, None}
use Rattle.std.specs.Prelude.{pos, codes, false}
use Rattle.wh_base.specs.declared.columns.ColPart.TheVariants.{Col}
use Rattle.wh_base.specs.declared.columns.ColRef.{ColRef}
use Rattle.wh_base.specs.declared.queries.Condition.TheVariants.{Compare}
use Rattle.wh_base.specs.declared.queries.StarQuery.{StarQuery}
use Rattle.wh_base.specs.declared.tables.RowAt.{RowAt}
use Rattle.wh_base.specs.declared.values.Op.TheVariants.{Ge}
use Rattle.wh_base.specs.declared.values.Value.{Value}
use Rattle.wh_base.specs.declared.values.Value.TheVariants.{Null, Num, Text}
use Rattle.def_meaning.specs.Joined.{joined_over}
use Rattle.wh_star.specs.Found.{found_over, row_with}

abbrev column : ℕ → ℕ → ColRef
column table n = record { table = table; part = Col n }

abbrev row : ℕ → List Value → RowAt
row rowid values = record { rowid = rowid; mark = 0; values = values }

-- sales of a product, and products
abbrev sale_1 : RowAt
sale_1 = row 1 (Num (pos 8) ∷ Num (pos 30) ∷ [])

abbrev sale_2 : RowAt
sale_2 = row 2 (Null ∷ Num (pos 40) ∷ [])

abbrev sale_3 : RowAt
sale_3 = row 3 (Num (pos 9) ∷ Num (pos 50) ∷ [])

abbrev sale_4 : RowAt
sale_4 = row 4 (Num (pos 7) ∷ Num (pos 10) ∷ [])

abbrev product_7 : RowAt
product_7 = row 1 (Num (pos 7) ∷ Text (codes "pen") ∷ [])

abbrev product_8 : RowAt
product_8 = row 2 (Num (pos 8) ∷ Text (codes "cap") ∷ [])

abbrev product_none : RowAt
product_none = row 3 (Null ∷ Text (codes "hat") ∷ [])

abbrev rows : ℕ → List RowAt
rows zero = sale_1 ∷ sale_2 ∷ sale_3 ∷ sale_4 ∷ []
rows n = product_7 ∷ product_8 ∷ product_none ∷ []

-- each sale with its product, of at least so much
abbrev sold : ℕ → StarQuery
sold least =
    record {
      root = 0;
      tables = 0 ∷ 1 ∷ [];
      edges = record { from = column 0 0; to = column 1 0 } ∷ [];
      conditions = Compare (column 0 1) Ge (Num (pos least)) ∷ [];
      grouped = false;
      keys = [];
      items = [];
      having = [];
      order = [];
      as_of = None;
    }

-- NULL leads nowhere, and neither does a key that isn't there
found : found_over (sold 0) rows ≡ (sale_1 ∷ product_8 ∷ []) ∷ (sale_4 ∷ product_7 ∷ []) ∷ []
found = refl

meant : joined_over (sold 0) rows ≡ (sale_1 ∷ product_8 ∷ []) ∷ (sale_4 ∷ product_7 ∷ []) ∷ []
meant = refl

-- a condition is asked of the whole tuple
found_more : found_over (sold 20) rows ≡ (sale_1 ∷ product_8 ∷ []) ∷ []
found_more = refl

meant_more : joined_over (sold 20) rows ≡ (sale_1 ∷ product_8 ∷ []) ∷ []
meant_more = refl

no_null : row_with (Col 0) (rows 1) Null ≡ None
no_null = refl
