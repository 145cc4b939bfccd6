-- What a list of changes takes from the rows and adds to them, weighed by any function.
use Rattle.std.specs.Prelude.{List, None, Option, Some, [], filter, flat_map, map, pos, ℕ, ℤ, ◌++◌, ◌+ℤ◌, ◌==◌, ◌∷◌, ◌≡◌}
use Rattle.wh_base.specs.Tables.{Row, Table, row_at, rows_after}
use Rattle.wh_base.specs.declared.queries.StarQuery.{StarQuery}
use Rattle.wh_base.specs.declared.tables.RowAt.{RowAt}
use Rattle.def_meaning.specs.Joined.{product, tuple_true}
use Rattle.wh_base.specs.declared.tables.Change.{Change}
use Rattle.wh_base.specs.declared.values.Value.{Value}

-- the sum of f over the items
abbrev pub weight : {A : Type 0} → (A → ℤ) → List A → ℤ
weight f [] = pos 0
weight f (x ∷ xs) = f x +ℤ weight f xs

-- the row of a side, where the side is there
abbrev pub side : ℕ → Option (List Value) → List Row
side rowid None = []
side rowid (Some vs) = record { rowid = rowid; values = vs } ∷ []

abbrev pub old_rows : List Change → List Row
old_rows changes = flat_map (λ c. side c.rowid c.old) changes

abbrev pub new_rows : List Change → List Row
new_rows changes = flat_map (λ c. side c.rowid c.new) changes

-- the change is one of these rows: its old side is what has its rowid
abbrev pub Applies : List Row → Change → Type 0
Applies rows c = filter (λ r. r.rowid == c.rowid) rows ≡ side c.rowid c.old

abbrev pub AllApply : List Row → List Change → Type 0
AllApply rows [] = Unit {0}
AllApply rows (c ∷ cs) = Applies rows c × AllApply (rows_after rows c) cs

-- ---- lists that balance: the first with the second weigh as the third with the fourth, by every weight

abbrev pub Balanced : {A : Type 0} → List A → List A → List A → List A → Type 0
Balanced {A} now olds before news = (f : A → ℤ) → weight f now +ℤ weight f olds ≡ weight f before +ℤ weight f news

-- ---- the tuples that changed, each counted once: up to a table the rows of now, at it the sides, and from there on the rows before

abbrev pub front_by : {A : Type 0} → List A → List (List A) → List (List A)
front_by xs tuples = flat_map (λ x. map (λ rest. x ∷ rest) tuples) xs

abbrev pub mixed : {N A : Type 0} → (N → List A) → (N → List A) → (N → List A) → List N → List (List A)
mixed now sides before [] = []
mixed now sides before (n ∷ ns) = front_by (sides n) (product (map before ns)) ++ front_by (now n) (mixed now sides before ns)

-- the tuples over what changed
abbrev pub joined_mixed : StarQuery → (ℕ → List RowAt) → (ℕ → List RowAt) → (ℕ → List RowAt) → List (List RowAt)
joined_mixed q now sides before = filter (tuple_true q) (mixed now sides before q.tables)

-- the sides of changes as tuples have them
abbrev pub old_rows_at : Table → List Change → List RowAt
old_rows_at t changes = map (row_at t) (old_rows changes)

abbrev pub new_rows_at : Table → List Change → List RowAt
new_rows_at t changes = map (row_at t) (new_rows changes)
