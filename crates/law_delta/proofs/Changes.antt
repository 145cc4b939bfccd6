-- The rows after changes, with the old sides, are the rows before with the new sides.
use Rattle.std.proofs.Common.{◌≡◌, ap, refl, arith, ℕ, not, List, [], ◌∷◌, ◌++◌, map, Option, Some, None}
use Rattle.std.specs.Prelude.{ℤ, ◌+ℤ◌, filter, fold, ◌==◌}
use Rattle.std.proofs.lemmas.Int.{ints}
use Rattle.wh_base.specs.Lists.{change_where}
use Rattle.wh_base.specs.Tables.{Row, rows_after}
use Rattle.wh_base.specs.declared.tables.Change.{Change}
use Rattle.wh_base.specs.declared.values.Value.{Value}
use Rattle.law_delta.specs.Deltas.{weight, side, old_rows, new_rows, AllApply}
use Rattle.law_delta.proofs.Weights.{weight-append, weight-parts, weight-change}

-- one change, by its sides
change_balanced : (f : Row → ℤ) (rows : List Row) (rowid : ℕ) (old new : Option (List Value)) → filter (λ r. r.rowid == rowid) rows ≡ side rowid old → weight f (rows_after rows (record { rowid = rowid; old = old; new = new })) +ℤ weight f (side rowid old) ≡ weight f rows +ℤ weight f (side rowid new)
change_balanced f rows rowid old None h =
    let parts : weight f (filter (λ r. r.rowid == rowid) rows) +ℤ weight f (filter (λ r. not (r.rowid == rowid)) rows) ≡ weight f rows = weight-parts f (λ r. r.rowid == rowid) rows in
    let here : weight f (filter (λ r. r.rowid == rowid) rows) ≡ weight f (side rowid old) = ap (weight f) h in
    omega (arith, ints)
change_balanced f rows rowid None (Some new) h =
    let e : weight f (rows ++ record { rowid = rowid; values = new } ∷ []) ≡ weight f rows +ℤ weight f (record { rowid = rowid; values = new } ∷ []) = weight-append f rows (record { rowid = rowid; values = new } ∷ []) in
    omega (arith, ints)
change_balanced f rows rowid (Some old) (Some new) h =
    let parts : weight f (filter (λ r. r.rowid == rowid) rows) +ℤ weight f (filter (λ r. not (r.rowid == rowid)) rows) ≡ weight f rows = weight-parts f (λ r. r.rowid == rowid) rows in
    let here : weight f (filter (λ r. r.rowid == rowid) rows) ≡ weight f (side rowid (Some old)) = ap (weight f) h in
    let change : Row → Row = λ r. record { rowid = r.rowid; values = new } in
    let after : weight f (change_where (λ r. r.rowid == rowid) change rows) ≡ weight f (map change (filter (λ r. r.rowid == rowid) rows)) +ℤ weight f (filter (λ r. not (r.rowid == rowid)) rows) = weight-change f (λ r. r.rowid == rowid) change rows in
    let there : weight f (map change (filter (λ r. r.rowid == rowid) rows)) ≡ weight f (side rowid (Some new)) = ap (λ rs. weight f (map change rs)) h in
    omega (arith, ints)

pub changes_balanced : (f : Row → ℤ) (rows : List Row) (changes : List Change) → AllApply rows changes → weight f (fold rows_after rows changes) +ℤ weight f (old_rows changes) ≡ weight f rows +ℤ weight f (new_rows changes)
changes_balanced f rows [] fit = refl
changes_balanced f rows (c ∷ cs) fit =
    let one : weight f (rows_after rows c) +ℤ weight f (side c.rowid c.old) ≡ weight f rows +ℤ weight f (side c.rowid c.new) = change_balanced f rows c.rowid c.old c.new fit.0 in
    let more : weight f (fold rows_after (rows_after rows c) cs) +ℤ weight f (old_rows cs) ≡ weight f (rows_after rows c) +ℤ weight f (new_rows cs) = changes_balanced f (rows_after rows c) cs fit.1 in
    let olds : weight f (old_rows (c ∷ cs)) ≡ weight f (side c.rowid c.old) +ℤ weight f (old_rows cs) = weight-append f (side c.rowid c.old) (old_rows cs) in
    let news : weight f (new_rows (c ∷ cs)) ≡ weight f (side c.rowid c.new) +ℤ weight f (new_rows cs) = weight-append f (side c.rowid c.new) (new_rows cs) in
    omega (arith, ints)
