-- A column whose values don't repeat is a key of its table's rows.
use Rattle.std.proofs.Common.{◌≡◌, subst, refl, arith, ℕ, Bool, true, false, cond, not, List, [], ◌∷◌, ◌+◌, ◌≤◌, Some, None, map}
use Rattle.std.proofs.lemmas.Bool.{eqb-true, or_left, or_right}
use Rattle.std.proofs.lemmas.List.Elements.{All-head, All-tail}
use Rattle.std.specs.List.{All, filter, list_any}
use Rattle.std.specs.Prelude.{◌&&◌, ◌||◌, ◌==◌}
use Rattle.wh_base.proofs.Same.{same_value-Decides}
use Rattle.wh_base.proofs.Sorting.{times}
use Rattle.wh_base.specs.Lists.{has_number, repeated_after}
use Rattle.wh_base.specs.Tables.{Row, Table, row_at, value_at}
use Rattle.wh_base.specs.Values.{equal_not_null, is_null, same_value}
use Rattle.wh_base.specs.declared.columns.ColPart.TheVariants.{Col}
use Rattle.wh_base.specs.declared.values.Value.{Value}
use Rattle.wh_base.specs.declared.values.Value.TheVariants.{Null}
use Rattle.def_effect.specs.Block.{column_values}
use Rattle.def_meaning.specs.Joined.{part_value}
use Rattle.def_meaning.specs.Meaning.{not_null}
use Rattle.wh_evaluate.specs.Shown.{IsUnique}
use Rattle.wh_star.proofs.Products.{times-filter, weight}
use Rattle.wh_star.specs.Found.{AreKeys}

-- ---- values that don't repeat

-- a value that came before doesn't come again
no_more : (v : Value) (seen xs : List Value) → list_any (same_value v) seen ≡ true → repeated_after same_value seen xs ≡ None → times (same_value v) xs ≡ 0
no_more v seen [] h k = refl
no_more v seen (x ∷ xs) h k = by (list_any (same_value x) seen) refl k (no_more v (x ∷ seen) xs (or_right (same_value v x) (list_any (same_value v) seen) h))
  where
    here : (b : Bool) → same_value v x ≡ b → list_any (same_value x) seen ≡ false → weight b ≡ 0
    here false e f = refl
    here true e f =
        let one : v ≡ x = (same_value-Decides v x).0 e in
        let said : list_any (same_value x) seen ≡ true = subst (λ w. list_any (same_value w) seen ≡ true) one h in
        cc

    by : (b : Bool) → list_any (same_value x) seen ≡ b → cond b (Some x) (repeated_after same_value (x ∷ seen) xs) ≡ None
        → (repeated_after same_value (x ∷ seen) xs ≡ None → times (same_value v) xs ≡ 0) → weight (same_value v x) + times (same_value v) xs ≡ 0
    by true e g rest = cc
    by false e g rest = omega (arith, here (same_value v x) refl e, rest g)

-- no value comes twice
once : (v : Value) (seen xs : List Value) → repeated_after same_value seen xs ≡ None → times (same_value v) xs ≤ 1
once v seen [] k = omega arith
once v seen (x ∷ xs) k = by (list_any (same_value x) seen) k (once v (x ∷ seen) xs)
  where
    first : (b : Bool) → same_value v x ≡ b → repeated_after same_value (x ∷ seen) xs ≡ None → times (same_value v) xs ≤ 1 → weight b + times (same_value v) xs ≤ 1
    first false e g rest = omega (arith, rest)
    first true e g rest = omega (arith, no_more v (x ∷ seen) xs (or_left (same_value v x) (list_any (same_value v) seen) e) g)

    by : (b : Bool) → cond b (Some x) (repeated_after same_value (x ∷ seen) xs) ≡ None
        → (repeated_after same_value (x ∷ seen) xs ≡ None → times (same_value v) xs ≤ 1) → weight (same_value v x) + times (same_value v) xs ≤ 1
    by true g rest = cc
    by false g rest = first (same_value v x) refl g (rest g)

-- ---- the rows of a table

null_equals : (v : Value) → weight (equal_not_null v Null) ≡ 0
null_equals Null = refl
null_equals v = refl

less : (a b : Bool) → weight (a && b) ≤ weight b
less true b = omega arith
less false true = omega arith
less false false = omega arith

one_more : (v w : Value) (n : ℕ) (vs : List Value) → n ≤ times (same_value v) vs → weight (equal_not_null v w) + n ≤ times (same_value v) (cond (not_null w) (w ∷ vs) vs)
one_more v w n vs h = by (is_null w) refl
  where
    null : (w : Value) → is_null w ≡ true → weight (equal_not_null v w) ≡ 0
    null Null e = null_equals v
    null w e = cc

    by : (b : Bool) → is_null w ≡ b → weight (equal_not_null v w) + n ≤ times (same_value v) (cond (not b) (w ∷ vs) vs)
    by true e = omega (arith, null w e, h)
    by false e = let part : weight (equal_not_null v w) ≤ weight (same_value v w) = less (not (is_null v)) (same_value v w) in omega (arith, part, h)

rows-counted : (t : Table) (k : ℕ) (v : Value) (rs : List Row) → times (λ r. equal_not_null v (part_value r (Col k))) (map (row_at t) rs) ≤ times (same_value v) (filter not_null (map (λ r. value_at r.values k) rs))
rows-counted t k v [] = omega arith
rows-counted t k v (r ∷ rs) =
    one_more v (value_at r.values k) (times (λ r. equal_not_null v (part_value r (Col k))) (map (row_at t) rs)) (filter not_null (map (λ r. value_at r.values k) rs)) (rows-counted t k v rs)

-- at most one row of the table has a value in a column without repeated ones
pub unique-key : (t : Table) (k : ℕ) → IsUnique t k → AreKeys (Col k) (map (row_at t) t.rows)
unique-key t k unique v =
    omega (arith, rows-counted t k v t.rows, once v [] (column_values t k) unique, times-filter (λ r. equal_not_null v (part_value r (Col k))) (map (row_at t) t.rows))

-- so it is with a column that is among these
pub listed-unique : (t : Table) (ks : List ℕ) (k : ℕ) → All (IsUnique t) ks → has_number ks k ≡ true → IsUnique t k
listed-unique t [] k all h = cc
listed-unique t (j ∷ ks) k all h = by (j == k) refl h (listed-unique t ks k (All-tail (IsUnique t) j ks all))
  where
    by : (b : Bool) → (j == k) ≡ b → (b || has_number ks k) ≡ true → (has_number ks k ≡ true → IsUnique t k) → IsUnique t k
    by true e g later = subst (IsUnique t) (eqb-true j k e) (All-head (IsUnique t) j ks all)
    by false e g later = later g
