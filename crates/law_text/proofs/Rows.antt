-- What a view stores and what a query means, by its rows and without its order.
use Rattle.std.proofs.Common.{◌≡◌, ℕ, List, [], ◌∷◌, refl, ap, arith, true, ◌==◌, map, filter}
use Rattle.std.proofs.lemmas.Bool.{or_left, or_right}
use Rattle.std.proofs.lemmas.Bool.Decides.{nat_tests}
use Rattle.wh_base.specs.Lists.{has_number, sorted_by}
use Rattle.wh_base.specs.Tables.{Base, Table, row_at, table_at}
use Rattle.wh_base.specs.declared.queries.StarQuery.{StarQuery}
use Rattle.wh_base.specs.declared.tables.RowAt.{RowAt}
use Rattle.wh_base.specs.declared.views.ViewEntry.{ViewEntry}
use Rattle.def_meaning.specs.Joined.{column_value, product, rows_at, tuple_true}
use Rattle.def_meaning.specs.Meaning.{entries, entry_cmp, in_order, meaning, stored}
use Rattle.law_text.specs.Unordered.{unordered}

pub same-rows : (q r : StarQuery) (base : Base) → unordered q ≡ unordered r → meaning q base ≡ in_order q.order (map (λ e. e.row) (stored r base))
same-rows q r base h =
    let same : stored q base ≡ stored r base = ap (λ (x : StarQuery). stored x base) h in
    ap (λ (es : List ViewEntry). in_order q.order (map (λ e. e.row) es)) same

-- ---- base states that differ in other tables

same-number : (n : ℕ) → (n == n) ≡ true
same-number n = grind (arith, nat_tests)

rows-same : (base other : Base) (ns : List ℕ) → ((n : ℕ) → has_number ns n ≡ true → table_at base n ≡ table_at other n) → map (rows_at base) ns ≡ map (rows_at other) ns
rows-same base other [] h = refl
rows-same base other (n ∷ ns) h =
    let first : rows_at base n ≡ rows_at other n = ap (λ (t : Table). map (row_at t) t.rows) (h n (or_left (n == n) (has_number ns n) (same-number n))) in
    let rest : map (rows_at base) ns ≡ map (rows_at other) ns = rows-same base other ns (λ m k. h m (or_right (n == m) (has_number ns m) k)) in
    rw (first, rest) refl

abbrev over : StarQuery → List (List RowAt) → List ViewEntry
over q rows = sorted_by entry_cmp (entries (column_value q.tables) q (filter (tuple_true q) (product rows)))

pub stored-same : (q : StarQuery) (base other : Base) → ((n : ℕ) → has_number q.tables n ≡ true → table_at base n ≡ table_at other n) → stored q base ≡ stored q other
stored-same q base other h = ap (over q) (rows-same base other q.tables h)

pub meaning-same : (q : StarQuery) (base other : Base) → ((n : ℕ) → has_number q.tables n ≡ true → table_at base n ≡ table_at other n) → meaning q base ≡ meaning q other
meaning-same q base other h = ap (λ (es : List ViewEntry). in_order q.order (map (λ e. e.row) es)) (stored-same q base other h)
