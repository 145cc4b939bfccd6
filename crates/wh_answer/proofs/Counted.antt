-- How many rows the base plan of a query reads: each table of the query is named once.
use Rattle.std.proofs.Common.{◌≡◌, ◌∙◌, ap, refl, arith, ℕ, zero, suc, ◌+◌, ◌*◌, ◌≤◌, Bool, true, false, cond, not, List, [], ◌∷◌, ◌++◌, length, map}
use Rattle.std.proofs.lemmas.List.{length-map}
use Rattle.std.proofs.lemmas.Bool.{and_parts}
use Rattle.std.proofs.lemmas.Bool.Decides.{nat_tests}
use Rattle.std.proofs.lemmas.List.Elements.{All-head, All-tail}
use Rattle.std.proofs.lemmas.List.Sums.{sum_by-cons, sum_by-le-sum_by}
use Rattle.std.specs.List.{All, filter}
use Rattle.std.specs.Prelude.{◌&&◌, ◌||◌, ◌==◌, None, Option, Some, sum_by}
use Rattle.wh_base.specs.Lists.{has_number, option_case}
use Rattle.wh_base.specs.Tables.{Base, Table, defs_of, row_at, table_at}
use Rattle.wh_base.specs.declared.queries.Edge.{Edge}
use Rattle.wh_base.specs.declared.queries.StarQuery.{StarQuery}
use Rattle.wh_base.specs.declared.tables.TableDef.{TableDef}
use Rattle.def_effect.specs.Block.{max_rows}
use Rattle.def_effect.specs.Define.{max_objects}
use Rattle.def_meaning.specs.Ranges.{Seen, admitted_parts, admitted_rows, base_reads, rows_read, seen}
use Rattle.def_resolve.specs.Resolve.{IsStar}
use Rattle.def_resolve.specs.Star.{is_key_column, leads_outwards}
use Rattle.wh_answer.specs.Answered.{most_reads}

-- ---- numbers by their places

abbrev at_place : List ℕ → ℕ → ℕ
at_place [] n = 0
at_place (x ∷ xs) zero = x
at_place (x ∷ xs) (suc n) = at_place xs n

-- the same with 0 at a place
abbrev without : ℕ → List ℕ → List ℕ
without n [] = []
without zero (x ∷ xs) = 0 ∷ xs
without (suc n) (x ∷ xs) = x ∷ without n xs

abbrev without_all : List ℕ → List ℕ → List ℕ
without_all [] xs = xs
without_all (n ∷ ns) xs = without_all ns (without n xs)

abbrev total : List ℕ → ℕ
total [] = 0
total (x ∷ xs) = x + total xs

taken_out : (xs : List ℕ) (n : ℕ) → total xs ≡ at_place xs n + total (without n xs)
taken_out [] n = omega arith
taken_out (x ∷ xs) zero = omega arith
taken_out (x ∷ xs) (suc n) = let rest : total xs ≡ at_place xs n + total (without n xs) = taken_out xs n in omega arith

less_one : (m n : ℕ) → (suc m == suc n) ≡ false → (m == n) ≡ false
less_one m n h = grind (arith, nat_tests)

elsewhere : (xs : List ℕ) (m n : ℕ) → (m == n) ≡ false → at_place (without m xs) n ≡ at_place xs n
elsewhere [] m n h = refl
elsewhere (x ∷ xs) zero zero h = absurd (cc)
elsewhere (x ∷ xs) zero (suc n) h = refl
elsewhere (x ∷ xs) (suc m) zero h = refl
elsewhere (x ∷ xs) (suc m) (suc n) h = elsewhere xs m n (less_one m n h)

none_of_two : (a b : Bool) → not (a || b) ≡ true → (a ≡ false) × (not b ≡ true)
none_of_two true b h = absurd (cc)
none_of_two false b h = (refl, h)

elsewhere_all : (ns xs : List ℕ) (n : ℕ) → not (has_number ns n) ≡ true → at_place (without_all ns xs) n ≡ at_place xs n
elsewhere_all [] xs n h = refl
elsewhere_all (m ∷ ns) xs n h =
    let parts = none_of_two (m == n) (has_number ns n) h in
    elsewhere_all ns (without m xs) n parts.1 ∙ elsewhere xs m n parts.0

without_last : (ns xs : List ℕ) (n : ℕ) → without_all (ns ++ n ∷ []) xs ≡ without n (without_all ns xs)
without_last [] xs n = refl
without_last (m ∷ ns) xs n = without_last ns (without m xs) n

-- joins that lead outwards reach tables that weren't listed, each once
walk : (defs : List TableDef) (xs listed : List ℕ) (es : List Edge) → leads_outwards defs listed es ≡ true
    → sum_by (at_place xs) (map (λ e. e.to.table) es) ≤ total (without_all listed xs)
walk defs xs listed [] h = omega arith
walk defs xs listed (e ∷ es) h =
    let n : ℕ = e.to.table in
    let parts = and_parts (has_number listed e.from.table && (not (has_number listed n) && is_key_column defs e.to)) (leads_outwards defs (listed ++ n ∷ []) es) h in
    let leads = and_parts (has_number listed e.from.table) (not (has_number listed n) && is_key_column defs e.to) parts.0 in
    let outside : not (has_number listed n) ≡ true = (and_parts (not (has_number listed n)) (is_key_column defs e.to) leads.1).0 in
    let here : at_place (without_all listed xs) n ≡ at_place xs n = elsewhere_all listed xs n outside in
    let taken : total (without_all listed xs) ≡ at_place (without_all listed xs) n + total (without n (without_all listed xs)) = taken_out (without_all listed xs) n in
    let left : total (without_all (listed ++ n ∷ []) xs) ≡ total (without n (without_all listed xs)) = ap total (without_last listed xs n) in
    let rest : sum_by (at_place xs) (map (λ e. e.to.table) es) ≤ total (without_all (listed ++ n ∷ []) xs) = walk defs xs (listed ++ n ∷ []) es parts.1 in
    omega (arith, sum_by-cons (at_place xs) n (map (λ e. e.to.table) es))

star_total : (defs : List TableDef) (xs : List ℕ) (q : StarQuery) → IsStar defs q → sum_by (at_place xs) q.tables ≤ total xs
star_total defs xs q star =
    let far : sum_by (at_place xs) (map (λ e. e.to.table) q.edges) ≤ total (without q.root xs) = walk defs xs (q.root ∷ []) q.edges star.0.1 in
    let whole : sum_by (at_place xs) q.tables ≡ sum_by (at_place xs) (q.root ∷ map (λ e. e.to.table) q.edges) = ap (sum_by (at_place xs)) star.0.0 in
    omega (arith, taken_out xs q.root, sum_by-cons (at_place xs) q.root (map (λ e. e.to.table) q.edges))

-- ---- rows by tables

abbrev row_sizes : Base → List ℕ
row_sizes base = map (λ t. length t.rows) base

size_at : (base : Base) (n : ℕ) → length (table_at base n).rows ≡ at_place (row_sizes base) n
size_at [] n = refl
size_at (t ∷ ts) zero = refl
size_at (t ∷ ts) (suc n) = size_at ts n

size_total : (base : Base) → All (λ t. length t.rows ≤ max_rows) base → total (row_sizes base) ≤ length base * max_rows
size_total [] few = omega arith
size_total (t ∷ ts) few =
    let here : length t.rows ≤ max_rows = All-head (λ t. length t.rows ≤ max_rows) t ts few in
    let rest : total (row_sizes ts) ≤ length ts * max_rows = size_total ts (All-tail (λ t. length t.rows ≤ max_rows) t ts few) in
    omega arith

filter_few : {A : Type 0} (p : A → Bool) (xs : List A) → length (filter p xs) ≤ length xs
filter_few p [] = omega arith
filter_few p (x ∷ xs) = by (p x) (filter_few p xs)
  where
    by : (b : Bool) → length (filter p xs) ≤ length xs → length (cond b (x ∷ filter p xs) (filter p xs)) ≤ suc (length xs)
    by true h = omega arith
    by false h = omega arith

admitted_few : (q : StarQuery) (s : Seen) → length (admitted_rows q s) ≤ length s.rows
admitted_few q s = by s.part_key
  where
    by : (o : Option ℕ) → length (option_case o s.rows (λ key. filter (λ r. has_number (admitted_parts q s.parts key) r.mark) s.rows)) ≤ length s.rows
    by None = omega arith
    by (Some key) = filter_few (λ r. has_number (admitted_parts q s.parts key) r.mark) s.rows

reads_few : (q : StarQuery) (base : Base) (n : ℕ) → rows_read q (λ m. seen (table_at base m)) n ≤ at_place (row_sizes base) n
reads_few q base n =
    let t : Table = table_at base n in
    let here : length (seen t).rows ≡ length t.rows = length-map t.rows (row_at t) in
    let most : rows_read q (λ m. seen (table_at base m)) n ≤ length (seen t).rows = by (n == q.root) in
    omega (arith, most, here, size_at base n)
  where
    by : (b : Bool) → cond b (length (admitted_rows q (seen (table_at base n)))) (length (seen (table_at base n)).rows) ≤ length (seen (table_at base n)).rows
    by true = admitted_few q (seen (table_at base n))
    by false = omega arith

-- the base plan of a star query reads no row of the base state twice
pub reads_bound : (q : StarQuery) (base : Base) → IsStar (defs_of base) q → All (λ t. length t.rows ≤ max_rows) base → length base ≤ max_objects → base_reads q base ≤ most_reads
reads_bound q base star few objects =
    let each : base_reads q base ≤ sum_by (at_place (row_sizes base)) q.tables =
    sum_by-le-sum_by (rows_read q (λ m. seen (table_at base m))) (at_place (row_sizes base)) q.tables (reads_few q base) in
    omega (arith, each, star_total (defs_of base) (row_sizes base) q star, size_total base few)
