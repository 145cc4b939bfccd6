-- Look-ups of keys find the tuples of the product that meet every join, in the order of the product.
use Rattle.std.proofs.Common.{◌≡◌, ◌∙◌, sym, ap, subst, refl, arith, ℕ, suc, Bool, true, false, cond, not, List, [], ◌∷◌, ◌++◌, Option, ◌≤◌, length, map, get_or, append_assoc, length-append}
use Rattle.std.proofs.lemmas.List.{append-nil}
use Rattle.std.specs.List.{AllPairs, filter, filter_map, find, list_all}
use Rattle.std.specs.Prelude.{◌&&◌, ◌||◌, ◌==◌}
use Rattle.std.proofs.lemmas.Bool.{and_parts, eq-eqb, not-true}
use Rattle.wh_base.proofs.Same.{same_value-Decides}
use Rattle.wh_base.proofs.Sorting.{times}
use Rattle.wh_base.specs.Lists.{has_number}
use Rattle.wh_base.specs.Values.{equal_not_null, is_null, same_value}
use Rattle.wh_base.specs.declared.columns.ColPart.{ColPart}
use Rattle.wh_base.specs.declared.queries.Condition.{Condition}
use Rattle.wh_base.specs.declared.queries.Edge.{Edge}
use Rattle.wh_base.specs.declared.queries.StarQuery.{StarQuery}
use Rattle.wh_base.specs.declared.tables.RowAt.{RowAt}
use Rattle.wh_base.specs.declared.tables.TableDef.{TableDef}
use Rattle.wh_base.specs.declared.values.Value.{Value}
use Rattle.def_meaning.specs.Joined.{column_value, conditions_true, edge_true, joined_over, part_value, product, row_of}
use Rattle.def_resolve.specs.Star.{is_key_column, leads_outwards}
use Rattle.law_lists.proofs.Lists.{filter-filter, filter-map}
use Rattle.wh_star.specs.Found.{AreKeys, HaveKeys, IsJoinTree, completed, found_over}
use Rattle.wh_star.proofs.Products.{filter-flat_map, filter-guard, flat_map-listed, flat_map-one, flat_map-same, listed, listed-case, map-flat_map, map-map, times-filter, times-from_pairs}

-- ---- the rows of a tuple that grows

-- the row of a table that the tuple has stays
pub row_of-kept : (ns ms : List ℕ) (rs ss : List RowAt) (n : ℕ) → has_number ns n ≡ true → length rs ≡ length ns → row_of (ns ++ ms) (rs ++ ss) n ≡ row_of ns rs n
row_of-kept [] ms rs ss n h e = cc
row_of-kept (m ∷ ns) ms [] ss n h e = absurd (omega (arith, e))
row_of-kept (m ∷ ns) ms (r ∷ rs) ss n h e = by (m == n) h (λ k. row_of-kept ns ms rs ss n k (omega (arith, e)))
  where
    by : (b : Bool) → (b || has_number ns n) ≡ true → (has_number ns n ≡ true → row_of (ns ++ ms) (rs ++ ss) n ≡ row_of ns rs n) → cond b r (row_of (ns ++ ms) (rs ++ ss) n) ≡ cond b r (row_of ns rs n)
    by true h rest = refl
    by false h rest = rest h

-- the row that comes last is that of the table that comes last, where it isn't among the earlier ones
pub row_of-new : (ns ms : List ℕ) (rs : List RowAt) (r : RowAt) (ss : List RowAt) (n : ℕ) → has_number ns n ≡ false → length rs ≡ length ns → row_of (ns ++ n ∷ ms) (rs ++ r ∷ ss) n ≡ r
row_of-new [] ms [] r ss n h e = let same : (n == n) ≡ true = eq-eqb n n refl in ap (λ b. cond b r (row_of ms ss n)) same
row_of-new [] ms (s ∷ rs) r ss n h e = absurd (omega (arith, e))
row_of-new (m ∷ ns) ms [] r ss n h e = absurd (omega (arith, e))
row_of-new (m ∷ ns) ms (s ∷ rs) r ss n h e = by (m == n) h (λ k. row_of-new ns ms rs r ss n k (omega (arith, e)))
  where
    by : (b : Bool) → (b || has_number ns n) ≡ false → (has_number ns n ≡ false → row_of (ns ++ n ∷ ms) (rs ++ r ∷ ss) n ≡ r) → cond b s (row_of (ns ++ n ∷ ms) (rs ++ r ∷ ss) n) ≡ r
    by true h rest = cc
    by false h rest = rest h

-- ---- keys

-- equal values that aren't NULL are one value
pub one_value : (v w : Value) → equal_not_null v w ≡ true → v ≡ w
one_value v w h = (same_value-Decides v w).0 (and_parts (not (is_null v)) (same_value v w) h).1

-- at most one of the rows of a key has a value
pub one_row : (part : ColPart) (rows : List RowAt) (v : Value) → AreKeys part rows → times (λ r. equal_not_null v (part_value r part)) rows ≤ 1
one_row part rows v keys = omega (arith, keys v, times-filter (λ r. equal_not_null v (part_value r part)) rows)

-- rows of which no two have one value are those of a key
pub keys-from_pairs : (part : ColPart) (rows : List RowAt) → AllPairs (λ r s. equal_not_null (part_value r part) (part_value s part) ≡ false) rows → AreKeys part rows
keys-from_pairs part rows pairs v =
    let one : times (λ r. equal_not_null v (part_value r part)) rows ≤ 1 =
    times-from_pairs (λ r. equal_not_null v (part_value r part)) rows (λ i j d h k passes.
    subst (λ w. equal_not_null w (part_value (get_or rows j d) part) ≡ false) (sym (one_value v (part_value (get_or rows i d) part) passes)) (pairs i j d h k)) in
    omega (arith, one, times-filter (λ r. equal_not_null v (part_value r part)) rows)

-- ---- the joins

-- each of these joins is true in the tuple
abbrev pub edges_true : List ℕ → List RowAt → List Edge → Bool
edges_true tables tuple es = list_all (edge_true (column_value tables tuple)) es

-- the near column of the join to the table that comes next
abbrev near_value : List ℕ → List ℕ → List RowAt → Edge → Value
near_value tables ms tuple e = column_value (tables ++ e.to.table ∷ ms) tuple e.from

-- the join to a table that comes next is true where the row of that table meets it, whatever comes after
pub edge-next :
    (tables ms : List ℕ) (tuple : List RowAt) (r : RowAt) (ss : List RowAt) (e : Edge)
    → length tuple ≡ length tables → has_number tables e.from.table ≡ true → has_number tables e.to.table ≡ false
    → edge_true (column_value (tables ++ e.to.table ∷ ms) (tuple ++ r ∷ ss)) e ≡ equal_not_null (near_value tables ms tuple e) (part_value r e.to.part)
edge-next tables ms tuple r ss e size near far =
    let whole : row_of (tables ++ e.to.table ∷ ms) (tuple ++ r ∷ ss) e.from.table ≡ row_of tables tuple e.from.table =
    row_of-kept tables (e.to.table ∷ ms) tuple (r ∷ ss) e.from.table near size in
    let so_far : row_of (tables ++ e.to.table ∷ ms) (tuple ++ []) e.from.table ≡ row_of tables tuple e.from.table =
    row_of-kept tables (e.to.table ∷ ms) tuple [] e.from.table near size in
    let nothing : row_of (tables ++ e.to.table ∷ ms) (tuple ++ []) e.from.table ≡ row_of (tables ++ e.to.table ∷ ms) tuple e.from.table =
    ap (λ rs. row_of (tables ++ e.to.table ∷ ms) rs e.from.table) (append-nil tuple) in
    let from : row_of (tables ++ e.to.table ∷ ms) (tuple ++ r ∷ ss) e.from.table ≡ row_of (tables ++ e.to.table ∷ ms) tuple e.from.table =
    whole ∙ sym so_far ∙ nothing in
    let to : row_of (tables ++ e.to.table ∷ ms) (tuple ++ r ∷ ss) e.to.table ≡ r = row_of-new tables ms tuple r ss e.to.table far size in
    λ i. equal_not_null (part_value (from i) e.from.part) (part_value (to i) e.to.part)

one_longer : {A B : Type 0} (xs : List A) (ys : List B) (x : A) (y : B) → length xs ≡ length ys → length (xs ++ x ∷ []) ≡ length (ys ++ y ∷ [])
one_longer xs ys x y e = omega (arith, length-append xs (x ∷ []), length-append ys (y ∷ []), e)

map_cond : {A B : Type 0} (f : A → B) (b : Bool) (xs : List A) → map f (cond b xs []) ≡ cond b (map f xs) []
map_cond f true xs = refl
map_cond f false xs = refl

-- the tuples that begin with these rows and meet these joins
abbrev pub matching : (ℕ → List RowAt) → List ℕ → List RowAt → List Edge → List (List RowAt)
matching rows tables tuple es =
    let further = map (λ e. e.to.table) es in
    map (λ rest. tuple ++ rest) (filter (λ rest. edges_true (tables ++ further) (tuple ++ rest) es) (product (map rows further)))

-- those that have this row in the next table
with_row :
    (rows : ℕ → List RowAt) (tables : List ℕ) (tuple : List RowAt) (e : Edge) (es : List Edge) (r : RowAt)
    → length tuple ≡ length tables → has_number tables e.from.table ≡ true → has_number tables e.to.table ≡ false
    → let further : List ℕ = map (λ d. d.to.table) es in
    map (λ rest. tuple ++ rest) (filter (λ rest. edges_true (tables ++ e.to.table ∷ further) (tuple ++ rest) (e ∷ es)) (map (λ rest. r ∷ rest) (product (map rows further))))
    ≡ cond (equal_not_null (near_value tables further tuple e) (part_value r e.to.part)) (matching rows (tables ++ e.to.table ∷ []) (tuple ++ r ∷ []) es) []
with_row rows tables tuple e es r size near far =
    let further : List ℕ = map (λ d. d.to.table) es in
    let all : List (List RowAt) = product (map rows further) in
    let meets : Bool = equal_not_null (near_value tables further tuple e) (part_value r e.to.part) in
    let longer : List ℕ = tables ++ e.to.table ∷ [] in
    let grown : List RowAt = tuple ++ r ∷ [] in
    let test : List RowAt → Bool = λ rest. edges_true (tables ++ e.to.table ∷ further) (tuple ++ rest) (e ∷ es) in
    let after : List RowAt → Bool = λ rest. edges_true (longer ++ further) (grown ++ rest) es in
    let tables_same : tables ++ e.to.table ∷ further ≡ longer ++ further = sym (append_assoc tables (e.to.table ∷ []) further) in
    let rows_same : (rest : List RowAt) → tuple ++ r ∷ rest ≡ grown ++ rest = λ rest. sym (append_assoc tuple (r ∷ []) rest) in
    let tests : (rest : List RowAt) → test (r ∷ rest) ≡ (meets && after rest) =
    λ rest. λ i. edge-next tables further tuple r rest e size near far i && edges_true (tables_same i) (rows_same rest i) es in
    ap (map (λ rest. tuple ++ rest)) (filter-map test (λ rest. r ∷ rest) all)
    ∙ map-map (λ rest. tuple ++ rest) (λ rest. r ∷ rest) (filter (λ rest. test (r ∷ rest)) all)
    ∙ (λ i. map (λ rest. rows_same rest i) (filter (λ rest. tests rest i) all))
    ∙ ap (map (λ rest. grown ++ rest)) (filter-guard meets after all)
    ∙ map_cond (λ rest. grown ++ rest) meets (filter after all)

-- look-ups complete these rows to the one tuple that meets these joins, if there is one
pub completed-matching :
    (defs : List TableDef) (rows : ℕ → List RowAt) (tables : List ℕ) (tuple : List RowAt) (es : List Edge)
    → length tuple ≡ length tables → leads_outwards defs tables es ≡ true → HaveKeys es rows
    → matching rows tables tuple es ≡ listed (completed rows (tables ++ map (λ e. e.to.table) es) tuple es)
completed-matching defs rows tables tuple [] size leads keys = ap (λ t. t ∷ []) (append-nil tuple)
completed-matching defs rows tables tuple (e ∷ es) size leads keys =
    let further : List ℕ = map (λ d. d.to.table) es in
    let all : List (List RowAt) = product (map rows further) in
    let n : ℕ = e.to.table in
    let test : List RowAt → Bool = λ rest. edges_true (tables ++ n ∷ further) (tuple ++ rest) (e ∷ es) in
    let first : Bool = has_number tables e.from.table && (not (has_number tables n) && is_key_column defs e.to) in
    let here : first ≡ true = (and_parts first (leads_outwards defs (tables ++ n ∷ []) es) leads).0 in
    let near : has_number tables e.from.table ≡ true = (and_parts (has_number tables e.from.table) (not (has_number tables n) && is_key_column defs e.to) here).0 in
    let outside : (not (has_number tables n) && is_key_column defs e.to) ≡ true =
    (and_parts (has_number tables e.from.table) (not (has_number tables n) && is_key_column defs e.to) here).1 in
    let far : has_number tables n ≡ false = not-true (has_number tables n) (and_parts (not (has_number tables n)) (is_key_column defs e.to) outside).0 in
    let meets : RowAt → Bool = λ r. equal_not_null (near_value tables further tuple e) (part_value r e.to.part) in
    let then : RowAt → Option (List RowAt) = λ r. completed rows (tables ++ n ∷ further) (tuple ++ r ∷ []) es in
    let later : (r : RowAt) → matching rows (tables ++ n ∷ []) (tuple ++ r ∷ []) es ≡ listed (then r) =
    λ r. completed-matching defs rows (tables ++ n ∷ []) (tuple ++ r ∷ []) es (one_longer tuple tables r n size)
    (and_parts first (leads_outwards defs (tables ++ n ∷ []) es) leads).1 (λ k d h. keys (suc k) d (omega arith))
    ∙ ap (λ ts. listed (completed rows ts (tuple ++ r ∷ []) es)) (append_assoc tables (n ∷ []) further) in
    ap (map (λ rest. tuple ++ rest)) (filter-flat_map test (λ r. map (λ rest. r ∷ rest) all) (rows n))
    ∙ map-flat_map (λ rest. tuple ++ rest) (λ r. filter test (map (λ rest. r ∷ rest) all)) (rows n)
    ∙ flat_map-same (λ r. map (λ rest. tuple ++ rest) (filter test (map (λ rest. r ∷ rest) all))) (λ r. cond (meets r) (listed (then r)) []) (rows n)
    (λ r. with_row rows tables tuple e es r size near far ∙ ap (λ ts. cond (meets r) ts []) (later r))
    ∙ flat_map-one meets (λ r. listed (then r)) (rows n) (one_row e.to.part (rows n) (near_value tables further tuple e) (keys 0 e (omega arith)))
    ∙ listed-case (find meets (rows n)) then

-- ---- the tuples

abbrev joined_at : List ℕ → List Edge → List Condition → (ℕ → List RowAt) → List (List RowAt)
joined_at tables edges conditions rows = filter (λ t. edges_true tables t edges && conditions_true (column_value tables t) conditions) (product (map rows tables))

abbrev found_at : List ℕ → ℕ → List Edge → List Condition → (ℕ → List RowAt) → List (List RowAt)
found_at tables root edges conditions rows = filter (λ t. conditions_true (column_value tables t) conditions) (filter_map (λ r. completed rows tables (r ∷ []) edges) (rows root))

along_tree :
    (defs : List TableDef) (root : ℕ) (edges : List Edge) (conditions : List Condition) (rows : ℕ → List RowAt)
    → leads_outwards defs (root ∷ []) edges ≡ true → HaveKeys edges rows
    → joined_at (root ∷ map (λ e. e.to.table) edges) edges conditions rows ≡ found_at (root ∷ map (λ e. e.to.table) edges) root edges conditions rows
along_tree defs root edges conditions rows leads keys =
    let further : List ℕ = map (λ e. e.to.table) edges in
    let tables : List ℕ = root ∷ further in
    let all : List (List RowAt) = product (map rows further) in
    let test : List RowAt → Bool = λ t. edges_true tables t edges in
    let meant : List RowAt → Bool = λ t. conditions_true (column_value tables t) conditions in
    let meeting : filter test (product (map rows tables)) ≡ filter_map (λ r. completed rows tables (r ∷ []) edges) (rows root) =
    filter-flat_map test (λ r. map (λ rest. r ∷ rest) all) (rows root)
    ∙ flat_map-same (λ r. filter test (map (λ rest. r ∷ rest) all)) (λ r. listed (completed rows tables (r ∷ []) edges)) (rows root)
    (λ r. filter-map test (λ rest. r ∷ rest) all ∙ completed-matching defs rows (root ∷ []) (r ∷ []) edges refl leads keys)
    ∙ flat_map-listed (λ r. completed rows tables (r ∷ []) edges) (rows root) in
    sym (filter-filter meant test (product (map rows tables))) ∙ ap (filter meant) meeting

-- the tuples of a star query are those that look-ups of keys find, in the same order
pub joined-found : (q : StarQuery) (rows : ℕ → List RowAt) → IsJoinTree q → HaveKeys q.edges rows → joined_over q rows ≡ found_over q rows
joined-found q rows tree keys =
    subst (λ tables. joined_at tables q.edges q.conditions rows ≡ found_at tables q.root q.edges q.conditions rows) (sym tree.1.0)
    (along_tree tree.0 q.root q.edges q.conditions rows tree.1.1 keys)
