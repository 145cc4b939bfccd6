-- What is read and joined is what the definitions say of the store.
use Rattle.std.proofs.Common.{◌≡◌, ◌∙◌, ◌+◌, ◌*◌, ◌^◌, ◌<◌, ◌≤◌, ℕ, suc, Bool, true, false, cond, not, List, [], ◌∷◌, ◌++◌, Option, Some, None, length, map, get_or, refl, arith, sym, ap, subst}
use Rattle.std.proofs.lemmas.Bool.{and_parts, eq-eqb, eqb-true}
use Rattle.std.proofs.lemmas.Cmp.{nat_cmp_total, on_total}
use Rattle.std.proofs.lemmas.List.Elements.{All-cons}
use Rattle.std.proofs.lemmas.List.Sums.{sum_by-cons}
use Rattle.std.specs.List.{All, filter, filter_map, sum_by}
use Rattle.std.specs.Prelude.{◌&&◌, ◌==◌, ◌||◌}
use Rattle.wh_base.proofs.Sorting.{sorted_counts, times}
use Rattle.wh_base.specs.Lists.{has_number, option_case, sorted_by}
use Rattle.wh_base.specs.Tables.{Places, live_rows, most_live, places_of, rowid_cmp, rows_shown}
use Rattle.wh_base.specs.Values.{equal_not_null}
use Rattle.wh_base.specs.declared.queries.Edge.{Edge}
use Rattle.wh_base.specs.declared.queries.StarQuery.{StarQuery}
use Rattle.wh_base.specs.declared.tables.Part.{Part}
use Rattle.wh_base.specs.declared.tables.RowAt.{RowAt}
use Rattle.wh_base.specs.declared.tables.TableDef.{TableDef}
use Rattle.wh_base.specs.declared.values.Value.{Value}
use Rattle.def_meaning.specs.Joined.{column_value, conditions_true, joined_over, part_value}
use Rattle.def_meaning.specs.Ranges.{Seen, admitted_parts, admitted_rows, reads_over, rows_read}
use Rattle.def_resolve.specs.Star.{is_key_column, leads_outwards}
use Rattle.wh_star.proofs.Entries.{index-finds-sorted}
use Rattle.wh_star.proofs.Found.{joined-found, one_row}
use Rattle.wh_star.proofs.Joins.{all_rows}
use Rattle.wh_star.proofs.Stable.{filter-sorted}
use Rattle.wh_star.specs.Found.{AreKeys, HaveKeys, IsJoinTree, completed, row_with}
use Rattle.wh_star.specs.Lookups.{Entries, completed_by, far_reads, far_rows, indexed, indexes_of, key_of_parts, parts_of, root_parts, root_rows, row_under, rows_in, rows_seen, seen_in, tuples_from}

-- ---- the tables of a tree

has-more : (ns ms : List ℕ) (n : ℕ) → has_number ns n ≡ true → has_number (ns ++ ms) n ≡ true
has-more [] ms n h = cc
has-more (m ∷ ns) ms n h = by (m == n) h (has-more ns ms n)
  where
    by : (b : Bool) → (b || has_number ns n) ≡ true → (has_number ns n ≡ true → has_number (ns ++ ms) n ≡ true) → (b || has_number (ns ++ ms) n) ≡ true
    by true h rest = refl
    by false h rest = rest h

-- the join leads to a table that isn't listed, over a key
abbrev leads_new : List TableDef → List ℕ → Edge → Bool
leads_new defs listed e = has_number listed e.from.table && (not (has_number listed e.to.table) && is_key_column defs e.to)

leads-elsewhere : (defs : List TableDef) (listed : List ℕ) (e : Edge) (root : ℕ) → leads_new defs listed e ≡ true → has_number listed root ≡ true → (b : Bool) → (e.to.table == root) ≡ b → b ≡ false
leads-elsewhere defs listed e root h k false f = refl
leads-elsewhere defs listed e root h k true f =
    let new : not (has_number listed e.to.table) ≡ true =
    (and_parts (not (has_number listed e.to.table)) (is_key_column defs e.to)
    (and_parts (has_number listed e.from.table) (not (has_number listed e.to.table) && is_key_column defs e.to) h).1).0 in
    let same : e.to.table ≡ root = eqb-true e.to.table root f in
    let there : has_number listed e.to.table ≡ true = subst (λ n. has_number listed n ≡ true) (sym same) k in
    let said : not true ≡ true = ap not (sym there) ∙ new in
    cc

-- no join leads to the root
outside-listed : (defs : List TableDef) (listed : List ℕ) (es : List Edge) (root : ℕ) → leads_outwards defs listed es ≡ true → has_number listed root ≡ true → All (λ e. (e.to.table == root) ≡ false) es
outside-listed defs listed [] root h k = λ j d l. absurd (omega arith)
outside-listed defs listed (e ∷ es) root h k =
    let later : Bool = leads_outwards defs (listed ++ e.to.table ∷ []) es in
    All-cons (λ d. (d.to.table == root) ≡ false) e es
    (leads-elsewhere defs listed e root (and_parts (leads_new defs listed e) later h).0 k (e.to.table == root) refl)
    (outside-listed defs (listed ++ e.to.table ∷ []) es root (and_parts (leads_new defs listed e) later h).1 (has-more listed (e.to.table ∷ []) root k))

pub outside-root : (q : StarQuery) → IsJoinTree q → All (λ e. (e.to.table == q.root) ≡ false) q.edges
outside-root q tree =
    let first : (q.root == q.root) ≡ true = eq-eqb q.root q.root refl in
    outside-listed tree.0 (q.root ∷ []) q.edges q.root tree.1.1 (ap (λ b. b || false) first)

from_map : {A B : Type 0} (P : B → Type 0) (f : A → B) (xs : List A) → All P (map f xs) → All (λ x. P (f x)) xs
from_map P f [] all = λ k d h. absurd (omega arith)
from_map P f (x ∷ xs) all = All-cons (λ y. P (f y)) x xs (all 0 (f x) (omega arith)) (from_map P f xs (λ k d h. all (suc k) d (omega arith)))

-- what holds of each table of the tree holds of the root and of the table that each join leads to
pub far-tables : (P : ℕ → Type 0) (q : StarQuery) → IsJoinTree q → All P q.tables → All (λ e. P e.to.table) q.edges
far-tables P q tree all =
    let each : All P (q.root ∷ map (λ e. e.to.table) q.edges) = subst (All P) tree.1.0 all in
    from_map P (λ e. e.to.table) q.edges (λ k d h. each (suc k) d (omega arith))

pub root-table : (P : ℕ → Type 0) (q : StarQuery) → IsJoinTree q → All P q.tables → P q.root
root-table P q tree all = let each : All P (q.root ∷ map (λ e. e.to.table) q.edges) = subst (All P) tree.1.0 all in each 0 0 (omega arith)

-- ---- the rows of a store

pub length-sorted : (rows : List RowAt) → length (sorted_by rowid_cmp rows) ≡ length rows
length-sorted rows = sym (all (sorted_by rowid_cmp rows)) ∙ sorted_counts rowid_cmp rows (λ _. true) ∙ all rows
  where
    all : (xs : List RowAt) → times (λ _. true) xs ≡ length xs
    all [] = refl
    all (x ∷ xs) = omega (arith, all xs)

module _ (tables : List Places) (keys : List (Option ℕ)) (partitions : List (List Part)) where
  -- the root's rows in order are the admitted ones of its rows in order
  pub roots-sorted : (q : StarQuery) → sorted_by rowid_cmp (root_rows q tables keys partitions) ≡ admitted_rows q (seen_in tables keys partitions q.root)
  roots-sorted q = by (key_of_parts keys q.root)
    where
      by :
          (key : Option ℕ)
          → sorted_by rowid_cmp (rows_in (root_parts q key (parts_of partitions q.root)) (live_rows (places_of tables q.root)))
          ≡ admitted_rows q (record { rows = sorted_by rowid_cmp (live_rows (places_of tables q.root)); part_key = key; parts = parts_of partitions q.root })
      by None = ap (sorted_by rowid_cmp) (all_rows (live_rows (places_of tables q.root)))
      by (Some key) =
          sym (filter-sorted rowid_cmp (on_total (λ r. r.rowid) nat_cmp_total) (λ r. has_number (admitted_parts q (parts_of partitions q.root) key) r.mark) (live_rows (places_of tables q.root)))

  root-seen : (q : StarQuery) → rows_seen q (seen_in tables keys partitions) q.root ≡ sorted_by rowid_cmp (root_rows q tables keys partitions)
  root-seen q =
      let first : (q.root == q.root) ≡ true = eq-eqb q.root q.root refl in
      let see : ℕ → Seen = seen_in tables keys partitions in
      ap (λ b. cond b (admitted_rows q (see q.root)) (see q.root).rows) first ∙ sym (roots-sorted q)

  far-seen : (q : StarQuery) (n : ℕ) → (n == q.root) ≡ false → rows_seen q (seen_in tables keys partitions) n ≡ rows_shown tables n
  far-seen q n h =
      let see : ℕ → Seen = seen_in tables keys partitions in
      ap (λ b. cond b (admitted_rows q (see n)) (see n).rows) h

  -- ---- tuples

  far-found : (e : Edge) (v : Value) → AreKeys e.to.part (rows_shown tables e.to.table) → row_under (indexed e.to.part (far_rows tables e)) v ≡ row_with e.to.part (rows_shown tables e.to.table) v
  far-found e v keys =
      let has : RowAt → Bool = λ r. equal_not_null v (part_value r e.to.part) in
      let one : times has (rows_shown tables e.to.table) ≤ 1 = one_row e.to.part (rows_shown tables e.to.table) v keys in
      let same : times has (rows_shown tables e.to.table) ≡ times has (far_rows tables e) = sorted_counts rowid_cmp (far_rows tables e) has in
      index-finds-sorted e.to.part v (far_rows tables e) (omega (arith, one, same))

  completed-same :
      (q : StarQuery) (ts : List ℕ) (tuple : List RowAt) (es : List Edge)
      → All (λ e. (e.to.table == q.root) ≡ false) es → HaveKeys es (rows_shown tables)
      → completed_by (indexes_of tables es) ts tuple es ≡ completed (rows_seen q (seen_in tables keys partitions)) ts tuple es
  completed-same q ts tuple [] outside unique = refl
  completed-same q ts tuple (e ∷ es) outside unique =
      let rows : ℕ → List RowAt = rows_seen q (seen_in tables keys partitions) in
      let far : rows e.to.table ≡ rows_shown tables e.to.table = far-seen q e.to.table (outside 0 e (omega arith)) in
      let v : Value = column_value ts tuple e.from in
      let found : row_under (indexed e.to.part (far_rows tables e)) v ≡ row_with e.to.part (rows e.to.table) v =
      far-found e v (unique 0 e (omega arith)) ∙ ap (λ rs. row_with e.to.part rs v) (sym far) in
      let rest : (r : RowAt) → completed_by (indexes_of tables es) ts (tuple ++ r ∷ []) es ≡ completed rows ts (tuple ++ r ∷ []) es =
      λ r. completed-same q ts (tuple ++ r ∷ []) es (λ k d h. outside (suc k) d (omega arith)) (λ k d h. unique (suc k) d (omega arith)) in
      λ i. option_case (found i) None (λ r. rest r i)

  -- what look-ups find from the rows of the root in order is what the definition has
  pub joined-is :
      (q : StarQuery) (indexes : List Entries) (found roots : List RowAt) → IsJoinTree q → HaveKeys q.edges (rows_shown tables)
      → indexes ≡ indexes_of tables q.edges → found ≡ root_rows q tables keys partitions → roots ≡ sorted_by rowid_cmp found
      → tuples_from q indexes roots ≡ joined_over q (rows_seen q (seen_in tables keys partitions))
  joined-is q indexes found roots tree unique ix fs rs =
      let rows : ℕ → List RowAt = rows_seen q (seen_in tables keys partitions) in
      let outside : All (λ e. (e.to.table == q.root) ≡ false) q.edges = outside-root q tree in
      let seen_keys : HaveKeys q.edges rows = λ k d h. subst (AreKeys (get_or q.edges k d).to.part) (sym (far-seen q (get_or q.edges k d).to.table (outside k d h))) (unique k d h) in
      let root : roots ≡ rows q.root = rs ∙ ap (sorted_by rowid_cmp) fs ∙ sym (root-seen q) in
      let whole : (r : RowAt) → completed_by (indexes_of tables q.edges) q.tables (r ∷ []) q.edges ≡ completed rows q.tables (r ∷ []) q.edges =
      λ r. completed-same q q.tables (r ∷ []) q.edges outside unique in
      ap (λ is. tuples_from q is roots) ix
      ∙ (λ i. filter (λ tuple. conditions_true (column_value q.tables tuple) q.conditions) (filter_map (λ r. whole r i) (root i)))
      ∙ sym (joined-found q rows tree seen_keys)

  -- ---- reads

  far-reads : (q : StarQuery) (es : List Edge) → All (λ e. (e.to.table == q.root) ≡ false) es → far_reads tables es ≡ sum_by (rows_read q (seen_in tables keys partitions)) (map (λ e. e.to.table) es)
  far-reads q [] outside = refl
  far-reads q (e ∷ es) outside =
      let see : ℕ → Seen = seen_in tables keys partitions in
      let here : rows_read q see e.to.table ≡ length (far_rows tables e) =
      ap (λ b. cond b (length (admitted_rows q (see e.to.table))) (length (see e.to.table).rows)) (outside 0 e (omega arith)) ∙ length-sorted (far_rows tables e) in
      sum_by-cons (λ d. length (far_rows tables d)) e es
      ∙ (λ i. sym here i + far-reads q es (λ k d h. outside (suc k) d (omega arith)) i)
      ∙ sym (sum_by-cons (rows_read q see) e.to.table (map (λ d. d.to.table) es))

  pub reads-are : (q : StarQuery) → IsJoinTree q → far_reads tables q.edges + length (root_rows q tables keys partitions) ≡ reads_over q (seen_in tables keys partitions)
  reads-are q tree =
      let see : ℕ → Seen = seen_in tables keys partitions in
      let first : (q.root == q.root) ≡ true = eq-eqb q.root q.root refl in
      let root : rows_read q see q.root ≡ length (root_rows q tables keys partitions) =
      ap (λ b. cond b (length (admitted_rows q (see q.root))) (length (see q.root).rows)) first
      ∙ ap length (sym (roots-sorted q))
      ∙ length-sorted (root_rows q tables keys partitions) in
      let all : reads_over q see ≡ rows_read q see q.root + sum_by (rows_read q see) (map (λ e. e.to.table) q.edges) =
      ap (sum_by (rows_read q see)) tree.1.0 ∙ sum_by-cons (rows_read q see) q.root (map (λ e. e.to.table) q.edges) in
      omega (arith, all, root, far-reads q q.edges (outside-root q tree))

-- few rows live in each table
pub far-few : (tables : List Places) (es : List Edge) → ((n : ℕ) → length (live_rows (places_of tables n)) ≤ most_live) → far_reads tables es ≤ length es * most_live
far-few tables [] few = omega arith
far-few tables (e ∷ es) few = omega (arith, sum_by-cons (λ d. length (far_rows tables d)) e es, far-few tables es few, few e.to.table)

-- the counter stays within 64 bits
pub far-room : (tables : List Places) (es : List Edge) (reads : ℕ) → ((n : ℕ) → length (live_rows (places_of tables n)) ≤ most_live) → length es < 2 ^ 32 → reads ≤ 2 ^ 63 → reads + far_reads tables es < 2 ^ 63 + 2 ^ 62
far-room tables es reads few short room = omega (arith, far-few tables es few, short, room)

module _ (tables : List Places) (keys : List (Option ℕ)) (partitions : List (List Part)) (q : StarQuery) (tree : IsJoinTree q) (es : List Edge) (same : es ≡ q.edges) (old first : ℕ) where
  far-part : far_reads tables es + length (root_rows q tables keys partitions) ≡ reads_over q (seen_in tables keys partitions)
  far-part = ap (λ ds. far_reads tables ds + length (root_rows q tables keys partitions)) same ∙ reads-are tables keys partitions q tree

  -- the rows of the far tables are among those that are read
  pub far-most : first ≤ old + far_reads tables es → first ≤ old + reads_over q (seen_in tables keys partitions)
  far-most h = omega (arith, h, far-part)

  pub all-most : (last : ℕ) → first ≡ old + far_reads tables es → last ≤ first + length (root_rows q tables keys partitions) → last ≤ old + reads_over q (seen_in tables keys partitions)
  all-most last h k = omega (arith, h, k, far-part)

  pub all-raised : (last : ℕ) → first ≡ old + far_reads tables es → last ≡ first + length (root_rows q tables keys partitions) → last ≡ old + reads_over q (seen_in tables keys partitions)
  all-raised last h k = omega (arith, h, k, far-part)
