-- What a query that can be evaluated meets, and what its tuples are.
use Rattle.std.proofs.Common.{◌≡◌, ◌∙◌, sym, ap, subst, refl, arith, ℕ, zero, suc, ◌+◌, Bool, true, List, [], ◌∷◌, ◌<◌, ◌≤◌, Option, Some, None, length, map, get_or}
use Rattle.std.proofs.lemmas.Bool.{and_from, and_parts}
use Rattle.std.proofs.lemmas.List.{length-map}
use Rattle.std.proofs.lemmas.List.Elements.{All-cons, All-head, All-tail}
use Rattle.std.proofs.lemmas.Option.{slice_get-map}
use Rattle.std.specs.List.{All, filter, filter_map, list_all}
use Rattle.std.specs.Prelude.{◌&&◌, nat_lt, option_map, slice_get, unwrap_or}
use Rattle.wh_base.specs.Tables.{AreSmall, Base, Places, Row, Table, def_at, defs_of, empty_table, live_rows, most_live, places_of, row_at, rowid_cmp, rows_shown, table_at}
use Rattle.wh_base.specs.Values.{is_small, number_limit}
use Rattle.wh_base.specs.Lists.{has_number}
use Rattle.wh_base.specs.declared.columns.ColPart.{ColPart}
use Rattle.wh_base.specs.declared.columns.ColPart.TheVariants.{Col, Mark, RowId}
use Rattle.wh_base.specs.declared.queries.Edge.{Edge}
use Rattle.wh_base.specs.declared.queries.StarQuery.{StarQuery}
use Rattle.wh_base.specs.declared.tables.Part.{Part}
use Rattle.wh_base.specs.declared.tables.RowAt.{RowAt}
use Rattle.def_meaning.specs.Joined.{column_value, conditions_true, joined, joined_over, product, rows_at, tuple_true}
use Rattle.def_meaning.specs.Meaning.{meaning, stored}
use Rattle.def_meaning.specs.Ranges.{Seen, base_reads, reads_over, seen}
use Rattle.def_resolve.proofs.Trees.{resolve-is}
use Rattle.def_resolve.specs.Star.{is_key_column}
use Rattle.wh_evaluate.proofs.Placed.{mark-small, placed-marked}
use Rattle.wh_evaluate.proofs.Resolved.{IsPlain, far-keys, key-there, resolve-plain}
use Rattle.wh_evaluate.proofs.Filters.{all-both, all-filter, all-product, all-sorted, filter-shorter, filter_map-shorter}
use Rattle.wh_evaluate.proofs.Unique.{listed-unique, unique-key}
use Rattle.wh_evaluate.specs.Shown.{CanEvaluate, HasKeys, Shows, answer_of, are_numbered, are_placed, stored_of}
use Rattle.wh_group.specs.Tallies.{AreSmallTuples, HasSmallAggs}
use Rattle.wh_star.proofs.Found.{joined-found}
use Rattle.wh_star.proofs.Meant.{length-sorted}
use Rattle.wh_star.specs.Found.{AreKeys, HaveKeys, IsJoinTree, completed}
use Rattle.wh_star.specs.Lookups.{key_of_parts, parts_of, seen_in}
use Rattle.wh_star.specs.Marked.{AreMarked, CanPrune}
use Rattle.wh_tuple.specs.Meant.{is_small_row}

-- ---- tables of a base state

field-at : {A B : Type 0} (f : A → B) (xs : List A) (n : ℕ) (d : A) → unwrap_or (slice_get (map f xs) n) (f d) ≡ f (unwrap_or (slice_get xs n) d)
field-at f xs n d = ap (λ o. unwrap_or o (f d)) (slice_get-map f xs n) ∙ by (slice_get xs n)
  where
    by : (o : Option _) → unwrap_or (option_map f o) (f d) ≡ f (unwrap_or o d)
    by None = refl
    by (Some x) = refl

each-table : (P : Table → Type 0) (base : Base) (n : ℕ) → All P base → P empty_table → P (table_at base n)
each-table P [] n all none = none
each-table P (t ∷ ts) zero all none = All-head P t ts all
each-table P (t ∷ ts) (suc n) all none = each-table P ts n (All-tail P t ts all) none

each-tested : (p : Table → Bool) (base : Base) (n : ℕ) → list_all p base ≡ true → p empty_table ≡ true → p (table_at base n) ≡ true
each-tested p [] n all none = none
each-tested p (t ∷ ts) zero all none = (and_parts (p t) (list_all p ts) all).0
each-tested p (t ∷ ts) (suc n) all none = each-tested p ts n (and_parts (p t) (list_all p ts) all).1 none

-- ---- a store that shows a base state

module _ (tables : List Places) (keys : List (Option ℕ)) (partitions : List (List Part)) (base : Base) (shown : Shows tables keys partitions base) where
  pub seen-shown : (n : ℕ) → seen_in tables keys partitions n ≡ seen (table_at base n)
  seen-shown n =
      let key : key_of_parts keys n ≡ (table_at base n).def.part_key = ap (λ ks. key_of_parts ks n) shown.part_keys ∙ field-at (λ t. t.def.part_key) base n empty_table in
      let parts : parts_of partitions n ≡ (table_at base n).parts = ap (λ ps. parts_of ps n) shown.parts ∙ field-at (λ t. t.parts) base n empty_table in
      λ i. record { rows = shown.rows n i; part_key = key i; parts = parts i }

  pub reads-shown : (q : StarQuery) → reads_over q (seen_in tables keys partitions) ≡ base_reads q base
  reads-shown q = λ i. reads_over q (λ n. seen-shown n i)

  joined-shown : (q : StarQuery) → joined_over q (rows_shown tables) ≡ joined q base
  joined-shown q = λ i. joined_over q (λ n. shown.rows n i)

  pub answer-shown : (q : StarQuery) (tuples : List (List RowAt)) → tuples ≡ joined_over q (rows_shown tables) → answer_of q tuples ≡ meaning q base
  answer-shown q tuples same = ap (answer_of q) (same ∙ joined-shown q)

  pub stored-shown : (q : StarQuery) (tuples : List (List RowAt)) → tuples ≡ joined_over q (rows_shown tables) → stored_of q tuples ≡ stored q base
  stored-shown q tuples same = ap (stored_of q) (same ∙ joined-shown q)

  pub raised-shown : (q : StarQuery) (old new : ℕ) → new ≡ old + reads_over q (seen_in tables keys partitions) → new ≡ old + base_reads q base
  raised-shown q old new h = h ∙ ap (λ n. old + n) (reads-shown q)

  pub most-shown : (q : StarQuery) (old new : ℕ) → new ≤ old + reads_over q (seen_in tables keys partitions) → new ≤ old + base_reads q base
  most-shown q old new h = omega (arith, h, reads-shown q)

-- ---- what a query that can be evaluated meets

module _ (tables : List Places) (keys : List (Option ℕ)) (partitions : List (List Part)) (q : StarQuery) (known : CanEvaluate tables keys partitions q) where
  plain : IsPlain (defs_of known.base) q
  plain = resolve-plain (defs_of known.base) known.raw q known.resolved

  pub join-tree : IsJoinTree q
  join-tree = (defs_of known.base, (resolve-is (defs_of known.base) known.raw q known.resolved).0)

  pub small-aggs : HasSmallAggs q
  small-aggs = plain.aggs

  as_many : length (defs_of known.base) ≡ length tables
  as_many = length-map known.base (λ (t : Table). t.def) ∙ sym known.shown.many

  far_keys : All (λ e. is_key_column (defs_of known.base) e.to ≡ true) q.edges
  unfolding join-tree
  far_keys = far-keys (defs_of known.base) (q.root ∷ []) q.edges join-tree.1.1

  far_there : (es : List Edge) → All (λ e. is_key_column (defs_of known.base) e.to ≡ true) es → All (λ n. n < length tables) (map (λ e. e.to.table) es)
  far_there [] all = λ k d h. absurd (omega arith)
  far_there (e ∷ es) all =
      let here : e.to.table < length (defs_of known.base) = key-there (defs_of known.base) e.to (All-head (λ d. is_key_column (defs_of known.base) d.to ≡ true) e es all) in
      All-cons (λ n. n < length tables) e.to.table (map (λ d. d.to.table) es) (omega (arith, here, as_many))
      (far_there es (All-tail (λ d. is_key_column (defs_of known.base) d.to ≡ true) e es all))

  pub tables-there : All (λ n. n < length tables) q.tables
  tables-there =
      let root : q.root < length tables = omega (arith, plain.root, as_many) in
      subst (All (λ n. n < length tables)) (sym join-tree.1.0) (All-cons (λ n. n < length tables) q.root (map (λ e. e.to.table) q.edges) root (far_there q.edges far_keys))

  -- the far column of a join is a key of the rows of its table
  edge_keys : (e : Edge) → is_key_column (defs_of known.base) e.to ≡ true → AreKeys e.to.part (rows_shown tables e.to.table)
  edge_keys e h = subst (AreKeys e.to.part) (sym (known.shown.rows e.to.table)) (by e.to.part h)
    where
      by : (part : ColPart) → is_key_column (defs_of known.base) (record { table = e.to.table; part = part }) ≡ true → AreKeys part (rows_at known.base e.to.table)
      by (Col k) g =
          let def : def_at (defs_of known.base) e.to.table ≡ (table_at known.base e.to.table).def = field-at (λ u. u.def) known.base e.to.table empty_table in
          let key : has_number (table_at known.base e.to.table).def.keys k ≡ true = sym (ap (λ d. has_number d.keys k) def) ∙ g in
          let all : HasKeys (table_at known.base e.to.table) = each-table HasKeys known.base e.to.table known.unique (λ k d l. absurd (omega arith)) in
          unique-key (table_at known.base e.to.table) k (listed-unique (table_at known.base e.to.table) (table_at known.base e.to.table).def.keys k all key)
      by RowId g = cc
      by Mark g = cc

  pub have-keys : HaveKeys q.edges (rows_shown tables)
  have-keys = λ k d h. edge_keys (get_or q.edges k d) (far_keys k d h)

  pub can-prune : CanPrune q (seen_in tables keys partitions)
  can-prune =
      let t : Table = table_at known.base q.root in
      let placed : are_placed t ≡ true = each-tested are_placed known.base q.root known.placed refl in
      let marked : AreMarked (seen t).part_key (seen t).parts (seen t).rows = placed-marked t placed in
      (plain.conditions, subst (λ (s : Seen). AreMarked s.part_key s.parts s.rows) (sym (seen-shown tables keys partitions known.base known.shown q.root)) marked)

  -- ---- its tuples

  pub tuples-few : ((n : ℕ) → length (live_rows (places_of tables n)) ≤ most_live) → (tuples : List (List RowAt)) → tuples ≡ joined_over q (rows_shown tables) → length tuples ≤ 262144
  tuples-few few tuples same =
      let rows : ℕ → List RowAt = rows_shown tables in
      let whole = filter_map (λ r. completed rows q.tables (r ∷ []) q.edges) (rows q.root) in
      let all : length tuples ≡ length (filter (λ t. conditions_true (column_value q.tables t) q.conditions) whole) = ap length (same ∙ joined-found q rows join-tree have-keys) in
      omega (
        arith,
        all,
        filter-shorter (λ t. conditions_true (column_value q.tables t) q.conditions) whole,
        filter_map-shorter (λ r. completed rows q.tables (r ∷ []) q.edges) (rows q.root),
        length-sorted (live_rows (places_of tables q.root)),
        few q.root,
      )

  rows_small : ((n : ℕ) → AreSmall (live_rows (places_of tables n))) → (n : ℕ) → list_all is_small_row (rows_shown tables n) ≡ true
  rows_small small n =
      let t : Table = table_at known.base n in
      let numbered : are_numbered t ≡ true = each-tested are_numbered known.base n known.numbered refl in
      let parts = and_parts (list_all (λ r. nat_lt r.rowid number_limit) t.rows) (list_all (λ p. nat_lt p.number number_limit) t.parts) numbered in
      let values : list_all (λ r. list_all is_small r.values) (rows_at known.base n) ≡ true =
      ap (list_all (λ r. list_all is_small r.values)) (sym (known.shown.rows n)) ∙ all-sorted (λ r. list_all is_small r.values) rowid_cmp (live_rows (places_of tables n)) (small n) in
      ap (list_all is_small_row) (known.shown.rows n)
      ∙ all-both (λ r. nat_lt r.rowid number_limit) (λ r. nat_lt r.mark number_limit && list_all is_small r.values) (rows_at known.base n) (rowids t t.rows parts.0)
      (all-both (λ r. nat_lt r.mark number_limit) (λ r. list_all is_small r.values) (rows_at known.base n) (marks t t.rows parts.1) values)
    where
      rowids : (t : Table) (rs : List Row) → list_all (λ r. nat_lt r.rowid number_limit) rs ≡ true → list_all (λ r. nat_lt r.rowid number_limit) (map (row_at t) rs) ≡ true
      rowids t [] h = refl
      rowids t (r ∷ rs) h =
          let parts = and_parts (nat_lt r.rowid number_limit) (list_all (λ s. nat_lt s.rowid number_limit) rs) h in
          and_from (nat_lt r.rowid number_limit) (list_all (λ s. nat_lt s.rowid number_limit) (map (row_at t) rs)) parts.0 (rowids t rs parts.1)

      marks : (t : Table) (rs : List Row) → list_all (λ p. nat_lt p.number number_limit) t.parts ≡ true → list_all (λ r. nat_lt r.mark number_limit) (map (row_at t) rs) ≡ true
      marks t [] h = refl
      marks t (r ∷ rs) h =
          and_from (nat_lt (row_at t r).mark number_limit) (list_all (λ s. nat_lt s.mark number_limit) (map (row_at t) rs)) (mark-small t r.values h) (marks t rs h)

  pub tuples-small : ((n : ℕ) → AreSmall (live_rows (places_of tables n))) → (tuples : List (List RowAt)) → tuples ≡ joined_over q (rows_shown tables) → AreSmallTuples tuples
  tuples-small small tuples same =
      ap (list_all (list_all is_small_row)) same
      ∙ all-filter (list_all is_small_row) (tuple_true q) (product (map (rows_shown tables) q.tables))
      (all-product is_small_row (rows_shown tables) q.tables (rows_small small))
