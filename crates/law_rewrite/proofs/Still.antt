-- **A query whose interval of a key misses certain intervals means the same where the rows outside of these are the same.**
use Rattle.std.proofs.Common.{◌≡◌, ◌∙◌, sym, ap, refl, arith, ℕ, ◌+◌, Bool, true, false, cond, not, List, [], ◌∷◌, ◌++◌, map}
use Rattle.std.specs.Prelude.{◌&&◌, ◌||◌, ◌==◌}
use Rattle.std.specs.List.{filter, flat_map, list_all, list_any}
use Rattle.std.proofs.lemmas.Bool.{eq-eqb, eqb-true, and_parts, not-true, or_parts}
use Rattle.std.proofs.Math.Bool.{and-true, and-false}
use Rattle.wh_base.specs.Lists.{has_number}
use Rattle.wh_base.specs.Tables.{value_at}
use Rattle.wh_base.specs.Values.{interval_has}
use Rattle.wh_base.proofs.Sorting.{SameCounts, times, sorted_counts}
use Rattle.wh_base.specs.declared.columns.ColPart.{ColPart}
use Rattle.wh_base.specs.declared.columns.ColPart.TheVariants.{Col, Mark, RowId}
use Rattle.wh_base.specs.declared.queries.StarQuery.{StarQuery}
use Rattle.wh_base.specs.declared.tables.RowAt.{RowAt}
use Rattle.wh_base.specs.declared.tables.TableDef.{TableDef}
use Rattle.wh_base.specs.declared.values.Interval.{Interval}
use Rattle.def_meaning.specs.Joined.{column_value, conditions_true, edge_true, empty_row, joined_over, part_value}
use Rattle.def_meaning.specs.Meaning.{entries, entry_cmp, meaning_over, stored_over}
use Rattle.def_meaning.specs.Ranges.{misses}
use Rattle.law_lists.proofs.Each.{Each-both, Each-filter, Each-map, Each-passes}
use Rattle.law_lists.proofs.Numbers.{Distinct}
use Rattle.law_lists.proofs.Counts.{SameCounts-is, SameCounts-map, SameCounts-trans, SameCounts-sym, one_if, times-append, times-filter, times_agree}
use Rattle.law_rewrite.specs.Words.{Each}
use Rattle.law_rewrite.specs.Fine.{StarFine}
use Rattle.law_rewrite.specs.Outside.{is_outside}
use Rattle.law_rewrite.proofs.Implying.{is_plain}
use Rattle.law_rewrite.proofs.Missing.{misses_out}
use Rattle.law_rewrite.proofs.Partners.{over, times-and}
use Rattle.law_rewrite.proofs.Entries.{entries_same}
use Rattle.law_rewrite.proofs.Theorem.{same_rows_in_order}
use Rattle.law_rewrite.proofs.Envs.{Env, entries_are, env_true, env_value, envs, joined_envs, put, same_tables, times-envs}
use Rattle.law_rewrite.proofs.Joins.{distinct_once, distinct_tables, parts_same}
use Rattle.law_rewrite.proofs.Tuples.{env_all, times_each}

-- ---- lists

over-filter : {A : Type 0} (keep : A → Bool) (f : A → ℕ) (xs : List A) → over (λ x. cond (keep x) (f x) 0) xs ≡ over f (filter keep xs)
over-filter keep f [] = refl
over-filter {A} keep f (x ∷ xs) = by (keep x) (over-filter keep f xs)
  where
    by : (b : Bool) → over (λ y. cond (keep y) (f y) 0) xs ≡ over f (filter keep xs) → cond b (f x) 0 + over (λ y. cond (keep y) (f y) 0) xs ≡ over f (cond b (x ∷ filter keep xs) (filter keep xs))
    by true h = ap (λ n. f x + n) h
    by false h = omega (arith, h)

envs_alike : (rows rows' : ℕ → List RowAt) (ns : List ℕ) → Each (λ m. rows m ≡ rows' m) ns → envs rows ns ≡ envs rows' ns
envs_alike rows rows' [] h = refl
envs_alike rows rows' (n ∷ ns) h = λ i. flat_map (λ r. map (put n r) (envs_alike rows rows' ns h.1 i)) (h.0 i)

-- a number and the others
others : ℕ → List ℕ → List ℕ
others n ns = filter (λ m. not (m == n)) ns

front : (n : ℕ) (ns : List ℕ) → Distinct ns → has_number ns n ≡ true → SameCounts ns (n ∷ others n ns)
unfolding others
front n ns distinct there r =
    let both : times r (others n ns ++ filter (λ m. m == n) ns) ≡ times r ns = parts_same (λ m. m == n) ns r in
    let split : times r (others n ns ++ filter (λ m. m == n) ns) ≡ times r (others n ns) + times r (filter (λ m. m == n) ns) = times-append r (others n ns) (filter (λ m. m == n) ns) in
    omega (arith, both, split, itself)
  where
    at : (m : ℕ) → ((m == n) && r m) ≡ (r n && (m == n))
    at m = by (m == n) refl
      where
        by : (b : Bool) → (m == n) ≡ b → (b && r m) ≡ (r n && b)
        by true e = ap r (eqb-true m n e) ∙ sym (and-true (r n))
        by false e = sym (and-false (r n))

    itself : times r (filter (λ m. m == n) ns) ≡ one_if (r n)
    itself =
        times-filter (λ m. m == n) r ns ∙ times_agree (λ m. (m == n) && r m) (λ m. r n && (m == n)) at ns ∙ times-and (r n) (λ m. m == n) ns
        ∙ ap (λ k. cond (r n) k 0) (distinct_once n ns distinct ∙ ap one_if there)

module _ (n : ℕ) (keep : RowAt → Bool) (p : Env → Bool) where
  -- only rows that are kept count
  kept_counts : (rows : ℕ → List RowAt) (ns : List ℕ) → Distinct ns → has_number ns n ≡ true → Each (λ e. p e ≡ true → keep (e n) ≡ true) (envs rows ns) → (r : Env → Bool)
      → times r (filter p (envs rows ns)) ≡ over (λ s. times (λ e. p (put n s e) && r (put n s e)) (envs rows (others n ns))) (filter keep (rows n))
  kept_counts rows ns distinct there needed r =
      times-filter p r (envs rows ns)
      ∙ times_each (λ e. p e && r e) (λ e. keep (e n) && (p e && r e)) (envs rows ns) (Each-map (λ e. p e ≡ true → keep (e n) ≡ true) (λ e. (p e && r e) ≡ (keep (e n) && (p e && r e))) (λ e h. by (p e) (keep (e n)) (r e) h) (envs rows ns) needed)
      ∙ same_tables rows ns (n ∷ others n ns) (front n ns distinct there) (λ e. keep (e n) && (p e && r e))
      ∙ times-envs (λ e. keep (e n) && (p e && r e)) rows n (others n ns)
      ∙ ap (λ f. over f (rows n)) (λ i s. times (λ e. keep (here s e i) && (p (put n s e) && r (put n s e))) (envs rows (others n ns)))
      ∙ ap (λ f. over f (rows n)) (λ i s. times-and (keep s) (λ e. p (put n s e) && r (put n s e)) (envs rows (others n ns)) i)
      ∙ over-filter keep (λ s. times (λ e. p (put n s e) && r (put n s e)) (envs rows (others n ns))) (rows n)
    where
      here : (s : RowAt) (e : Env) → put n s e n ≡ s
      here s e = ap (λ b. cond b s (e n)) (eq-eqb n n refl)

      by : (a k c : Bool) → (a ≡ true → k ≡ true) → (a && c) ≡ (k && (a && c))
      by true k c h = ap (λ b. b && c) (sym (h refl))
      by false true c h = refl
      by false false c h = refl

  pub still_counts : (rows rows' : ℕ → List RowAt) (ns : List ℕ) → Distinct ns → Each (λ m. (m == n) ≡ false → rows m ≡ rows' m) ns → filter keep (rows n) ≡ filter keep (rows' n)
      → Each (λ e. p e ≡ true → keep (e n) ≡ true) (envs rows ns) → Each (λ e. p e ≡ true → keep (e n) ≡ true) (envs rows' ns)
      → SameCounts (filter p (envs rows ns)) (filter p (envs rows' ns))
  unfolding others
  still_counts rows rows' ns distinct alike own needed needed' r = by (has_number ns n) refl
    where
      rest : envs rows (others n ns) ≡ envs rows' (others n ns)
      rest =
          envs_alike rows rows' (others n ns)
          (Each-map (λ m. ((m == n) ≡ false → rows m ≡ rows' m) × (not (m == n) ≡ true)) (λ m. rows m ≡ rows' m) (λ m h. h.0 (not-true (m == n) h.1)) (others n ns)
          (Each-both (λ m. (m == n) ≡ false → rows m ≡ rows' m) (λ m. not (m == n) ≡ true) (others n ns) (Each-filter (λ m. (m == n) ≡ false → rows m ≡ rows' m) (λ m. not (m == n)) ns alike) (Each-passes (λ m. not (m == n)) ns)))

      apart : (ms : List ℕ) → has_number ms n ≡ false → Each (λ m. (m == n) ≡ false) ms
      apart [] h = tt
      apart (m ∷ ms) h = let both : ((m == n) ≡ false) × (has_number ms n ≡ false) = or_parts (m == n) (has_number ms n) h in (both.0, apart ms both.1)

      by : (b : Bool) → has_number ns n ≡ b → times r (filter p (envs rows ns)) ≡ times r (filter p (envs rows' ns))
      by true there =
          kept_counts rows ns distinct there needed r
          ∙ (λ i. over (λ s. times (λ e. p (put n s e) && r (put n s e)) (rest i)) (own i))
          ∙ sym (kept_counts rows' ns distinct there needed' r)
      by false none =
          ap (λ es. times r (filter p es))
          (envs_alike rows rows' ns (Each-map (λ m. ((m == n) ≡ false → rows m ≡ rows' m) × ((m == n) ≡ false)) (λ m. rows m ≡ rows' m) (λ m h. h.0 h.1) ns
          (Each-both (λ m. (m == n) ≡ false → rows m ≡ rows' m) (λ m. (m == n) ≡ false) ns alike (apart ns none))))

-- ---- a query

-- the key of a tuple of the query is outside of what the query misses
pub outside_all : (defs : List TableDef) (q : StarQuery) (n k : ℕ) (is : List Interval) (rows : ℕ → List RowAt) → StarFine defs q → ((m : ℕ) → Each (λ r. (p : ColPart) → is_plain (part_value r p) ≡ true) (rows m))
    → list_all (λ i. misses q (record { table = n; part = Col k }) i) is ≡ true → Each (λ e. env_true q e ≡ true → is_outside k is (e n) ≡ true) (envs rows q.tables)
outside_all defs q n k is rows fine plain missed =
    Each-map (λ e. (m : ℕ) → (p : ColPart) → is_plain (part_value (e m) p) ≡ true) (λ e. env_true q e ≡ true → is_outside k is (e n) ≡ true)
    (λ e h t. let both : (list_all (edge_true (env_value e)) q.edges ≡ true) × (conditions_true (env_value e) q.conditions ≡ true) = and_parts (list_all (edge_true (env_value e)) q.edges) (conditions_true (env_value e) q.conditions) t in
    ap not (none e h both.0 both.1 is missed)) (envs rows q.tables)
    (env_all (λ r. (p : ColPart) → is_plain (part_value r p) ≡ true) rows q.tables nothing plain)
  where
    nothing : (p : ColPart) → is_plain (part_value empty_row p) ≡ true
    nothing (Col j) = refl
    nothing RowId = refl
    nothing Mark = refl

    none : (e : Env) → ((m : ℕ) → (p : ColPart) → is_plain (part_value (e m) p) ≡ true) → list_all (edge_true (env_value e)) q.edges ≡ true → conditions_true (env_value e) q.conditions ≡ true
        → (js : List Interval) → list_all (λ i. misses q (record { table = n; part = Col k }) i) js ≡ true → list_any (λ i. interval_has i (value_at (e n).values k)) js ≡ false
    none e h joins holds [] m = refl
    none e h joins holds (j ∷ js) m =
        let both : (misses q (record { table = n; part = Col k }) j ≡ true) × (list_all (λ i. misses q (record { table = n; part = Col k }) i) js ≡ true)
        = and_parts (misses q (record { table = n; part = Col k }) j) (list_all (λ i. misses q (record { table = n; part = Col k }) i) js) m in
        λ i. misses_out q (record { table = n; part = Col k }) j (env_value e) (λ c. h c.table c.part) fine.literals joins holds both.0 i || none e h joins holds js both.1 i

pub still_means : (defs : List TableDef) (q : StarQuery) (n k : ℕ) (is : List Interval) (rows rows' : ℕ → List RowAt) → StarFine defs q
    → ((m : ℕ) → Each (λ r. (p : ColPart) → is_plain (part_value r p) ≡ true) (rows m)) → ((m : ℕ) → Each (λ r. (p : ColPart) → is_plain (part_value r p) ≡ true) (rows' m))
    → list_all (λ i. misses q (record { table = n; part = Col k }) i) is ≡ true
    → Each (λ m. (m == n) ≡ false → rows m ≡ rows' m) q.tables → filter (is_outside k is) (rows n) ≡ filter (is_outside k is) (rows' n)
    → meaning_over q rows ≡ meaning_over q rows'
still_means defs q n k is rows rows' fine plain plain' missed alike own =
    same_rows_in_order q.order (map (λ e. e.row) (stored_over q rows)) (map (λ e. e.row) (stored_over q rows'))
    (SameCounts-map (λ e. e.row) (stored_over q rows) (stored_over q rows')
    (SameCounts-trans (stored_over q rows) (entries env_value q (joined_envs q rows)) (stored_over q rows') (sorted_are rows)
    (SameCounts-trans (entries env_value q (joined_envs q rows)) (entries env_value q (joined_envs q rows')) (stored_over q rows')
    (entries_same env_value q (joined_envs q rows) (joined_envs q rows')
    (still_counts n (is_outside k is) (env_true q) rows rows' q.tables (distinct_tables defs q fine.tree) alike own (outside_all defs q n k is rows fine plain missed) (outside_all defs q n k is rows' fine plain' missed)))
    (SameCounts-sym (stored_over q rows') (entries env_value q (joined_envs q rows')) (sorted_are rows')))))
  where
    sorted_are : (rs : ℕ → List RowAt) → SameCounts (stored_over q rs) (entries env_value q (joined_envs q rs))
    sorted_are rs =
        SameCounts-trans (stored_over q rs) (entries (column_value q.tables) q (joined_over q rs)) (entries env_value q (joined_envs q rs))
        (sorted_counts entry_cmp (entries (column_value q.tables) q (joined_over q rs))) (SameCounts-is (entries (column_value q.tables) q (joined_over q rs)) (entries env_value q (joined_envs q rs)) (entries_are q q rs))
