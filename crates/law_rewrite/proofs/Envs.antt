-- Tuples as functions: the row of each table. Then the order of the tables doesn't count, and a row of one table more is one value changed.
use Rattle.std.proofs.Common.{◌≡◌, ◌∙◌, sym, ap, refl, arith, ℕ, suc, ◌+◌, Bool, true, false, cond, List, [], ◌∷◌, ◌++◌, map}
use Rattle.std.specs.Prelude.{◌&&◌, ◌||◌, ◌==◌}
use Rattle.std.specs.List.{filter, flat_map, list_all, list_any}
use Rattle.std.proofs.lemmas.Bool.Decides.{Decides-eqb}
use Rattle.std.proofs.lemmas.Bool.{eqb-true}
use Rattle.std.proofs.lemmas.List.{map-append}
use Rattle.std.proofs.lemmas.Simd.{map-map}
use Rattle.wh_base.proofs.Sorting.{SameCounts, times}
use Rattle.wh_base.specs.declared.columns.ColRef.{ColRef}
use Rattle.wh_base.specs.declared.queries.StarQuery.{StarQuery}
use Rattle.wh_base.specs.declared.tables.RowAt.{RowAt}
use Rattle.wh_base.specs.declared.values.Value.{Value}
use Rattle.def_meaning.specs.Joined.{column_value, conditions_true, edge_true, empty_row, joined_over, part_value, product, row_of}
use Rattle.def_meaning.specs.Meaning.{entries}
use Rattle.law_lists.proofs.Counts.{SameCounts-trans, SameCounts-is, SameCounts-sym, times-append, times-map, is_positive, list_any_times, one_if, without, times-without}
use Rattle.law_lists.proofs.Each.{Each-of}
use Rattle.law_lists.proofs.Lists.{filter-map}
use Rattle.law_rewrite.specs.Words.{Each}
use Rattle.law_rewrite.proofs.Partners.{over}
use Rattle.law_rewrite.proofs.Projecting.{entries_has, read_columns}

-- the row of each table
abbrev pub Env : Type 0
Env = ℕ → RowAt

-- with this row of this table
abbrev pub put : ℕ → RowAt → Env → Env
put n r e = λ m. cond (n == m) r (e m)

-- all ways to take a row of each of these tables
abbrev pub envs : (ℕ → List RowAt) → List ℕ → List Env
envs rows [] = (λ n. empty_row) ∷ []
envs rows (n ∷ ns) = flat_map (λ r. map (put n r) (envs rows ns)) (rows n)

abbrev pub env_value : Env → ColRef → Value
env_value e c = part_value (e c.table) c.part

abbrev pub env_true : StarQuery → Env → Bool
env_true q e = list_all (edge_true (env_value e)) q.edges && conditions_true (env_value e) q.conditions

abbrev pub joined_envs : StarQuery → (ℕ → List RowAt) → List Env
joined_envs q rows = filter (env_true q) (envs rows q.tables)

-- ---- tuples and these

map-flat_map : {A B C : Type 0} (f : B → C) (g : A → List B) (xs : List A) → map f (flat_map g xs) ≡ flat_map (λ x. map f (g x)) xs
map-flat_map f g [] = refl
map-flat_map f g (x ∷ xs) = map-append f (g x) (flat_map g xs) ∙ ap (λ ys. map f (g x) ++ ys) (map-flat_map f g xs)

pub envs_are : (rows : ℕ → List RowAt) (ns : List ℕ) → map (row_of ns) (product (map rows ns)) ≡ envs rows ns
envs_are rows [] = refl
envs_are rows (n ∷ ns) =
    map-flat_map (row_of (n ∷ ns)) (λ r. map (λ rest. r ∷ rest) (product (map rows ns))) (rows n)
    ∙ ap (λ f. flat_map f (rows n)) (λ i r. (map-map (row_of (n ∷ ns)) (λ rest. r ∷ rest) (product (map rows ns)) ∙ sym (map-map (put n r) (row_of ns) (product (map rows ns))) ∙ ap (map (put n r)) (envs_are rows ns)) i)

pub joined_are : (q : StarQuery) (rows : ℕ → List RowAt) → map (row_of q.tables) (joined_over q rows) ≡ joined_envs q rows
joined_are q rows = sym (filter-map (env_true q) (row_of q.tables) (product (map rows q.tables))) ∙ ap (filter (env_true q)) (envs_are rows q.tables)

pub entries_are : (x q : StarQuery) (rows : ℕ → List RowAt) → entries (column_value x.tables) q (joined_over x rows) ≡ entries env_value q (joined_envs x rows)
entries_are x q rows =
    entries_has (column_value x.tables) env_value (row_of x.tables) q (joined_over x rows)
    (Each-of (λ t. Each (λ c. column_value x.tables t c ≡ env_value (row_of x.tables t) c) q.keys) (λ t. Each-of (λ c. column_value x.tables t c ≡ env_value (row_of x.tables t) c) (λ c. refl) q.keys) (joined_over x rows))
    (Each-of (λ t. Each (λ c. column_value x.tables t c ≡ env_value (row_of x.tables t) c) (read_columns (column_value x.tables) env_value (row_of x.tables) q))
    (λ t. Each-of (λ c. column_value x.tables t c ≡ env_value (row_of x.tables t) c) (λ c. refl) (read_columns (column_value x.tables) env_value (row_of x.tables) q)) (joined_over x rows))
    ∙ ap (entries env_value q) (joined_are x rows)

-- ---- the order of the tables

pub times-flat_map : {A B : Type 0} (p : B → Bool) (g : A → List B) (xs : List A) → times p (flat_map g xs) ≡ over (λ x. times p (g x)) xs
times-flat_map p g [] = refl
times-flat_map p g (x ∷ xs) = times-append p (g x) (flat_map g xs) ∙ ap (λ n. times p (g x) + n) (times-flat_map p g xs)

pub times-envs : (p : Env → Bool) (rows : ℕ → List RowAt) (n : ℕ) (ns : List ℕ) → times p (envs rows (n ∷ ns)) ≡ over (λ r. times (λ e. p (put n r e)) (envs rows ns)) (rows n)
times-envs p rows n ns =
    times-flat_map p (λ r. map (put n r) (envs rows ns)) (rows n) ∙ ap (λ f. over f (rows n)) (λ i r. times-map (put n r) p (envs rows ns) i)

over-zero : {A : Type 0} (xs : List A) → over (λ x. 0) xs ≡ 0
over-zero [] = refl
over-zero (x ∷ xs) = omega (arith, over-zero xs)

over-plus : {A : Type 0} (f g : A → ℕ) (xs : List A) → over (λ x. f x + g x) xs ≡ over f xs + over g xs
over-plus f g [] = omega arith
over-plus f g (x ∷ xs) = omega (arith, over-plus f g xs)

pub over-swap : {A B : Type 0} (f : A → B → ℕ) (xs : List A) (ys : List B) → over (λ x. over (f x) ys) xs ≡ over (λ y. over (λ x. f x y) xs) ys
over-swap f [] ys = sym (over-zero ys)
over-swap f (x ∷ xs) ys = ap (λ n. over (f x) ys + n) (over-swap f xs ys) ∙ sym (over-plus (f x) (λ y. over (λ z. f z y) xs) ys)

pub differ : (m n k : ℕ) → (m == n) ≡ false → (m == k) ≡ true → (n == k) ≡ false
differ m n k apart same = by (n == k) refl
  where
    by : (b : Bool) → (n == k) ≡ b → b ≡ false
    by true e = sym (sym (ap (λ x. m == x) (eqb-true m k same ∙ sym (eqb-true n k e) ∙ refl)) ∙ itself) ∙ apart
      where
        itself : (m == m) ≡ true
        itself = (Decides-eqb m m).1 refl
    by false e = refl

pub put_put : (m n : ℕ) (r s : RowAt) (e : Env) → (m == n) ≡ false → put m r (put n s e) ≡ put n s (put m r e)
put_put m n r s e apart = λ i k. by k (m == k) refl i
  where
    by : (k : ℕ) (b : Bool) → (m == k) ≡ b → cond b r (cond (n == k) s (e k)) ≡ cond (n == k) s (cond b r (e k))
    by k true h = sym (ap (λ c. cond c s r) (differ m n k apart h))
    by k false h = refl

swap : (rows : ℕ → List RowAt) (m n : ℕ) (ns : List ℕ) → (m == n) ≡ false → SameCounts (envs rows (m ∷ n ∷ ns)) (envs rows (n ∷ m ∷ ns))
swap rows m n ns apart p =
    times-envs p rows m (n ∷ ns)
    ∙ ap (λ f. over f (rows m)) (λ i r. times-envs (λ e. p (put m r e)) rows n ns i)
    ∙ over-swap (λ r s. times (λ e. p (put m r (put n s e))) (envs rows ns)) (rows m) (rows n)
    ∙ ap (λ f. over f (rows n)) (λ i s. over (λ r. times (λ e. p (put_put m n r s e apart i)) (envs rows ns)) (rows m))
    ∙ sym (times-envs p rows n (m ∷ ns) ∙ ap (λ f. over f (rows n)) (λ i s. times-envs (λ e. p (put n s e)) rows m ns i))

more_same : (rows : ℕ → List RowAt) (n : ℕ) (ms ns : List ℕ) → SameCounts (envs rows ms) (envs rows ns) → SameCounts (envs rows (n ∷ ms)) (envs rows (n ∷ ns))
more_same rows n ms ns h p = times-envs p rows n ms ∙ ap (λ f. over f (rows n)) (λ i r. h (λ e. p (put n r e)) i) ∙ sym (times-envs p rows n ns)

-- a table to the front
front : (rows : ℕ → List RowAt) (n : ℕ) (ns : List ℕ) → list_any (λ m. n == m) ns ≡ true → SameCounts (envs rows ns) (envs rows (n ∷ without (λ a b. a == b) Decides-eqb n ns))
unfolding without
front rows n [] h = cc
front rows n (m ∷ ns) h = by (n == m) refl h (front rows n ns)
  where
    by : (b : Bool) → (n == m) ≡ b → (b || list_any (λ k. n == k) ns) ≡ true → (list_any (λ k. n == k) ns ≡ true → SameCounts (envs rows ns) (envs rows (n ∷ without (λ a b. a == b) Decides-eqb n ns)))
        → SameCounts (envs rows (m ∷ ns)) (envs rows (n ∷ cond b ns (m ∷ without (λ a b. a == b) Decides-eqb n ns)))
    by true e h rest = SameCounts-is (envs rows (m ∷ ns)) (envs rows (n ∷ ns)) (ap (λ k. envs rows (k ∷ ns)) (sym (eqb-true n m e)))
    by false e h rest =
        SameCounts-trans (envs rows (m ∷ ns)) (envs rows (m ∷ n ∷ without (λ a b. a == b) Decides-eqb n ns)) (envs rows (n ∷ m ∷ without (λ a b. a == b) Decides-eqb n ns))
        (more_same rows m ns (n ∷ without (λ a b. a == b) Decides-eqb n ns) (rest h))
        (SameCounts-sym (envs rows (n ∷ m ∷ without (λ a b. a == b) Decides-eqb n ns)) (envs rows (m ∷ n ∷ without (λ a b. a == b) Decides-eqb n ns)) (swap rows n m (without (λ a b. a == b) Decides-eqb n ns) e))

-- **the tables in another order give the same**
pub same_tables : (rows : ℕ → List RowAt) (ms ns : List ℕ) → SameCounts ms ns → SameCounts (envs rows ms) (envs rows ns)
unfolding is_positive
same_tables rows [] [] h = SameCounts-is (envs rows []) (envs rows []) refl
same_tables rows [] (n ∷ ns) h =
    absurd (let one : times (λ m. n == m) (n ∷ ns) ≡ 1 + times (λ m. n == m) ns = ap (λ b. cond b 1 0 + times (λ m. n == m) ns) ((Decides-eqb n n).1 refl) in omega (arith, h (λ m. n == m), one))
same_tables rows (m ∷ ms) ns h =
    let one : times (λ k. m == k) (m ∷ ms) ≡ 1 + times (λ k. m == k) ms = ap (λ b. one_if b + times (λ k. m == k) ms) ((Decides-eqb m m).1 refl) in
    let more : times (λ k. m == k) ns ≡ suc (times (λ k. m == k) ms) = omega (arith, h (λ k. m == k), one) in
    let there : list_any (λ k. m == k) ns ≡ true = list_any_times (λ k. m == k) ns ∙ ap is_positive more in
    SameCounts-trans (envs rows (m ∷ ms)) (envs rows (m ∷ without (λ a b. a == b) Decides-eqb m ns)) (envs rows ns)
    (more_same rows m ms (without (λ a b. a == b) Decides-eqb m ns) (same_tables rows ms (without (λ a b. a == b) Decides-eqb m ns)
    (λ p. omega (arith, h p, times-without (λ a b. a == b) Decides-eqb p m ns there))))
    (SameCounts-sym (envs rows ns) (envs rows (m ∷ without (λ a b. a == b) Decides-eqb m ns)) (front rows m ns there))
