-- Tables of the query alone are found by their keys: what is found for a tuple is the join with them.
use Rattle.std.proofs.Common.{◌≡◌, ◌∙◌, sym, ap, refl, arith, ℕ, ◌+◌, ◌≤◌, Bool, true, false, cond, List, [], ◌∷◌, ◌++◌, map, Option, Some, None}
use Rattle.std.specs.Prelude.{◌&&◌, ◌||◌, ◌==◌, filter_map, find, option_and_then, option_map}
use Rattle.std.specs.List.{cons_option, filter, list_all}
use Rattle.std.proofs.lemmas.Bool.Decides.{Decides-eqb}
use Rattle.std.proofs.Math.Bool.{and-false}
use Rattle.wh_base.specs.Lists.{has_number, option_case}
use Rattle.wh_base.specs.Values.{equal_not_null}
use Rattle.wh_base.proofs.Sorting.{SameCounts, times}
use Rattle.wh_base.specs.declared.columns.ColRef.{ColRef}
use Rattle.wh_base.specs.declared.queries.Edge.{Edge}
use Rattle.wh_base.specs.declared.tables.RowAt.{RowAt}
use Rattle.wh_base.specs.declared.tables.TableDef.{TableDef}
use Rattle.wh_base.specs.declared.values.Value.{Value}
use Rattle.def_meaning.specs.Joined.{edge_true, part_value}
use Rattle.def_resolve.specs.Star.{leads_outwards}
use Rattle.law_lists.proofs.Numbers.{differs_turned}
use Rattle.law_lists.proofs.Counts.{one_if, times-append, times_agree}
use Rattle.law_lists.proofs.Each.{Each-filter, Each-map}
use Rattle.law_rewrite.specs.Words.{Each}
use Rattle.law_rewrite.proofs.Partners.{over}
use Rattle.law_rewrite.proofs.Envs.{Env, env_value, envs, over-swap, put, same_tables, times-envs}
use Rattle.law_rewrite.proofs.Forgetting.{Free, edge_free, fresh, meets_by, swap_tests, times-over, value_free}
use Rattle.law_rewrite.proofs.Joins.{first_leads, has_append, has_itself, has_second, listed_differs}

-- the row that the join finds for a tuple, and the tuple with it
abbrev pub found_for : (ℕ → List RowAt) → Edge → Env → Option RowAt
found_for rows d e = find (meets_by d e) (rows d.to.table)

abbrev pub with_row : (ℕ → List RowAt) → Edge → Env → Option Env
with_row rows d e = option_map (λ r. put d.to.table r e) (found_for rows d e)

abbrev pub with_rows : (ℕ → List RowAt) → List Edge → Env → Option Env
with_rows rows [] e = Some e
with_rows rows (d ∷ ds) e = option_and_then (with_rows rows ds) (with_row rows d e)

-- a value is that of one row at most
abbrev pub AtMost : (ℕ → List RowAt) → ColRef → Type 0
AtMost rows c = (w : Value) → times (λ r. equal_not_null w (part_value r c.part)) (rows c.table) ≤ 1

-- ---- lists

none_more : {A : Type 0} (m : A → Bool) (g : A → Bool) (xs : List A) → times m xs ≡ 0 → over (λ s. one_if (m s && g s)) xs ≡ 0
none_more m g [] h = refl
none_more {A} m g (x ∷ xs) h = by (m x) h (none_more m g xs)
  where
    by : (b : Bool) → cond b 1 0 + times m xs ≡ 0 → (times m xs ≡ 0 → over (λ s. one_if (m s && g s)) xs ≡ 0) → one_if (b && g x) + over (λ s. one_if (m s && g s)) xs ≡ 0
    by true h k = absurd (omega (arith, h))
    by false h k = let rest : times m xs ≡ 0 = omega (arith, h) in omega (arith, k rest)

pick : {A : Type 0} (m g : A → Bool) (xs : List A) → times m xs ≤ 1 → over (λ s. one_if (m s && g s)) xs ≡ option_case (find m xs) 0 (λ s. one_if (g s))
pick m g [] h = refl
pick {A} m g (x ∷ xs) h = by (m x) h (pick m g xs)
  where
    by : (b : Bool) → cond b 1 0 + times m xs ≤ 1 → (times m xs ≤ 1 → over (λ s. one_if (m s && g s)) xs ≡ option_case (find m xs) 0 (λ s. one_if (g s)))
        → one_if (b && g x) + over (λ s. one_if (m s && g s)) xs ≡ option_case (cond b (Some x) (find m xs)) 0 (λ s. one_if (g s))
    by true h k = let none : times m xs ≡ 0 = omega (arith, h) in omega (arith, none_more m g xs none)
    by false h k = let few : times m xs ≤ 1 = omega (arith, h) in omega (arith, k few)

pub times-filter_map : {A B : Type 0} (r : B → Bool) (f : A → Option B) (xs : List A) → times r (filter_map f xs) ≡ times (λ x. option_case (f x) false r) xs
times-filter_map r f [] = refl
times-filter_map {A} {B} r f (x ∷ xs) = by (f x) (times-filter_map r f xs)
  where
    by : (o : Option B) → times r (filter_map f xs) ≡ times (λ y. option_case (f y) false r) xs
        → times r (cons_option o (filter_map f xs)) ≡ one_if (option_case o false r) + times (λ y. option_case (f y) false r) xs
    by None h = omega (arith, h)
    by (Some y) h = ap (λ n. one_if (r y) + n) h

-- ---- one table

find_one : (rows : ℕ → List RowAt) (d : Edge) (ns : List ℕ) (p : Env → Bool) → (d.to.table == d.from.table) ≡ false → AtMost rows d.to
    → times (λ e. edge_true (env_value e) d && p e) (envs rows (d.to.table ∷ ns)) ≡ times p (filter_map (with_row rows d) (envs rows ns))
find_one rows d ns p apart few =
    times-envs (λ e. edge_true (env_value e) d && p e) rows d.to.table ns
    ∙ ap (λ f. over f (rows d.to.table)) (λ i r. times (λ e. edge_is r e i && p (put d.to.table r e)) (envs rows ns))
    ∙ ap (λ f. over f (rows d.to.table)) (λ i r. times-over (λ e. meets_by d e r && p (put d.to.table r e)) (envs rows ns) i)
    ∙ over-swap (λ r e. one_if (meets_by d e r && p (put d.to.table r e))) (rows d.to.table) (envs rows ns)
    ∙ ap (λ f. over f (envs rows ns)) (λ i e. one e i)
    ∙ sym (times-over (λ e. option_case (with_row rows d e) false p) (envs rows ns))
    ∙ sym (times-filter_map p (with_row rows d) (envs rows ns))
  where
    edge_is : (r : RowAt) (e : Env) → edge_true (env_value (put d.to.table r e)) d ≡ meets_by d e r
    edge_is r e =
        λ i. equal_not_null (value_free d.from d.to.table apart r e i) (part_value (cond ((Decides-eqb d.to.table d.to.table).1 refl i) r (e d.to.table)) d.to.part)

    one : (e : Env) → over (λ r. one_if (meets_by d e r && p (put d.to.table r e))) (rows d.to.table) ≡ one_if (option_case (with_row rows d e) false p)
    one e = pick (meets_by d e) (λ r. p (put d.to.table r e)) (rows d.to.table) (few (part_value (e d.from.table) d.from.part)) ∙ by (found_for rows d e)
      where
        by : (o : Option RowAt) → option_case o 0 (λ r. one_if (p (put d.to.table r e))) ≡ one_if (option_case (option_map (λ r. put d.to.table r e) o) false p)
        by None = refl
        by (Some r) = refl

-- ---- all of them

-- joins of which none reaches a table that it or an earlier one reads
abbrev pub Chain : List Edge → Type 0
Chain [] = Unit {0}
Chain (d ∷ ds) = ((d.to.table == d.from.table) ≡ false) × Each (λ x. ((x.to.table == d.from.table) ≡ false) × ((x.to.table == d.to.table) ≡ false)) ds × Chain ds

pub chain_of : (defs : List TableDef) (listed : List ℕ) (ds : List Edge) → leads_outwards defs listed ds ≡ true → Chain ds
chain_of defs listed [] h = tt
chain_of defs listed (d ∷ ds) h = (
  differs_turned d.from.table d.to.table (listed_differs listed d.from.table d.to.table first.0 first.1),
  later ds (fresh defs (listed ++ d.to.table ∷ []) ds first.2),
  chain_of defs (listed ++ d.to.table ∷ []) ds first.2,
)
  where
    first : (has_number listed d.from.table ≡ true) × (has_number listed d.to.table ≡ false) × (leads_outwards defs (listed ++ d.to.table ∷ []) ds ≡ true)
    first = first_leads defs listed d ds h

    later : (es : List Edge) → Each (λ n. has_number (listed ++ d.to.table ∷ []) n ≡ false) (map (λ e. e.to.table) es) → Each (λ x. ((x.to.table == d.from.table) ≡ false) × ((x.to.table == d.to.table) ≡ false)) es
    later [] k = tt
    later (e ∷ es) k = (
      (
        differs_turned d.from.table e.to.table (listed_differs (listed ++ d.to.table ∷ []) d.from.table e.to.table (has_append listed (d.to.table ∷ []) d.from.table ∙ ap (λ b. b || has_number (d.to.table ∷ []) d.from.table) first.0) k.0),
        differs_turned d.to.table e.to.table (listed_differs (listed ++ d.to.table ∷ []) d.to.table e.to.table (has_second listed (d.to.table ∷ []) d.to.table (has_itself d.to.table [])) k.0),
      ),
      later es k.1,
    )

pub chain_filter : (p : Edge → Bool) (ds : List Edge) → Chain ds → Chain (filter p ds)
chain_filter p [] h = tt
chain_filter p (d ∷ ds) h = by (p d) (chain_filter p ds h.2)
  where
    by : (b : Bool) → Chain (filter p ds) → Chain (cond b (d ∷ filter p ds) (filter p ds))
    by true k = (h.0, Each-filter (λ x. ((x.to.table == d.from.table) ≡ false) × ((x.to.table == d.to.table) ≡ false)) p ds h.1, k)
    by false k = k

-- a test that reads none of the tables that are found
pub rows_free : (rows : ℕ → List RowAt) (ds : List Edge) (q p : Env → Bool) → Each (λ d. Free q d.to.table) ds → (e : Env)
    → option_case (with_rows rows ds e) false (λ y. q y && p y) ≡ (q e && option_case (with_rows rows ds e) false p)
rows_free rows [] q p h e = refl
rows_free rows (d ∷ ds) q p h e = by (found_for rows d e) (λ r. rows_free rows ds q p h.1 (put d.to.table r e))
  where
    by : (o : Option RowAt)
        → ((r : RowAt) → option_case (with_rows rows ds (put d.to.table r e)) false (λ y. q y && p y) ≡ (q (put d.to.table r e) && option_case (with_rows rows ds (put d.to.table r e)) false p))
        → option_case (option_and_then (with_rows rows ds) (option_map (λ r. put d.to.table r e) o)) false (λ y. q y && p y)
        ≡ (q e && option_case (option_and_then (with_rows rows ds) (option_map (λ r. put d.to.table r e) o)) false p)
    by None k = sym (and-false (q e))
    by (Some r) k = k r ∙ ap (λ b. b && option_case (with_rows rows ds (put d.to.table r e)) false p) (h.0 r e)

pub all_hold : List Edge → Env → Bool
all_hold ds e = list_all (edge_true (env_value e)) ds

pub find_all : (rows : ℕ → List RowAt) (ds : List Edge) (ns : List ℕ) (p : Env → Bool) → Chain ds → Each (λ d. AtMost rows d.to) ds
    → times (λ e. list_all (edge_true (env_value e)) ds && p e) (envs rows (map (λ d. d.to.table) ds ++ ns)) ≡ times p (filter_map (with_rows rows ds) (envs rows ns))
find_all rows [] ns p chain few = sym (times-filter_map p (λ e. Some e) (envs rows ns))
find_all rows (d ∷ ds) ns p chain few =
    same_tables rows (d.to.table ∷ (map (λ x. x.to.table) ds ++ ns)) (map (λ x. x.to.table) ds ++ d.to.table ∷ ns) moved (λ e. (edge_true (env_value e) d && list_all (edge_true (env_value e)) ds) && p e)
    ∙ times_agree (λ e. (edge_true (env_value e) d && list_all (edge_true (env_value e)) ds) && p e) (λ e. list_all (edge_true (env_value e)) ds && (edge_true (env_value e) d && p e))
    (λ e. swap_tests (edge_true (env_value e) d) (list_all (edge_true (env_value e)) ds) (p e)) (envs rows (map (λ x. x.to.table) ds ++ d.to.table ∷ ns))
    ∙ find_all rows ds (d.to.table ∷ ns) (λ e. edge_true (env_value e) d && p e) chain.2 few.1
    ∙ times-filter_map (λ e. edge_true (env_value e) d && p e) (with_rows rows ds) (envs rows (d.to.table ∷ ns))
    ∙ times_agree (λ e. option_case (with_rows rows ds e) false (λ y. edge_true (env_value y) d && p y)) (λ e. edge_true (env_value e) d && option_case (with_rows rows ds e) false p)
    (rows_free rows ds (λ e. edge_true (env_value e) d) p
    (Each-map (λ x. ((x.to.table == d.from.table) ≡ false) × ((x.to.table == d.to.table) ≡ false)) (λ x. Free (λ e. edge_true (env_value e) d) x.to.table) (λ x h. edge_free d x.to.table h.0 h.1) ds chain.1))
    (envs rows (d.to.table ∷ ns))
    ∙ find_one rows d ns (λ e. option_case (with_rows rows ds e) false p) chain.0 few.0
    ∙ times-filter_map (λ e. option_case (with_rows rows ds e) false p) (with_row rows d) (envs rows ns)
    ∙ times_agree (λ e. option_case (with_row rows d e) false (λ y. option_case (with_rows rows ds y) false p)) (λ e. option_case (with_rows rows (d ∷ ds) e) false p) both (envs rows ns)
    ∙ sym (times-filter_map p (with_rows rows (d ∷ ds)) (envs rows ns))
  where
    moved : SameCounts (d.to.table ∷ (map (λ x. x.to.table) ds ++ ns)) (map (λ x. x.to.table) ds ++ d.to.table ∷ ns)
    moved r = omega (arith, times-append r (map (λ x. x.to.table) ds) ns, times-append r (map (λ x. x.to.table) ds) (d.to.table ∷ ns))

    both : (e : Env) → option_case (with_row rows d e) false (λ y. option_case (with_rows rows ds y) false p) ≡ option_case (with_rows rows (d ∷ ds) e) false p
    both e = by (with_row rows d e)
      where
        by : (o : Option Env) → option_case o false (λ y. option_case (with_rows rows ds y) false p) ≡ option_case (option_and_then (with_rows rows ds) o) false p
        by None = refl
        by (Some y) = refl
