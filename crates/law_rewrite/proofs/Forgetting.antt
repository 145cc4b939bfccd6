-- Tables of the view alone can be left out, where each row that their joins start at has exactly one partner.
use Rattle.std.proofs.Common.{◌≡◌, ◌∙◌, sym, ap, subst, refl, arith, ℕ, ◌+◌, Bool, true, false, cond, not, List, [], ◌∷◌, ◌++◌, map, Some}
use Rattle.std.specs.Prelude.{◌&&◌, ◌||◌, ◌==◌}
use Rattle.std.specs.List.{filter, flat_map, list_all}
use Rattle.std.proofs.lemmas.Bool.Decides.{Decides-eqb}
use Rattle.std.proofs.lemmas.Bool.{eqb-true, or_parts}
use Rattle.std.proofs.Math.Bool.{or-true, and-true}
use Rattle.wh_base.specs.Lists.{has_number, option_case}
use Rattle.wh_base.specs.Values.{equal_not_null}
use Rattle.wh_base.proofs.Sorting.{SameCounts, times}
use Rattle.wh_base.specs.declared.columns.ColRef.{ColRef}
use Rattle.wh_base.specs.declared.queries.Edge.{Edge}
use Rattle.wh_base.specs.declared.queries.StarQuery.{StarQuery}
use Rattle.wh_base.specs.declared.tables.RowAt.{RowAt}
use Rattle.wh_base.specs.declared.tables.TableDef.{TableDef}
use Rattle.def_meaning.specs.Joined.{edge_true, part_value}
use Rattle.def_resolve.specs.Star.{leads_outwards}
use Rattle.def_rewriting.specs.Compatible.{join_into}
use Rattle.law_lists.proofs.Each.{Each-append, Each-filter, Each-map, Each-of, Each-of_map}
use Rattle.law_lists.proofs.Numbers.{differs_turned}
use Rattle.law_lists.proofs.Counts.{one_if, times-append, times_agree}
use Rattle.law_rewrite.specs.Words.{Each}
use Rattle.law_rewrite.proofs.Partners.{over, over_agree}
use Rattle.law_rewrite.proofs.Envs.{Env, env_value, envs, over-swap, put, same_tables, times-envs}
use Rattle.law_rewrite.proofs.Joins.{first_leads, has_append, has_itself, has_second, into, listed_differs}

-- ---- rows of tuples

-- what holds of the rows of a table holds of its row in each tuple
pub env_each : (P : RowAt → Type 0) (rows : ℕ → List RowAt) (m : ℕ) (ns : List ℕ) → Each P (rows m) → has_number ns m ≡ true → Each (λ e. P (e m)) (envs rows ns)
env_each P rows m [] h k = absurd (let e : false ≡ true = k in cc)
env_each P rows m (n ∷ ns) h k = by (n == m) refl k (env_each P rows m ns h)
  where
    here : (n == m) ≡ true → (rs : List RowAt) → Each P rs → Each (λ e. P (e m)) (flat_map (λ r. map (put n r) (envs rows ns)) rs)
    here e [] f = tt
    here e (r ∷ rs) f =
        Each-append (λ x. P (x m)) (map (put n r) (envs rows ns)) (flat_map (λ s. map (put n s) (envs rows ns)) rs)
        (Each-of_map (λ x. P (x m)) (put n r) (envs rows ns) (Each-of (λ x. P (put n r x m)) (λ x. subst P (sym (ap (λ b. cond b r (x m)) e)) f.0) (envs rows ns)))
        (here e rs f.1)

    there : (n == m) ≡ false → Each (λ e. P (e m)) (envs rows ns) → (rs : List RowAt) → Each (λ e. P (e m)) (flat_map (λ r. map (put n r) (envs rows ns)) rs)
    there e f [] = tt
    there e f (r ∷ rs) =
        Each-append (λ x. P (x m)) (map (put n r) (envs rows ns)) (flat_map (λ s. map (put n s) (envs rows ns)) rs)
        (Each-of_map (λ x. P (x m)) (put n r) (envs rows ns) (Each-map (λ x. P (x m)) (λ x. P (put n r x m)) (λ x. subst P (sym (ap (λ b. cond b r (x m)) e))) (envs rows ns) f))
        (there e f rs)

    by : (b : Bool) → (n == m) ≡ b → (b || has_number ns m) ≡ true → (has_number ns m ≡ true → Each (λ e. P (e m)) (envs rows ns)) → Each (λ e. P (e m)) (envs rows (n ∷ ns))
    by true e k rest = here e (rows n) (subst (λ j. Each P (rows j)) (sym (eqb-true n m e)) h)
    by false e k rest = there e (rest k) (rows n)

-- a test that doesn't read a table
abbrev pub Free : {A : Type 0} → (Env → A) → ℕ → Type 0
Free p n = (r : RowAt) (e : Env) → p (put n r e) ≡ p e

pub value_free : (c : ColRef) (n : ℕ) → (n == c.table) ≡ false → Free (λ e. env_value e c) n
value_free c n h r e = ap (λ b. part_value (cond b r (e c.table)) c.part) h

pub edge_free : (d : Edge) (n : ℕ) → (n == d.from.table) ≡ false → (n == d.to.table) ≡ false → Free (λ e. edge_true (env_value e) d) n
edge_free d n h k r e = λ i. equal_not_null (value_free d.from n h r e i) (value_free d.to n k r e i)

-- each row that the join starts at has exactly one partner
abbrev pub Once : (ℕ → List RowAt) → Edge → Type 0
Once rows d = Each (λ s. times (λ r. equal_not_null (part_value s d.from.part) (part_value r d.to.part)) (rows d.to.table) ≡ 1) (rows d.from.table)

pub times-over : {A : Type 0} (p : A → Bool) (xs : List A) → times p xs ≡ over (λ x. one_if (p x)) xs
times-over p [] = refl
times-over p (x ∷ xs) = ap (λ n. one_if (p x) + n) (times-over p xs)

times-none : {A : Type 0} (q : A → Bool) (xs : List A) → times (λ x. q x && false) xs ≡ 0
times-none q [] = refl
times-none q (x ∷ xs) = by (q x) (times-none q xs)
  where
    by : (b : Bool) → times (λ y. q y && false) xs ≡ 0 → one_if (b && false) + times (λ y. q y && false) xs ≡ 0
    by true h = omega (arith, h)
    by false h = omega (arith, h)

abbrev pub meets_by : Edge → Env → RowAt → Bool
meets_by d e r = equal_not_null (part_value (e d.from.table) d.from.part) (part_value r d.to.part)

-- one table
forget_one : (rows : ℕ → List RowAt) (d : Edge) (ns : List ℕ) (p : Env → Bool)
    → (d.to.table == d.from.table) ≡ false → has_number ns d.from.table ≡ true → Once rows d → Free p d.to.table
    → times (λ e. edge_true (env_value e) d && p e) (envs rows (d.to.table ∷ ns)) ≡ times p (envs rows ns)
forget_one rows d ns p apart there once free =
    times-envs (λ e. edge_true (env_value e) d && p e) rows d.to.table ns
    ∙ ap (λ f. over f (rows d.to.table)) (λ i r. times (λ e. edge_is r e i && free r e i) (envs rows ns))
    ∙ ap (λ f. over f (rows d.to.table)) (λ i r. times-over (λ e. meets_by d e r && p e) (envs rows ns) i)
    ∙ over-swap (λ r e. one_if (meets_by d e r && p e)) (rows d.to.table) (envs rows ns)
    ∙ over_agree (λ e. over (λ r. one_if (meets_by d e r && p e)) (rows d.to.table)) (λ e. one_if (p e)) (envs rows ns)
    (Each-map (λ e. times (meets_by d e) (rows d.to.table) ≡ 1) (λ e. over (λ r. one_if (meets_by d e r && p e)) (rows d.to.table) ≡ one_if (p e)) one (envs rows ns)
    (env_each (λ s. times (λ r. equal_not_null (part_value s d.from.part) (part_value r d.to.part)) (rows d.to.table) ≡ 1) rows d.from.table ns once there))
    ∙ sym (times-over p (envs rows ns))
  where
    edge_is : (r : RowAt) (e : Env) → edge_true (env_value (put d.to.table r e)) d ≡ meets_by d e r
    edge_is r e =
        λ i. equal_not_null (value_free d.from d.to.table apart r e i) (part_value (cond ((Decides-eqb d.to.table d.to.table).1 refl i) r (e d.to.table)) d.to.part)

    one : (e : Env) → times (meets_by d e) (rows d.to.table) ≡ 1 → over (λ r. one_if (meets_by d e r && p e)) (rows d.to.table) ≡ one_if (p e)
    one e h = sym (times-over (λ r. meets_by d e r && p e) (rows d.to.table)) ∙ by (p e)
      where
        by : (b : Bool) → times (λ r. meets_by d e r && b) (rows d.to.table) ≡ one_if b
        by true = times_agree (λ r. meets_by d e r && true) (meets_by d e) (λ r. and-true (meets_by d e r)) (rows d.to.table) ∙ h
        by false = times-none (meets_by d e) (rows d.to.table)

-- ---- all of them

pub fresh : (defs : List TableDef) (listed : List ℕ) (es : List Edge) → leads_outwards defs listed es ≡ true → Each (λ n. has_number listed n ≡ false) (map (λ e. e.to.table) es)
fresh defs listed [] h = tt
fresh defs listed (e ∷ es) h =
    let first : (has_number listed e.from.table ≡ true) × (has_number listed e.to.table ≡ false) × (leads_outwards defs (listed ++ e.to.table ∷ []) es ≡ true) = first_leads defs listed e es h in (
      first.1,
      Each-map (λ n. has_number (listed ++ e.to.table ∷ []) n ≡ false) (λ n. has_number listed n ≡ false) (λ n k. (or_parts (has_number listed n) (has_number (e.to.table ∷ []) n) (sym (has_append listed (e.to.table ∷ []) n) ∙ k)).0) (map (λ d. d.to.table) es)
          (fresh defs (listed ++ e.to.table ∷ []) es first.2),
    )

pub swap_tests : (a b c : Bool) → ((a && b) && c) ≡ (b && (a && c))
swap_tests true true c = refl
swap_tests true false c = refl
swap_tests false true c = refl
swap_tests false false c = refl

module _ (defs : List TableDef) (v : StarQuery) (rows : ℕ → List RowAt) (ours : ℕ → Bool) where
  -- the tables of these joins that aren't ours
  abbrev pub extras : List Edge → List ℕ
  extras es = filter (λ n. not (ours n)) (map (λ e. e.to.table) es)

  abbrev pub hang : List ℕ → Env → Bool
  hang ns e = list_all (into v (env_value e)) ns

  pub forget : (listed : List ℕ) (es : List Edge) (ns : List ℕ) (p : Env → Bool)
      → leads_outwards defs listed es ≡ true
      → Each (λ e. join_into v e.to.table ≡ Some e) es
      → Each (λ e. ours e.to.table ≡ false → Once rows e) es
      → ((m : ℕ) → has_number listed m ≡ true → has_number ns m ≡ true)
      → Each (λ e. ours e.to.table ≡ true → has_number ns e.to.table ≡ true) es
      → Each (Free p) (extras es)
      → times (λ e. hang (extras es) e && p e) (envs rows (extras es ++ ns)) ≡ times p (envs rows ns)
  forget listed [] ns p leads own once listed_in ours_in free = refl
  forget listed (d ∷ es) ns p leads own once listed_in ours_in free =
      by (λ ms r. forget (listed ++ d.to.table ∷ []) es ms r (first_leads defs listed d es leads).2 own.1 once.1) (ours d.to.table) refl free
    where
      first : (has_number listed d.from.table ≡ true) × (has_number listed d.to.table ≡ false) × (leads_outwards defs (listed ++ d.to.table ∷ []) es ≡ true)
      first = first_leads defs listed d es leads

      listed_or : (b : Bool) (ms : List ℕ) (m : ℕ) → has_number listed m ≡ b → (has_number listed m ≡ true → has_number ms m ≡ true) → has_number ms d.to.table ≡ true → has_number (listed ++ d.to.table ∷ []) m ≡ true → has_number ms m ≡ true
      listed_or true ms m e k there h = k e
      listed_or false ms m e k there h = by (d.to.table == m) refl (sym (has_append listed (d.to.table ∷ []) m ∙ ap (λ b. b || has_number (d.to.table ∷ []) m) e) ∙ h)
        where
          by : (b : Bool) → (d.to.table == m) ≡ b → (b || false) ≡ true → has_number ms m ≡ true
          by true f h = ap (has_number ms) (sym (eqb-true d.to.table m f)) ∙ there
          by false f h = cc

      into_is : (e : Env) → into v (env_value e) d.to.table ≡ edge_true (env_value e) d
      into_is e = ap (λ o. option_case o true (edge_true (env_value e))) own.0

      further : Each (λ n. has_number (listed ++ d.to.table ∷ []) n ≡ false) (extras es)
      further = Each-filter (λ n. has_number (listed ++ d.to.table ∷ []) n ≡ false) (λ n. not (ours n)) (map (λ e. e.to.table) es) (fresh defs (listed ++ d.to.table ∷ []) es first.2)

      with_edge : (n : ℕ) → (has_number (listed ++ d.to.table ∷ []) n ≡ false) × Free p n → Free (λ e. edge_true (env_value e) d && p e) n
      with_edge n h r e =
          λ i. edge_free d n
          (differs_turned d.from.table n (listed_differs (listed ++ d.to.table ∷ []) d.from.table n (has_append listed (d.to.table ∷ []) d.from.table ∙ ap (λ b. b || has_number (d.to.table ∷ []) d.from.table) first.0) h.0))
          (differs_turned d.to.table n (listed_differs (listed ++ d.to.table ∷ []) d.to.table n (has_second listed (d.to.table ∷ []) d.to.table (has_itself d.to.table [])) h.0)) r e i
          && h.1 r e i

      Each-and : {A : Type 0} (P Q : A → Type 0) (xs : List A) → Each P xs → Each Q xs → Each (λ x. P x × Q x) xs
      Each-and P Q [] h k = tt
      Each-and P Q (x ∷ xs) h k = ((h.0, k.0), Each-and P Q xs h.1 k.1)

      moved : (xs : List ℕ) → SameCounts (d.to.table ∷ (xs ++ ns)) (xs ++ d.to.table ∷ ns)
      moved xs r = omega (arith, times-append r xs ns, times-append r xs (d.to.table ∷ ns))

      by : ((ms : List ℕ) (r : Env → Bool) → ((m : ℕ) → has_number (listed ++ d.to.table ∷ []) m ≡ true → has_number ms m ≡ true)
          → Each (λ e. ours e.to.table ≡ true → has_number ms e.to.table ≡ true) es → Each (Free r) (extras es)
          → times (λ e. hang (extras es) e && r e) (envs rows (extras es ++ ms)) ≡ times r (envs rows ms))
          → (b : Bool) → ours d.to.table ≡ b → Each (Free p) (cond (not b) (d.to.table ∷ extras es) (extras es))
          → times (λ e. hang (cond (not b) (d.to.table ∷ extras es) (extras es)) e && p e) (envs rows (cond (not b) (d.to.table ∷ extras es) (extras es) ++ ns)) ≡ times p (envs rows ns)
      by again true o free =
          again ns p (λ m. listed_or (has_number listed m) ns m refl (listed_in m) (ours_in.0 o)) ours_in.1 free
      by again false o free =
          same_tables rows (d.to.table ∷ (extras es ++ ns)) (extras es ++ d.to.table ∷ ns) (moved (extras es)) (λ e. hang (d.to.table ∷ extras es) e && p e)
          ∙ times_agree (λ e. hang (d.to.table ∷ extras es) e && p e) (λ e. hang (extras es) e && (edge_true (env_value e) d && p e))
          (λ e. ap (λ b. (b && hang (extras es) e) && p e) (into_is e) ∙ swap_tests (edge_true (env_value e) d) (hang (extras es) e) (p e)) (envs rows (extras es ++ d.to.table ∷ ns))
          ∙ again (d.to.table ∷ ns) (λ e. edge_true (env_value e) d && p e)
          (λ m. listed_or (has_number listed m) (d.to.table ∷ ns) m refl (λ h. more m (listed_in m h)) (has_itself d.to.table ns))
          (Each-map (λ e. ours e.to.table ≡ true → has_number ns e.to.table ≡ true) (λ e. ours e.to.table ≡ true → has_number (d.to.table ∷ ns) e.to.table ≡ true) (λ e k h. more e.to.table (k h)) es ours_in.1)
          (Each-map (λ n. (has_number (listed ++ d.to.table ∷ []) n ≡ false) × Free p n) (Free (λ e. edge_true (env_value e) d && p e)) with_edge (extras es)
          (Each-and (λ n. has_number (listed ++ d.to.table ∷ []) n ≡ false) (Free p) (extras es) further free.1))
          ∙ forget_one rows d ns p (differs_turned d.from.table d.to.table (listed_differs listed d.from.table d.to.table first.0 first.1)) (listed_in d.from.table first.0) (once.0 o) free.0
        where
          more : (m : ℕ) → has_number ns m ≡ true → has_number (d.to.table ∷ ns) m ≡ true
          more m h = ap (λ b. (d.to.table == m) || b) h ∙ or-true (d.to.table == m)
