-- The joins of a star by its tables: the join into each table holds. Its tables are distinct.
use Rattle.std.proofs.Common.{◌≡◌, ◌∙◌, sym, ap, subst, refl, arith, ℕ, ◌+◌, Bool, true, false, cond, not, List, [], ◌∷◌, ◌++◌, map, Some, None}
use Rattle.std.specs.Prelude.{◌&&◌, ◌||◌, ◌==◌, find}
use Rattle.std.specs.List.{filter, list_all}
use Rattle.std.proofs.lemmas.Bool.Decides.{Decides-eqb}
use Rattle.std.proofs.lemmas.Bool.{eqb-true, or_parts, and_parts, not-true}
use Rattle.std.proofs.lemmas.List.Folds.{list_any-append}
use Rattle.std.specs.Bool.{Decides}
use Rattle.std.proofs.Math.Bool.{or-true, and-false}
use Rattle.wh_base.specs.Lists.{has_number, option_case}
use Rattle.wh_base.proofs.Sorting.{SameCounts, times}
use Rattle.wh_base.specs.declared.columns.ColRef.{ColRef}
use Rattle.wh_base.specs.declared.queries.Edge.{Edge}
use Rattle.wh_base.specs.declared.queries.StarQuery.{StarQuery}
use Rattle.wh_base.specs.declared.tables.TableDef.{TableDef}
use Rattle.wh_base.specs.declared.values.Value.{Value}
use Rattle.def_meaning.specs.Joined.{edge_true}
use Rattle.def_resolve.specs.Star.{IsTreeFrom, is_key_column, leads_outwards}
use Rattle.def_rewriting.specs.Compatible.{join_into}
use Rattle.law_lists.proofs.Numbers.{differs_turned, Distinct}
use Rattle.law_lists.proofs.Counts.{one_if, same_each, times-append, times-filter, times_agree}
use Rattle.law_rewrite.specs.Words.{Each}
use Rattle.law_rewrite.proofs.Partners.{times-and}

-- ---- numbers in lists

-- what is listed differs from what isn't
pub listed_differs : (ns : List ℕ) (m n : ℕ) → has_number ns m ≡ true → has_number ns n ≡ false → (m == n) ≡ false
listed_differs ns m n h k = by (m == n) refl
  where
    by : (b : Bool) → (m == n) ≡ b → b ≡ false
    by true e = sym h ∙ ap (has_number ns) (eqb-true m n e) ∙ k
    by false e = refl

pub has_append : (ms ns : List ℕ) (n : ℕ) → has_number (ms ++ ns) n ≡ (has_number ms n || has_number ns n)
has_append ms ns n = list_any-append (λ m. m == n) ms ns

pub has_first : (ms ns : List ℕ) (n : ℕ) → has_number ms n ≡ true → has_number (ms ++ ns) n ≡ true
has_first ms ns n h = has_append ms ns n ∙ ap (λ b. b || has_number ns n) h

pub has_second : (ms ns : List ℕ) (n : ℕ) → has_number ns n ≡ true → has_number (ms ++ ns) n ≡ true
has_second ms ns n h = has_append ms ns n ∙ ap (λ b. has_number ms n || b) h ∙ or-true (has_number ms n)

pub has_itself : (n : ℕ) (ns : List ℕ) → has_number (n ∷ ns) n ≡ true
has_itself n ns = ap (λ b. b || has_number ns n) ((Decides-eqb n n).1 refl)

pub distinct_once : (k : ℕ) (ns : List ℕ) → Distinct ns → times (λ m. m == k) ns ≡ one_if (has_number ns k)
distinct_once k [] h = refl
distinct_once k (n ∷ ns) h = by (n == k) refl (distinct_once k ns h.1)
  where
    by : (b : Bool) → (n == k) ≡ b → times (λ m. m == k) ns ≡ one_if (has_number ns k) → cond b 1 0 + times (λ m. m == k) ns ≡ one_if (b || has_number ns k)
    by true e rest = let none : has_number ns k ≡ false = ap (has_number ns) (sym (eqb-true n k e)) ∙ h.0 in let zero : times (λ m. m == k) ns ≡ 0 = rest ∙ ap one_if none in omega (arith, zero)
    by false e rest = omega (arith, rest)

by_number : (a b : ℕ) → Decides (b == a) (a ≡ b)
by_number a b = (λ h. sym (eqb-true b a h), λ e. (Decides-eqb b a).1 (sym e))

-- of two lists without repetitions what they have in common
pub common_same : (ms ns : List ℕ) → Distinct ms → Distinct ns → SameCounts (filter (has_number ms) ns) (filter (has_number ns) ms)
common_same ms ns h k =
    same_each (λ a b. b == a) by_number (filter (has_number ms) ns) (filter (has_number ns) ms)
    (λ n. count ms ns n k ∙ turn (has_number ms n) (has_number ns n) ∙ sym (count ns ms n h))
  where
    at : (ms : List ℕ) (n m : ℕ) → (has_number ms m && (m == n)) ≡ (has_number ms n && (m == n))
    at ms n m = by (m == n) refl
      where
        by : (b : Bool) → (m == n) ≡ b → (has_number ms m && b) ≡ (has_number ms n && b)
        by true e = ap (λ j. has_number ms j && true) (eqb-true m n e)
        by false e = and-false (has_number ms m) ∙ sym (and-false (has_number ms n))

    count : (ms ns : List ℕ) (n : ℕ) → Distinct ns → times (λ m. m == n) (filter (has_number ms) ns) ≡ cond (has_number ms n) (one_if (has_number ns n)) 0
    count ms ns n k =
        times-filter (has_number ms) (λ m. m == n) ns ∙ times_agree (λ m. has_number ms m && (m == n)) (λ m. has_number ms n && (m == n)) (at ms n) ns
        ∙ times-and (has_number ms n) (λ m. m == n) ns ∙ ap (λ c. cond (has_number ms n) c 0) (distinct_once n ns k)

    turn : (a b : Bool) → cond a (one_if b) 0 ≡ cond b (one_if a) 0
    turn true true = refl
    turn true false = refl
    turn false true = refl
    turn false false = refl

-- the two parts of a list
pub parts_same : (p : ℕ → Bool) (ns : List ℕ) → SameCounts (filter (λ n. not (p n)) ns ++ filter p ns) ns
parts_same p ns r =
    times-append r (filter (λ n. not (p n)) ns) (filter p ns)
    ∙ (λ i. times-filter (λ n. not (p n)) r ns i + times-filter p r ns i) ∙ sums ns
  where
    one : (a b : Bool) → one_if (not a && b) + one_if (a && b) ≡ one_if b
    one true true = omega arith
    one true false = omega arith
    one false true = omega arith
    one false false = omega arith

    sums : (ns : List ℕ) → times (λ n. not (p n) && r n) ns + times (λ n. p n && r n) ns ≡ times r ns
    sums [] = omega arith
    sums (n ∷ ns) = omega (arith, sums ns, one (p n) (r n))

-- ---- the join into each table

abbrev pub into : StarQuery → (ColRef → Value) → ℕ → Bool
into q f n = option_case (join_into q n) true (edge_true f)

abbrev tos : List Edge → List ℕ
tos es = map (λ e. e.to.table) es

module _ (defs : List TableDef) where
  -- the first join of those that lead outwards
  pub first_leads : (listed : List ℕ) (e : Edge) (es : List Edge) → leads_outwards defs listed (e ∷ es) ≡ true
      → (has_number listed e.from.table ≡ true) × (has_number listed e.to.table ≡ false) × (leads_outwards defs (listed ++ e.to.table ∷ []) es ≡ true)
  first_leads listed e es h =
      let both : ((has_number listed e.from.table && (not (has_number listed e.to.table) && is_key_column defs e.to)) ≡ true) × (leads_outwards defs (listed ++ e.to.table ∷ []) es ≡ true)
      = and_parts (has_number listed e.from.table && (not (has_number listed e.to.table) && is_key_column defs e.to)) (leads_outwards defs (listed ++ e.to.table ∷ []) es) h in
      let more : (has_number listed e.from.table ≡ true) × ((not (has_number listed e.to.table) && is_key_column defs e.to) ≡ true)
      = and_parts (has_number listed e.from.table) (not (has_number listed e.to.table) && is_key_column defs e.to) both.0 in
      (more.0, not-true (has_number listed e.to.table) (and_parts (not (has_number listed e.to.table)) (is_key_column defs e.to) more.1).0, both.1)

  -- nothing that is listed is reached again
  pub not_again : (listed : List ℕ) (es : List Edge) (n : ℕ) → leads_outwards defs listed es ≡ true → has_number listed n ≡ true → has_number (tos es) n ≡ false
  not_again listed [] n h k = refl
  not_again listed (e ∷ es) n h k =
      let first : (has_number listed e.from.table ≡ true) × (has_number listed e.to.table ≡ false) × (leads_outwards defs (listed ++ e.to.table ∷ []) es ≡ true) = first_leads listed e es h in
      λ i. differs_turned n e.to.table (listed_differs listed n e.to.table k first.1) i || not_again (listed ++ e.to.table ∷ []) es n first.2 (has_first listed (e.to.table ∷ []) n k) i

  pub distinct_tos : (listed : List ℕ) (es : List Edge) → leads_outwards defs listed es ≡ true → Distinct (tos es)
  distinct_tos listed [] h = tt
  distinct_tos listed (e ∷ es) h =
      let first : (has_number listed e.from.table ≡ true) × (has_number listed e.to.table ≡ false) × (leads_outwards defs (listed ++ e.to.table ∷ []) es ≡ true) = first_leads listed e es h in
      (not_again (listed ++ e.to.table ∷ []) es e.to.table first.2 (has_second listed (e.to.table ∷ []) e.to.table (has_itself e.to.table [])), distinct_tos (listed ++ e.to.table ∷ []) es first.2)

  find_none : (n : ℕ) (es : List Edge) → has_number (tos es) n ≡ false → find (λ e. e.to.table == n) es ≡ None
  find_none n [] h = refl
  find_none n (e ∷ es) h =
      let both : ((e.to.table == n) ≡ false) × (has_number (tos es) n ≡ false) = or_parts (e.to.table == n) (has_number (tos es) n) h in
      λ i. cond (both.0 i) (Some e) (find_none n es both.1 i)

  -- each join is found by its table
  found_own : (es : List Edge) → Distinct (tos es) → Each (λ e. find (λ d. d.to.table == e.to.table) es ≡ Some e) es
  found_own [] h = tt
  found_own (e ∷ es) h = (ap (λ b. cond b (Some e) (find (λ d. d.to.table == e.to.table) es)) ((Decides-eqb e.to.table e.to.table).1 refl), later es h.0 (found_own es h.1))
    where
      later : (fs : List Edge) → has_number (tos fs) e.to.table ≡ false → Each (λ f. find (λ d. d.to.table == f.to.table) es ≡ Some f) fs → Each (λ f. find (λ d. d.to.table == f.to.table) (e ∷ es) ≡ Some f) fs
      later [] h k = tt
      later (f ∷ fs) h k =
          let both : ((f.to.table == e.to.table) ≡ false) × (has_number (tos fs) e.to.table ≡ false) = or_parts (f.to.table == e.to.table) (has_number (tos fs) e.to.table) h in
          (ap (λ b. cond b (Some e) (find (λ d. d.to.table == f.to.table) es)) (differs_turned f.to.table e.to.table both.0) ∙ k.0, later fs both.1 k.1)

  module _ (q : StarQuery) (tree : IsTreeFrom defs q.root q.tables q.edges) where
    pub own_joins : Each (λ e. join_into q e.to.table ≡ Some e) q.edges
    own_joins = found_own q.edges (distinct_tos (q.root ∷ []) q.edges tree.1)

    pub no_join : join_into q q.root ≡ None
    no_join = find_none q.root q.edges (not_again (q.root ∷ []) q.edges q.root tree.1 (has_itself q.root []))

    pub distinct_tables : Distinct q.tables
    distinct_tables = subst Distinct (sym tree.0) (not_again (q.root ∷ []) q.edges q.root tree.1 (has_itself q.root []), distinct_tos (q.root ∷ []) q.edges tree.1)

    -- **the joins hold where the join into each table does**
    pub joins_are : (f : ColRef → Value) → list_all (edge_true f) q.edges ≡ list_all (into q f) q.tables
    joins_are f = each q.edges own_joins ∙ ap (λ o. option_case o true (edge_true f) && list_all (into q f) (tos q.edges)) (sym no_join) ∙ ap (list_all (into q f)) (sym tree.0)
      where
        each : (es : List Edge) → Each (λ e. join_into q e.to.table ≡ Some e) es → list_all (edge_true f) es ≡ list_all (into q f) (tos es)
        each [] h = refl
        each (e ∷ es) h = λ i. option_case (sym h.0 i) true (edge_true f) && each es h.1 i
