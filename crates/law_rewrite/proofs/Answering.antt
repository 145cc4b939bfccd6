-- A plan's groups over rows that stand for groups are the query's groups over the tuples.
use Rattle.std.proofs.Common.{◌≡◌, ◌∙◌, sym, ap, refl, Bool, true, false, cond, List, [], ◌∷◌, ◌++◌, map, Option, Some, None}
use Rattle.std.specs.Prelude.{◌&&◌}
use Rattle.std.specs.List.{filter, flat_map, list_all}
use Rattle.std.proofs.lemmas.Simd.{map-map}
use Rattle.wh_base.specs.Lists.{distinct, is_empty, option_case}
use Rattle.wh_base.specs.Values.{is_true_that, same_values}
use Rattle.wh_base.proofs.Sorting.{SameCounts, times}
use Rattle.wh_base.specs.declared.values.Value.{Value}
use Rattle.wh_base.specs.declared.values.Value.TheVariants.{Null}
use Rattle.wh_base.specs.declared.columns.Agg.{Agg}
use Rattle.wh_base.specs.declared.columns.ColRef.{ColRef}
use Rattle.wh_base.specs.declared.queries.Item.{Item}
use Rattle.wh_base.specs.declared.queries.Item.TheVariants as item
use Rattle.wh_base.specs.declared.queries.StarQuery.{StarQuery}
use Rattle.wh_base.specs.declared.tables.TableDef.{TableDef}
use Rattle.def_meaning.specs.Accumulated.{item_aggs, query_aggs, selected_aggs}
use Rattle.def_meaning.specs.Meaning.{Grouped, agg_value, group_entry, group_item, grouped_entries, groups, key_of, test_true}
use Rattle.def_rewriting.specs.Compatible.{linked}
use Rattle.def_rewriting.specs.PlanRows.{plan_agg, plan_groups, plan_item, plan_test}
use Rattle.def_rewriting.specs.Rollup.{Origin, origin, rolled}
use Rattle.law_lists.proofs.Each.{Each-of_mapped, map_alike, Each-filter, Each-map, Each-turn}
use Rattle.law_lists.proofs.Counts.{SameCounts-is}
use Rattle.law_lists.proofs.Groups.{Agree, Stands, Stands-keys, Stands-part, same_made}
use Rattle.law_lists.proofs.Aggregates.{wanted_values}
use Rattle.law_rewrite.specs.Words.{Each}
use Rattle.law_rewrite.proofs.Rolling.{Serves, Suits, rolled_is}

-- no group is empty, where there are group columns
abbrev pub Full : {T : Type 0} → List ColRef → List (Grouped T) → Type 0
Full [] gs = Unit {0}
Full (c ∷ cs) gs = Each (λ g. is_empty g.1 ≡ false) gs

pub all_alike : {A : Type 0} (p q : A → Bool) (xs : List A) → Each (λ x. p x ≡ q x) xs → list_all p xs ≡ list_all q xs
all_alike p q [] h = refl
all_alike p q (x ∷ xs) h = λ i. h.0 i && all_alike p q xs h.1 i

-- the group of a key
abbrev pub made : {X : Type 0} → (X → ColRef → Value) → List ColRef → List X → List Value → Grouped X
made value keys xs k = (k, filter (λ x. same_values (key_of value keys x) k) xs)

-- ---- each element of lists made of lists

pub Each-split : {A : Type 0} (P : A → Type 0) (xs ys : List A) → Each P (xs ++ ys) → Each P xs × Each P ys
Each-split P [] ys h = (tt, h)
Each-split P (x ∷ xs) ys h = let k : Each P xs × Each P ys = Each-split P xs ys h.1 in ((h.0, k.0), k.1)

pub Each-parts : {A B : Type 0} (P : B → Type 0) (f : A → List B) (xs : List A) → Each P (flat_map f xs) → Each (λ x. Each P (f x)) xs
Each-parts P f [] h = tt
Each-parts P f (x ∷ xs) h = let k : Each P (f x) × Each P (flat_map f xs) = Each-split P (f x) (flat_map f xs) h in (k.0, Each-parts P f xs k.1)

module _ {T : Type 0} (value : T → ColRef → Value) (row : Grouped T → List Value) (value' : List Value → ColRef → Value) where
  -- the rows have these columns of the tuples
  abbrev pub Reads : List ColRef → List (Grouped T) → Type 0
  Reads columns gs = Each (λ g. Each (λ t. Each (λ c. value t c ≡ value' (row g) c) columns) g.1) gs

  abbrev pub part : List ColRef → List (Grouped T) → List Value → List (Grouped T)
  part keys gs k = filter (λ g. same_values (key_of value' keys (row g)) k) gs

  pub keys_agree : (columns : List ColRef) (gs : List (Grouped T)) → Reads columns gs → Each (Agree row (key_of value columns) (key_of value' columns)) gs
  keys_agree columns gs h =
      Each-map (λ g. Each (λ t. Each (λ c. value t c ≡ value' (row g) c) columns) g.1) (Agree row (key_of value columns) (key_of value' columns))
      (λ g. Each-map (λ t. Each (λ c. value t c ≡ value' (row g) c) columns) (λ t. key_of value columns t ≡ key_of value' columns (row g))
      (λ t k. map_alike (value t) (value' (row g)) columns k) g.1) gs h

  -- what is made of each group on both sides, where it is the same whatever stands for the group
  pub groups_answer : {C : Type 0} (Good : Grouped T → Type 0) (passes : Grouped (List Value) → Bool) (passes' : Grouped T → Bool) (out : Grouped (List Value) → C) (out' : Grouped T → C)
      → ((k : List Value) (gs : List (Grouped T)) (rows : List (List Value)) (ts : List T) → Each Good gs → Stands row gs rows ts → passes (k, rows) ≡ passes' (k, ts))
      → ((k : List Value) (gs : List (Grouped T)) (rows : List (List Value)) (ts : List T) → Each Good gs → Stands row gs rows ts → out (k, rows) ≡ out' (k, ts))
      → (keys : List ColRef) (gs : List (Grouped T)) (rows : List (List Value)) (ts : List T) → Each Good gs → Full keys gs → Reads keys gs → Stands row gs rows ts
      → SameCounts (map out (filter passes (groups value' keys rows))) (map out' (filter passes' (groups value keys ts)))
  groups_answer Good passes passes' out out' same_pass same_out [] gs rows ts good full reads s =
      SameCounts-is (map out (filter passes (([], rows) ∷ []))) (map out' (filter passes' (([], ts) ∷ [])))
      ((λ i. map out (cond (same_pass [] gs rows ts good s i) (([], rows) ∷ []) [])) ∙ by (passes' ([], ts)))
    where
      by : (b : Bool) → map out (cond b (([], rows) ∷ []) []) ≡ map out' (cond b (([], ts) ∷ []) [])
      by true = λ i. same_out [] gs rows ts good s i ∷ []
      by false = refl
  groups_answer {C} Good passes passes' out out' same_pass same_out (c ∷ cs) gs rows ts good full reads s =
      same_made (made value' (c ∷ cs) rows) (made value (c ∷ cs) ts) passes passes' out out'
      (λ k. same_pass k (part (c ∷ cs) gs k) (made value' (c ∷ cs) rows k).1 (made value (c ∷ cs) ts k).1 (still_good k) (part_stands k))
      (λ k. same_out k (part (c ∷ cs) gs k) (made value' (c ∷ cs) rows k).1 (made value (c ∷ cs) ts k).1 (still_good k) (part_stands k))
      (distinct same_values (map (key_of value' (c ∷ cs)) rows)) (distinct same_values (map (key_of value (c ∷ cs)) ts))
      (Stands-keys row (key_of value (c ∷ cs)) (key_of value' (c ∷ cs)) gs rows ts full (keys_agree (c ∷ cs) gs reads) s)
    where
      still_good : (k : List Value) → Each Good (part (c ∷ cs) gs k)
      still_good k = Each-filter Good (λ g. same_values (key_of value' (c ∷ cs) (row g)) k) gs good

      part_stands : (k : List Value) → Stands row (part (c ∷ cs) gs k) (made value' (c ∷ cs) rows k).1 (made value (c ∷ cs) ts k).1
      part_stands k = Stands-part row (key_of value (c ∷ cs)) (key_of value' (c ∷ cs)) k gs rows ts (keys_agree (c ∷ cs) gs reads) s

  module _ (defs : List TableDef) (q v : StarQuery) where
    -- an aggregate has an origin of its kind
    abbrev pub Sourced : Option Origin → Agg → Type 0
    Sourced None a = ⊥
    Sourced (Some o) a = Suits value a o

    -- a group's row has what the aggregate needs
    abbrev pub Served : Option Origin → Agg → Grouped T → Type 0
    Served None a g = ⊥
    Served (Some o) a g = Serves o (row g) (wanted_values value a g.1)

    pub agg_by : (grouped : v.grouped ≡ true) (a : Agg) (gs : List (Grouped T)) (rows : List (List Value)) (ts : List T) → Stands row gs rows ts
        → (found : Option Origin) → origin defs (linked q v) v a ≡ found → Sourced found a → Each (Served found a) gs
        → plan_agg defs q v value' rows a ≡ agg_value value ts a
    agg_by grouped a gs rows ts s None e sourced served = absurd sourced
    agg_by grouped a gs rows ts s (Some o) e sourced served =
        ap (λ b. cond b (option_case (origin defs (linked q v) v a) Null (rolled rows)) (agg_value value' rows a)) grouped
        ∙ ap (λ x. option_case x Null (rolled rows)) e
        ∙ rolled_is value row a o gs rows ts sourced served s

    pub aggs_by : (grouped : v.grouped ≡ true) (gs : List (Grouped T)) (rows : List (List Value)) (ts : List T) → Stands row gs rows ts
        → (xs : List Agg) → Each (λ a. Sourced (origin defs (linked q v) v a) a) xs → Each (λ a. Each (Served (origin defs (linked q v) v a) a) gs) xs
        → Each (λ a. plan_agg defs q v value' rows a ≡ agg_value value ts a) xs
    aggs_by grouped gs rows ts s [] sourced served = tt
    aggs_by grouped gs rows ts s (a ∷ more) sourced served =
        (agg_by grouped a gs rows ts s (origin defs (linked q v) v a) refl sourced.0 served.0, aggs_by grouped gs rows ts s more sourced.1 served.1)

    item_by : (rows : List (List Value)) (ts : List T) (k : List Value) (i : Item) → Each (λ a. plan_agg defs q v value' rows a ≡ agg_value value ts a) (item_aggs i)
        → plan_item defs q v value' (k, rows) i ≡ group_item value q.keys (k, ts) i
    item_by rows ts k (item.Col c) h = refl
    item_by rows ts k (item.Agg a) h = h.0

    -- all aggregates of a group's row
    abbrev pub ServedAll : Grouped T → Type 0
    ServedAll g = Each (λ a. Served (origin defs (linked q v) v a) a g) (query_aggs q)

    -- **the groups of the plan are those of the query**
    pub plan_answers : (grouped : v.grouped ≡ true) (gs : List (Grouped T)) (rows : List (List Value)) (ts : List T)
        → Each (λ a. Sourced (origin defs (linked q v) v a) a) (query_aggs q) → Each ServedAll gs → Full q.keys gs → Reads q.keys gs → Stands row gs rows ts
        → SameCounts (plan_groups defs q v value' rows) (map (λ e. e.row) (grouped_entries value q ts))
    plan_answers grouped gs rows ts sourced served full reads s p =
        groups_answer ServedAll (λ g. list_all (plan_test defs q v value' g) q.having) (λ g. list_all (test_true value g) q.having)
        (λ g. map (plan_item defs q v value' g) q.items) (λ g. map (group_item value q.keys g) q.items)
        same_tests same_items q.keys gs rows ts served full reads s p
        ∙ ap (times p) (sym (map-map (λ e. e.row) (group_entry value q) (filter (λ g. list_all (test_true value g) q.having) (groups value q.keys ts))))
      where
        aggs : (gs : List (Grouped T)) (rows : List (List Value)) (ts : List T) → Each ServedAll gs → Stands row gs rows ts
            → Each (λ a. plan_agg defs q v value' rows a ≡ agg_value value ts a) (query_aggs q)
        aggs gs rows ts served s =
            aggs_by grouped gs rows ts s (query_aggs q) sourced (Each-turn (λ g a. Served (origin defs (linked q v) v a) a g) gs (query_aggs q) served)

        same_tests : (k : List Value) (gs : List (Grouped T)) (rows : List (List Value)) (ts : List T) → Each ServedAll gs → Stands row gs rows ts
            → list_all (plan_test defs q v value' (k, rows)) q.having ≡ list_all (test_true value (k, ts)) q.having
        same_tests k gs rows ts served s =
            all_alike (plan_test defs q v value' (k, rows)) (test_true value (k, ts)) q.having
            (Each-map (λ t. plan_agg defs q v value' rows t.agg ≡ agg_value value ts t.agg) (λ t. plan_test defs q v value' (k, rows) t ≡ test_true value (k, ts) t)
            (λ t e. ap (λ x. is_true_that x t.op t.value) e) q.having
            (Each-of_mapped (λ a. plan_agg defs q v value' rows a ≡ agg_value value ts a) (λ t. t.agg) q.having
            (Each-split (λ a. plan_agg defs q v value' rows a ≡ agg_value value ts a) (selected_aggs q) (map (λ t. t.agg) q.having) (aggs gs rows ts served s)).1))

        same_items : (k : List Value) (gs : List (Grouped T)) (rows : List (List Value)) (ts : List T) → Each ServedAll gs → Stands row gs rows ts
            → map (plan_item defs q v value' (k, rows)) q.items ≡ map (group_item value q.keys (k, ts)) q.items
        same_items k gs rows ts served s =
            map_alike (plan_item defs q v value' (k, rows)) (group_item value q.keys (k, ts)) q.items
            (Each-map (λ i. Each (λ a. plan_agg defs q v value' rows a ≡ agg_value value ts a) (item_aggs i)) (λ i. plan_item defs q v value' (k, rows) i ≡ group_item value q.keys (k, ts) i)
            (item_by rows ts k) q.items
            (Each-parts (λ a. plan_agg defs q v value' rows a ≡ agg_value value ts a) item_aggs q.items
            (Each-split (λ a. plan_agg defs q v value' rows a ≡ agg_value value ts a) (selected_aggs q) (map (λ t. t.agg) q.having) (aggs gs rows ts served s)).0))
