-- What a plan gives from the entries of an aggregate view over the view's own tuples, joined back or not.
use Rattle.std.proofs.Common.{◌≡◌, ◌∙◌, ap, refl, Bool, true, false, cond, List, [], ◌∷◌, ◌++◌, map}
use Rattle.std.specs.Prelude.{◌&&◌}
use Rattle.std.proofs.lemmas.List.{append-nil}
use Rattle.std.specs.List.{filter, flat_map, list_all}
use Rattle.std.proofs.lemmas.Simd.{map-map}
use Rattle.wh_base.specs.Lists.{is_empty, sorted_by}
use Rattle.wh_base.proofs.Sorting.{SameCounts, sorted_counts}
use Rattle.wh_base.specs.declared.values.Value.{Value}
use Rattle.wh_base.specs.declared.columns.ColRef.{ColRef}
use Rattle.wh_base.specs.declared.queries.Condition.{Condition}
use Rattle.wh_base.specs.declared.queries.Condition.TheVariants.{Compare, IsNull, NotNull, OneOf}
use Rattle.wh_base.specs.declared.queries.StarQuery.{StarQuery}
use Rattle.wh_base.specs.declared.tables.TableDef.{TableDef}
use Rattle.def_meaning.specs.Accumulated.{query_aggs}
use Rattle.def_meaning.specs.Joined.{condition_true, conditions_true}
use Rattle.def_meaning.specs.Meaning.{Grouped, entries, entry_cmp, group_entry, group_item, grouped_entries, groups, key_of, plain_item, test_true}
use Rattle.def_restrictions.specs.Definition.{condition_column}
use Rattle.def_rewriting.specs.Compatible.{linked, own_conditions}
use Rattle.def_rewriting.specs.PlanRows.{plan_groups}
use Rattle.def_rewriting.specs.Rollup.{origin}
use Rattle.law_lists.proofs.Lists.{filter_true}
use Rattle.law_lists.proofs.Counts.{SameCounts-is, SameCounts-map, SameCounts-trans}
use Rattle.law_lists.proofs.Each.{Each-filter, Each-map}
use Rattle.law_lists.proofs.Groups.{Agree, Stands, Stands-filter, groups_members}
use Rattle.law_rewrite.specs.Words.{Each}
use Rattle.law_rewrite.proofs.Answering.{Full, Reads, ServedAll, Sourced, plan_answers}

-- ---- the groups of a list

pub members_of_groups : {T : Type 0} (value : T → ColRef → Value) (keys : List ColRef) (ts : List T) → SameCounts (flat_map (λ g. g.1) (groups value keys ts)) ts
members_of_groups value [] ts = SameCounts-is (ts ++ []) ts (append-nil ts)
members_of_groups value (c ∷ cs) ts = groups_members (key_of value (c ∷ cs)) ts

-- ---- conditions read columns

pub condition_reads : (f g : ColRef → Value) (c : Condition) → f (condition_column c) ≡ g (condition_column c) → condition_true f c ≡ condition_true g c
condition_reads f g (Compare c op v) e = ap (λ x. condition_true (λ _. x) (Compare c op v)) e
condition_reads f g (OneOf c vs) e = ap (λ x. condition_true (λ _. x) (OneOf c vs)) e
condition_reads f g (IsNull c) e = ap (λ x. condition_true (λ _. x) (IsNull c)) e
condition_reads f g (NotNull c) e = ap (λ x. condition_true (λ _. x) (NotNull c)) e

pub conditions_read : (f g : ColRef → Value) (cs : List Condition) → Each (λ c. f c ≡ g c) (map condition_column cs) → conditions_true f cs ≡ conditions_true g cs
conditions_read f g [] h = refl
conditions_read f g (c ∷ cs) h = λ i. condition_reads f g c h.0 i && conditions_read f g cs h.1 i

module _ {T : Type 0} (value : T → ColRef → Value) (v : StarQuery) where
  -- the row of a view's group
  abbrev pub group_row : Grouped T → List Value
  group_row g = map (group_item value v.keys g) v.items

  -- a view without HAVING has a row for each group
  view_rows_are : (ts : List T) → v.grouped ≡ true → v.having ≡ [] → map (λ e. e.row) (entries value v ts) ≡ map group_row (groups value v.keys ts)
  view_rows_are ts grouped plain =
      ap (λ b. map (λ e. e.row) (cond b (grouped_entries value v ts) (map (λ t. record { key = []; row = map (plain_item (value t)) v.items }) ts))) grouped
      ∙ ap (λ tests. map (λ e. e.row) (map (group_entry value v) (filter (λ g. list_all (test_true value g) tests) (groups value v.keys ts)))) plain
      ∙ ap (λ gs. map (λ e. e.row) (map (group_entry value v) gs)) (filter_true (groups value v.keys ts))
      ∙ map-map (λ e. e.row) (group_entry value v) (groups value v.keys ts)

  -- the rows of the entries, in their order, stand for the groups
  pub view_stands : (ts : List T) → v.grouped ≡ true → v.having ≡ []
      → Stands group_row (groups value v.keys ts) (map (λ e. e.row) (sorted_by entry_cmp (entries value v ts))) ts
  view_stands ts grouped plain = record {
    rows_are = SameCounts-trans (map (λ e. e.row) (sorted_by entry_cmp (entries value v ts))) (map (λ e. e.row) (entries value v ts)) (map group_row (groups value v.keys ts))
        (SameCounts-map (λ e. e.row) (sorted_by entry_cmp (entries value v ts)) (entries value v ts) (sorted_counts entry_cmp (entries value v ts)))
        (SameCounts-is (map (λ e. e.row) (entries value v ts)) (map group_row (groups value v.keys ts)) (view_rows_are ts grouped plain));
    tuples_are = members_of_groups value v.keys ts;
  }

  module _ (row : Grouped T → List Value) (defs : List TableDef) (q : StarQuery) (value' : List Value → ColRef → Value) where
    abbrev pub own_true : T → Bool
    own_true t = conditions_true (value t) (own_conditions q v)

    abbrev pub own_true' : List Value → Bool
    own_true' r = conditions_true (value' r) (own_conditions q v)

    own_agree : (gs : List (Grouped T)) → Reads value row value' (map condition_column (own_conditions q v)) gs → Each (Agree row own_true own_true') gs
    own_agree gs h =
        Each-map (λ g. Each (λ t. Each (λ c. value t c ≡ value' (row g) c) (map condition_column (own_conditions q v))) g.1) (Agree row own_true own_true')
        (λ g. Each-map (λ t. Each (λ c. value t c ≡ value' (row g) c) (map condition_column (own_conditions q v))) (λ t. own_true t ≡ own_true' (row g))
        (λ t. conditions_read (value t) (value' (row g)) (own_conditions q v)) g.1) gs h

    still_full : (keys : List ColRef) (p : Grouped T → Bool) (gs : List (Grouped T)) → Full keys gs → Full keys (filter p gs)
    still_full [] p gs h = tt
    still_full (c ∷ cs) p gs h = Each-filter (λ g. is_empty g.1 ≡ false) p gs h

    -- the rows that the plan's groups are made of are those of the query's tuples, over any rows that stand for groups
    pub rows_answer : (gs : List (Grouped T)) (rows : List (List Value)) (ts : List T) → v.grouped ≡ true
        → Each (λ a. Sourced value row value' defs q v (origin defs (linked q v) v a) a) (query_aggs q)
        → Each (ServedAll value row value' defs q v) gs → Full q.keys gs
        → Reads value row value' q.keys gs → Reads value row value' (map condition_column (own_conditions q v)) gs
        → Stands row gs rows ts
        → SameCounts (plan_groups defs q v value' (filter own_true' rows)) (map (λ e. e.row) (grouped_entries value q (filter own_true ts)))
    rows_answer gs rows ts grouped sourced served full keys conditions s =
        plan_answers value row value' defs q v grouped (filter (λ g. own_true' (row g)) gs) (filter own_true' rows) (filter own_true ts)
        sourced (Each-filter (ServedAll value row value' defs q v) (λ g. own_true' (row g)) gs served)
        (still_full q.keys (λ g. own_true' (row g)) gs full)
        (Each-filter (λ g. Each (λ t. Each (λ c. value t c ≡ value' (row g) c) q.keys) g.1) (λ g. own_true' (row g)) gs keys)
        (Stands-filter row own_true own_true' gs rows ts (own_agree gs conditions) s)
