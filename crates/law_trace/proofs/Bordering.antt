-- The partitions of every table: their numbers differ, none is above how many were made, and their bounds ascend.
use Rattle.std.proofs.Common.{◌≡◌, ◌∙◌, sym, ap, refl, subst, arith, ℕ, suc, ◌+◌, ◌<◌, ◌≤◌, Bool, true, false, true≢false, cond, not, List, [], ◌∷◌, ◌++◌, length, map, Option, None, Some, ◌==◌}
use Rattle.std.specs.List.{filter, list_any}
use Rattle.std.specs.Ordering.{is_lt}
use Rattle.std.specs.Prelude.{is_some, nat_le, nat_lt, option_and_then}
use Rattle.std.proofs.lemmas.List.{append-nil, append_assoc, map-append}
use Rattle.wh_base.specs.Lists.{first_of, first_some, has_text, last, option_case, same_text, where_true}
use Rattle.wh_base.specs.Tables.{Table, column_name}
use Rattle.wh_base.specs.Values.{literal_value, value_cmp}
use Rattle.wh_base.specs.declared.replies.Refusal.{Refusal}
use Rattle.wh_base.specs.declared.replies.Counted.TheVariants.{Columns, Partitions, Tables}
use Rattle.wh_base.specs.declared.replies.Refusal.TheVariants.{NameTaken, NoSuchColumn, PartitionBound, TooManyObjects, ValueDoesNotFit}
use Rattle.wh_base.specs.declared.statements.Event.{Event}
use Rattle.wh_base.specs.declared.statements.NewTable.{NewTable}
use Rattle.wh_base.specs.declared.statements.Partitioning.{Partitioning}
use Rattle.wh_base.specs.declared.tables.Kind.{Kind}
use Rattle.wh_base.specs.declared.tables.TableDef.{TableDef}
use Rattle.def_history.specs.Catalog.{base_now}
use Rattle.def_resolve.specs.Earlier.{first_after, first_in_turn}
use Rattle.law_trace.specs.Reached.{catalog_of}
use Rattle.wh_base.specs.declared.statements.NewRange.{NewRange}
use Rattle.wh_base.specs.declared.tables.Part.{Part}
use Rattle.wh_base.specs.declared.values.Interval.{Interval}
use Rattle.wh_base.specs.declared.values.Value.{Value}
use Rattle.def_effect.specs.Define.{bound_fits, bound_refusal, define_refusal, foreign_refusal, is_above, is_above_last, is_no_column, kind_of_new, max_columns, max_objects, max_parts, new_bound, new_column_refusal, new_columns, new_foreign, new_key_refusal, new_keys, new_range_refusal, new_ranges, numbered_parts, partitioning_refusal}
use Rattle.def_effect.specs.Partitions.{add_refusal, added, added_part, bounds_of, dropped, is_inside, key_kind, lower_half, merged_part, part_named, regrouped, replaced, upper_half}
use Rattle.law_trace.proofs.Basing.{KeepsTable, Merges, Regroups, Splits, each_table, merge_met, none_first, none_rest, none_where, split_met}
use Rattle.law_trace.proofs.Regrouping.{Pair, Spans, less_on, lower_bound, merge_spans, pair_at, split_place, split_spans, top_of, upper_bound}
use Rattle.law_trace.proofs.Listed.{Each, Pairs, below_differs, each_append, each_filter, each_left, each_right, each_two, each_weaker, eq_false, pairs_across, pairs_append, pairs_filter, pairs_left, pairs_push, pairs_right}

abbrev pub IsOther : Part → Part → Type 0
IsOther p q = (p.number == q.number) ≡ false

abbrev pub AreNumbered : Table → Type 0
AreNumbered t = Pairs IsOther t.parts × Each (λ p. p.number ≤ t.made) t.parts

-- ---- bounds

-- the bound is above the lower one, where there is one
abbrev pub is_over_bound : Option Value → Option Value → Bool
is_over_bound None hi = true
is_over_bound (Some lo) hi = is_above (Some lo) hi

-- each bound is above the one before it, and nothing is behind MAXVALUE
abbrev pub Ascend : Option Value → List Part → Type 0
Ascend lo [] = Unit {0}
Ascend lo (p ∷ ps) = (is_over_bound lo p.below ≡ true) × ((p.below ≡ None → ps ≡ []) × Ascend p.below ps)

above_on : (lo : Option Value) (v : Value) (hi : Option Value) → is_over_bound lo (Some v) ≡ true → is_above (Some v) hi ≡ true → is_over_bound lo hi ≡ true
above_on None v hi h k = refl
above_on (Some u) v None h k = refl
above_on (Some u) v (Some w) h k = less_on u v w h k

-- a key below a bound is below a higher one
pub below_higher : (key : Value) (b c : Option Value) → is_above b c ≡ true → option_case b true (λ hi. is_lt (value_cmp key hi)) ≡ true → option_case c true (λ hi. is_lt (value_cmp key hi)) ≡ true
below_higher key None c h k = absurd (true≢false (sym h))
below_higher key (Some v) None h k = refl
below_higher key (Some v) (Some w) h k = less_on key v w k h

lower_ascend : (lo b : Option Value) (ps : List Part) → is_over_bound lo b ≡ true → (b ≡ None → ps ≡ []) → Ascend b ps → Ascend lo ps
lower_ascend lo b [] over none h = tt
lower_ascend lo None (p ∷ ps) over none h = absurd (some_item p ps (none refl))
  where
    some_item : (p : Part) (ps : List Part) → p ∷ ps ≡ [] → ⊥
    some_item p ps e = cc
lower_ascend lo (Some v) (p ∷ ps) over none h = (above_on lo v p.below over h.0, h.1)

pub fewer_ascend : (keep : Part → Bool) (lo : Option Value) (ps : List Part) → Ascend lo ps → Ascend lo (filter keep ps)
fewer_ascend keep lo [] h = tt
fewer_ascend keep lo (p ∷ ps) h = by (keep p) (fewer_ascend keep p.below ps h.1.1)
  where
    none : p.below ≡ None → filter keep ps ≡ []
    none e = ap (filter keep) (h.1.0 e)

    by : (b : Bool) → Ascend p.below (filter keep ps) → Ascend lo (cond b (p ∷ filter keep ps) (filter keep ps))
    by true rest = (h.0, (none, rest))
    by false rest = lower_ascend lo p.below (filter keep ps) h.0 none rest

push_ascend : (lo : Option Value) (ps : List Part) (p : Part) → Ascend lo ps → is_over_bound (top_of lo ps) p.below ≡ true → (top_of lo ps ≡ None → ps ≡ []) → Ascend lo (ps ++ p ∷ [])
push_ascend lo [] p h over some = (over, ((λ e. refl), tt))
push_ascend lo (q ∷ ps) p h over some =
    (h.0, ((λ e. absurd (no_top (h.1.0 e) e)), push_ascend q.below ps p h.1.1 over (λ e. absurd (some_item q ps (some e)))))
  where
    some_item : (q : Part) (ps : List Part) → q ∷ ps ≡ [] → ⊥
    some_item q ps e = cc

    no_top : ps ≡ [] → q.below ≡ None → ⊥
    no_top none e = some_item q ps (some (ap (top_of q.below) none ∙ e))

last_top : (lo : Option Value) (p : Part) (ps : List Part) → last (map (λ (q : Part). q.below) (p ∷ ps)) ≡ Some (top_of lo (p ∷ ps))
last_top lo p [] = refl
last_top lo p (q ∷ ps) = last_top p.below q ps

-- a bound above the last one
above_top : (ps : List Part) (p : Part) → Ascend None ps → is_above_last (map (λ (q : Part). q.below) ps) p.below ≡ true → Ascend None (ps ++ p ∷ [])
above_top [] p h over = (refl, ((λ e. refl), tt))
above_top (q ∷ ps) p h over = by (top_of q.below ps) refl (sym (ap (λ o. option_case o true (λ b. is_above b p.below)) (last_top None q ps)) ∙ over)
  where
    by : (o : Option Value) → top_of q.below ps ≡ o → is_above o p.below ≡ true → Ascend None ((q ∷ ps) ++ p ∷ [])
    by None is e = absurd (true≢false (sym e))
    by (Some v) is e =
        push_ascend None (q ∷ ps) p h (ap (λ o. is_over_bound o p.below) is ∙ e) (λ none. absurd (not_none v (sym is ∙ none)))
      where
        not_none : (v : Value) → Some v ≡ None → ⊥
        not_none v e = cc

abbrev pub PartsRight : Table → Type 0
PartsRight t = AreNumbered t × Ascend None t.parts

-- ---- a new table

numbered_from : (n : ℕ) (rs : List NewRange) → Each (λ p. (n ≤ p.number) × (p.number < n + length rs)) (numbered_parts n rs)
numbered_from n [] = tt
numbered_from n (r ∷ rs) = (
  (omega arith, omega arith),
  each_weaker (λ p. (suc n ≤ p.number) × (p.number < suc n + length rs)) (λ p. (n ≤ p.number) × (p.number < n + length (r ∷ rs))) (λ p h. (omega (arith, h.0), omega (arith, h.1)))
      (numbered_parts (suc n) rs) (numbered_from (suc n) rs),
)

numbered_other : (n : ℕ) (rs : List NewRange) → Pairs IsOther (numbered_parts n rs)
numbered_other n [] = tt
numbered_other n (r ∷ rs) = (
  each_weaker (λ p. (suc n ≤ p.number) × (p.number < suc n + length rs)) (λ p. (n == p.number) ≡ false) (λ p h. below_differs n p.number (omega (arith, h.0))) (numbered_parts (suc n) rs) (numbered_from (suc n) rs),
  numbered_other (suc n) rs,
)

ranges_ascend : (table column : List ℕ) (k : Kind) (earlier : List NewRange) (ps : List Part) (n : ℕ) (rs : List NewRange) → map (λ (p : Part). p.below) ps ≡ map new_bound earlier → Ascend None ps
    → first_after (new_range_refusal table column k) earlier rs ≡ None → Ascend None (ps ++ numbered_parts n rs)
ranges_ascend table column k earlier ps n [] same h none = subst (Ascend None) (sym (append-nil ps)) h
ranges_ascend table column k earlier ps n (r ∷ rs) same h none =
    let p : Part = record { name = r.name; number = n; below = new_bound r } in
    let later : List (Option Refusal) = first_after (new_range_refusal table column k) (earlier ++ r ∷ []) rs ∷ [] in
    let named : Option Refusal = where_true (list_any (λ (e : NewRange). same_text e.name r.name) earlier) (NameTaken r.name) in
    let bound : Option Refusal = bound_refusal table column k (map new_bound earlier) r in
    let own : new_range_refusal table column k earlier r ≡ None = none_first (new_range_refusal table column k earlier r) later none in
    let bounded : bound ≡ None = none_first bound [] (none_rest named (bound ∷ []) own) in
    let fits : Option Refusal = where_true (not (bound_fits k (new_bound r))) (ValueDoesNotFit table column) in
    let over : Option Refusal = where_true (not (is_above_last (map new_bound earlier) (new_bound r))) (PartitionBound table r.name) in
    let above : is_above_last (map new_bound earlier) (new_bound r) ≡ true =
    not_not (is_above_last (map new_bound earlier) (new_bound r))
    (none_where (not (is_above_last (map new_bound earlier) (new_bound r))) (PartitionBound table r.name) (none_first over [] (none_rest fits (over ∷ []) bounded))) in
    let more : Ascend None (ps ++ p ∷ []) = above_top ps p h (ap (λ bs. is_above_last bs (new_bound r)) same ∙ above) in
    let bounds : map (λ (p : Part). p.below) (ps ++ p ∷ []) ≡ map new_bound (earlier ++ r ∷ []) =
    map-append (λ (p : Part). p.below) ps (p ∷ []) ∙ ap (λ bs. bs ++ new_bound r ∷ []) same ∙ sym (map-append new_bound earlier (r ∷ [])) in
    subst (Ascend None) (append_assoc ps (p ∷ []) (numbered_parts (suc n) rs))
    (ranges_ascend table column k (earlier ++ r ∷ []) (ps ++ p ∷ []) (suc n) rs bounds more
    (none_first (first_after (new_range_refusal table column k) (earlier ++ r ∷ []) rs) [] (none_rest (new_range_refusal table column k earlier r) later none)))
  where
    not_not : (b : Bool) → not b ≡ false → b ≡ true
    not_not true e = refl
    not_not false e = absurd (true≢false e)

-- the last of many refusals
eighth : {A : Type 0} (a b c d e f g h : Option A) → first_some (a ∷ b ∷ c ∷ d ∷ e ∷ f ∷ g ∷ h ∷ []) ≡ None → h ≡ None
eighth a b c d e f g h none =
    none_first h []
    (none_rest g (h ∷ []) (none_rest f (g ∷ h ∷ []) (none_rest e (f ∷ g ∷ h ∷ []) (none_rest d (e ∷ f ∷ g ∷ h ∷ []) (none_rest c (d ∷ e ∷ f ∷ g ∷ h ∷ [])
    (none_rest b (c ∷ d ∷ e ∷ f ∷ g ∷ h ∷ []) (none_rest a (b ∷ c ∷ d ∷ e ∷ f ∷ g ∷ h ∷ []) none)))))))

new_ascend : (taken : List (List ℕ)) (defs : List TableDef) (t : NewTable) → define_refusal taken defs t ≡ None → Ascend None (numbered_parts 1 (new_ranges t))
new_ascend taken defs t none = by t.partitioning (eighth (where_true (has_text taken t.name) (NameTaken t.name)) (where_true (nat_le max_objects (length defs)) (TooManyObjects Tables)) (where_true (nat_lt max_columns (length (new_columns t))) (TooManyObjects Columns)) (where_true (nat_lt max_parts (length (new_ranges t))) (TooManyObjects Partitions))
    (first_in_turn (new_column_refusal t.name) (new_columns t)) (first_in_turn (new_key_refusal (new_columns t)) (new_keys t)) (first_of (foreign_refusal defs t.name (new_columns t)) (new_foreign t)) (option_and_then (partitioning_refusal t.name (new_columns t)) t.partitioning) none)
  where
    by : (o : Option Partitioning) → option_and_then (partitioning_refusal t.name (new_columns t)) o ≡ None → Ascend None (numbered_parts 1 (option_case o [] (λ p. p.ranges)))
    by None e = tt
    by (Some p) e =
        let column : Option Refusal = where_true (is_no_column (new_columns t) p.column) (NoSuchColumn p.column) in
        let ranges : Option Refusal = first_in_turn (new_range_refusal t.name p.column (kind_of_new (new_columns t) p.column)) p.ranges in
        ranges_ascend t.name p.column (kind_of_new (new_columns t) p.column) [] [] 1 p.ranges refl tt (none_first ranges [] (none_rest column (ranges ∷ []) e))

-- ---- ADD

added_right : (t : Table) (r : NewRange) (key : ℕ) → add_refusal t r key ≡ None → PartsRight t → PartsRight (added t r).table
added_right t r key none h =
    let p : Part = added_part t r in
    let named : Option Refusal = where_true (is_some (part_named t r.name)) (NameTaken r.name) in
    let many : Option Refusal = where_true (nat_le max_parts (length t.parts)) (TooManyObjects Partitions) in
    let bound : Option Refusal = bound_refusal t.def.name (column_name t.def key) (key_kind t.def key) (bounds_of t) r in
    let fits : Option Refusal = where_true (not (bound_fits (key_kind t.def key) (new_bound r))) (ValueDoesNotFit t.def.name (column_name t.def key)) in
    let over : Option Refusal = where_true (not (is_above_last (bounds_of t) (new_bound r))) (PartitionBound t.def.name r.name) in
    let bounded : bound ≡ None = none_first bound [] (none_rest many (bound ∷ []) (none_rest named (many ∷ bound ∷ []) none)) in
    let above : is_above_last (bounds_of t) (new_bound r) ≡ true =
    not_not (is_above_last (bounds_of t) (new_bound r)) (none_where (not (is_above_last (bounds_of t) (new_bound r))) (PartitionBound t.def.name r.name) (none_first over [] (none_rest fits (over ∷ []) bounded))) in (
      (
        pairs_push IsOther t.parts p h.0.0 (each_weaker (λ q. q.number ≤ t.made) (λ q. IsOther q p) (λ q low. below_differs q.number (suc t.made) (omega (arith, low))) t.parts h.0.1),
        each_append (λ q. q.number ≤ suc t.made) t.parts (p ∷ []) (each_weaker (λ q. q.number ≤ t.made) (λ q. q.number ≤ suc t.made) (λ q low. omega (arith, low)) t.parts h.0.1) (omega arith, tt),
      ),
      above_top t.parts p h.1 above,
    )
  where
    not_not : (b : Bool) → not b ≡ false → b ≡ true
    not_not true e = refl
    not_not false e = absurd (true≢false e)

dropped_right : (t : Table) (p : Part × Interval) → PartsRight t → PartsRight (dropped t p).table
dropped_right t p h = (
  (pairs_filter IsOther (λ q. not (q.number == p.0.number)) t.parts h.0.0, each_filter (λ q. q.number ≤ t.made) (λ q. not (q.number == p.0.number)) t.parts h.0.1),
  fewer_ascend (λ q. not (q.number == p.0.number)) None t.parts h.1,
)

-- ---- SPLIT and MERGE

ascend_cut : (lo : Option Value) (front ps : List Part) → Ascend lo (front ++ ps) → Ascend (top_of lo front) ps
ascend_cut lo [] ps h = h
ascend_cut lo (q ∷ front) ps h = ascend_cut q.below front ps h.1.1

-- others behind the same
ascend_swap : (lo : Option Value) (front : List Part) (p q : Part) (ps qs : List Part) → Ascend lo (front ++ (p ∷ ps)) → Ascend (top_of lo front) (q ∷ qs) → Ascend lo (front ++ (q ∷ qs))
ascend_swap lo [] p q ps qs h k = k
ascend_swap lo (r ∷ front) p q ps qs h k = (h.0, ((λ none. absurd (some_items front p ps (h.1.0 none))), ascend_swap r.below front p q ps qs h.1.1 k))
  where
    some_items : (front : List Part) (p : Part) (ps : List Part) → front ++ (p ∷ ps) ≡ [] → ⊥
    some_items [] p ps e = cc
    some_items (r ∷ front) p ps e = cc

-- of two that adjoin the second has the higher bound
adjoined : (p q : Part) (back : List Part) (lo : Option Value) → Ascend lo (p ∷ q ∷ back) → is_above p.below q.below ≡ true
adjoined p q back lo h = by p.below refl h.1.1.0
  where
    by : (o : Option Value) → p.below ≡ o → is_over_bound o q.below ≡ true → is_above o q.below ≡ true
    by None is e = absurd (some_item q back (h.1.0 is))
      where
        some_item : (q : Part) (back : List Part) → q ∷ back ≡ [] → ⊥
        some_item q back e = cc
    by (Some v) is e = e

pub spans_of : (kept : ℕ) (t : Table) (before after : List (Part × Interval)) → Regroups kept t before after → PartsRight t → Spans t.parts before after
spans_of kept t before after (Splits s p key at named none b c) h =
    subst (λ bs. Spans t.parts bs after) (sym b) (subst (Spans t.parts (p ∷ [])) (sym c) (split_spans t s p named h.0.0 (split_met kept t s p key none).0))
spans_of kept t before after (Merges s p q one other none b c) h =
    let w : Pair t.parts p q = pair_at t s p q one other h.0.0 (merge_met kept t s p q none).0 in
    let above : is_above p.0.below q.0.below ≡ true = adjoined p.0 q.0 w.back (top_of None w.front) (ascend_cut None w.front (p.0 ∷ q.0 ∷ w.back) (subst (Ascend None) w.is h.1)) in
    subst (λ bs. Spans t.parts bs after) (sym b)
    (subst (Spans t.parts (p ∷ q ∷ [])) (sym c) (merge_spans t s p q w h.0.0 (λ key k. below_higher key p.0.below q.0.below above k)))

-- the numbers of the new partitions
record AreNew (t : Table) (after : List (Part × Interval)) : Type 0 where
  others : Pairs IsOther (map (λ p. p.0) after)
  numbers : Each (λ (p : Part). (t.made < p.number) × (p.number ≤ t.made + length after)) (map (λ p. p.0) after)

new_numbers : (kept : ℕ) (t : Table) (before after : List (Part × Interval)) → Regroups kept t before after → AreNew t after
new_numbers kept t before after (Splits s p key at named none b c) =
    subst (AreNew t) (sym c) (record { others = ((below_differs (suc t.made) (suc (suc t.made)) (omega arith), tt), (tt, tt)); numbers = ((omega arith, omega arith), ((omega arith, omega arith), tt)) })
new_numbers kept t before after (Merges s p q one other none b c) = subst (AreNew t) (sym c) (record { others = (tt, tt); numbers = ((omega arith, omega arith), tt) })

-- and their bounds
ascend_new : (kept : ℕ) (t : Table) (before after : List (Part × Interval)) → Regroups kept t before after → PartsRight t → Ascend None (replaced (map (λ p. p.0.number) before) (map (λ p. p.0) after) t.parts)
ascend_new kept t before after (Splits s p key at named none b c) h =
    let lower : Part = (lower_half t s p).0 in
    let upper : Part = (upper_half t s p).0 in
    let f = split_place t s p named in
    let all : Ascend None (f.front ++ (p.0 ∷ f.back)) = subst (Ascend None) f.is h.1 in
    let own : Ascend (top_of None f.front) (p.0 ∷ f.back) = ascend_cut None f.front (p.0 ∷ f.back) all in
    let inside : is_inside p.1 (literal_value s.at) ≡ true = (split_met kept t s p key none).0 in
    let low : is_over_bound (top_of None f.front) (Some (literal_value s.at)) ≡ true = over_lower (top_of None f.front) (literal_value s.at) (lower_bound p.1 (literal_value s.at) (top_of None f.front) (ap (λ (i : Interval). i.lo) f.interval) inside) in
    let high : is_above (Some (literal_value s.at)) p.0.below ≡ true = above_upper p.0.below (literal_value s.at) (upper_bound p.1 (literal_value s.at) p.0.below (ap (λ (i : Interval). i.hi) f.interval) inside) in
    let two : Ascend (top_of None f.front) (lower ∷ upper ∷ f.back) = (low, ((λ e. absurd (not_none (literal_value s.at) e)), (high, own.1))) in
    let replaced_as : replaced (p.0.number ∷ []) (lower ∷ upper ∷ []) t.parts ≡ f.front ++ (lower ∷ upper ∷ f.back) = f.replaced_by h.0.0 (lower ∷ upper ∷ []) in
    subst (λ bs. Ascend None (replaced (map (λ p. p.0.number) bs) (map (λ p. p.0) after) t.parts)) (sym b)
    (subst (λ cs. Ascend None (replaced (p.0.number ∷ []) (map (λ p. p.0) cs) t.parts)) (sym c)
    (subst (Ascend None) (sym replaced_as) (ascend_swap None f.front p.0 lower f.back (upper ∷ f.back) all two)))
  where
    not_none : (v : Value) → Some v ≡ None → ⊥
    not_none v e = cc

    over_lower : (lo : Option Value) (v : Value) → option_case lo true (λ lo. is_lt (value_cmp lo v)) ≡ true → is_over_bound lo (Some v) ≡ true
    over_lower None v e = refl
    over_lower (Some u) v e = e

    above_upper : (hi : Option Value) (v : Value) → option_case hi true (λ hi. is_lt (value_cmp v hi)) ≡ true → is_above (Some v) hi ≡ true
    above_upper None v e = refl
    above_upper (Some u) v e = e
ascend_new kept t before after (Merges s p q one other none b c) h =
    let w : Pair t.parts p q = pair_at t s p q one other h.0.0 (merge_met kept t s p q none).0 in
    let m : Part = (merged_part t s p q).0 in
    let all : Ascend None (w.front ++ (p.0 ∷ q.0 ∷ w.back)) = subst (Ascend None) w.is h.1 in
    let own : Ascend (top_of None w.front) (p.0 ∷ q.0 ∷ w.back) = ascend_cut None w.front (p.0 ∷ q.0 ∷ w.back) all in
    let above : is_above p.0.below q.0.below ≡ true = adjoined p.0 q.0 w.back (top_of None w.front) own in
    let single : Ascend (top_of None w.front) (m ∷ w.back) = (over_next (top_of None w.front) p.0.below q.0.below own.0 above, own.1.1.1) in
    let replaced_as : replaced (p.0.number ∷ q.0.number ∷ []) (m ∷ []) t.parts ≡ w.front ++ (m ∷ w.back) = w.replaced_by (m ∷ []) in
    subst (λ bs. Ascend None (replaced (map (λ p. p.0.number) bs) (map (λ p. p.0) after) t.parts)) (sym b)
    (subst (λ cs. Ascend None (replaced (p.0.number ∷ q.0.number ∷ []) (map (λ p. p.0) cs) t.parts)) (sym c)
    (subst (Ascend None) (sym replaced_as) (ascend_swap None w.front p.0 m (q.0 ∷ w.back) w.back all single)))
  where
    over_next : (lo b hi : Option Value) → is_over_bound lo b ≡ true → is_above b hi ≡ true → is_over_bound lo hi ≡ true
    over_next lo None hi h k = absurd (true≢false (sym k))
    over_next lo (Some v) hi h k = above_on lo v hi h k

regrouped_right : (kept : ℕ) (t : Table) (before after : List (Part × Interval)) → Regroups kept t before after → PartsRight t → PartsRight (regrouped t before after).table
regrouped_right kept t before after groups h =
    let sp : Spans t.parts before after = spans_of kept t before after groups h in
    let new : AreNew t after = new_numbers kept t before after groups in
    let parts : replaced (map (λ p. p.0.number) before) (map (λ p. p.0) after) t.parts ≡ sp.front ++ (sp.news ++ sp.back) = (λ i. replaced (sp.ended i) (sp.new i) t.parts) ∙ sp.replaced_by in
    let all : Pairs IsOther (sp.front ++ (sp.mid ++ sp.back)) = subst (Pairs IsOther) sp.is h.0.0 in
    let rest : Pairs IsOther (sp.mid ++ sp.back) = pairs_right IsOther sp.front (sp.mid ++ sp.back) all in
    let low : Each (λ (p : Part). p.number ≤ t.made) (sp.front ++ (sp.mid ++ sp.back)) = subst (Each (λ p. p.number ≤ t.made)) sp.is h.0.1 in
    let front_low : Each (λ (p : Part). p.number ≤ t.made) sp.front = each_left (λ p. p.number ≤ t.made) sp.front (sp.mid ++ sp.back) low in
    let back_low : Each (λ (p : Part). p.number ≤ t.made) sp.back = each_right (λ p. p.number ≤ t.made) sp.mid sp.back (each_right (λ p. p.number ≤ t.made) sp.front (sp.mid ++ sp.back) low) in
    let news_others : Pairs IsOther sp.news = subst (Pairs IsOther) sp.new new.others in
    let news_high : Each (λ (p : Part). (t.made < p.number) × (p.number ≤ t.made + length after)) sp.news = subst (Each (λ p. (t.made < p.number) × (p.number ≤ t.made + length after))) sp.new new.numbers in
    let front_back : Each (λ p. Each (IsOther p) sp.back) sp.front =
    each_weaker (λ p. Each (IsOther p) (sp.mid ++ sp.back)) (λ p. Each (IsOther p) sp.back) (λ p k. each_right (IsOther p) sp.mid sp.back k) sp.front (pairs_across IsOther sp.front (sp.mid ++ sp.back) all) in
    let front_news : Each (λ p. Each (IsOther p) sp.news) sp.front =
    each_weaker (λ p. p.number ≤ t.made) (λ p. Each (IsOther p) sp.news)
    (λ p k. each_weaker (λ q. (t.made < q.number) × (q.number ≤ t.made + length after)) (IsOther p) (λ q n. below_differs p.number q.number (omega (arith, k, n.0))) sp.news news_high) sp.front front_low in
    let news_back : Each (λ p. Each (IsOther p) sp.back) sp.news =
    each_weaker (λ p. (t.made < p.number) × (p.number ≤ t.made + length after)) (λ p. Each (IsOther p) sp.back)
    (λ p n. each_weaker (λ q. q.number ≤ t.made) (IsOther p) (λ q k. eq_false q.number p.number (omega (arith, k, n.0))) sp.back back_low) sp.news news_high in
    let behind : Pairs IsOther (sp.news ++ sp.back) = pairs_append IsOther sp.news sp.back news_others (pairs_right IsOther sp.mid sp.back rest) news_back in
    let across : Each (λ p. Each (IsOther p) (sp.news ++ sp.back)) sp.front =
    each_weaker (λ p. Each (IsOther p) sp.news × Each (IsOther p) sp.back) (λ p. Each (IsOther p) (sp.news ++ sp.back)) (λ p k. each_append (IsOther p) sp.news sp.back k.0 k.1) sp.front
    (each_two (λ p. Each (IsOther p) sp.news) (λ p. Each (IsOther p) sp.back) sp.front front_news front_back) in
    let whole : Pairs IsOther (sp.front ++ (sp.news ++ sp.back)) = pairs_append IsOther sp.front (sp.news ++ sp.back) (pairs_left IsOther sp.front (sp.mid ++ sp.back) all) behind across in
    let most : Each (λ (p : Part). p.number ≤ t.made + length after) (sp.front ++ (sp.news ++ sp.back)) =
    each_append (λ p. p.number ≤ t.made + length after) sp.front (sp.news ++ sp.back)
    (each_weaker (λ p. p.number ≤ t.made) (λ p. p.number ≤ t.made + length after) (λ p k. omega (arith, k)) sp.front front_low)
    (each_append (λ p. p.number ≤ t.made + length after) sp.news sp.back (each_weaker (λ p. (t.made < p.number) × (p.number ≤ t.made + length after)) (λ p. p.number ≤ t.made + length after) (λ p n. n.1) sp.news news_high)
    (each_weaker (λ p. p.number ≤ t.made) (λ p. p.number ≤ t.made + length after) (λ p k. omega (arith, k)) sp.back back_low)) in
    ((subst (Pairs IsOther) (sym parts) whole, subst (Each (λ p. p.number ≤ t.made + length after)) (sym parts) most), ascend_new kept t before after groups h)

pub keep_parts : KeepsTable PartsRight
keep_parts =
    record {
      asked = λ kept p s a passes same h. h;
      created = λ taken defs t none. (
        (
          numbered_other 1 (new_ranges t),
          each_weaker (λ p. (1 ≤ p.number) × (p.number < 1 + length (new_ranges t))) (λ p. p.number ≤ length (new_ranges t)) (λ p h. omega (arith, h.1)) (numbered_parts 1 (new_ranges t)) (numbered_from 1 (new_ranges t)),
        ),
        new_ascend taken defs t none,
      );
      cut = record {
        adds = added_right;
        truncates = λ base n t p none h. h;
        drops = λ base n t p none h. dropped_right t p h;
        regroups = regrouped_right;
        moves = λ t on h. h;
      };
    }

pub trace_numbered : (trace : List Event) → Each PartsRight (base_now (catalog_of trace))
trace_numbered trace = each_table PartsRight keep_parts trace
