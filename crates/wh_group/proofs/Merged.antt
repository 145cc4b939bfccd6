-- The groups of two lists of things, put together.
use Rattle.std.proofs.Common.{◌≡◌, ◌∙◌, sym, ap, subst, refl, Bool, true, false, cond, ◌||◌, List, [], ◌∷◌, ◌++◌, map}
use Rattle.std.proofs.lemmas.Bool.{or_parts}
use Rattle.std.proofs.Math.Bool.{or-false, or-true, or_assoc}
use Rattle.std.specs.List.{filter}
use Rattle.std.proofs.lemmas.List.Elements.{filter-append}
use Rattle.std.proofs.lemmas.List.{append-nil, append_assoc, map-append}
use Rattle.wh_base.specs.Lists.{distinct}
use Rattle.wh_base.specs.Values.{same_values}
use Rattle.wh_base.specs.declared.columns.Agg.{Agg}
use Rattle.wh_base.specs.declared.columns.Agg.TheVariants.{Avg, Count, CountAll, Max, Min, Sum}
use Rattle.wh_base.specs.declared.columns.ColRef.{ColRef}
use Rattle.wh_base.specs.declared.queries.Acc.{Acc}
use Rattle.wh_base.specs.declared.queries.StarQuery.{StarQuery}
use Rattle.wh_base.specs.declared.values.Value.{Value}
use Rattle.def_meaning.specs.Accumulated.{acc_of, merged_acc, query_aggs}
use Rattle.def_meaning.specs.Meaning.{groups, groups_by, key_of}
use Rattle.def_meaning.proofs.Merging.{acc_of-append}
use Rattle.wh_group.specs.Tallies.{Kept, change_group, kept, kept_groups, merged_each, merged_groups, merged_tallies, merged_tally, tally_by}
use Rattle.wh_group.specs.declared.tally.Tally.{Tally}
use Rattle.wh_group.proofs.Kept.{kept_by}
use Rattle.wh_group.proofs.Keys.{Differ, Key, is_key, same, same_itself, same_turns, distinct-push, distinct_differ, found_distinct, none_of_key}

-- ---- tallies

merged_by : (a : Agg) (x y : Acc) → merged_tally (tally_by a x) (tally_by a y) ≡ tally_by a (merged_acc x y)
merged_by CountAll x y = refl
merged_by (Count e) x y = refl
merged_by (Sum e) x y = refl
merged_by (Avg e) x y = refl
merged_by (Min e) x y = refl
merged_by (Max e) x y = refl

each_append : {T : Type 0} (value : T → ColRef → Value) (ts us : List T) (list : List Agg)
    → merged_each (map (λ a. tally_by a (acc_of value ts a)) list) (map (λ a. tally_by a (acc_of value us a)) list) ≡ map (λ a. tally_by a (acc_of value (ts ++ us) a)) list
each_append value ts us [] = refl
each_append value ts us (a ∷ more) = λ i. (merged_by a (acc_of value ts a) (acc_of value us a) ∙ ap (tally_by a) (sym (acc_of-append value a ts us))) i ∷ each_append value ts us more i

tallies-append : {T : Type 0} (value : T → ColRef → Value) (ts us : List T) (list : List Agg)
    → merged_tallies (map (λ a. tally_by a (acc_of value ts a)) list) (map (λ a. tally_by a (acc_of value us a)) list) ≡ map (λ a. tally_by a (acc_of value (ts ++ us) a)) list
tallies-append value ts us [] = refl
tallies-append value ts us (a ∷ more) = each_append value ts us (a ∷ more)

-- ---- keys that are added where they aren't there yet

abbrev add_key : List Key → Key → List Key
add_key ds k = cond (is_key k ds) ds (ds ++ k ∷ [])

abbrev add_all : List Key → List Key → List Key
add_all ds [] = ds
add_all ds (k ∷ ks) = add_all (add_key ds k) ks

found_in : (j : Key) (xs ys : List Key) → is_key j (xs ++ ys) ≡ (is_key j xs || is_key j ys)
found_in j [] ys = refl
found_in j (x ∷ xs) ys = ap (λ b. same_values j x || b) (found_in j xs ys) ∙ sym (or_assoc (same_values j x) (is_key j xs) (is_key j ys))

found_added : (j k : Key) (ds : List Key) → is_key j (add_key ds k) ≡ (is_key j ds || same_values j k)
found_added j k ds = by (is_key k ds) refl
  where
    known : (a b : Bool) → (b ≡ true → a ≡ true) → a ≡ (a || b)
    known true b h = refl
    known false true h = h refl
    known false false h = refl

    by : (a : Bool) → is_key k ds ≡ a → is_key j (cond a ds (ds ++ k ∷ [])) ≡ (is_key j ds || same_values j k)
    by true e = known (is_key j ds) (same_values j k) (λ f. subst (λ y. is_key y ds ≡ true) (sym (same j k f)) e)
    by false e = found_in j ds (k ∷ []) ∙ ap (λ b. is_key j ds || b) (or-false (same_values j k))

found_all : (j : Key) (ds ks : List Key) → is_key j (add_all ds ks) ≡ (is_key j ds || is_key j ks)
found_all j ds [] = sym (or-false (is_key j ds))
found_all j ds (k ∷ ks) = found_all j (add_key ds k) ks ∙ ap (λ b. b || is_key j ks) (found_added j k ds) ∙ or_assoc (is_key j ds) (same_values j k) (is_key j ks)

distinct_all : (xs ys : List Key) → distinct same_values (xs ++ ys) ≡ add_all (distinct same_values xs) ys
distinct_all xs [] = ap (distinct same_values) (append-nil xs)
distinct_all xs (y ∷ ys) = ap (distinct same_values) (sym (append_assoc xs (y ∷ []) ys)) ∙ distinct_all (xs ++ y ∷ []) ys ∙ ap (λ ds. add_all ds ys) (distinct-push y xs)

add_last : (ds ks : List Key) (k : Key) → add_all ds (ks ++ k ∷ []) ≡ add_key (add_all ds ks) k
add_last ds [] k = refl
add_last ds (j ∷ ks) k = add_last (add_key ds j) ks k

add_one : (ds zs : List Key) (y : Key) → add_all ds (distinct same_values (zs ++ y ∷ [])) ≡ add_key (add_all ds (distinct same_values zs)) y
add_one ds zs y = ap (add_all ds) (distinct-push y zs) ∙ by (is_key y (distinct same_values zs)) refl
  where
    by : (a : Bool) → is_key y (distinct same_values zs) ≡ a → add_all ds (cond a (distinct same_values zs) (distinct same_values zs ++ y ∷ [])) ≡ add_key (add_all ds (distinct same_values zs)) y
    by true e =
        let all = add_all ds (distinct same_values zs) in
        let there : is_key y all ≡ true = found_all y ds (distinct same_values zs) ∙ ap (λ b. is_key y ds || b) e ∙ or-true (is_key y ds) in
        sym (ap (λ b. cond b all (all ++ y ∷ [])) there)
    by false e = add_last ds (distinct same_values zs) y

add_after : (ds zs ys : List Key) → add_all ds (distinct same_values (zs ++ ys)) ≡ add_all (add_all ds (distinct same_values zs)) ys
add_after ds zs [] = ap (λ l. add_all ds (distinct same_values l)) (append-nil zs)
add_after ds zs (y ∷ ys) =
    ap (λ l. add_all ds (distinct same_values l)) (sym (append_assoc zs (y ∷ []) ys))
    ∙ add_after ds (zs ++ y ∷ []) ys
    ∙ ap (λ l. add_all l ys) (add_one ds zs y)

-- ---- one group changed

abbrev listed : (Key → List Tally) → List Key → List Kept
listed f ks = map (λ k. (k, f k)) ks

module _ (k : Key) (m : List Tally → List Tally) where
  abbrev changed : (Key → List Tally) → Key → List Tally
  changed f j = cond (same_values k j) (m (f j)) (f j)

  not_changed : (f : Key → List Tally) (ks : List Key) → is_key k ks ≡ false → listed f ks ≡ listed (changed f) ks
  not_changed f [] h = refl
  not_changed f (j ∷ js) h = by (same_values k j) refl h (not_changed f js)
    where
      by : (b : Bool) → same_values k j ≡ b → (b || is_key k js) ≡ false → (is_key k js ≡ false → listed f js ≡ listed (changed f) js) → listed f (j ∷ js) ≡ listed (changed f) (j ∷ js)
      by true e g more = cc
      by false e g more = λ i. (j, ap (λ b. cond b (m (f j)) (f j)) (sym e) i) ∷ more g i

  changes_one : (f : Key → List Tally) (first : List Tally) (ks : List Key) → Differ ks → is_key k ks ≡ true → change_group k m first (listed f ks) ≡ listed (changed f) ks
  changes_one f first [] d h = cc
  changes_one f first (j ∷ js) d h = by (same_values k j) refl h (changes_one f first js d.1)
    where
      by : (b : Bool) → same_values k j ≡ b → (b || is_key k js) ≡ true → (is_key k js ≡ true → change_group k m first (listed f js) ≡ listed (changed f) js)
          → cond b ((j, m (f j)) ∷ listed f js) ((j, f j) ∷ change_group k m first (listed f js)) ≡ listed (changed f) (j ∷ js)
      by true e g more =
          let apart : is_key k js ≡ false = subst (λ y. is_key y js ≡ false) (sym (same k j e)) d.0 in
          λ i. (j, ap (λ b. cond b (m (f j)) (f j)) (sym e) i) ∷ not_changed f js apart i
      by false e g more = λ i. (j, ap (λ b. cond b (m (f j)) (f j)) (sym e) i) ∷ more g i

  adds_one : (f : Key → List Tally) (first : List Tally) (ks : List Key) → is_key k ks ≡ false → change_group k m first (listed f ks) ≡ listed f ks ++ (k, m first) ∷ []
  adds_one f first [] h = refl
  adds_one f first (j ∷ js) h = by (same_values k j) h (adds_one f first js)
    where
      by : (b : Bool) → (b || is_key k js) ≡ false → (is_key k js ≡ false → change_group k m first (listed f js) ≡ listed f js ++ (k, m first) ∷ [])
          → cond b ((j, m (f j)) ∷ listed f js) ((j, f j) ∷ change_group k m first (listed f js)) ≡ (j, f j) ∷ (listed f js ++ (k, m first) ∷ [])
      by true g more = cc
      by false g more = ap (λ l. (j, f j) ∷ l) (more g)

differ_last : (ds : List Key) (k : Key) → Differ ds → is_key k ds ≡ false → Differ (ds ++ k ∷ [])
differ_last [] k d h = (refl, tt)
differ_last (j ∷ js) k d h = by (same_values k j) refl h (differ_last js k d.1)
  where
    by : (b : Bool) → same_values k j ≡ b → (b || is_key k js) ≡ false → (is_key k js ≡ false → Differ (js ++ k ∷ [])) → Differ (j ∷ (js ++ k ∷ []))
    by true e g more = cc
    by false e g more =
        let other : same_values j k ≡ false = same_turns j k ∙ e in
        (found_in j js (k ∷ []) ∙ (λ i. d.0 i || (other i || false)), more g)

apart_from : (k j : Key) (ds : List Key) → is_key k ds ≡ true → is_key j ds ≡ false → same_values k j ≡ false
apart_from k j ds h g = by (same_values k j) refl
  where
    by : (b : Bool) → same_values k j ≡ b → b ≡ false
    by true e = let there : is_key j ds ≡ true = subst (λ y. is_key y ds ≡ true) (same k j e) h in cc
    by false e = refl

not_last : (k j : Key) (ds : List Key) → is_key j (ds ++ k ∷ []) ≡ false → (is_key j ds ≡ false) × (same_values k j ≡ false)
not_last k j ds h =
    let parts = or_parts (is_key j ds) (same_values j k || false) (sym (found_in j ds (k ∷ [])) ∙ h) in
    (parts.0, same_turns k j ∙ sym (or-false (same_values j k)) ∙ parts.1)

-- ---- all groups merged

module _ (u : Key → List Tally) where
  -- what a key has once these groups were merged
  abbrev together : (Key → List Tally) → List Key → Key → List Tally
  together f ks j = cond (is_key j ks) (merged_tallies (f j) (u j)) (f j)

  abbrev with_one : Key → (Key → List Tally) → Key → List Tally
  with_one k f = changed k (λ ts. merged_tallies ts (u k)) f

  one_first : (f : Key → List Tally) (k : Key) (ks : List Key) → is_key k ks ≡ false → (j : Key) → together (with_one k f) ks j ≡ together f (k ∷ ks) j
  one_first f k ks apart j = by (same_values k j) refl
    where
      by : (b : Bool) → same_values k j ≡ b → cond (is_key j ks) (merged_tallies (cond b (merged_tallies (f j) (u k)) (f j)) (u j)) (cond b (merged_tallies (f j) (u k)) (f j)) ≡ together f (k ∷ ks) j
      by true e =
          let one : k ≡ j = same k j e in
          let none : is_key j ks ≡ false = subst (λ y. is_key y ks ≡ false) one apart in
          let back : same_values j k ≡ true = same_turns j k ∙ e in
          ap (λ b. cond b (merged_tallies (merged_tallies (f j) (u k)) (u j)) (merged_tallies (f j) (u k))) none
          ∙ ap (λ y. merged_tallies (f j) (u y)) one
          ∙ sym (ap (λ b. cond (b || is_key j ks) (merged_tallies (f j) (u j)) (f j)) back)
      by false e =
          let other : same_values j k ≡ false = same_turns j k ∙ e in
          sym (ap (λ b. cond (b || is_key j ks) (merged_tallies (f j) (u j)) (f j)) other)

  merged_all : (ks : List Key) (f : Key → List Tally) (ds : List Key) → Differ ks → Differ ds → ((j : Key) → is_key j ds ≡ false → u j ≡ merged_tallies (f j) (u j))
      → merged_groups (listed f ds) (listed u ks) ≡ listed (together f ks) (add_all ds ks)
  merged_all [] f ds dk dd new = refl
  merged_all (k ∷ ks) f ds dk dd new =
      by (is_key k ds) refl (λ g es de ne. merged_all ks g es dk.1 de ne)
      ∙ (λ i. map (λ j. (j, one_first f k ks dk.0 j i)) (add_all (add_key ds k) ks))
    where
      still_new : (es : List Key) → ((j : Key) → is_key j es ≡ false → (is_key j ds ≡ false) × (same_values k j ≡ false)) → (j : Key) → is_key j es ≡ false → u j ≡ merged_tallies (with_one k f j) (u j)
      still_new es apart j h =
          let parts = apart j h in
          new j parts.0 ∙ ap (λ ts. merged_tallies ts (u j)) (sym (ap (λ b. cond b (merged_tallies (f j) (u k)) (f j)) parts.1))

      by : (a : Bool) → is_key k ds ≡ a
          → ((g : Key → List Tally) (es : List Key) → Differ es → ((j : Key) → is_key j es ≡ false → u j ≡ merged_tallies (g j) (u j)) → merged_groups (listed g es) (listed u ks) ≡ listed (together g ks) (add_all es ks))
          → merged_groups (change_group k (λ ts. merged_tallies ts (u k)) [] (listed f ds)) (listed u ks) ≡ listed (together (with_one k f) ks) (add_all (cond a ds (ds ++ k ∷ [])) ks)
      by true e more =
          ap (λ l. merged_groups l (listed u ks)) (changes_one k (λ ts. merged_tallies ts (u k)) f [] ds dd e)
          ∙ more (with_one k f) ds dd (still_new ds (λ j h. (h, apart_from k j ds e h)))
      by false e more =
          let last : u k ≡ with_one k f k = new k e ∙ sym (ap (λ b. cond b (merged_tallies (f k) (u k)) (f k)) (same_itself k)) in
          ap (λ l. merged_groups l (listed u ks)) (
          adds_one k (λ ts. merged_tallies ts (u k)) f [] ds e
          ∙ (λ i. not_changed k (λ ts. merged_tallies ts (u k)) f ds e i ++ (k, last i) ∷ [])
          ∙ sym (map-append (λ j. (j, with_one k f j)) ds (k ∷ []))
          )
          ∙ more (with_one k f) (ds ++ k ∷ []) (differ_last ds k dd e) (still_new (ds ++ k ∷ []) (λ j h. not_last k j ds h))

-- ---- groups of things

module _ {T : Type 0} (value : T → ColRef → Value) (aggs : List Agg) where
  abbrev tallies : List T → List Tally
  tallies ts = map (λ a. tally_by a (acc_of value ts a)) aggs

  module _ (key : T → Key) (ts us : List T) where
    abbrev with_key : List T → Key → List T
    with_key xs k = filter (λ x. same_values (key x) k) xs

    abbrev first_keys : List Key
    first_keys = distinct same_values (map key ts)

    abbrev second_keys : List Key
    second_keys = distinct same_values (map key us)

    none_first : (j : Key) → is_key j first_keys ≡ false → tallies (with_key us j) ≡ merged_tallies (tallies (with_key ts j)) (tallies (with_key us j))
    none_first j h =
        let none : with_key ts j ≡ [] = none_of_key key j ts (sym (found_distinct j (map key ts)) ∙ h) in
        sym (tallies-append value (with_key ts j) (with_key us j) aggs ∙ ap (λ l. tallies (l ++ with_key us j)) none)

    both_parts : (j : Key) → together (λ k. tallies (with_key us k)) (λ k. tallies (with_key ts k)) second_keys j ≡ tallies (with_key (ts ++ us) j)
    both_parts j = by (is_key j second_keys) refl ∙ ap tallies (sym (filter-append (λ x. same_values (key x) j) ts us))
      where
        by : (a : Bool) → is_key j second_keys ≡ a → cond a (merged_tallies (tallies (with_key ts j)) (tallies (with_key us j))) (tallies (with_key ts j)) ≡ tallies (with_key ts j ++ with_key us j)
        by true e = tallies-append value (with_key ts j) (with_key us j) aggs
        by false e =
            let none : with_key us j ≡ [] = none_of_key key j us (sym (found_distinct j (map key us)) ∙ e) in
            sym (ap (λ l. tallies (with_key ts j ++ l)) none ∙ ap tallies (append-nil (with_key ts j)))

    all_keys : add_all first_keys second_keys ≡ distinct same_values (map key (ts ++ us))
    all_keys = add_after first_keys [] (map key us) ∙ sym (distinct_all (map key ts) (map key us)) ∙ ap (distinct same_values) (sym (map-append key ts us))

    merged_listed : merged_groups (listed (λ k. tallies (with_key ts k)) first_keys) (listed (λ k. tallies (with_key us k)) second_keys) ≡ listed (λ k. tallies (with_key (ts ++ us) k)) (distinct same_values (map key (ts ++ us)))
    merged_listed =
        merged_all (λ k. tallies (with_key us k)) second_keys (λ k. tallies (with_key ts k)) first_keys (distinct_differ (map key us)) (distinct_differ (map key ts)) none_first
        ∙ (λ i. map (λ j. (j, both_parts j i)) (all_keys i))

    merged_by_key : merged_groups (map (kept value aggs) (groups_by key ts)) (map (kept value aggs) (groups_by key us)) ≡ map (kept value aggs) (groups_by key (ts ++ us))
    merged_by_key = (λ i. merged_groups (kept_by value aggs key ts i) (kept_by value aggs key us i)) ∙ merged_listed ∙ sym (kept_by value aggs key (ts ++ us))

  merged_keys : (keys : List ColRef) (ts us : List T) → merged_groups (map (kept value aggs) (groups value keys ts)) (map (kept value aggs) (groups value keys us)) ≡ map (kept value aggs) (groups value keys (ts ++ us))
  merged_keys [] ts us = λ i. ([], tallies-append value ts us aggs i) ∷ []
  merged_keys (c ∷ cs) ts us = merged_by_key (key_of value (c ∷ cs)) ts us

-- the groups of two lists, merged, are those of the lists in a row
pub groups-append : {T : Type 0} (value : T → ColRef → Value) (q : StarQuery) (ts us : List T) → merged_groups (kept_groups value q ts) (kept_groups value q us) ≡ kept_groups value q (ts ++ us)
groups-append value q ts us = merged_keys value (query_aggs q) q.keys ts us
