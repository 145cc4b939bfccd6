-- What a key finds in the entries of grouped tuples; keys and rows found don't depend on the order of entries.
use Rattle.std.proofs.Common.{◌≡◌, ◌∙◌, sym, ap, subst, refl, arith, ℕ, ◌+◌, ◌≤◌, Bool, true, false, cond, not, List, [], ◌∷◌, map, Option, Some, None}
use Rattle.std.specs.Prelude.{filter, is_some, ◌&&◌, ◌||◌}
use Rattle.std.specs.List.{list_any, list_all}
use Rattle.wh_base.proofs.Sorting.{SameCounts, times}
use Rattle.wh_base.specs.Lists.{is_empty, distinct, distinct_after}
use Rattle.wh_base.specs.Values.{same_values}
use Rattle.wh_base.specs.declared.columns.ColRef.{ColRef}
use Rattle.wh_base.specs.declared.queries.StarQuery.{StarQuery}
use Rattle.wh_base.specs.declared.values.Value.{Value}
use Rattle.wh_base.specs.declared.views.ViewEntry.{ViewEntry}
use Rattle.def_meaning.specs.Meaning.{Grouped, group_entry, group_item, grouped_entries, groups, groups_by, key_of, test_true}
use Rattle.law_delta.specs.Moved.{found_row, KeysApart, with_key, group_row}
use Rattle.law_delta.proofs.Lookups.{same_is, is_same, same_turns}

-- ---- one entry for each distinct key

abbrev pub entry_with : (List Value → List Value) → List Value → ViewEntry
entry_with row k = record { key = k; row = row k }

pub found-distinct : (row : List Value → List Value) (k : List Value) (seen ks : List (List Value)) → found_row k (map (entry_with row) (distinct_after same_values seen ks)) ≡ cond (list_any (same_values k) ks && not (list_any (same_values k) seen)) (Some (row k)) None
found-distinct row k seen [] = refl
found-distinct row k seen (x ∷ xs) =
    by (distinct_after same_values seen xs) (distinct_after same_values (x ∷ seen) xs) (list_any (same_values x) seen) (same_values k x) (list_any (same_values k) xs) (list_any (same_values k) seen)
    refl refl refl (found-distinct row k seen xs) (found-distinct row k (x ∷ seen) xs)
  where
    off : (m : Bool) (o : Option (List Value)) → cond (m && false) o None ≡ None
    off true o = refl
    off false o = refl

    by : (ks1 ks2 : List (List Value)) (a b m s : Bool) → list_any (same_values x) seen ≡ a → same_values k x ≡ b → list_any (same_values k) seen ≡ s
        → found_row k (map (entry_with row) ks1) ≡ cond (m && not s) (Some (row k)) None
        → found_row k (map (entry_with row) ks2) ≡ cond (m && not (same_values k x || s)) (Some (row k)) None
        → found_row k (map (entry_with row) (cond a ks1 (x ∷ ks2))) ≡ cond ((b || m) && not s) (Some (row k)) None
    by ks1 ks2 true true m s ea eb es h1 h2 =
        let key : k ≡ x = same_is k x eb in
        let seen_k : s ≡ true = sym es ∙ ap (λ j. list_any (same_values j) seen) key ∙ ea in
        h1 ∙ (λ i. cond (m && not (seen_k i)) (Some (row k)) None) ∙ off m (Some (row k)) ∙ sym (λ i. cond (true && not (seen_k i)) (Some (row k)) None)
    by ks1 ks2 true false m s ea eb es h1 h2 = h1
    by ks1 ks2 false true m s ea eb es h1 h2 =
        let key : k ≡ x = same_is k x eb in
        let seen_k : s ≡ false = sym es ∙ ap (λ j. list_any (same_values j) seen) key ∙ ea in
        (λ i. cond (is_same x k (sym key) i) (Some (row (sym key i))) (found_row k (map (entry_with row) ks2))) ∙ sym (λ i. cond (true && not (seen_k i)) (Some (row k)) None)
    by ks1 ks2 false false m s ea eb es h1 h2 =
        (λ i. cond ((same_turns x k ∙ eb) i) (Some (row x)) (found_row k (map (entry_with row) ks2))) ∙ h2 ∙ (λ i. cond (m && not (eb i || s)) (Some (row k)) None)

pub apart-distinct : (row : List Value → List Value) (seen ks : List (List Value)) → KeysApart (map (entry_with row) (distinct_after same_values seen ks))
apart-distinct row seen [] = tt
apart-distinct row seen (x ∷ xs) = by (list_any (same_values x) seen) (apart-distinct row seen xs) (apart-distinct row (x ∷ seen) xs) none
  where
    off : (m s : Bool) (o : Option (List Value)) → cond (m && not (true || s)) o None ≡ None
    off true s o = refl
    off false s o = refl

    none : found_row x (map (entry_with row) (distinct_after same_values (x ∷ seen) xs)) ≡ None
    none = found-distinct row x (x ∷ seen) xs ∙ (λ i. cond (list_any (same_values x) xs && not (is_same x x refl i || list_any (same_values x) seen)) (Some (row x)) None) ∙ off (list_any (same_values x) xs) (list_any (same_values x) seen) (Some (row x))

    by : (a : Bool) → KeysApart (map (entry_with row) (distinct_after same_values seen xs)) → KeysApart (map (entry_with row) (distinct_after same_values (x ∷ seen) xs)) → found_row x (map (entry_with row) (distinct_after same_values (x ∷ seen) xs)) ≡ None
        → KeysApart (map (entry_with row) (cond a (distinct_after same_values seen xs) (x ∷ distinct_after same_values (x ∷ seen) xs)))
    by true one other none = one
    by false one other none = (none, other)

-- ---- the groups of tuples

pub any-with_key : {T : Type 0} (key : T → List Value) (k : List Value) (ts : List T) → list_any (same_values k) (map key ts) ≡ not (is_empty (with_key key k ts))
any-with_key key k [] = refl
any-with_key key k (t ∷ ts) = (λ i. same_turns k (key t) i || list_any (same_values k) (map key ts)) ∙ by (same_values (key t) k) (any-with_key key k ts)
  where
    by : (b : Bool) → list_any (same_values k) (map key ts) ≡ not (is_empty (with_key key k ts)) → (b || list_any (same_values k) (map key ts)) ≡ not (is_empty (cond b (t ∷ with_key key k ts) (with_key key k ts)))
    by true h = refl
    by false h = h

abbrev pub row_by : {T : Type 0} → (T → ColRef → Value) → StarQuery → List T → List Value → List Value
row_by value q ts k = map (group_item value q.keys (k, with_key (key_of value q.keys) k ts)) q.items

having_all : {T : Type 0} (value : T → ColRef → Value) (gs : List (Grouped T)) → filter (λ g. list_all (test_true value g) []) gs ≡ gs
having_all value [] = refl
having_all value (g ∷ gs) = ap (λ rest. g ∷ rest) (having_all value gs)

pub groups_keyed : {T : Type 0} (value : T → ColRef → Value) (keys : List ColRef) (ts : List T) → is_empty keys ≡ false → groups value keys ts ≡ groups_by (key_of value keys) ts
groups_keyed value [] ts h = cc
groups_keyed value (c ∷ cs) ts h = refl

entries_of_groups : {T : Type 0} (value : T → ColRef → Value) (q : StarQuery) (ts : List T) (ks : List (List Value)) → map (group_entry value q) (map (λ k. (k, filter (λ t. same_values (key_of value q.keys t) k) ts)) ks) ≡ map (entry_with (row_by value q ts)) ks
entries_of_groups value q ts [] = refl
entries_of_groups value q ts (k ∷ ks) = ap (λ rest. entry_with (row_by value q ts) k ∷ rest) (entries_of_groups value q ts ks)

-- the entries of a grouped query with group columns and no HAVING
pub grouped_is : {T : Type 0} (value : T → ColRef → Value) (q : StarQuery) (ts : List T) → q.having ≡ [] → is_empty q.keys ≡ false → grouped_entries value q ts ≡ map (entry_with (row_by value q ts)) (distinct same_values (map (key_of value q.keys) ts))
grouped_is value q ts h k =
    (λ i. map (group_entry value q) (filter (λ g. list_all (test_true value g) (h i)) (groups value q.keys ts)))
    ∙ (λ i. map (group_entry value q) (having_all value (groups value q.keys ts) i))
    ∙ (λ i. map (group_entry value q) (groups_keyed value q.keys ts k i))
    ∙ entries_of_groups value q ts (distinct same_values (map (key_of value q.keys) ts))

pub grouped_apart : {T : Type 0} (value : T → ColRef → Value) (q : StarQuery) (ts : List T) → q.having ≡ [] → is_empty q.keys ≡ false → KeysApart (grouped_entries value q ts)
grouped_apart value q ts h k = subst KeysApart (sym (grouped_is value q ts h k)) (apart-distinct (row_by value q ts) [] (map (key_of value q.keys) ts))

-- what a key finds is the row of its group
pub grouped_found : {T : Type 0} (value : T → ColRef → Value) (q : StarQuery) (ts : List T) → q.having ≡ [] → is_empty q.keys ≡ false → (k : List Value) → found_row k (grouped_entries value q ts) ≡ group_row value q k ts
grouped_found value q ts h e k =
    ap (found_row k) (grouped_is value q ts h e)
    ∙ found-distinct (row_by value q ts) k [] (map (key_of value q.keys) ts)
    ∙ (λ i. cond (any-with_key (key_of value q.keys) k ts i && true) (Some (row_by value q ts k)) None)
    ∙ by (is_empty (with_key (key_of value q.keys) k ts)) (row_by value q ts k)
  where
    by : (b : Bool) (r : List Value) → cond (not b && true) (Some r) None ≡ cond b None (Some r)
    by true r = refl
    by false r = refl

-- ---- lists with the same entries

key_times : (k : List Value) (es : List ViewEntry) → KeysApart es → times (λ e. same_values e.key k) es ≡ cond (is_some (found_row k es)) 1 0
key_times k [] apart = refl
key_times k (e ∷ es) apart = by (same_values e.key k) refl (key_times k es apart.1)
  where
    by : (b : Bool) → same_values e.key k ≡ b → times (λ e. same_values e.key k) es ≡ cond (is_some (found_row k es)) 1 0 → cond b 1 0 + times (λ e. same_values e.key k) es ≡ cond (is_some (cond b (Some e.row) (found_row k es))) 1 0
    by true x h =
        let none : found_row k es ≡ None = subst (λ j. found_row j es ≡ None) (same_is e.key k x) apart.0 in
        let zero_times : times (λ e. same_values e.key k) es ≡ 0 = h ∙ (λ i. cond (is_some (none i)) 1 0) in
        omega arith
    by false x h = omega arith

none_found : (k : List Value) (es : List ViewEntry) → times (λ e. same_values e.key k) es ≡ 0 → found_row k es ≡ None
none_found k [] h = refl
none_found k (e ∷ es) h = by (none_found k es) (same_values e.key k) h
  where
    by : (times (λ e. same_values e.key k) es ≡ 0 → found_row k es ≡ None) → (b : Bool) → cond b 1 0 + times (λ e. same_values e.key k) es ≡ 0 → cond b (Some e.row) (found_row k es) ≡ None
    by more true x = absurd (omega arith)
    by more false x = more (omega arith)

alone : (b : Bool) (n : ℕ) → b ≡ true → cond b 1 0 + n ≤ 1 → n ≡ 0
alone true n h k = omega arith
alone false n h k = cc

apart_by_times : (es : List ViewEntry) → ((k : List Value) → times (λ e. same_values e.key k) es ≤ 1) → KeysApart es
apart_by_times [] h = tt
apart_by_times (e ∷ es) h =
    let here : cond (same_values e.key e.key) 1 0 + times (λ f. same_values f.key e.key) es ≤ 1 = h e.key in
    (none_found e.key es (alone (same_values e.key e.key) (times (λ f. same_values f.key e.key) es) (is_same e.key e.key refl) here), apart_by_times es (λ k. let all : cond (same_values e.key k) 1 0 + times (λ f. same_values f.key k) es ≤ 1 = h k in omega arith))

pub same_apart : (es fs : List ViewEntry) → SameCounts es fs → KeysApart es → KeysApart fs
same_apart es fs same apart = apart_by_times fs (λ k. by k (is_some (found_row k es)) (key_times k es apart) (same (λ e. same_values e.key k)))
  where
    by : (k : List Value) (b : Bool) → times (λ e. same_values e.key k) es ≡ cond b 1 0 → times (λ e. same_values e.key k) es ≡ times (λ e. same_values e.key k) fs → times (λ e. same_values e.key k) fs ≤ 1
    by k true h s = omega arith
    by k false h s = omega arith

is_entry : List Value → List Value → ViewEntry → Bool
is_entry k r e = same_values e.key k && same_values e.row r

counted : (b : Bool) (n : ℕ) → b ≡ true → 1 ≤ cond b 1 0 + n
counted true n h = omega arith
counted false n h = cc

entry_times : (k r : List Value) (es : List ViewEntry) → found_row k es ≡ Some r → 1 ≤ times (is_entry k r) es
unfolding is_entry
entry_times k r [] h = cc
entry_times k r (e ∷ es) h = by (same_values e.key k) h (entry_times k r es)
  where
    by : (b : Bool) → cond b (Some e.row) (found_row k es) ≡ Some r → (found_row k es ≡ Some r → 1 ≤ times (λ e. same_values e.key k && same_values e.row r) es) → 1 ≤ cond (b && same_values e.row r) 1 0 + times (λ e. same_values e.key k && same_values e.row r) es
    by true x more = let row : e.row ≡ r = cc in counted (same_values e.row r) (times (λ e. same_values e.key k && same_values e.row r) es) (is_same e.row r row)
    by false x more = let m : 1 ≤ times (λ e. same_values e.key k && same_values e.row r) es = more x in omega arith

found_by_times : (k r : List Value) (es : List ViewEntry) → KeysApart es → 1 ≤ times (is_entry k r) es → found_row k es ≡ Some r
unfolding is_entry
found_by_times k r [] apart h = absurd (omega arith)
found_by_times k r (e ∷ es) apart h = by (same_values e.key k) (same_values e.row r) refl refl h (found_by_times k r es apart.1)
  where
    by : (b c : Bool) → same_values e.key k ≡ b → same_values e.row r ≡ c → 1 ≤ cond (b && c) 1 0 + times (λ e. same_values e.key k && same_values e.row r) es → (1 ≤ times (λ e. same_values e.key k && same_values e.row r) es → found_row k es ≡ Some r) → cond b (Some e.row) (found_row k es) ≡ Some r
    by true true x y z more = ap Some (same_is e.row r y)
    by true false x y z more =
        let found : found_row k es ≡ Some r = more (omega arith) in
        let none : found_row k es ≡ None = subst (λ j. found_row j es ≡ None) (same_is e.key k x) apart.0 in
        cc
    by false c x y z more = more (omega arith)

pub same_found : (es fs : List ViewEntry) → SameCounts es fs → KeysApart es → (k : List Value) → found_row k fs ≡ found_row k es
same_found es fs same apart k = by (found_row k es) refl
  where
    by : (o : Option (List Value)) → found_row k es ≡ o → found_row k fs ≡ o
    by None h =
        let zero_times : times (λ e. same_values e.key k) es ≡ 0 = key_times k es apart ∙ (λ i. cond (is_some (h i)) 1 0) in
        none_found k fs (sym (same (λ e. same_values e.key k)) ∙ zero_times)
    by (Some r) h =
        let one : 1 ≤ times (is_entry k r) es = entry_times k r es h in
        found_by_times k r fs (same_apart es fs same apart) (subst (λ n. 1 ≤ n) (same (is_entry k r)) one)
