-- The group with a key among the groups of tuples keeps what is kept of the tuples with the key: the Accs of a delta.
use Rattle.std.proofs.Common.{◌≡◌, ◌∙◌, sym, ap, refl, Bool, true, false, cond, not, List, [], ◌∷◌, map, Option, Some, None}
use Rattle.std.specs.Prelude.{filter, ◌&&◌, ◌||◌}
use Rattle.std.specs.List.{list_any}
use Rattle.wh_base.specs.Lists.{distinct, distinct_after, is_empty}
use Rattle.wh_base.specs.Values.{same_values}
use Rattle.wh_base.specs.declared.columns.ColRef.{ColRef}
use Rattle.wh_base.specs.declared.queries.Group.{Group}
use Rattle.wh_base.specs.declared.queries.StarQuery.{StarQuery}
use Rattle.wh_base.specs.declared.values.Value.{Value}
use Rattle.def_meaning.specs.Accumulated.{group_of, groups_of}
use Rattle.def_meaning.specs.Meaning.{key_of}
use Rattle.law_delta.specs.Moved.{found_group, with_key}
use Rattle.law_delta.proofs.Grouped.{any-with_key, groups_keyed}
use Rattle.law_delta.proofs.Lookups.{is_same, same_is, same_turns}

found_distinct : (made : List Value → Group) → ((k : List Value) → (made k).key ≡ k) → (k : List Value) (seen ks : List (List Value)) → found_group k (map made (distinct_after same_values seen ks)) ≡ cond (list_any (same_values k) ks && not (list_any (same_values k) seen)) (Some (made k)) None
found_distinct made own k seen [] = refl
found_distinct made own k seen (x ∷ xs) =
    by (distinct_after same_values seen xs) (distinct_after same_values (x ∷ seen) xs) (list_any (same_values x) seen) (same_values k x) (list_any (same_values k) xs) (list_any (same_values k) seen)
    refl refl refl (found_distinct made own k seen xs) (found_distinct made own k (x ∷ seen) xs)
  where
    off : (m : Bool) (o : Option Group) → cond (m && false) o None ≡ None
    off true o = refl
    off false o = refl

    by : (ks1 ks2 : List (List Value)) (a b m s : Bool) → list_any (same_values x) seen ≡ a → same_values k x ≡ b → list_any (same_values k) seen ≡ s
        → found_group k (map made ks1) ≡ cond (m && not s) (Some (made k)) None
        → found_group k (map made ks2) ≡ cond (m && not (same_values k x || s)) (Some (made k)) None
        → found_group k (map made (cond a ks1 (x ∷ ks2))) ≡ cond ((b || m) && not s) (Some (made k)) None
    by ks1 ks2 true true m s ea eb es h1 h2 =
        let key : k ≡ x = same_is k x eb in
        let seen_k : s ≡ true = sym es ∙ ap (λ j. list_any (same_values j) seen) key ∙ ea in
        h1 ∙ (λ i. cond (m && not (seen_k i)) (Some (made k)) None) ∙ off m (Some (made k)) ∙ sym (λ i. cond (true && not (seen_k i)) (Some (made k)) None)
    by ks1 ks2 true false m s ea eb es h1 h2 = h1
    by ks1 ks2 false true m s ea eb es h1 h2 =
        let key : k ≡ x = same_is k x eb in
        let seen_k : s ≡ false = sym es ∙ ap (λ j. list_any (same_values j) seen) key ∙ ea in
        (λ i. cond (same_values (own x i) k) (Some (made x)) (found_group k (map made ks2)))
        ∙ (λ i. cond (is_same x k (sym key) i) (Some (made (sym key i))) (found_group k (map made ks2))) ∙ sym (λ i. cond (true && not (seen_k i)) (Some (made k)) None)
    by ks1 ks2 false false m s ea eb es h1 h2 =
        (λ i. cond (same_values (own x i) k) (Some (made x)) (found_group k (map made ks2)))
        ∙ (λ i. cond ((same_turns x k ∙ eb) i) (Some (made x)) (found_group k (map made ks2))) ∙ h2 ∙ (λ i. cond (m && not (eb i || s)) (Some (made k)) None)

pub group_found : {T : Type 0} (value : T → ColRef → Value) (q : StarQuery) (ts : List T) → is_empty q.keys ≡ false → (k : List Value)
    → found_group k (groups_of value q ts) ≡ cond (is_empty (with_key (key_of value q.keys) k ts)) None (Some (group_of value q (k, with_key (key_of value q.keys) k ts)))
group_found {T} value q ts keyed k =
    let made : List Value → Group = λ k. group_of value q (k, with_key (key_of value q.keys) k ts) in
    (λ i. found_group k (map (group_of value q) (groups_keyed value q.keys ts keyed i)))
    ∙ ap (found_group k) (all (distinct same_values (map (key_of value q.keys) ts)))
    ∙ found_distinct made (λ j. refl) k [] (map (key_of value q.keys) ts)
    ∙ (λ i. cond (any-with_key (key_of value q.keys) k ts i && true) (Some (made k)) None)
    ∙ by (is_empty (with_key (key_of value q.keys) k ts)) (made k)
  where
    all : (ks : List (List Value)) → map (group_of value q) (map (λ k. (k, filter (λ t. same_values (key_of value q.keys t) k) ts)) ks) ≡ map (λ k. group_of value q (k, with_key (key_of value q.keys) k ts)) ks
    all [] = refl
    all (j ∷ js) = ap (λ rest. group_of value q (j, with_key (key_of value q.keys) j ts) ∷ rest) (all js)

    by : (b : Bool) (r : Group) → cond (not b && true) (Some r) None ≡ cond b None (Some r)
    by true r = refl
    by false r = refl
