-- The keys of groups, each once, in the order in which they came first.
use Rattle.std.proofs.Common.{◌≡◌, ◌∙◌, sym, ap, subst, refl, Bool, true, false, cond, ◌||◌, List, [], ◌∷◌, ◌++◌, map}
use Rattle.std.specs.Cmp.{eq_by_cmp_equiv}
use Rattle.std.specs.Cmp.Lexicographic.{pointwise}
use Rattle.std.specs.List.{list_any, filter}
use Rattle.std.specs.Ordering.{eq_by_cmp}
use Rattle.std.proofs.lemmas.Bool.Decides.{same_from_decides}
use Rattle.wh_base.proofs.Same.{same_value-Decides, same_values-Decides}
use Rattle.wh_base.specs.Lists.{distinct, distinct_after}
use Rattle.wh_base.specs.Values.{same_value, same_values, value_cmp}
use Rattle.wh_base.specs.ValueLaws.{value_total, equal_values}
use Rattle.wh_base.specs.declared.values.Value.{Value}

-- a group's key: the values of the group columns
abbrev pub Key : Type 0
Key = List Value

-- ---- sameness of keys

pub same : (v w : Key) → same_values v w ≡ true → v ≡ w
same v w h = (same_values-Decides v w).0 h

pub same_itself : (v : Key) → same_values v v ≡ true
same_itself v = (same_values-Decides v v).1 refl

pub same_turns : (v w : Key) → same_values v w ≡ same_values w v
same_turns v w = same_from_decides (same_values v w) (same_values w v) (same_values-Decides v w) (λ h. sym (same w v h), λ e. (same_values-Decides w v).1 (sym e))

-- the sameness by which a map of values looks keys up
by_cmp : (v w : Value) → eq_by_cmp value_cmp v w ≡ same_value v w
by_cmp v w =
    same_from_decides (eq_by_cmp value_cmp v w) (same_value v w)
    (equal_values v w, λ e. subst (λ u. eq_by_cmp value_cmp v u ≡ true) e ((eq_by_cmp_equiv value_total).refl v))
    (same_value-Decides v w)

pub same_by_cmp : (k l : Key) → pointwise (eq_by_cmp value_cmp) k l ≡ same_values k l
same_by_cmp k l = λ i. pointwise (λ v w. by_cmp v w i) k l

-- ---- keys

-- the key is among these
abbrev pub is_key : Key → List Key → Bool
is_key k ks = list_any (same_values k) ks

-- no key is the same as a later one
abbrev pub Differ : List Key → Type 0
Differ [] = Unit {0}
Differ (k ∷ ks) = (is_key k ks ≡ false) × Differ ks

-- what was seen isn't found again
not_again : (z : Key) (seen ks : List Key) → is_key z seen ≡ true → is_key z (distinct_after same_values seen ks) ≡ false
not_again z seen [] h = refl
not_again z seen (k ∷ ks) h = by (is_key k seen) refl (same_values z k) refl (not_again z seen ks h) (not_again z (k ∷ seen) ks)
  where
    by : (a : Bool) → is_key k seen ≡ a → (b : Bool) → same_values z k ≡ b → is_key z (distinct_after same_values seen ks) ≡ false
        → (is_key z (k ∷ seen) ≡ true → is_key z (distinct_after same_values (k ∷ seen) ks) ≡ false)
        → is_key z (cond a (distinct_after same_values seen ks) (k ∷ distinct_after same_values (k ∷ seen) ks)) ≡ false
    by true e b f seen_before more = seen_before
    by false e true f seen_before more = let seen_k : is_key k seen ≡ true = subst (λ y. is_key y seen ≡ true) (same z k f) h in cc
    by false e false f seen_before more =
        let later : is_key z (k ∷ seen) ≡ true = ap (λ b. b || is_key z seen) f ∙ h in
        ap (λ b. b || is_key z (distinct_after same_values (k ∷ seen) ks)) f ∙ more later

differ_after : (seen ks : List Key) → Differ (distinct_after same_values seen ks)
differ_after seen [] = tt
differ_after seen (k ∷ ks) = by (is_key k seen) (differ_after seen ks) (differ_after (k ∷ seen) ks)
  where
    by : (a : Bool) → Differ (distinct_after same_values seen ks) → Differ (distinct_after same_values (k ∷ seen) ks) → Differ (cond a (distinct_after same_values seen ks) (k ∷ distinct_after same_values (k ∷ seen) ks))
    by true old new = old
    by false old new = (not_again k (k ∷ seen) ks (ap (λ b. b || is_key k seen) (same_itself k)), new)

pub distinct_differ : (ks : List Key) → Differ (distinct same_values ks)
distinct_differ ks = differ_after [] ks

regroup : (a b c : Bool) → ((a || b) || c) ≡ (b || (a || c))
regroup true true c = refl
regroup true false c = refl
regroup false true c = refl
regroup false false c = refl

-- one more key: it stays out where it was seen or found
push_after : (x : Key) (seen ks : List Key)
    → distinct_after same_values seen (ks ++ x ∷ []) ≡ cond (is_key x seen || is_key x (distinct_after same_values seen ks)) (distinct_after same_values seen ks) (distinct_after same_values seen ks ++ x ∷ [])
push_after x seen [] = by (is_key x seen)
  where
    by : (a : Bool) → cond a [] (x ∷ []) ≡ cond (a || false) [] (x ∷ [])
    by true = refl
    by false = refl
push_after x seen (k ∷ ks) = by (is_key k seen) (push_after x seen ks) (push_after x (k ∷ seen) ks)
  where
    inside : (a : Bool) (ds : List Key) → k ∷ cond a ds (ds ++ x ∷ []) ≡ cond a (k ∷ ds) (k ∷ (ds ++ x ∷ []))
    inside true ds = refl
    inside false ds = refl

    by : (a : Bool)
        → distinct_after same_values seen (ks ++ x ∷ []) ≡ cond (is_key x seen || is_key x (distinct_after same_values seen ks)) (distinct_after same_values seen ks) (distinct_after same_values seen ks ++ x ∷ [])
        → distinct_after same_values (k ∷ seen) (ks ++ x ∷ []) ≡ cond (is_key x (k ∷ seen) || is_key x (distinct_after same_values (k ∷ seen) ks)) (distinct_after same_values (k ∷ seen) ks) (distinct_after same_values (k ∷ seen) ks ++ x ∷ [])
        → cond a (distinct_after same_values seen (ks ++ x ∷ [])) (k ∷ distinct_after same_values (k ∷ seen) (ks ++ x ∷ []))
        ≡ cond (is_key x seen || is_key x (cond a (distinct_after same_values seen ks) (k ∷ distinct_after same_values (k ∷ seen) ks)))
        (cond a (distinct_after same_values seen ks) (k ∷ distinct_after same_values (k ∷ seen) ks))
        (cond a (distinct_after same_values seen ks) (k ∷ distinct_after same_values (k ∷ seen) ks) ++ x ∷ [])
    by true old new = old
    by false old new =
        let ds = distinct_after same_values (k ∷ seen) ks in
        ap (λ l. k ∷ l) new
        ∙ inside (is_key x (k ∷ seen) || is_key x ds) ds
        ∙ ap (λ b. cond b (k ∷ ds) (k ∷ (ds ++ x ∷ []))) (regroup (same_values x k) (is_key x seen) (is_key x ds))

pub distinct-push : (x : Key) (ks : List Key) → distinct same_values (ks ++ x ∷ []) ≡ cond (is_key x (distinct same_values ks)) (distinct same_values ks) (distinct same_values ks ++ x ∷ [])
distinct-push x ks = push_after x [] ks

-- the same keys are found
found_after : (x : Key) (seen ks : List Key) → (is_key x seen || is_key x (distinct_after same_values seen ks)) ≡ (is_key x seen || is_key x ks)
found_after x seen [] = refl
found_after x seen (k ∷ ks) = by (is_key k seen) refl (found_after x seen ks) (found_after x (k ∷ seen) ks)
  where
    known : (s b d : Bool) → (b ≡ true → s ≡ true) → (s || d) ≡ (s || (b || d))
    known true b d h = refl
    known false true d h = let no : false ≡ true = h refl in cc
    known false false d h = refl

    new : (s b d e : Bool) → ((b || s) || d) ≡ ((b || s) || e) → (s || (b || d)) ≡ (s || (b || e))
    new true b d e h = refl
    new false true d e h = refl
    new false false d e h = h

    by : (a : Bool) → is_key k seen ≡ a
        → (is_key x seen || is_key x (distinct_after same_values seen ks)) ≡ (is_key x seen || is_key x ks)
        → (is_key x (k ∷ seen) || is_key x (distinct_after same_values (k ∷ seen) ks)) ≡ (is_key x (k ∷ seen) || is_key x ks)
        → (is_key x seen || is_key x (cond a (distinct_after same_values seen ks) (k ∷ distinct_after same_values (k ∷ seen) ks))) ≡ (is_key x seen || (same_values x k || is_key x ks))
    by true e old more = old ∙ known (is_key x seen) (same_values x k) (is_key x ks) (λ f. subst (λ y. is_key y seen ≡ true) (sym (same x k f)) e)
    by false e old more = new (is_key x seen) (same_values x k) (is_key x (distinct_after same_values (k ∷ seen) ks)) (is_key x ks) more

pub found_distinct : (x : Key) (ks : List Key) → is_key x (distinct same_values ks) ≡ is_key x ks
found_distinct x ks = found_after x [] ks

-- no row has a key that isn't among the rows' keys
pub none_of_key : {R : Type 0} (key : R → Key) (k : Key) (rows : List R) → is_key k (map key rows) ≡ false → filter (λ r. same_values (key r) k) rows ≡ []
none_of_key key k [] h = refl
none_of_key key k (r ∷ rs) h = by (same_values k (key r)) refl h (none_of_key key k rs)
  where
    by : (b : Bool) → same_values k (key r) ≡ b → (b || is_key k (map key rs)) ≡ false → (is_key k (map key rs) ≡ false → filter (λ r. same_values (key r) k) rs ≡ [])
        → cond (same_values (key r) k) (r ∷ filter (λ r. same_values (key r) k) rs) (filter (λ r. same_values (key r) k) rs) ≡ []
    by true e g none = cc
    by false e g none =
        let other : same_values (key r) k ≡ false = same_turns (key r) k ∙ e in
        ap (λ c. cond c (r ∷ filter (λ r. same_values (key r) k) rs) (filter (λ r. same_values (key r) k) rs)) other ∙ none g
