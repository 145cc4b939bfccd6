-- Groups of groups: what rows of fine groups and the tuples themselves have in common.
use Rattle.std.proofs.Common.{◌≡◌, ◌∙◌, sym, ap, refl, Bool, true, false, cond, List, [], ◌∷◌, ◌++◌, map}
use Rattle.std.specs.Prelude.{◌&&◌, ◌||◌}
use Rattle.std.specs.List.{filter, flat_map, list_any}
use Rattle.std.proofs.lemmas.List.Elements.{filter-append}
use Rattle.std.proofs.Math.Bool.{or-true}
use Rattle.std.proofs.lemmas.List.Folds.{flat_map-map, list_any-append}
use Rattle.wh_base.specs.Lists.{distinct, is_empty}
use Rattle.wh_base.specs.Values.{same_values}
use Rattle.wh_base.proofs.Same.{same_values-Decides}
use Rattle.wh_base.proofs.Sorting.{times, SameCounts}
use Rattle.wh_base.specs.declared.values.Value.{Value}
use Rattle.def_meaning.specs.Meaning.{Grouped, groups_by}
use Rattle.law_lists.proofs.Counts.{times-map, times-filter, times_agree, SameCounts-trans, SameCounts-is, SameCounts-filter, list_any_same, distinct_same, distinct_parts}
use Rattle.law_lists.proofs.Each.{Each, Each-distinct, Each-filter, Each-map, Each-of, Each-of_map, Each-passes, any_alike, filter_alike}
use Rattle.law_lists.proofs.Lists.{filter-map, list_any-map}

-- ---- rows that stand for groups

module _ {T R : Type 0} (row : Grouped T → R) where
  -- a test of a tuple is that of its group's row
  abbrev pub Agree : {B : Type 0} → (T → B) → (R → B) → Grouped T → Type 0
  Agree f f' g = Each (λ t. f t ≡ f' (row g)) g.1

  abbrev pub members : List (Grouped T) → List T
  members gs = flat_map (λ g. g.1) gs

  pub members_filter : (p : T → Bool) (p' : R → Bool) (gs : List (Grouped T)) → Each (Agree p p') gs → filter p (members gs) ≡ members (filter (λ g. p' (row g)) gs)
  members_filter p p' [] h = refl
  members_filter p p' (g ∷ gs) h =
      filter-append p g.1 (members gs)
      ∙ (λ i. filter_alike p (p' (row g)) g.1 h.0 i ++ members_filter p p' gs h.1 i)
      ∙ by (p' (row g))
    where
      by : (b : Bool) → cond b g.1 [] ++ members (filter (λ g. p' (row g)) gs) ≡ members (cond b (g ∷ filter (λ g. p' (row g)) gs) (filter (λ g. p' (row g)) gs))
      by true = refl
      by false = refl

  pub members_any : (p : T → Bool) (p' : R → Bool) (gs : List (Grouped T)) → Each (λ g. is_empty g.1 ≡ false) gs → Each (Agree p p') gs → list_any p (members gs) ≡ list_any (λ g. p' (row g)) gs
  members_any p p' [] n h = refl
  members_any p p' (g ∷ gs) n h =
      list_any-append p g.1 (members gs)
      ∙ (λ i. any_alike p (p' (row g)) g.1 n.0 h.0 i || members_any p p' gs n.1 h.1 i)

  -- rows that stand for groups of tuples, in any order
  pub record Stands (gs : List (Grouped T)) (rows : List R) (ts : List T) : Type 0 where
    pub rows_are : SameCounts rows (map row gs)
    pub tuples_are : SameCounts (members gs) ts

  -- a test on both sides
  pub Stands-filter : (p : T → Bool) (p' : R → Bool) (gs : List (Grouped T)) (rows : List R) (ts : List T)
      → Each (Agree p p') gs → Stands gs rows ts → Stands (filter (λ g. p' (row g)) gs) (filter p' rows) (filter p ts)
  Stands-filter p p' gs rows ts h s = record {
    rows_are = SameCounts-trans (filter p' rows) (filter p' (map row gs)) (map row (filter (λ g. p' (row g)) gs))
        (SameCounts-filter p' rows (map row gs) s.rows_are) (SameCounts-is (filter p' (map row gs)) (map row (filter (λ g. p' (row g)) gs)) (filter-map p' row gs));
    tuples_are = SameCounts-trans (members (filter (λ g. p' (row g)) gs)) (filter p (members gs)) (filter p ts)
        (SameCounts-is (members (filter (λ g. p' (row g)) gs)) (filter p (members gs)) (sym (members_filter p p' gs h))) (SameCounts-filter p (members gs) ts s.tuples_are);
  }

  Agree-test : {B C : Type 0} (f : T → B) (f' : R → B) (test : B → C) (gs : List (Grouped T)) → Each (Agree f f') gs → Each (Agree (λ t. test (f t)) (λ r. test (f' r))) gs
  Agree-test f f' test gs h =
      Each-map (Agree f f') (Agree (λ t. test (f t)) (λ r. test (f' r)))
      (λ g. Each-map (λ t. f t ≡ f' (row g)) (λ t. test (f t) ≡ test (f' (row g))) (λ t. ap test) g.1) gs h

  -- a key that is there on one side is there on the other
  pub Stands-has : (key : T → List Value) (key' : R → List Value) (gs : List (Grouped T)) (rows : List R) (ts : List T)
      → Each (λ g. is_empty g.1 ≡ false) gs → Each (Agree key key') gs → Stands gs rows ts
      → (k : List Value) → list_any (same_values k) (map key' rows) ≡ list_any (same_values k) (map key ts)
  Stands-has key key' gs rows ts full h s k =
      list_any-map (same_values k) key' rows
      ∙ list_any_same (λ r. same_values k (key' r)) rows (map row gs) s.rows_are
      ∙ list_any-map (λ r. same_values k (key' r)) row gs
      ∙ sym (members_any (λ t. same_values k (key t)) (λ r. same_values k (key' r)) gs full (Agree-test key key' (same_values k) gs h))
      ∙ list_any_same (λ t. same_values k (key t)) (members gs) ts s.tuples_are
      ∙ sym (list_any-map (same_values k) key ts)

  -- the keys of both sides
  pub Stands-keys : (key : T → List Value) (key' : R → List Value) (gs : List (Grouped T)) (rows : List R) (ts : List T)
      → Each (λ g. is_empty g.1 ≡ false) gs → Each (Agree key key') gs → Stands gs rows ts
      → SameCounts (distinct same_values (map key' rows)) (distinct same_values (map key ts))
  Stands-keys key key' gs rows ts full h s = distinct_same same_values same_values-Decides (map key' rows) (map key ts) (Stands-has key key' gs rows ts full h s)

  -- what is of one key on both sides
  pub Stands-part : (key : T → List Value) (key' : R → List Value) (k : List Value) (gs : List (Grouped T)) (rows : List R) (ts : List T)
      → Each (Agree key key') gs → Stands gs rows ts
      → Stands (filter (λ g. same_values (key' (row g)) k) gs) (filter (λ r. same_values (key' r) k) rows) (filter (λ t. same_values (key t) k) ts)
  Stands-part key key' k gs rows ts h s =
      Stands-filter (λ t. same_values (key t) k) (λ r. same_values (key' r) k) gs rows ts (Agree-test key key' (λ l. same_values l k) gs h) s

-- ---- the groups themselves

-- the members of all groups are the list
pub groups_members : {T : Type 0} (key : T → List Value) (ts : List T) → SameCounts (flat_map (λ g. g.1) (groups_by key ts)) ts
groups_members {T} key ts p =
    ap (times p) (flat_map-map (λ g. g.1) (λ k. (k, filter (λ t. same_values (key t) k) ts)) (distinct same_values (map key ts)))
    ∙ distinct_parts same_values same_values-Decides key ts p

-- each group's members have its key
pub groups_agree : {T : Type 0} (key : T → List Value) (ts : List T) → Each (λ g. Each (λ t. key t ≡ g.0) g.1) (groups_by key ts)
groups_agree {T} key ts =
    Each-of_map (λ g. Each (λ t. key t ≡ g.0) g.1) (λ k. (k, filter (λ t. same_values (key t) k) ts)) (distinct same_values (map key ts))
    (Each-of (λ k. Each (λ t. key t ≡ k) (filter (λ t. same_values (key t) k) ts))
    (λ k. Each-map (λ t. same_values (key t) k ≡ true) (λ t. key t ≡ k) (λ t. (same_values-Decides (key t) k).0) (filter (λ t. same_values (key t) k) ts) (Each-passes (λ t. same_values (key t) k) ts))
    (distinct same_values (map key ts)))

-- a group's members are of the list
pub groups_within : {T : Type 0} (P : T → Type 0) (key : T → List Value) (ts : List T) → Each P ts → Each (λ g. Each P g.1) (groups_by key ts)
groups_within {T} P key ts h =
    Each-of_map (λ g. Each P g.1) (λ k. (k, filter (λ t. same_values (key t) k) ts)) (distinct same_values (map key ts))
    (Each-of (λ k. Each P (filter (λ t. same_values (key t) k) ts)) (λ k. Each-filter P (λ t. same_values (key t) k) ts h) (distinct same_values (map key ts)))

filter_full : {T : Type 0} (p : T → Bool) (ts : List T) → list_any p ts ≡ true → is_empty (filter p ts) ≡ false
filter_full p [] h = cc
filter_full {T} p (t ∷ ts) h = by (p t) h (filter_full p ts)
  where
    by : (b : Bool) → (b || list_any p ts) ≡ true → (list_any p ts ≡ true → is_empty (filter p ts) ≡ false) → is_empty (cond b (t ∷ filter p ts) (filter p ts)) ≡ false
    by true h k = refl
    by false h k = k h

own_key : {T : Type 0} (key : T → List Value) (ts : List T) → Each (λ u. list_any (λ t. same_values (key t) (key u)) ts ≡ true) ts
own_key key [] = tt
own_key {T} key (t ∷ ts) = (
  ap (λ b. b || list_any (λ u. same_values (key u) (key t)) ts) ((same_values-Decides (key t) (key t)).1 refl),
  Each-map (λ u. list_any (λ t. same_values (key t) (key u)) ts ≡ true) (λ u. list_any (λ t. same_values (key t) (key u)) (t ∷ ts) ≡ true)
      (λ u h. ap (λ b. same_values (key t) (key u) || b) h ∙ or-true (same_values (key t) (key u))) ts (own_key key ts),
)

-- no group is empty
pub groups_full : {T : Type 0} (key : T → List Value) (ts : List T) → Each (λ g. is_empty g.1 ≡ false) (groups_by key ts)
groups_full {T} key ts =
    Each-of_map (λ g. is_empty g.1 ≡ false) (λ k. (k, filter (λ t. same_values (key t) k) ts)) (distinct same_values (map key ts))
    (Each-distinct same_values (λ k. is_empty (filter (λ t. same_values (key t) k) ts) ≡ false) [] (map key ts)
    (Each-of_map (λ k. is_empty (filter (λ t. same_values (key t) k) ts) ≡ false) key ts
    (Each-map (λ u. list_any (λ t. same_values (key t) (key u)) ts ≡ true) (λ u. is_empty (filter (λ t. same_values (key t) (key u)) ts) ≡ false)
    (λ u. filter_full (λ t. same_values (key t) (key u)) ts) ts (own_key key ts))))

-- what is made of the groups that pass
pub made_counts : {A G C : Type 0} (make : A → G) (passes : G → Bool) (out : G → C) (ks : List A) (p : C → Bool)
    → times p (map out (filter passes (map make ks))) ≡ times (λ k. passes (make k) && p (out (make k))) ks
made_counts make passes out ks p =
    times-map out p (filter passes (map make ks))
    ∙ times-filter passes (λ g. p (out g)) (map make ks)
    ∙ times-map make (λ g. passes g && p (out g)) ks

pub same_made : {A G H C : Type 0} (make : A → G) (make' : A → H) (passes : G → Bool) (passes' : H → Bool) (out : G → C) (out' : H → C)
    → ((k : A) → passes (make k) ≡ passes' (make' k)) → ((k : A) → out (make k) ≡ out' (make' k)) → (ks ks' : List A) → SameCounts ks ks'
    → SameCounts (map out (filter passes (map make ks))) (map out' (filter passes' (map make' ks')))
same_made make make' passes passes' out out' same_pass same_out ks ks' h p =
    made_counts make passes out ks p
    ∙ h (λ k. passes (make k) && p (out (make k)))
    ∙ times_agree (λ k. passes (make k) && p (out (make k))) (λ k. passes' (make' k) && p (out' (make' k))) (λ k i. same_pass k i && p (same_out k i)) ks'
    ∙ sym (made_counts make' passes' out' ks' p)
