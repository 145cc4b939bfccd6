-- The order in which the views of a list are computed: none is left out, none comes twice, and a view beneath comes first.
use Rattle.std.proofs.Common.{◌≡◌, ◌∙◌, sym, ap, subst, refl, arith, ℕ, zero, suc, ◌<◌, ◌≤◌, Bool, true, false, cond, not, List, [], ◌∷◌, length, Option, Some, None, ◌==◌, ◌||◌, true≢false}
use Rattle.std.specs.List.{filter, find, list_any}
use Rattle.std.proofs.lemmas.Bool.{eq-eqb, eqb-false, eqb-true, ne_eqb, not-false, not-true}
use Rattle.std.proofs.Math.Bool.{or-true}
use Rattle.wh_base.specs.Lists.{option_case, option_nat_is}
use Rattle.def_history.specs.Catalog.{View}
use Rattle.def_journal.specs.Listing.{in_turn, is_ready}
use Rattle.law_trace.proofs.Listed.{Each, Pairs, any_false, each_filter, each_found, each_weaker}
use Rattle.law_trace.proofs.Parenting.{find_none}
use Rattle.law_lists.proofs.Each.{Each-from_none, Each-passes, Each-unfilter}
use Rattle.law_lists.proofs.Options.{find_passes}

abbrev pub IsOlder : View → Type 0
IsOlder v = (n : ℕ) → v.def.beneath ≡ Some n → n < v.def.view

-- the view beneath v is w
abbrev pub is_beneath : View → View → Bool
is_beneath v w = option_nat_is v.def.beneath w.def.view

-- ---- tests

-- a list is shorter without what was found in it
filter_most : {A : Type 0} (q : A → Bool) (xs : List A) → length (filter q xs) ≤ length xs
filter_most q [] = omega arith
filter_most q (x ∷ xs) = by (q x) (filter_most q xs)
  where
    by : (b : Bool) → length (filter q xs) ≤ length xs → length (cond b (x ∷ filter q xs) (filter q xs)) ≤ suc (length xs)
    by true k = omega (arith, k)
    by false k = omega (arith, k)

filter_less : {A : Type 0} (p q : A → Bool) (xs : List A) (v : A) → find p xs ≡ Some v → q v ≡ false → length (filter q xs) < length xs
filter_less p q [] v e h = cc
filter_less p q (x ∷ xs) v e h = by (p x) e (filter_less p q xs v) (filter_most q xs)
  where
    less : (b : Bool) → length (filter q xs) < length xs → length (cond b (x ∷ filter q xs) (filter q xs)) < suc (length xs)
    less true k = omega (arith, k)
    less false k = omega (arith, k)

    by : (b : Bool) → cond b (Some x) (find p xs) ≡ Some v → (find p xs ≡ Some v → q v ≡ false → length (filter q xs) < length xs) → length (filter q xs) ≤ length xs
        → length (filter q (x ∷ xs)) < suc (length xs)
    by true e k most =
        let same : x ≡ v = cc in
        let out : q x ≡ false = ap q same ∙ h in
        subst (λ b. length (cond b (x ∷ filter q xs) (filter q xs)) < suc (length xs)) (sym out) (omega (arith, most))
    by false e k most = less (q x) (k e h)

-- ---- one of those that are left is ready

module _ (left : List View) (older : Each IsOlder left) (none : Each (λ v. is_ready left v ≡ false) left) where
  apart_of : (v : View) (k : ℕ) → IsOlder v → v.def.view ≡ k → Each (λ w. k ≤ w.def.view) left → Each (λ w. is_beneath v w ≡ false) left
  apart_of v k old same high = by v.def.beneath refl
    where
      by : (o : Option ℕ) → v.def.beneath ≡ o → Each (λ w. option_nat_is o w.def.view ≡ false) left
      by None e = each_weaker (λ w. k ≤ w.def.view) (λ w. option_nat_is None w.def.view ≡ false) (λ w h. refl) left high
      by (Some m) e =
          let below : m < v.def.view = old m e in
          each_weaker (λ w. k ≤ w.def.view) (λ w. option_nat_is (Some m) w.def.view ≡ false) (λ w h. ne_eqb m w.def.view (λ d. absurd (omega (arith, d, h, same, below)))) left high

  higher : (k : ℕ) → Each (λ w. k ≤ w.def.view) left → (v : View) → (IsOlder v × (is_ready left v ≡ false)) × (k ≤ v.def.view) → suc k ≤ v.def.view
  higher k high v h = by (v.def.view == k) refl
    where
      by : (b : Bool) → (v.def.view == k) ≡ b → suc k ≤ v.def.view
      by true e =
          let beneath : list_any (is_beneath v) left ≡ true = not-false (list_any (is_beneath v) left) h.0.1 in
          let nothing : list_any (is_beneath v) left ≡ false = any_false (is_beneath v) left (apart_of v k h.0.0 (eqb-true v.def.view k e) high) in
          absurd (true≢false (sym beneath ∙ nothing))
      by false e =
          let differ : (v.def.view ≡ k → ⊥) = eqb-false v.def.view k e in
          let low : k ≤ v.def.view = h.1 in
          omega (arith, differ, low)

  each_both : {A : Type 0} (P Q : A → Type 0) (xs : List A) → Each P xs → Each Q xs → Each (λ x. P x × Q x) xs
  each_both P Q [] h k = tt
  each_both P Q (x ∷ xs) h k = ((h.0, k.0), each_both P Q xs h.1 k.1)

  at_least : (k : ℕ) → Each (λ w. k ≤ w.def.view) left
  at_least zero = each_weaker IsOlder (λ w. 0 ≤ w.def.view) (λ w h. omega arith) left older
  at_least (suc k) =
      each_weaker (λ v. (IsOlder v × (is_ready left v ≡ false)) × (k ≤ v.def.view)) (λ w. suc k ≤ w.def.view) (higher k (at_least k)) left
      (each_both (λ v. IsOlder v × (is_ready left v ≡ false)) (λ v. k ≤ v.def.view) left (each_both IsOlder (λ v. is_ready left v ≡ false) left older none) (at_least k))

none_left : (left : List View) → Each IsOlder left → find (is_ready left) left ≡ None → left ≡ []
none_left [] older e = refl
none_left (v ∷ left) older e =
    let high : suc v.def.view ≤ v.def.view = (at_least (v ∷ left) older (find_none (is_ready (v ∷ left)) (v ∷ left) e) (suc v.def.view)).0 in
    absurd (omega (arith, high))

-- ---- the whole order

abbrev pub has_number_of : List View → View → Bool
has_number_of vs u = list_any (λ w. w.def.view == u.def.view) vs

abbrev pub differs : View → View → Bool
differs v w = not (w.def.view == v.def.view)

no_length : {A : Type 0} (xs : List A) → length xs ≤ 0 → xs ≡ []
no_length [] h = refl
no_length (x ∷ xs) h = absurd (omega (arith, h))

not_differs : (v u : View) → not (u.def.view == v.def.view) ≡ false → (v.def.view == u.def.view) ≡ true
not_differs v u h = eq-eqb v.def.view u.def.view (sym (eqb-true u.def.view v.def.view (not-false (u.def.view == v.def.view) h)))

-- none is left out
pub all_turn : (n : ℕ) (left : List View) → length left ≤ n → Each IsOlder left → Each (λ u. has_number_of (in_turn n left) u ≡ true) left
all_turn zero left short older = subst (Each (λ u. has_number_of (in_turn zero left) u ≡ true)) (sym (no_length left short)) tt
all_turn (suc n) left short older = by (find (is_ready left) left) refl (λ v. all_turn n (filter (differs v) left))
  where
    by : (o : Option View) → find (is_ready left) left ≡ o
        → ((v : View) → length (filter (differs v) left) ≤ n → Each IsOlder (filter (differs v) left) → Each (λ u. has_number_of (in_turn n (filter (differs v) left)) u ≡ true) (filter (differs v) left))
        → Each (λ u. has_number_of (option_case o [] (λ v. v ∷ in_turn n (filter (differs v) left))) u ≡ true) left
    by None e k = subst (Each (λ u. has_number_of [] u ≡ true)) (sym (none_left left older e)) tt
    by (Some v) e k =
        let itself : differs v v ≡ false = ap not (eq-eqb v.def.view v.def.view refl) in
        let less : length (filter (differs v) left) < length left = filter_less (is_ready left) (differs v) left v e itself in
        let rest : Each (λ u. has_number_of (in_turn n (filter (differs v) left)) u ≡ true) (filter (differs v) left)
        = k v (omega (arith, less, short)) (each_filter IsOlder (differs v) left older) in
        each_weaker (λ u. differs v u ≡ true → has_number_of (in_turn n (filter (differs v) left)) u ≡ true) (λ u. has_number_of (v ∷ in_turn n (filter (differs v) left)) u ≡ true)
        (λ u h. one u (differs v u) refl h) left
        (Each-unfilter (λ u. has_number_of (in_turn n (filter (differs v) left)) u ≡ true) (differs v) left rest)
      where
        one : (u : View) (b : Bool) → differs v u ≡ b → (differs v u ≡ true → has_number_of (in_turn n (filter (differs v) left)) u ≡ true)
            → has_number_of (v ∷ in_turn n (filter (differs v) left)) u ≡ true
        one u true e h = ap (λ b. (v.def.view == u.def.view) || b) (h e) ∙ or-true (v.def.view == u.def.view)
        one u false e h = ap (λ b. b || has_number_of (in_turn n (filter (differs v) left)) u) (not_differs v u e)

-- each is of the list
pub turn_within : (P : View → Type 0) (n : ℕ) (left : List View) → Each P left → Each P (in_turn n left)
turn_within P zero left h = tt
turn_within P (suc n) left h = by (find (is_ready left) left) refl (λ v. turn_within P n (filter (differs v) left) (each_filter P (differs v) left h))
  where
    by : (o : Option View) → find (is_ready left) left ≡ o → ((v : View) → Each P (in_turn n (filter (differs v) left))) → Each P (option_case o [] (λ v. v ∷ in_turn n (filter (differs v) left)))
    by None e k = tt
    by (Some v) e k = (each_found P (is_ready left) left v h e, k v)

-- a later one is another view, and isn't beneath an earlier one; nor is a view beneath itself
abbrev pub Follows : View → View → Type 0
Follows v w = (differs v w ≡ true) × (is_beneath v w ≡ false)

pub turns_follow : (n : ℕ) (left : List View) → Pairs Follows (in_turn n left) × Each (λ v. is_beneath v v ≡ false) (in_turn n left)
turns_follow zero left = (tt, tt)
turns_follow (suc n) left = by (find (is_ready left) left) refl (λ v. turns_follow n (filter (differs v) left))
  where
    by : (o : Option View) → find (is_ready left) left ≡ o
        → ((v : View) → Pairs Follows (in_turn n (filter (differs v) left)) × Each (λ v. is_beneath v v ≡ false) (in_turn n (filter (differs v) left)))
        → Pairs Follows (option_case o [] (λ v. v ∷ in_turn n (filter (differs v) left))) × Each (λ v. is_beneath v v ≡ false) (option_case o [] (λ v. v ∷ in_turn n (filter (differs v) left)))
    by None e k = (tt, tt)
    by (Some v) e k =
        let ready : Each (λ w. is_beneath v w ≡ false) left = Each-from_none (is_beneath v) left (not-true (list_any (is_beneath v) left) (find_passes (is_ready left) left v e)) in (
          (
            turn_within (Follows v) n (filter (differs v) left)
                (each_two (λ w. differs v w ≡ true) (λ w. is_beneath v w ≡ false) (filter (differs v) left) (Each-passes (differs v) left) (each_filter (λ w. is_beneath v w ≡ false) (differs v) left ready)),
            (k v).0,
          ),
          (each_found (λ w. is_beneath v w ≡ false) (is_ready left) left v ready e, (k v).1),
        )
      where
        each_two : {A : Type 0} (P Q : A → Type 0) (xs : List A) → Each P xs → Each Q xs → Each (λ x. P x × Q x) xs
        each_two P Q [] h k = tt
        each_two P Q (x ∷ xs) h k = ((h.0, k.0), each_two P Q xs h.1 k.1)
