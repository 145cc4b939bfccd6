-- Journals that begin with others, and the events in them that bear a number.
use Rattle.std.proofs.Common.{◌≡◌, ◌≢◌, ◌⊎◌, ℕ, ◌<◌, ◌≤◌, ◌==◌, List, [], ◌∷◌, ◌++◌, length, drop, cond, sym, refl, ap, ◌∙◌, subst, ⊎_elim, arith, append_assoc, append-nil, length-append, ne_eqb, eq-eqb, lt-ltb, le-ltb, Bool}
use Rattle.std.proofs.lemmas.List.Elements.{filter-append}
use mathlib.Core.Logic.{dite}
use mathlib.Core.Option.{some-injective}
use native.Mathlib.Decide.{dec_le}
use lib.ListN.{get_elem?}
use Rattle.scn_lock.specs.Journal.{StartsWith, events_of, Adds}
use Rattle.scn_lock.specs.Steps.{longer, shorter}

module _ {A : Type 0} where
  pub starts_refl : (l : List A) → StartsWith l l
  starts_refl l = ([], sym (append-nil l))

  pub starts_trans : (a b c : List A) → StartsWith a b → StartsWith b c → StartsWith a c
  starts_trans a b c p q = (q.0 ++ p.0, p.1 ∙ (ap (λ (x : List A). x ++ p.0) q.1 ∙ append_assoc c q.0 p.0))

  pub starts_length : (a b : List A) → StartsWith a b → length b ≤ length a
  starts_length a b p = omega (arith, ap (λ (x : List A). length x) p.1, length-append b p.0)

  -- of two beginnings of one list the longer begins with the shorter
  pub starts_shorter : (l a b : List A) → StartsWith l a → StartsWith l b → length b ≤ length a → StartsWith a b
  starts_shorter l a [] p q h = (a, refl)
  starts_shorter l [] (y ∷ ys) p q h = absurd (omega arith)
  starts_shorter [] (x ∷ xs) (y ∷ ys) p q h = absurd (omega (arith, ap (λ (z : List A). length z) p.1))
  starts_shorter (z ∷ zs) (x ∷ xs) (y ∷ ys) p q h =
      let rest = starts_shorter zs xs ys (p.0, ap (λ (k : List A). drop 1 k) p.1) (q.0, ap (λ (k : List A). drop 1 k) q.1) (omega arith) in
      let same : x ≡ y = some-injective x y (ap (λ (k : List A). get_elem? k 0) (sym p.1 ∙ q.1)) in
      (rest.0, λ i. same i ∷ rest.1 i)

  pub drop_past : (l m : List A) → drop (length l) (l ++ m) ≡ m
  drop_past [] m = refl
  drop_past (x ∷ xs) m = drop_past xs m

  -- a beginning that is no shorter is the whole
  pub starts_whole : (l a : List A) → StartsWith l a → length l ≤ length a → a ≡ l
  starts_whole l a p h = let none = no_more p.0 (omega (arith, ap (λ (x : List A). length x) p.1, length-append a p.0)) in sym (append-nil a) ∙ (ap (λ (x : List A). a ++ x) (sym none) ∙ sym p.1)
    where
      no_more : (r : List A) → length r ≤ 0 → r ≡ []
      no_more [] h = refl
      no_more (x ∷ xs) h = absurd (omega arith)

  pub append_none : (l m : List A) → l ++ m ≡ [] → l ≡ []
  append_none [] m e = refl
  append_none (x ∷ xs) m e = absurd (omega (arith, ap (λ (k : List A). length k) e))

module _ {E : Type 0} (number : E → ℕ) where
  pub events_append : (n : ℕ) (l m : List E) → events_of number n (l ++ m) ≡ events_of number n l ++ events_of number n m
  events_append n l m = filter-append (λ e. number e == n) l m

  pub events_one : (n : ℕ) (e : E) → number e ≡ n → events_of number n (e ∷ []) ≡ e ∷ []
  events_one n e h = ap (λ b. cond b (e ∷ []) []) (eq-eqb (number e) n h)

  pub events_other : (n : ℕ) (e : E) → number e ≢ n → events_of number n (e ∷ []) ≡ []
  events_other n e h = ap (λ b. cond b (e ∷ []) []) (ne_eqb (number e) n h)

  pub events_before : (n : ℕ) (log seen : List E) → StartsWith log seen → events_of number n log ≡ [] → events_of number n seen ≡ []
  events_before n log seen p h = append_none (events_of number n seen) (events_of number n p.0) (sym (events_append n seen p.0) ∙ (sym (ap (events_of number n) p.1) ∙ h))

  -- the events are all in a beginning, so they are all in a longer one
  pub events_between : (n : ℕ) (log mid seen es : List E) → StartsWith log mid → StartsWith mid seen → events_of number n log ≡ es → events_of number n seen ≡ es → events_of number n mid ≡ es
  events_between n log mid seen es p q all few =
      let a = ap (events_of number n) p.1 ∙ events_append n mid p.0 in let b = ap (events_of number n) q.1 ∙ events_append n seen q.0 in
      let none-more = no_more (events_of number n q.0) (omega (arith, ap (λ (l : List E). length l) a, ap (λ (l : List E). length l) b, ap (λ (l : List E). length l) all, ap (λ (l : List E). length l) few, length-append (events_of number n mid) (events_of number n p.0), length-append (events_of number n seen) (events_of number n q.0))) in
      b ∙ (ap (λ (l : List E). events_of number n seen ++ l) none-more ∙ (append-nil (events_of number n seen) ∙ few))
    where
      no_more : (r : List E) → length r ≤ 0 → r ≡ []
      no_more [] h = refl
      no_more (x ∷ xs) h = absurd (omega arith)

  -- a number that bears nothing of what was added
  pub same_events : (n : ℕ) (before more after : List E) → after ≡ before ++ more → events_of number n more ≡ [] → events_of number n after ≡ events_of number n before
  same_events n before more after e nothing = ap (events_of number n) e ∙ (events_append n before more ∙ (ap (λ (l : List E). events_of number n before ++ l) nothing ∙ append-nil (events_of number n before)))

  -- at most one event was added
  pub added : (n : ℕ) (before after : List E) → Adds number n before after → (more : List E) × (after ≡ before ++ more) × (events_of number n more ≡ more) × ((j : ℕ) → j ≢ n → events_of number j more ≡ [])
  added n before after h = ⊎_elim (λ e. ([], e ∙ sym (append-nil before), refl, (λ _ _. refl)))
      (λ (t : (e : E) × (after ≡ before ++ e ∷ []) × (number e ≡ n)). (t.0 ∷ [], t.1, events_one n t.0 t.2, (λ j ne. events_other j t.0 (λ e. ne (sym e ∙ t.2))))) h

module _ {E : Type 0} where
  -- of two lists the longer one
  pub of_longer : (a b : List E) (P : List E → List E → Type 0) → (length a < length b → P b a) → (length b ≤ length a → P a b) → P (longer a b) (shorter a b)
  of_longer a b P less more = dite (dec_le (length b) (length a))
      (λ h. subst (λ (y : Bool). P (cond y b a) (cond y a b)) (sym (le-ltb (length a) (length b) h)) (more h))
      (λ h. let l : length a < length b = omega arith in subst (λ (y : Bool). P (cond y b a) (cond y a b)) (sym (lt-ltb (length a) (length b) l)) (less l))

  -- where one of two beginnings is the whole, the longer is
  pub longer_whole : (log a b : List E) → StartsWith log a → StartsWith log b → (a ≡ log) ⊎ (b ≡ log) → longer a b ≡ log
  longer_whole log a b p q h = of_longer a b (λ l _. l ≡ log)
      (λ less. ⊎_elim (λ e. absurd (omega (arith, starts_length log b q, ap (λ (z : List E). length z) e))) (λ e. e) h)
      (λ more. ⊎_elim (λ e. e) (λ e. starts_whole log a p (omega (arith, ap (λ (z : List E). length z) e))) h)
