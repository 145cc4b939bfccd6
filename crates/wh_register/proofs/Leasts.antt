-- Lists with the same members have the same least number.
use Rattle.std.proofs.Common.{◌≡◌, ◌∙◌, ◌≤◌, ◌⊎◌, sym, ap, subst, refl, arith, inl, inr, ℕ, Bool, true, false, cond, List, [], ◌∷◌, Option, None, Some, nat_lt}
use Rattle.std.proofs.lemmas.Option.{same_Some}
use Rattle.std.specs.List.{All, cons_option, filter_map}
use Rattle.std.proofs.lemmas.Bool.Decides.{nat_tests}
use Rattle.std.proofs.lemmas.List.Elements.{All-head, All-tail}
use Rattle.wh_base.specs.Lists.{least_of}
use Rattle.wh_register.specs.Register.{least_point}

abbrev pub Member : {A : Type 0} → A → List A → Type 0
Member x [] = ⊥
Member x (y ∷ ys) = (x ≡ y) ⊎ Member x ys

pub all_member : {A : Type 0} (P : A → Type 0) (xs : List A) (x : A) → All P xs → Member x xs → P x
all_member P [] x h m = absurd m
all_member P (y ∷ ys) x h m = elim m [ inl e ↦ subst P (sym e) (All-head P y ys h) | inr more ↦ all_member P ys x (All-tail P y ys h) more ]

-- ---- the members of what `filter_map` gives

module _ {A B : Type 0} (h : A → Option B) where
  pub mapped : (xs : List A) (x : A) (y : B) → Member x xs → h x ≡ Some y → Member y (filter_map h xs)
  mapped [] x y m e = absurd m
  mapped (z ∷ zs) x y m e = by (h z) refl m (mapped zs x y)
    where
      by : (o : Option B) → h z ≡ o → Member x (z ∷ zs) → (Member x zs → h x ≡ Some y → Member y (filter_map h zs)) → Member y (cons_option o (filter_map h zs))
      by None g m more = elim m [ inl same ↦ absurd (none_some y (sym g ∙ ap h (sym same) ∙ e)) | inr later ↦ more later e ]
        where
          none_some : (y : B) → None ≡ Some y → ⊥
          none_some y e = cc
      by (Some w) g m more = elim m [ inl same ↦ inl (same_Some y w (sym e ∙ ap h same ∙ g)) | inr later ↦ inr (more later e) ]

  pub from_mapped : (xs : List A) (y : B) → Member y (filter_map h xs) → (x : A) × Member x xs × (h x ≡ Some y)
  from_mapped [] y m = absurd m
  from_mapped (z ∷ zs) y m = by (h z) refl m (from_mapped zs y)
    where
      by : (o : Option B) → h z ≡ o → Member y (cons_option o (filter_map h zs)) → (Member y (filter_map h zs) → (x : A) × Member x zs × (h x ≡ Some y)) → (x : A) × Member x (z ∷ zs) × (h x ≡ Some y)
      by None g m more = let found = more m in (found.0, inr found.1, found.2)
      by (Some w) g m more = elim m [ inl same ↦ (z, inl refl, g ∙ ap Some (sym same)) | inr later ↦ let found = more later in (found.0, inr found.1, found.2) ]

-- ---- the least

lesser_low : (m n : ℕ) → (cond (nat_lt m n) m n ≤ m) × (cond (nat_lt m n) m n ≤ n)
lesser_low m n = grind (arith, nat_tests)

least_low : (n : ℕ) (ms : List ℕ) → least_of n ms ≤ n
least_low n [] = omega arith
least_low n (m ∷ ms) = omega (arith, least_low (cond (nat_lt m n) m n) ms, (lesser_low m n).1)

least_under : (n : ℕ) (ms : List ℕ) (p : ℕ) → Member p ms → least_of n ms ≤ p
least_under n [] p h = absurd h
least_under n (m ∷ ms) p h = elim h [ inl e ↦ omega (arith, e, least_low (cond (nat_lt m n) m n) ms, (lesser_low m n).0) | inr later ↦ least_under (cond (nat_lt m n) m n) ms p later ]

least_there : (n : ℕ) (ms : List ℕ) → Member (least_of n ms) (n ∷ ms)
least_there n [] = inl refl
least_there n (m ∷ ms) = by (nat_lt m n) (least_there m ms) (least_there n ms)
  where
    by : (b : Bool) → Member (least_of m ms) (m ∷ ms) → Member (least_of n ms) (n ∷ ms) → Member (least_of (cond b m n) ms) (n ∷ m ∷ ms)
    by true h k = inr h
    by false h k = elim k [ inl e ↦ inl e | inr later ↦ inr (inr later) ]

least_first : (n : ℕ) (ms : List ℕ) (p : ℕ) → Member p (n ∷ ms) → least_of n ms ≤ p
least_first n ms p h = elim h [ inl e ↦ omega (arith, e, least_low n ms) | inr later ↦ least_under n ms p later ]

pub same_least : (now : ℕ) (ps qs : List ℕ) → ((p : ℕ) → Member p ps → Member p qs) → ((p : ℕ) → Member p qs → Member p ps) → least_point now ps ≡ least_point now qs
same_least now [] [] there back = refl
same_least now [] (q ∷ qs) there back = absurd (back q (inl refl))
same_least now (p ∷ ps) [] there back = absurd (there p (inl refl))
same_least now (p ∷ ps) (q ∷ qs) there back =
    let left : least_of p ps ≤ least_of q qs = least_first p ps (least_of q qs) (back (least_of q qs) (least_there q qs)) in
    let right : least_of q qs ≤ least_of p ps = least_first q qs (least_of p ps) (there (least_of p ps) (least_there p ps)) in
    omega arith
