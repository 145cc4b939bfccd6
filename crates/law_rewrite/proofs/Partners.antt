-- A table in which each way has exactly one partner can be left out of a product.
use Rattle.std.proofs.Common.{◌≡◌, ◌∙◌, sym, ap, refl, arith, ℕ, zero, suc, ◌+◌, Bool, true, false, cond, List, [], ◌∷◌, ◌++◌, map}
use Rattle.std.specs.Prelude.{◌&&◌}
use Rattle.std.specs.List.{flat_map}
use Rattle.wh_base.proofs.Sorting.{times}
use Rattle.def_meaning.specs.Joined.{product}
use Rattle.law_lists.proofs.Each.{Each-map, Each-of_mapped}
use Rattle.law_lists.proofs.Counts.{times-append, times-map, times_agree}
use Rattle.law_rewrite.specs.Words.{Each}
use Rattle.law_rewrite.proofs.Answering.{Each-split}

-- over the first list's items, the counts over the rest
abbrev pub over : {A : Type 0} → (A → ℕ) → List A → ℕ
over f [] = 0
over f (x ∷ xs) = f x + over f xs

times-product : {A : Type 0} (p : List A → Bool) (more : List (List A)) (xs : List A) → times p (flat_map (λ x. map (λ rest. x ∷ rest) (product more)) xs) ≡ over (λ x. times (λ rest. p (x ∷ rest)) (product more)) xs
times-product p more [] = refl
times-product p more (x ∷ xs) =
    times-append p (map (λ rest. x ∷ rest) (product more)) (flat_map (λ y. map (λ rest. y ∷ rest) (product more)) xs)
    ∙ (λ i. times-map (λ rest. x ∷ rest) p (product more) i + times-product p more xs i)

-- a test that comes before another
pub times-and : {A : Type 0} (b : Bool) (p : A → Bool) (xs : List A) → times (λ x. b && p x) xs ≡ cond b (times p xs) 0
times-and true p xs = refl
times-and false p [] = refl
times-and false p (x ∷ xs) = let e : times (λ y. false && p y) xs ≡ 0 = times-and false p xs in omega (arith, e)

abbrev pub many : ℕ → ℕ → ℕ
many n zero = 0
many n (suc k) = n + many n k

one_step : (n : ℕ) (b : Bool) (k m : ℕ) → cond b 1 0 + k ≡ m → cond b n 0 + many n k ≡ many n m
one_step n true k m h = let f : suc k ≡ m = omega (arith, h) in ap (many n) f
one_step n false k m h = let f : k ≡ m = omega (arith, h) in omega (arith, ap (many n) f)

pub over-times : {A : Type 0} (e : A → Bool) (n : ℕ) (xs : List A) → over (λ x. cond (e x) n 0) xs ≡ many n (times e xs)
over-times e n [] = refl
over-times e n (x ∷ xs) = ap (λ k. cond (e x) n 0 + k) (over-times e n xs) ∙ one_step n (e x) (times e xs) (times e (x ∷ xs)) refl

pub over-one : {A : Type 0} (e : A → Bool) (n : ℕ) (xs : List A) → times e xs ≡ 1 → over (λ x. cond (e x) n 0) xs ≡ n
over-one e n xs h = over-times e n xs ∙ ap (many n) h ∙ once
  where
    once : many n 1 ≡ n
    once = omega arith

pub over_agree : {A : Type 0} (f g : A → ℕ) (xs : List A) → Each (λ x. f x ≡ g x) xs → over f xs ≡ over g xs
over_agree f g [] h = refl
over_agree f g (x ∷ xs) h = λ i. h.0 i + over_agree f g xs h.1 i

prefixes : {A : Type 0} (P : List A → Type 0) (more : List (List A)) (xs : List A) → Each P (flat_map (λ x. map (λ rest. x ∷ rest) (product more)) xs) → Each (λ x. Each (λ rest. P (x ∷ rest)) (product more)) xs
prefixes P more [] h = tt
prefixes P more (x ∷ xs) h =
    let both : Each P (map (λ rest. x ∷ rest) (product more)) × Each P (flat_map (λ y. map (λ rest. y ∷ rest) (product more)) xs)
    = Each-split P (map (λ rest. x ∷ rest) (product more)) (flat_map (λ y. map (λ rest. y ∷ rest) (product more)) xs) h in
    (Each-of_mapped P (λ rest. x ∷ rest) (product more) both.0, prefixes P more xs both.1)

-- the lists of a product with one more list in the middle, of whose items each beginning has exactly one partner
pub one_partner : {A : Type 0} (whole part : List A → Bool) (partner : List A → A → Bool) (before : List (List A)) (rows : List A) (after : List (List A))
    → ((front rest : List A) (r : A) → whole (front ++ (r ∷ rest)) ≡ (partner front r && part (front ++ rest)))
    → Each (λ front. times (partner front) rows ≡ 1) (product before)
    → times whole (product (before ++ (rows ∷ after))) ≡ times part (product (before ++ after))
one_partner whole part partner [] rows after splits once =
    times-product whole after rows
    ∙ ap (λ f. over f rows) (λ i r. times_agree (λ rest. whole (r ∷ rest)) (λ rest. partner [] r && part rest) (λ rest. splits [] rest r) (product after) i)
    ∙ ap (λ f. over f rows) (λ i r. times-and (partner [] r) part (product after) i)
    ∙ over-one (partner []) (times part (product after)) rows once.0
one_partner {A} whole part partner (xs ∷ before) rows after splits once =
    times-product whole (before ++ (rows ∷ after)) xs
    ∙ over_agree (λ x. times (λ rest. whole (x ∷ rest)) (product (before ++ (rows ∷ after)))) (λ x. times (λ rest. part (x ∷ rest)) (product (before ++ after))) xs
    (Each-map (λ x. Each (λ front. times (partner (x ∷ front)) rows ≡ 1) (product before))
    (λ x. times (λ rest. whole (x ∷ rest)) (product (before ++ (rows ∷ after))) ≡ times (λ rest. part (x ∷ rest)) (product (before ++ after)))
    (λ x h. one_partner (λ rest. whole (x ∷ rest)) (λ rest. part (x ∷ rest)) (λ front. partner (x ∷ front)) before rows after (λ front rest r. splits (x ∷ front) rest r) h)
    xs (prefixes (λ front. times (partner front) rows ≡ 1) before xs once))
    ∙ sym (times-product part (before ++ after) xs)
