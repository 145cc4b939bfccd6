-- Lists for each of the first numbers, one number more at a time.
use Rattle.std.proofs.Common.{◌≡◌, ℕ, suc, zero, ◌+◌, List, [], ◌∷◌, ◌++◌, refl, arith, ap, sym, ◌∙◌, flat_map, append_assoc, zero-add}
use Rattle.std.proofs.lemmas.List.Concat.{flat_map-append, flat_map_single}
use Rattle.wh_base.specs.Lists.{count_from}

-- one number more stands behind the others
count_from-more : (start n : ℕ) → count_from start n ++ (start + n) ∷ [] ≡ count_from start (suc n)
count_from-more start zero = let same : start + 0 ≡ start = omega arith in ap (λ k. k ∷ []) same
count_from-more start (suc n) =
    let same : start + suc n ≡ suc start + n = omega arith in
    ap (λ ks. start ∷ ks) (ap (λ k. count_from (suc start) n ++ k ∷ []) same ∙ count_from-more (suc start) n)

append-nothing : {A : Type 0} (xs : List A) → xs ++ [] ≡ xs
append-nothing [] = refl
append-nothing (x ∷ xs) = ap (λ ys. x ∷ ys) (append-nothing xs)

pub one_list_more : {A : Type 0} (f : ℕ → List A) (n : ℕ) → flat_map f (count_from 0 n) ++ f n ≡ flat_map f (count_from 0 (n + 1))
one_list_more f n =
    let same : n + 1 ≡ suc n = omega arith in
    let counted : count_from 0 n ++ n ∷ [] ≡ count_from 0 (n + 1) = ap (λ k. count_from 0 n ++ k ∷ []) (sym (zero-add n)) ∙ count_from-more 0 n ∙ ap (count_from 0) (sym same) in
    ap (λ xs. flat_map f (count_from 0 n) ++ xs) (sym (append-nothing (f n))) ∙ sym (flat_map-append f (count_from 0 n) (n ∷ [])) ∙ ap (flat_map f) counted

pub ruleset counted = (one_list_more)

pub ruleset single = (flat_map_single)

-- five parts, put behind nothing by twos and the last alone
pub five_parts : {A : Type 0} (a b c d e none first second all : List A) → none ≡ [] → first ≡ none ++ (a ++ b) → second ≡ first ++ (c ++ d) → all ≡ second ++ e
    → all ≡ a ++ (b ++ (c ++ (d ++ e)))
five_parts a b c d e none first second all n f s is =
    is ∙ ap (λ xs. xs ++ e) (s ∙ ap (λ xs. xs ++ (c ++ d)) (f ∙ ap (λ xs. xs ++ (a ++ b)) n)) ∙ append_assoc (a ++ b) (c ++ d) e ∙ append_assoc a b ((c ++ d) ++ e)
    ∙ ap (λ xs. a ++ (b ++ xs)) (append_assoc c d e)
