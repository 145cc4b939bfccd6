-- Names that repeat: one turn of a loop over places.
use Rattle.std.proofs.Common.{◌≡◌, ◌∙◌, ℕ, ◌+◌, ◌<◌, List, [], ◌∷◌, ◌++◌, length, drop, take, get_or, Bool, true, false, Some, cond, refl, ap, sym, ◌||◌}
use Rattle.std.proofs.Math.Bool.{or-false}
use Rattle.std.proofs.lemmas.List.{drop_more, take_more}
use Rattle.std.specs.List.{list_any}
use Rattle.wh_base.specs.Lists.{has_text, repeated_after, same_text}

-- the second list turned round, and then the first
abbrev pub turned : {X : Type 0} → List X → List X → List X
turned done [] = done
turned done (x ∷ xs) = turned (x ∷ done) xs

turned-more : {X : Type 0} (done xs : List X) (x : X) → turned done (xs ++ x ∷ []) ≡ x ∷ turned done xs
turned-more done [] x = refl
turned-more done (y ∷ xs) x = turned-more (y ∷ done) xs x

swapped : (p q r : Bool) → ((p || q) || r) ≡ (q || (p || r))
swapped true true r = refl
swapped true false r = refl
swapped false true r = refl
swapped false false r = refl

any_turned : {X : Type 0} (p : X → Bool) (done xs : List X) → list_any p (turned done xs) ≡ (list_any p xs || list_any p done)
any_turned p done [] = refl
any_turned p done (x ∷ xs) = any_turned p (x ∷ done) xs ∙ sym (swapped (p x) (list_any p xs) (list_any p done))

at_place : (xs : List (List ℕ)) (i : ℕ) (x : List ℕ) → i < length xs → x ≡ get_or xs i x
    → repeated_after same_text (turned [] (take i xs)) (drop i xs) ≡ cond (has_text (take i xs) x) (Some x) (repeated_after same_text (turned [] (take (i + 1) xs)) (drop (i + 1) xs))
at_place xs i x h e =
    rw (drop_more xs i x h, take_more xs i x h, turned-more [] (take i xs) (get_or xs i x))
    (rw (sym e) (rw (any_turned (same_text x) [] (take i xs), or-false (list_any (same_text x) (take i xs))) refl))

pub repeats_on : (xs : List (List ℕ)) (i : ℕ) (x : List ℕ) → i < length xs → x ≡ get_or xs i x → has_text (take i xs) x ≡ false
    → repeated_after same_text (turned [] (take i xs)) (drop i xs) ≡ repeated_after same_text (turned [] (take (i + 1) xs)) (drop (i + 1) xs)
repeats_on xs i x h e none = at_place xs i x h e ∙ ap (λ b. cond b (Some x) (repeated_after same_text (turned [] (take (i + 1) xs)) (drop (i + 1) xs))) none

pub repeats_off : (xs : List (List ℕ)) (i : ℕ) (x : List ℕ) → i < length xs → x ≡ get_or xs i x → has_text (take i xs) x ≡ true
    → repeated_after same_text (turned [] (take i xs)) (drop i xs) ≡ Some x
repeats_off xs i x h e some = at_place xs i x h e ∙ ap (λ b. cond b (Some x) (repeated_after same_text (turned [] (take (i + 1) xs)) (drop (i + 1) xs))) some

pub ruleset names = (repeats_on, repeats_off)
