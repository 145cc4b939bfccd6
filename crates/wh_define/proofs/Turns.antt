-- Items asked in turn, each with those before it: one turn of a loop over places.
use Rattle.std.proofs.Common.{◌≡◌, ◌∙◌, ap, refl, sym, ℕ, ◌+◌, ◌<◌, List, [], ◌∷◌, ◌++◌, length, take, drop, get_or, Option, Some, None}
use Rattle.std.proofs.lemmas.List.{drop_more, take_more}
use Rattle.wh_base.specs.Lists.{first_some}
use Rattle.def_resolve.specs.Earlier.{first_after}

none_first : {B : Type 0} (o : Option B) → first_some (o ∷ []) ≡ o
none_first None = refl
none_first (Some b) = refl

-- an item that gives nothing is one of those before the next
passed : {A B : Type 0} (h : List A → A → Option B) (earlier : List A) (x : A) (xs : List A) → None ≡ h earlier x → first_after h earlier (x ∷ xs) ≡ first_after h (earlier ++ x ∷ []) xs
passed h earlier x xs e = rw (sym e) (none_first (first_after h (earlier ++ x ∷ []) xs))

-- what an item gives is what they give
stopped : {A B : Type 0} (h : List A → A → Option B) (earlier : List A) (x : A) (xs : List A) (b : B) → Some b ≡ h earlier x → Some b ≡ first_after h earlier (x ∷ xs)
stopped h earlier x xs b e = rw (sym e) refl

cut_at : {A : Type 0} (xs : List A) (at : ℕ) (x : A) → at < length xs → x ≡ get_or xs at x → drop at xs ≡ x ∷ drop (at + 1) xs
cut_at xs at x less is = drop_more xs at x less ∙ ap (λ y. y ∷ drop (at + 1) xs) (sym is)

pub turn_on : {A B : Type 0} (h : List A → A → Option B) (xs : List A) (at : ℕ) (x : A) → at < length xs → x ≡ get_or xs at x → None ≡ h (take at xs) x → first_after h (take (at + 1) xs) (drop (at + 1) xs) ≡ first_after h (take at xs) (drop at xs)
turn_on h xs at x less is e =
    let kept : take (at + 1) xs ≡ take at xs ++ x ∷ [] = take_more xs at x less ∙ ap (λ y. take at xs ++ y ∷ []) (sym is) in
    sym (ap (first_after h (take at xs)) (cut_at xs at x less is) ∙ passed h (take at xs) x (drop (at + 1) xs) e ∙ ap (λ ys. first_after h ys (drop (at + 1) xs)) (sym kept))

pub turn_off : {A B : Type 0} (h : List A → A → Option B) (xs : List A) (at : ℕ) (x : A) (b : B) → at < length xs → x ≡ get_or xs at x → Some b ≡ h (take at xs) x → Some b ≡ first_after h (take at xs) (drop at xs)
turn_off h xs at x b less is e = stopped h (take at xs) x (drop (at + 1) xs) b e ∙ sym (ap (first_after h (take at xs)) (cut_at xs at x less is))

pub ruleset turns = (turn_on, turn_off)
