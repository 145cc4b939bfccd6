-- Asked of each number and those before it in their order, a number stands twice where it does.
use Rattle.std.proofs.Common.{◌≡◌, ◌∙◌, ap, refl, sym, arith, ℕ, Bool, true, false, cond, List, [], ◌∷◌, ◌++◌, ◌||◌, ◌==◌, Option, Some}
use Rattle.std.specs.Prelude.{is_some, nat_eq}
use Rattle.std.specs.List.{list_any}
use Rattle.std.proofs.lemmas.Bool.Decides.{nat_tests}
use Rattle.std.proofs.lemmas.List.Folds.{list_any-append}
use Rattle.def_resolve.specs.Star.{is_repeated_number}
use Rattle.wh_base.specs.Lists.{has_number, repeated_after}
use Rattle.wh_resolve.specs.Repeats.{repeats_later}

by_first : (b : Bool) (x : ℕ) (o : Option ℕ) (c : Bool) → is_some o ≡ c → is_some (cond b (Some x) o) ≡ (b || c)
by_first true x o c e = refl
by_first false x o c e = e

equal_sym : (x y : ℕ) → nat_eq x y ≡ (y == x)
equal_sym x y = grind (arith, nat_tests)

or_last : (a b c d : Bool) → a ≡ d → b ≡ c → (a || b) ≡ (c || (d || false))
or_last true true c d e f = rw (sym e, sym f) refl
or_last true false c d e f = rw (sym e, sym f) refl
or_last false true c d e f = rw (sym e, sym f) refl
or_last false false c d e f = rw (sym e, sym f) refl

one_more : (x : ℕ) (seen listed : List ℕ) → ((y : ℕ) → list_any (nat_eq y) seen ≡ has_number listed y) → (y : ℕ) → list_any (nat_eq y) (x ∷ seen) ≡ has_number (listed ++ x ∷ []) y
one_more x seen listed h y =
    or_last (nat_eq y x) (list_any (nat_eq y) seen) (has_number listed y) (x == y) (equal_sym y x) (h y) ∙ sym (list_any-append (λ m. m == y) listed (x ∷ []))

same : (seen listed xs : List ℕ) → ((y : ℕ) → list_any (nat_eq y) seen ≡ has_number listed y) → is_some (repeated_after nat_eq seen xs) ≡ repeats_later listed xs
same seen listed [] h = refl
same seen listed (x ∷ xs) h =
    by_first (list_any (nat_eq x) seen) x (repeated_after nat_eq (x ∷ seen) xs) (repeats_later (listed ++ x ∷ []) xs) (same (x ∷ seen) (listed ++ x ∷ []) xs (one_more x seen listed h))
    ∙ ap (λ b. b || repeats_later (listed ++ x ∷ []) xs) (h x)

pub repeats_is : (xs : List ℕ) (b : Bool) → b ≡ repeats_later [] xs → b ≡ is_repeated_number xs
repeats_is xs b e = e ∙ sym (same [] [] xs (λ y. refl))

pub ruleset repeats = (repeats_is)
