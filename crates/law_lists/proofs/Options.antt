-- What follows where an option or a result is given: the test that let it through, and that nothing refused.
use Rattle.std.proofs.Common.{◌≡◌, refl, subst, Bool, true, false, cond, List, [], ◌∷◌, ◌++◌, map, Option, None, Some}
use Rattle.std.specs.Prelude.{Ok, Result, is_none}
use Rattle.std.specs.List.{find}
use Rattle.wh_base.specs.Lists.{first_of, first_some, or_refuse, unless, unless_then, where_true, ◌>>=◌}
use Rattle.law_lists.proofs.Each.{Each}

pub none_where : {A : Type 0} (b : Bool) (x : A) → where_true b x ≡ None → b ≡ false
none_where true x e = cc
none_where false x e = refl

pub was_none : {A : Type 0} (o : Option A) → is_none o ≡ true → o ≡ None
was_none None e = refl
was_none (Some x) e = cc

-- where nothing refuses, the first doesn't, and none behind it
pub none_first : {A : Type 0} (o : Option A) (rest : List (Option A)) → first_some (o ∷ rest) ≡ None → (o ≡ None) × (first_some rest ≡ None)
none_first None rest e = (refl, e)
none_first (Some x) rest e = cc

pub none_each : {A B : Type 0} (h : A → Option B) (xs : List A) → first_of h xs ≡ None → Each (λ x. h x ≡ None) xs
none_each h [] e = tt
none_each h (x ∷ xs) e = let both : (h x ≡ None) × (first_of h xs ≡ None) = none_first (h x) (map h xs) e in (both.0, none_each h xs both.1)

pub none_then : {A E : Type 0} (o : Option E) (r : Result A E) (y : A) → unless_then o r ≡ Ok y → (o ≡ None) × (r ≡ Ok y)
none_then None r y e = (refl, e)
none_then (Some x) r y e = cc

pub unless_is : {A E : Type 0} (o : Option E) (x y : A) → unless o x ≡ Ok y → x ≡ y
unless_is None x y e = cc
unless_is (Some r) x y e = cc

-- what was there, and what was made of it
pub or_refuse_is : {A B E : Type 0} (o : Option A) (refusal : E) (f : A → Result B E) (y : B) → (or_refuse o refusal >>= f) ≡ Ok y → (x : A) × ((o ≡ Some x) × (f x ≡ Ok y))
or_refuse_is (Some x) refusal f y e = (x, (refl, e))
or_refuse_is None refusal f y e = cc

-- ---- the first that passes

pub find_passes : {A : Type 0} (p : A → Bool) (xs : List A) (x : A) → find p xs ≡ Some x → p x ≡ true
find_passes p [] x e = cc
find_passes p (y ∷ xs) x e = by (p y) refl e (find_passes p xs x)
  where
    by : (b : Bool) → p y ≡ b → cond b (Some y) (find p xs) ≡ Some x → (find p xs ≡ Some x → p x ≡ true) → p x ≡ true
    by true h e k = let same : y ≡ x = cc in subst (λ z. p z ≡ true) same h
    by false h e k = k e

-- it is found among more, too
pub find_more : {A : Type 0} (p : A → Bool) (xs ys : List A) (x : A) → find p xs ≡ Some x → find p (xs ++ ys) ≡ Some x
find_more p [] ys x e = cc
find_more p (y ∷ xs) ys x e = by (p y) e (find_more p xs ys x)
  where
    by : (b : Bool) → cond b (Some y) (find p xs) ≡ Some x → (find p xs ≡ Some x → find p (xs ++ ys) ≡ Some x) → cond b (Some y) (find p (xs ++ ys)) ≡ Some x
    by true e k = e
    by false e k = k e
