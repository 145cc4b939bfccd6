-- The front of a list of tokens up to a word, and what follows it.
use Rattle.std.proofs.Common.{◌≡◌, ℕ, suc, ◌+◌, ◌<◌, List, [], ◌∷◌, Bool, true, false, ◌&&◌, cond, refl, ap, arith, length, take, drop, get_or}
use Rattle.std.proofs.lemmas.List.{drop_more}
use Rattle.std.proofs.lemmas.List.Sums.{take_while-cons}
use Rattle.std.specs.Prelude.{codes, not, take_while}
use Rattle.def_rewriting.specs.Matching.{from_on, is_word, same_token, same_tokens}
use Rattle.wh_base.specs.declared.tokens.Token.{Token}

pub front-is : (p : Token → Bool) (ts : List Token) → take (length (take_while p ts)) ts ≡ take_while p ts
front-is p [] = refl
front-is p (t ∷ ts) = rw (take_while-cons p t ts) (by (p t) (front-is p ts))
  where
    by : (b : Bool) → take (length (take_while p ts)) ts ≡ take_while p ts → take (length (cond b (t ∷ take_while p ts) [])) (t ∷ ts) ≡ cond b (t ∷ take_while p ts) []
    by true same = ap (λ rest. t ∷ rest) same
    by false same = refl

abbrev is_before : Token → Bool
is_before t = not (is_word (codes "FROM") t)

pub rest-is : (ts : List Token) → drop (length (take_while (λ t. not (is_word (codes "FROM") t)) ts)) ts ≡ from_on ts
rest-is [] = refl
rest-is (t ∷ ts) = rw (take_while-cons is_before t ts) (by (is_word (codes "FROM") t) (rest-is ts))
  where
    by : (b : Bool) → drop (length (take_while is_before ts)) ts ≡ from_on ts → drop (length (cond (not b) (t ∷ take_while is_before ts) [])) (t ∷ ts) ≡ cond b (t ∷ ts) (from_on ts)
    by true same = refl
    by false same = same

pub ruleset fronts = (front-is)

-- ---- lists of tokens

-- lists of different lengths
pub lengths-differ : (ts us : List Token) → ¬ (length ts ≡ length us) → same_tokens ts us ≡ false
lengths-differ [] [] h = absurd (h refl)
lengths-differ [] (u ∷ us) h = refl
lengths-differ (t ∷ ts) [] h = refl
lengths-differ (t ∷ ts) (u ∷ us) h = rw (lengths-differ ts us (λ e. h (ap suc e))) (none (same_token t u))
  where
    none : (b : Bool) → (b && false) ≡ false
    none true = refl
    none false = refl

-- from one place on
pub same-at : (ts us : List Token) (at : ℕ) (t : Token) → at < length ts → length ts ≡ length us → same_tokens (drop at ts) (drop at us) ≡ (same_token (get_or ts at t) (get_or us at t) && same_tokens (drop (at + 1) ts) (drop (at + 1) us))
same-at ts us at t h e = rw (drop_more ts at t h, drop_more us at t (omega (arith, h, e))) refl

pub ruleset lists = (lengths-differ, same-at)
