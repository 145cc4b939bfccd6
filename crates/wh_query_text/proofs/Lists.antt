-- Steps through a rule that reads again and again.
use Rattle.std.proofs.Common.{◌≡◌, ℕ, suc, List, [], ◌∷◌, ◌++◌, Option, Some, None, refl, ap, sym, append_assoc, append-nil}
use Rattle.std.specs.Prelude.{option_map}
use Rattle.def_grammar.specs.Reading.{many_times}
use Rattle.wh_base.specs.declared.tokens.Token.{Token}

-- these items before those that are read
abbrev pub with_items : {X : Type 0} → List X → Option (List X × List Token) → Option (List X × List Token)
with_items some read = option_map (λ q. (some ++ q.0, q.1)) read

regrouped : {X : Type 0} (some : List X) (x : X) (read : Option (List X × List Token)) → with_items some (option_map (λ q. (x ∷ q.0, q.1)) read) ≡ with_items (some ++ x ∷ []) read
regrouped some x None = refl
regrouped some x (Some q) = ap (λ xs. Some (xs, q.1)) (sym (append_assoc some (x ∷ []) q.0))

-- where the rule reads
pub step : {X : Type 0} (r : List Token → Option (X × List Token)) (some : List X) (x : X) (n k : ℕ) (tokens left : List Token) → k ≡ suc n → r tokens ≡ Some (x, left) → with_items some (many_times k r tokens) ≡ with_items (some ++ x ∷ []) (many_times n r left)
step r some x n k tokens left e h = rw (e, h) (regrouped some x (many_times n r left))

-- where the rule doesn't read
pub stop : {X : Type 0} (r : List Token → Option (X × List Token)) (some : List X) (n k : ℕ) (tokens : List Token) → k ≡ suc n → r tokens ≡ None → with_items some (many_times k r tokens) ≡ Some (some, tokens)
stop r some n k tokens e h = rw (e, h) (ap (λ xs. Some (xs, tokens)) (append-nil some))

-- where no token is left to count
pub last : {X : Type 0} (r : List Token → Option (X × List Token)) (some : List X) (k : ℕ) (tokens : List Token) → k ≡ 0 → with_items some (many_times k r tokens) ≡ Some (some, tokens)
last r some k tokens e = rw e (ap (λ xs. Some (xs, tokens)) (append-nil some))
