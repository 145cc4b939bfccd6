-- For callers that take in a list of passes: what pass 0 keeps of it.
use Rattle.std.proofs.Common.{◌≡◌, ℕ, zero, suc, ◌+◌, ◌-◌, ◌<◌, List, [], ◌∷◌, map, length, get_or, sym, refl, ap, ◌∙◌, subst, arith}
use mathlib.Core.Option.{some}
use lib.ListN.{get_elem?}
use Rattle.scn_lock.specs.declared.view.View.{View}
use Rattle.scn_lock.specs.Words.{HasKept, IsAlone}

at_map : {A B : Type 0} (f : A → B) (xs : List A) (k : ℕ) (x : A) → k < length xs → get_elem? (map f xs) k ≡ some (f (get_or xs k x))
at_map f [] k x low = absurd (omega arith)
at_map f (y ∷ ys) zero x low = refl
at_map f (y ∷ ys) (suc k) x low = at_map f ys k x (omega arith)

-- an element of a list that has one
pub first_of : {A : Type 0} (xs : List A) → 0 < length xs → A
first_of [] h = absurd (omega arith)
first_of (x ∷ xs) h = x

-- A is what the caller has a list of, and kept what pass 0 keeps of one.
module _ {A E : Type 0} (kept : A → ℕ × List E) where
  -- what pass 0 keeps of the one at the place k
  pub has_kept : (xs : List A) (v : View E) (k : ℕ) (x : A) (n : ℕ) (own : List E) → v.joined ≡ map kept xs → k < length xs → kept (get_or xs k x) ≡ (n, own) → HasKept v n own
  has_kept xs v k x n own joined low is = (k, subst (λ (js : List (ℕ × List E)). get_elem? js k ≡ some (n, own)) (sym joined) (at_map kept xs k x low ∙ ap (λ (p : ℕ × List E). some p) is))

  -- where these are the passes 1, 2 and so on up to the last that was made, all were taken in
  pub all_joined : (xs : List A) (v : View E) → ((k : ℕ) (x : A) → k < length xs → (kept (get_or xs k x)).0 ≡ k + 1) → v.joined ≡ map kept xs → v.made ≡ length xs + 1 → IsAlone v
  all_joined xs v numbered joined made n low high = let some-one = first_of xs (omega arith) in let p : ℕ × List E = kept (get_or xs (n - 1) some-one) in
      let is : p.0 ≡ n = omega (arith, numbered (n - 1) some-one (omega arith)) in
      (p.1, has_kept xs v (n - 1) some-one n p.1 joined (omega arith) (λ i. (is i, p.1)))
