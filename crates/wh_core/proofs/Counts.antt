-- How many sessions have a refresh that has begun.
use Rattle.std.proofs.Common.{◌≡◌, ◌≤◌, ◌+◌, ◌∙◌, sym, ap, refl, subst, arith, ℕ, Bool, true, false, cond, not, List, [], ◌∷◌, length, None, Option, Some, ◌==◌}
use Rattle.std.proofs.lemmas.Bool.{eqb-true}
use Rattle.std.proofs.lemmas.List.Sums.{length-filter}
use Rattle.std.specs.List.{filter, find}
use Rattle.std.specs.Prelude.{is_some, unwrap_or}
use Rattle.def_journal.specs.Refreshing.{ended}
use Rattle.def_journal.specs.State.{Begun, Session, State, new_session, session_of, with_session}
use Rattle.wh_core.specs.Kept.{begun_count}

-- the session has begun a refresh
abbrev HasOne : Session → Bool
HasOne x = is_some x.begun

-- it is another one than that of this number
abbrev IsOther : ℕ → Session → Bool
IsOther n y = not (y.number == n)

counted : (xs : List Session) → length (filter HasOne xs) ≡ begun_count xs
counted xs = length-filter HasOne xs

others_fewer : (n : ℕ) (xs : List Session) → length (filter HasOne (filter (IsOther n) xs)) ≤ length (filter HasOne xs)
others_fewer n [] = omega arith
others_fewer n (x ∷ xs) = by (IsOther n x) (others_fewer n xs)
  where
    more : (b : Bool) → length (filter HasOne (filter (IsOther n) xs)) ≤ length (filter HasOne xs) → length (filter HasOne (filter (IsOther n) xs)) ≤ length (cond b (x ∷ filter HasOne xs) (filter HasOne xs))
    more true h = omega arith
    more false h = h

    same : (b : Bool) → length (filter HasOne (filter (IsOther n) xs)) ≤ length (filter HasOne xs)
        → length (cond b (x ∷ filter HasOne (filter (IsOther n) xs)) (filter HasOne (filter (IsOther n) xs))) ≤ length (cond b (x ∷ filter HasOne xs) (filter HasOne xs))
    same true h = omega arith
    same false h = h

    by : (b : Bool) → length (filter HasOne (filter (IsOther n) xs)) ≤ length (filter HasOne xs)
        → length (filter HasOne (cond b (x ∷ filter (IsOther n) xs) (filter (IsOther n) xs))) ≤ length (cond (HasOne x) (x ∷ filter HasOne xs) (filter HasOne xs))
    by true h = same (HasOne x) h
    by false h = more (HasOne x) h

-- the first of this number has one, so the others have one less
others_less : (n : ℕ) (x : Session) (xs : List Session) → find (λ y. y.number == n) xs ≡ Some x → HasOne x ≡ true → length (filter HasOne (filter (IsOther n) xs)) + 1 ≤ length (filter HasOne xs)
others_less n x [] found one = absurd (cc)
others_less n x (y ∷ xs) found one = by (y.number == n) found (others_less n x xs)
  where
    here : (b : Bool) → b ≡ true → length (filter HasOne (filter (IsOther n) xs)) ≤ length (filter HasOne xs)
        → length (filter HasOne (filter (IsOther n) xs)) + 1 ≤ length (cond b (y ∷ filter HasOne xs) (filter HasOne xs))
    here true is h = omega arith
    here false is h = absurd (cc)

    later : (b : Bool) → length (filter HasOne (filter (IsOther n) xs)) + 1 ≤ length (filter HasOne xs)
        → length (cond b (y ∷ filter HasOne (filter (IsOther n) xs)) (filter HasOne (filter (IsOther n) xs))) + 1 ≤ length (cond b (y ∷ filter HasOne xs) (filter HasOne xs))
    later true h = omega arith
    later false h = h

    by : (b : Bool) → cond b (Some y) (find (λ z. z.number == n) xs) ≡ Some x
        → (find (λ z. z.number == n) xs ≡ Some x → HasOne x ≡ true → length (filter HasOne (filter (IsOther n) xs)) + 1 ≤ length (filter HasOne xs))
        → length (filter HasOne (cond (not b) (y ∷ filter (IsOther n) xs) (filter (IsOther n) xs))) + 1 ≤ length (cond (HasOne y) (y ∷ filter HasOne xs) (filter HasOne xs))
    by true is rest = let same : y ≡ x = cc in here (HasOne y) (ap HasOne same ∙ one) (others_fewer n xs)
    by false is rest = later (HasOne y) (rest is one)

-- a session that is put adds one at the most
pub put_more : (s : State) (x : Session) → begun_count (with_session s x).sessions ≤ begun_count s.sessions + 1
put_more s x =
    subst (λ n. n ≤ begun_count s.sessions + 1) (counted (with_session s x).sessions)
    (subst (λ n. length (filter HasOne (with_session s x).sessions) ≤ n + 1) (counted s.sessions) (by (HasOne x) (others_fewer x.number s.sessions)))
  where
    by : (b : Bool) → length (filter HasOne (filter (IsOther x.number) s.sessions)) ≤ length (filter HasOne s.sessions)
        → length (cond b (x ∷ filter HasOne (filter (IsOther x.number) s.sessions)) (filter HasOne (filter (IsOther x.number) s.sessions))) ≤ length (filter HasOne s.sessions) + 1
    by true h = omega arith
    by false h = omega arith

found_number : (n : ℕ) (x : Session) (xs : List Session) → find (λ y. y.number == n) xs ≡ Some x → x.number ≡ n
found_number n x [] found = absurd (cc)
found_number n x (y ∷ xs) found = by (y.number == n) refl found (found_number n x xs)
  where
    by : (b : Bool) → (y.number == n) ≡ b → cond b (Some y) (find (λ z. z.number == n) xs) ≡ Some x → (find (λ z. z.number == n) xs ≡ Some x → x.number ≡ n) → x.number ≡ n
    by true is same rest = let here : y ≡ x = cc in ap (λ (z : Session). z.number) (sym here) ∙ eqb-true y.number n is
    by false is same rest = rest same

-- a session that has begun a refresh is among the sessions
is_there : (n : ℕ) (b : Begun) (xs : List Session) → (unwrap_or (find (λ y. y.number == n) xs) (new_session n)).begun ≡ Some b
    → find (λ y. y.number == n) xs ≡ Some (unwrap_or (find (λ y. y.number == n) xs) (new_session n))
is_there n b xs has = by (find (λ y. y.number == n) xs) has
  where
    by : (o : Option Session) → (unwrap_or o (new_session n)).begun ≡ Some b → o ≡ Some (unwrap_or o (new_session n))
    by None is = absurd (cc)
    by (Some y) is = refl

-- a refresh that ends leaves one less
pub end_less : (s : State) (n : ℕ) (b : Begun) → (session_of s n).begun ≡ Some b → begun_count (ended s (session_of s n)).sessions + 1 ≤ begun_count s.sessions
end_less s n b has =
    let found = is_there n b s.sessions has in
    let number : (session_of s n).number ≡ n = found_number n (session_of s n) s.sessions found in
    let less = others_less (session_of s n).number (session_of s n) s.sessions (subst (λ m. find (λ y. y.number == m) s.sessions ≡ Some (session_of s n)) (sym number) found) (ap is_some has) in
    subst (λ m. m + 1 ≤ begun_count s.sessions) (counted (ended s (session_of s n)).sessions)
    (subst (λ m. length (filter HasOne (ended s (session_of s n)).sessions) + 1 ≤ m) (counted s.sessions) less)
