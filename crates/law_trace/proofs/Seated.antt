-- What putting a session does: it is there as it is now, and the others are as they were.
use Rattle.std.proofs.Common.{◌≡◌, ◌∙◌, ap, refl, ℕ, Bool, true, false, cond, not, List, [], ◌∷◌, Some, ◌==◌}
use Rattle.std.specs.List.{filter, find}
use Rattle.std.specs.Prelude.{unwrap_or}
use Rattle.std.proofs.lemmas.Bool.{eqb-true, eq-eqb}
use Rattle.def_journal.specs.State.{Session, State, new_session, session_of, with_session}
use Rattle.law_trace.proofs.Listed.{find_without}

number_found : (n : ℕ) (xs : List Session) → (unwrap_or (find (λ x. x.number == n) xs) (new_session n)).number ≡ n
number_found n [] = refl
number_found n (x ∷ xs) = by (x.number == n) refl (number_found n xs)
  where
    by : (b : Bool) → (x.number == n) ≡ b → (unwrap_or (find (λ y. y.number == n) xs) (new_session n)).number ≡ n
        → (unwrap_or (cond b (Some x) (find (λ y. y.number == n) xs)) (new_session n)).number ≡ n
    by true e h = eqb-true x.number n e
    by false e h = h

-- a session has its number
pub own_number : (s : State) (n : ℕ) → (session_of s n).number ≡ n
own_number s n = number_found n s.sessions

pub put_own : (s : State) (y : Session) (n : ℕ) → y.number ≡ n → session_of (with_session s y) n ≡ y
put_own s y n same = ap (λ b. unwrap_or (cond b (Some y) (find (λ x. x.number == n) (filter (λ z. not (z.number == y.number)) s.sessions))) (new_session n)) (eq-eqb y.number n same)

pub put_other : (s : State) (y : Session) (n : ℕ) → (y.number == n) ≡ false → session_of (with_session s y) n ≡ session_of s n
put_other s y n differ =
    ap (λ b. unwrap_or (cond b (Some y) (find (λ x. x.number == n) (filter (λ z. not (z.number == y.number)) s.sessions))) (new_session n)) differ
    ∙ ap (λ o. unwrap_or o (new_session n)) (find_without (λ x. x.number) y.number n s.sessions differ)
