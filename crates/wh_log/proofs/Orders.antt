-- The rows of a log by their SCN.
use Rattle.std.proofs.Common.{◌≡◌, ◌-◌, ◌<◌, ◌≤◌, ◌&&◌, ap, refl, arith, ℕ, Bool, true, false, cond, List, [], ◌∷◌, ◌++◌, drop, length, max, nat_le, nat_lt}
use Rattle.std.specs.List.{All, filter}
use Rattle.std.specs.List.Sorted.{IsNonDecreasingBy}
use Rattle.std.proofs.lemmas.Bool.Decides.{nat_tests}
use Rattle.std.proofs.lemmas.List.Elements.{All-head, All-tail, All-cons, All-nil, All-push}
use Rattle.std.proofs.lemmas.List.Sorted.{IsNonDecreasingBy-drop, IsNonDecreasingBy-push}
use Rattle.wh_base.specs.declared.logs.LogRow.{LogRow}
use Rattle.wh_log.specs.Log.{after, between, scn_of, up_to}

pub dropped_stay : (n : ℕ) (rows : List LogRow) → IsNonDecreasingBy scn_of rows → IsNonDecreasingBy scn_of (drop n rows)
dropped_stay n rows h = IsNonDecreasingBy-drop scn_of n rows h

-- two tests in turn are both
pub filter_twice : (p q : LogRow → Bool) (rows : List LogRow) → filter q (filter p rows) ≡ filter (λ r. p r && q r) rows
filter_twice p q [] = refl
filter_twice p q (r ∷ rs) = by (p r) (filter_twice p q rs)
  where
    by : (b : Bool) → filter q (filter p rs) ≡ filter (λ r. p r && q r) rs
        → filter q (cond b (r ∷ filter p rs) (filter p rs)) ≡ cond (b && q r) (r ∷ filter (λ r. p r && q r) rs) (filter (λ r. p r && q r) rs)
    by true h = ap (λ l. cond (q r) (r ∷ l) l) h
    by false h = h

pub between_both : (from to : ℕ) (rows : List LogRow) → up_to to (after from rows) ≡ between from to rows
between_both from to rows = filter_twice (λ r. nat_lt from r.scn) (λ r. nat_le r.scn to) rows

above_both : (from to scn : ℕ) → from < scn → nat_lt to scn ≡ true → max from to < scn
above_both from to scn h k = grind (arith, nat_tests)

pub above_purged : (from to : ℕ) (rows : List LogRow) → All (λ r. from < r.scn) rows → All (λ r. max from to < r.scn) (after to rows)
above_purged from to [] h = All-nil (λ r. max from to < r.scn)
above_purged from to (r ∷ rs) h = by (nat_lt to r.scn) refl (above_purged from to rs (All-tail (λ r. from < r.scn) r rs h))
  where
    by : (b : Bool) → nat_lt to r.scn ≡ b → All (λ r. max from to < r.scn) (after to rs) → All (λ r. max from to < r.scn) (cond b (r ∷ after to rs) (after to rs))
    by true e more = All-cons (λ r. max from to < r.scn) r (after to rs) (above_both from to r.scn (All-head (λ r. from < r.scn) r rs h) e) more
    by false e more = more

pub above_push : (from : ℕ) (rows : List LogRow) (row : LogRow) → All (λ r. from < r.scn) rows → from < row.scn → All (λ r. from < r.scn) (rows ++ row ∷ [])
above_push from rows row h k = All-push (λ r. from < r.scn) rows row h k

pub latest_push : (scn : ℕ) (rows : List LogRow) (row : LogRow) → All (λ r. r.scn ≤ scn) rows → row.scn ≤ scn → All (λ r. r.scn ≤ scn) (rows ++ row ∷ [])
latest_push scn rows row h k = All-push (λ r. r.scn ≤ scn) rows row h k

pub ordered_push : (rows : List LogRow) (row : LogRow) → IsNonDecreasingBy scn_of rows → All (λ r. r.scn ≤ row.scn) rows → IsNonDecreasingBy scn_of (rows ++ row ∷ [])
ordered_push rows row h k = IsNonDecreasingBy-push scn_of rows row h (λ d some. k (length rows - 1) d (omega arith))

pub ruleset orders = (dropped_stay, between_both, above_purged, above_push, latest_push, ordered_push)
