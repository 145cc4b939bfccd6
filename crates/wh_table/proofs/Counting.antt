-- Rowids given, last changes, and how many rows live: what a version more and an ended one do to them.
use Rattle.std.proofs.Common.{◌≡◌, ◌∙◌, sym, ap, refl, subst, arith, ℕ, zero, suc, ◌+◌, max, Bool, true, false, cond, ◌&&◌, List, [], ◌∷◌, ◌++◌, length, Option, None, Some, is_some, is_none, slice_get, slice_set, nat_le, true≢false}
use Rattle.std.proofs.lemmas.Option.{none-some, same_Some}
use Rattle.std.specs.List.{All, filter}
use Rattle.wh_base.specs.Lists.{option_case}
use Rattle.wh_base.specs.declared.values.Value.{Value}
use Rattle.wh_segment.specs.Versions.{born_at, ended, ended_at, is_live}
use Rattle.wh_segment.specs.declared.version.Version.{Version}
use Rattle.wh_table.specs.Stored.{IsNamed, changed_at, given_at, last_scn}
use Rattle.wh_table.proofs.Ordered.{Each}

pub ended_is : (vs : List Version) (place scn : ℕ) (v : Version) → slice_get vs place ≡ Some v → ended_at place scn vs ≡ slice_set vs place (ended scn v)
ended_is vs place scn v e = ap (λ o. option_case o vs (λ w. slice_set vs place (ended scn w))) e

pub length_set : (vs : List Version) (place : ℕ) (v : Version) → length (slice_set vs place v) ≡ length vs
length_set [] place v = refl
length_set (w ∷ vs) zero v = refl
length_set (w ∷ vs) (suc place) v = ap suc (length_set vs place v)

pub length_ended : (vs : List Version) (place scn : ℕ) (v : Version) → slice_get vs place ≡ Some v → length (ended_at place scn vs) ≡ length vs
length_ended vs place scn v e = ap length (ended_is vs place scn v e) ∙ length_set vs place (ended scn v)

-- ---- rowids given

pub given_append : (at : ℕ) (vs : List Version) (v : Version) → given_at at (vs ++ v ∷ []) ≡ max (given_at at vs) (cond (nat_le v.born at) v.rowid 0)
given_append at [] v = omega arith
given_append at (w ∷ vs) v = omega (arith, given_append at vs v)

set_given : (at : ℕ) (vs : List Version) (place scn : ℕ) (v : Version) → slice_get vs place ≡ Some v → given_at at (slice_set vs place (ended scn v)) ≡ given_at at vs
set_given at [] place scn v e = refl
set_given at (w ∷ vs) zero scn v e = ap (λ u. max (cond (nat_le u.born at) u.rowid 0) (given_at at vs)) (sym (same_Some w v e))
set_given at (w ∷ vs) (suc place) scn v e = ap (λ n. max (cond (nat_le w.born at) w.rowid 0) n) (set_given at vs place scn v e)

pub given_ended : (at : ℕ) (vs : List Version) (place scn : ℕ) (v : Version) → slice_get vs place ≡ Some v → given_at at (ended_at place scn vs) ≡ given_at at vs
given_ended at vs place scn v e = ap (given_at at) (ended_is vs place scn v e) ∙ set_given at vs place scn v e

-- ---- last changes

pub last_append : (vs : List Version) (v : Version) → last_scn (vs ++ v ∷ []) ≡ max (last_scn vs) (changed_at v)
last_append [] v = omega arith
last_append (w ∷ vs) v = omega (arith, last_append vs v)

-- the SCN of the last change of a live version is that of its birth
live_changed : (v : Version) → is_live v ≡ true → changed_at v ≡ v.born
live_changed v live = by v.died live
  where
    by : (died : Option ℕ) → (is_none died && is_some v.values) ≡ true → max v.born (option_case died 0 (λ d. d)) ≡ v.born
    by None e = omega arith
    by (Some d) e = absurd (true≢false (sym e))

set_last : (vs : List Version) (place scn : ℕ) (v : Version) → slice_get vs place ≡ Some v → is_live v ≡ true → last_scn (slice_set vs place (ended scn v)) ≡ max (last_scn vs) scn
set_last [] place scn v e live = absurd (none-some v e)
set_last (w ∷ vs) zero scn v e live =
    let born : changed_at w ≡ v.born = ap changed_at (same_Some w v e) ∙ live_changed v live in
    omega (arith, born)
set_last (w ∷ vs) (suc place) scn v e live = omega (arith, set_last vs place scn v e live)

pub last_ended : (vs : List Version) (place scn : ℕ) (v : Version) → slice_get vs place ≡ Some v → is_live v ≡ true → last_scn (ended_at place scn vs) ≡ max (last_scn vs) scn
last_ended vs place scn v e live = ap last_scn (ended_is vs place scn v e) ∙ set_last vs place scn v e live

-- ---- rows that live

pub count_append : (vs : List Version) (scn rowid part : ℕ) (values : List Value) → length (filter is_live (vs ++ born_at scn rowid part values ∷ [])) ≡ length (filter is_live vs) + 1
count_append [] scn rowid part values = refl
count_append (v ∷ vs) scn rowid part values = by (is_live v) (count_append vs scn rowid part values)
  where
    by : (b : Bool) → length (filter is_live (vs ++ born_at scn rowid part values ∷ [])) ≡ length (filter is_live vs) + 1
        → length (cond b (v ∷ filter is_live (vs ++ born_at scn rowid part values ∷ [])) (filter is_live (vs ++ born_at scn rowid part values ∷ []))) ≡ length (cond b (v ∷ filter is_live vs) (filter is_live vs)) + 1
    by true h = omega (arith, h)
    by false h = h

set_count : (vs : List Version) (place scn : ℕ) (v : Version) → slice_get vs place ≡ Some v → is_live v ≡ true → length (filter is_live (slice_set vs place (ended scn v))) + 1 ≡ length (filter is_live vs)
set_count [] place scn v e live = absurd (none-some v e)
set_count (w ∷ vs) zero scn v e live =
    let alive : is_live w ≡ true = ap is_live (same_Some w v e) ∙ live in
    let more : length (filter is_live (w ∷ vs)) ≡ suc (length (filter is_live vs)) = ap (λ b. length (cond b (w ∷ filter is_live vs) (filter is_live vs))) alive in
    omega (arith, more)
set_count (w ∷ vs) (suc place) scn v e live = by (is_live w) (set_count vs place scn v e live)
  where
    by : (b : Bool) → length (filter is_live (slice_set vs place (ended scn v))) + 1 ≡ length (filter is_live vs)
        → length (cond b (w ∷ filter is_live (slice_set vs place (ended scn v))) (filter is_live (slice_set vs place (ended scn v)))) + 1 ≡ length (cond b (w ∷ filter is_live vs) (filter is_live vs))
    by true h = omega (arith, h)
    by false h = h

pub count_ended : (vs : List Version) (place scn : ℕ) (v : Version) → slice_get vs place ≡ Some v → is_live v ≡ true → length (filter is_live (ended_at place scn vs)) + 1 ≡ length (filter is_live vs)
count_ended vs place scn v e live = ap (λ ws. length (filter is_live ws) + 1) (ended_is vs place scn v e) ∙ set_count vs place scn v e live

-- ---- names

pub each_from : {A : Type 0} (P : A → Type 0) (xs : List A) → All P xs → Each P xs
each_from P [] h = tt
each_from P (x ∷ xs) h = (h 0 x (omega arith), each_from P xs (λ k d l. h (suc k) d (omega (arith, l))))

pub all_from : {A : Type 0} (P : A → Type 0) (xs : List A) → Each P xs → All P xs
all_from P [] h k d l = absurd (omega (arith, l))
all_from P (x ∷ xs) h zero d l = h.0
all_from P (x ∷ xs) h (suc k) d l = all_from P xs h.1 k d (omega (arith, l))

pub each_get : {A : Type 0} (P : A → Type 0) (xs : List A) (i : ℕ) (x : A) → slice_get xs i ≡ Some x → Each P xs → P x
each_get P [] i x e h = absurd (none-some x e)
each_get P (y ∷ ys) zero x e h = subst P (same_Some y x e) h.0
each_get P (y ∷ ys) (suc i) x e h = each_get P ys i x e h.1

pub each_set : {A : Type 0} (P : A → Type 0) (xs : List A) (i : ℕ) (x : A) → P x → Each P xs → Each P (slice_set xs i x)
each_set P [] i x p h = tt
each_set P (y ∷ ys) zero x p h = (p, h.1)
each_set P (y ∷ ys) (suc i) x p h = (h.0, each_set P ys i x p h.1)

-- an ended version keeps its name
named_ended : (given scn : ℕ) (v : Version) → IsNamed given v → IsNamed given (ended scn v)
named_ended given scn v n = record { first = n.first; last = n.last; unmarked = n.unmarked }

pub all_named_ended : (given : ℕ) (vs : List Version) (place scn : ℕ) (v : Version) → slice_get vs place ≡ Some v → Each (IsNamed given) vs → Each (IsNamed given) (ended_at place scn vs)
all_named_ended given vs place scn v e h =
    subst (Each (IsNamed given)) (sym (ended_is vs place scn v e)) (each_set (IsNamed given) vs place (ended scn v) (named_ended given scn v (each_get (IsNamed given) vs place v e h)) h)
