-- Versions removed one by one, from the first on.
use Rattle.std.proofs.Common.{◌≡◌, ◌∙◌, sym, ap, refl, Bool, true, false, cond, List, [], ◌∷◌, ◌+◌, ◌<◌, ◌≤◌, Some, None, ℕ, zero, suc, length, filter, slice_set, arith}
use Rattle.wh_base.specs.Lists.{where_true}
use Rattle.wh_segment.specs.Versions.{is_past, purged, removed, removed_at}
use Rattle.wh_segment.specs.declared.version.Version.{Version}

-- the versions with the first so many purged
abbrev pub purged_below : ℕ → ℕ → List Version → List Version
purged_below to n [] = []
purged_below to zero (v ∷ vs) = v ∷ vs
purged_below to (suc n) (v ∷ vs) = cond (is_past to v) (removed v) v ∷ purged_below to n vs

-- how many of the first so many are to be removed
abbrev pub past_below : ℕ → ℕ → List Version → ℕ
past_below to n [] = 0
past_below to zero (v ∷ vs) = 0
past_below to (suc n) (v ∷ vs) = cond (is_past to v) (suc (past_below to n vs)) (past_below to n vs)

pub none_below : (to : ℕ) (vs : List Version) → purged_below to 0 vs ≡ vs
none_below to [] = refl
none_below to (v ∷ vs) = refl

pub none_counted : (to : ℕ) (vs : List Version) → past_below to 0 vs ≡ 0
none_counted to [] = refl
none_counted to (v ∷ vs) = refl

pub all_below : (to n : ℕ) (vs : List Version) → length vs ≤ n → purged_below to n vs ≡ purged to vs
all_below to n [] h = refl
all_below to zero (v ∷ vs) h = absurd (omega arith)
all_below to (suc n) (v ∷ vs) h = ap (λ rest. cond (is_past to v) (removed v) v ∷ rest) (all_below to n vs (omega arith))

pub all_counted : (to n : ℕ) (vs : List Version) → length vs ≤ n → past_below to n vs ≡ length (filter (is_past to) vs)
all_counted to n [] h = refl
all_counted to zero (v ∷ vs) h = absurd (omega arith)
all_counted to (suc n) (v ∷ vs) h = by (is_past to v) (all_counted to n vs (omega arith))
  where
    by : (b : Bool) → past_below to n vs ≡ length (filter (is_past to) vs)
        → cond b (suc (past_below to n vs)) (past_below to n vs) ≡ length (cond b (v ∷ filter (is_past to) vs) (filter (is_past to) vs))
    by true e = ap suc e
    by false e = e

pub length-below : (to n : ℕ) (vs : List Version) → length (purged_below to n vs) ≡ length vs
length-below to n [] = refl
length-below to zero (v ∷ vs) = refl
length-below to (suc n) (v ∷ vs) = ap suc (length-below to n vs)

pub counted_most : (to n : ℕ) (vs : List Version) → past_below to n vs ≤ n
counted_most to n [] = omega arith
counted_most to zero (v ∷ vs) = omega arith
counted_most to (suc n) (v ∷ vs) = by (is_past to v) (counted_most to n vs)
  where
    by : (b : Bool) → past_below to n vs ≤ n → cond b (suc (past_below to n vs)) (past_below to n vs) ≤ suc n
    by true h = omega arith
    by false h = omega arith

-- the next one is removed
removed_next : (to n : ℕ) (vs : List Version) (r : Version) → removed_at to (purged_below to n vs) n ≡ Some r → slice_set (purged_below to n vs) n r ≡ purged_below to (suc n) vs
removed_next to n [] r e = cc
removed_next to zero (v ∷ vs) r e = by (is_past to v) e
  where
    by : (b : Bool) → where_true b (removed v) ≡ Some r → r ∷ vs ≡ cond b (removed v) v ∷ purged_below to 0 vs
    by true f = let same : r ≡ removed v = cc in (λ i. same i ∷ sym (none_below to vs) i)
    by false f = cc
removed_next to (suc n) (v ∷ vs) r e = ap (λ rest. cond (is_past to v) (removed v) v ∷ rest) (removed_next to n vs r e)

counted_next : (to n : ℕ) (vs : List Version) (r : Version) → removed_at to (purged_below to n vs) n ≡ Some r → past_below to (suc n) vs ≡ suc (past_below to n vs)
counted_next to n [] r e = cc
counted_next to zero (v ∷ vs) r e = by (is_past to v) e
  where
    by : (b : Bool) → where_true b (removed v) ≡ Some r → cond b (suc (past_below to 0 vs)) (past_below to 0 vs) ≡ 1
    by true f = ap suc (none_counted to vs)
    by false f = cc
counted_next to (suc n) (v ∷ vs) r e = by (is_past to v) (counted_next to n vs r e)
  where
    by : (b : Bool) → past_below to (suc n) vs ≡ suc (past_below to n vs)
        → cond b (suc (past_below to (suc n) vs)) (past_below to (suc n) vs) ≡ suc (cond b (suc (past_below to n vs)) (past_below to n vs))
    by true f = ap suc f
    by false f = f

-- or it stays
kept_next : (to n : ℕ) (vs : List Version) → n < length vs → removed_at to (purged_below to n vs) n ≡ None → purged_below to n vs ≡ purged_below to (suc n) vs
kept_next to n [] h e = refl
kept_next to zero (v ∷ vs) h e = by (is_past to v) e
  where
    by : (b : Bool) → where_true b (removed v) ≡ None → v ∷ vs ≡ cond b (removed v) v ∷ purged_below to 0 vs
    by true f = cc
    by false f = ap (λ rest. v ∷ rest) (sym (none_below to vs))
kept_next to (suc n) (v ∷ vs) h e = ap (λ rest. cond (is_past to v) (removed v) v ∷ rest) (kept_next to n vs (omega arith) e)

uncounted_next : (to n : ℕ) (vs : List Version) → n < length vs → removed_at to (purged_below to n vs) n ≡ None → past_below to n vs ≡ past_below to (suc n) vs
uncounted_next to n [] h e = refl
uncounted_next to zero (v ∷ vs) h e = by (is_past to v) e
  where
    by : (b : Bool) → where_true b (removed v) ≡ None → 0 ≡ cond b (suc (past_below to 0 vs)) (past_below to 0 vs)
    by true f = cc
    by false f = sym (none_counted to vs)
uncounted_next to (suc n) (v ∷ vs) h e = by (is_past to v) (uncounted_next to n vs (omega arith) e)
  where
    by : (b : Bool) → past_below to n vs ≡ past_below to (suc n) vs
        → cond b (suc (past_below to n vs)) (past_below to n vs) ≡ cond b (suc (past_below to (suc n) vs)) (past_below to (suc n) vs)
    by true f = ap suc f
    by false f = f

one_more : (n : ℕ) → n + 1 ≡ suc n
one_more n = omega arith

pub next_removed : (to n : ℕ) (vs : List Version) (r : Version) → Some r ≡ removed_at to (purged_below to n vs) n → slice_set (purged_below to n vs) n r ≡ purged_below to (n + 1) vs
next_removed to n vs r e = removed_next to n vs r (sym e) ∙ ap (λ m. purged_below to m vs) (sym (one_more n))

pub next_counted : (to n : ℕ) (vs : List Version) (r : Version) → Some r ≡ removed_at to (purged_below to n vs) n → past_below to (n + 1) vs ≡ past_below to n vs + 1
next_counted to n vs r e = ap (λ m. past_below to m vs) (one_more n) ∙ counted_next to n vs r (sym e) ∙ sym (one_more (past_below to n vs))

pub next_kept : (to n : ℕ) (vs : List Version) → n < length vs → None ≡ removed_at to (purged_below to n vs) n → purged_below to n vs ≡ purged_below to (n + 1) vs
next_kept to n vs h e = kept_next to n vs h (sym e) ∙ ap (λ m. purged_below to m vs) (sym (one_more n))

pub next_uncounted : (to n : ℕ) (vs : List Version) → n < length vs → None ≡ removed_at to (purged_below to n vs) n → past_below to n vs ≡ past_below to (n + 1) vs
next_uncounted to n vs h e = uncounted_next to n vs h (sym e) ∙ ap (λ m. past_below to m vs) (sym (one_more n))

pub ruleset removing = (none_below, none_counted, length-below, counted_most, next_removed, next_counted, next_kept, next_uncounted)
