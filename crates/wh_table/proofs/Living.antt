-- The rows at the places of a table: what each change of the places does to them, and what each version gives.
use Rattle.std.proofs.Common.{◌≡◌, ◌∙◌, sym, ap, refl, subst, arith, ℕ, zero, suc, ◌+◌, ◌<◌, ◌≤◌, max, Bool, true, false, cond, not, ◌&&◌, ◌||◌, ◌==◌, List, [], ◌∷◌, ◌++◌, map, length, Option, None, Some, is_none, is_some, slice_get, slice_set, nat_le, nat_lt, true≢false}
use Rattle.std.proofs.lemmas.Option.{none-some, same_Some}
use Rattle.std.proofs.lemmas.Bool.{eq-eqb, eqb-true, false_from_ne_true, le-leb, le-ltb, or_right}
use Rattle.std.specs.List.{filter}
use Rattle.wh_base.specs.Lists.{option_case, where_true}
use Rattle.wh_base.specs.Tables.{HaveRowids, Places, live_rows}
use Rattle.wh_base.specs.declared.tables.RowAt.{RowAt}
use Rattle.wh_base.specs.declared.values.Value.{Value}
use Rattle.wh_segment.specs.Versions.{is_live, is_visible, row_at, rows_at}
use Rattle.wh_segment.specs.declared.version.Version.{Version}
use Rattle.wh_table.specs.Stored.{changed_at, last_scn}
use Rattle.wh_table.proofs.Ordered.{Apart, Differ, Each, has, keeps}

-- ---- places

pub live_append : (ps : Places) (r : RowAt) → live_rows (ps ++ Some r ∷ []) ≡ live_rows ps ++ r ∷ []
live_append [] r = refl
live_append (None ∷ ps) r = live_append ps r
live_append (Some q ∷ ps) r = ap (λ rows. q ∷ rows) (live_append ps r)

pub live_append_none : (ps : Places) → live_rows (ps ++ None ∷ []) ≡ live_rows ps
live_append_none [] = refl
live_append_none (None ∷ ps) = live_append_none ps
live_append_none (Some q ∷ ps) = ap (λ rows. q ∷ rows) (live_append_none ps)

-- the row at a place is among those that live
pub each_place : (P : RowAt → Type 0) (ps : Places) (place : ℕ) (r : RowAt) → slice_get ps place ≡ Some (Some r) → Each P (live_rows ps) → P r
each_place P [] place r e h = absurd (none-some (Some r) e)
each_place P (None ∷ ps) zero r e h = absurd (none-some r (same_Some None (Some r) e))
each_place P (Some q ∷ ps) zero r e h = subst P (same_Some q r (same_Some (Some q) (Some r) e)) h.0
each_place P (None ∷ ps) (suc place) r e h = each_place P ps place r e h
each_place P (Some q ∷ ps) (suc place) r e h = each_place P ps place r e h.1

pub has_place : (ps : Places) (place : ℕ) (r : RowAt) → slice_get ps place ≡ Some (Some r) → has r.rowid (live_rows ps) ≡ true
has_place [] place r e = absurd (none-some (Some r) e)
has_place (None ∷ ps) zero r e = absurd (none-some r (same_Some None (Some r) e))
has_place (Some q ∷ ps) zero r e =
    let same : q ≡ r = same_Some q r (same_Some (Some q) (Some r) e) in
    ap (λ b. b || has r.rowid (live_rows ps)) (eq-eqb q.rowid r.rowid (ap (λ x. x.rowid) same))
has_place (None ∷ ps) (suc place) r e = has_place ps place r e
has_place (Some q ∷ ps) (suc place) r e = or_right (q.rowid == r.rowid) (has r.rowid (live_rows ps)) (has_place ps place r e)

apart_keeps : (id : ℕ) (q : RowAt) → (q.rowid ≡ id → ⊥) → keeps id q ≡ true
apart_keeps id q h = ap not (false_from_ne_true (q.rowid == id) (λ e. h (eqb-true q.rowid id e)))

all_kept : (r : RowAt) (rows : List RowAt) → Each (Apart r) rows → filter (keeps r.rowid) rows ≡ rows
all_kept r [] h = refl
all_kept r (q ∷ rows) h =
    ap (λ b. cond b (q ∷ filter (keeps r.rowid) rows) (filter (keeps r.rowid) rows)) (apart_keeps r.rowid q (λ e. h.0 (sym e)))
    ∙ ap (λ rest. q ∷ rest) (all_kept r rows h.1)

pub live_without : (ps : Places) (place : ℕ) (r : RowAt) → slice_get ps place ≡ Some (Some r) → Differ (live_rows ps)
    → live_rows (slice_set ps place None) ≡ filter (keeps r.rowid) (live_rows ps)
live_without [] place r e d = absurd (none-some (Some r) e)
live_without (None ∷ ps) zero r e d = absurd (none-some r (same_Some None (Some r) e))
live_without (Some q ∷ ps) zero r e d =
    let same : q ≡ r = same_Some q r (same_Some (Some q) (Some r) e) in
    let gone : keeps r.rowid q ≡ false = ap not (eq-eqb q.rowid r.rowid (ap (λ x. x.rowid) same)) in
    sym (ap (λ b. cond b (q ∷ filter (keeps r.rowid) (live_rows ps)) (filter (keeps r.rowid) (live_rows ps))) gone
    ∙ all_kept r (live_rows ps) (subst (λ x. Each (Apart x) (live_rows ps)) same d.0))
live_without (None ∷ ps) (suc place) r e d = live_without ps place r e d
live_without (Some q ∷ ps) (suc place) r e d =
    let other : Apart q r = each_place (Apart q) ps place r e d.0 in
    ap (λ rest. q ∷ rest) (live_without ps place r e d.1)
    ∙ sym (ap (λ b. cond b (q ∷ filter (keeps r.rowid) (live_rows ps)) (filter (keeps r.rowid) (live_rows ps))) (apart_keeps r.rowid q other))

-- a row less
pub live_less : (ps : Places) (place : ℕ) (r : RowAt) → slice_get ps place ≡ Some (Some r) → length (live_rows (slice_set ps place None)) + 1 ≡ length (live_rows ps)
live_less [] place r e = absurd (none-some (Some r) e)
live_less (None ∷ ps) zero r e = absurd (none-some r (same_Some None (Some r) e))
live_less (Some q ∷ ps) zero r e = omega arith
live_less (None ∷ ps) (suc place) r e = live_less ps place r e
live_less (Some q ∷ ps) (suc place) r e = omega (arith, live_less ps place r e)

-- ---- rowids that differ

apart_from : (x : RowAt) (xs : List RowAt) → ((n : ℕ) → n < length xs → slice_get (map (λ r. r.rowid) xs) n ≡ Some x.rowid → ⊥) → Each (Apart x) xs
apart_from x [] h = tt
apart_from x (y ∷ ys) h = ((λ e. h 0 (omega arith) (ap Some (sym e))), apart_from x ys (λ n l e. h (suc n) (omega (arith, l)) e))

pub differ_from : (xs : List RowAt) → HaveRowids xs → Differ xs
differ_from [] h = tt
differ_from (x ∷ xs) h = (
  apart_from x xs (λ n l e. h 0 (suc n) (omega arith) (omega (arith, l)) (sym e)),
  differ_from xs (λ m n l k e. h (suc m) (suc n) (omega (arith, l)) (omega (arith, k)) e),
)

apart_at : (x : RowAt) (xs : List RowAt) (n : ℕ) → n < length xs → Each (Apart x) xs → slice_get (map (λ r. r.rowid) xs) n ≡ Some x.rowid → ⊥
apart_at x [] n l h e = none-some x.rowid e
apart_at x (y ∷ ys) zero l h e = h.0 (sym (same_Some y.rowid x.rowid e))
apart_at x (y ∷ ys) (suc n) l h e = apart_at x ys n (omega (arith, l)) h.1 e

pub have_from : (xs : List RowAt) → Differ xs → HaveRowids xs
have_from [] d m n l k e = absurd (omega (arith, k))
have_from (x ∷ xs) d zero zero l k e = absurd (omega (arith, l))
have_from (x ∷ xs) d zero (suc n) l k e = apart_at x xs n (omega (arith, k)) d.0 (sym e)
have_from (x ∷ xs) d (suc m) zero l k e = absurd (omega (arith, l))
have_from (x ∷ xs) d (suc m) (suc n) l k e = have_from xs d.1 m n (omega (arith, l)) (omega (arith, k)) e

pub differ_push : (xs : List RowAt) (r : RowAt) → Differ xs → Each (λ x. x.rowid ≡ r.rowid → ⊥) xs → Differ (xs ++ r ∷ [])
differ_push [] r d h = (tt, tt)
differ_push (x ∷ xs) r d h = (each_push x xs d.0 h.0, differ_push xs r d.1 h.1)
  where
    each_push : (x : RowAt) (xs : List RowAt) → Each (Apart x) xs → Apart x r → Each (Apart x) (xs ++ r ∷ [])
    each_push x [] h k = (k, tt)
    each_push x (y ∷ ys) h k = (h.0, each_push x ys h.1 k)

pub differ_filter : (p : RowAt → Bool) (xs : List RowAt) → Differ xs → Differ (filter p xs)
differ_filter p [] d = tt
differ_filter p (x ∷ xs) d = by (p x) (differ_filter p xs d.1)
  where
    each_kept : (q : RowAt) (ys : List RowAt) → Each (Apart q) ys → Each (Apart q) (filter p ys)
    each_kept q [] h = tt
    each_kept q (y ∷ ys) h = one (p y) (each_kept q ys h.1)
      where
        one : (b : Bool) → Each (Apart q) (filter p ys) → Each (Apart q) (cond b (y ∷ filter p ys) (filter p ys))
        one true rest = (h.0, rest)
        one false rest = rest

    by : (b : Bool) → Differ (filter p xs) → Differ (cond b (x ∷ filter p xs) (filter p xs))
    by true rest = (each_kept x xs d.0, rest)
    by false rest = rest

-- the rows that are kept don't have the rowid
pub filter_apart : (id : ℕ) (xs : List RowAt) → Each (λ x. x.rowid ≡ id → ⊥) (filter (keeps id) xs)
filter_apart id [] = tt
filter_apart id (x ∷ xs) = by (x.rowid == id) refl (filter_apart id xs)
  where
    by : (b : Bool) → (x.rowid == id) ≡ b → Each (λ x. x.rowid ≡ id → ⊥) (filter (keeps id) xs)
        → Each (λ x. x.rowid ≡ id → ⊥) (cond (not b) (x ∷ filter (keeps id) xs) (filter (keeps id) xs))
    by true e rest = rest
    by false e rest = ((λ same. true≢false (sym (eq-eqb x.rowid id same) ∙ e)), rest)

-- ---- versions

pub each_version : (P : RowAt → Type 0) (at : ℕ) (vs : List Version) → Each (λ v. (values : List Value) → P (record { rowid = v.rowid; mark = v.part; values = values })) vs
    → Each P (live_rows (rows_at at vs))
each_version P at [] h = tt
each_version P at (v ∷ vs) h = by v.values (is_visible at v) (each_version P at vs h.1)
  where
    by : (values : Option (List Value)) (b : Bool) → Each P (live_rows (rows_at at vs))
        → Each P (live_rows (option_case values None (λ ws. where_true b (record { rowid = v.rowid; mark = v.part; values = ws })) ∷ rows_at at vs))
    by None b rest = rest
    by (Some ws) true rest = (h.0 ws, rest)
    by (Some ws) false rest = rest

-- a version that was last changed by an SCN has its row then exactly where it is live
pub settled : (at : ℕ) (v : Version) → changed_at v ≤ at → is_visible at v ≡ is_live v
settled at v h = by v.died v.values h
  where
    by : (died : Option ℕ) (values : Option (List Value)) → max v.born (option_case died 0 (λ d. d)) ≤ at
        → (is_some values && (nat_le v.born at && option_case died true (λ d. nat_lt at d))) ≡ (is_none died && is_some values)
    by None None k = refl
    by None (Some ws) k = let born : v.born ≤ at = omega (arith, k) in ap (λ b. b && true) (le-leb v.born at born)
    by (Some d) None k = refl
    by (Some d) (Some ws) k =
        let born : v.born ≤ at = omega (arith, k) in
        let dead : d ≤ at = omega (arith, k) in
        ap (λ b. b && nat_lt at d) (le-leb v.born at born) ∙ le-ltb at d dead

row_now : (died : Option ℕ) (v : Version) (rows : Places) (fs : List Version) (values : Option (List Value)) → length (live_rows rows) ≡ length fs
    → length (live_rows (option_case values None (λ ws. where_true (is_none died && is_some values) (record { rowid = v.rowid; mark = v.part; values = ws })) ∷ rows))
    ≡ length (cond (is_none died && is_some values) (v ∷ fs) fs)
row_now None v rows fs None rest = rest
row_now None v rows fs (Some ws) rest = ap suc rest
row_now (Some d) v rows fs None rest = rest
row_now (Some d) v rows fs (Some ws) rest = rest

pub settled_count : (at : ℕ) (vs : List Version) → last_scn vs ≤ at → length (live_rows (rows_at at vs)) ≡ length (filter is_live vs)
settled_count at [] h = refl
settled_count at (v ∷ vs) h =
    ap (λ b. length (live_rows (option_case v.values None (λ ws. where_true b (record { rowid = v.rowid; mark = v.part; values = ws })) ∷ rows_at at vs))) (settled at v (omega (arith, h)))
    ∙ row_now v.died v (rows_at at vs) (filter is_live vs) v.values (settled_count at vs (omega (arith, h)))

-- ---- the row of a live version

and_no : (b : Bool) → (b && false) ≡ true → ⊥
and_no true e = true≢false (sym e)
and_no false e = true≢false (sym e)

row_there : (at : ℕ) (v : Version) → changed_at v ≤ at → is_live v ≡ true
    → (values : List Value) × ((v.values ≡ Some values) × (row_at at v ≡ Some (record { rowid = v.rowid; mark = v.part; values = values })))
row_there at v h live = by v.values refl
  where
    by : (values : Option (List Value)) → v.values ≡ values
        → (values : List Value) × ((v.values ≡ Some values) × (row_at at v ≡ Some (record { rowid = v.rowid; mark = v.part; values = values })))
    by None e = absurd (and_no (is_none v.died) (sym (ap (λ o. is_none v.died && is_some o) e) ∙ live))
    by (Some ws) e = (
      ws,
      (
        e,
        ap (λ b. option_case v.values None (λ us. where_true b (record { rowid = v.rowid; mark = v.part; values = us }))) (settled at v h ∙ live)
            ∙ ap (λ o. option_case o None (λ us. Some (record { rowid = v.rowid; mark = v.part; values = us }))) e,
      ),
    )

pub live_row : (at : ℕ) (vs : List Version) (place : ℕ) (v : Version) → last_scn vs ≤ at → slice_get vs place ≡ Some v → is_live v ≡ true
    → (values : List Value) × ((v.values ≡ Some values) × (slice_get (rows_at at vs) place ≡ Some (Some (record { rowid = v.rowid; mark = v.part; values = values }))))
live_row at [] place v h e live = absurd (none-some v e)
live_row at (w ∷ vs) zero v h e live =
    let same : w ≡ v = same_Some w v e in
    let in_time : changed_at w ≤ at = omega (arith, h) in
    let there = row_there at v (subst (λ u. changed_at u ≤ at) same in_time) live in
    (there.0, (there.1.0, ap (λ u. Some (row_at at u)) same ∙ ap Some there.1.1))
live_row at (w ∷ vs) (suc place) v h e live = live_row at vs place v (omega (arith, h)) e live
