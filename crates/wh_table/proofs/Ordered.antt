-- Rows by ascending rowid: what a row more, a row less and a changed row do to them.
use Rattle.std.proofs.Common.{◌≡◌, ◌∙◌, sym, ap, refl, subst, arith, ℕ, ◌<◌, ◌≤◌, Bool, true, false, cond, not, ◌||◌, ◌==◌, List, [], ◌∷◌, ◌++◌, is_lt, nat_cmp, true≢false, ⊎_elim}
use Rattle.std.proofs.lemmas.Bool.Decides.{nat_tests}
use Rattle.std.proofs.lemmas.Bool.{cases_lt, eqb-true}
use Rattle.std.proofs.lemmas.Map.Keys.{ge_from_not_lt}
use Rattle.std.specs.List.{filter}
use Rattle.wh_base.specs.Lists.{change_where, put_in_order, sort_onto}
use Rattle.wh_base.specs.Tables.{rowid_cmp}
use Rattle.wh_base.specs.declared.tables.RowAt.{RowAt}

abbrev pub Each : {A : Type 0} → (A → Type 0) → List A → Type 0
Each P [] = Unit {0}
Each P (x ∷ xs) = P x × Each P xs

pub each_weaker : {A : Type 0} (P Q : A → Type 0) (f : (x : A) → P x → Q x) (xs : List A) → Each P xs → Each Q xs
each_weaker P Q f [] h = tt
each_weaker P Q f (x ∷ xs) h = (f x h.0, each_weaker P Q f xs h.1)

pub each_append : {A : Type 0} (P : A → Type 0) (xs ys : List A) → Each P xs → Each P ys → Each P (xs ++ ys)
each_append P [] ys h k = k
each_append P (x ∷ xs) ys h k = (h.0, each_append P xs ys h.1 k)

pub each_filter : {A : Type 0} (P : A → Type 0) (p : A → Bool) (xs : List A) → Each P xs → Each P (filter p xs)
each_filter P p [] h = tt
each_filter P p (x ∷ xs) h = by (p x) (each_filter P p xs h.1)
  where
    by : (b : Bool) → Each P (filter p xs) → Each P (cond b (x ∷ filter p xs) (filter p xs))
    by true rest = (h.0, rest)
    by false rest = rest

-- the row doesn't have this rowid
abbrev pub keeps : ℕ → RowAt → Bool
keeps id r = not (r.rowid == id)

abbrev pub Apart : RowAt → RowAt → Type 0
Apart x y = x.rowid ≡ y.rowid → ⊥

abbrev pub Above : RowAt → RowAt → Type 0
Above x y = x.rowid < y.rowid

-- no two have the same rowid
abbrev pub Differ : List RowAt → Type 0
Differ [] = Unit {0}
Differ (x ∷ xs) = Each (Apart x) xs × Differ xs

-- each has a greater rowid than those before it
abbrev pub Rises : List RowAt → Type 0
Rises [] = Unit {0}
Rises (x ∷ xs) = Each (Above x) xs × Rises xs

abbrev pub put : RowAt → List RowAt → List RowAt
put x ys = put_in_order rowid_cmp x ys

abbrev pub sort : List RowAt → List RowAt → List RowAt
sort done xs = sort_onto rowid_cmp done xs

below_is : (a b : ℕ) → a < b → is_lt (nat_cmp a b) ≡ true
below_is a b h = grind (arith, nat_tests)

above_is : (a b : ℕ) → b ≤ a → is_lt (nat_cmp a b) ≡ false
above_is a b h = grind (arith, nat_tests)

below_from : (a b : ℕ) → is_lt (nat_cmp a b) ≡ true → a < b
below_from a b e = ⊎_elim (λ h. h) (λ h. absurd (true≢false (sym e ∙ above_is a b h))) (cases_lt a b)

less_yes : (x y : RowAt) → is_lt (rowid_cmp x y) ≡ true → x.rowid < y.rowid
less_yes x y e = below_from x.rowid y.rowid e

less_no : (x y : RowAt) → is_lt (rowid_cmp x y) ≡ false → y.rowid ≤ x.rowid
less_no x y e = ge_from_not_lt x.rowid y.rowid e

yes_less : (x y : RowAt) → x.rowid < y.rowid → is_lt (rowid_cmp x y) ≡ true
yes_less x y h = below_is x.rowid y.rowid h

no_less : (x y : RowAt) → y.rowid ≤ x.rowid → is_lt (rowid_cmp x y) ≡ false
no_less x y h = above_is x.rowid y.rowid h

-- ---- a row put in order

pub put_first : (x : RowAt) (ys : List RowAt) → Each (Above x) ys → put x ys ≡ x ∷ ys
put_first x [] h = refl
put_first x (y ∷ ys) h = ap (λ b. cond b (x ∷ y ∷ ys) (y ∷ put x ys)) (yes_less x y h.0)

pub put_last : (x : RowAt) (ys : List RowAt) → Each (λ y. y.rowid < x.rowid) ys → put x ys ≡ ys ++ x ∷ []
put_last x [] h = refl
put_last x (y ∷ ys) h =
    let below : y.rowid < x.rowid = h.0 in
    ap (λ b. cond b (x ∷ y ∷ ys) (y ∷ put x ys)) (no_less x y (omega (arith, below))) ∙ ap (λ zs. y ∷ zs) (put_last x ys h.1)

pub each_put : (P : RowAt → Type 0) (x : RowAt) (ys : List RowAt) → P x → Each P ys → Each P (put x ys)
each_put P x [] p h = (p, tt)
each_put P x (y ∷ ys) p h = by (is_lt (rowid_cmp x y)) (each_put P x ys p h.1)
  where
    by : (b : Bool) → Each P (put x ys) → Each P (cond b (x ∷ y ∷ ys) (y ∷ put x ys))
    by true rest = (p, h)
    by false rest = (h.0, rest)

pub each_sort : (P : RowAt → Type 0) (done xs : List RowAt) → Each P done → Each P xs → Each P (sort done xs)
each_sort P done [] h k = h
each_sort P done (x ∷ xs) h k = each_sort P (put x done) xs (each_put P x done k.0 h) k.1

above_above : (x y : RowAt) → x.rowid < y.rowid → (ys : List RowAt) → Each (Above y) ys → Each (Above x) ys
above_above x y less ys h = each_weaker (Above y) (Above x) (λ z k. (let more : y.rowid < z.rowid = k in omega (arith, less, more))) ys h

lower : (a b : ℕ) → a ≤ b → (a ≡ b → ⊥) → a < b
lower a b h k = ⊎_elim (λ less. less) (λ more. (let same : a ≡ b = omega (arith, h, more) in absurd (k same))) (cases_lt a b)

put_rises : (x : RowAt) (ys : List RowAt) → Rises ys → Each (Apart x) ys → Rises (put x ys)
put_rises x [] up apart = (tt, tt)
put_rises x (y ∷ ys) up apart = by (is_lt (rowid_cmp x y)) refl (put_rises x ys up.1 apart.1)
  where
    less : y.rowid ≤ x.rowid → (x.rowid ≡ y.rowid → ⊥) → y.rowid < x.rowid
    less h apart_from = lower y.rowid x.rowid h (λ e. apart_from (sym e))

    by : (b : Bool) → is_lt (rowid_cmp x y) ≡ b → Rises (put x ys) → Rises (cond b (x ∷ y ∷ ys) (y ∷ put x ys))
    by true e rest = let below = less_yes x y e in ((below, above_above x y below ys up.0), up)
    by false e rest = (each_put (Above y) x ys (less (less_no x y e) apart.0) up.0, rest)

apart_put : (x : RowAt) (done xs : List RowAt) → Each (Apart x) xs → Each (λ z. Each (Apart z) done) xs → Each (λ z. Each (Apart z) (put x done)) xs
apart_put x done [] h k = tt
apart_put x done (z ∷ zs) h k = (each_put (Apart z) x done (λ e. h.0 (sym e)) k.0, apart_put x done zs h.1 k.1)

pub sort_rises : (done xs : List RowAt) → Rises done → Differ xs → Each (λ z. Each (Apart z) done) xs → Rises (sort done xs)
sort_rises done [] up differ apart = up
sort_rises done (x ∷ xs) up differ apart =
    sort_rises (put x done) xs (put_rises x done up apart.0) differ.1 (apart_put x done xs differ.0 apart.1)

apart_none : (xs : List RowAt) → Each (λ z. Each (Apart z) []) xs
apart_none [] = tt
apart_none (x ∷ xs) = (tt, apart_none xs)

pub sorted_rises : (xs : List RowAt) → Differ xs → Rises (sort [] xs)
sorted_rises xs differ = sort_rises [] xs tt differ (apart_none xs)

pub sort_append : (done xs : List RowAt) (x : RowAt) → sort done (xs ++ x ∷ []) ≡ put x (sort done xs)
sort_append done [] x = refl
sort_append done (y ∷ ys) x = sort_append (put y done) ys x

-- ---- without a rowid

kept_filter : (id : ℕ) (x : RowAt) (xs : List RowAt) → keeps id x ≡ true → filter (keeps id) (x ∷ xs) ≡ x ∷ filter (keeps id) xs
kept_filter id x xs e = ap (λ b. cond b (x ∷ filter (keeps id) xs) (filter (keeps id) xs)) e

lost_filter : (id : ℕ) (x : RowAt) (xs : List RowAt) → keeps id x ≡ false → filter (keeps id) (x ∷ xs) ≡ filter (keeps id) xs
lost_filter id x xs e = ap (λ b. cond b (x ∷ filter (keeps id) xs) (filter (keeps id) xs)) e

put_lost : (id : ℕ) (x : RowAt) (ys : List RowAt) → keeps id x ≡ false → filter (keeps id) (put x ys) ≡ filter (keeps id) ys
put_lost id x [] e = lost_filter id x [] e
put_lost id x (y ∷ ys) e = by (is_lt (rowid_cmp x y)) (put_lost id x ys e)
  where
    by : (b : Bool) → filter (keeps id) (put x ys) ≡ filter (keeps id) ys → filter (keeps id) (cond b (x ∷ y ∷ ys) (y ∷ put x ys)) ≡ filter (keeps id) (y ∷ ys)
    by true rest = lost_filter id x (y ∷ ys) e
    by false rest = ap (λ zs. cond (keeps id y) (y ∷ zs) zs) rest

put_kept : (id : ℕ) (x : RowAt) (ys : List RowAt) → keeps id x ≡ true → Rises ys → filter (keeps id) (put x ys) ≡ put x (filter (keeps id) ys)
put_kept id x [] e up = kept_filter id x [] e
put_kept id x (y ∷ ys) e up = by (is_lt (rowid_cmp x y)) refl (put_kept id x ys e up.1)
  where
    tail : (b c : Bool) → is_lt (rowid_cmp x y) ≡ false → filter (keeps id) (put x ys) ≡ put x (filter (keeps id) ys)
        → cond c (y ∷ filter (keeps id) (put x ys)) (filter (keeps id) (put x ys)) ≡ put x (cond c (y ∷ filter (keeps id) ys) (filter (keeps id) ys))
    tail b true f rest = ap (λ zs. y ∷ zs) rest ∙ sym (ap (λ d. cond d (x ∷ y ∷ filter (keeps id) ys) (y ∷ put x (filter (keeps id) ys))) f)
    tail b false f rest = rest

    by : (b : Bool) → is_lt (rowid_cmp x y) ≡ b → filter (keeps id) (put x ys) ≡ put x (filter (keeps id) ys)
        → filter (keeps id) (cond b (x ∷ y ∷ ys) (y ∷ put x ys)) ≡ put x (filter (keeps id) (y ∷ ys))
    by true f rest =
        let below = less_yes x y f in
        let all : Each (Above x) (y ∷ ys) = (below, above_above x y below ys up.0) in
        kept_filter id x (y ∷ ys) e ∙ sym (put_first x (filter (keeps id) (y ∷ ys)) (each_filter (Above x) (keeps id) (y ∷ ys) all))
    by false f rest = tail false (keeps id y) f rest

pub sort_filter : (id : ℕ) (done xs : List RowAt) → Rises done → Differ xs → Each (λ z. Each (Apart z) done) xs
    → sort (filter (keeps id) done) (filter (keeps id) xs) ≡ filter (keeps id) (sort done xs)
sort_filter id done [] up differ apart = refl
sort_filter id done (x ∷ xs) up differ apart =
    by (keeps id x) refl (sort_filter id (put x done) xs (put_rises x done up apart.0) differ.1 (apart_put x done xs differ.0 apart.1))
  where
    by : (b : Bool) → keeps id x ≡ b → sort (filter (keeps id) (put x done)) (filter (keeps id) xs) ≡ filter (keeps id) (sort (put x done) xs)
        → sort (filter (keeps id) done) (cond b (x ∷ filter (keeps id) xs) (filter (keeps id) xs)) ≡ filter (keeps id) (sort (put x done) xs)
    by true e rest = ap (λ zs. sort zs (filter (keeps id) xs)) (sym (put_kept id x done e up)) ∙ rest
    by false e rest = ap (λ zs. sort zs (filter (keeps id) xs)) (sym (put_lost id x done e)) ∙ rest

pub sorted_filter : (id : ℕ) (xs : List RowAt) → Differ xs → sort [] (filter (keeps id) xs) ≡ filter (keeps id) (sort [] xs)
sorted_filter id xs differ = sort_filter id [] xs tt differ (apart_none xs)

-- ---- with another row at a rowid

-- a row has this rowid
abbrev pub has : ℕ → List RowAt → Bool
has id [] = false
has id (x ∷ xs) = (x.rowid == id) || has id xs

or_swap : (a b c : Bool) → (a || (b || c)) ≡ (b || (a || c))
or_swap true true c = refl
or_swap true false c = refl
or_swap false true c = refl
or_swap false false c = refl

has_put : (id : ℕ) (x : RowAt) (ys : List RowAt) → has id (put x ys) ≡ ((x.rowid == id) || has id ys)
has_put id x [] = refl
has_put id x (y ∷ ys) = by (is_lt (rowid_cmp x y)) (has_put id x ys)
  where
    by : (b : Bool) → has id (put x ys) ≡ ((x.rowid == id) || has id ys) → has id (cond b (x ∷ y ∷ ys) (y ∷ put x ys)) ≡ ((x.rowid == id) || ((y.rowid == id) || has id ys))
    by true rest = refl
    by false rest = ap (λ b. (y.rowid == id) || b) rest ∙ or_swap (y.rowid == id) (x.rowid == id) (has id ys)

or_move : (a b c : Bool) → ((a || b) || c) ≡ true → (b || (a || c)) ≡ true
or_move true true c e = refl
or_move true false c e = refl
or_move false true c e = refl
or_move false false c e = e

pub has_sort : (id : ℕ) (done xs : List RowAt) → (has id xs || has id done) ≡ true → has id (sort done xs) ≡ true
has_sort id done [] e = e
has_sort id done (x ∷ xs) e =
    has_sort id (put x done) xs (ap (λ b. has id xs || b) (has_put id x done) ∙ or_move (x.rowid == id) (has id xs) (has id done) e)

above_has : (x : RowAt) (id : ℕ) (ys : List RowAt) → Each (Above x) ys → has id ys ≡ true → x.rowid < id
above_has x id [] h e = absurd (true≢false (sym e))
above_has x id (y ∷ ys) h e = by (y.rowid == id) refl e (above_has x id ys h.1)
  where
    by : (b : Bool) → (y.rowid == id) ≡ b → (b || has id ys) ≡ true → (has id ys ≡ true → x.rowid < id) → x.rowid < id
    by true f g rest = subst (λ n. x.rowid < n) (eqb-true y.rowid id f) h.0
    by false f g rest = rest g

-- the rows with this rowid are replaced by r
abbrev pub replaced : ℕ → RowAt → List RowAt → List RowAt
replaced id r ys = change_where (λ y. y.rowid == id) (λ _. r) ys

none_lost : (id : ℕ) (ys : List RowAt) → Each (λ y. id < y.rowid) ys → filter (keeps id) ys ≡ ys
none_lost id [] h = refl
none_lost id (y ∷ ys) h =
    let more : id < y.rowid = h.0 in
    let no : (y.rowid == id) ≡ false = grind (arith, eqb-true y.rowid id) in
    kept_filter id y ys (ap not no) ∙ ap (λ zs. y ∷ zs) (none_lost id ys h.1)

none_replaced : (id : ℕ) (r : RowAt) (ys : List RowAt) → Each (λ y. id < y.rowid) ys → replaced id r ys ≡ ys
none_replaced id r [] h = refl
none_replaced id r (y ∷ ys) h =
    let more : id < y.rowid = h.0 in
    let no : (y.rowid == id) ≡ false = grind (arith, eqb-true y.rowid id) in
    ap (λ b. cond b r y ∷ replaced id r ys) no ∙ ap (λ zs. y ∷ zs) (none_replaced id r ys h.1)

pub put_replaced : (id : ℕ) (r : RowAt) (ys : List RowAt) → r.rowid ≡ id → Rises ys → has id ys ≡ true → put r (filter (keeps id) ys) ≡ replaced id r ys
put_replaced id r [] same up there = absurd (true≢false (sym there))
put_replaced id r (y ∷ ys) same up there = by (y.rowid == id) refl there (put_replaced id r ys same up.1)
  where
    by : (b : Bool) → (y.rowid == id) ≡ b → (b || has id ys) ≡ true → (has id ys ≡ true → put r (filter (keeps id) ys) ≡ replaced id r ys)
        → put r (cond (not b) (y ∷ filter (keeps id) ys) (filter (keeps id) ys)) ≡ cond b r y ∷ replaced id r ys
    by true e f rest =
        let at : y.rowid ≡ id = eqb-true y.rowid id e in
        let above : Each (λ z. id < z.rowid) ys = subst (λ n. Each (λ z. n < z.rowid) ys) at up.0 in
        let higher : Each (Above r) ys = subst (λ n. Each (λ z. n < z.rowid) ys) (sym same) above in
        ap (put r) (none_lost id ys above) ∙ put_first r ys higher ∙ ap (λ zs. r ∷ zs) (sym (none_replaced id r ys above))
    by false e f rest =
        let below : y.rowid < id = above_has y id ys up.0 f in
        let not_less : y.rowid ≤ r.rowid = omega (arith, below, same) in
        ap (λ b. cond b (r ∷ y ∷ filter (keeps id) ys) (y ∷ put r (filter (keeps id) ys))) (no_less r y not_less)
        ∙ ap (λ zs. y ∷ zs) (rest f)
