-- When changes apply one after another: rows rise, so each change of a statement applies.
use Rattle.std.proofs.Common.{◌≡◌, ◌∙◌, sym, ap, subst, refl, arith, ℕ, ◌+◌, ◌<◌, ◌≤◌, suc, Bool, true, false, cond, not, List, [], ◌∷◌, ◌++◌, map, Option, Some, None, append-nil}
use Rattle.std.specs.Prelude.{filter, fold, ◌==◌}
use Rattle.std.specs.List.{enumerate_from}
use Rattle.std.proofs.lemmas.Bool.Decides.{Decides-eqb}
use Rattle.std.proofs.lemmas.List.Elements.{filter-append}
use Rattle.wh_base.specs.Tables.{Row, rows_after}
use Rattle.wh_base.specs.declared.tables.Change.{Change}
use Rattle.wh_base.specs.declared.values.Value.{Value}
use Rattle.law_delta.specs.Deltas.{AllApply, Applies}

-- ---- what has another rowid

pub filter_within : {A : Type 0} (p q : A → Bool) → ((x : A) → p x ≡ true → q x ≡ true) → (xs : List A) → filter p (filter q xs) ≡ filter p xs
filter_within p q h [] = refl
filter_within p q h (x ∷ xs) = by (p x) (q x) refl refl (filter_within p q h xs)
  where
    by : (a b : Bool) → p x ≡ a → q x ≡ b → filter p (filter q xs) ≡ filter p xs → filter p (cond b (x ∷ filter q xs) (filter q xs)) ≡ cond a (x ∷ filter p xs) (filter p xs)
    by true true ea eb e = (λ i. cond (ea i) (x ∷ filter p (filter q xs)) (filter p (filter q xs))) ∙ ap (λ rest. x ∷ rest) e
    by false true ea eb e = (λ i. cond (ea i) (x ∷ filter p (filter q xs)) (filter p (filter q xs))) ∙ e
    by true false ea eb e = let g : q x ≡ true = h x ea in cc
    by false false ea eb e = e

pub filter_changed : {A : Type 0} (p q : A → Bool) (g : A → A) → ((x : A) → q x ≡ true → p x ≡ false) → ((x : A) → q x ≡ true → p (g x) ≡ false) → (xs : List A) → filter p (map (λ x. cond (q x) (g x) x) xs) ≡ filter p xs
filter_changed p q g h k [] = refl
filter_changed {A} p q g h k (x ∷ xs) = by (q x) refl (filter p (map (λ x. cond (q x) (g x) x) xs)) (filter_changed p q g h k xs)
  where
    by : (b : Bool) → q x ≡ b → (rest : List A) → rest ≡ filter p xs → cond (p (cond b (g x) x)) (cond b (g x) x ∷ rest) rest ≡ cond (p x) (x ∷ filter p xs) (filter p xs)
    by true e rest r = (λ i. cond (k x e i) (g x ∷ rest) rest) ∙ r ∙ sym (λ i. cond (h x e i) (x ∷ filter p xs) (filter p xs))
    by false e rest r = λ i. cond (p x) (x ∷ r i) (r i)

other_than : (i j n : ℕ) → (i == j) ≡ false → (n == i) ≡ true → (n == j) ≡ false
other_than i j n h k = grind (arith, Decides-eqb i j, Decides-eqb n i, Decides-eqb n j)

not_other : (i j n : ℕ) → (i == j) ≡ false → (n == j) ≡ true → not (n == i) ≡ true
not_other i j n h k = grind (arith, Decides-eqb i j, Decides-eqb n i, Decides-eqb n j)

-- a change leaves the rows of other rowids
other_kept : (rows : List Row) (i j : ℕ) (old new : Option (List Value)) → (i == j) ≡ false → filter (λ r. r.rowid == j) (rows_after rows (record { rowid = i; old = old; new = new })) ≡ filter (λ r. r.rowid == j) rows
other_kept rows i j old None h = filter_within (λ r. r.rowid == j) (λ r. not (r.rowid == i)) (λ r k. not_other i j r.rowid h k) rows
other_kept rows i j None (Some new) h =
    filter-append (λ r. r.rowid == j) rows (record { rowid = i; values = new } ∷ [])
    ∙ (λ k. filter (λ r. r.rowid == j) rows ++ cond (h k) (record { rowid = i; values = new } ∷ []) [])
    ∙ append-nil (filter (λ r. r.rowid == j) rows)
other_kept rows i j (Some old) (Some new) h =
    filter_changed (λ r. r.rowid == j) (λ r. r.rowid == i) (λ r. record { rowid = r.rowid; values = new }) (λ r k. other_than i j r.rowid h k) (λ r k. other_than i j r.rowid h k) rows

-- ---- changes of rows apart

-- the rowid of no change is this
abbrev pub Spared : ℕ → List Change → Type 0
Spared n [] = Unit {0}
Spared n (c ∷ cs) = ((n == c.rowid) ≡ false) × Spared n cs

abbrev pub ChangesApart : List Change → Type 0
ChangesApart [] = Unit {0}
ChangesApart (c ∷ cs) = Spared c.rowid cs × ChangesApart cs

abbrev pub EachApplies : List Row → List Change → Type 0
EachApplies rows [] = Unit {0}
EachApplies rows (c ∷ cs) = Applies rows c × EachApplies rows cs

still_apply : (rows : List Row) (c : Change) (cs : List Change) → Spared c.rowid cs → EachApplies rows cs → EachApplies (rows_after rows c) cs
still_apply rows c [] spared each = tt
still_apply rows c (d ∷ ds) spared each = (other_kept rows c.rowid d.rowid c.old c.new spared.0 ∙ each.0, still_apply rows c ds spared.1 each.1)

-- changes of different rows that each apply now apply one after another
pub apart_apply : (rows : List Row) (cs : List Change) → ChangesApart cs → EachApplies rows cs → AllApply rows cs
apart_apply rows [] apart each = tt
apart_apply rows (c ∷ cs) apart each = (each.0, apart_apply (rows_after rows c) cs apart.1 (still_apply rows c cs apart.0 each.1))

-- one list of changes after another
pub more_apply : (rows : List Row) (cs ds : List Change) → AllApply rows cs → AllApply (fold rows_after rows cs) ds → AllApply rows (cs ++ ds)
more_apply rows [] ds h k = k
more_apply rows (c ∷ cs) ds h k = (h.0, more_apply (rows_after rows c) cs ds h.1 k)

-- ---- rows that rise

-- the rowids rise, from above `low` up to at most `high`
abbrev pub Rising : ℕ → List Row → ℕ → Type 0
Rising low [] high = low ≤ high
Rising low (r ∷ rs) high = (low < r.rowid) × Rising r.rowid rs high

none_so_low : (n low : ℕ) (rows : List Row) (high : ℕ) → n ≤ low → Rising low rows high → filter (λ r. r.rowid == n) rows ≡ []
none_so_low n low [] high h up = refl
none_so_low n low (r ∷ rs) high h up = by (r.rowid == n) refl (none_so_low n r.rowid rs high (omega (arith, up.0)) up.1)
  where
    by : (b : Bool) → (r.rowid == n) ≡ b → filter (λ r. r.rowid == n) rs ≡ [] → cond b (r ∷ filter (λ r. r.rowid == n) rs) (filter (λ r. r.rowid == n) rs) ≡ []
    by true e rest = let same : r.rowid ≡ n = (Decides-eqb r.rowid n).0 e in absurd (omega (arith, up.0))
    by false e rest = rest

none_so_high : (n low : ℕ) (rows : List Row) (high : ℕ) → high < n → Rising low rows high → filter (λ r. r.rowid == n) rows ≡ []
none_so_high n low [] high h up = refl
none_so_high n low (r ∷ rs) high h up = by (r.rowid == n) refl (none_so_high n r.rowid rs high h up.1)
  where
    bound : (m : ℕ) (rs : List Row) → Rising m rs high → m ≤ high
    bound m [] up = up
    bound m (s ∷ rs) up = let b : s.rowid ≤ high = bound s.rowid rs up.1 in omega (arith, up.0)

    by : (b : Bool) → (r.rowid == n) ≡ b → filter (λ r. r.rowid == n) rs ≡ [] → cond b (r ∷ filter (λ r. r.rowid == n) rs) (filter (λ r. r.rowid == n) rs) ≡ []
    by true e rest = let same : r.rowid ≡ n = (Decides-eqb r.rowid n).0 e in let b : r.rowid ≤ high = bound r.rowid rs up.1 in absurd (omega arith)
    by false e rest = rest

-- the changes of a statement that deletes or updates the rows that meet a test
abbrev pub removal : (Row → Option (List Value)) → Row → Change
removal new r = record { rowid = r.rowid; old = Some r.values; new = new r }

removals_spare : (new : Row → Option (List Value)) (p : Row → Bool) (n low : ℕ) (rows : List Row) (high : ℕ) → n ≤ low → Rising low rows high → Spared n (map (removal new) (filter p rows))
removals_spare new p n low [] high h up = tt
removals_spare new p n low (r ∷ rs) high h up = by (p r) (apart n r.rowid h up.0) (removals_spare new p n r.rowid rs high (omega (arith, up.0)) up.1)
  where
    apart : (n m : ℕ) → n ≤ low → low < m → (n == m) ≡ false
    apart n m h k = grind (arith, Decides-eqb n m)

    by : (b : Bool) → (n == r.rowid) ≡ false → Spared n (map (removal new) (filter p rs)) → Spared n (map (removal new) (cond b (r ∷ filter p rs) (filter p rs)))
    by true e rest = (e, rest)
    by false e rest = rest

removals_apart : (new : Row → Option (List Value)) (p : Row → Bool) (low : ℕ) (rows : List Row) (high : ℕ) → Rising low rows high → ChangesApart (map (removal new) (filter p rows))
removals_apart new p low [] high up = tt
removals_apart new p low (r ∷ rs) high up = by (p r) (removals_spare new p r.rowid r.rowid rs high (omega arith) up.1) (removals_apart new p r.rowid rs high up.1)
  where
    by : (b : Bool) → Spared r.rowid (map (removal new) (filter p rs)) → ChangesApart (map (removal new) (filter p rs)) → ChangesApart (map (removal new) (cond b (r ∷ filter p rs) (filter p rs)))
    by true s rest = (s, rest)
    by false s rest = rest

-- a row in front that none of them changes
front_applies : (r : Row) (rows : List Row) (cs : List Change) → Spared r.rowid cs → EachApplies rows cs → EachApplies (r ∷ rows) cs
front_applies r rows [] s each = tt
front_applies r rows (c ∷ cs) s each = ((λ i. cond (s.0 i) (r ∷ filter (λ r. r.rowid == c.rowid) rows) (filter (λ r. r.rowid == c.rowid) rows)) ∙ each.0, front_applies r rows cs s.1 each.1)

removals_each : (new : Row → Option (List Value)) (p : Row → Bool) (low : ℕ) (rows : List Row) (high : ℕ) → Rising low rows high → EachApplies rows (map (removal new) (filter p rows))
removals_each new p low [] high up = tt
removals_each new p low (r ∷ rs) high up = by (p r) (front_applies r rs (map (removal new) (filter p rs)) (removals_spare new p r.rowid r.rowid rs high (omega arith) up.1) (removals_each new p r.rowid rs high up.1))
  where
    own : filter (λ s. s.rowid == r.rowid) (r ∷ rs) ≡ r ∷ []
    own = let e : (r.rowid == r.rowid) ≡ true = (Decides-eqb r.rowid r.rowid).1 refl in
        (λ i. cond (e i) (r ∷ filter (λ s. s.rowid == r.rowid) rs) (filter (λ s. s.rowid == r.rowid) rs)) ∙ ap (λ rest. r ∷ rest) (none_so_low r.rowid r.rowid rs high (omega arith) up.1)

    by : (b : Bool) → EachApplies (r ∷ rs) (map (removal new) (filter p rs)) → EachApplies (r ∷ rs) (map (removal new) (cond b (r ∷ filter p rs) (filter p rs)))
    by true rest = (own, rest)
    by false rest = rest

-- UPDATE and DELETE
pub removals_apply : (new : Row → Option (List Value)) (p : Row → Bool) (rows : List Row) (high : ℕ) → Rising 0 rows high → AllApply rows (map (removal new) (filter p rows))
removals_apply new p rows high up = apart_apply rows (map (removal new) (filter p rows)) (removals_apart new p 0 rows high up) (removals_each new p 0 rows high up)

-- INSERT and LOAD
rising_push : (low : ℕ) (rows : List Row) (high : ℕ) (vs : List Value) → Rising low rows high → Rising low (rows ++ record { rowid = suc high; values = vs } ∷ []) (suc high)
rising_push low [] high vs up = (omega (arith, up), omega arith)
rising_push low (r ∷ rs) high vs up = (up.0, rising_push r.rowid rs high vs up.1)

abbrev pub insertion : ℕ × List Value → Change
insertion p = record { rowid = p.0; old = None; new = Some p.1 }

pub inserts_apply : (rows : List Row) (given : ℕ) (new : List (List Value)) → Rising 0 rows given → AllApply rows (map insertion (enumerate_from (suc given) new))
inserts_apply rows given [] up = tt
inserts_apply rows given (vs ∷ more) up =
    let rest : AllApply (rows ++ record { rowid = suc given; values = vs } ∷ []) (map insertion (enumerate_from (suc (suc given)) more)) = inserts_apply (rows ++ record { rowid = suc given; values = vs } ∷ []) (suc given) more (rising_push 0 rows given vs up) in
    let next : suc (suc given) ≡ suc given + 1 = omega arith in
    (none_so_high (suc given) 0 rows given (omega arith) up, subst (λ n. AllApply (rows ++ record { rowid = suc given; values = vs } ∷ []) (map insertion (enumerate_from n more))) next rest)
