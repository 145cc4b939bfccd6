-- One change of a table: each live version after it was there before, or is the one that came.
use Rattle.std.proofs.Common.{◌≡◌, ◌∙◌, sym, ap, refl, arith, ℕ, zero, suc, ◌+◌, ◌≤◌, Bool, true, false, List, [], ◌∷◌, ◌++◌, length, Option, None, Some, IsTrue, is_some, slice_get, slice_set, true≢false}
use Rattle.std.proofs.lemmas.Option.{none-some, same_Some}
use Rattle.std.proofs.lemmas.Bool.{eqb-true}
use Rattle.std.proofs.lemmas.Bool.Decides.{nat_tests}
use Rattle.std.specs.Option.{ForSome, IsSomeAnd}
use Rattle.std.specs.Prelude.{◌==◌}
use Rattle.wh_base.specs.Tables.{Places, live_rows}
use Rattle.wh_base.specs.declared.tables.RowAt.{RowAt}
use Rattle.wh_dml.specs.Placed.{IsNext, StandsAt, made, made_of}
use Rattle.wh_dml.specs.declared.changes.PlacedRow.{PlacedRow}
use Rattle.wh_dml.specs.declared.changes.RowChange.{RowChange}
use Rattle.wh_segment.specs.Versions.{born_at, ended, ended_at, is_live, rows_at}
use Rattle.wh_segment.specs.declared.version.Version.{Version}
use Rattle.wh_table.specs.Kept.{with_change}
use Rattle.wh_table.specs.Stored.{IsNamed, IsStored, Stored, last_scn, rowid_at}
use Rattle.wh_table.proofs.Counting.{each_from, each_get, ended_is, length_ended}
use Rattle.wh_table.proofs.Living.{differ_from, each_place, live_row}
use Rattle.wh_table.proofs.Ordered.{Apart, Differ}
use Rattle.wh_table.proofs.Seen.{rowid_is}

-- ---- equal numbers

pub equal_self : (n : ℕ) → (n == n) ≡ true
equal_self n = grind (arith, nat_tests)

pub equal_next : (n m : ℕ) → (suc n == suc m) ≡ (n == m)
equal_next n m = by (n == m) refl
  where
    by : (b : Bool) → (n == m) ≡ b → (suc n == suc m) ≡ b
    by true e = grind (arith, nat_tests)
    by false e = grind (arith, nat_tests)

pub unequal : (n m : ℕ) → (n ≡ m → ⊥) → (n == m) ≡ false
unequal n m h = by (n == m) refl
  where
    by : (b : Bool) → (n == m) ≡ b → b ≡ false
    by true e = absurd (h (eqb-true n m e))
    by false e = refl

-- ---- lists with an item replaced, or with one more

pub set_case : {A : Type 0} (xs : List A) (p i : ℕ) (x y : A) (R : Type 0) → slice_get (slice_set xs p x) i ≡ Some y → (y ≡ x → R) → (slice_get xs i ≡ Some y → (p ≡ i → ⊥) → R) → R
set_case [] p i x y R e new old = absurd (none-some y e)
set_case (w ∷ ws) zero zero x y R e new old = new (sym (same_Some x y e))
set_case (w ∷ ws) zero (suc i) x y R e new old = old e (λ h. omega (arith, h))
set_case (w ∷ ws) (suc p) zero x y R e new old = old e (λ h. omega (arith, h))
set_case (w ∷ ws) (suc p) (suc i) x y R e new old = set_case ws p i x y R e new (λ f apart. old f (λ h. apart (omega (arith, h))))

pub append_case : {A : Type 0} (xs : List A) (i : ℕ) (x y : A) (R : Type 0) → slice_get (xs ++ x ∷ []) i ≡ Some y → (i ≡ length xs → y ≡ x → R) → (slice_get xs i ≡ Some y → R) → R
append_case [] zero x y R e new old = new refl (sym (same_Some x y e))
append_case [] (suc i) x y R e new old = absurd (none-some y e)
append_case (w ∷ ws) zero x y R e new old = old e
append_case (w ∷ ws) (suc i) x y R e new old = append_case ws i x y R e (λ at is. new (ap suc at) is) old

-- ---- where a row stands

-- a live version with this rowid at a place
abbrev pub LiveWith : Stored → ℕ → ℕ → Type 0
LiveWith s place rowid = (w : Version) × ((slice_get s.versions place ≡ Some w) × ((is_live w ≡ true) × (w.rowid ≡ rowid)))

pub stands : (s : Stored) (rowid : ℕ) (q : PlacedRow) → StandsAt s rowid q → LiveWith s q.place rowid
stands s rowid q h = by (slice_get s.versions q.place) refl h
  where
    by : (o : Option Version) → slice_get s.versions q.place ≡ o → IsSomeAnd o (λ v. IsTrue (is_live v) × ((v.rowid ≡ rowid) × (v.values ≡ Some q.values))) → LiveWith s q.place rowid
    by None e k = absurd k
    by (Some w) e k = (w, (e, (k.0, k.1.0)))

ended_dead : (scn : ℕ) (w v : Version) → v ≡ ended scn w → is_live v ≡ true → ⊥
ended_dead scn w v is live = true≢false (sym live ∙ ap is_live is)

-- ---- one change

apart_from : (q p : PlacedRow) (i : ℕ) → Some q ≡ Some p → (q.place ≡ i → ⊥) → p.place ≡ i → ⊥
apart_from q p i k apart h = apart (ap (λ x. x.place) (same_Some q p k) ∙ h)

pub step_case : (scn rowid : ℕ) (old new : Option PlacedRow) (s : Stored) (i : ℕ) (v : Version) (R : Type 0) → ForSome old (StandsAt s rowid) → (old ≡ None → rowid ≡ s.given + 1)
    → slice_get (made_of scn old new s).versions i ≡ Some v → is_live v ≡ true → (i ≡ length s.versions → v.born ≡ scn → v.rowid ≡ rowid → is_some new ≡ true → R)
    → (slice_get s.versions i ≡ Some v → ForSome old (λ q. q.place ≡ i → ⊥) → R) → R
step_case scn rowid None None s i v R there next e live comes stays = stays e (λ q k. absurd (none-some q k))
step_case scn rowid None (Some r) s i v R there next e live comes stays =
    append_case s.versions i (born_at scn (s.given + 1) 0 r.values) v R e
    (λ at is. comes at (ap (λ u. u.born) is) (ap (λ u. u.rowid) is ∙ sym (next refl)) refl)
    (λ f. stays f (λ q k. absurd (none-some q k)))
step_case scn rowid (Some q) None s i v R there next e live comes stays =
    let w = stands s rowid q (there q refl) in
    set_case s.versions q.place i (ended scn w.0) v R (ap (λ vs. slice_get vs i) (sym (ended_is s.versions q.place scn w.0 w.1.0)) ∙ e)
    (λ is. absurd (ended_dead scn w.0 v is live))
    (λ f apart. stays f (λ p k. apart_from q p i k apart))
step_case scn rowid (Some q) (Some r) s i v R there next e live comes stays =
    let w = stands s rowid q (there q refl) in
    append_case (ended_at q.place scn s.versions) i (born_at scn (rowid_at s q.place) 0 r.values) v R e
    (λ at is. comes (at ∙ length_ended s.versions q.place scn w.0 w.1.0) (ap (λ u. u.born) is) (ap (λ u. u.rowid) is ∙ rowid_is s q.place w.0 w.1.0 ∙ w.1.1.1) refl)
    (λ g. set_case s.versions q.place i (ended scn w.0) v R (ap (λ vs. slice_get vs i) (sym (ended_is s.versions q.place scn w.0 w.1.0)) ∙ g)
    (λ is. absurd (ended_dead scn w.0 v is live))
    (λ f apart. stays f (λ p k. apart_from q p i k apart)))

-- ---- rowids of live versions

-- Each live version has a rowid that was given, and no two have the same.
pub record IsTidy (s : Stored) : Type 0 where
  pub named : (i : ℕ) (v : Version) → slice_get s.versions i ≡ Some v → is_live v ≡ true → v.rowid ≤ s.given
  pub single : (i j : ℕ) (v w : Version) → slice_get s.versions i ≡ Some v → slice_get s.versions j ≡ Some w → is_live v ≡ true → is_live w ≡ true → v.rowid ≡ w.rowid → i ≡ j

places_differ : (ps : Places) (i j : ℕ) (q r : RowAt) → Differ (live_rows ps) → slice_get ps i ≡ Some (Some q) → slice_get ps j ≡ Some (Some r) → q.rowid ≡ r.rowid → i ≡ j
places_differ [] i j q r d e f same = absurd (none-some (Some q) e)
places_differ (None ∷ ps) zero j q r d e f same = absurd (none-some q (same_Some None (Some q) e))
places_differ (None ∷ ps) (suc i) zero q r d e f same = absurd (none-some r (same_Some None (Some r) f))
places_differ (None ∷ ps) (suc i) (suc j) q r d e f same = ap suc (places_differ ps i j q r d e f same)
places_differ (Some o ∷ ps) zero zero q r d e f same = refl
places_differ (Some o ∷ ps) zero (suc j) q r d e f same =
    let here : o ≡ q = same_Some o q (same_Some (Some o) (Some q) e) in
    absurd (each_place (Apart o) ps j r f d.0 (ap (λ x. x.rowid) here ∙ same))
places_differ (Some o ∷ ps) (suc i) zero q r d e f same =
    let here : o ≡ r = same_Some o r (same_Some (Some o) (Some r) f) in
    absurd (each_place (Apart o) ps i q e d.0 (ap (λ x. x.rowid) here ∙ sym same))
places_differ (Some o ∷ ps) (suc i) (suc j) q r d e f same = ap suc (places_differ ps i j q r d.1 e f same)

pub tidy_stored : (scn : ℕ) (s : Stored) → IsStored s → last_scn s.versions ≤ scn → IsTidy s
tidy_stored scn s h settled = record {
  named = λ i v e live. (each_get (IsNamed s.given) s.versions i v e (each_from (IsNamed s.given) s.versions h.named)).last;
  single = λ i j v w e f live lives same.
      (let q = live_row scn s.versions i v settled e live in
      let r = live_row scn s.versions j w settled f lives in
      places_differ (rows_at scn s.versions) i j (record { rowid = v.rowid; mark = v.part; values = q.0 }) (record { rowid = w.rowid; mark = w.part; values = r.0 })
      (differ_from (live_rows (rows_at scn s.versions)) (h.differ scn)) q.1.1 r.1.1 same);
}

-- a live version that the change leaves has another rowid than the change
pub other_rowid : (rowid : ℕ) (old : Option PlacedRow) (s : Stored) (j : ℕ) (w : Version) → IsTidy s → ForSome old (StandsAt s rowid) → (old ≡ None → rowid ≡ s.given + 1)
    → slice_get s.versions j ≡ Some w → is_live w ≡ true → ForSome old (λ q. q.place ≡ j → ⊥) → w.rowid ≡ rowid → ⊥
other_rowid rowid None s j w tidy there next e live apart same =
    let new : rowid ≡ s.given + 1 = next refl in
    let last : w.rowid ≤ s.given = tidy.named j w e live in
    omega (arith, new, last, same)
other_rowid rowid (Some q) s j w tidy there next e live apart same =
    let v = stands s rowid q (there q refl) in
    apart q refl (tidy.single q.place j v.0 w v.1.0 e v.1.1.0 live (v.1.1.1 ∙ sym same))

-- a new row's rowid was given after the change
rowid_given : (scn rowid : ℕ) (old new : Option PlacedRow) (s : Stored) → IsTidy s → ForSome old (StandsAt s rowid) → (old ≡ None → rowid ≡ s.given + 1) → is_some new ≡ true → rowid ≤ (made_of scn old new s).given
rowid_given scn rowid old None s tidy there next some = absurd (true≢false (sym some))
rowid_given scn rowid None (Some r) s tidy there next some = let new : rowid ≡ s.given + 1 = next refl in omega (arith, new)
rowid_given scn rowid (Some q) (Some r) s tidy there next some =
    let v = stands s rowid q (there q refl) in
    let last : v.0.rowid ≤ s.given = tidy.named q.place v.0 v.1.0 v.1.1.0 in
    let same : v.0.rowid ≡ rowid = v.1.1.1 in
    omega (arith, last, same)

given_grows : (scn : ℕ) (old new : Option PlacedRow) (s : Stored) → s.given ≤ (made_of scn old new s).given
given_grows scn None None s = omega arith
given_grows scn None (Some r) s = omega arith
given_grows scn (Some q) None s = omega arith
given_grows scn (Some q) (Some r) s = omega arith

pub tidy_made : (scn : ℕ) (c : RowChange) (s : Stored) → IsTidy s → IsNext s c → IsTidy (made scn c s)
tidy_made scn c s tidy h = record {
  named = λ i v e live. step_case scn c.rowid c.old c.new s i v (v.rowid ≤ (made scn c s).given) h.old h.next e live
      (λ at born same some. (let given : c.rowid ≤ (made scn c s).given = rowid_given scn c.rowid c.old c.new s tidy h.old h.next some in omega (arith, same, given)))
      (λ f apart. (let last : v.rowid ≤ s.given = tidy.named i v f live in let more : s.given ≤ (made scn c s).given = given_grows scn c.old c.new s in omega (arith, last, more)));
  single = λ i j v w e f live lives same.
      step_case scn c.rowid c.old c.new s i v (i ≡ j) h.old h.next e live
      (λ at born id some. step_case scn c.rowid c.old c.new s j w (i ≡ j) h.old h.next f lives
      (λ at2 born2 id2 some2. at ∙ sym at2)
      (λ g apart. absurd (other_rowid c.rowid c.old s j w tidy h.old h.next g lives apart (sym same ∙ id))))
      (λ g apart. step_case scn c.rowid c.old c.new s j w (i ≡ j) h.old h.next f lives
      (λ at2 born2 id2 some2. absurd (other_rowid c.rowid c.old s i v tidy h.old h.next g live apart (same ∙ id2)))
      (λ g2 apart2. tidy.single i j v w g g2 live lives same));
}

-- ---- the tables with a change of one

pub change_here : (change : Stored → Stored) (tables : List Stored) (n : ℕ) (s : Stored) → slice_get tables n ≡ Some s → slice_get (with_change n change tables) n ≡ Some (change s)
change_here change [] n s e = absurd (none-some s e)
change_here change (t ∷ tables) zero s e = ap (λ u. Some (change u)) (same_Some t s e)
change_here change (t ∷ tables) (suc n) s e = change_here change tables n s e

pub change_beside : (change : Stored → Stored) (tables : List Stored) (n m : ℕ) → (n == m) ≡ false → slice_get (with_change n change tables) m ≡ slice_get tables m
change_beside change [] n m h = refl
change_beside change (t ∷ tables) zero zero h = absurd (true≢false (sym (equal_self 0) ∙ h))
change_beside change (t ∷ tables) zero (suc m) h = refl
change_beside change (t ∷ tables) (suc n) zero h = refl
change_beside change (t ∷ tables) (suc n) (suc m) h = change_beside change tables n m (sym (equal_next n m) ∙ h)

pub change_none : (tables : List Stored) (n : ℕ) → with_change n (λ s. s) tables ≡ tables
change_none [] n = refl
change_none (t ∷ tables) zero = refl
change_none (t ∷ tables) (suc n) = ap (λ ts. t ∷ ts) (change_none tables n)

pub change_twice : (f g : Stored → Stored) (tables : List Stored) (n : ℕ) → with_change n g (with_change n f tables) ≡ with_change n (λ s. g (f s)) tables
change_twice f g [] n = refl
change_twice f g (t ∷ tables) zero = refl
change_twice f g (t ∷ tables) (suc n) = ap (λ ts. t ∷ ts) (change_twice f g tables n)
