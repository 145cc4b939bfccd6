-- A block leaves the rows of a table whose keys aren't in the partitions that it touches.
use Rattle.std.proofs.Common.{◌≡◌, ◌∙◌, sym, ap, refl, subst, arith, ℕ, zero, suc, ◌+◌, ◌<◌, Bool, true, false, true≢false, cond, not, List, [], ◌∷◌, ◌++◌, length, map, Option, None, Some, ◌==◌, ◌||◌, ◌⊎◌, inl, inr}
use Rattle.law_lists.proofs.Options.{find_passes}
use Rattle.std.proofs.lemmas.Option.{same_Some}
use Rattle.std.specs.List.{enumerate_from, filter, find, flat_map, fold, list_any}
use Rattle.std.specs.Prelude.{Ok, option_map}
use Rattle.std.proofs.lemmas.Bool.{eq-eqb, eqb-true, false_from_ne_true, not-false, or_right}
use Rattle.wh_base.specs.Lists.{option_case}
use Rattle.wh_base.specs.Tables.{Base, Row, Table, TableChange, mark_of, part_intervals, part_of_key, rows_after, table_after, table_at, value_at, with_table}
use Rattle.wh_base.specs.Values.{interval_has}
use Rattle.wh_base.specs.declared.statements.Statement.{Statement}
use Rattle.wh_base.specs.declared.tables.Change.{Change}
use Rattle.wh_base.specs.declared.tables.Part.{Part}
use Rattle.wh_base.specs.declared.values.Interval.{Interval}
use Rattle.wh_base.specs.declared.values.Value.{Value}
use Rattle.def_effect.specs.Block.{Asks, Progress, deleted_change, effect, inserted_change}
use Rattle.def_history.specs.Catalog.{Touched}
use Rattle.def_journal.specs.Committing.{changes_in, commit_touches, part_touch, sides, touched_parts}
use Rattle.law_trace.proofs.Basing.{asked_changes, block_keeps, made, made_of}
use Rattle.law_trace.proofs.Listed.{Each, each_left, each_right, each_unmap, each_weaker}
use Rattle.law_trace.proofs.Rising.{Comes, Goes, Sound, Step, Steps, Turns, changed_row, sound_after, steps_made, weight}
use Rattle.law_trace.proofs.Untouched.{with_other, differ_of}
use Rattle.law_trace.proofs.Marks.{IsApart, IsGone, found_part, kept, kept_changed, kept_fewer, kept_more, number_is, part_for, says}

-- ---- the rows that a list of changes is about

-- a row with the rowid of one of these isn't kept
each_unfilter : {A : Type 0} (P : A → Type 0) (p : A → Bool) (xs : List A) → Each P (filter p xs) → Each (λ x. p x ≡ true → P x) xs
each_unfilter P p [] h = tt
each_unfilter P p (x ∷ xs) h = by (p x) refl h (each_unfilter P p xs)
  where
    by : (b : Bool) → p x ≡ b → Each P (cond b (x ∷ filter p xs) (filter p xs)) → (Each P (filter p xs) → Each (λ y. p y ≡ true → P y) xs) → (p x ≡ true → P x) × Each (λ y. p y ≡ true → P y) xs
    by true e k rest = (λ f. k.0, rest k.1)
    by false e k rest = (λ f. absurd (true≢false (sym f ∙ e)), rest k)

-- a row that is alone with its rowid is each row with it
alone_is : (r : Row) (rows : List Row) → filter (λ q. q.rowid == r.rowid) rows ≡ r ∷ [] → Each (λ q. (q.rowid == r.rowid) ≡ true → q ≡ r) rows
alone_is r rows is = each_unfilter (λ q. q ≡ r) (λ q. q.rowid == r.rowid) rows (subst (Each (λ q. q ≡ r)) (sym is) (refl, tt))

module _ (out : ℕ → Value → Bool) (key : Option ℕ) (parts : List Part) where
  abbrev GoneRow : Row → Type 0
  GoneRow r = IsGone out key parts r.values

  -- ---- the changes of a statement

  -- neither the old nor the new values of the change are of a row that is kept
  abbrev pub SidesGone : Change → Type 0
  SidesGone c = Each (IsGone out key parts) (sides c)

  -- what a change of no kept row leaves
  kept_step : (t : Table) (m : ℕ) (rows : List Row) (c : Change) → Step t m rows c → SidesGone c → kept out key parts (rows_after rows c) ≡ kept out key parts rows
  kept_step t m rows c (Comes vs fits none is) gone =
      let own : SidesGone (inserted_change (suc m, vs)) = subst SidesGone is gone in
      ap (λ c. kept out key parts (rows_after rows c)) is ∙ kept_more out key parts rows (record { rowid = suc m; values = vs }) own.0
  kept_step t m rows c (Turns r vs has fits is) gone =
      let own : SidesGone (record { rowid = r.rowid; old = Some r.values; new = Some vs }) = subst SidesGone is gone in
      ap (λ c. kept out key parts (rows_after rows c)) is
      ∙ kept_changed out key parts (changed_row r.rowid vs) rows
      (each_weaker (λ q. (q.rowid == r.rowid) ≡ true → q ≡ r) (IsApart out key parts (changed_row r.rowid vs)) (λ q alone. apart r vs own.0 own.1.0 q alone (q.rowid == r.rowid) refl) rows
      (alone_is r rows has.alone))
    where
      apart : (r : Row) (vs : List Value) → GoneRow r → IsGone out key parts vs → (q : Row) → ((q.rowid == r.rowid) ≡ true → q ≡ r) → (b : Bool) → (q.rowid == r.rowid) ≡ b
          → (cond b (record { rowid = q.rowid; values = vs }) q ≡ q) ⊎ (GoneRow q × GoneRow (cond b (record { rowid = q.rowid; values = vs }) q))
      apart r vs old new q alone true e = inr (subst GoneRow (sym (alone e)) old, new)
      apart r vs old new q alone false e = inl refl
  kept_step t m rows c (Goes r has is) gone =
      let own : SidesGone (deleted_change r) = subst SidesGone is gone in
      ap (λ c. kept out key parts (rows_after rows c)) is
      ∙ kept_fewer out key parts (λ q. not (q.rowid == r.rowid)) rows
      (each_weaker (λ q. (q.rowid == r.rowid) ≡ true → q ≡ r) (λ q. not (q.rowid == r.rowid) ≡ false → GoneRow q) (λ q alone e. subst GoneRow (sym (alone (not-false (q.rowid == r.rowid) e))) own.0) rows
      (alone_is r rows has.alone))

  steps_kept : (t : Table) (m : ℕ) (rows : List Row) (cs : List Change) → Steps t m rows cs → Each SidesGone cs → kept out key parts (fold rows_after rows cs) ≡ kept out key parts rows
  steps_kept t m rows [] steps gone = refl
  steps_kept t m rows (c ∷ cs) steps gone = steps_kept t (m + weight c) (rows_after rows c) cs steps.1 gone.1 ∙ kept_step t m rows c steps.0 gone.0

-- ---- a block

-- the table with this number put, where it is there
pub with_own : (base : Base) (n : ℕ) (t : Table) → (table_at (with_table base n t) n ≡ t) ⊎ (table_at (with_table base n t) n ≡ table_at base n)
with_own [] n t = inr refl
with_own (u ∷ us) zero t = inl refl
with_own (u ∷ us) (suc n) t = with_own us n t

module _ (out : ℕ → Value → Bool) (base : Base) (n : ℕ) where
  abbrev pub first : Table
  first = table_at base n

  -- a change of the table is of no row that is kept
  abbrev pub ChangeGone : TableChange → Type 0
  ChangeGone c = (c.table == n) ≡ true → SidesGone out first.def.part_key first.parts c.change

  -- the table within the block
  pub record Within (changes : List TableChange) (t : Table) : Type 0 where
    pub def : t.def ≡ first.def
    pub parts : t.parts ≡ first.parts
    pub sound : Sound t
    pub same : Each ChangeGone changes → kept out first.def.part_key first.parts t.rows ≡ kept out first.def.part_key first.parts first.rows

  within_more : (changes more : List TableChange) (t : Table) → Within changes t → Within (changes ++ more) t
  within_more changes more t h = record { def = h.def; parts = h.parts; sound = h.sound; same = λ gone. h.same (each_left ChangeGone changes more gone) }

  within_after : (changes : List TableChange) (t : Table) (news : List Change) (m : ℕ) → Steps t t.given t.rows news → (m == n) ≡ true → Within changes t
      → Within (changes ++ map (λ c. record { table = m; change = c }) news) (table_after t news)
  within_after changes t news m steps own h =
      record {
        def = h.def;
        parts = h.parts;
        sound = sound_after t news steps h.sound;
        same = λ gone.
            let rest : Each ChangeGone (map (λ c. record { table = m; change = c }) news) = each_right ChangeGone changes (map (λ c. record { table = m; change = c }) news) gone in
            steps_kept out first.def.part_key first.parts t t.given t.rows news steps
            (each_weaker (λ c. ChangeGone (record { table = m; change = c })) (SidesGone out first.def.part_key first.parts) (λ c k. k own) news
            (each_unmap ChangeGone (λ c. record { table = m; change = c }) news rest))
            ∙ h.same (each_left ChangeGone changes (map (λ c. record { table = m; change = c }) news) gone);
      }

  abbrev pub InBlock : Progress → Type 0
  InBlock p = Within p.changes (table_at p.base n)

  made_within : (p : Progress) (a : Asks) → (Sound (table_at p.base a.table) → Steps (table_at p.base a.table) (table_at p.base a.table).given (table_at p.base a.table).rows (made_of p.base a)) → InBlock p
      → Within (p.changes ++ asked_changes p.base a) (table_at (made p.base a) n)
  made_within p a steps h = by (a.table == n) refl
    where
      more : Within (p.changes ++ asked_changes p.base a) (table_at p.base n)
      more = within_more p.changes (asked_changes p.base a) (table_at p.base n) h

      by : (b : Bool) → (a.table == n) ≡ b → Within (p.changes ++ asked_changes p.base a) (table_at (made p.base a) n)
      by false e =
          subst (Within (p.changes ++ asked_changes p.base a)) (with_other p.base a.table n (table_after (table_at p.base a.table) (made_of p.base a)) (differ_of a.table n e)) more
      by true e = own (with_own p.base a.table (table_after (table_at p.base a.table) (made_of p.base a)))
        where
          is : a.table ≡ n
          is = eqb-true a.table n e

          own : (table_at (made p.base a) a.table ≡ table_after (table_at p.base a.table) (made_of p.base a)) ⊎ (table_at (made p.base a) a.table ≡ table_at p.base a.table)
              → Within (p.changes ++ asked_changes p.base a) (table_at (made p.base a) n)
          own (inl same) =
              let here : Within p.changes (table_at p.base a.table) = subst (λ m. Within p.changes (table_at p.base m)) (sym is) h in
              subst (λ m. Within (p.changes ++ asked_changes p.base a) (table_at (made p.base a) m)) is
              (subst (Within (p.changes ++ asked_changes p.base a)) (sym same) (within_after p.changes (table_at p.base a.table) (made_of p.base a) a.table (steps here.sound) e here))
          own (inr same) =
              subst (λ m. Within (p.changes ++ asked_changes p.base a) (table_at (made p.base a) m)) is
              (subst (Within (p.changes ++ asked_changes p.base a)) (sym same) (subst (λ m. Within (p.changes ++ asked_changes p.base a) (table_at p.base m)) (sym is) more))

  pub block_within : (keep : ℕ) (ss : List Statement) (p : Progress) → effect base keep ss ≡ Ok p → Sound first → InBlock p
  block_within keep ss p same sound =
      block_keeps keep InBlock (λ q s a passes h. made_within q a (steps_made keep q s a passes) h) base ss p same
      (record { def = refl; parts = refl; sound = sound; same = λ gone. refl })

-- ---- what a commit touches

each_unflat : {A B : Type 0} (Q : B → Type 0) (f : A → List B) (xs : List A) → Each Q (flat_map f xs) → Each (λ x. Each Q (f x)) xs
each_unflat Q f [] h = tt
each_unflat Q f (x ∷ xs) h = (each_left Q (f x) (flat_map f xs) h, each_unflat Q f xs (each_right Q (f x) (flat_map f xs) h))

-- what is found and passes a test has what those that pass it have
filtered_found : {A : Type 0} (P : A → Type 0) (test h : A → Bool) (xs : List A) (x : A) → Each P (filter test xs) → find h xs ≡ Some x → test x ≡ true → P x
filtered_found P test h [] x each e passes = absurd (cc)
filtered_found P test h (y ∷ xs) x each e passes = by (h y) e (filtered_found P test h xs x)
  where
    rest_of : (b : Bool) → Each P (cond b (y ∷ filter test xs) (filter test xs)) → Each P (filter test xs)
    rest_of true k = k.1
    rest_of false k = k

    first_of : (b : Bool) → Each P (cond b (y ∷ filter test xs) (filter test xs)) → b ≡ true → P y
    first_of true k f = k.0
    first_of false k f = absurd (true≢false (sym f))

    by : (b : Bool) → cond b (Some y) (find h xs) ≡ Some x → (Each P (filter test xs) → find h xs ≡ Some x → test x ≡ true → P x) → P x
    by true f rest = let same : y ≡ x = same_Some y x f in subst P same (first_of (test y) each (ap test same ∙ passes))
    by false f rest = rest (rest_of (test y) each) f passes

-- the table with this number among the tables with their numbers
each_numbered : (R : ℕ × Table → Type 0) (m : ℕ) (base : Base) (n : ℕ) → n < length base → Each R (enumerate_from m base) → R (m + n, table_at base n)
each_numbered R m [] n low h = absurd (omega arith)
each_numbered R m (t ∷ base) zero low h = let same : m ≡ m + 0 = omega arith in subst (λ k. R (k, t)) same h.0
each_numbered R m (t ∷ base) (suc n) low h =
    let same : (m + 1) + n ≡ m + suc n = omega arith in
    subst (λ k. R (k, table_at base n)) same (each_numbered R (m + 1) base n (omega arith) h.1)

-- each item is one of them
each_among : {A : Type 0} (xs : List A) → Each (λ x. (f : A → Bool) → f x ≡ true → list_any f xs ≡ true) xs
each_among [] = tt
each_among {A} (x ∷ xs) = (
  λ f e. ap (λ b. b || list_any f xs) e,
  each_weaker (λ y. (f : A → Bool) → f y ≡ true → list_any f xs ≡ true) (λ y. (f : A → Bool) → f y ≡ true → list_any f (x ∷ xs) ≡ true) (λ y k f e. or_right (f x) (list_any f xs) (k f e)) xs (each_among xs),
)

-- the values that are asked for with the number of a partition are outside of its interval
abbrev pub IsOutside : (ℕ → Value → Bool) → ℕ → Interval → Type 0
IsOutside out m i = (v : Value) → out m v ≡ true → interval_has i v ≡ false

-- the touch is of another table, or what is asked for is outside of it
abbrev pub TouchOutside : (ℕ → Value → Bool) → ℕ → Touched → Type 0
TouchOutside out n t = (t.table == n) ≡ true → IsOutside out t.touch.number t.touch.interval

module _ (out : ℕ → Value → Bool) (t : Table) (cs : List Change) (touched : Each (λ p. IsOutside out p.0.number p.1) (touched_parts t cs)) where
  abbrev all_sides : List (List Value)
  all_sides = flat_map sides cs

  -- the values of a changed row aren't of a row that is kept
  side_gone : (vs : List Value) → ((f : List Value → Bool) → f vs ≡ true → list_any f all_sides ≡ true) → IsGone out t.def.part_key t.parts vs
  side_gone vs among = by t.def.part_key refl
    where
      outside : (k : ℕ) → t.def.part_key ≡ Some k → (p : Part × Interval) → part_of_key t (value_at vs k) ≡ Some p → out p.0.number (value_at vs k) ≡ true → ⊥
      outside k is p found e =
          let number : mark_of t vs ≡ p.0.number = number_is t vs k is ∙ ap (λ (o : Option Part). option_case o 0 (λ q. q.number)) (sym (found_part t (value_at vs k)) ∙ ap (λ (o : Option (Part × Interval)). option_map (λ q. q.0) o) found) in
          let hit : list_any (λ ws. mark_of t ws == p.0.number) all_sides ≡ true = among (λ ws. mark_of t ws == p.0.number) (eq-eqb (mark_of t vs) p.0.number number) in
          let free : interval_has p.1 (value_at vs k) ≡ false =
          filtered_found (λ q. IsOutside out q.0.number q.1) (λ q. list_any (λ ws. mark_of t ws == q.0.number) all_sides) (λ q. interval_has q.1 (value_at vs k)) (part_intervals t) p touched found hit (value_at vs k) e in
          true≢false (sym (find_passes (λ q. interval_has q.1 (value_at vs k)) (part_intervals t) p found) ∙ free)

      by_part : (k : ℕ) → t.def.part_key ≡ Some k → (o : Option (Part × Interval)) → part_of_key t (value_at vs k) ≡ o → says out (value_at vs k) (option_map (λ p. p.0) o) ≡ false
      by_part k is None found = refl
      by_part k is (Some p) found = false_from_ne_true (out p.0.number (value_at vs k)) (outside k is p found)

      by : (o : Option ℕ) → t.def.part_key ≡ o → option_case o false (λ k. says out (value_at vs k) (part_for t.parts (value_at vs k))) ≡ false
      by None is = refl
      by (Some k) is = ap (says out (value_at vs k)) (sym (found_part t (value_at vs k))) ∙ by_part k is (part_of_key t (value_at vs k)) refl

  sides_gone : Each (SidesGone out t.def.part_key t.parts) cs
  sides_gone =
      each_unflat (IsGone out t.def.part_key t.parts) sides cs
      (each_weaker (λ vs. (f : List Value → Bool) → f vs ≡ true → list_any f all_sides ≡ true) (IsGone out t.def.part_key t.parts) side_gone all_sides (each_among all_sides))

from_none : (n : ℕ) → 0 + n ≡ n
from_none n = omega arith

-- outside of all that a commit touches of the table, no changed row is kept
pub commit_gone : (out : ℕ → Value → Bool) (scn n : ℕ) (base : Base) (changes : List TableChange) → n < length base → Each (TouchOutside out n) (commit_touches scn base changes)
    → Each (λ c. (c.table == n) ≡ true → SidesGone out (table_at base n).def.part_key (table_at base n).parts c.change) changes
commit_gone out scn n base changes low touched =
    let t : Table = table_at base n in
    let cs : List Change = changes_in changes n in
    let each : Each (λ p. Each (TouchOutside out n) (map (part_touch scn p.0 false) (touched_parts p.1 (changes_in changes p.0)))) (enumerate_from 0 base) =
    each_unflat (TouchOutside out n) (λ p. map (part_touch scn p.0 false) (touched_parts p.1 (changes_in changes p.0))) (enumerate_from 0 base) touched in
    let own : Each (TouchOutside out n) (map (part_touch scn n false) (touched_parts t cs)) =
    subst (λ m. Each (TouchOutside out n) (map (part_touch scn m false) (touched_parts t (changes_in changes m)))) (from_none n)
    (each_numbered (λ p. Each (TouchOutside out n) (map (part_touch scn p.0 false) (touched_parts p.1 (changes_in changes p.0)))) 0 base n low each) in
    let parts : Each (λ p. IsOutside out p.0.number p.1) (touched_parts t cs) =
    each_weaker (λ p. TouchOutside out n (part_touch scn n false p)) (λ p. IsOutside out p.0.number p.1) (λ p k. k (eq-eqb n n refl)) (touched_parts t cs)
    (each_unmap (TouchOutside out n) (part_touch scn n false) (touched_parts t cs) own) in
    each_unfilter (λ c. SidesGone out t.def.part_key t.parts c.change) (λ c. c.table == n) changes
    (each_unmap (SidesGone out t.def.part_key t.parts) (λ c. c.change) (filter (λ c. c.table == n) changes) (sides_gone out t cs parts))
