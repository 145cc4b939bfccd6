-- A table that no ALTER TABLE changed is what the changes that were noted of it make of what it was.
use Rattle.std.proofs.Common.{◌≡◌, ◌∙◌, sym, ap, refl, subst, arith, ℕ, zero, suc, ◌+◌, ◌<◌, ◌≤◌, Bool, true, false, cond, List, [], ◌∷◌, ◌++◌, length, map, ◌==◌}
use Rattle.std.specs.List.{filter, fold}
use Rattle.std.specs.Prelude.{Ok, count_by}
use Rattle.std.proofs.lemmas.Bool.{eqb-true}
use Rattle.std.proofs.lemmas.List.{map-append}
use Rattle.std.proofs.lemmas.List.Elements.{filter-append}
use Rattle.std.proofs.lemmas.List.Sums.{fold-append, sum_by-append}
use Rattle.wh_base.specs.Tables.{Base, Row, Table, TableChange, is_insert, rows_after, table_after, table_at, with_table}
use Rattle.wh_base.specs.declared.statements.Statement.{Statement}
use Rattle.wh_base.specs.declared.tables.Change.{Change}
use Rattle.def_journal.specs.Committing.{changes_in}
use Rattle.def_effect.specs.Block.{Asks, Progress, effect}
use Rattle.law_delta.specs.Deltas.{AllApply, Applies}
use Rattle.law_delta.proofs.Applying.{more_apply}
use Rattle.law_refresh.specs.Followed.{Followed}
use Rattle.law_trace.proofs.Asking.{is_there}
use Rattle.law_trace.proofs.Basing.{Passes, after, asked_changes, block_keeps, each_with, made, made_of}
use Rattle.law_trace.proofs.Listed.{Each}
use Rattle.law_trace.proofs.Rising.{Comes, Goes, Sound, Step, Steps, Turns, sound_after, steps_made, weight}
use Rattle.law_trace.proofs.Untouched.{unchanged, with_length, with_other, differ_of}
use Rattle.law_trace.specs.Reached.{still_table}

-- ---- a list of changes after another

count-append : (p : Change → Bool) (cs ds : List Change) → count_by p (cs ++ ds) ≡ count_by p cs + count_by p ds
count-append p cs ds = sum_by-append (λ c. cond (p c) 1 0) cs ds

pub after_twice : (t : Table) (cs ds : List Change) → table_after (table_after t cs) ds ≡ table_after t (cs ++ ds)
after_twice t cs ds =
    let rows : fold rows_after (fold rows_after t.rows cs) ds ≡ fold rows_after t.rows (cs ++ ds) = sym (fold-append rows_after t.rows cs ds) in
    let both : count_by is_insert (cs ++ ds) ≡ count_by is_insert cs + count_by is_insert ds = count-append is_insert cs ds in
    let given : (t.given + count_by is_insert cs) + count_by is_insert ds ≡ t.given + count_by is_insert (cs ++ ds) = omega arith in
    λ i. record t { rows = rows i; given = given i }

pub followed_on : (table : ℕ) (a b c : Base) (cs ds : List Change) → Followed table a b cs → Followed table b c ds → Followed table a c (cs ++ ds)
followed_on table a b c cs ds h k =
    let first : length a ≤ length b = h.grown in
    let second : length b ≤ length c = k.grown in
    record {
      apply = more_apply (table_at a table).rows cs ds h.apply (subst (λ rows. AllApply rows ds) h.rows k.apply);
      rows = k.rows ∙ ap (λ rows. fold rows_after rows ds) h.rows ∙ sym (fold-append rows_after (table_at a table).rows cs ds);
      whole = λ low. k.whole (omega arith) ∙ ap (λ t. table_after t ds) (h.whole low) ∙ ap still_table (after_twice (table_at a table) cs ds);
      grown = omega arith;
    }

-- no changes
pub followed_equal : (table : ℕ) (before later : Base) → table_at later table ≡ table_at before table → length before ≤ length later → Followed table before later []
followed_equal table before later same grown =
    record { apply = tt; rows = ap (λ (t : Table). t.rows) same; whole = λ low. ap still_table (same ∙ unchanged (table_at before table)); grown = grown }

pub followed_none : (table : ℕ) (base : Base) → Followed table base base []
followed_none table base = followed_equal table base base refl (omega arith)

-- ---- changes of a statement

step_applies : (t : Table) (m : ℕ) (rows : List Row) (c : Change) → Step t m rows c → Applies rows c
step_applies t m rows c (Comes vs fits none is) = subst (Applies rows) (sym is) none
step_applies t m rows c (Turns r vs has fits is) = subst (Applies rows) (sym is) has.alone
step_applies t m rows c (Goes r has is) = subst (Applies rows) (sym is) has.alone

steps_apply : (t : Table) (m : ℕ) (rows : List Row) (cs : List Change) → Steps t m rows cs → AllApply rows cs
steps_apply t m rows [] steps = tt
steps_apply t m rows (c ∷ cs) steps = (step_applies t m rows c steps.0, steps_apply t (m + weight c) (rows_after rows c) cs steps.1)

with_own : (base : Base) (n : ℕ) (t : Table) → n < length base → table_at (with_table base n t) n ≡ t
with_own [] n t low = absurd (omega arith)
with_own (u ∷ us) zero t low = refl
with_own (u ∷ us) (suc n) t low = with_own us n t (omega arith)

-- the changes of a table among those of a block
changes_in-append : (xs ys : List TableChange) (table : ℕ) → changes_in (xs ++ ys) table ≡ changes_in xs table ++ changes_in ys table
changes_in-append xs ys table =
    ap (map (λ c. c.change)) (filter-append (λ c. c.table == table) xs ys) ∙ map-append (λ c. c.change) (filter (λ c. c.table == table) xs) (filter (λ c. c.table == table) ys)

asked_in : (n table : ℕ) (changes : List Change) → changes_in (map (λ c. record { table = n; change = c }) changes) table ≡ cond (n == table) changes []
asked_in n table [] = by (n == table)
  where
    nothing : List Change
    nothing = []

    by : (b : Bool) → nothing ≡ cond b [] []
    by true = refl
    by false = refl
asked_in n table (c ∷ changes) = by (n == table) (asked_in n table changes)
  where
    by : (b : Bool) → changes_in (map (λ c. record { table = n; change = c }) changes) table ≡ cond b changes []
        → map (λ (c : TableChange). c.change) (cond b (record { table = n; change = c } ∷ filter (λ (c : TableChange). c.table == table) (map (λ c. record { table = n; change = c }) changes)) (filter (λ (c : TableChange). c.table == table) (map (λ c. record { table = n; change = c }) changes))) ≡ cond b (c ∷ changes) []
    by true h = ap (λ cs. c ∷ cs) h
    by false h = h

-- one statement
made_followed : (table : ℕ) (base : Base) (a : Asks) → a.table < length base → Steps (table_at base a.table) (table_at base a.table).given (table_at base a.table).rows (made_of base a)
    → Followed table base (made base a) (changes_in (asked_changes base a) table)
made_followed table base a there steps =
    subst (Followed table base (made base a)) (sym (asked_in a.table table (made_of base a))) (by (a.table == table) refl)
  where
    many : length (made base a) ≡ length base
    many = with_length base a.table (table_after (table_at base a.table) (made_of base a))

    own : Followed a.table base (made base a) (made_of base a)
    own =
        let same : table_at (made base a) a.table ≡ table_after (table_at base a.table) (made_of base a) = with_own base a.table (table_after (table_at base a.table) (made_of base a)) there in
        record {
          apply = steps_apply (table_at base a.table) (table_at base a.table).given (table_at base a.table).rows (made_of base a) steps;
          rows = ap (λ (t : Table). t.rows) same;
          whole = λ low. ap still_table same;
          grown = omega (arith, many);
        }

    by : (b : Bool) → (a.table == table) ≡ b → Followed table base (made base a) (cond b (made_of base a) [])
    by true e = subst (λ n. Followed n base (made base a) (made_of base a)) (eqb-true a.table table e) own
    by false e =
        followed_equal table base (made base a) (sym (with_other base a.table table (table_after (table_at base a.table) (made_of base a)) (differ_of a.table table e))) (omega (arith, many))

each_at : (P : Table → Type 0) (base : Base) (n : ℕ) → n < length base → Each P base → P (table_at base n)
each_at P [] n low h = absurd (omega arith)
each_at P (t ∷ base) zero low h = h.0
each_at P (t ∷ base) (suc n) low h = each_at P base n (omega arith) h.1

abbrev Follow : ℕ → Base → Progress → Type 0
Follow table base p = Each Sound p.base × Followed table base p.base (changes_in p.changes table)

pub block_followed : (table : ℕ) (base : Base) (kept : ℕ) (ss : List Statement) (p : Progress) → effect base kept ss ≡ Ok p → Each Sound base
    → Followed table base p.base (changes_in p.changes table)
block_followed table base kept ss p same sound =
    (block_keeps kept (Follow table base) step base ss p same (sound, followed_none table base)).1
  where
    step : (q : Progress) (s : Statement) (a : Asks) → Passes kept q s a → Follow table base q → Follow table base (after q a)
    step q s a passes h =
        let there : a.table < length q.base = is_there q.base s a passes.asks in
        let own : Sound (table_at q.base a.table) = each_at Sound q.base a.table there h.0 in
        let steps : Steps (table_at q.base a.table) (table_at q.base a.table).given (table_at q.base a.table).rows (made_of q.base a) = steps_made kept q s a passes own in (
          each_with Sound q.base a.table (table_after (table_at q.base a.table) (made_of q.base a)) h.0 (λ is was. sound_after (table_at q.base a.table) (made_of q.base a) steps was),
          subst (Followed table base (made q.base a)) (sym (changes_in-append q.changes (asked_changes q.base a) table))
              (followed_on table base q.base (made q.base a) (changes_in q.changes table) (changes_in (asked_changes q.base a) table) h.1 (made_followed table q.base a there steps)),
        )
