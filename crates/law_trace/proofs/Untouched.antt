-- A table that no commit and no ALTER TABLE changed is as it was.
use Rattle.std.proofs.Common.{◌⊎◌, inl, inr, ◌≡◌, ◌∙◌, sym, ap, refl, subst, arith, ℕ, zero, suc, ◌+◌, ◌<◌, ◌≤◌, Bool, true, false, cond, List, [], ◌∷◌, ◌++◌, length, map, None, Some, nat_le, nat_lt, ◌==◌, ◌&&◌, true≢false}
use Rattle.std.specs.List.{filter, find, list_any}
use Rattle.std.specs.Prelude.{Ok}
use Rattle.std.proofs.lemmas.Bool.{and_right, eq-eqb, le-leb, leb-false, lt-ltb, or_parts}
use Rattle.std.proofs.lemmas.List.{append-nil}
use Rattle.wh_base.specs.Lists.{option_case}
use Rattle.wh_base.specs.Tables.{Base, Table, TableChange, table_after, table_at, with_table}
use Rattle.wh_base.specs.declared.statements.Event.{Event}
use Rattle.wh_base.specs.declared.statements.Statement.{Statement}
use Rattle.wh_base.specs.declared.tables.Change.{Change}
use Rattle.def_effect.specs.Block.{Progress, effect}
use Rattle.wh_base.specs.declared.statements.PartChange.{PartChange}
use Rattle.wh_base.specs.declared.tables.Part.{Part}
use Rattle.wh_base.specs.declared.values.Interval.{Interval}
use Rattle.def_effect.specs.Define.{defined}
use Rattle.def_effect.specs.Partitions.{Altering, alter_part, with_movement}
use Rattle.def_history.specs.Catalog.{Catalog, Noted, Touched, base_at, base_now, defs_now, empty_catalog}
use Rattle.def_history.specs.History.{changes_of, kept_versions, maintained, noted_changes, within}
use Rattle.def_journal.specs.Committing.{after_block, commit_touches, do_dues, noted, part_touch}
use Rattle.def_journal.specs.Journal.{state_after, state_of}
use Rattle.def_journal.specs.State.{State, next_scn, with_base}
use Rattle.def_journal.specs.Statements.{altered}
use Rattle.law_trace.proofs.Basing.{asked_changes, base_altered, base_committed, base_created, block_keeps, cut_by, cut_touches, made, made_of}
use Rattle.law_trace.proofs.Growing.{SamePast, changes_bounded, dues_past, installed_past, reached, touches_bounded}
use Rattle.law_trace.proofs.Listed.{Each, each_left, each_right, each_two, each_unmap, each_weaker}
use Rattle.law_trace.proofs.Moves.{Adds, Alters, Commits, Creates, Declares, Drops, Forgets, Installs, Logs, Move, Purges, Stays, Switches, Withdraws, installed}
use Rattle.law_trace.proofs.Stepping.{moves}
use Rattle.law_trace.proofs.Tabling.{IsBounded, base_later, bounded_of, installed_base}
use Rattle.law_trace.proofs.Traces.{by_events, state_push}
use Rattle.law_trace.specs.Laws.{UntouchedLaws}
use Rattle.law_trace.specs.Reached.{catalog_of, still_table}

-- the table with this number is afterwards as it was before
pub record AsBefore (table : ℕ) (before later : Base) : Type 0 where
  pub rows : (table_at before table).rows ≡ (table_at later table).rows
  pub whole : table < length before → still_table (table_at before table) ≡ still_table (table_at later table)
  pub grown : length before ≤ length later

as_equal : (table : ℕ) (before later : Base) → table_at before table ≡ table_at later table → length before ≤ length later → AsBefore table before later
as_equal table before later same grown = record { rows = ap (λ (t : Table). t.rows) same; whole = λ low. ap still_table same; grown = grown }

as_same : (table : ℕ) (before later : Base) → before ≡ later → AsBefore table before later
as_same table before later same = subst (AsBefore table before) same (as_equal table before before refl (omega arith))

as_on : (table : ℕ) (a b c : Base) → AsBefore table a b → AsBefore table b c → AsBefore table a c
as_on table a b c h k =
    let first : length a ≤ length b = h.grown in
    let second : length b ≤ length c = k.grown in
    record { rows = h.rows ∙ k.rows; whole = λ low. h.whole low ∙ k.whole (omega arith); grown = omega arith }

-- ---- a table among the others

pub with_length : (base : Base) (n : ℕ) (t : Table) → length (with_table base n t) ≡ length base
with_length [] n t = refl
with_length (u ∷ us) zero t = refl
with_length (u ∷ us) (suc n) t = ap suc (with_length us n t)

pub with_other : (base : Base) (n m : ℕ) (t : Table) → (n ≡ m → ⊥) → table_at base m ≡ table_at (with_table base n t) m
with_other [] n m t differ = refl
with_other (u ∷ us) zero zero t differ = absurd (differ refl)
with_other (u ∷ us) zero (suc m) t differ = refl
with_other (u ∷ us) (suc n) zero t differ = refl
with_other (u ∷ us) (suc n) (suc m) t differ = with_other us n m t (λ e. differ (ap suc e))

pub with_itself : (base : Base) (n : ℕ) → with_table base n (table_at base n) ≡ base
with_itself [] n = refl
with_itself (u ∷ us) zero = refl
with_itself (u ∷ us) (suc n) = ap (λ ts. u ∷ ts) (with_itself us n)

pub differ_of : (n m : ℕ) → (n == m) ≡ false → n ≡ m → ⊥
differ_of n m e same = true≢false (sym (eq-eqb n m same) ∙ e)

pub as_other : (base : Base) (n table : ℕ) (t : Table) → (n == table) ≡ false → AsBefore table base (with_table base n t)
as_other base n table t e =
    let many : length (with_table base n t) ≡ length base = with_length base n t in
    as_equal table base (with_table base n t) (with_other base n table t (differ_of n table e)) (omega arith)

-- a table more
pub more_rows : (base : Base) (table : ℕ) (t : Table) → t.rows ≡ [] → (table_at base table).rows ≡ (table_at (base ++ t ∷ []) table).rows
more_rows [] zero t none = sym none
more_rows [] (suc n) t none = refl
more_rows (u ∷ us) zero t none = refl
more_rows (u ∷ us) (suc n) t none = more_rows us n t none

pub more_whole : (base : Base) (table : ℕ) (t : Table) → table < length base → table_at base table ≡ table_at (base ++ t ∷ []) table
more_whole [] table t low = absurd (omega arith)
more_whole (u ∷ us) zero t low = refl
more_whole (u ∷ us) (suc n) t low = more_whole us n t (omega arith)

pub more_length : (base : Base) (t : Table) → length base ≤ length (base ++ t ∷ [])
more_length [] t = omega arith
more_length (u ∷ us) t = let h : length us ≤ length (us ++ t ∷ []) = more_length us t in omega arith

as_more : (table : ℕ) (base : Base) (t : Table) → t.rows ≡ [] → AsBefore table base (base ++ t ∷ [])
as_more table base t none = record { rows = more_rows base table t none; whole = λ low. ap still_table (more_whole base table t low); grown = more_length base t }

-- ---- a block

abbrev IsElsewhere : ℕ → TableChange → Type 0
IsElsewhere table c = (c.table == table) ≡ false

plus_none : (n : ℕ) → n ≡ n + 0
plus_none n = omega arith

-- no changes leave the table
pub unchanged : (t : Table) → t ≡ table_after t []
unchanged t = ap (λ n. record t { given = n }) (plus_none t.given)

asked_elsewhere : (table : ℕ) (base : Base) (n : ℕ) (changes : List Change) → Each (IsElsewhere table) (map (λ c. record { table = n; change = c }) changes)
    → AsBefore table base (with_table base n (table_after (table_at base n) changes))
asked_elsewhere table base n [] h = as_same table base _ (sym (with_itself base n) ∙ ap (λ t. with_table base n t) (unchanged (table_at base n)))
asked_elsewhere table base n (c ∷ changes) h = as_other base n table (table_after (table_at base n) (c ∷ changes)) h.0

-- where all changes are of other tables the table is as before
abbrev Leaves : ℕ → Base → Progress → Type 0
Leaves table base p = Each (IsElsewhere table) p.changes → AsBefore table base p.base

block_leaves : (table : ℕ) (base : Base) (kept : ℕ) (ss : List Statement) (p : Progress) → effect base kept ss ≡ Ok p → Leaves table base p
block_leaves table base kept ss p same =
    block_keeps kept (Leaves table base)
    (λ q s a passes h elsewhere.
    as_on table base q.base (made q.base a) (h (each_left (IsElsewhere table) q.changes (asked_changes q.base a) elsewhere))
    (asked_elsewhere table q.base a.table (made_of q.base a) (each_right (IsElsewhere table) q.changes (asked_changes q.base a) elsewhere)))
    base ss p same (λ none. as_same table base base refl)

-- ---- what was noted after an SCN

abbrev IsSpared : ℕ → ℕ → Noted → Type 0
IsSpared table q n = ((n.table == table) && nat_lt q n.scn) ≡ false

abbrev pub IsKept : ℕ → ℕ → Touched → Type 0
IsKept table q t = (t.by_maintenance && ((t.table == table) && nat_lt q t.touch.scn)) ≡ false

-- a table that nothing noted after q is of is as it was at q
abbrev Untouched : Catalog → Type 0
Untouched c = (table q : ℕ) → Each (IsSpared table q) c.changes → Each (IsKept table q) c.touches → AsBefore table (base_at c q) (base_now c)

untouched_same : (c d : Catalog) → base_now d ≡ base_now c → d.past ≡ c.past → d.changes ≡ c.changes → d.touches ≡ c.touches → Untouched c → Untouched d
untouched_same c d now past changes touches h table q spared kept =
    let at : base_at d q ≡ base_at c q = ap (λ past. option_case (find (λ p. nat_le p.0 q) past) [] (λ p. p.1)) past in
    subst (λ base. AsBefore table base (base_now d)) (sym at)
    (subst (AsBefore table (base_at c q)) (sym now) (h table q (subst (Each (IsSpared table q)) changes spared) (subst (Each (IsKept table q)) touches kept)))

-- one base state more, at the next SCN
untouched_based : (c d : Catalog) (base : Base) (news : List Noted) (touched : List Touched) → d.past ≡ (suc c.scn, base) ∷ c.past → base_now d ≡ base
    → d.changes ≡ c.changes ++ news → d.touches ≡ c.touches ++ touched
    → ((table q : ℕ) → q ≤ c.scn → Each (IsSpared table q) news → Each (IsKept table q) touched → AsBefore table (base_now c) base) → Untouched c → Untouched d
untouched_based c d base news touched past now changes touches step h table q spared kept =
    let all : Each (IsSpared table q) (c.changes ++ news) = subst (Each (IsSpared table q)) changes spared in
    let also : Each (IsKept table q) (c.touches ++ touched) = subst (Each (IsKept table q)) touches kept in
    subst (AsBefore table (base_at d q)) (sym now) (subst (λ past. AsBefore table (option_case (find (λ p. nat_le p.0 q) past) [] (λ p. p.1)) base) (sym past) (by (nat_le (suc c.scn) q) refl all also))
  where
    by : (b : Bool) → nat_le (suc c.scn) q ≡ b → Each (IsSpared table q) (c.changes ++ news) → Each (IsKept table q) (c.touches ++ touched)
        → AsBefore table (option_case (cond b (Some (suc c.scn, base)) (find (λ p. nat_le p.0 q) c.past)) [] (λ p. p.1)) base
    by true e all also = as_same table base base refl
    by false e all also =
        as_on table (base_at c q) (base_now c) base
        (h table q (each_left (IsSpared table q) c.changes news all) (each_left (IsKept table q) c.touches touched also))
        (step table q (omega (arith, leb-false (suc c.scn) q e)) (each_right (IsSpared table q) c.changes news all) (each_right (IsKept table q) c.touches touched also))

-- ---- what each event leaves

pub and_first : (a b : Bool) → b ≡ true → (a && b) ≡ false → a ≡ false
and_first true b is e = absurd (true≢false (sym is ∙ e))
and_first false b is e = refl

spared_elsewhere : (table q scn : ℕ) → q ≤ scn → (changes : List TableChange) → Each (IsSpared table q) (map (noted (suc scn)) changes) → Each (IsElsewhere table) changes
spared_elsewhere table q scn low changes h =
    each_weaker (λ c. IsSpared table q (noted (suc scn) c)) (IsElsewhere table)
    (λ c e. and_first (c.table == table) (nat_lt q (suc scn)) (lt-ltb q (suc scn) (omega arith)) e) changes (each_unmap (IsSpared table q) (noted (suc scn)) changes h)

commit_untouched : (c : Catalog) (p : Progress) (ss : List Statement) → effect (base_now c) (kept_versions c) ss ≡ Ok p → Untouched c → Untouched (do_dues (after_block c p) p.changes).catalog
commit_untouched c p ss same h =
    let d : Catalog = (do_dues (after_block c p) p.changes).catalog in
    let past : SamePast (after_block c p) d = dues_past c p in
    untouched_based c d p.base (map (noted (suc c.scn)) p.changes) (commit_touches (suc c.scn) p.base p.changes) past.past (base_committed c p) past.changes past.touches
    (λ table q low spared kept. block_leaves table (base_now c) (kept_versions c) ss p same (spared_elsewhere table q c.scn low p.changes spared)) h

-- a table with the same rows, and the same in all but its row movement
pub still_rows : (base : Base) (n m : ℕ) (t : Table) → t.rows ≡ (table_at base n).rows → (table_at base m).rows ≡ (table_at (with_table base n t) m).rows
still_rows [] n m t same = refl
still_rows (u ∷ us) zero zero t same = sym same
still_rows (u ∷ us) zero (suc m) t same = refl
still_rows (u ∷ us) (suc n) zero t same = refl
still_rows (u ∷ us) (suc n) (suc m) t same = still_rows us n m t same

still_whole : (base : Base) (n m : ℕ) (t : Table) → still_table t ≡ still_table (table_at base n) → still_table (table_at base m) ≡ still_table (table_at (with_table base n t) m)
still_whole [] n m t same = refl
still_whole (u ∷ us) zero zero t same = sym same
still_whole (u ∷ us) zero (suc m) t same = refl
still_whole (u ∷ us) (suc n) zero t same = refl
still_whole (u ∷ us) (suc n) (suc m) t same = still_whole us n m t same

head_kept : (table q scn n : ℕ) (ps : List (Part × Interval)) → (ps ≡ [] → ⊥) → Each (IsKept table q) (map (part_touch scn n true) ps) → ((n == table) && nat_lt q scn) ≡ false
head_kept table q scn n [] some h = absurd (some refl)
head_kept table q scn n (p ∷ ps) some h = h.0

-- where ALTER TABLE touches nothing of a table after an SCN it leaves it but for its row movement
pub alter_leaves : (c : Catalog) (n : ℕ) (a : Altering) (change : PartChange) → alter_part (kept_versions c) (base_now c) n (table_at (base_now c) n) change ≡ Ok a
    → (table q : ℕ) → q ≤ c.scn → Each (IsKept table q) (map (part_touch (suc c.scn) n true) a.touched) → AsBefore table (base_now c) (with_table (base_now c) n a.table)
alter_leaves c n a change cut table q low kept = by (cut_touches (kept_versions c) (base_now c) n (table_at (base_now c) n) a (cut_by (kept_versions c) (base_now c) n (table_at (base_now c) n) change a cut))
  where
    by : (a.touched ≡ [] → ⊥) ⊎ ((on : Bool) × (a ≡ with_movement (table_at (base_now c) n) on)) → AsBefore table (base_now c) (with_table (base_now c) n a.table)
    by (inl some) =
        as_other (base_now c) n table a.table (and_first (n == table) (nat_lt q (suc c.scn)) (lt-ltb q (suc c.scn) (omega (arith, low))) (head_kept table q (suc c.scn) n a.touched some kept))
    by (inr moves) =
        let many : length (with_table (base_now c) n a.table) ≡ length (base_now c) = with_length (base_now c) n a.table in
        record {
          rows = still_rows (base_now c) n table a.table (ap (λ (a : Altering). a.table.rows) moves.1);
          whole = λ there. still_whole (base_now c) n table a.table (ap (λ (a : Altering). still_table a.table) moves.1);
          grown = omega arith;
        }

alter_untouched : (c : Catalog) (n : ℕ) (a : Altering) (change : PartChange) → alter_part (kept_versions c) (base_now c) n (table_at (base_now c) n) change ≡ Ok a → Untouched c → Untouched (altered c n a)
alter_untouched c n a change cut h =
    untouched_based c (altered c n a) (with_table (base_now c) n a.table) [] (map (part_touch (suc c.scn) n true) a.touched) refl (base_altered c n a) (sym (append-nil c.changes)) refl
    (λ table q low spared kept. alter_leaves c n a change cut table q low kept) h

create_untouched : (c : Catalog) (t : Table) → t.rows ≡ [] → Untouched c → Untouched (with_base c (base_now c ++ t ∷ []))
create_untouched c t none h =
    untouched_based c (with_base c (base_now c ++ t ∷ [])) (base_now c ++ t ∷ []) [] [] refl (base_created c (base_now c ++ t ∷ [])) (sym (append-nil c.changes)) (sym (append-nil c.touches))
    (λ table q low spared kept. as_more table (base_now c) t none) h

move_untouched : (s : State) (x : Event) (d : Catalog) → IsBounded s.catalog → Move s x d → Untouched s.catalog → Untouched d
move_untouched s x d bounded (Stays is) h = subst Untouched (sym is) h
move_untouched s x d bounded (Commits p ss same block is) h = subst Untouched (sym is) (commit_untouched s.catalog p ss same h)
move_untouched s x d bounded (Creates t new fits is) h = subst Untouched (sym is) (create_untouched s.catalog (defined (defs_now s.catalog) t) refl h)
move_untouched s x d bounded (Alters n a same change form cut is) h = subst Untouched (sym is) (alter_untouched s.catalog n a change cut h)
move_untouched s x d bounded (Logs logs made is) h =
    let later : Catalog = record (next_scn s.catalog) { logs = logs } in
    subst Untouched (sym is) (untouched_same s.catalog later (base_later s.catalog later refl (omega arith) bounded) refl refl refl h)
move_untouched s x d bounded (Purges logs purge is) h = subst Untouched (sym is) h
move_untouched s x d bounded (Forgets oldest more undo is) h = subst Untouched (sym is) h
move_untouched s x d bounded (Adds v w new star is) h = subst Untouched (sym is) h
move_untouched s x d bounded (Switches n f keeps is) h = subst Untouched (sym is) h
move_untouched s x d bounded (Installs b ps begun takes is) h =
    let same : SamePast s.catalog (installed ps s.catalog) = installed_past s.catalog ps in
    subst Untouched (sym is) (untouched_same s.catalog (installed ps s.catalog) (installed_base s.catalog ps) same.past same.changes same.touches h)
move_untouched s x d bounded (Drops n free is) h = subst Untouched (sym is) h
move_untouched s x d bounded (Declares a new is) h = subst Untouched (sym is) h
move_untouched s x d bounded (Withdraws name is) h = subst Untouched (sym is) h

untouched_none : Untouched empty_catalog
untouched_none table q spared kept =
    as_same table (base_at empty_catalog q) [] (ap (λ b. option_case (cond b (Some (0, [])) None) [] (λ (p : ℕ × Base). p.1)) (le-leb 0 q (omega arith)))

trace_untouched : (trace : List Event) → Untouched (catalog_of trace)
trace_untouched = by_events (λ trace. Untouched (catalog_of trace)) untouched_none step
  where
    step : (front : List Event) (e : Event) → Untouched (catalog_of front) → Untouched (catalog_of (front ++ e ∷ []))
    step front e h =
        subst (λ (s : State). Untouched s.catalog) (sym (state_push front e))
        (move_untouched (state_of front) e (state_after (state_of front) e).catalog (bounded_of front) (moves (state_of front) e).catalog h)

-- ---- in the words of the law

pub map_nil : {A B : Type 0} (f : A → B) (xs : List A) → map f xs ≡ [] → xs ≡ []
map_nil f [] e = refl
map_nil f (x ∷ xs) e = absurd (cc)

pub filter_nil : {A : Type 0} (p : A → Bool) (xs : List A) → filter p xs ≡ [] → Each (λ x. p x ≡ false) xs
filter_nil p [] e = tt
filter_nil p (x ∷ xs) e = by (p x) refl e (filter_nil p xs)
  where
    by : (b : Bool) → p x ≡ b → cond b (x ∷ filter p xs) (filter p xs) ≡ [] → (filter p xs ≡ [] → Each (λ x. p x ≡ false) xs) → (p x ≡ false) × Each (λ x. p x ≡ false) xs
    by true is e later = absurd (cc)
    by false is e later = (is, later e)

any_filter : {A : Type 0} (g p : A → Bool) (xs : List A) → list_any g (filter p xs) ≡ false → Each (λ x. (g x && p x) ≡ false) xs
any_filter g p [] e = tt
any_filter g p (x ∷ xs) e = by (p x) refl e (any_filter g p xs)
  where
    by : (b : Bool) → p x ≡ b → list_any g (cond b (x ∷ filter p xs) (filter p xs)) ≡ false → (list_any g (filter p xs) ≡ false → Each (λ x. (g x && p x) ≡ false) xs)
        → ((g x && p x) ≡ false) × Each (λ x. (g x && p x) ≡ false) xs
    by true is e later = (ap (λ b. b && p x) (or_parts (g x) (list_any g (filter p xs)) e).0, later (or_parts (g x) (list_any g (filter p xs)) e).1)
    by false is e later = (and_right (g x) (p x) is, later e)

without_last : (a b c : Bool) → c ≡ true → (a && (b && c)) ≡ false → (a && b) ≡ false
without_last false b c is e = refl
without_last true b c is e = and_first b c is e

without_inner : (m a b c : Bool) → c ≡ true → (m && (a && (b && c))) ≡ false → (m && (a && b)) ≡ false
without_inner false a b c is e = refl
without_inner true a b c is e = without_last a b c is e

spared_of : (c : Catalog) (table q : ℕ) → Each (λ n. n.scn ≤ c.scn) c.changes → changes_of c table q c.scn ≡ [] → Each (IsSpared table q) c.changes
spared_of c table q bounded none =
    each_weaker (λ n. (n.scn ≤ c.scn) × (((n.table == table) && within q c.scn n.scn) ≡ false)) (IsSpared table q)
    (λ n both. without_last (n.table == table) (nat_lt q n.scn) (nat_le n.scn c.scn) (le-leb n.scn c.scn both.0) both.1) c.changes
    (each_two (λ n. n.scn ≤ c.scn) (λ n. ((n.table == table) && within q c.scn n.scn) ≡ false) c.changes bounded
    (filter_nil (λ n. (n.table == table) && within q c.scn n.scn) c.changes (map_nil (λ n. n.change) (noted_changes c table q c.scn) none)))

pub kept_of : (c : Catalog) (table q : ℕ) → Each (λ t. t.touch.scn ≤ c.scn) c.touches → maintained c table q c.scn ≡ false → Each (IsKept table q) c.touches
kept_of c table q bounded none =
    each_weaker (λ t. (t.touch.scn ≤ c.scn) × ((t.by_maintenance && ((t.table == table) && within q c.scn t.touch.scn)) ≡ false)) (IsKept table q)
    (λ t both. without_inner t.by_maintenance (t.table == table) (nat_lt q t.touch.scn) (nat_le t.touch.scn c.scn) (le-leb t.touch.scn c.scn both.0) both.1) c.touches
    (each_two (λ t. t.touch.scn ≤ c.scn) (λ t. (t.by_maintenance && ((t.table == table) && within q c.scn t.touch.scn)) ≡ false) c.touches bounded
    (any_filter (λ t. t.by_maintenance) (λ t. (t.table == table) && within q c.scn t.touch.scn) c.touches none))

as_before : (trace : List Event) (table q : ℕ) → changes_of (catalog_of trace) table q (catalog_of trace).scn ≡ [] → maintained (catalog_of trace) table q (catalog_of trace).scn ≡ false
    → AsBefore table (base_at (catalog_of trace) q) (base_now (catalog_of trace))
as_before trace table q none kept =
    trace_untouched trace table q (spared_of (catalog_of trace) table q (changes_bounded (catalog_of trace) (reached trace)) none)
    (kept_of (catalog_of trace) table q (touches_bounded (catalog_of trace) (reached trace)) kept)

pub untouched_laws : UntouchedLaws
untouched_laws =
    record {
      rows = λ trace table p none kept. sym (as_before trace table p none kept).rows;
      whole = λ trace table p none kept there. sym ((as_before trace table p none kept).whole there);
    }
