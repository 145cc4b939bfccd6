-- The rows of a table whose keys are in no partition that was touched after an SCN are as they were then.
use Rattle.std.proofs.Common.{◌≡◌, ◌∙◌, sym, ap, refl, subst, arith, ℕ, zero, suc, ◌<◌, ◌≤◌, Bool, true, false, cond, List, [], ◌∷◌, ◌++◌, length, map, Option, None, Some, nat_le, nat_lt, ◌==◌, ◌&&◌, ◌⊎◌, inl, inr}
use Rattle.std.specs.List.{enumerate_from, find}
use Rattle.std.specs.Prelude.{Ok}
use Rattle.std.proofs.lemmas.Bool.{and_from, eqb-true, le-leb, leb-false, lt-ltb, ltb-false, ltb-true}
use Rattle.std.proofs.lemmas.List.{append-nil}
use Rattle.wh_base.specs.Lists.{option_case}
use Rattle.wh_base.specs.Tables.{Base, Row, Table, TableChange, empty_table, table_after, table_at, with_table}
use Rattle.wh_base.specs.declared.statements.Event.{Event}
use Rattle.wh_base.specs.declared.statements.PartChange.{PartChange}
use Rattle.wh_base.specs.declared.statements.Statement.{Statement}
use Rattle.wh_base.specs.declared.tables.Part.{Part}
use Rattle.wh_base.specs.declared.tables.TableDef.{TableDef}
use Rattle.wh_base.specs.declared.values.Value.{Value}
use Rattle.def_effect.specs.Block.{Progress, effect}
use Rattle.def_effect.specs.Define.{defined}
use Rattle.def_effect.specs.Partitions.{Altering, alter_part}
use Rattle.def_history.specs.Catalog.{Catalog, Touched, base_at, base_now, defs_now, empty_catalog}
use Rattle.def_history.specs.History.{kept_versions}
use Rattle.def_journal.specs.Committing.{after_block, changes_in, commit_touches, do_dues, part_touch, touched_parts}
use Rattle.def_journal.specs.Journal.{state_after, state_of}
use Rattle.def_journal.specs.State.{State, next_scn, with_base}
use Rattle.def_journal.specs.Statements.{altered}
use Rattle.law_trace.proofs.Basing.{base_altered, base_committed, base_created, block_keeps, made_of}
use Rattle.law_trace.proofs.Bordering.{PartsRight, trace_numbered}
use Rattle.law_trace.proofs.Fitting.{AllFit, trace_fits, trace_sound}
use Rattle.law_trace.proofs.Growing.{SamePast, dues_past, installed_past}
use Rattle.law_trace.proofs.Listed.{Each, each_flat, each_left, each_made, each_right, each_two, each_unmap, each_weaker}
use Rattle.law_trace.proofs.Moves.{Adds, Alters, Commits, Creates, Declares, Drops, Forgets, Installs, Logs, Move, Purges, Stays, IsSameTable, Switches, Withdraws, installed}
use Rattle.law_trace.proofs.Rising.{Sound}
use Rattle.law_trace.proofs.Stepping.{moves}
use Rattle.law_trace.proofs.Tabling.{IsBounded, base_later, bounded_of, installed_base}
use Rattle.law_trace.proofs.Traces.{by_events, state_push}
use Rattle.law_trace.proofs.Untouched.{differ_of, more_rows, with_length, with_other}
use Rattle.law_trace.specs.Reached.{catalog_of, still}
use Rattle.law_trace.proofs.Blocks.{IsOutside, SidesGone, TouchOutside, Within, block_within, commit_gone, with_own}
use Rattle.law_trace.proofs.Changes.{table_past}
use Rattle.law_trace.proofs.Cuts.{cut_same}
use Rattle.law_trace.proofs.Marks.{kept, kept_of}

-- a table with no rows keeps none
none_kept : (out : ℕ → Value → Bool) (t : Table) → t.rows ≡ [] → kept_of out t ≡ []
none_kept out t none = ap (λ (rs : List Row). kept out t.def.part_key t.parts rs) none

-- what holds of each table and of one that isn't there holds at each number
each_at : (P : Table → Type 0) → P empty_table → (base : Base) (n : ℕ) → Each P base → P (table_at base n)
each_at P none [] n h = none
each_at P none (t ∷ base) zero h = h.0
each_at P none (t ∷ base) (suc n) h = each_at P none base n h.1

-- ---- two base states

-- of the table with this number the rows that are asked for are the same
pub record IsSame (out : ℕ → Value → Bool) (n : ℕ) (before later : Base) : Type 0 where
  pub rows : kept_of out (table_at before n) ≡ kept_of out (table_at later n)
  pub def : n < length before → still (table_at later n).def ≡ still (table_at before n).def
  pub grown : length before ≤ length later
  pub fit : AllFit (table_at before n)

same_base : (out : ℕ → Value → Bool) (n : ℕ) (before later : Base) → before ≡ later → AllFit (table_at before n) → IsSame out n before later
same_base out n before later same fit = subst (IsSame out n before) same (record { rows = refl; def = λ low. refl; grown = omega arith; fit = fit })

same_on : (out : ℕ → Value → Bool) (n : ℕ) (a b c : Base) → IsSame out n a b → IsSame out n b c → IsSame out n a c
same_on out n a b c h k =
    let first : length a ≤ length b = h.grown in
    let second : length b ≤ length c = k.grown in
    record { rows = h.rows ∙ k.rows; def = λ low. k.def (omega arith) ∙ h.def low; grown = omega arith; fit = h.fit }

same_table : (out : ℕ → Value → Bool) (n : ℕ) (before later : Base) → table_at before n ≡ table_at later n → length before ≤ length later → AllFit (table_at before n) → IsSame out n before later
same_table out n before later same grown fit =
    record { rows = ap (kept_of out) same; def = λ low. ap (λ (t : Table). still t.def) (sym same); grown = grown; fit = fit }

-- ---- what each event leaves

-- the change is of no row that is kept, by this partition key and these partitions
abbrev GoneBy : (ℕ → Value → Bool) → ℕ → Option ℕ → List Part → TableChange → Type 0
GoneBy out n key parts c = (c.table == n) ≡ true → SidesGone out key parts c.change

-- outside of what a commit touches
same_committed : (out : ℕ → Value → Bool) (n keep scn : ℕ) (base : Base) (ss : List Statement) (p : Progress) → effect base keep ss ≡ Ok p → Sound (table_at base n) → AllFit (table_at base n)
    → length base ≡ length p.base → Each (TouchOutside out n) (commit_touches scn p.base p.changes) → IsSame out n base p.base
same_committed out n keep scn base ss p is rises fit many touched = by (nat_lt n (length p.base)) refl
  where
    block : Within out base n p.changes (table_at p.base n)
    block = block_within out base n keep ss p is rises

    by : (b : Bool) → nat_lt n (length p.base) ≡ b → IsSame out n base p.base
    by true e =
        let gone : Each (GoneBy out n (table_at p.base n).def.part_key (table_at p.base n).parts) p.changes = commit_gone out scn n p.base p.changes (ltb-true n (length p.base) e) touched in
        let here : Each (GoneBy out n (table_at base n).def.part_key (table_at base n).parts) p.changes =
        subst (λ key. Each (GoneBy out n key (table_at base n).parts) p.changes) (ap (λ (d : TableDef). d.part_key) block.def)
        (subst (λ parts. Each (GoneBy out n (table_at p.base n).def.part_key parts) p.changes) block.parts gone) in
        let rows : kept_of out (table_at p.base n) ≡ kept_of out (table_at base n) =
        ap (λ (d : TableDef). kept out d.part_key (table_at p.base n).parts (table_at p.base n).rows) block.def
        ∙ ap (λ parts. kept out (table_at base n).def.part_key parts (table_at p.base n).rows) block.parts
        ∙ block.same here in
        record { rows = sym rows; def = λ low. ap still block.def; grown = omega (arith, many); fit = fit }
    by false e =
        let past : length p.base ≤ n = ltb-false n (length p.base) e in
        record {
          rows = none_kept out (table_at base n) (table_past base n (omega (arith, past, many))) ∙ sym (none_kept out (table_at p.base n) (table_past p.base n past));
          def = λ low. ap still block.def;
          grown = omega (arith, many);
          fit = fit;
        }

same_altered : (out : ℕ → Value → Bool) (kept n m : ℕ) (base : Base) (change : PartChange) (a : Altering) → alter_part kept base m (table_at base m) change ≡ Ok a
    → IsSameTable (table_at base m).def a.table.def → PartsRight (table_at base n) → AllFit (table_at base n) → ((m == n) ≡ true → Each (λ p. IsOutside out p.0.number p.1) a.touched) → IsSame out n base (with_table base m a.table)
same_altered out kept n m base change a is def numbered fit outside = by (m == n) refl
  where
    grown : length base ≤ length (with_table base m a.table)
    grown = let many : length (with_table base m a.table) ≡ length base = with_length base m a.table in omega arith

    own : m ≡ n → Each (λ p. IsOutside out p.0.number p.1) a.touched → (table_at (with_table base m a.table) m ≡ a.table) ⊎ (table_at (with_table base m a.table) m ≡ table_at base m) → IsSame out n base (with_table base m a.table)
    own one free (inr same) = subst (λ k. IsSame out k base (with_table base m a.table)) one (same_table out m base (with_table base m a.table) (sym same) grown (subst (λ k. AllFit (table_at base k)) (sym one) fit))
    own one free (inl same) =
        let there : AllFit (table_at base m) = subst (λ k. AllFit (table_at base k)) (sym one) fit in
        let counted : PartsRight (table_at base m) = subst (λ k. PartsRight (table_at base k)) (sym one) numbered in
        subst (λ k. IsSame out k base (with_table base m a.table)) one
        (record {
          rows = sym (ap (kept_of out) same ∙ cut_same out kept base m (table_at base m) change a is counted there free);
          def = λ low. ap (λ (t : Table). still t.def) same ∙ ap still def;
          grown = grown;
          fit = there;
        })

    by : (b : Bool) → (m == n) ≡ b → IsSame out n base (with_table base m a.table)
    by false e = same_table out n base (with_table base m a.table) (with_other base m n a.table (differ_of m n e)) grown fit
    by true e = own (eqb-true m n e) (outside e) (with_own base m a.table)

same_created : (out : ℕ → Value → Bool) (n : ℕ) (base : Base) (t : Table) → t.rows ≡ [] → AllFit (table_at base n) → IsSame out n base (base ++ t ∷ [])
same_created out n base t none fit = by (nat_lt n (length base)) refl
  where
    more_same : (base : Base) (n : ℕ) → n < length base → table_at base n ≡ table_at (base ++ t ∷ []) n
    more_same [] n low = absurd (omega arith)
    more_same (u ∷ us) zero low = refl
    more_same (u ∷ us) (suc n) low = more_same us n (omega arith)

    longer : (base : Base) → length base ≤ length (base ++ t ∷ [])
    longer [] = omega arith
    longer (u ∷ us) = let h : length us ≤ length (us ++ t ∷ []) = longer us in omega arith

    by : (b : Bool) → nat_lt n (length base) ≡ b → IsSame out n base (base ++ t ∷ [])
    by true e = same_table out n base (base ++ t ∷ []) (more_same base n (ltb-true n (length base) e)) (longer base) fit
    by false e =
        let past : length base ≤ n = ltb-false n (length base) e in
        let before : (table_at base n).rows ≡ [] = table_past base n past in
        record {
          rows = none_kept out (table_at base n) before ∙ sym (none_kept out (table_at (base ++ t ∷ []) n) (sym (more_rows base n t none) ∙ before));
          def = λ low. absurd (omega (arith, low, past));
          grown = longer base;
          fit = fit;
        }

-- ---- what was touched after an SCN

-- what is asked for is outside of the touch, where it is of the table and after the SCN
abbrev pub Avoids : (ℕ → Value → Bool) → ℕ → ℕ → Touched → Type 0
Avoids out n q t = ((t.table == n) && nat_lt q t.touch.scn) ≡ true → IsOutside out t.touch.number t.touch.interval

-- outside of all that was touched after q, a table is as it was at q
abbrev Outside : Catalog → Type 0
Outside c = (n q : ℕ) (out : ℕ → Value → Bool) → Each (Avoids out n q) c.touches → IsSame out n (base_at c q) (base_now c)

outside_same : (c d : Catalog) → base_now d ≡ base_now c → d.past ≡ c.past → d.touches ≡ c.touches → Outside c → Outside d
outside_same c d now past touches h n q out avoids =
    let at : base_at d q ≡ base_at c q = ap (λ past. option_case (find (λ p. nat_le p.0 q) past) [] (λ p. p.1)) past in
    subst (λ base. IsSame out n base (base_now d)) (sym at) (subst (IsSame out n (base_at c q)) (sym now) (h n q out (subst (Each (Avoids out n q)) touches avoids)))

-- one base state more, at the next SCN
outside_based : (c d : Catalog) (base : Base) (touched : List Touched) → d.past ≡ (suc c.scn, base) ∷ c.past → base_now d ≡ base → d.touches ≡ c.touches ++ touched
    → ((n : ℕ) → AllFit (table_at base n)) → ((n q : ℕ) (out : ℕ → Value → Bool) → q ≤ c.scn → Each (Avoids out n q) touched → IsSame out n (base_now c) base) → Outside c → Outside d
outside_based c d base touched past now touches fit step h n q out avoids =
    let all : Each (Avoids out n q) (c.touches ++ touched) = subst (Each (Avoids out n q)) touches avoids in
    subst (IsSame out n (base_at d q)) (sym now) (subst (λ past. IsSame out n (option_case (find (λ p. nat_le p.0 q) past) [] (λ p. p.1)) base) (sym past) (by (nat_le (suc c.scn) q) refl all))
  where
    by : (b : Bool) → nat_le (suc c.scn) q ≡ b → Each (Avoids out n q) (c.touches ++ touched)
        → IsSame out n (option_case (cond b (Some (suc c.scn, base)) (find (λ p. nat_le p.0 q) c.past)) [] (λ p. p.1)) base
    by true e all = same_base out n base base refl (fit n)
    by false e all =
        same_on out n (base_at c q) (base_now c) base (h n q out (each_left (Avoids out n q) c.touches touched all))
        (step n q out (omega (arith, leb-false (suc c.scn) q e)) (each_right (Avoids out n q) c.touches touched all))

-- ---- each event

touched_at : (scn : ℕ) (base : Base) (changes : List TableChange) → Each (λ t. t.touch.scn ≡ scn) (commit_touches scn base changes)
touched_at scn base changes =
    each_flat (λ (t : Touched). t.touch.scn ≡ scn) (λ (p : ℕ × Table). map (part_touch scn p.0 false) (touched_parts p.1 (changes_in changes p.0)))
    (λ p. each_made (λ t. t.touch.scn ≡ scn) (part_touch scn p.0 false) (λ part. refl) (touched_parts p.1 (changes_in changes p.0))) (enumerate_from 0 base)

-- a touch at the next SCN is after each that was reached
touch_free : (out : ℕ → Value → Bool) (n q scn : ℕ) (t : Touched) → q ≤ scn → t.touch.scn ≡ suc scn → Avoids out n q t → TouchOutside out n t
touch_free out n q scn t low at avoids own =
    avoids (and_from (t.table == n) (nat_lt q t.touch.scn) own (lt-ltb q t.touch.scn (omega (arith, low, at))))

block_length : (keep : ℕ) (base : Base) (ss : List Statement) (p : Progress) → effect base keep ss ≡ Ok p → length base ≡ length p.base
block_length keep base ss p same =
    block_keeps keep (λ q. length base ≡ length q.base)
    (λ q s a passes h. h ∙ sym (with_length q.base a.table (table_after (table_at q.base a.table) (made_of q.base a)))) base ss p same refl

-- what is known of the base state before and after an event
record Known (c d : Catalog) : Type 0 where
  bounded : IsBounded c
  fits : Each AllFit (base_now c)
  sound : Each Sound (base_now c)
  numbered : Each PartsRight (base_now c)
  after : Each AllFit (base_now d)

pub fit_at : (base : Base) (n : ℕ) → Each AllFit base → AllFit (table_at base n)
fit_at base n h = each_at AllFit tt base n h

fits_of : (d : Catalog) (base : Base) → base_now d ≡ base → Each AllFit (base_now d) → (n : ℕ) → AllFit (table_at base n)
fits_of d base now fits n = fit_at base n (subst (Each AllFit) now fits)

commit_outside : (c : Catalog) (p : Progress) (ss : List Statement) → effect (base_now c) (kept_versions c) ss ≡ Ok p → Known c (do_dues (after_block c p) p.changes).catalog → Outside c
    → Outside (do_dues (after_block c p) p.changes).catalog
commit_outside c p ss same known h =
    let d : Catalog = (do_dues (after_block c p) p.changes).catalog in
    let past : SamePast (after_block c p) d = dues_past c p in
    let touched : List Touched = commit_touches (suc c.scn) p.base p.changes in
    outside_based c d p.base touched past.past (base_committed c p) past.touches (fits_of d p.base (base_committed c p) known.after)
    (λ n q out low avoids.
    same_committed out n (kept_versions c) (suc c.scn) (base_now c) ss p same (each_at Sound ((tt, tt), tt) (base_now c) n known.sound) (fit_at (base_now c) n known.fits)
    (block_length (kept_versions c) (base_now c) ss p same)
    (each_weaker (λ t. (t.touch.scn ≡ suc c.scn) × Avoids out n q t) (TouchOutside out n) (λ t both. touch_free out n q c.scn t low both.0 both.1) touched
    (each_two (λ t. t.touch.scn ≡ suc c.scn) (Avoids out n q) touched (touched_at (suc c.scn) p.base p.changes) avoids))) h

alter_outside : (c : Catalog) (m : ℕ) (a : Altering) (change : PartChange) → alter_part (kept_versions c) (base_now c) m (table_at (base_now c) m) change ≡ Ok a → IsSameTable (table_at (base_now c) m).def a.table.def
    → Known c (altered c m a) → Outside c → Outside (altered c m a)
alter_outside c m a change is def known h =
    let base : Base = with_table (base_now c) m a.table in
    outside_based c (altered c m a) base (map (part_touch (suc c.scn) m true) a.touched) refl (base_altered c m a) refl (fits_of (altered c m a) base (base_altered c m a) known.after)
    (λ n q out low avoids.
    same_altered out (kept_versions c) n m (base_now c) change a is def (each_at PartsRight ((tt, tt), tt) (base_now c) n known.numbered) (fit_at (base_now c) n known.fits)
    (λ own. each_weaker (λ p. Avoids out n q (part_touch (suc c.scn) m true p)) (λ p. IsOutside out p.0.number p.1) (λ p k. touch_free out n q c.scn (part_touch (suc c.scn) m true p) low refl k own) a.touched
    (each_unmap (Avoids out n q) (part_touch (suc c.scn) m true) a.touched avoids))) h

create_outside : (c : Catalog) (t : Table) → t.rows ≡ [] → Known c (with_base c (base_now c ++ t ∷ [])) → Outside c → Outside (with_base c (base_now c ++ t ∷ []))
create_outside c t none known h =
    let d : Catalog = with_base c (base_now c ++ t ∷ []) in
    let base : Base = base_now c ++ t ∷ [] in
    outside_based c d base [] refl (base_created c base) (sym (append-nil c.touches)) (fits_of d base (base_created c base) known.after)
    (λ n q out low avoids. same_created out n (base_now c) t none (fit_at (base_now c) n known.fits)) h

move_outside : (s : State) (x : Event) (d : Catalog) → Known s.catalog d → Move s x d → Outside s.catalog → Outside d
move_outside s x d known (Stays is) h = subst Outside (sym is) h
move_outside s x d known (Commits p ss same block is) h = subst Outside (sym is) (commit_outside s.catalog p ss same (subst (Known s.catalog) is known) h)
move_outside s x d known (Creates t new fits is) h = subst Outside (sym is) (create_outside s.catalog (defined (defs_now s.catalog) t) refl (subst (Known s.catalog) is known) h)
move_outside s x d known (Alters n a same change form cut is) h = subst Outside (sym is) (alter_outside s.catalog n a change cut same (subst (Known s.catalog) is known) h)
move_outside s x d known (Logs logs made is) h =
    let later : Catalog = record (next_scn s.catalog) { logs = logs } in
    subst Outside (sym is) (outside_same s.catalog later (base_later s.catalog later refl (omega arith) known.bounded) refl refl h)
move_outside s x d known (Purges logs purge is) h = subst Outside (sym is) h
move_outside s x d known (Forgets oldest more undo is) h = subst Outside (sym is) h
move_outside s x d known (Adds v w new star is) h = subst Outside (sym is) h
move_outside s x d known (Switches n f keeps is) h = subst Outside (sym is) h
move_outside s x d known (Installs b ps begun takes is) h =
    let same : SamePast s.catalog (installed ps s.catalog) = installed_past s.catalog ps in
    subst Outside (sym is) (outside_same s.catalog (installed ps s.catalog) (installed_base s.catalog ps) same.past same.touches h)
move_outside s x d known (Drops n free is) h = subst Outside (sym is) h
move_outside s x d known (Declares a new is) h = subst Outside (sym is) h
move_outside s x d known (Withdraws name is) h = subst Outside (sym is) h

outside_none : Outside empty_catalog
outside_none n q out avoids =
    same_base out n (base_at empty_catalog q) [] same (subst (λ base. AllFit (table_at base n)) (sym same) tt)
  where
    same : base_at empty_catalog q ≡ []
    same = ap (λ b. option_case (cond b (Some (0, [])) None) [] (λ (p : ℕ × Base). p.1)) (le-leb 0 q (omega arith))

known_of : (front : List Event) (e : Event) → Known (catalog_of front) (state_after (state_of front) e).catalog
known_of front e =
    record {
      bounded = bounded_of front;
      fits = trace_fits front;
      sound = trace_sound front;
      numbered = trace_numbered front;
      after = subst (λ (s : State). Each AllFit (base_now s.catalog)) (state_push front e) (trace_fits (front ++ e ∷ []));
    }

pub trace_outside : (trace : List Event) → (n q : ℕ) (out : ℕ → Value → Bool) → Each (Avoids out n q) (catalog_of trace).touches → IsSame out n (base_at (catalog_of trace) q) (base_now (catalog_of trace))
trace_outside = by_events (λ trace. Outside (catalog_of trace)) outside_none step
  where
    step : (front : List Event) (e : Event) → Outside (catalog_of front) → Outside (catalog_of (front ++ e ∷ []))
    step front e h =
        subst (λ (s : State). Outside s.catalog) (sym (state_push front e))
        (move_outside (state_of front) e (state_after (state_of front) e).catalog (known_of front e) (moves (state_of front) e).catalog h)
