-- The past of the base state, the changes and the touches grow at their new ends, by SCNs above that of before.
use Rattle.std.proofs.Common.{◌≡◌, ◌∙◌, sym, ap, refl, subst, arith, ℕ, suc, ◌<◌, ◌≤◌, true, false, cond, List, [], ◌∷◌, ◌++◌, map, Some, nat_le, nat_lt, ◌==◌, ◌&&◌}
use Rattle.std.proofs.lemmas.Bool.{and_right, le-leb, lt-leb}
use Rattle.std.specs.List.{enumerate_from, filter, find, fold, list_any}
use Rattle.std.proofs.lemmas.List.{append-nil, append_assoc}
use Rattle.wh_base.specs.Lists.{option_case}
use Rattle.wh_base.specs.Tables.{Base, Table, with_table}
use Rattle.wh_base.specs.declared.statements.Event.{Event}
use Rattle.def_effect.specs.Block.{Progress}
use Rattle.def_effect.specs.Define.{defined}
use Rattle.def_history.specs.Catalog.{Catalog, Noted, Renumbered, Touched, base_at, base_now, defs_now, empty_catalog}
use Rattle.def_history.specs.History.{noted_changes, noted_touches, within}
use Rattle.def_journal.specs.Committing.{after_block, commit_touches, do_dues, noted, part_touch, touched_parts, changes_in}
use Rattle.def_journal.specs.Journal.{state_after, state_of}
use Rattle.def_journal.specs.State.{State, empty_state}
use Rattle.def_journal.specs.Statements.{renumbered}
use Rattle.law_trace.proofs.Due.{KeepsDue, dues_keep, installs_keep}
use Rattle.law_trace.proofs.Listed.{Each, Pairs, all_from, each_append, each_every, each_flat, each_made, each_weaker, filter_behind, find_behind, pairs_append, pairs_from, pairs_level, pairs_push}
use Rattle.law_trace.proofs.Moves.{Adds, Alters, Commits, Creates, Declares, Drops, Forgets, Installs, Logs, Move, Purges, Stays, Switches, Withdraws, installed}
use Rattle.law_trace.proofs.Stepping.{moves}
use Rattle.law_trace.proofs.Traces.{state_more}
use Rattle.law_trace.specs.Laws.{BaseLaws, ChangeLaws}
use Rattle.law_trace.specs.Reached.{catalog_of}

-- above one SCN and at most another
abbrev Between : ℕ → ℕ → ℕ → Type 0
Between m n k = (m < k) × (k ≤ n)

abbrev IsNotLater : Noted → Noted → Type 0
IsNotLater m n = m.scn ≤ n.scn

abbrev IsNotTouchedLater : Touched → Touched → Type 0
IsNotTouchedLater t u = t.touch.scn ≤ u.touch.scn

abbrev IsNewer : ℕ × Base → ℕ × Base → Type 0
IsNewer p q = q.0 < p.0

pub record Grows (c d : Catalog) : Type 0 where
  pub scn : c.scn ≤ d.scn
  pub oldest : c.oldest ≤ d.oldest
  pub newer : List (ℕ × Base)
  pub past : d.past ≡ newer ++ c.past
  pub falls : Pairs IsNewer newer
  pub recent : Each (λ p. Between c.scn d.scn p.0) newer
  pub news : List Noted
  pub changes : d.changes ≡ c.changes ++ news
  pub news_recent : Each (λ n. Between c.scn d.scn n.scn) news
  pub rising : Pairs IsNotLater news
  pub touched : List Touched
  pub touches : d.touches ≡ c.touches ++ touched
  pub touched_recent : Each (λ t. Between c.scn d.scn t.touch.scn) touched
  pub touched_rising : Pairs IsNotTouchedLater touched
  pub given : List Renumbered
  pub renumbered : d.renumbered ≡ c.renumbered ++ given
  pub given_recent : Each (λ n. Between c.scn d.scn n.scn) given

-- another catalog with the same past
pub record SamePast (c d : Catalog) : Type 0 where
  pub scn : d.scn ≡ c.scn
  pub oldest : d.oldest ≡ c.oldest
  pub past : d.past ≡ c.past
  pub changes : d.changes ≡ c.changes
  pub touches : d.touches ≡ c.touches
  pub renumbered : d.renumbered ≡ c.renumbered

grows_flat : (c d : Catalog) → c.scn ≤ d.scn → c.oldest ≤ d.oldest → d.past ≡ c.past → d.changes ≡ c.changes → d.touches ≡ c.touches → d.renumbered ≡ c.renumbered → Grows c d
grows_flat c d scn oldest past changes touches renumbered =
    record {
      scn = scn;
      oldest = oldest;
      newer = [];
      past = past;
      falls = tt;
      recent = tt;
      news = [];
      changes = changes ∙ sym (append-nil c.changes);
      news_recent = tt;
      rising = tt;
      touched = [];
      touches = touches ∙ sym (append-nil c.touches);
      touched_recent = tt;
      touched_rising = tt;
      given = [];
      renumbered = renumbered ∙ sym (append-nil c.renumbered);
      given_recent = tt;
    }

-- one base state more, with changes and touches, at the next SCN
grows_based : (c d : Catalog) (base : Base) (news : List Noted) (touched : List Touched) (given : List Renumbered) → d.scn ≡ suc c.scn → d.oldest ≡ c.oldest → d.past ≡ (suc c.scn, base) ∷ c.past
    → d.changes ≡ c.changes ++ news → Each (λ n. n.scn ≡ suc c.scn) news → d.touches ≡ c.touches ++ touched → Each (λ t. t.touch.scn ≡ suc c.scn) touched
    → d.renumbered ≡ c.renumbered ++ given → Each (λ n. n.scn ≡ suc c.scn) given → Grows c d
grows_based c d base news touched given scn oldest past changes news_at touches touched_at renumbered given_at =
    record {
      scn = omega arith;
      oldest = omega arith;
      newer = (suc c.scn, base) ∷ [];
      past = past;
      falls = (tt, tt);
      recent = ((omega arith, omega arith), tt);
      news = news;
      changes = changes;
      news_recent = each_weaker (λ n. n.scn ≡ suc c.scn) (λ n. Between c.scn d.scn n.scn) (λ n at. (omega arith, omega arith)) news news_at;
      rising = pairs_level (λ (n : Noted). n.scn) (suc c.scn) news news_at;
      touched = touched;
      touches = touches;
      touched_recent = each_weaker (λ t. t.touch.scn ≡ suc c.scn) (λ t. Between c.scn d.scn t.touch.scn) (λ t at. (omega arith, omega arith)) touched touched_at;
      touched_rising = pairs_level (λ (t : Touched). t.touch.scn) (suc c.scn) touched touched_at;
      given = given;
      renumbered = renumbered;
      given_recent = each_weaker (λ n. n.scn ≡ suc c.scn) (λ n. Between c.scn d.scn n.scn) (λ n at. (omega arith, omega arith)) given given_at;
    }

grows_on : (c d e : Catalog) → Grows c d → Grows d e → Grows c e
grows_on c d e h k =
    let low : c.scn ≤ d.scn = h.scn in
    let high : d.scn ≤ e.scn = k.scn in
    record {
      scn = omega arith;
      oldest = omega (arith, h.oldest, k.oldest);
      newer = k.newer ++ h.newer;
      past = k.past ∙ ap (λ past. k.newer ++ past) h.past ∙ sym (append_assoc k.newer h.newer c.past);
      falls = pairs_append IsNewer k.newer h.newer k.falls h.falls
          (each_weaker (λ p. Between d.scn e.scn p.0) (λ p. Each (IsNewer p) h.newer)
          (λ p above. each_weaker (λ q. Between c.scn d.scn q.0) (IsNewer p) (λ q below. omega (arith, above.0, below.1)) h.newer h.recent) k.newer k.recent);
      recent = each_append (λ p. Between c.scn e.scn p.0) k.newer h.newer
          (each_weaker (λ p. Between d.scn e.scn p.0) (λ p. Between c.scn e.scn p.0) (λ p b. (omega (arith, b.0), b.1)) k.newer k.recent)
          (each_weaker (λ p. Between c.scn d.scn p.0) (λ p. Between c.scn e.scn p.0) (λ p b. (b.0, omega (arith, b.1))) h.newer h.recent);
      news = h.news ++ k.news;
      changes = k.changes ∙ ap (λ changes. changes ++ k.news) h.changes ∙ append_assoc c.changes h.news k.news;
      news_recent = each_append (λ n. Between c.scn e.scn n.scn) h.news k.news
          (each_weaker (λ n. Between c.scn d.scn n.scn) (λ n. Between c.scn e.scn n.scn) (λ n b. (b.0, omega (arith, b.1))) h.news h.news_recent)
          (each_weaker (λ n. Between d.scn e.scn n.scn) (λ n. Between c.scn e.scn n.scn) (λ n b. (omega (arith, b.0), b.1)) k.news k.news_recent);
      rising = pairs_append IsNotLater h.news k.news h.rising k.rising
          (each_weaker (λ n. Between c.scn d.scn n.scn) (λ n. Each (IsNotLater n) k.news)
          (λ n below. each_weaker (λ m. Between d.scn e.scn m.scn) (IsNotLater n) (λ m above. omega (arith, above.0, below.1)) k.news k.news_recent) h.news h.news_recent);
      touched = h.touched ++ k.touched;
      touches = k.touches ∙ ap (λ touches. touches ++ k.touched) h.touches ∙ append_assoc c.touches h.touched k.touched;
      touched_recent = each_append (λ t. Between c.scn e.scn t.touch.scn) h.touched k.touched
          (each_weaker (λ t. Between c.scn d.scn t.touch.scn) (λ t. Between c.scn e.scn t.touch.scn) (λ t b. (b.0, omega (arith, b.1))) h.touched h.touched_recent)
          (each_weaker (λ t. Between d.scn e.scn t.touch.scn) (λ t. Between c.scn e.scn t.touch.scn) (λ t b. (omega (arith, b.0), b.1)) k.touched k.touched_recent);
      touched_rising = pairs_append IsNotTouchedLater h.touched k.touched h.touched_rising k.touched_rising
          (each_weaker (λ t. Between c.scn d.scn t.touch.scn) (λ t. Each (IsNotTouchedLater t) k.touched)
          (λ t below. each_weaker (λ u. Between d.scn e.scn u.touch.scn) (IsNotTouchedLater t) (λ u above. omega (arith, above.0, below.1)) k.touched k.touched_recent) h.touched h.touched_recent);
      given = h.given ++ k.given;
      renumbered = k.renumbered ∙ ap (λ ns. ns ++ k.given) h.renumbered ∙ append_assoc c.renumbered h.given k.given;
      given_recent = each_append (λ n. Between c.scn e.scn n.scn) h.given k.given
          (each_weaker (λ n. Between c.scn d.scn n.scn) (λ n. Between c.scn e.scn n.scn) (λ n b. (b.0, omega (arith, b.1))) h.given h.given_recent)
          (each_weaker (λ n. Between d.scn e.scn n.scn) (λ n. Between c.scn e.scn n.scn) (λ n b. (omega (arith, b.0), b.1)) k.given k.given_recent);
    }

-- ---- what an event does

same_past : (c : Catalog) → SamePast c c
same_past c = record { scn = refl; oldest = refl; past = refl; changes = refl; touches = refl; renumbered = refl }

due_keeps_past : (c : Catalog) → KeepsDue (SamePast c)
due_keeps_past c =
    record {
      suspends = λ d n h. record { scn = h.scn; oldest = h.oldest; past = h.past; changes = h.changes; touches = h.touches; renumbered = h.renumbered };
      refreshes = λ d n h. record { scn = h.scn; oldest = h.oldest; past = h.past; changes = h.changes; touches = h.touches; renumbered = h.renumbered };
    }

-- the refreshes at a commit leave the past
pub dues_past : (c : Catalog) (p : Progress) → SamePast (after_block c p) (do_dues (after_block c p) p.changes).catalog
dues_past c p = dues_keep (SamePast (after_block c p)) (due_keeps_past (after_block c p)) (after_block c p) p.changes (same_past (after_block c p))

commit_grows : (c : Catalog) (p : Progress) → Grows c (do_dues (after_block c p) p.changes).catalog
commit_grows c p =
    let same : SamePast (after_block c p) (do_dues (after_block c p) p.changes).catalog = dues_past c p in
    grows_based c (do_dues (after_block c p) p.changes).catalog p.base (map (noted (suc c.scn)) p.changes) (commit_touches (suc c.scn) p.base p.changes) []
    same.scn same.oldest same.past same.changes (each_made (λ n. n.scn ≡ suc c.scn) (noted (suc c.scn)) (λ change. refl) p.changes)
    same.touches
    (each_flat (λ (t : Touched). t.touch.scn ≡ suc c.scn) (λ (q : ℕ × Table). map (part_touch (suc c.scn) q.0 false) (touched_parts q.1 (changes_in p.changes q.0)))
    (λ q. each_made (λ t. t.touch.scn ≡ suc c.scn) (part_touch (suc c.scn) q.0 false) (λ part. refl) (touched_parts q.1 (changes_in p.changes q.0))) (enumerate_from 0 p.base))
    (same.renumbered ∙ sym (append-nil c.renumbered)) tt

-- installs leave the past
pub installed_past : (c : Catalog) (ps : List (ℕ × ℕ)) → SamePast c (installed ps c)
installed_past c ps =
    installs_keep (SamePast c) (λ p. Unit {0}) (λ d p q h. record { scn = h.scn; oldest = h.oldest; past = h.past; changes = h.changes; touches = h.touches; renumbered = h.renumbered }) c ps
    (each_every (λ p. Unit {0}) (λ p. tt) ps) (same_past c)

installed_grows : (c : Catalog) (ps : List (ℕ × ℕ)) → Grows c (installed ps c)
installed_grows c ps =
    let same : SamePast c (installed ps c) = installed_past c ps in
    grows_flat c (installed ps c) (omega (arith, same.scn)) (omega (arith, same.oldest)) same.past same.changes same.touches same.renumbered

move_grows : (s : State) (x : Event) (d : Catalog) → Move s x d → Grows s.catalog d
move_grows s x d (Stays is) = subst (Grows s.catalog) (sym is) (grows_flat s.catalog s.catalog (omega arith) (omega arith) refl refl refl refl)
move_grows s x d (Commits p statements same block is) = subst (Grows s.catalog) (sym is) (commit_grows s.catalog p)
move_grows s x d (Creates t new fits is) =
    subst (Grows s.catalog) (sym is) (grows_based s.catalog _ (base_now s.catalog ++ defined (defs_now s.catalog) t ∷ []) [] [] [] refl refl refl (sym (append-nil s.catalog.changes)) tt (sym (append-nil s.catalog.touches)) tt (sym (append-nil s.catalog.renumbered)) tt)
move_grows s x d (Alters n a same change form cut is) =
    subst (Grows s.catalog) (sym is)
    (grows_based s.catalog _ (with_table (base_now s.catalog) n a.table) [] (map (part_touch (suc s.catalog.scn) n true) a.touched) (map (renumbered (suc s.catalog.scn) n) a.renumbered) refl refl refl (sym (append-nil s.catalog.changes)) tt refl
    (each_made (λ t. t.touch.scn ≡ suc s.catalog.scn) (part_touch (suc s.catalog.scn) n true) (λ part. refl) a.touched) refl
    (each_made (λ n. n.scn ≡ suc s.catalog.scn) (renumbered (suc s.catalog.scn) n) (λ rowid. refl) a.renumbered))
move_grows s x d (Logs logs made is) = subst (Grows s.catalog) (sym is) (grows_flat s.catalog _ (omega arith) (omega arith) refl refl refl refl)
move_grows s x d (Purges logs purge is) = subst (Grows s.catalog) (sym is) (grows_flat s.catalog _ (omega arith) (omega arith) refl refl refl refl)
move_grows s x d (Forgets oldest more undo is) = subst (Grows s.catalog) (sym is) (grows_flat s.catalog _ (omega arith) (omega arith) refl refl refl refl)
move_grows s x d (Adds v w new star is) = subst (Grows s.catalog) (sym is) (grows_flat s.catalog _ (omega arith) (omega arith) refl refl refl refl)
move_grows s x d (Switches n f keeps is) = subst (Grows s.catalog) (sym is) (grows_flat s.catalog _ (omega arith) (omega arith) refl refl refl refl)
move_grows s x d (Installs b ps begun takes is) = subst (Grows s.catalog) (sym is) (installed_grows s.catalog ps)
move_grows s x d (Drops n free is) = subst (Grows s.catalog) (sym is) (grows_flat s.catalog _ (omega arith) (omega arith) refl refl refl refl)
move_grows s x d (Declares a new is) = subst (Grows s.catalog) (sym is) (grows_flat s.catalog _ (omega arith) (omega arith) refl refl refl refl)
move_grows s x d (Withdraws name is) = subst (Grows s.catalog) (sym is) (grows_flat s.catalog _ (omega arith) (omega arith) refl refl refl refl)

events_grow : (s : State) (events : List Event) → Grows s.catalog (fold state_after s events).catalog
events_grow s [] = grows_flat s.catalog s.catalog (omega arith) (omega arith) refl refl refl refl
events_grow s (e ∷ events) =
    grows_on s.catalog (state_after s e).catalog (fold state_after (state_after s e) events).catalog (move_grows s e (state_after s e).catalog (moves s e).catalog)
    (events_grow (state_after s e) events)

pub trace_grows : (trace more : List Event) → Grows (catalog_of trace) (catalog_of (trace ++ more))
trace_grows trace more = subst (λ s. Grows (catalog_of trace) s.catalog) (sym (state_more trace more)) (events_grow (state_of trace) more)

pub reached : (trace : List Event) → Grows empty_catalog (catalog_of trace)
reached trace = events_grow empty_state trace

-- ---- what stays

pub base_stays : (c d : Catalog) → Grows c d → (p : ℕ) → p ≤ c.scn → base_at d p ≡ base_at c p
base_stays c d g p low =
    ap (λ past. option_case (find (λ q. nat_le q.0 p) past) [] (λ q. q.1)) g.past
    ∙ ap (λ o. option_case o [] (λ q. q.1))
    (find_behind (λ q. nat_le q.0 p) g.newer c.past
    (each_weaker (λ q. Between c.scn d.scn q.0) (λ q. nat_le q.0 p ≡ false) (λ q b. lt-leb q.0 p (omega (arith, b.0))) g.newer g.recent))

late : (c d : Catalog) (table from p scn k : ℕ) → p ≤ c.scn → Between c.scn d.scn scn → ((k == table) && within from p scn) ≡ false
late c d table from p scn k low b = and_right (k == table) (within from p scn) (and_right (nat_lt from scn) (nat_le scn p) (lt-leb scn p (omega (arith, b.0))))

pub noted_stay : (c d : Catalog) → Grows c d → (table from p : ℕ) → p ≤ c.scn → noted_changes d table from p ≡ noted_changes c table from p
noted_stay c d g table from p low =
    ap (λ changes. filter (λ n. (n.table == table) && within from p n.scn) changes) g.changes
    ∙ filter_behind (λ n. (n.table == table) && within from p n.scn) c.changes g.news
    (each_weaker (λ n. Between c.scn d.scn n.scn) (λ n. ((n.table == table) && within from p n.scn) ≡ false) (λ n b. late c d table from p n.scn n.table low b) g.news g.news_recent)

pub touched_stay : (c d : Catalog) → Grows c d → (table from p : ℕ) → p ≤ c.scn → noted_touches d table from p ≡ noted_touches c table from p
touched_stay c d g table from p low =
    ap (λ touches. filter (λ t. (t.table == table) && within from p t.touch.scn) touches) g.touches
    ∙ filter_behind (λ t. (t.table == table) && within from p t.touch.scn) c.touches g.touched
    (each_weaker (λ t. Between c.scn d.scn t.touch.scn) (λ t. ((t.table == table) && within from p t.touch.scn) ≡ false) (λ t b. late c d table from p t.touch.scn t.table low b) g.touched g.touched_recent)

-- no base state began above the SCN
pub past_bounded : (d : Catalog) → Grows empty_catalog d → Each (λ p. p.0 ≤ d.scn) d.past
past_bounded d g =
    subst (Each (λ p. p.0 ≤ d.scn)) (sym g.past)
    (each_append (λ p. p.0 ≤ d.scn) g.newer ((0, []) ∷ []) (each_weaker (λ p. Between 0 d.scn p.0) (λ p. p.0 ≤ d.scn) (λ p b. b.1) g.newer g.recent) (omega arith, tt))

past_falls : (d : Catalog) → Grows empty_catalog d → Pairs IsNewer d.past
past_falls d g =
    subst (Pairs IsNewer) (sym g.past)
    (pairs_push IsNewer g.newer (0, []) g.falls (each_weaker (λ p. Between 0 d.scn p.0) (λ p. IsNewer p (0, [])) (λ p b. b.0) g.newer g.recent))

pub changes_bounded : (d : Catalog) → Grows empty_catalog d → Each (λ n. n.scn ≤ d.scn) d.changes
changes_bounded d g =
    subst (Each (λ n. n.scn ≤ d.scn)) (sym g.changes) (each_weaker (λ n. Between 0 d.scn n.scn) (λ n. n.scn ≤ d.scn) (λ n b. b.1) g.news g.news_recent)

pub touches_bounded : (d : Catalog) → Grows empty_catalog d → Each (λ t. t.touch.scn ≤ d.scn) d.touches
touches_bounded d g =
    subst (Each (λ t. t.touch.scn ≤ d.scn)) (sym g.touches) (each_weaker (λ t. Between 0 d.scn t.touch.scn) (λ t. t.touch.scn ≤ d.scn) (λ t b. b.1) g.touched g.touched_recent)

pub renumbered_bounded : (d : Catalog) → Grows empty_catalog d → Each (λ n. n.scn ≤ d.scn) d.renumbered
renumbered_bounded d g =
    subst (Each (λ n. n.scn ≤ d.scn)) (sym g.renumbered) (each_weaker (λ n. Between 0 d.scn n.scn) (λ n. n.scn ≤ d.scn) (λ n b. b.1) g.given g.given_recent)

-- the first of the past is the base state of now
newest_of : (d : Catalog) → Each (λ p. p.0 ≤ d.scn) d.past → (past : List (ℕ × Base)) → d.past ≡ past → (past ≡ [] → ⊥)
    → (scn : ℕ) × (older : List (ℕ × Base)) × (d.past ≡ (scn, base_now d) ∷ older)
newest_of d bounded [] is some = absurd (some refl)
newest_of d bounded (p ∷ older) is some =
    let low : p.0 ≤ d.scn = (subst (Each (λ p. p.0 ≤ d.scn)) is bounded).0 in
    let base : base_now d ≡ p.1 =
    ap (λ past. option_case (find (λ q. nat_le q.0 d.scn) past) [] (λ q. q.1)) is
    ∙ ap (λ b. option_case (cond b (Some p) (find (λ q. nat_le q.0 d.scn) older)) [] (λ q. q.1)) (le-leb p.0 d.scn low) in
    (p.0, older, is ∙ ap (λ base. (p.0, base) ∷ older) (sym base))

not_empty : (front : List (ℕ × Base)) (p : ℕ × Base) → front ++ p ∷ [] ≡ [] → ⊥
not_empty [] p e = cc
not_empty (q ∷ front) p e = cc

newest : (d : Catalog) → Grows empty_catalog d → (scn : ℕ) × (older : List (ℕ × Base)) × (d.past ≡ (scn, base_now d) ∷ older)
newest d g = newest_of d (past_bounded d g) d.past refl (λ none. not_empty g.newer (0, []) (sym g.past ∙ none))

pub base_laws : BaseLaws
base_laws =
    record {
      grown = λ trace more. (trace_grows trace more).scn;
      oldest = λ trace more. (trace_grows trace more).oldest;
      stays = λ trace more. base_stays (catalog_of trace) (catalog_of (trace ++ more)) (trace_grows trace more);
      falls = λ trace. pairs_from IsNewer (catalog_of trace).past (past_falls (catalog_of trace) (reached trace));
      bounded = λ trace. all_from (λ p. p.0 ≤ (catalog_of trace).scn) (catalog_of trace).past (past_bounded (catalog_of trace) (reached trace));
      newest = λ trace. newest (catalog_of trace) (reached trace);
    }

pub change_laws : ChangeLaws
change_laws =
    record {
      changes = λ trace more table from p low. ap (λ ns. map (λ n. n.change) ns) (noted_stay (catalog_of trace) (catalog_of (trace ++ more)) (trace_grows trace more) table from p low);
      touches = λ trace more table from p low. ap (λ ts. map (λ t. t.touch) ts) (touched_stay (catalog_of trace) (catalog_of (trace ++ more)) (trace_grows trace more) table from p low);
      maintenance = λ trace more table from p low. ap (λ ts. list_any (λ t. t.by_maintenance) ts) (touched_stay (catalog_of trace) (catalog_of (trace ++ more)) (trace_grows trace more) table from p low);
      rising = λ trace. pairs_from IsNotLater (catalog_of trace).changes (subst (Pairs IsNotLater) (sym (reached trace).changes) (reached trace).rising);
      touched_rising = λ trace. pairs_from IsNotTouchedLater (catalog_of trace).touches (subst (Pairs IsNotTouchedLater) (sym (reached trace).touches) (reached trace).touched_rising);
      bounded = λ trace. all_from (λ n. n.scn ≤ (catalog_of trace).scn) (catalog_of trace).changes (changes_bounded (catalog_of trace) (reached trace));
      touched = λ trace. all_from (λ t. t.touch.scn ≤ (catalog_of trace).scn) (catalog_of trace).touches (touches_bounded (catalog_of trace) (reached trace));
    }
