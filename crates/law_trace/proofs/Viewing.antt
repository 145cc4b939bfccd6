-- Views by their numbers: what each event leaves of them.
use Rattle.std.proofs.Common.{◌≡◌, ◌∙◌, sym, ap, refl, subst, arith, ℕ, suc, ◌<◌, ◌≤◌, Bool, true, false, cond, not, List, [], ◌∷◌, ◌++◌, Option, None, Some, ◌==◌}
use Rattle.std.proofs.lemmas.Option.{none-some, same_Some}
use Rattle.std.specs.List.{filter, find, fold}
use Rattle.std.specs.Prelude.{option_map}
use Rattle.wh_base.specs.declared.statements.NewView.{NewView}
use Rattle.wh_base.specs.declared.statements.Event.{Event}
use Rattle.wh_base.specs.declared.views.ViewDef.{ViewDef}
use Rattle.def_history.specs.Catalog.{Catalog, View, view_numbered}
use Rattle.def_journal.specs.Committing.{after_block}
use Rattle.def_journal.specs.Journal.{state_after, state_of}
use Rattle.def_journal.specs.Refreshing.{change_view, refreshed_to}
use Rattle.def_journal.specs.State.{State, empty_state}
use Rattle.def_journal.specs.Statements.{with_view}
use Rattle.law_trace.proofs.Due.{KeepsDue, dues_keep, installs_keep, suspended}
use Rattle.law_trace.proofs.Listed.{Each, Pairs, each_append, each_every, each_filter, each_found, each_map, each_weaker, eq_false, find_changed, find_has, find_left, find_pushed, pairs_filter, pairs_map, pairs_push}
use Rattle.law_trace.proofs.Moves.{Adds, Alters, Commits, Creates, Declares, Drops, Forgets, Installs, Logs, Move, Purges, Stays, MakesView, Over, Plain, Switches, Withdraws, installed}
use Rattle.law_trace.proofs.Stepping.{moves}
use Rattle.law_trace.proofs.Traces.{state_more}
use Rattle.law_trace.specs.Reached.{IsSameView, catalog_of}

-- ---- one view, changed

same_on : (d e f : ViewDef) → IsSameView d e → IsSameView e f → IsSameView d f
same_on d e f h k = k ∙ ap (λ (x : ViewDef). record x { rewrite = f.rewrite }) h

-- the view of this number changed, and any other as it is
abbrev changed : ℕ → (View → View) → View → View
changed n f v = cond (v.def.view == n) (f v) v

changed_same : (n : ℕ) (f : View → View) → ((v : View) → IsSameView v.def (f v).def) → (v : View) → IsSameView v.def (changed n f v).def
changed_same n f keeps v = by (v.def.view == n)
  where
    by : (b : Bool) → IsSameView v.def (cond b (f v) v).def
    by true = keeps v
    by false = refl

changed_number : (n : ℕ) (f : View → View) → ((v : View) → IsSameView v.def (f v).def) → (v : View) → (changed n f v).def.view ≡ v.def.view
changed_number n f keeps v = ap (λ (d : ViewDef). d.view) (changed_same n f keeps v)

pub changed_name : (n : ℕ) (f : View → View) → ((v : View) → IsSameView v.def (f v).def) → (v : View) → (changed n f v).def.name ≡ v.def.name
changed_name n f keeps v = ap (λ (d : ViewDef). d.name) (changed_same n f keeps v)

-- ---- the same view, before and after

-- the view w as it was before
pub record Earlier (c : Catalog) (n : ℕ) (w : View) : Type 0 where
  pub view : View
  pub found : view_numbered c n ≡ Some view
  pub same : IsSameView view.def w.def

pub record Follows (c d : Catalog) : Type 0 where
  pub made : c.views_made ≤ d.views_made
  pub kept : (n : ℕ) (w : View) → n ≤ c.views_made → view_numbered d n ≡ Some w → Earlier c n w

follows_same : (c d : Catalog) → d.views ≡ c.views → d.views_made ≡ c.views_made → Follows c d
follows_same c d views made =
    record {
      made = omega arith;
      kept = λ n w low found. record { view = w; found = ap (λ vs. find (λ v. v.def.view == n) vs) (sym views) ∙ found; same = refl };
    }

follows_on : (c d e : Catalog) → Follows c d → Follows d e → Follows c e
follows_on c d e h k =
    let low : c.views_made ≤ d.views_made = h.made in
    let high : d.views_made ≤ e.views_made = k.made in
    record {
      made = omega arith;
      kept = λ n w small found.
          let later : Earlier d n w = k.kept n w (omega arith) found in
          let first : Earlier c n later.view = h.kept n later.view small later.found in
          record { view = first.view; found = first.found; same = same_on first.view.def later.view.def w.def first.same later.same };
    }

pub mapped : {A B : Type 0} (g : A → B) (o : Option A) (w : B) → option_map g o ≡ Some w → (v : A) × (o ≡ Some v) × (g v ≡ w)
mapped g None w e = absurd (cc)
mapped g (Some v) w e = let same : g v ≡ w = cc in (v, refl, same)

follows_changed : (c : Catalog) (n : ℕ) (f : View → View) → ((v : View) → IsSameView v.def (f v).def) → Follows c (change_view n f c)
follows_changed c n f keeps =
    record {
      made = omega arith;
      kept = λ m w low found.
          let both = mapped (changed n f) (view_numbered c m) w (sym (find_changed (λ v. v.def.view) (changed n f) (changed_number n f keeps) m c.views) ∙ found) in
          record { view = both.0; found = both.1; same = subst (λ (u : View). IsSameView both.0.def u.def) both.2 (changed_same n f keeps both.0) };
    }

follows_dropped : (c : Catalog) (n : ℕ) → Follows c (record c { views = filter (λ w. not (w.def.view == n)) c.views })
follows_dropped c n =
    record {
      made = omega arith;
      kept = λ m w low found. record { view = w; found = find_left (λ v. v.def.view) n m c.views w found; same = refl };
    }

follows_added : (c : Catalog) (v : View) → v.def.view ≡ suc c.views_made → Follows c (with_view c v)
follows_added c v number =
    record {
      made = omega arith;
      kept = λ m w low found.
          let below : m < v.def.view = omega arith in
          record { view = w; found = sym (find_pushed (λ v. v.def.view) m c.views v (eq_false m v.def.view below)) ∙ found; same = refl };
    }

due_follows : (c : Catalog) → KeepsDue (Follows c)
due_follows c =
    record {
      suspends = λ d n h. follows_on c d (change_view n suspended d) h (follows_changed d n suspended (λ v. refl));
      refreshes = λ d n h. follows_on c d (change_view n (refreshed_to d.scn) d) h (follows_changed d n (refreshed_to d.scn) (λ v. refl));
    }

installed_follows : (c : Catalog) (ps : List (ℕ × ℕ)) → Follows c (installed ps c)
installed_follows c ps =
    installs_keep (Follows c) (λ p. Unit {0}) (λ d p q h. follows_on c d (change_view p.0 (refreshed_to p.1) d) h (follows_changed d p.0 (refreshed_to p.1) (λ v. refl))) c ps
    (each_every (λ p. Unit {0}) (λ p. tt) ps) (follows_same c c refl refl)

-- a new view has the next number and the name that was asked for
pub made_number : (c : Catalog) (v : NewView) (w : View) → MakesView c v w → w.def.view ≡ suc c.views_made
made_number c v w (Plain q star is) = ap (λ (w : View). w.def.view) is
made_number c v w (Over u q beneath star built is) = ap (λ (w : View). w.def.view) is

pub made_name : (c : Catalog) (v : NewView) (w : View) → MakesView c v w → w.def.name ≡ v.name
made_name c v w (Plain q star is) = ap (λ (w : View). w.def.name) is
made_name c v w (Over u q beneath star built is) = ap (λ (w : View). w.def.name) is

move_follows : (s : State) (x : Event) (d : Catalog) → Move s x d → Follows s.catalog d
move_follows s x d (Stays is) = subst (Follows s.catalog) (sym is) (follows_same s.catalog s.catalog refl refl)
move_follows s x d (Commits p statements same block is) =
    subst (Follows s.catalog) (sym is)
    (dues_keep (Follows s.catalog) (due_follows s.catalog) (after_block s.catalog p) p.changes (follows_same s.catalog (after_block s.catalog p) refl refl))
move_follows s x d (Creates t new fits is) = subst (Follows s.catalog) (sym is) (follows_same s.catalog _ refl refl)
move_follows s x d (Alters n a same change form cut is) = subst (Follows s.catalog) (sym is) (follows_same s.catalog _ refl refl)
move_follows s x d (Logs logs made is) = subst (Follows s.catalog) (sym is) (follows_same s.catalog _ refl refl)
move_follows s x d (Purges logs purge is) = subst (Follows s.catalog) (sym is) (follows_same s.catalog _ refl refl)
move_follows s x d (Forgets oldest more undo is) = subst (Follows s.catalog) (sym is) (follows_same s.catalog _ refl refl)
move_follows s x d (Adds v w new star is) = subst (Follows s.catalog) (sym is) (follows_added s.catalog w (made_number s.catalog v w star))
move_follows s x d (Switches n f keeps is) = subst (Follows s.catalog) (sym is) (follows_changed s.catalog n f keeps.def)
move_follows s x d (Installs b ps begun takes is) = subst (Follows s.catalog) (sym is) (installed_follows s.catalog ps)
move_follows s x d (Drops n free is) = subst (Follows s.catalog) (sym is) (follows_dropped s.catalog n)
move_follows s x d (Declares a new is) = subst (Follows s.catalog) (sym is) (follows_same s.catalog _ refl refl)
move_follows s x d (Withdraws name is) = subst (Follows s.catalog) (sym is) (follows_same s.catalog _ refl refl)

events_follow : (s : State) (events : List Event) → Follows s.catalog (fold state_after s events).catalog
events_follow s [] = follows_same s.catalog s.catalog refl refl
events_follow s (e ∷ events) =
    follows_on s.catalog (state_after s e).catalog (fold state_after (state_after s e) events).catalog (move_follows s e (state_after s e).catalog (moves s e).catalog)
    (events_follow (state_after s e) events)

pub trace_follows : (trace more : List Event) → Follows (catalog_of trace) (catalog_of (trace ++ more))
trace_follows trace more = subst (λ s. Follows (catalog_of trace) s.catalog) (sym (state_more trace more)) (events_follow (state_of trace) more)

pub same_later : (c d : Catalog) → Follows c d → (n : ℕ) (v w : View) → n ≤ c.views_made → view_numbered c n ≡ Some v → view_numbered d n ≡ Some w → IsSameView v.def w.def
same_later c d h n v w low before after =
    let was : Earlier c n w = h.kept n w low after in
    let one : was.view ≡ v = same_Some was.view v (sym was.found ∙ before) in
    subst (λ (u : View). IsSameView u.def w.def) one was.same

pub gone_later : (c d : Catalog) → Follows c d → (n : ℕ) → n ≤ c.views_made → view_numbered c n ≡ None → view_numbered d n ≡ None
gone_later c d h n low before = by (view_numbered d n) refl
  where
    by : (o : Option View) → view_numbered d n ≡ o → view_numbered d n ≡ None
    by None e = e
    by (Some w) e = let was : Earlier c n w = h.kept n w low e in absurd (none-some was.view (sym before ∙ was.found))

-- ---- the numbers ascend

abbrev pub IsBefore : View → View → Type 0
IsBefore v w = v.def.view < w.def.view

abbrev pub IsNumbered : ℕ → View → Type 0
IsNumbered made v = (1 ≤ v.def.view) × (v.def.view ≤ made)

pub record Ordered (c : Catalog) : Type 0 where
  pub ascending : Pairs IsBefore c.views
  pub numbered : Each (IsNumbered c.views_made) c.views

ordered_same : (c d : Catalog) → d.views ≡ c.views → d.views_made ≡ c.views_made → Ordered c → Ordered d
ordered_same c d views made h =
    record {
      ascending = subst (Pairs IsBefore) (sym views) h.ascending;
      numbered = subst (λ n. Each (IsNumbered n) d.views) (sym made) (subst (Each (IsNumbered c.views_made)) (sym views) h.numbered);
    }

ordered_changed : (c : Catalog) (n : ℕ) (f : View → View) → ((v : View) → IsSameView v.def (f v).def) → Ordered c → Ordered (change_view n f c)
ordered_changed c n f keeps h =
    let number : (v : View) → (changed n f v).def.view ≡ v.def.view = changed_number n f keeps in
    record {
      ascending = pairs_map IsBefore (changed n f) (λ v w below. omega (arith, number v, number w, below)) c.views h.ascending;
      numbered = each_map (IsNumbered c.views_made) (IsNumbered c.views_made) (changed n f) (λ v is. (omega (arith, number v, is.0), omega (arith, number v, is.1))) c.views h.numbered;
    }

ordered_dropped : (c : Catalog) (n : ℕ) → Ordered c → Ordered (record c { views = filter (λ w. not (w.def.view == n)) c.views })
ordered_dropped c n h =
    record {
      ascending = pairs_filter IsBefore (λ w. not (w.def.view == n)) c.views h.ascending;
      numbered = each_filter (IsNumbered c.views_made) (λ w. not (w.def.view == n)) c.views h.numbered;
    }

ordered_added : (c : Catalog) (v : View) → v.def.view ≡ suc c.views_made → Ordered c → Ordered (with_view c v)
ordered_added c v number h =
    record {
      ascending = pairs_push IsBefore c.views v h.ascending (each_weaker (IsNumbered c.views_made) (λ w. IsBefore w v) (λ w is. omega (arith, is.1)) c.views h.numbered);
      numbered = each_append (IsNumbered (suc c.views_made)) c.views (v ∷ [])
          (each_weaker (IsNumbered c.views_made) (IsNumbered (suc c.views_made)) (λ w is. (is.0, omega (arith, is.1))) c.views h.numbered) ((omega arith, omega arith), tt);
    }

due_ordered : KeepsDue Ordered
due_ordered =
    record {
      suspends = λ d n h. ordered_changed d n suspended (λ v. refl) h;
      refreshes = λ d n h. ordered_changed d n (refreshed_to d.scn) (λ v. refl) h;
    }

move_ordered : (s : State) (x : Event) (d : Catalog) → Move s x d → Ordered s.catalog → Ordered d
move_ordered s x d (Stays is) h = subst Ordered (sym is) h
move_ordered s x d (Commits p statements same block is) h =
    subst Ordered (sym is) (dues_keep Ordered due_ordered (after_block s.catalog p) p.changes (ordered_same s.catalog (after_block s.catalog p) refl refl h))
move_ordered s x d (Creates t new fits is) h = subst Ordered (sym is) (ordered_same s.catalog _ refl refl h)
move_ordered s x d (Alters n a same change form cut is) h = subst Ordered (sym is) (ordered_same s.catalog _ refl refl h)
move_ordered s x d (Logs logs made is) h = subst Ordered (sym is) (ordered_same s.catalog _ refl refl h)
move_ordered s x d (Purges logs purge is) h = subst Ordered (sym is) (ordered_same s.catalog _ refl refl h)
move_ordered s x d (Forgets oldest more undo is) h = subst Ordered (sym is) (ordered_same s.catalog _ refl refl h)
move_ordered s x d (Adds v w new star is) h = subst Ordered (sym is) (ordered_added s.catalog w (made_number s.catalog v w star) h)
move_ordered s x d (Switches n f keeps is) h = subst Ordered (sym is) (ordered_changed s.catalog n f keeps.def h)
move_ordered s x d (Installs b ps begun takes is) h = subst Ordered (sym is) (installs_keep Ordered (λ p. Unit {0}) (λ c p q h. ordered_changed c p.0 (refreshed_to p.1) (λ v. refl) h) s.catalog ps (each_every (λ p. Unit {0}) (λ p. tt) ps) h)
move_ordered s x d (Drops n free is) h = subst Ordered (sym is) (ordered_dropped s.catalog n h)
move_ordered s x d (Declares a new is) h = subst Ordered (sym is) (ordered_same s.catalog _ refl refl h)
move_ordered s x d (Withdraws name is) h = subst Ordered (sym is) (ordered_same s.catalog _ refl refl h)

events_ordered : (s : State) (events : List Event) → Ordered s.catalog → Ordered (fold state_after s events).catalog
events_ordered s [] h = h
events_ordered s (e ∷ events) h = events_ordered (state_after s e) events (move_ordered s e (state_after s e).catalog (moves s e).catalog h)

pub trace_ordered : (trace : List Event) → Ordered (catalog_of trace)
trace_ordered trace = events_ordered empty_state trace (record { ascending = tt; numbered = tt })

-- a view that is found was made
pub numbered_made : (c : Catalog) → Ordered c → (n : ℕ) (v : View) → view_numbered c n ≡ Some v → n ≤ c.views_made
numbered_made c h n v found =
    let number : v.def.view ≡ n = find_has (λ (v : View). v.def.view) n c.views v found in
    let made : IsNumbered c.views_made v = each_found (IsNumbered c.views_made) (λ v. v.def.view == n) c.views v h.numbered found in
    subst (λ n. n ≤ c.views_made) number made.1
