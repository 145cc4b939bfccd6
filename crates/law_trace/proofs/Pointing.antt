-- The points of the views, and the laws of views.
use Rattle.std.proofs.Common.{◌≡◌, ◌≢◌, ◌∙◌, sym, ap, subst, arith, ℕ, suc, ◌≤◌, Bool, true, false, cond, not, List, [], ◌∷◌, ◌++◌, map, None, Option, Some, refl, ◌==◌}
use Rattle.std.proofs.lemmas.Option.{none-some, same_Some}
use Rattle.std.specs.Option.{ForSome}
use Rattle.std.specs.Prelude.{option_and_then}
use Rattle.std.proofs.lemmas.Bool.{eqb-true}
use Rattle.wh_base.specs.declared.queries.RawQuery.{RawQuery}
use Rattle.wh_base.specs.declared.statements.NewView.{NewView}
use Rattle.def_resolve.specs.Names.{lone_name}
use Rattle.def_journal.specs.Nesting.{view_beneath}
use Rattle.wh_base.specs.Lists.{same_text, where_true}
use Rattle.wh_base.specs.Parts.{entry_bearer}
use Rattle.wh_base.specs.declared.statements.Event.{Event}
use Rattle.def_history.specs.Catalog.{Catalog, View, defs_now, names_taken, view_named}
use Rattle.def_journal.specs.Committing.{after_block}
use Rattle.def_journal.specs.Journal.{state_after, state_of}
use Rattle.def_journal.specs.Refreshing.{change_view, refreshed_to}
use Rattle.def_journal.specs.State.{Begun, Session, State, session_of}
use Rattle.law_trace.proofs.Due.{KeepsDue, dues_keep, installs_keep, suspended}
use Rattle.law_trace.proofs.Growing.{trace_grows}
use Rattle.law_trace.proofs.Imaging.{all_begun}
use Rattle.law_trace.proofs.Listed.{Each, Pairs, all_from, each_append, each_filter, each_found, each_map, each_unmap, each_weaker, pairs_from, pairs_left, pairs_right}
use Rattle.law_trace.proofs.Moves.{Adds, Alters, Commits, Creates, Declares, Drops, Forgets, Installs, Logs, Move, AtScn, AtView, Begins, Closes, Ends, IsPointIn, Keeps, MakesView, Nowhere, Opens, Over, Plain, Purges, Stays, Switches, Takes, Turn, Withdraws, installed, own}
use Rattle.law_trace.proofs.Stepping.{moves}
use Rattle.law_trace.proofs.Tabling.{trace_named}
use Rattle.law_trace.proofs.Traces.{by_events, state_push}
use Rattle.law_trace.proofs.Viewing.{IsBefore, IsNumbered, gone_later, numbered_made, same_later, trace_follows, trace_ordered}
use Rattle.law_trace.specs.Laws.{ViewLaws}
use Rattle.law_trace.specs.Reached.{HasBegun, begun_over, catalog_of, is_of}

abbrev IsAtMost : ℕ → View → Type 0
IsAtMost scn v = ForSome v.point (λ p. p ≤ scn)

abbrev Pointed : Catalog → Type 0
Pointed c = Each (IsAtMost c.scn) c.views

at_next : (scn : ℕ) (v : View) → IsAtMost scn v → IsAtMost (suc scn) v
at_next scn v at p e = let low : p ≤ scn = at p e in omega arith

raised : (scn : ℕ) (vs : List View) → Each (IsAtMost scn) vs → Each (IsAtMost (suc scn)) vs
raised scn vs h = each_weaker (IsAtMost scn) (IsAtMost (suc scn)) (at_next scn) vs h

refreshed_at : (scn m : ℕ) (v : View) → m ≤ scn → IsAtMost scn (refreshed_to m v)
refreshed_at scn m v low p e = let same : m ≡ p = same_Some m p e in omega arith

pointed_changed : (c : Catalog) (n : ℕ) (f : View → View) → ((v : View) → IsAtMost c.scn v → IsAtMost c.scn (f v)) → Pointed c → Pointed (change_view n f c)
pointed_changed c n f keeps h = each_map (IsAtMost c.scn) (IsAtMost c.scn) (λ v. cond (v.def.view == n) (f v) v) (λ v. by v (v.def.view == n)) c.views h
  where
    by : (v : View) (b : Bool) → IsAtMost c.scn v → IsAtMost c.scn (cond b (f v) v)
    by v true at = keeps v at
    by v false at = at

due_pointed : KeepsDue Pointed
due_pointed =
    record {
      suspends = λ d n h. pointed_changed d n suspended (λ v at. at) h;
      refreshes = λ d n h. pointed_changed d n (refreshed_to d.scn) (λ v at. refreshed_at d.scn d.scn v (omega arith)) h;
    }

built_at : (built : Bool) (scn p : ℕ) → where_true built scn ≡ Some p → p ≤ scn
built_at true scn p e = let same : scn ≡ p = same_Some scn p e in omega arith
built_at false scn p e = absurd (none-some p e)

-- the images of what was begun aren't of later SCNs, and their views have points too
abbrev IsEarlier : State → Session → Type 0
IsEarlier s x = (b : Begun) → x.begun ≡ Some b → (b.image.scn ≤ s.catalog.scn) × Pointed b.image

-- a view over a view has the point of the one beneath
beneath_at : (c : Catalog) (q : RawQuery) (u : View) → view_beneath c q ≡ Some u → Pointed c → IsAtMost c.scn u
beneath_at c q u is h = by (lone_name q) is
  where
    by : (o : Option (List ℕ)) → option_and_then (view_named c) o ≡ Some u → IsAtMost c.scn u
    by None e = absurd (none-some u e)
    by (Some name) e = each_found (IsAtMost c.scn) (λ v. same_text v.def.name name) c.views u h e

nested_at : (deferred : Bool) (o : Option ℕ) (scn : ℕ) → ForSome o (λ p. p ≤ scn) → ForSome (cond deferred None o) (λ p. p ≤ scn)
nested_at true o scn h = λ p e. absurd (none-some p e)
nested_at false o scn h = h

made_at : (c : Catalog) (v : NewView) (w : View) → MakesView c v w → Pointed c → IsAtMost c.scn w
made_at c v w (Plain q star is) h = subst (IsAtMost c.scn) (sym is) (λ p e. built_at (not v.deferred) c.scn p e)
made_at c v w (Over u q beneath star built is) h =
    subst (IsAtMost c.scn) (sym is) (nested_at v.deferred u.point c.scn (beneath_at c v.asked.query u beneath h))

-- no point that a refresh over an image gives is above its SCN
pub point_low : (c : Catalog) (to : ℕ) → Pointed c → IsPointIn c to → to ≤ c.scn
point_low c to h (AtScn is) = omega arith
point_low c to h (AtView n u found at) = each_found (IsAtMost c.scn) (λ v. v.def.view == n) c.views u h found to at
point_low c to h (Nowhere is) = omega arith

installed_pointed : (c : Catalog) (b : Begun) (ps : List (ℕ × ℕ)) → b.image.scn ≤ c.scn → Pointed b.image → Each (Takes c b) ps → Pointed c → Pointed (installed ps c)
installed_pointed c b ps low image takes h =
    (installs_keep (λ d. Pointed d × (d.scn ≡ c.scn)) (λ p. p.1 ≤ c.scn)
    (λ d p at k. (pointed_changed d p.0 (refreshed_to p.1) (λ v was. refreshed_at d.scn p.1 v (omega (arith, at, k.1))) k.0, k.1)) c ps
    (each_weaker (Takes c b) (λ p. p.1 ≤ c.scn) (λ p t. let at : p.1 ≤ b.image.scn = point_low b.image p.1 image t.point in omega arith) ps takes) (h, refl)).0

move_pointed : (s : State) (x : Event) (d : Catalog) → IsEarlier s (own s x) → Move s x d → Pointed s.catalog → Pointed d
move_pointed s x d early (Stays is) h = subst Pointed (sym is) h
move_pointed s x d early (Commits p ss same block is) h = subst Pointed (sym is) (dues_keep Pointed due_pointed (after_block s.catalog p) p.changes (raised s.catalog.scn s.catalog.views h))
move_pointed s x d early (Creates t new fits is) h = subst Pointed (sym is) (raised s.catalog.scn s.catalog.views h)
move_pointed s x d early (Alters n a same change form cut is) h = subst Pointed (sym is) (raised s.catalog.scn s.catalog.views h)
move_pointed s x d early (Logs logs made is) h = subst Pointed (sym is) (raised s.catalog.scn s.catalog.views h)
move_pointed s x d early (Purges logs purge is) h = subst Pointed (sym is) h
move_pointed s x d early (Forgets oldest more undo is) h = subst Pointed (sym is) h
move_pointed s x d early (Adds v w new star is) h =
    subst Pointed (sym is) (each_append (IsAtMost s.catalog.scn) s.catalog.views (w ∷ []) h (made_at s.catalog v w star h, tt))
move_pointed s x d early (Switches n f keeps is) h = subst Pointed (sym is) (pointed_changed s.catalog n f (λ v at p e. at p (sym (keeps.point v) ∙ e)) h)
move_pointed s x d early (Installs b ps begun takes is) h =
    let was : (b.image.scn ≤ s.catalog.scn) × Pointed b.image = early b begun in
    subst Pointed (sym is) (installed_pointed s.catalog b ps was.0 was.1 takes h)
move_pointed s x d early (Drops n free is) h = subst Pointed (sym is) (each_filter (IsAtMost s.catalog.scn) (λ w. not (w.def.view == n)) s.catalog.views h)
move_pointed s x d early (Declares a new is) h = subst Pointed (sym is) h
move_pointed s x d early (Withdraws name is) h = subst Pointed (sym is) h

image_low : (trace : List Event) (n : ℕ) (b : Begun) → (session_of (state_of trace) n).begun ≡ Some b → b.image.scn ≤ (catalog_of trace).scn
image_low trace n b found =
    let h : HasBegun trace n b = all_begun trace n b found in
    let low : (catalog_of h.front).scn ≤ (catalog_of trace).scn =
    subst (λ t. (catalog_of h.front).scn ≤ (catalog_of t).scn) (sym h.is) (trace_grows h.front (h.event ∷ h.rest)).scn in
    subst (λ n. n ≤ (catalog_of trace).scn) (sym (ap (λ (b : Begun). b.image.scn) h.kept)) low

-- all images that are kept have views with points
abbrev ImagesPointed : State → Type 0
ImagesPointed s = (n : ℕ) (b : Begun) → (session_of s n).begun ≡ Some b → Pointed b.image

turn_pointed : (s : State) (e : Event) (y : Session) → Turn s e y → Pointed s.catalog → ImagesPointed s → (b : Begun) → y.begun ≡ Some b → Pointed b.image
turn_pointed s e y (Keeps reading begun) c h b found = h (entry_bearer e.entry) b (sym begun ∙ found)
turn_pointed s e y (Closes is) c h b found = h (entry_bearer e.entry) b (sym (ap (λ (x : Session). x.begun) is) ∙ found)
turn_pointed s e y (Opens command is) c h b found = h (entry_bearer e.entry) b (sym (ap (λ (x : Session). x.begun) is) ∙ found)
turn_pointed s e y (Begins r begins is) c h b found =
    let same : b ≡ begun_over s.catalog r.name = same_Some b (begun_over s.catalog r.name) (sym found ∙ ap (λ (x : Session). x.begun) is) in
    subst (λ (b : Begun). Pointed b.image) (sym same) c
turn_pointed s e y (Ends is) c h b found = absurd (none-some b (sym (ap (λ (x : Session). x.begun) is) ∙ found))

abbrev AllPointed : List Event → Type 0
AllPointed trace = Pointed (catalog_of trace) × ImagesPointed (state_of trace)

all_pointed : (trace : List Event) → AllPointed trace
all_pointed = by_events AllPointed (tt, λ n b found. absurd (none-some b found)) step
  where
    images : (front : List Event) (e : Event) → AllPointed front → ImagesPointed (state_after (state_of front) e)
    images front e h n b found = by (is_of n e) refl
      where
        by : (own : Bool) → is_of n e ≡ own → Pointed b.image
        by true is =
            let same : entry_bearer e.entry ≡ n = eqb-true (entry_bearer e.entry) n is in
            turn_pointed (state_of front) e (session_of (state_after (state_of front) e) (entry_bearer e.entry)) (moves (state_of front) e).session h.0 h.1 b
            (subst (λ k. (session_of (state_after (state_of front) e) k).begun ≡ Some b) (sym same) found)
        by false is = h.1 n b (sym (ap (λ (x : Session). x.begun) ((moves (state_of front) e).others n is)) ∙ found)

    step : (front : List Event) (e : Event) → AllPointed front → AllPointed (front ++ e ∷ [])
    step front e h = (
      subst (λ (s : State). Pointed s.catalog) (sym (state_push front e))
          (move_pointed (state_of front) e (state_after (state_of front) e).catalog (λ b found. (image_low front (entry_bearer e.entry) b found, h.1 (entry_bearer e.entry) b found))
          (moves (state_of front) e).catalog h.0),
      subst ImagesPointed (sym (state_push front e)) (images front e h),
    )

pub trace_pointed : (trace : List Event) → Pointed (catalog_of trace)
trace_pointed trace = (all_pointed trace).0

pairs_unmap : {A B : Type 0} (R : B → B → Type 0) (f : A → B) (xs : List A) → Pairs R (map f xs) → Pairs (λ x y. R (f x) (f y)) xs
pairs_unmap R f [] h = tt
pairs_unmap R f (x ∷ xs) h = (each_unmap (R (f x)) f xs h.0, pairs_unmap R f xs h.1)

views_differ : (c : Catalog) → Pairs (λ a b. a ≢ b) (names_taken c) → Pairs (λ v w. v.def.name ≢ w.def.name) c.views
views_differ c h =
    pairs_unmap (λ a b. a ≢ b) (λ (v : View). v.def.name) c.views
    (pairs_left (λ a b. a ≢ b) (map (λ v. v.def.name) c.views) (map (λ d. d.name) c.dimensions)
    (pairs_right (λ a b. a ≢ b) (map (λ d. d.name) (defs_now c)) (map (λ v. v.def.name) c.views ++ map (λ d. d.name) c.dimensions) h))

pub view_laws : ViewLaws
view_laws =
    record {
      ascending = λ trace. pairs_from IsBefore (catalog_of trace).views (trace_ordered trace).ascending;
      first = λ trace. all_from (λ v. 1 ≤ v.def.view) (catalog_of trace).views
          (each_weaker (IsNumbered (catalog_of trace).views_made) (λ v. 1 ≤ v.def.view) (λ v is. is.0) (catalog_of trace).views (trace_ordered trace).numbered);
      last = λ trace. all_from (λ v. v.def.view ≤ (catalog_of trace).views_made) (catalog_of trace).views
          (each_weaker (IsNumbered (catalog_of trace).views_made) (λ v. v.def.view ≤ (catalog_of trace).views_made) (λ v is. is.1) (catalog_of trace).views (trace_ordered trace).numbered);
      made = λ trace more. (trace_follows trace more).made;
      named = λ trace. pairs_from (λ v w. v.def.name ≢ w.def.name) (catalog_of trace).views (views_differ (catalog_of trace) (trace_named trace));
      points = λ trace. all_from (IsAtMost (catalog_of trace).scn) (catalog_of trace).views (trace_pointed trace);
      same = λ trace more n v w before after.
          same_later (catalog_of trace) (catalog_of (trace ++ more)) (trace_follows trace more) n v w (numbered_made (catalog_of trace) (trace_ordered trace) n v before) before after;
      gone = λ trace more n low before. gone_later (catalog_of trace) (catalog_of (trace ++ more)) (trace_follows trace more) n low before;
    }
