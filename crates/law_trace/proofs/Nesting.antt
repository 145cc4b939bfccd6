-- Views over views: they are never registered, and the view beneath is there.
use Rattle.std.proofs.Common.{◌≡◌, ◌∙◌, sym, ap, refl, subst, ℕ, Bool, true, false, true≢false, cond, not, List, [], ◌∷◌, ◌++◌, Option, None, Some, ◌==◌}
use Rattle.std.proofs.lemmas.Option.{none-some}
use Rattle.std.specs.List.{filter, find}
use Rattle.std.specs.Option.{ForSome}
use Rattle.std.specs.Prelude.{is_some, option_and_then, option_map}
use Rattle.std.proofs.lemmas.Bool.{eq-eqb, eqb-true}
use Rattle.wh_base.specs.Lists.{option_nat_is, same_text}
use Rattle.wh_base.specs.declared.queries.RawQuery.{RawQuery}
use Rattle.wh_base.specs.declared.statements.Event.{Event}
use Rattle.wh_base.specs.declared.statements.NewView.{NewView}
use Rattle.wh_base.specs.declared.views.ViewDef.{ViewDef}
use Rattle.def_history.specs.Catalog.{Catalog, View, is_nested, view_named, view_numbered, views_over}
use Rattle.def_journal.specs.Committing.{after_block}
use Rattle.def_journal.specs.Journal.{state_after, state_of}
use Rattle.def_journal.specs.Nesting.{view_beneath}
use Rattle.def_journal.specs.Refreshing.{change_view, refreshed_to}
use Rattle.def_journal.specs.State.{State}
use Rattle.def_resolve.specs.Names.{lone_name}
use Rattle.law_trace.proofs.Due.{KeepsDue, dues_keep, installs_keep, suspended}
use Rattle.law_trace.proofs.Listed.{Each, all_from, each_append, each_every, each_filter, each_map, each_two, each_weaker, find_changed}
use Rattle.law_trace.proofs.Moves.{Adds, Alters, Commits, Creates, Declares, Drops, Forgets, Installs, KeepsView, Logs, MakesView, Move, Over, Plain, Purges, Stays, Switches, Withdraws}
use Rattle.law_trace.proofs.Stepping.{moves}
use Rattle.law_trace.proofs.Traces.{by_events, state_push}
use Rattle.law_trace.specs.Laws.{NestLaws}
use Rattle.law_trace.specs.Reached.{IsSameView, catalog_of}

-- ---- registration

abbrev IsFree : View → Type 0
IsFree v = is_nested v ≡ true → v.registered ≡ false

abbrev AllFree : Catalog → Type 0
AllFree c = Each IsFree c.views

free_changed : (c : Catalog) (n : ℕ) (f : View → View) → ((v : View) → IsFree v → IsFree (f v)) → AllFree c → AllFree (change_view n f c)
free_changed c n f keeps h = each_map IsFree IsFree (λ v. cond (v.def.view == n) (f v) v) (λ v. by v (v.def.view == n)) c.views h
  where
    by : (v : View) (b : Bool) → IsFree v → IsFree (cond b (f v) v)
    by v true k = keeps v k
    by v false k = k

free_refreshed : (m : ℕ) (v : View) → IsFree (refreshed_to m v)
free_refreshed m v e = ap not e

due_free : KeepsDue AllFree
due_free = record { suspends = λ d n h. free_changed d n suspended (λ v k. k) h; refreshes = λ d n h. free_changed d n (refreshed_to d.scn) (λ v k. free_refreshed d.scn v) h }

free_switched : (f : View → View) → KeepsView f → (v : View) → IsFree v → IsFree (f v)
free_switched f keeps v k e = by (f v).registered refl
  where
    by : (b : Bool) → (f v).registered ≡ b → b ≡ false
    by true is = absurd (true≢false (sym (keeps.registered v is) ∙ k (sym (ap (λ (d : ViewDef). is_some d.beneath) (keeps.def v)) ∙ e)))
    by false is = refl

free_made : (c : Catalog) (v : NewView) (w : View) → MakesView c v w → IsFree w
free_made c v w (Plain q star is) = subst IsFree (sym is) (λ e. absurd (true≢false (sym e)))
free_made c v w (Over u q beneath star built is) = subst IsFree (sym is) (λ e. refl)

move_free : (s : State) (x : Event) (d : Catalog) → Move s x d → AllFree s.catalog → AllFree d
move_free s x d (Stays is) h = subst AllFree (sym is) h
move_free s x d (Commits p ss same block is) h = subst AllFree (sym is) (dues_keep AllFree due_free (after_block s.catalog p) p.changes h)
move_free s x d (Creates t new fits is) h = subst AllFree (sym is) h
move_free s x d (Alters n a same change form cut is) h = subst AllFree (sym is) h
move_free s x d (Logs logs made is) h = subst AllFree (sym is) h
move_free s x d (Purges logs purge is) h = subst AllFree (sym is) h
move_free s x d (Forgets oldest more undo is) h = subst AllFree (sym is) h
move_free s x d (Adds v w new star is) h = subst AllFree (sym is) (each_append IsFree s.catalog.views (w ∷ []) h (free_made s.catalog v w star, tt))
move_free s x d (Switches n f keeps is) h = subst AllFree (sym is) (free_changed s.catalog n f (free_switched f keeps) h)
move_free s x d (Installs b ps begun takes is) h =
    subst AllFree (sym is) (installs_keep AllFree (λ p. Unit {0}) (λ c p q k. free_changed c p.0 (refreshed_to p.1) (λ v k. free_refreshed p.1 v) k) s.catalog ps (each_every (λ p. Unit {0}) (λ p. tt) ps) h)
move_free s x d (Drops n free is) h = subst AllFree (sym is) (each_filter IsFree (λ w. not (w.def.view == n)) s.catalog.views h)
move_free s x d (Declares a new is) h = subst AllFree (sym is) h
move_free s x d (Withdraws name is) h = subst AllFree (sym is) h

-- ---- the view beneath

abbrev IsThere : Catalog → ℕ → Type 0
IsThere c n = (u : View) × (view_numbered c n ≡ Some u)

abbrev Stands : Catalog → View → Type 0
Stands c v = ForSome v.def.beneath (λ n. IsThere c n)

abbrev AllStand : Catalog → Type 0
AllStand c = Each (Stands c) c.views

there_changed : (c : Catalog) (n : ℕ) (f : View → View) → ((v : View) → IsSameView v.def (f v).def) → (m : ℕ) → IsThere c m → IsThere (change_view n f c) m
there_changed c n f keeps m t = (
  cond (t.0.def.view == n) (f t.0) t.0,
  find_changed (λ (v : View). v.def.view) (λ v. cond (v.def.view == n) (f v) v) number m c.views ∙ ap (option_map (λ (v : View). cond (v.def.view == n) (f v) v)) t.1,
)
  where
    number : (v : View) → (cond (v.def.view == n) (f v) v).def.view ≡ v.def.view
    number v = by (v.def.view == n)
      where
        by : (b : Bool) → (cond b (f v) v).def.view ≡ v.def.view
        by true = ap (λ (d : ViewDef). d.view) (keeps v)
        by false = refl

stand_changed : (c : Catalog) (n : ℕ) (f : View → View) → ((v : View) → IsSameView v.def (f v).def) → AllStand c → AllStand (change_view n f c)
stand_changed c n f keeps h = each_map (Stands c) (Stands (change_view n f c)) (λ v. cond (v.def.view == n) (f v) v) (λ v k. by v k (v.def.view == n)) c.views h
  where
    by : (v : View) → Stands c v → (b : Bool) → Stands (change_view n f c) (cond b (f v) v)
    by v k true m e = there_changed c n f keeps m (k m (sym (ap (λ (d : ViewDef). d.beneath) (keeps v)) ∙ e))
    by v k false m e = there_changed c n f keeps m (k m e)

due_stand : KeepsDue AllStand
due_stand = record { suspends = λ d n h. stand_changed d n suspended (λ v. refl) h; refreshes = λ d n h. stand_changed d n (refreshed_to d.scn) (λ v. refl) h }

find_behind : (p : View → Bool) (vs ws : List View) (u : View) → find p vs ≡ Some u → find p (vs ++ ws) ≡ Some u
find_behind p [] ws u e = absurd (none-some u e)
find_behind p (v ∷ vs) ws u e = by (p v) e (find_behind p vs ws u)
  where
    by : (b : Bool) → cond b (Some v) (find p vs) ≡ Some u → (find p vs ≡ Some u → find p (vs ++ ws) ≡ Some u) → cond b (Some v) (find p (vs ++ ws)) ≡ Some u
    by true f rest = f
    by false f rest = rest f

-- what is found in any way is found by its number
found_there : (test : View → Bool) (vs : List View) (u : View) → find test vs ≡ Some u → (w : View) × (find (λ v. v.def.view == u.def.view) vs ≡ Some w)
found_there test [] u e = absurd (none-some u e)
found_there test (v ∷ vs) u e = by (test v) (v.def.view == u.def.view) refl e (found_there test vs u)
  where
    by : (a b : Bool) → (v.def.view == u.def.view) ≡ b → cond a (Some v) (find test vs) ≡ Some u → (find test vs ≡ Some u → (w : View) × (find (λ v. v.def.view == u.def.view) vs ≡ Some w))
        → (w : View) × (cond b (Some v) (find (λ w. w.def.view == u.def.view) vs) ≡ Some w)
    by a true is f rest = (v, refl)
    by true false is f rest = absurd (true≢false (sym (eq-eqb v.def.view u.def.view (ap (λ (w : View). w.def.view) (some_is v u f))) ∙ is))
      where
        some_is : (v u : View) → Some v ≡ Some u → v ≡ u
        some_is v u e = cc
    by false false is f rest = rest f

beneath_there : (c : Catalog) (q : RawQuery) (u : View) → view_beneath c q ≡ Some u → IsThere c u.def.view
beneath_there c q u is = by (lone_name q) is
  where
    by : (o : Option (List ℕ)) → option_and_then (view_named c) o ≡ Some u → IsThere c u.def.view
    by None e = absurd (none-some u e)
    by (Some name) e = found_there (λ v. same_text v.def.name name) c.views u e

stand_made : (c : Catalog) (v : NewView) (w : View) → MakesView c v w → Stands c w
stand_made c v w (Plain q star is) = subst (Stands c) (sym is) (λ n e. absurd (none-some n e))
stand_made c v w (Over u q beneath star built is) = subst (Stands c) (sym is) (λ n e. subst (IsThere c) (some_is u.def.view n e) (beneath_there c v.asked.query u beneath))
  where
    some_is : (m n : ℕ) → Some m ≡ Some n → m ≡ n
    some_is m n e = cc

-- one that stays is found where those of another number go
find_left : (n m : ℕ) → (m == n) ≡ false → (vs : List View) (u : View) → find (λ v. v.def.view == m) vs ≡ Some u → find (λ v. v.def.view == m) (filter (λ v. not (v.def.view == n)) vs) ≡ Some u
find_left n m differ [] u e = absurd (none-some u e)
find_left n m differ (v ∷ vs) u e = by (v.def.view == m) (v.def.view == n) refl refl e (find_left n m differ vs u)
  where
    by : (a b : Bool) → (v.def.view == m) ≡ a → (v.def.view == n) ≡ b → cond a (Some v) (find (λ v. v.def.view == m) vs) ≡ Some u
        → (find (λ v. v.def.view == m) vs ≡ Some u → find (λ v. v.def.view == m) (filter (λ v. not (v.def.view == n)) vs) ≡ Some u)
        → find (λ w. w.def.view == m) (cond (not b) (v ∷ filter (λ v. not (v.def.view == n)) vs) (filter (λ v. not (v.def.view == n)) vs)) ≡ Some u
    by true true one other f rest = absurd (true≢false (sym (ap (λ k. k == n) (sym (eqb-true v.def.view m one)) ∙ other) ∙ differ))
    by true false one other f rest = ap (λ b. cond b (Some v) (find (λ w. w.def.view == m) (filter (λ v. not (v.def.view == n)) vs))) one ∙ f
    by false true one other f rest = rest f
    by false false one other f rest = ap (λ b. cond b (Some v) (find (λ w. w.def.view == m) (filter (λ v. not (v.def.view == n)) vs))) one ∙ rest f

none_over : (n : ℕ) (vs : List View) → filter (λ v. option_nat_is v.def.beneath n) vs ≡ [] → Each (λ v. option_nat_is v.def.beneath n ≡ false) vs
none_over n [] e = tt
none_over n (v ∷ vs) e = by (option_nat_is v.def.beneath n) refl e (none_over n vs)
  where
    by : (b : Bool) → option_nat_is v.def.beneath n ≡ b → cond b (v ∷ filter (λ v. option_nat_is v.def.beneath n) vs) (filter (λ v. option_nat_is v.def.beneath n) vs) ≡ []
        → (filter (λ v. option_nat_is v.def.beneath n) vs ≡ [] → Each (λ v. option_nat_is v.def.beneath n ≡ false) vs) → Each (λ v. option_nat_is v.def.beneath n ≡ false) (v ∷ vs)
    by true is f rest = absurd (cc)
    by false is f rest = (is, rest f)

stand_dropped : (c : Catalog) (n : ℕ) → views_over c n ≡ [] → AllStand c → AllStand (record c { views = filter (λ w. not (w.def.view == n)) c.views })
stand_dropped c n free h =
    each_filter (Stands d) (λ w. not (w.def.view == n)) c.views
    (each_weaker (λ v. (option_nat_is v.def.beneath n ≡ false) × Stands c v) (Stands d)
    (λ v both m e. let t : IsThere c m = both.1 m e in (t.0, find_left n m (sym (ap (λ o. option_nat_is o n) e) ∙ both.0) c.views t.0 t.1)) c.views
    (each_two (λ v. option_nat_is v.def.beneath n ≡ false) (Stands c) c.views (none_over n c.views free) h))
  where
    d : Catalog
    d = record c { views = filter (λ w. not (w.def.view == n)) c.views }

move_stand : (s : State) (x : Event) (d : Catalog) → Move s x d → AllStand s.catalog → AllStand d
move_stand s x d (Stays is) h = subst AllStand (sym is) h
move_stand s x d (Commits p ss same block is) h = subst AllStand (sym is) (dues_keep AllStand due_stand (after_block s.catalog p) p.changes h)
move_stand s x d (Creates t new fits is) h = subst AllStand (sym is) h
move_stand s x d (Alters n a same change form cut is) h = subst AllStand (sym is) h
move_stand s x d (Logs logs made is) h = subst AllStand (sym is) h
move_stand s x d (Purges logs purge is) h = subst AllStand (sym is) h
move_stand s x d (Forgets oldest more undo is) h = subst AllStand (sym is) h
move_stand s x d (Adds v w new star is) h =
    let more : (m : ℕ) → IsThere s.catalog m → IsThere (record s.catalog { views = s.catalog.views ++ w ∷ [] }) m =
    λ m t. (t.0, find_behind (λ v. v.def.view == m) s.catalog.views (w ∷ []) t.0 t.1) in
    subst AllStand (sym is)
    (each_append (λ v. ForSome v.def.beneath (λ n. IsThere (record s.catalog { views = s.catalog.views ++ w ∷ [] }) n)) s.catalog.views (w ∷ [])
    (each_weaker (Stands s.catalog) (λ v. ForSome v.def.beneath (λ n. IsThere (record s.catalog { views = s.catalog.views ++ w ∷ [] }) n)) (λ v k m e. more m (k m e)) s.catalog.views h)
    ((λ m e. more m (stand_made s.catalog v w star m e)), tt))
move_stand s x d (Switches n f keeps is) h = subst AllStand (sym is) (stand_changed s.catalog n f keeps.def h)
move_stand s x d (Installs b ps begun takes is) h =
    subst AllStand (sym is) (installs_keep AllStand (λ p. Unit {0}) (λ c p q k. stand_changed c p.0 (refreshed_to p.1) (λ v. refl) k) s.catalog ps (each_every (λ p. Unit {0}) (λ p. tt) ps) h)
move_stand s x d (Drops n free is) h = subst AllStand (sym is) (stand_dropped s.catalog n free h)
move_stand s x d (Declares a new is) h = subst AllStand (sym is) h
move_stand s x d (Withdraws name is) h = subst AllStand (sym is) h

-- ---- traces

trace_free : (trace : List Event) → AllFree (catalog_of trace)
trace_free = by_events (λ trace. AllFree (catalog_of trace)) tt step
  where
    step : (front : List Event) (e : Event) → AllFree (catalog_of front) → AllFree (catalog_of (front ++ e ∷ []))
    step front e h = subst (λ (s : State). AllFree s.catalog) (sym (state_push front e)) (move_free (state_of front) e (state_after (state_of front) e).catalog (moves (state_of front) e).catalog h)

trace_stand : (trace : List Event) → AllStand (catalog_of trace)
trace_stand = by_events (λ trace. AllStand (catalog_of trace)) tt step
  where
    step : (front : List Event) (e : Event) → AllStand (catalog_of front) → AllStand (catalog_of (front ++ e ∷ []))
    step front e h = subst (λ (s : State). AllStand s.catalog) (sym (state_push front e)) (move_stand (state_of front) e (state_after (state_of front) e).catalog (moves (state_of front) e).catalog h)

pub nest_laws : NestLaws
nest_laws =
    record {
      registered = λ trace. all_from IsFree (catalog_of trace).views (trace_free trace);
      beneath = λ trace. all_from (Stands (catalog_of trace)) (catalog_of trace).views (trace_stand trace);
    }
