-- What the begin of a refresh leaves in its session, and what is known of it later.
use Rattle.std.proofs.Common.{◌≡◌, ◌∙◌, ◌+◌, ap, refl, sym, subst, Bool, true, false, true≢false, cond, List, [], ◌∷◌, ◌++◌, None, Option, Some, ℕ, ◌==◌, eq-eqb}
use Rattle.std.specs.List.{All, find, list_any}
use Rattle.std.specs.Option.{IsSomeAnd}
use Rattle.std.specs.Prelude.{Ok, IsTrue, is_some, option_and_then, option_map}
use Rattle.wh_base.specs.Lists.{option_case}
use Rattle.wh_base.specs.declared.statements.Command.{Command}
use Rattle.wh_base.specs.declared.statements.Command.TheVariants as commands
use Rattle.wh_base.specs.declared.statements.Event.{Event}
use Rattle.wh_base.specs.declared.statements.Id.{Id}
use Rattle.wh_base.specs.declared.statements.Method.TheVariants.{Complete}
use Rattle.wh_base.specs.declared.statements.RefreshView.{RefreshView}
use Rattle.wh_base.specs.declared.statements.Statement.{Statement}
use Rattle.wh_base.specs.declared.statements.Statement.TheVariants as about
use Rattle.def_built.specs.Commands.{command_is_built}
use Rattle.def_history.specs.Catalog.{Catalog, View, view_named, view_numbered}
use Rattle.def_journal.specs.Journal.{event_of, reply_to, state_of}
use Rattle.def_journal.specs.Refreshing.{Computed, computed}
use Rattle.def_journal.specs.State as state
use Rattle.wh_answer.specs.Over.{IsImageOf}
use Rattle.wh_core.proofs.Installs.{found_each}
use Rattle.wh_core.specs.Calls.{Computes, HasBegun, bearer_of}
use Rattle.wh_core.specs.declared.refreshing.Begun.{Begun}
use Rattle.wh_image.specs.Laws.{Lookups}
use Rattle.wh_session.specs.Parts.{ComputedOf, IsBegun, IsPending, IsThere, KeptOf}
use Rattle.wh_table.specs.Stored.{Stored}
use Rattle.law_trace.proofs.Seated.{own_number, put_own}
use Rattle.law_trace.proofs.Traces.{state_push}
use Rattle.law_trace.specs.Laws.{SessionLaws}
use Rattle.law_trace.specs.Reached.{begun_over, catalog_of, is_of}
use Rattle.wh_view.specs.Kept.{AllKept, Kept, is_named, is_numbered}

-- ---- a view that is found by its name is found by its number

number_found : (p : Kept → Bool) (ks : List Kept) (k : Kept) → find p ks ≡ Some k → is_some (find (is_numbered k.view.def.view) ks) ≡ true
number_found p [] k found = absurd (cc)
number_found p (x ∷ xs) k found = by (p x) found (number_found p xs k)
  where
    among : (b : Bool) → is_some (find (is_numbered k.view.def.view) xs) ≡ true → is_some (cond b (Some x) (find (is_numbered k.view.def.view) xs)) ≡ true
    among true h = refl
    among false h = h

    here : (b : Bool) → b ≡ true → is_some (cond b (Some x) (find (is_numbered k.view.def.view) xs)) ≡ true
    here true h = refl
    here false h = absurd (true≢false (sym h))

    by : (b : Bool) → cond b (Some x) (find p xs) ≡ Some k → (find p xs ≡ Some k → is_some (find (is_numbered k.view.def.view) xs) ≡ true)
        → is_some (cond (is_numbered k.view.def.view x) (Some x) (find (is_numbered k.view.def.view) xs)) ≡ true
    by true found rest = let same : x ≡ k = cc in here (is_numbered k.view.def.view x) (eq-eqb x.view.def.view k.view.def.view (ap (λ y. y.view.def.view) same))
    by false found rest = among (is_numbered k.view.def.view x) (rest found)

there_at : (name : List ℕ) (ks : List Kept) (o : Option Kept) → find (is_named name) ks ≡ o → IsThere ks (option_map (λ k. k.view.def.view) o)
there_at name ks None found = tt
there_at name ks (Some k) found = number_found (is_named name) ks k found

pub there : (at : ℕ) (views : AllKept) (name : List ℕ) (kept : Begun) → KeptOf at views name kept → IsThere views.views kept.view
there at views name kept is = subst (IsThere views.views) (sym is.view) (there_at name views.views (find (is_named name) views.views) refl)

-- ---- what the begin leaves

numbers : (o : Option Kept) → option_map (λ k. k.view.def.view) o ≡ option_map (λ w. w.def.view) (option_map (λ k. k.view) o)
numbers None = refl
numbers (Some k) = refl

points : (o : Option Kept) → option_and_then (λ k. k.view.point) o ≡ option_and_then (λ w. w.point) (option_map (λ k. k.view) o)
points None = refl
points (Some k) = refl

some_view : (o : Option Kept) → is_some o ≡ true → is_some (option_map (λ k. k.view) o) ≡ true
some_view None h = h
some_view (Some k) h = refl

computes_at : (c : Catalog) (n : ℕ) (rows : Option Computed) → All (λ v. v.def.beneath ≡ None) c.views → ((v : View) → view_numbered c n ≡ Some v → IsSomeAnd rows (λ x. computed c v Complete ≡ Ok x))
    → (o : Option View) → view_numbered c n ≡ o → is_some o ≡ true → Computes c o rows
computes_at c n rows over of None is some = absurd (true≢false (sym some))
computes_at c n rows over of (Some v) is some = (found_each (λ (w : View). w.def.beneath ≡ None) (λ w. w.def.view == n) c.views v over is, of v is)

module _ (looks : Lookups) (trace : List Event) (at : ℕ) (tables : List Stored) (views : AllKept) (image : IsImageOf trace at tables views) where
  named : (name : List ℕ) → option_map (λ k. k.view) (find (is_named name) views.views) ≡ view_named (catalog_of trace) name
  named name = sym (looks.named at tables views (catalog_of trace) name image.stands)

  computes : (n : Option ℕ) (rows : Option Computed) → IsThere views.views n → ComputedOf (catalog_of trace) n rows → Computes (catalog_of trace) (option_and_then (view_numbered (catalog_of trace)) n) rows
  computes None rows is of = of
  computes (Some n) rows is of =
      computes_at (catalog_of trace) n rows image.stands.over_tables of (view_numbered (catalog_of trace) n) refl
      (ap is_some (looks.numbered at tables views (catalog_of trace) n image.stands) ∙ some_view (find (is_numbered n) views.views) is)

  pub has_begun : (id : Id) (asked : RefreshView) (kept : Begun) (rows : Option Computed) → KeptOf at views asked.name kept → ComputedOf (catalog_of trace) kept.view rows
      → HasBegun (trace ++ event_of id (commands.Other (about.Refresh asked)) ∷ []) (bearer_of id) kept rows
  has_begun id asked kept rows is of =
      let c : Catalog = catalog_of trace in
      let n : ℕ = bearer_of id in
      let b : state.Begun = begun_over c asked.name in
      let x : state.Session = state.session_of (state_of trace) n in
      let view : kept.view ≡ b.view = is.view ∙ numbers (find (is_named asked.name) views.views) ∙ ap (option_map (λ w. w.def.view)) (named asked.name) in
      record {
        begun = b;
        is = ap (λ s. (state.session_of s n).begun) (state_push trace (event_of id (commands.Other (about.Refresh asked))))
            ∙ ap (λ y. y.begun) (put_own (state_of trace) (record x { begun = Some b }) n (own_number (state_of trace) n));
        view = view;
        point = is.point ∙ points (find (is_named asked.name) views.views) ∙ ap (option_and_then (λ w. w.point)) (named asked.name);
        scn = is.scn ∙ sym image.stands.scn_is;
        computes = subst (λ m. Computes c (option_and_then (view_numbered c) m) rows) view (computes kept.view rows (there at views asked.name kept is) of);
      }

  -- the first part of a refresh whose command is built
  pub begins : (after : List Event) (id : Id) (k : Command) (s : Statement) (asked : RefreshView) (kept : Begun) (rows : Option Computed) (read read_after : ℕ) → k ≡ commands.Other s → s ≡ about.Refresh asked
      → IsTrue (command_is_built k) → after ≡ trace ++ event_of id k ∷ [] → KeptOf at views asked.name kept → ComputedOf (catalog_of trace) kept.view rows
      → read_after ≡ read + option_case rows 0 (λ x. x.read) → IsBegun trace after id k kept rows read read_after
  begins after id k s asked kept rows read read_after of this built event is found all =
      let command : k ≡ commands.Other (about.Refresh asked) = of ∙ ap commands.Other this in
      record {
        pending = record {
          asked = asked;
          command_is = command;
          built = built;
          name = is.name;
          begun = subst (λ t. HasBegun t (bearer_of id) kept rows) (sym event)
              (subst (λ c. HasBegun (trace ++ event_of id c ∷ []) (bearer_of id) kept rows) (sym command) (has_begun id asked kept rows is found));
        };
        reply = ap (λ c. reply_to trace (event_of id c)) command;
        read_is = all;
      }

-- ---- events of others leave it

pub still_begun : SessionLaws → (trace more : List Event) (n : ℕ) (kept : Begun) (rows : Option Computed) → list_any (is_of n) more ≡ false → HasBegun trace n kept rows → HasBegun (trace ++ more) n kept rows
still_begun laws trace more n kept rows apart h =
    record { begun = h.begun; is = ap (λ y. y.begun) (laws.traces trace more n apart) ∙ h.is; view = h.view; point = h.point; scn = h.scn; computes = h.computes }

pub still_pending : SessionLaws → (seen more trace : List Event) (id : Id) (k : Command) (kept : Begun) (rows : Option Computed) → trace ≡ seen ++ more → list_any (is_of (bearer_of id)) more ≡ false
    → IsPending seen id k kept rows → IsPending trace id k kept rows
still_pending laws seen more trace id k kept rows is apart h =
    record {
      asked = h.asked;
      command_is = h.command_is;
      built = h.built;
      name = h.name;
      begun = subst (λ t. HasBegun t (bearer_of id) kept rows) (sym is) (still_begun laws seen more (bearer_of id) kept rows apart h.begun);
    }
