-- What the install of a refresh makes of a core.
use Rattle.std.proofs.Common.{◌≡◌, ◌≤◌, ◌-◌, ◌∙◌, sym, ap, refl, subst, arith, ℕ, Bool, true, false, true≢false, cond, not, List, [], ◌∷◌, ◌++◌, length, None, Option, Some, ◌==◌}
use Rattle.law_trace.proofs.Traces.{state_push}
use Rattle.std.proofs.lemmas.Bool.{and_parts, eqb-true}
use Rattle.std.proofs.lemmas.List.Elements.{All-head, All-tail}
use Rattle.std.specs.List.{All, find}
use Rattle.std.specs.Option.{ForSome, IsSomeAnd}
use Rattle.std.specs.Prelude.{Ok, option_and_then, option_map, unwrap_or}
use Rattle.wh_base.specs.Lists.{is_empty, option_case, option_nat_same, unless, where_true}
use Rattle.wh_base.specs.declared.replies.Refusal.{Refusal}
use Rattle.wh_base.specs.declared.replies.Refusal.TheVariants.{NoSuchObject, OnlyReading, Overtaken}
use Rattle.wh_base.specs.declared.replies.Reply.{Reply}
use Rattle.wh_base.specs.declared.replies.Reply.TheVariants as reply
use Rattle.wh_base.specs.declared.statements.Command.TheVariants as commands
use Rattle.wh_base.specs.declared.statements.Event.{Event}
use Rattle.wh_base.specs.declared.statements.Id.{Id}
use Rattle.wh_base.specs.declared.statements.Method.{Method}
use Rattle.wh_base.specs.declared.statements.Method.TheVariants.{Complete, Fast, Force, Partition}
use Rattle.wh_base.specs.declared.statements.RefreshView.{RefreshView}
use Rattle.wh_base.specs.declared.statements.Statement.TheVariants as about
use Rattle.def_built.specs.Commands.{is_complete}
use Rattle.def_history.specs.Catalog.{Catalog, View, base_at, base_now, view_numbered}
use Rattle.def_journal.specs.Journal.{event_step, state_of}
use Rattle.def_journal.specs.Listing.{install_list}
use Rattle.def_journal.specs.Refreshing.{Computed, asked_method, begun_view, change_view, computed, computed_by, computed_for, computed_over, ended, install_begun, install_computed, install_into, install_refresh, nested_refusal, new_point, point_beneath, refreshed_to}
use Rattle.def_journal.specs.State.{State, Step, refused, replied, session_of, with_catalog}
use Rattle.def_journal.specs.State as state
use Rattle.def_meaning.specs.Meaning.{stored}
use Rattle.def_output.specs.Reads.{read_of}
use Rattle.wh_core.proofs.Counts.{end_less}
use Rattle.wh_core.proofs.Events.{After, IsAccepted, Stands, as_it_was, names_after, next_core, not_reading, oldest_reached, still_named}
use Rattle.wh_core.proofs.Known.{install_laws, lookups, version_laws, view_changes}
use Rattle.wh_core.proofs.Viewed.{IsOnDemand, all_changed}
use Rattle.wh_core.specs.Calls.{Computes, HasBegun, bearer_of, install_of}
use Rattle.wh_core.specs.Kept.{IsCore, IsNamedBy, begun_count}
use Rattle.wh_core.specs.Put.{put, put_into, put_over, refusal_after}
use Rattle.wh_core.specs.declared.refreshing.Begun.{Begun}
use Rattle.wh_table.specs.Stored.{Stored}
use Rattle.law_trace.specs.Reached.{catalog_of}
use Rattle.wh_view.specs.Kept.{AllKept, AreNumbered, Kept, changed, is_numbered, refreshed}

-- ---- what was begun

complete_asked : (m : Option Method) → is_complete m ≡ true → m ≡ Some Complete
complete_asked (Some Complete) h = refl
complete_asked (Some Fast) h = absurd (true≢false (sym h))
complete_asked (Some Partition) h = absurd (true≢false (sym h))
complete_asked (Some Force) h = absurd (true≢false (sym h))
complete_asked None h = absurd (true≢false (sym h))

-- the view that is found by a number has it
number_found : (n : ℕ) (v : View) (vs : List View) → find (λ w. w.def.view == n) vs ≡ Some v → v.def.view ≡ n
number_found n v [] found = absurd (cc)
number_found n v (w ∷ vs) found = by (w.def.view == n) refl found (number_found n v vs)
  where
    by : (b : Bool) → (w.def.view == n) ≡ b → cond b (Some w) (find (λ u. u.def.view == n) vs) ≡ Some v → (find (λ u. u.def.view == n) vs ≡ Some v → v.def.view ≡ n) → v.def.view ≡ n
    by true is same rest = let here : w ≡ v = cc in ap (λ (u : View). u.def.view) (sym here) ∙ eqb-true w.def.view n is
    by false is same rest = rest same

-- what holds of all views holds of the one that is found
pub found_each : (P : View → Type 0) (p : View → Bool) (vs : List View) (v : View) → All P vs → find p vs ≡ Some v → P v
found_each P p [] v h found = absurd (cc)
found_each P p (w ∷ vs) v h found = by (p w) found (found_each P p vs v (All-tail P w vs h))
  where
    by : (b : Bool) → cond b (Some w) (find p vs) ≡ Some v → (find p vs ≡ Some v → P v) → P v
    by true same rest = let here : w ≡ v = cc in subst P here (All-head P w vs h)
    by false same rest = rest same

-- the view of a begin as its image has it, with what was computed over it
record IsBegun (image : Catalog) (n : ℕ) (x : Computed) : Type 0 where
  then : View
  found : view_numbered image n ≡ Some then
  number : then.def.view ≡ n
  over_tables : then.def.beneath ≡ None
  computed_so : x ≡ computed_by image then Complete

is_begun : (image : Catalog) (n : ℕ) (x : Computed) → Computes image (view_numbered image n) (Some x) → IsBegun image n x
is_begun image n x h = by (view_numbered image n) refl h
  where
    computed_is : (v : View) → IsSomeAnd (Some x) (λ y. computed image v Complete ≡ Ok y) → x ≡ computed_by image v Complete
    computed_is v is = let same : computed image v Complete ≡ Ok x = is in cc

    by : (o : Option View) → view_numbered image n ≡ o → Computes image o (Some x) → IsBegun image n x
    by None found none = absurd (cc)
    by (Some v) found is = record { then = v; found = found; number = number_found n v image.views found; over_tables = is.0; computed_so = computed_is v is.1 }

module _ (trace : List Event) (id : Id) (r : RefreshView) (scn : ℕ) (tables : List Stored) (views : AllKept) (kept begun room : ℕ) (core : IsCore trace scn tables views kept begun room)
    (accepted : IsAccepted (install_of id (commands.Other (about.Refresh r)))) (b : Begun) (named : b.name ≡ r.name) where
  -- it is asked of one view, and completely
  alone : is_empty r.more ≡ true
  alone = (and_parts (is_complete r.method) (is_empty r.more) accepted.built).1

  complete : r.method ≡ Some Complete
  complete = complete_asked r.method (and_parts (is_complete r.method) (is_empty r.more) accepted.built).0

  -- the install as the session's step
  install_step : (kept_begin : state.Begun) → (session_of (state_of trace) (bearer_of id)).begun ≡ Some kept_begin
      → event_step (state_of trace) (install_of id (commands.Other (about.Refresh r))) ≡ install_begun (ended (state_of trace) (session_of (state_of trace) (bearer_of id))) r kept_begin
  install_step kept_begin is =
      let s = state_of trace in
      let x = session_of s (bearer_of id) in
      ap (λ one. cond one (install_refresh s x r) (install_list s x r)) alone
      ∙ ap (λ reads. cond reads (refused (ended s x) 0 OnlyReading) (option_case x.begun (refused s 0 (NoSuchObject r.name)) (install_begun (ended s x) r))) (not_reading trace (bearer_of id) core.built)
      ∙ ap (λ o. option_case o (refused s 0 (NoSuchObject r.name)) (install_begun (ended s x) r)) is

  -- after the install the session has begun nothing, and the catalog is d
  leaves : (kept_begin : state.Begun) → (session_of (state_of trace) (bearer_of id)).begun ≡ Some kept_begin → (d : Catalog) (answer : Reply)
      → install_begun (ended (state_of trace) (session_of (state_of trace) (bearer_of id))) r kept_begin ≡ replied (with_catalog (ended (state_of trace) (session_of (state_of trace) (bearer_of id))) d) answer
      → (views2 : AllKept) → Stands d (names_after trace (install_of id (commands.Other (about.Refresh r)))) scn views.made scn tables views2
      → After trace (install_of id (commands.Other (about.Refresh r))) scn tables views2 kept (begun - 1) answer
  leaves kept_begin has d answer is views2 after =
      let e : Event = install_of id (commands.Other (about.Refresh r)) in
      let s = state_of trace in
      let step : event_step s e ≡ replied (with_catalog (ended s (session_of s (bearer_of id))) d) answer = install_step kept_begin has ∙ is in
      let left : state_of (trace ++ e ∷ []) ≡ with_catalog (ended s (session_of s (bearer_of id))) d = state_push trace e ∙ ap (λ x. x.state) step in
      let less = end_less s (bearer_of id) kept_begin has in
      record {
        core = λ room2 fits. next_core trace e scn tables views kept begun room core accepted d scn tables views2 kept (begun - 1) room2 (ap (λ x. x.catalog) left) after
            (core.counted ∙ sym (version_laws.others trace e refl (oldest_reached trace core.built)))
            (subst (λ x. begun_count x.sessions ≤ begun - 1) (sym left) (omega (arith, less, core.enough))) fits;
        reply = ap (λ x. x.reply) step;
      }

  -- what is kept of a begin
  abbrev kept_of : state.Begun → Begun
  kept_of kb = record { name = r.name; view = kb.view; point = kb.point; scn = kb.image.scn }

  abbrev Puts : AllKept × Reply → Type 0
  Puts p = After trace (install_of id (commands.Other (about.Refresh r))) scn tables p.0 kept (begun - 1) p.1

  abbrev after_end : State
  after_end = ended (state_of trace) (session_of (state_of trace) (bearer_of id))

  abbrev to_step : State → state.Begun → Computed → View → ℕ → Step
  to_step s kb x now to =
      replied (with_catalog s (change_view now.def.view (refreshed_to to) s.catalog))
      (reply.Refresh (record { method = x.used; scn = to; read = x.read; holds = length x.rows }))

  abbrev into_step : State → state.Begun → Computed → View → Option Refusal → Step
  into_step s kb x now (Some code) = refused s x.read code
  into_step s kb x now None = to_step s kb x now (new_point kb.image [] now)

  refuses_install : (kb : state.Begun) → (session_of (state_of trace) (bearer_of id)).begun ≡ Some kb → (read : ℕ) (code : Refusal) → install_begun after_end r kb ≡ refused after_end read code
      → Puts (views, refusal_after read code)
  refuses_install kb has read code is = leaves kb has (catalog_of trace) (refusal_after read code) is views (as_it_was trace (install_of id (commands.Other (about.Refresh r))) scn tables views kept begun room core accepted)

  module _ (kb : state.Begun) (has : (session_of (state_of trace) (bearer_of id)).begun ≡ Some kb) where
    none_found : Computes kb.image (begun_view kb) None → Puts (put views (kept_of kb) None)
    none_found h = by (begun_view kb) refl h
      where
        by : (o : Option View) → begun_view kb ≡ o → Computes kb.image o None → Puts (put views (kept_of kb) None)
        by None found none =
            refuses_install kb has 0 (NoSuchObject r.name)
            (ap (λ o. option_case o (refused after_end 0 (NoSuchObject r.name)) (λ v. install_computed after_end r.name kb v (computed_for kb.image [] r v))) found)
        by (Some v) found is = absurd is.1

    module _ (x : Computed) (n : ℕ) (view : kb.view ≡ Some n) (then : IsBegun kb.image n x) where
      begun_view_is : begun_view kb ≡ Some then.then
      begun_view_is = ap (option_and_then (view_numbered kb.image)) view ∙ then.found

      to_over : install_begun after_end r kb ≡ option_case (option_map (λ k. k.view) (find (is_numbered n) views.views)) (refused after_end x.read (NoSuchObject r.name)) (install_into after_end r.name kb x)
      to_over =
          let gives : computed_for kb.image [] r then.then ≡ Ok x =
          ap (λ o. option_case o (computed kb.image then.then (asked_method r then.then)) (λ m. unless (nested_refusal kb.image [] r then.then m) (computed_over kb.image [] then.then))) then.over_tables
          ∙ ap (λ m. computed kb.image then.then (unwrap_or m then.then.def.method)) complete
          ∙ ap (λ y. Ok y) (sym then.computed_so) in
          ap (λ o. option_case o (refused after_end 0 (NoSuchObject r.name)) (λ v. install_computed after_end r.name kb v (computed_for kb.image [] r v))) begun_view_is
          ∙ ap (install_computed after_end r.name kb then.then) gives
          ∙ ap (λ m. option_case (view_numbered (catalog_of trace) m) (refused after_end x.read (NoSuchObject r.name)) (install_into after_end r.name kb x)) then.number
          ∙ ap (λ o. option_case o (refused after_end x.read (NoSuchObject r.name)) (install_into after_end r.name kb x)) (lookups.numbered scn tables views (catalog_of trace) n core.image.stands)

      -- the computed rows are what the view stores at the SCN of the image
      stores : ForSome (view_numbered (catalog_of trace) n) (λ v. x.rows ≡ stored v.def.query (base_at (catalog_of trace) kb.image.scn))
      stores = λ w found.
          let now = install_laws.stands trace (bearer_of id) n kb w has view found in
          let same : then.then ≡ now.then = cc (begun_view_is, now.found) in
          ap (λ (y : Computed). y.rows) then.computed_so ∙ ap (λ (v : View). stored v.def.query (base_now kb.image)) same ∙ sym now.content

      number_of_found : (k : Kept) → find (is_numbered n) views.views ≡ Some k → k.view.def.view ≡ n
      number_of_found k found =
          number_found n k.view (catalog_of trace).views (lookups.numbered scn tables views (catalog_of trace) n core.image.stands ∙ ap (option_map (λ (l : Kept). l.view)) found)

      -- so is the view as it is now
      over_tables_now : (k : Kept) → find (is_numbered n) views.views ≡ Some k → k.view.def.beneath ≡ None
      over_tables_now k found =
          found_each (λ (v : View). v.def.beneath ≡ None) (λ v. v.def.view == n) (catalog_of trace).views k.view core.image.stands.over_tables
          (lookups.numbered scn tables views (catalog_of trace) n core.image.stands ∙ ap (option_map (λ (l : Kept). l.view)) found)

      puts_found : AreNumbered views → (k : Kept) → find (is_numbered n) views.views ≡ Some k → (same : Bool) → option_nat_same kb.point k.view.point ≡ same
          → Puts (cond same (changed n (refreshed kb.image.scn x.rows) views, reply.Refresh (record { method = x.used; scn = kb.image.scn; read = x.read; holds = length x.rows }))
          (views, refusal_after x.read (Overtaken r.name kb.point k.view.point)))
      puts_found numbers k found true same =
          let c : Catalog = catalog_of trace in
          let d : Catalog = change_view n (refreshed_to kb.image.scn) c in
          leaves kb has d (reply.Refresh (record { method = x.used; scn = kb.image.scn; read = x.read; holds = length x.rows }))
          (to_over
          ∙ ap (λ (o : Option Kept). option_case (option_map (λ l. l.view) o) (refused after_end x.read (NoSuchObject r.name)) (install_into after_end r.name kb x)) found
          ∙ ap (λ b2. into_step after_end kb x k.view (where_true (not b2) (Overtaken r.name kb.point k.view.point))) same
          ∙ ap (λ o. to_step after_end kb x k.view (option_case o kb.image.scn (λ m. unwrap_or (point_beneath kb.image [] m) 0))) (over_tables_now k found)
          ∙ ap (λ m. replied (with_catalog after_end (change_view m (refreshed_to kb.image.scn) c)) (reply.Refresh (record { method = x.used; scn = kb.image.scn; read = x.read; holds = length x.rows }))) (number_of_found k found))
          (changed n (refreshed kb.image.scn x.rows) views)
          (record {
            stands = view_changes.refreshes scn tables views c n kb.image.scn x.rows core.image.stands numbers stores;
            on_demand = all_changed IsOnDemand (is_numbered n) (refreshed kb.image.scn x.rows) (λ l is. is) views.views core.on_demand;
            named = all_changed (IsNamedBy (names_after trace (install_of id (commands.Other (about.Refresh r))))) (is_numbered n) (refreshed kb.image.scn x.rows) (λ l is. is) views.views (still_named trace (install_of id (commands.Other (about.Refresh r))) scn tables views kept begun room core accepted);
            scn_one = omega arith;
            made_one = omega arith;
          })
      puts_found numbers k found false same =
          refuses_install kb has x.read (Overtaken r.name kb.point k.view.point)
          (to_over
          ∙ ap (λ (o : Option Kept). option_case (option_map (λ l. l.view) o) (refused after_end x.read (NoSuchObject r.name)) (install_into after_end r.name kb x)) found
          ∙ ap (λ b2. into_step after_end kb x k.view (where_true (not b2) (Overtaken r.name kb.point k.view.point))) same)

      puts_over : AreNumbered views → Puts (put_over views (kept_of kb) x n)
      puts_over numbers = by (find (is_numbered n) views.views) refl
        where
          by : (o : Option Kept) → find (is_numbered n) views.views ≡ o → Puts (option_case o (views, refusal_after x.read (NoSuchObject r.name)) (put_into views (kept_of kb) x n))
          by None found =
              refuses_install kb has x.read (NoSuchObject r.name)
              (to_over ∙ ap (λ (o : Option Kept). option_case (option_map (λ l. l.view) o) (refused after_end x.read (NoSuchObject r.name)) (install_into after_end r.name kb x)) found)
          by (Some k) found = puts_found numbers k found (option_nat_same kb.point k.view.point) refl

    installed_at : AreNumbered views → (rows : Option Computed) → Computes kb.image (begun_view kb) rows → Puts (put views (kept_of kb) rows)
    installed_at numbers None h = none_found h
    installed_at numbers (Some x) h = by kb.view refl
      where
        by : (o : Option ℕ) → kb.view ≡ o → Puts (option_case o (views, refusal_after 0 (NoSuchObject r.name)) (put_over views (kept_of kb) x))
        by None view = absurd (nothing (subst (λ o. Computes kb.image (option_and_then (view_numbered kb.image) o) (Some x)) view h))
          where
            nothing : Some x ≡ None → ⊥
            nothing e = cc
        by (Some n) view = puts_over x n view (is_begun kb.image n x (subst (λ o. Computes kb.image (option_and_then (view_numbered kb.image) o) (Some x)) view h)) numbers

  pub installed : AreNumbered views → (rows : Option Computed) → HasBegun trace (bearer_of id) b rows → Puts (put views b rows)
  installed numbers rows h =
      let same : kept_of h.begun ≡ b = (λ i. record { name = sym named i; view = sym h.view i; point = sym h.point i; scn = sym h.scn i }) in
      subst (λ k. Puts (put views k rows)) same (installed_at h.begun h.is numbers rows h.computes)

-- ---- what the reply says was read

put_reads : (image : Catalog) (views : AllKept) (b : Begun) (x : Computed) (o : Option ℕ) → Computes image (option_and_then (view_numbered image) o) (Some x)
    → read_of (option_case o (views, refusal_after 0 (NoSuchObject b.name)) (put_over views b x)).1 ≡ x.read
put_reads image views b x None h = absurd (nothing h)
  where
    nothing : Some x ≡ None → ⊥
    nothing e = cc
put_reads image views b x (Some n) h = by (find (is_numbered n) views.views)
  where
    at_point : (k : Kept) (same : Bool)
        → read_of (cond {A = AllKept × Reply} same (changed n (refreshed b.scn x.rows) views, reply.Refresh (record { method = x.used; scn = b.scn; read = x.read; holds = length x.rows })) (views, refusal_after x.read (Overtaken b.name b.point k.view.point))).1 ≡ x.read
    at_point k true = refl
    at_point k false = refl

    by : (o : Option Kept) → read_of (option_case o (views, refusal_after x.read (NoSuchObject b.name)) (put_into views b x n)).1 ≡ x.read
    by None = refl
    by (Some k) = at_point k (option_nat_same b.point k.view.point)

pub reads_told : (trace : List Event) (session : ℕ) (views : AllKept) (b : Begun) (rows : Option Computed) → HasBegun trace session b rows → read_of (put views b rows).1 ≡ option_case rows 0 (λ x. x.read)
reads_told trace session views b None h = refl
reads_told trace session views b (Some x) h =
    put_reads h.begun.image views b x b.view (subst (λ o. Computes h.begun.image (option_and_then (view_numbered h.begun.image) o) (Some x)) (sym h.view) h.computes)

-- a session that has begun a refresh is counted
pub has_begun : (trace : List Event) (session : ℕ) (b : Begun) (rows : Option Computed) → HasBegun trace session b rows → 1 ≤ begun_count (state_of trace).sessions
has_begun trace session b rows h = omega (arith, end_less (state_of trace) session h.begun h.is)
