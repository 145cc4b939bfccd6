-- What a statement on a view makes of a core.
use Rattle.std.proofs.Common.{◌≡◌, ◌+◌, ◌∙◌, sym, ap, refl, subst, arith, suc, ℕ, Bool, true, false, true≢false, cond, not, List, [], ◌∷◌, ◌++◌, length, map, None, Option, Some, nat_le, ◌==◌, ◌||◌}
use Rattle.std.proofs.lemmas.Bool.{and_parts, not-true, or_left, or_parts, or_right}
use Rattle.std.proofs.lemmas.List.{length-map}
use Rattle.std.proofs.lemmas.List.Elements.{All-append, All-cons, All-filter, All-head, All-map, All-nil, All-tail, All-weaker}
use Rattle.std.proofs.lemmas.List.Folds.{list_any-append}
use Rattle.std.proofs.lemmas.Slice.Eq.{bytes_eq-Decides}
use Rattle.std.specs.List.{All, filter, find, list_any}
use Rattle.std.specs.Prelude.{Err, Ok, Result, option_and_then, option_map, option_to_list}
use Rattle.wh_base.specs.Lists.{change_where, first_some, has_text, head, option_case, or_refuse, same_text, unless, unless_then, where_true, ◌>>=◌}
use Rattle.wh_base.specs.Tables.{def_at}
use Rattle.wh_base.specs.declared.queries.StarQuery.{StarQuery}
use Rattle.wh_base.specs.declared.replies.Counted.TheVariants as counted
use Rattle.wh_base.specs.declared.replies.Refusal.{Refusal}
use Rattle.wh_base.specs.declared.replies.Refusal.TheVariants.{FastRefused, NameTaken, NoSuchObject, OnlyReading, StillUsed, TooManyObjects}
use Rattle.wh_base.specs.declared.replies.Reply.TheVariants as reply
use Rattle.wh_base.specs.declared.statements.Command.TheVariants as commands
use Rattle.wh_base.specs.declared.statements.Event.{Event}
use Rattle.wh_base.specs.declared.statements.Id.{Id}
use Rattle.wh_base.specs.declared.statements.Method.{Method}
use Rattle.wh_base.specs.declared.statements.Method.TheVariants.{Complete, Fast, Force, Partition}
use Rattle.wh_base.specs.declared.statements.NewView.{NewView}
use Rattle.wh_base.specs.declared.statements.Statement.TheVariants as about
use Rattle.wh_base.specs.declared.statements.ViewStatement.{ViewStatement}
use Rattle.wh_base.specs.declared.statements.ViewStatement.TheVariants.{AlterView, CreateView, DropView, Unregister}
use Rattle.wh_base.specs.declared.statements.ViewSwitch.{ViewSwitch}
use Rattle.wh_base.specs.declared.views.ViewEntry.{ViewEntry}
use Rattle.def_built.specs.Commands.{method_is_built}
use Rattle.def_effect.specs.Define.{max_objects}
use Rattle.def_history.specs.Catalog.{Catalog, View, base_now, defs_now, view_named}
use Rattle.def_history.specs.Staleness.{form_of_view}
use Rattle.def_restrictions.specs.Restrictions.{restricted}
use Rattle.def_journal.specs.Explaining.{the_view}
use Rattle.def_journal.specs.Journal.{commands_of, event_of, event_step, state_of}
use Rattle.def_journal.specs.Nesting.{drop_refusal, is_fast, view_beneath}
use Rattle.def_journal.specs.Refreshing.{change_view}
use Rattle.def_journal.specs.State.{done_or_refused, refused, replied, with_catalog}
use Rattle.def_journal.specs.Statements.{Outcome, build_reads, create_over_tables, create_over_view, fast_form_refusal, new_view, unread, view_def, with_view, without_view}
use Rattle.def_journal.specs.Statements as statement
use Rattle.def_journal.specs.Steps.{view_change}
use Rattle.def_meaning.specs.Meaning.{stored}
use Rattle.def_meaning.specs.Ranges.{base_reads}
use Rattle.def_resolve.specs.Names.{lone_name}
use Rattle.def_resolve.specs.Resolve.{resolve}
use Rattle.wh_core.proofs.Events.{After, IsAccepted, Stands, names_after, not_reading, refuses, replies, still_named}
use Rattle.wh_core.proofs.Known.{lookups, view_changes}
use Rattle.wh_core.specs.Asked.{asked_def, asked_star, number_of, view_refusal}
use Rattle.wh_core.specs.Calls.{IsOverTables, bearer_of, names_created}
use Rattle.wh_core.specs.Kept.{IsCore, IsNamedBy}
use Rattle.wh_image.specs.Standing.{StandsFor}
use Rattle.wh_table.specs.Kept.{defs_of}
use Rattle.wh_table.specs.Stored.{Stored}
use Rattle.law_trace.specs.Reached.{catalog_of}
use Rattle.wh_view.specs.Kept.{AllKept, Kept, added, changed, is_named, is_numbered, new_kept, removed, switched, unregistered}

-- the view isn't refreshed at commits
abbrev pub IsOnDemand : Kept → Type 0
IsOnDemand k = k.view.def.on_commit ≡ false

-- what a change of one view keeps
pub all_changed : (P : Kept → Type 0) (p : Kept → Bool) (f : Kept → Kept) → ((k : Kept) → P k → P (f k)) → (ks : List Kept) → All P ks → All P (change_where p f ks)
all_changed P p f keeps ks h = All-map P (λ k. cond (p k) (f k) k) ks (All-weaker P (λ k. P (cond (p k) (f k) k)) (λ k is. by k (p k) is) ks h)
  where
    by : (k : Kept) (b : Bool) → P k → P (cond b (f k) k)
    by k true is = keeps k is
    by k false is = is

-- what is found of the view with this name by its number
abbrev Finds : Option Kept → Option View → Option ℕ → Type 0
Finds found there None = there ≡ None
Finds found there (Some n) = (v : View) × (there ≡ Some v) × (v.def.view ≡ n)

finds : (found : Option Kept) (number : Option ℕ) → option_map (λ k. k.view.def.view) found ≡ number → Finds found (option_map (λ k. k.view) found) number
finds None None is = refl
finds None (Some n) is = absurd (cc)
finds (Some k) None is = absurd (cc)
finds (Some k) (Some n) is = (k.view, refl, cc)

module _ (trace : List Event) (id : Id) (v : ViewStatement) (scn : ℕ) (tables : List Stored) (views : AllKept) (kept begun room : ℕ) (core : IsCore trace scn tables views kept begun room)
    (accepted : IsAccepted (event_of id (commands.Other (about.View v)))) where
  view_step : event_step (state_of trace) (event_of id (commands.Other (about.View v))) ≡ done_or_refused (state_of trace) (view_change (catalog_of trace) v)
  view_step =
      ap (λ b. cond b (refused (state_of trace) 0 OnlyReading) (done_or_refused (state_of trace) (view_change (catalog_of trace) v)))
      (not_reading trace (bearer_of id) core.built)

  -- what the statement leaves
  done : (d : Catalog) (read : ℕ) → view_change (catalog_of trace) v ≡ Ok (d, read) → d.scn ≡ scn → (views2 : AllKept) → Stands d (names_after trace (event_of id (commands.Other (about.View v)))) scn views.made scn tables views2
      → After trace (event_of id (commands.Other (about.View v))) scn tables views2 kept begun (reply.Catalog (record { scn = scn; read = read }))
  done d read is same views2 after =
      replies trace (event_of id (commands.Other (about.View v))) scn tables views kept begun room core accepted refl d (reply.Catalog (record { scn = scn; read = read }))
      (view_step ∙ ap (done_or_refused (state_of trace)) is ∙ ap (λ n. replied (with_catalog (state_of trace) d) (reply.Catalog (record { scn = n; read = read }))) same)
      scn tables views2 after

  view_refused : (code : Refusal) → view_change (catalog_of trace) v ≡ Err code
      → After trace (event_of id (commands.Other (about.View v))) scn tables views kept begun (reply.Refuse (record { code = code; at = None; read = 0 }))
  view_refused code is = refuses trace (event_of id (commands.Other (about.View v))) scn tables views kept begun room core accepted refl code (view_step ∙ ap (done_or_refused (state_of trace)) is)

  -- the view with this name, by its number
  looked : (name : List ℕ) (number : Option ℕ) → number_of name views ≡ number → Finds (find (is_named name) views.views) (view_named (catalog_of trace) name) number
  looked name number is =
      subst (λ there. Finds (find (is_named name) views.views) there number) (sym (lookups.named scn tables views (catalog_of trace) name core.image.stands))
      (finds (find (is_named name) views.views) number is)

  not_there : (name : List ℕ) (f : View → Outcome) → view_change (catalog_of trace) v ≡ (the_view (catalog_of trace) name >>= f) → number_of name views ≡ None
      → After trace (event_of id (commands.Other (about.View v))) scn tables views kept begun (reply.Refuse (record { code = NoSuchObject name; at = None; read = 0 }))
  not_there name f is none = view_refused (NoSuchObject name) (is ∙ ap (λ o. or_refuse o (NoSuchObject name) >>= f) (looked name None none))

  -- what is made of the view with this number
  there : (name : List ℕ) (f : ℕ → Catalog) → view_change (catalog_of trace) v ≡ (the_view (catalog_of trace) name >>= (λ w. unread (f w.def.view))) → (n : ℕ) → number_of name views ≡ Some n
      → view_change (catalog_of trace) v ≡ Ok (f n, 0)
  there name f is n found =
      let l = looked name (Some n) found in
      is ∙ ap (λ o. or_refuse o (NoSuchObject name) >>= (λ w. unread (f w.def.view))) l.1 ∙ ap (λ m. Ok (f m, 0)) l.2

module _ (trace : List Event) (id : Id) (scn : ℕ) (tables : List Stored) (views : AllKept) (kept begun room : ℕ) (core : IsCore trace scn tables views kept begun room) where
  -- a change of a view leaves the names of all
  renamed : (v : ViewStatement) → IsAccepted (event_of id (commands.Other (about.View v))) → (p : Kept → Bool) (f : Kept → Kept) → ((k : Kept) → (f k).view.def.name ≡ k.view.def.name)
      → All (IsNamedBy (names_after trace (event_of id (commands.Other (about.View v))))) (change_where p f views.views)
  renamed v accepted p f same =
      let e : Event = event_of id (commands.Other (about.View v)) in
      all_changed (IsNamedBy (names_after trace e)) p f (λ k is. ap (has_text (names_after trace e)) (same k) ∙ is) views.views (still_named trace e scn tables views kept begun room core accepted)

  -- ---- ENABLE and DISABLE QUERY REWRITE

  pub switches_none : (s : ViewSwitch) → IsAccepted (event_of id (commands.Other (about.View (AlterView s)))) → number_of s.name views ≡ None
      → After trace (event_of id (commands.Other (about.View (AlterView s)))) scn tables views kept begun (reply.Refuse (record { code = NoSuchObject s.name; at = None; read = 0 }))
  switches_none s accepted none =
      not_there trace id (AlterView s) scn tables views kept begun room core accepted s.name (λ w. unread (change_view w.def.view (statement.switched s.rewrite) (catalog_of trace))) refl none

  pub switches : (s : ViewSwitch) → IsAccepted (event_of id (commands.Other (about.View (AlterView s)))) → (n : ℕ) → number_of s.name views ≡ Some n
      → After trace (event_of id (commands.Other (about.View (AlterView s)))) scn tables (changed n (switched s.rewrite) views) kept begun (reply.Catalog (record { scn = scn; read = 0 }))
  switches s accepted n found =
      let c : Catalog = catalog_of trace in
      done trace id (AlterView s) scn tables views kept begun room core accepted (change_view n (statement.switched s.rewrite) c) 0
      (there trace id (AlterView s) scn tables views kept begun room core accepted s.name (λ m. change_view m (statement.switched s.rewrite) c) refl n found)
      core.image.stands.scn_is (changed n (switched s.rewrite) views)
      (record {
        stands = view_changes.switches scn tables views c n s.rewrite core.image.stands;
        on_demand = all_changed IsOnDemand (is_numbered n) (switched s.rewrite) (λ k is. is) views.views core.on_demand;
        named = renamed (AlterView s) accepted (is_numbered n) (switched s.rewrite) (λ k. refl);
        scn_one = omega arith;
        made_one = omega arith;
      })

  -- ---- DROP

  pub drops_none : (name : List ℕ) → IsAccepted (event_of id (commands.Other (about.View (DropView name)))) → number_of name views ≡ None
      → After trace (event_of id (commands.Other (about.View (DropView name)))) scn tables views kept begun (reply.Refuse (record { code = NoSuchObject name; at = None; read = 0 }))
  drops_none name accepted none =
      let c : Catalog = catalog_of trace in
      not_there trace id (DropView name) scn tables views kept begun room core accepted name (λ v. unless (drop_refusal c v) (without_view c v, 0)) refl none

  pub drops : (name : List ℕ) → IsAccepted (event_of id (commands.Other (about.View (DropView name)))) → (n : ℕ) → number_of name views ≡ Some n
      → After trace (event_of id (commands.Other (about.View (DropView name)))) scn tables (removed n views) kept begun (reply.Catalog (record { scn = scn; read = 0 }))
  drops name accepted n found =
      let c : Catalog = catalog_of trace in
      let without : ℕ → Catalog = λ m. record c { views = filter (λ w. not (w.def.view == m)) c.views } in
      let l = looked trace id (DropView name) scn tables views kept begun room core accepted name (Some n) found in
      -- no view stands over it
      let free = lookups.over scn tables views c l.0.def.view core.image.stands in
      done trace id (DropView name) scn tables views kept begun room core accepted (without n) 0
      (ap (λ o. or_refuse o (NoSuchObject name) >>= (λ v. unless (drop_refusal c v) (without_view c v, 0))) l.1
      ∙ ap (λ over. unless (option_map (λ (w : View). StillUsed w.def.name) (head over)) (without l.0.def.view, 0)) free
      ∙ ap (λ m. Ok (without m, 0)) l.2)
      core.image.stands.scn_is (removed n views)
      (record {
        stands = view_changes.drops scn tables views c n core.image.stands;
        on_demand = All-filter (λ k. not (is_numbered n k)) IsOnDemand views.views core.on_demand;
        named = All-filter (λ k. not (is_numbered n k)) (IsNamedBy (names_after trace (event_of id (commands.Other (about.View (DropView name)))))) views.views (still_named trace (event_of id (commands.Other (about.View (DropView name)))) scn tables views kept begun room core accepted);
        scn_one = omega arith;
        made_one = omega arith;
      })

  -- ---- UNREGISTER

  pub unregisters_none : (name : List ℕ) → IsAccepted (event_of id (commands.Other (about.View (Unregister name)))) → number_of name views ≡ None
      → After trace (event_of id (commands.Other (about.View (Unregister name)))) scn tables views kept begun (reply.Refuse (record { code = NoSuchObject name; at = None; read = 0 }))
  unregisters_none name accepted none =
      not_there trace id (Unregister name) scn tables views kept begun room core accepted name (λ w. unread (change_view w.def.view statement.unregistered (catalog_of trace))) refl none

  pub unregisters : (name : List ℕ) → IsAccepted (event_of id (commands.Other (about.View (Unregister name)))) → (n : ℕ) → number_of name views ≡ Some n
      → After trace (event_of id (commands.Other (about.View (Unregister name)))) scn tables (changed n unregistered views) kept begun (reply.Catalog (record { scn = scn; read = 0 }))
  unregisters name accepted n found =
      let c : Catalog = catalog_of trace in
      done trace id (Unregister name) scn tables views kept begun room core accepted (change_view n statement.unregistered c) 0
      (there trace id (Unregister name) scn tables views kept begun room core accepted name (λ m. change_view m statement.unregistered c) refl n found)
      core.image.stands.scn_is (changed n unregistered views)
      (record {
        stands = view_changes.unregisters scn tables views c n core.image.stands;
        on_demand = all_changed IsOnDemand (is_numbered n) unregistered (λ k is. is) views.views core.on_demand;
        named = renamed (Unregister name) accepted (is_numbered n) unregistered (λ k. refl);
        scn_one = omega arith;
        made_one = omega arith;
      })

-- ---- CREATE

then_bind : {A B E : Type 0} (o : Option E) (r : Result A E) (f : A → Result B E) → unless_then o (r >>= f) ≡ (unless_then o r >>= f)
then_bind None r f = refl
then_bind (Some e) r f = refl

not_fast : (m : Method) → method_is_built m ≡ true → is_fast m ≡ false
not_fast Force h = refl
not_fast Complete h = refl
not_fast Fast h = absurd (true≢false (sym h))
not_fast Partition h = absurd (true≢false (sym h))

-- no view bears a name that isn't among these
none_named : (names : List (List ℕ)) (name : List ℕ) (ks : List Kept) → has_text names name ≡ false → All (IsNamedBy names) ks → find (is_named name) ks ≡ None
none_named names name [] absent h = refl
none_named names name (k ∷ ks) absent h = by (is_named name k) refl (none_named names name ks absent (All-tail (IsNamedBy names) k ks h))
  where
    by : (b : Bool) → is_named name k ≡ b → find (is_named name) ks ≡ None → cond b (Some k) (find (is_named name) ks) ≡ None
    by true is rest =
        let same : k.view.def.name ≡ name = (bytes_eq-Decides k.view.def.name name).0 is in
        absurd (true≢false (sym (All-head (IsNamedBy names) k ks h) ∙ ap (has_text names) same ∙ absent))
    by false is rest = rest

-- a name is among those with it
named_last : (names : List (List ℕ)) (name : List ℕ) → has_text (names ++ name ∷ []) name ≡ true
named_last names name =
    list_any-append (same_text name) names (name ∷ [])
    ∙ or_right (list_any (same_text name) names) (same_text name name || false) (or_left (same_text name name) false ((bytes_eq-Decides name name).1 refl))

module _ (trace : List Event) (id : Id) (s : NewView) (scn : ℕ) (tables : List Stored) (views : AllKept) (kept begun room : ℕ) (core : IsCore trace scn tables views kept begun room)
    (accepted : IsAccepted (event_of id (commands.Other (about.View (CreateView s))))) (apart : IsOverTables (commands_of trace) (commands.Other (about.View (CreateView s)))) where
  -- it is over no view
  over_tables : view_beneath (catalog_of trace) s.asked.query ≡ None
  over_tables = by (lone_name s.asked.query) apart
    where
      by : (o : Option (List ℕ)) → list_any (has_text (names_created (commands_of trace))) (option_to_list o) ≡ false → option_and_then (view_named (catalog_of trace)) o ≡ None
      by None h = refl
      by (Some name) h =
          lookups.named scn tables views (catalog_of trace) name core.image.stands
          ∙ ap (option_map (λ (k : Kept). k.view)) (none_named (names_created (commands_of trace)) name views.views (or_parts (has_text (names_created (commands_of trace)) name) false h).0 core.named)

  -- the statement's outcome by the star form of its query
  of_star : StarQuery → Outcome
  of_star q = unless (fast_form_refusal (catalog_of trace) (new_view (catalog_of trace) s q)) (with_view (catalog_of trace) (new_view (catalog_of trace) s q), build_reads (catalog_of trace) (new_view (catalog_of trace) s q))

  refusal_of : Bool → ℕ → Option Refusal
  refusal_of taken count = first_some (where_true taken (NameTaken s.name) ∷ where_true (nat_le max_objects count) (TooManyObjects counted.Views) ∷ [])

  outcome_is : view_change (catalog_of trace) (CreateView s) ≡ (asked_star tables views s >>= of_star)
  unfolding of_star refusal_of
  outcome_is =
      let c : Catalog = catalog_of trace in
      let many : length c.views ≡ length views.views = ap length core.image.stands.views_are ∙ length-map views.views (λ (k : Kept). k.view) in
      let found = lookups.taken scn tables views c s.name core.image.stands in
      (λ i. unless_then (refusal_of (found i) (many i)) (option_case (over_tables i) (create_over_tables c s) (create_over_view c s)))
      ∙ (λ i. unless_then (view_refusal tables views s) (resolve (lookups.definitions scn tables views c core.image.stands i) s.asked.query >>= of_star))
      ∙ then_bind (view_refusal tables views s) (resolve (defs_of tables) s.asked.query) of_star

  def_is : (q : StarQuery) → view_def (catalog_of trace) s q ≡ asked_def tables views s q
  def_is q =
      let c : Catalog = catalog_of trace in
      let number : suc c.views_made ≡ views.made + 1 = omega (arith, core.image.stands.made_is) in
      let defs : defs_now c ≡ defs_of tables = lookups.definitions scn tables views c core.image.stands in
      (λ i. record {
        view = number i;
        name = s.name;
        query = q;
        tables = map (def_at (defs i)) q.tables;
        tokens = s.asked.tokens;
        method = s.method;
        on_commit = s.on_commit;
        rewrite = s.rewrite;
        beneath = None;
      })

  star_done : (q : StarQuery) → of_star q ≡ Ok (with_view (catalog_of trace) (new_view (catalog_of trace) s q), build_reads (catalog_of trace) (new_view (catalog_of trace) s q))
  unfolding of_star
  star_done q = ap (λ b. unless (cond b (option_map (λ r. FastRefused (restricted (defs_now (catalog_of trace)) r)) (form_of_view (catalog_of trace) (new_view (catalog_of trace) s q))) None) (with_view (catalog_of trace) (new_view (catalog_of trace) s q), build_reads (catalog_of trace) (new_view (catalog_of trace) s q)))
      (not_fast s.method (and_parts (method_is_built s.method) _ accepted.built).0)

  on_demand : s.on_commit ≡ false
  on_demand = not-true s.on_commit (and_parts (not s.on_commit) _ (and_parts (method_is_built s.method) _ accepted.built).1).0

  pub made_view : (q : StarQuery) → Ok q ≡ asked_star tables views s → (entries : List ViewEntry) (read : ℕ) → entries ≡ cond s.deferred [] (stored q (base_now (catalog_of trace)))
      → read ≡ cond s.deferred 0 (base_reads q (base_now (catalog_of trace)))
      → After trace (event_of id (commands.Other (about.View (CreateView s)))) scn tables
      (added (new_kept (asked_def tables views s q) (where_true (not s.deferred) scn) entries) views) kept begun (reply.Catalog (record { scn = scn; read = read }))
  made_view q is entries read stores counts =
      let c : Catalog = catalog_of trace in
      let same : build_reads c (new_view c s q) ≡ read = reads_same s.deferred ∙ sym counts in
      done trace id (CreateView s) scn tables views kept begun room core accepted (with_view c (new_view c s q)) read
      (outcome_is ∙ ap (λ r. r >>= of_star) (sym is) ∙ star_done q ∙ ap (λ n. Ok (with_view c (new_view c s q), n)) same)
      core.image.stands.scn_is (added (new_kept (asked_def tables views s q) (where_true (not s.deferred) scn) entries) views)
      (record {
        stands = subst (λ d. StandsFor scn tables (added (new_kept d (where_true (not s.deferred) scn) entries) views) (with_view c (new_view c s q))) (def_is q)
            (view_changes.creates scn tables views c s q entries core.image.stands stores);
        on_demand = All-append IsOnDemand views.views (new_kept (asked_def tables views s q) (where_true (not s.deferred) scn) entries ∷ []) core.on_demand
            (All-cons IsOnDemand (new_kept (asked_def tables views s q) (where_true (not s.deferred) scn) entries) [] on_demand (All-nil IsOnDemand));
        named =
            let names : List (List ℕ) = names_after trace (event_of id (commands.Other (about.View (CreateView s)))) in
            let k : Kept = new_kept (asked_def tables views s q) (where_true (not s.deferred) scn) entries in
            All-append (IsNamedBy names) views.views (k ∷ []) (still_named trace (event_of id (commands.Other (about.View (CreateView s)))) scn tables views kept begun room core accepted)
            (All-cons (IsNamedBy names) k [] (named_last (names_created (commands_of trace)) s.name) (All-nil (IsNamedBy names)));
        scn_one = omega arith;
        made_one = omega arith;
      })
    where
      reads_same : (deferred : Bool) → option_case (where_true (not deferred) (catalog_of trace).scn) 0 (λ p. base_reads q (base_now (catalog_of trace))) ≡ cond deferred 0 (base_reads q (base_now (catalog_of trace)))
      reads_same true = refl
      reads_same false = refl

  pub not_made : (code : Refusal) → Err code ≡ asked_star tables views s
      → After trace (event_of id (commands.Other (about.View (CreateView s)))) scn tables views kept begun (reply.Refuse (record { code = code; at = None; read = 0 }))
  not_made code is = view_refused trace id (CreateView s) scn tables views kept begun room core accepted code (outcome_is ∙ ap (λ r. r >>= of_star) (sym is))

then_ok : {A E : Type 0} (o : Option E) (r : Result A E) (x : A) → Ok x ≡ unless_then o r → r ≡ Ok x
then_ok None r x is = sym is
then_ok (Some e) r x is = absurd (cc)

-- the query of a new view over the tables of the catalog
pub asked_resolves : (trace : List Event) (scn : ℕ) (tables : List Stored) (views : AllKept) (kept begun room : ℕ) → IsCore trace scn tables views kept begun room
    → (s : NewView) (q : StarQuery) → Ok q ≡ asked_star tables views s → resolve (defs_now (catalog_of trace)) s.asked.query ≡ Ok q
asked_resolves trace scn tables views kept begun room core s q is =
    ap (λ defs. resolve defs s.asked.query) (lookups.definitions scn tables views (catalog_of trace) core.image.stands) ∙ then_ok (view_refusal tables views s) (resolve (defs_of tables) s.asked.query) q is
