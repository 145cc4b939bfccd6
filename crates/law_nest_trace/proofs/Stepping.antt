-- Every event keeps what Standing says of the views.
use Rattle.std.proofs.Common.{◌≡◌, ap, subst, refl, arith, ℕ, ◌≤◌, Bool, true, false, cond, not, List, [], ◌∷◌, ◌++◌, length, Option, Some, None, nat_le, ◌==◌}
use Rattle.std.proofs.lemmas.Option.{none-some, same_Some}
use Rattle.std.specs.List.{filter, find, fold}
use Rattle.std.specs.Prelude.{Err, Ok, Result, ◌-◌, int_lt, max, nat_abs, option_and_then, option_map, pos, unwrap_or}
use Rattle.wh_base.specs.Lists.{change_where, first_of, first_some, has_text, is_empty, option_case, or_refuse, same_text, unless, where_true}
use Rattle.wh_base.specs.Tables.{def_at}
use Rattle.wh_base.specs.declared.queries.StarQuery.{StarQuery}
use Rattle.wh_base.specs.declared.replies.Counted.TheVariants as counted
use Rattle.wh_base.specs.declared.replies.Refusal.{Refusal}
use Rattle.wh_base.specs.declared.replies.Refusal.TheVariants.{FutureScn, NameTaken, NoSuchObject, NotNested, OnlyReading, TooManyObjects}
use Rattle.wh_base.specs.declared.replies.Reply.{Reply}
use Rattle.wh_base.specs.declared.replies.Reply.TheVariants as reply
use Rattle.wh_base.specs.declared.statements.Asked.{Asked}
use Rattle.wh_base.specs.declared.statements.Command.{Command}
use Rattle.wh_base.specs.declared.statements.Command.TheVariants as commands
use Rattle.wh_base.specs.declared.statements.DimensionStatement.{DimensionStatement}
use Rattle.wh_base.specs.declared.statements.DimensionStatement.TheVariants.{CreateDimension, DropDimension}
use Rattle.wh_base.specs.declared.statements.Event.{Event}
use Rattle.wh_base.specs.declared.statements.LogStatement.{LogStatement}
use Rattle.wh_base.specs.declared.statements.LogStatement.TheVariants.{CreateLog, DropLog}
use Rattle.wh_base.specs.declared.statements.Method.{Method}
use Rattle.wh_base.specs.declared.statements.Method.TheVariants.{Complete, Fast, Force, Partition}
use Rattle.wh_base.specs.declared.statements.NewView.{NewView}
use Rattle.wh_base.specs.declared.statements.PurgeStatement.{PurgeStatement}
use Rattle.wh_base.specs.declared.statements.PurgeStatement.TheVariants.{PurgeLog, PurgeUndo}
use Rattle.wh_base.specs.declared.statements.RefreshView.{RefreshView}
use Rattle.wh_base.specs.declared.statements.SessionStatement.{SessionStatement}
use Rattle.wh_base.specs.declared.statements.SessionStatement.TheVariants.{EndReadOnly, ReadOnly, SetLevel, SetRewrite}
use Rattle.wh_base.specs.declared.statements.ShowStatement.{ShowStatement}
use Rattle.wh_base.specs.declared.statements.ShowStatement.TheVariants.{ExplainView, ShowLog, ShowView, ValidateDimension}
use Rattle.wh_base.specs.declared.statements.Statement.{Statement}
use Rattle.wh_base.specs.declared.statements.Statement.TheVariants as about
use Rattle.wh_base.specs.declared.statements.TableStatement.{TableStatement}
use Rattle.wh_base.specs.declared.statements.TableStatement.TheVariants.{AlterTable, CreateTable}
use Rattle.wh_base.specs.declared.statements.ViewStatement.{ViewStatement}
use Rattle.wh_base.specs.declared.statements.ViewStatement.TheVariants.{AlterView, CreateView, DropView, Unregister}
use Rattle.wh_base.specs.declared.views.Restriction.{Restriction}
use Rattle.def_dimensions.specs.Dimensions.{dimension_refusal, new_dimension}
use Rattle.def_effect.specs.Block.{Progress, Stopped, effect, the_table}
use Rattle.def_effect.specs.Define.{define_table, max_objects}
use Rattle.def_effect.specs.Partitions.{alter_table}
use Rattle.def_history.specs.Catalog.{Catalog, View, base_now, defs_now, names_taken, view_named, view_numbered}
use Rattle.def_history.specs.History.{kept_versions, versions_kept_above}
use Rattle.def_history.specs.Logs.{log_rows, purged_log}
use Rattle.def_history.specs.Staleness.{restriction}
use Rattle.def_journal.specs.Answers.{by_query, star_at}
use Rattle.def_journal.specs.Committing.{Dues, after_block, commit_result, do_due, is_due, refresh_due, suspend}
use Rattle.def_journal.specs.Explaining.{explain_view, show_log, show_view, shown, the_dimension, the_log, the_view, validated}
use Rattle.def_journal.specs.Journal.{state_after, state_of}
use Rattle.def_journal.specs.Listing.{all_refreshed, computed_list, install_list, install_named, install_over, install_views, list_installed, moved_refusal, names_refusal, reads_so_far, views_named}
use Rattle.def_journal.specs.Nesting.{drop_refusal, may_be_over, nested_query, unbuilt_beneath, view_beneath}
use Rattle.def_journal.specs.Refreshing.{Computed, Listed, begin_refresh, begun_view, change_view, computed_for, ended, install_begun, install_computed, install_into, install_refresh, new_point, overtaken, refreshed_to}
use Rattle.def_journal.specs.State.{Begun, Session, State, Step, done_or_refused, empty_state, image_of, new_session, next_scn, only_reads, refused, replied, session_of, with_base, with_catalog, with_session}
use Rattle.def_journal.specs.Statements.{Outcome, altered, build_reads, change_named_view, create_over_tables, create_over_view, fast_form_refusal, nested_view, new_log, new_log_refusal, new_view, purged_or_refused, switched, unread, unregistered, with_view, without_view}
use Rattle.def_journal.specs.Steps.{dimension_change, log_change, other_step, purge_change, session_done, show_step, statement_step, step, submit_step, submitted, table_change, view_change}
use Rattle.def_nest.specs.Compose.{compose}
use Rattle.def_resolve.specs.Names.{lone_name}
use Rattle.def_resolve.specs.Resolve.{resolve}
use Rattle.def_resolve.proofs.Trees.{resolve-is}
use Rattle.def_restrictions.specs.Restrictions.{restricted}
use Rattle.law_trace.proofs.Listed.{Each, each_filter, each_found}
use Rattle.law_trace.proofs.Outcomes.{EachOk, bind_ok, cond_step, option_step, unless_ok, unless_then_ok}
use Rattle.law_nest_trace.proofs.Standing.{IsOver, IsSameView, Standing, changed, changed_same, compose_says, found_number, standing_added, standing_changed, standing_dropped}

-- the catalog's views stand so
abbrev pub Stands : Catalog → Type 0
Stands c = Standing c.views c.views_made

-- so do those of the image that the session's refresh has begun with
abbrev pub Good : Session → Type 0
Good x = (b : Begun) → x.begun ≡ Some b → Stands b.image

abbrev pub Holds : State → Type 0
Holds s = Stands s.catalog × Each Good s.sessions

put : (s : State) (x : Session) → Holds s → Good x → Holds (with_session s x)
put s x h good = (h.0, (good, each_filter Good (λ y. not (y.number == x.number)) s.sessions h.1))

ended_holds : (s : State) (x : Session) → Holds s → Holds (ended s x)
ended_holds s x h = put s (record x { begun = None }) h (λ b e. absurd (none-some b e))

pub good_of : (s : State) (n : ℕ) → Holds s → Good (session_of s n)
good_of s n h = by (find (λ x. x.number == n) s.sessions) refl
  where
    by : (o : Option Session) → find (λ x. x.number == n) s.sessions ≡ o → Good (unwrap_or o (new_session n))
    by None e = λ b k. absurd (none-some b k)
    by (Some x) e = each_found Good (λ x. x.number == n) s.sessions x h.1 e

-- what an outcome leaves
abbrev Leads : Outcome → Type 0
Leads o = EachOk (λ p. Stands p.0) o

pub view_changed : (c : Catalog) (n : ℕ) (f : View → View) → ((v : View) → IsSameView v.def (f v).def) → Stands c → Stands (change_view n f c)
view_changed c n f keeps h = standing_changed (changed n f) (changed_same n f keeps) c.views c.views_made h

-- ---- views

option_ok : {A B E : Type 0} (Q : B → Type 0) (o : Option A) (none : Result B E) (some : A → Result B E) → (o ≡ None → EachOk Q none) → ((x : A) → o ≡ Some x → EachOk Q (some x)) → EachOk Q (option_case o none some)
option_ok Q None none some h k = h refl
option_ok Q (Some x) none some h k = k x refl

named_leads : (c : Catalog) (name : List ℕ) (f : View → View) → ((v : View) → IsSameView v.def (f v).def) → Stands c → Leads (change_named_view c name f)
named_leads c name f keeps h =
    bind_ok (λ (p : Catalog × ℕ). Stands p.0) (the_view c name) (λ v. unread (change_view v.def.view f c)) (λ v e. view_changed c v.def.view f keeps h)

tables_lead : (c : Catalog) (s : NewView) → Stands c → Leads (create_over_tables c s)
tables_lead c s h =
    bind_ok (λ (p : Catalog × ℕ). Stands p.0) (resolve (defs_now c) s.asked.query) (λ q. unless (fast_form_refusal c (new_view c s q)) (with_view c (new_view c s q), build_reads c (new_view c s q)))
    (λ q e. unless_ok (λ (p : Catalog × ℕ). Stands p.0) (fast_form_refusal c (new_view c s q)) (with_view c (new_view c s q), build_reads c (new_view c s q))
    (λ fit. standing_added c.views c.views_made (new_view c s q) refl (resolve-is (defs_now c) s.asked.query q e).1 (λ n e. absurd (none-some n e)) h))

-- the query that a nested definition is composed by
composed_by : (s : NewView) (v : View) (q : StarQuery) → nested_query s v ≡ Ok q → compose s.asked.query v.def ≡ Some q
composed_by s v q e = by (may_be_over s) (compose s.asked.query v.def) e
  where
    by : (b : Bool) (o : Option StarQuery) → or_refuse (cond b o None) (NotNested s.name) ≡ Ok q → o ≡ Some q
    by true (Some x) e = let same : x ≡ q = cc in ap Some same
    by true None e = cc
    by false o e = cc

over_leads : (c : Catalog) (s : NewView) (v : View) → view_beneath c s.asked.query ≡ Some v → Stands c → Leads (create_over_view c s v)
over_leads c s v found h =
    bind_ok (λ (p : Catalog × ℕ). Stands p.0) (nested_query s v) (λ q. unless (unbuilt_beneath s v) (with_view c (nested_view c s v q), 0))
    (λ q e. unless_ok (λ (p : Catalog × ℕ). Stands p.0) (unbuilt_beneath s v) (with_view c (nested_view c s v q), 0)
    (λ fit. standing_added c.views c.views_made (nested_view c s v q) refl
    (λ grouped. (compose_says s.asked.query v.def q (composed_by s v q e)).1) (over q e) h))
  where
    by_name : (o : Option (List ℕ)) → option_and_then (view_named c) o ≡ Some v → (find (λ w. w.def.view == v.def.view) c.views ≡ Some v) × (v.def.view ≤ c.views_made)
    by_name None e = cc
    by_name (Some name) e =
        (found_number (λ w. same_text w.def.name name) c.views v h.ascending e, each_found (λ w. w.def.view ≤ c.views_made) (λ w. same_text w.def.name name) c.views v h.few e)

    over : (q : StarQuery) → nested_query s v ≡ Ok q → IsOver c.views (nested_view c s v q)
    over q e n same =
        let number : v.def.view ≡ n = same_Some v.def.view n same in
        let both : (find (λ w. w.def.view == v.def.view) c.views ≡ Some v) × (v.def.view ≤ c.views_made) = by_name (lone_name s.asked.query) found in
        let first : v.def.view ≤ c.views_made = both.1 in
        record {
          beneath = v;
          found = subst (λ m. find (λ w. w.def.view == m) c.views ≡ Some v) number both.0;
          older = omega (arith, number, first);
          composed = record { asked = s.asked.query; query_is = composed_by s v q e; tables_are = refl };
        }

view_leads : (c : Catalog) (v : ViewStatement) → Stands c → Leads (view_change c v)
view_leads c (CreateView v) h =
    unless_then_ok (λ (p : Catalog × ℕ). Stands p.0)
    (first_some (where_true (has_text (names_taken c) v.name) (NameTaken v.name) ∷ where_true (nat_le max_objects (length c.views)) (TooManyObjects counted.Views) ∷ []))
    (option_case (view_beneath c v.asked.query) (create_over_tables c v) (create_over_view c v))
    (λ none. option_ok (λ (p : Catalog × ℕ). Stands p.0) (view_beneath c v.asked.query) (create_over_tables c v) (create_over_view c v)
    (λ e. tables_lead c v h) (λ w e. over_leads c v w e h))
view_leads c (AlterView v) h = named_leads c v.name (switched v.rewrite) (λ v. refl) h
view_leads c (DropView name) h =
    bind_ok (λ (p : Catalog × ℕ). Stands p.0) (the_view c name) (λ v. unless (drop_refusal c v) (without_view c v, 0))
    (λ v e. unless_ok (λ (p : Catalog × ℕ). Stands p.0) (drop_refusal c v) (without_view c v, 0) (λ free. standing_dropped c.views c.views_made v.def.view (none_mapped _ _ free) h))
  where
    none_mapped : {A B : Type 0} (f : A → B) (o : Option A) → option_map f o ≡ None → o ≡ None
    none_mapped f None e = refl
    none_mapped f (Some x) e = cc
view_leads c (Unregister name) h = named_leads c name unregistered (λ v. refl) h

-- ---- all other statements

table_leads : (c : Catalog) (t : TableStatement) → Stands c → Leads (table_change c t)
table_leads c (CreateTable t) h =
    bind_ok (λ (p : Catalog × ℕ). Stands p.0) (define_table (names_taken c) (base_now c) t) (λ base. unread (with_base c base)) (λ base e. h)
table_leads c (AlterTable t) h =
    bind_ok (λ (p : Catalog × ℕ). Stands p.0) (alter_table (kept_versions c) (base_now c) t) (λ a. Ok (altered c a.0 a.1, length a.1.renumbered)) (λ a e. h)

log_leads : (c : Catalog) (l : LogStatement) → Stands c → Leads (log_change c l)
log_leads c (CreateLog l) h =
    bind_ok (λ (p : Catalog × ℕ). Stands p.0) (the_table (base_now c) l.table)
    (λ n. unless (new_log_refusal c n (def_at (defs_now c) n) l) (record (next_scn c) { logs = c.logs ++ new_log c n (def_at (defs_now c) n) l ∷ [] }, 0))
    (λ n e. unless_ok (λ (p : Catalog × ℕ). Stands p.0) (new_log_refusal c n (def_at (defs_now c) n) l) (record (next_scn c) { logs = c.logs ++ new_log c n (def_at (defs_now c) n) l ∷ [] }, 0)
    (λ none. h))
log_leads c (DropLog name) h =
    bind_ok (λ (p : Catalog × ℕ). Stands p.0) (the_log c name) (λ l. unread (record (next_scn c) { logs = filter (λ k. not (k.table == l.table)) c.logs })) (λ l e. h)

purge_leads : (c : Catalog) (p : PurgeStatement) → Stands c → Leads (purge_change c p)
purge_leads c (PurgeLog name) h =
    bind_ok (λ (p : Catalog × ℕ). Stands p.0) (the_log c name)
    (λ l. Ok (record c { logs = change_where (λ k. k.table == l.table) (λ k. purged_log c l) c.logs }, length (log_rows c l) - length (log_rows c (purged_log c l))))
    (λ l e. h)
purge_leads c (PurgeUndo n) h =
    unless_ok (λ (p : Catalog × ℕ). Stands p.0) (where_true (int_lt (pos c.scn) n) (FutureScn n c.scn))
    (record c { oldest = max c.oldest (nat_abs n) }, kept_versions c - versions_kept_above c (max c.oldest (nat_abs n)))
    (λ none. h)

dimension_leads : (c : Catalog) (d : DimensionStatement) → Stands c → Leads (dimension_change c d)
dimension_leads c (CreateDimension d) h =
    unless_ok (λ (p : Catalog × ℕ). Stands p.0)
    (first_some (
    where_true (has_text (names_taken c) d.name) (NameTaken d.name)
    ∷ where_true (nat_le max_objects (length c.dimensions)) (TooManyObjects counted.Dimensions)
    ∷ dimension_refusal (defs_now c) d
    ∷ []))
    (record c { dimensions = c.dimensions ++ new_dimension (defs_now c) d ∷ [] }, 0)
    (λ none. h)
dimension_leads c (DropDimension name) h =
    bind_ok (λ (p : Catalog × ℕ). Stands p.0) (the_dimension c name) (λ d. unread (record c { dimensions = filter (λ e. not (same_text e.name d.name)) c.dimensions })) (λ d e. h)

-- ---- a commit

abbrev due_by : Dues → View → Method → Option Restriction → Dues
due_by d v Fast None = refresh_due d v Fast
due_by d v Fast (Some r) = suspend d v (restricted (defs_now d.catalog) r)
due_by d v Force None = refresh_due d v Fast
due_by d v Force (Some r) = refresh_due d v Complete
due_by d v Complete r = refresh_due d v Complete
due_by d v Partition r = refresh_due d v Complete

refresh_stands : (d : Dues) (v : View) (m : Method) → Stands d.catalog → Stands (refresh_due d v m).catalog
refresh_stands d v m h = view_changed d.catalog v.def.view (refreshed_to d.catalog.scn) (λ w. refl) h

by_stands : (d : Dues) (v : View) (m : Method) (o : Option Restriction) → Stands d.catalog → Stands (due_by d v m o).catalog
by_stands d v Fast None h = refresh_stands d v Fast h
by_stands d v Fast (Some r) h = view_changed d.catalog v.def.view (λ w. record w { suspended = true }) (λ w. refl) h
by_stands d v Force None h = refresh_stands d v Fast h
by_stands d v Force (Some r) h = refresh_stands d v Complete h
by_stands d v Complete o h = refresh_stands d v Complete h
by_stands d v Partition o h = refresh_stands d v Complete h

dues_stand : (d : Dues) (vs : List View) → Stands d.catalog → Stands (fold do_due d vs).catalog
dues_stand d [] h = h
dues_stand d (v ∷ vs) h = dues_stand (do_due d v) vs (by_stands d v v.def.method (restriction d.catalog v) h)

result_holds : (s : State) (r : Result Progress Stopped) → Holds s → Holds (commit_result s r).state
result_holds s (Err stopped) h = h
result_holds s (Ok p) h =
    (dues_stand (record { catalog = after_block s.catalog p; lines = []; read = 0 }) (filter (is_due p.changes) (after_block s.catalog p).views) h.0, h.1)

-- ---- a refresh

all_stand : (done : List Listed) (c : Catalog) → Stands c → Stands (all_refreshed done c)
all_stand [] c h = h
all_stand (l ∷ done) c h = all_stand done (change_view l.view.def.view (refreshed_to l.point) c) (view_changed c l.view.def.view (refreshed_to l.point) (λ w. refl) h)

abbrev into_step : State → Begun → Computed → View → Option Refusal → Step
into_step s b x now (Some code) = refused s x.read code
into_step s b x now None =
    replied (with_catalog s (change_view now.def.view (refreshed_to (new_point b.image [] now)) s.catalog))
    (reply.Refresh (record { method = x.used; scn = new_point b.image [] now; read = x.read; holds = length x.rows }))

into_holds : (s : State) (b : Begun) (x : Computed) (now : View) (o : Option Refusal) → Holds s → Holds (into_step s b x now o).state
into_holds s b x now (Some code) h = h
into_holds s b x now None h = (view_changed s.catalog now.def.view (refreshed_to (new_point b.image [] now)) (λ w. refl) h.0, h.1)

computed_holds : (s : State) (name : List ℕ) (b : Begun) (then : View) (r : Result Computed Refusal) → Holds s → Holds (install_computed s name b then r).state
computed_holds s name b then (Err code) h = h
computed_holds s name b then (Ok x) h =
    option_step Holds (view_numbered s.catalog then.def.view) (refused s x.read (NoSuchObject name)) (install_into s name b x)
    h (λ now found. into_holds s b x now (overtaken name b now) h)

one_holds : (s : State) (x : Session) (r : RefreshView) → Holds s → Holds (install_refresh s x r).state
one_holds s x r h =
    cond_step Holds (only_reads x) (refused (ended s x) 0 OnlyReading) (option_case x.begun (refused s 0 (NoSuchObject r.name)) (install_begun (ended s x) r))
    (λ reads. ended_holds s x h)
    (λ writes. option_step Holds x.begun (refused s 0 (NoSuchObject r.name)) (install_begun (ended s x) r) h
    (λ b begun. option_step Holds (begun_view b) (refused (ended s x) 0 (NoSuchObject r.name)) (λ v. install_computed (ended s x) r.name b v (computed_for b.image [] r v)) (ended_holds s x h)
    (λ v found. computed_holds (ended s x) r.name b v (computed_for b.image [] r v) (ended_holds s x h))))

views_hold : (s : State) (c : Catalog) (views : List View) (r : Result (List Listed) (ℕ × Refusal)) → Holds s → Holds (install_views s c views r).state
views_hold s c views (Err p) h = h
views_hold s c views (Ok done) h =
    option_step Holds (first_of (moved_refusal s.catalog) views) (list_installed s c views done) (refused s (reads_so_far done)) (all_stand done s.catalog h.0, h.1) (λ code e. h)

list_holds : (s : State) (x : Session) (r : RefreshView) → Holds s → Holds (install_list s x r).state
list_holds s x r h =
    cond_step Holds (only_reads x) (refused (ended s x) 0 OnlyReading) (option_case x.begun (refused s 0 (NoSuchObject r.name)) (λ b. install_over (ended s x) r b.image))
    (λ reads. ended_holds s x h)
    (λ writes. option_step Holds x.begun (refused s 0 (NoSuchObject r.name)) (λ b. install_over (ended s x) r b.image) h
    (λ b begun. option_step Holds (names_refusal b.image r) (install_views (ended s x) b.image (views_named b.image r) (computed_list b.image r)) (refused (ended s x) 0)
    (views_hold (ended s x) b.image (views_named b.image r) (computed_list b.image r) (ended_holds s x h)) (λ code e. ended_holds s x h)))

named_holds : (s : State) (x : Session) (r : RefreshView) → Holds s → Holds (install_named s x r).state
named_holds s x r h = cond_step Holds (is_empty r.more) (install_refresh s x r) (install_list s x r) (λ e. one_holds s x r h) (λ e. list_holds s x r h)

-- ---- answers

done_holds : (s : State) (o : Outcome) → Holds s → Leads o → Holds (done_or_refused s o).state
done_holds s (Ok p) h k = (k, h.1)
done_holds s (Err code) h k = h

purged_holds : (s : State) (o : Outcome) → Holds s → Leads o → Holds (purged_or_refused s o).state
purged_holds s (Ok p) h k = (k, h.1)
purged_holds s (Err code) h k = h

shown_holds : {A : Type 0} (s : State) (r : Result A Refusal) (give : A → Reply) → Holds s → Holds (shown s r give).state
shown_holds s (Ok x) give h = h
shown_holds s (Err code) give h = h

abbrev given_step : State → (StarQuery → Reply) → Result StarQuery Refusal → Step
given_step s give (Err code) = refused s 0 code
given_step s give (Ok q) = replied s (give q)

given_holds : (s : State) (give : StarQuery → Reply) (r : Result StarQuery Refusal) → Holds s → Holds (given_step s give r).state
given_holds s give (Err code) h = h
given_holds s give (Ok q) h = h

query_holds : (s : State) (c : Catalog) (a : Asked) (give : StarQuery → Reply) → Holds s → Holds (by_query s c a give).state
query_holds s c a give h = given_holds s give (star_at c a.query) h

show_holds : (s : State) (c : Catalog) (what : ShowStatement) → Holds s → Holds (show_step s c what).state
show_holds s c (ShowView name) h = shown_holds s (the_view c name) (show_view c) h
show_holds s c (ShowLog name) h = shown_holds s (the_log c name) (show_log c) h
show_holds s c (ExplainView name) h = shown_holds s (the_view c name) (explain_view c) h
show_holds s c (ValidateDimension name) h = shown_holds s (the_dimension c name) (validated c) h

-- ---- the commands

guarded : (s : State) (x : Session) (next : Step) → Holds s → Holds next.state → Holds (cond (only_reads x) (refused s 0 OnlyReading) next).state
guarded s x next h k = cond_step Holds (only_reads x) (refused s 0 OnlyReading) next (λ reads. h) (λ writes. k)

setting_holds : (s : State) (x : Session) (setting : SessionStatement) → Holds s → Good x → Holds (other_step s x (about.Session setting)).state
setting_holds s x (SetLevel level) h good = put s (record x { level = level }) h good
setting_holds s x (SetRewrite on) h good = put s (record x { rewrite = on }) h good
setting_holds s x EndReadOnly h good = put s (record x { reading = None }) h good
setting_holds s x ReadOnly h good = guarded s x (session_done s (record x { reading = Some s.catalog })) h (put s (record x { reading = Some s.catalog }) h good)

begin_holds : (s : State) (x : Session) (r : RefreshView) → Holds s → Holds (begin_refresh s x r)
begin_holds s x r h =
    let v : Option View = view_named s.catalog r.name in
    let b : Begun = record { view = option_map (λ w. w.def.view) v; point = option_and_then (λ w. w.point) v; image = s.catalog } in
    put s (record x { begun = Some b }) h (λ d e. subst (λ (f : Begun). Stands f.image) (same_Some b d e) h.0)

other_holds : (s : State) (x : Session) (statement : Statement) → Holds s → Good x → Holds (other_step s x statement).state
other_holds s x (about.Select a) h good = given_holds s _ (star_at (image_of s x) a.query) h
other_holds s x (about.ExplainQuery a) h good = given_holds s _ (star_at (image_of s x) a.query) h
other_holds s x (about.Show what) h good = show_holds s (image_of s x) what h
other_holds s x (about.Session setting) h good = setting_holds s x setting h good
other_holds s x (about.Table t) h good = guarded s x (done_or_refused s (table_change s.catalog t)) h (done_holds s (table_change s.catalog t) h (table_leads s.catalog t h.0))
other_holds s x (about.Log l) h good = guarded s x (done_or_refused s (log_change s.catalog l)) h (done_holds s (log_change s.catalog l) h (log_leads s.catalog l h.0))
other_holds s x (about.View v) h good = guarded s x (done_or_refused s (view_change s.catalog v)) h (done_holds s (view_change s.catalog v) h (view_leads s.catalog v h.0))
other_holds s x (about.Dimension d) h good = guarded s x (done_or_refused s (dimension_change s.catalog d)) h (done_holds s (dimension_change s.catalog d) h (dimension_leads s.catalog d h.0))
other_holds s x (about.Purge p) h good = guarded s x (purged_or_refused s (purge_change s.catalog p)) h (purged_holds s (purge_change s.catalog p) h (purge_leads s.catalog p h.0))
other_holds s x (about.Refresh r) h good = guarded s x (record { state = s; reply = None }) h h
other_holds s x (about.Change c) h good = guarded s x (record { state = s; reply = None }) h h

statement_holds : (s : State) (x : Session) (part : ℕ) (statement : Statement) → Holds s → Good x → Holds (statement_step s x part statement).state
statement_holds s x part (about.Refresh r) h good =
    cond_step Holds (part == 1) (record { state = begin_refresh s x r; reply = None }) (install_named s x r) (λ e. begin_holds s x r h) (λ e. named_holds s x r h)
statement_holds s x part statement h good = other_holds s x statement h good

submitted_holds : (s : State) (x : Session) → Holds s → Holds (submitted s x).state
submitted_holds s x h = guarded s x (replied s reply.Submit) h h

submit_holds : (s : State) (x : Session) (part : ℕ) (statement : Statement) → Holds s → Holds (submit_step s x part statement).state
submit_holds s x part (about.Refresh r) h =
    cond_step Holds (part == 1) (submitted s x) (cond (part == 2) (record { state = begin_refresh s x r; reply = None }) (install_named s x r)) (λ e. submitted_holds s x h)
    (λ e. cond_step Holds (part == 2) (record { state = begin_refresh s x r; reply = None }) (install_named s x r) (λ k. begin_holds s x r h) (λ k. named_holds s x r h))
submit_holds s x part statement h = submitted_holds s x h

step_holds : (s : State) (n : ℕ) (command : Command) (part : ℕ) → Holds s → Holds (step s n command part).state
step_holds s n (commands.Block b) part h =
    guarded s (session_of s n) (commit_result s (effect (base_now s.catalog) (kept_versions s.catalog) b.statements)) h
    (result_holds s (effect (base_now s.catalog) (kept_versions s.catalog) b.statements) h)
step_holds s n (commands.Other statement) part h = statement_holds s (session_of s n) part statement h (good_of s n h)
step_holds s n (commands.Submit statement) part h = submit_holds s (session_of s n) part statement h

events_hold : (s : State) (events : List Event) → Holds s → Holds (fold state_after s events)
events_hold s [] h = h
events_hold s (e ∷ events) h = events_hold (state_after s e) events (step_holds s _ e.command e.entry.part h)

-- after every trace the views stand so
pub trace_stands : (trace : List Event) → Holds (state_of trace)
trace_stands trace = events_hold empty_state trace (record { ascending = tt; few = tt; grouped = tt; over = tt }, tt)
