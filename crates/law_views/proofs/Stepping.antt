-- What each event makes of how many views were made, with the command that made one, and of what sessions have set.
use Rattle.std.proofs.Common.{◌≡◌, ◌∙◌, sym, ap, refl, subst, ℕ, Bool, true, false, true≢false, not, cond, List, [], ◌∷◌, ◌++◌, length, Option, None, Some, nat_le, ◌==◌}
use Rattle.std.specs.List.{filter}
use Rattle.std.proofs.lemmas.Bool.{eqb-true}
use Rattle.std.specs.Prelude.{Err, Ok, Result, int_lt, max, nat_abs, pos, ◌-◌}
use Rattle.wh_base.specs.Lists.{change_where, first_of, first_some, has_text, is_empty, option_case, same_text, unless, where_true}
use Rattle.wh_base.specs.Parts.{entry_bearer}
use Rattle.wh_base.specs.Tables.{def_at}
use Rattle.wh_base.specs.declared.queries.StarQuery.{StarQuery}
use Rattle.wh_base.specs.declared.replies.Counted.TheVariants as counted
use Rattle.wh_base.specs.declared.replies.Refusal.{Refusal}
use Rattle.wh_base.specs.declared.replies.Refusal.TheVariants.{FutureScn, NameTaken, NoSuchObject, OnlyReading, TooManyObjects}
use Rattle.wh_base.specs.declared.replies.Reply.{Reply}
use Rattle.wh_base.specs.declared.statements.Asked.{Asked}
use Rattle.wh_base.specs.declared.statements.Block.{Block}
use Rattle.wh_base.specs.declared.statements.Command.{Command}
use Rattle.wh_base.specs.declared.statements.Command.TheVariants as commands
use Rattle.wh_base.specs.declared.statements.DimensionStatement.{DimensionStatement}
use Rattle.wh_base.specs.declared.statements.DimensionStatement.TheVariants.{CreateDimension, DropDimension}
use Rattle.wh_base.specs.declared.statements.Event.{Event}
use Rattle.wh_base.specs.declared.statements.LogStatement.{LogStatement}
use Rattle.wh_base.specs.declared.statements.LogStatement.TheVariants.{CreateLog, DropLog}
use Rattle.wh_base.specs.declared.statements.NewView.{NewView}
use Rattle.wh_base.specs.declared.statements.PurgeStatement.{PurgeStatement}
use Rattle.wh_base.specs.declared.statements.PurgeStatement.TheVariants.{PurgeLog, PurgeUndo}
use Rattle.wh_base.specs.declared.statements.RefreshView.{RefreshView}
use Rattle.wh_base.specs.declared.statements.SessionStatement.{SessionStatement}
use Rattle.wh_base.specs.declared.statements.SessionStatement.TheVariants.{EndReadOnly, ReadOnly, SetLevel, SetRewrite}
use Rattle.wh_base.specs.declared.statements.ShowStatement.{ShowStatement}
use Rattle.wh_base.specs.declared.statements.ShowStatement.TheVariants.{ExplainView, ShowLog, ShowView, ValidateDimension}
use Rattle.wh_base.specs.declared.statements.Statement.{Statement}
use Rattle.wh_base.specs.declared.statements.Statement.TheVariants as about
use Rattle.wh_base.specs.declared.statements.TableStatement.{TableStatement}
use Rattle.wh_base.specs.declared.statements.TableStatement.TheVariants.{AlterTable, CreateTable}
use Rattle.wh_base.specs.declared.statements.ViewStatement.{ViewStatement}
use Rattle.wh_base.specs.declared.statements.ViewStatement.TheVariants.{AlterView, CreateView, DropView, Unregister}
use Rattle.wh_base.specs.declared.replies.Reply.TheVariants as reply
use Rattle.def_choice.specs.Choice.{class_is_built}
use Rattle.def_dimensions.specs.Dimensions.{dimension_refusal, new_dimension}
use Rattle.def_effect.specs.Block.{Progress, Stopped, effect, the_table}
use Rattle.def_effect.specs.Define.{define_refusal, defined, max_objects}
use Rattle.def_effect.specs.Partitions.{alter_table}
use Rattle.def_history.specs.Catalog.{Catalog, View, base_now, defs_now, names_taken, view_numbered}
use Rattle.def_history.specs.History.{kept_versions, versions_kept_above}
use Rattle.def_history.specs.Logs.{log_rows, purged_log}
use Rattle.def_journal.specs.Answers.{answer, by_query, explained, star_at}
use Rattle.def_journal.specs.Committing.{after_block, commit, commit_result, do_dues}
use Rattle.def_journal.specs.Explaining.{explain_view, show_log, show_view, shown, the_dimension, the_log, the_view, validated}
use Rattle.def_journal.specs.Journal.{state_after}
use Rattle.def_journal.specs.Listing.{all_refreshed, computed_list, install_list, install_named, install_over, install_views, list_installed, moved_refusal, names_refusal, reads_so_far, views_named}
use Rattle.def_journal.specs.Nesting.{drop_refusal, nested_query, unbuilt_beneath, view_beneath}
use Rattle.def_journal.specs.Refreshing.{Computed, Listed, begin_refresh, begun_view, change_view, computed_for, ended, install_begun, install_computed, install_into, install_refresh, new_point, overtaken, refreshed_to}
use Rattle.def_journal.specs.State.{Begun, Session, State, Step, done_or_refused, image_of, next_scn, only_reads, refused, replied, session_of, with_base, with_catalog, with_session}
use Rattle.def_journal.specs.Statements.{Outcome, altered, build_reads, change_named_view, create_over_tables, create_over_view, fast_form_refusal, nested_view, new_log, new_log_refusal, new_view, purged_or_refused, switched, unread, unregistered, with_view, without_view}
use Rattle.def_journal.specs.Steps.{dimension_change, log_change, other_step, purge_change, session_done, show_step, statement_step, step, submit_step, submitted, table_change, view_change}
use Rattle.def_resolve.specs.Resolve.{resolve}
use Rattle.law_trace.proofs.Due.{dues_keep}
use Rattle.law_trace.proofs.Moves.{MakesView, Over, Plain, own}
use Rattle.law_trace.proofs.Outcomes.{EachOk, bind_ok, cond_step, option_step, unless_bind, unless_ok, unless_then_ok}
use Rattle.law_trace.proofs.Seated.{own_number, put_other, put_own}
use Rattle.law_views.specs.Laws.{is_setting}

-- no view is made, or this one by this command
pub data Shows (s : State) (x : Event) (d : Catalog) : Type 0 where
  Leaves : d.views_made ≡ s.catalog.views_made → Shows s x d
  Makes : (v : NewView) (w : View) → x.command ≡ commands.Other (about.View (CreateView v)) → MakesView s.catalog v w → d ≡ with_view s.catalog w → Shows s x d

-- a session with the same settings and the same image
pub record SameSettings (x y : Session) : Type 0 where
  pub level : y.level ≡ x.level
  pub rewrite : y.rewrite ≡ x.rewrite
  pub reading : y.reading ≡ x.reading

-- the state that the event leaves
pub record Seen (s : State) (x : Event) (next : State) : Type 0 where
  pub views : Shows s x next.catalog
  pub settings : is_setting x ≡ false → (n : ℕ) → SameSettings (session_of s n) (session_of next n)

same_settings : (x : Session) → SameSettings x x
same_settings x = record { level = refl; rewrite = refl; reading = refl }

leaves : (s : State) (x : Event) (d : Catalog) → Shows s x d → Seen s x (with_catalog s d)
leaves s x d views = record { views = views; settings = λ other n. same_settings (session_of s n) }

stays : (s : State) (x : Event) → Seen s x s
stays s x = record { views = Leaves refl; settings = λ other n. same_settings (session_of s n) }

-- the event's own session put as y
puts : (s : State) (x : Event) (y : Session) (d : Catalog) → y.number ≡ (own s x).number → (is_setting x ≡ false → SameSettings (own s x) y) → Shows s x d
    → Seen s x (with_catalog (with_session s y) d)
puts s x y d same settings views = record { views = views; settings = λ other n. by other n (entry_bearer x.entry == n) refl }
  where
    number : y.number ≡ entry_bearer x.entry
    number = same ∙ own_number s (entry_bearer x.entry)

    by : is_setting x ≡ false → (n : ℕ) (b : Bool) → (entry_bearer x.entry == n) ≡ b → SameSettings (session_of s n) (session_of (with_session s y) n)
    by other n true e =
        let is : entry_bearer x.entry ≡ n = eqb-true (entry_bearer x.entry) n e in
        subst (SameSettings (session_of s n)) (sym (put_own s y n (number ∙ is))) (subst (λ m. SameSettings (session_of s m) y) is (settings other))
    by other n false e = subst (SameSettings (session_of s n)) (sym (put_other s y n (ap (λ m. m == n) number ∙ e))) (same_settings (session_of s n))

-- ---- the catalog of an outcome

abbrev Left : State → Event → Catalog × ℕ → Type 0
Left s x p = Shows s x p.0

abbrev Leads : State → Event → Outcome → Type 0
Leads s x o = EachOk (Left s x) o

table_leads : (s : State) (x : Event) (t : TableStatement) → Leads s x (table_change s.catalog t)
table_leads s x (CreateTable t) =
    let c : Catalog = s.catalog in
    unless_bind (Left s x) (define_refusal (names_taken c) (defs_now c) t) (base_now c ++ defined (defs_now c) t ∷ []) (λ base. unread (with_base c base)) (λ none. Leaves refl)
table_leads s x (AlterTable t) =
    let c : Catalog = s.catalog in
    bind_ok (Left s x) (alter_table (kept_versions c) (base_now c) t) (λ a. Ok (altered c a.0 a.1, length a.1.renumbered)) (λ a same. Leaves refl)

log_leads : (s : State) (x : Event) (l : LogStatement) → Leads s x (log_change s.catalog l)
log_leads s x (CreateLog l) =
    let c : Catalog = s.catalog in
    bind_ok (Left s x) (the_table (base_now c) l.table)
    (λ n. unless (new_log_refusal c n (def_at (defs_now c) n) l) (record (next_scn c) { logs = c.logs ++ new_log c n (def_at (defs_now c) n) l ∷ [] }, 0))
    (λ n e. unless_ok (Left s x) (new_log_refusal c n (def_at (defs_now c) n) l) (record (next_scn c) { logs = c.logs ++ new_log c n (def_at (defs_now c) n) l ∷ [] }, 0)
    (λ none. Leaves refl))
log_leads s x (DropLog name) =
    let c : Catalog = s.catalog in
    bind_ok (Left s x) (the_log c name) (λ l. unread (record (next_scn c) { logs = filter (λ k. not (k.table == l.table)) c.logs })) (λ l e. Leaves refl)

purge_leads : (s : State) (x : Event) (p : PurgeStatement) → Leads s x (purge_change s.catalog p)
purge_leads s x (PurgeLog name) =
    let c : Catalog = s.catalog in
    bind_ok (Left s x) (the_log c name)
    (λ l. Ok (record c { logs = change_where (λ k. k.table == l.table) (λ k. purged_log c l) c.logs }, length (log_rows c l) - length (log_rows c (purged_log c l))))
    (λ l e. Leaves refl)
purge_leads s x (PurgeUndo n) =
    let c : Catalog = s.catalog in
    unless_ok (Left s x) (where_true (int_lt (pos c.scn) n) (FutureScn n c.scn))
    (record c { oldest = max c.oldest (nat_abs n) }, kept_versions c - versions_kept_above c (max c.oldest (nat_abs n))) (λ none. Leaves refl)

named_leads : (s : State) (x : Event) (name : List ℕ) (f : View → View) → Leads s x (change_named_view s.catalog name f)
named_leads s x name f = bind_ok (Left s x) (the_view s.catalog name) (λ v. unread (change_view v.def.view f s.catalog)) (λ v e. Leaves refl)

-- the view as a CREATE makes it over tables, once its query is resolved, and over a view
abbrev over_tables : Catalog → NewView → StarQuery → Outcome
over_tables c v q = unless (fast_form_refusal c (new_view c v q)) (with_view c (new_view c v q), build_reads c (new_view c v q))

abbrev over_view : Catalog → NewView → View → StarQuery → Outcome
over_view c v u q = unless (unbuilt_beneath v u) (with_view c (nested_view c v u q), 0)

made_leads : (s : State) (x : Event) (v : NewView) → x.command ≡ commands.Other (about.View (CreateView v)) → (o : Option View) → view_beneath s.catalog v.asked.query ≡ o
    → Leads s x (option_case o (create_over_tables s.catalog v) (create_over_view s.catalog v))
made_leads s x v is None beneath =
    let c : Catalog = s.catalog in
    bind_ok (Left s x) (resolve (defs_now c) v.asked.query) (λ q. over_tables c v q)
    (λ q e. unless_ok (Left s x) (fast_form_refusal c (new_view c v q)) (with_view c (new_view c v q), build_reads c (new_view c v q))
    (λ fit. Makes v (new_view c v q) is (Plain q e refl) refl))
made_leads s x v is (Some u) beneath =
    let c : Catalog = s.catalog in
    bind_ok (Left s x) (nested_query v u) (λ q. over_view c v u q)
    (λ q e. unless_ok (Left s x) (unbuilt_beneath v u) (with_view c (nested_view c v u q), 0)
    (λ built. Makes v (nested_view c v u q) is (Over u q beneath e built refl) refl))

view_leads : (s : State) (x : Event) (v : ViewStatement) → x.command ≡ commands.Other (about.View v) → Leads s x (view_change s.catalog v)
view_leads s x (CreateView v) is =
    let c : Catalog = s.catalog in
    unless_then_ok (Left s x)
    (first_some (where_true (has_text (names_taken c) v.name) (NameTaken v.name) ∷ where_true (nat_le max_objects (length c.views)) (TooManyObjects counted.Views) ∷ []))
    (option_case (view_beneath c v.asked.query) (create_over_tables c v) (create_over_view c v))
    (λ none. made_leads s x v is (view_beneath c v.asked.query) refl)
view_leads s x (AlterView v) is = named_leads s x v.name (switched v.rewrite)
view_leads s x (DropView name) is =
    let c : Catalog = s.catalog in
    bind_ok (Left s x) (the_view c name) (λ v. unless (drop_refusal c v) (without_view c v, 0)) (λ v e. unless_ok (Left s x) (drop_refusal c v) (without_view c v, 0) (λ free. Leaves refl))
view_leads s x (Unregister name) is = named_leads s x name unregistered

dimension_leads : (s : State) (x : Event) (d : DimensionStatement) → Leads s x (dimension_change s.catalog d)
dimension_leads s x (CreateDimension d) =
    let c : Catalog = s.catalog in
    unless_ok (Left s x)
    (first_some (
    where_true (has_text (names_taken c) d.name) (NameTaken d.name)
    ∷ where_true (nat_le max_objects (length c.dimensions)) (TooManyObjects counted.Dimensions)
    ∷ dimension_refusal (defs_now c) d
    ∷ []))
    (record c { dimensions = c.dimensions ++ new_dimension (defs_now c) d ∷ [] }, 0)
    (λ none. Leaves refl)
dimension_leads s x (DropDimension name) =
    let c : Catalog = s.catalog in
    bind_ok (Left s x) (the_dimension c name) (λ d. unread (record c { dimensions = filter (λ e. not (same_text e.name d.name)) c.dimensions })) (λ d e. Leaves refl)

-- ---- what is answered leaves the state

done_seen : (s : State) (x : Event) (o : Outcome) → Leads s x o → Seen s x (done_or_refused s o).state
done_seen s x (Ok p) h = leaves s x p.0 h
done_seen s x (Err code) h = stays s x

purged_seen : (s : State) (x : Event) (o : Outcome) → Leads s x o → Seen s x (purged_or_refused s o).state
purged_seen s x (Ok p) h = leaves s x p.0 h
purged_seen s x (Err code) h = stays s x

shown_seen : {A : Type 0} (s : State) (x : Event) (r : Result A Refusal) (give : A → Reply) → Seen s x (shown s r give).state
shown_seen s x (Ok y) give = stays s x
shown_seen s x (Err code) give = stays s x

abbrev given_step : State → (StarQuery → Reply) → Result StarQuery Refusal → Step
given_step s give (Err code) = refused s 0 code
given_step s give (Ok q) = replied s (give q)

given_seen : (s : State) (x : Event) (give : StarQuery → Reply) (r : Result StarQuery Refusal) → Seen s x (given_step s give r).state
given_seen s x give (Err code) = stays s x
given_seen s x give (Ok q) = stays s x

query_seen : (s : State) (x : Event) (c : Catalog) (a : Asked) (give : StarQuery → Reply) → Seen s x (by_query s c a give).state
query_seen s x c a give = given_seen s x give (star_at c a.query)

show_seen : (s : State) (x : Event) (c : Catalog) (what : ShowStatement) → Seen s x (show_step s c what).state
show_seen s x c (ShowView name) = shown_seen s x (the_view c name) (show_view c)
show_seen s x c (ShowLog name) = shown_seen s x (the_log c name) (show_log c)
show_seen s x c (ExplainView name) = shown_seen s x (the_view c name) (explain_view c)
show_seen s x c (ValidateDimension name) = shown_seen s x (the_dimension c name) (validated c)

-- ---- a refresh

-- the session without what it had begun
abbrev ended_session : State → Event → Session
ended_session s x = record (own s x) { begun = None }

ends_as : (s : State) (x : Event) (d : Catalog) → d.views_made ≡ s.catalog.views_made → Seen s x (with_catalog (ended s (own s x)) d)
ends_as s x d made = puts s x (ended_session s x) d refl (λ other. record { level = refl; rewrite = refl; reading = refl }) (Leaves made)

ended_seen : (s : State) (x : Event) → Seen s x (ended s (own s x))
ended_seen s x = ends_as s x s.catalog refl

abbrev into_step : State → Begun → Computed → View → Option Refusal → Step
into_step s b y now (Some code) = refused s y.read code
into_step s b y now None =
    replied (with_catalog s (change_view now.def.view (refreshed_to (new_point b.image [] now)) s.catalog))
    (reply.Refresh (record { method = y.used; scn = new_point b.image [] now; read = y.read; holds = length y.rows }))

into_seen : (s : State) (x : Event) (b : Begun) (y : Computed) (now : View) (o : Option Refusal) → Seen s x (into_step (ended s (own s x)) b y now o).state
into_seen s x b y now (Some code) = ended_seen s x
into_seen s x b y now None = ends_as s x (change_view now.def.view (refreshed_to (new_point b.image [] now)) s.catalog) refl

computed_seen : (s : State) (x : Event) (b : Begun) (name : List ℕ) (then : View) (r : Result Computed Refusal) → Seen s x (install_computed (ended s (own s x)) name b then r).state
computed_seen s x b name then (Err code) = ended_seen s x
computed_seen s x b name then (Ok y) =
    option_step (Seen s x) (view_numbered s.catalog then.def.view) (refused (ended s (own s x)) y.read (NoSuchObject name)) (install_into (ended s (own s x)) name b y)
    (ended_seen s x) (λ now is. into_seen s x b y now (overtaken name b now))

begun_seen : (s : State) (x : Event) (b : Begun) (r : RefreshView) → Seen s x (install_begun (ended s (own s x)) r b).state
begun_seen s x b r =
    option_step (Seen s x) (begun_view b) (refused (ended s (own s x)) 0 (NoSuchObject r.name)) (λ v. install_computed (ended s (own s x)) r.name b v (computed_for b.image [] r v))
    (ended_seen s x) (λ v was. computed_seen s x b r.name v (computed_for b.image [] r v))

all_made : (done : List Listed) (c : Catalog) → (all_refreshed done c).views_made ≡ c.views_made
all_made [] c = refl
all_made (l ∷ done) c = all_made done (change_view l.view.def.view (refreshed_to l.point) c)

views_seen : (s : State) (x : Event) (image : Catalog) (views : List View) (r : Result (List Listed) (ℕ × Refusal)) → Seen s x (install_views (ended s (own s x)) image views r).state
views_seen s x image views (Err p) = ended_seen s x
views_seen s x image views (Ok done) = by (first_of (moved_refusal s.catalog) views)
  where
    by : (o : Option Refusal) → Seen s x (option_case o (list_installed (ended s (own s x)) image views done) (refused (ended s (own s x)) (reads_so_far done))).state
    by (Some code) = ended_seen s x
    by None = ends_as s x (all_refreshed done s.catalog) (all_made done s.catalog)

over_seen : (s : State) (x : Event) (image : Catalog) (r : RefreshView) → Seen s x (install_over (ended s (own s x)) r image).state
over_seen s x image r = by (names_refusal image r)
  where
    by : (o : Option Refusal) → Seen s x (option_case o (install_views (ended s (own s x)) image (views_named image r) (computed_list image r)) (refused (ended s (own s x)) 0)).state
    by (Some code) = ended_seen s x
    by None = views_seen s x image (views_named image r) (computed_list image r)

-- an install over what was begun, or its refusal
install_seen : (s : State) (x : Event) (r : RefreshView) (over : Begun → Step) → ((b : Begun) → Seen s x (over b).state)
    → Seen s x (cond (only_reads (own s x)) (refused (ended s (own s x)) 0 OnlyReading) (option_case (own s x).begun (refused s 0 (NoSuchObject r.name)) over)).state
install_seen s x r over h =
    cond_step (Seen s x) (only_reads (own s x)) (refused (ended s (own s x)) 0 OnlyReading) (option_case (own s x).begun (refused s 0 (NoSuchObject r.name)) over)
    (λ reads. ended_seen s x)
    (λ writes. option_step (Seen s x) (own s x).begun (refused s 0 (NoSuchObject r.name)) over (stays s x) (λ b begun. h b))

named_seen : (s : State) (x : Event) (r : RefreshView) → Seen s x (install_named s (own s x) r).state
named_seen s x r =
    cond_step (Seen s x) (is_empty r.more) (install_refresh s (own s x) r) (install_list s (own s x) r)
    (λ one. install_seen s x r (install_begun (ended s (own s x)) r) (λ b. begun_seen s x b r))
    (λ many. install_seen s x r (λ b. install_over (ended s (own s x)) r b.image) (λ b. over_seen s x b.image r))

begin_seen : (s : State) (x : Event) (r : RefreshView) → Seen s x (begin_refresh s (own s x) r)
begin_seen s x r = puts s x _ s.catalog refl (λ other. record { level = refl; rewrite = refl; reading = refl }) (Leaves refl)

-- ---- the commands

-- what a READ ONLY transaction refuses
guarded : (s : State) (x : Event) (next : Step) → Seen s x next.state → Seen s x (cond (only_reads (own s x)) (refused s 0 OnlyReading) next).state
guarded s x next h = cond_step (Seen s x) (only_reads (own s x)) (refused s 0 OnlyReading) next (λ reads. stays s x) (λ writes. h)

-- such a command is a setting
sets : (x : Event) (setting : SessionStatement) {P : Type 0} → x.command ≡ commands.Other (about.Session setting) → is_setting x ≡ false → P
sets x setting is other = absurd (true≢false (sym (ap (λ c. is_setting (record { entry = x.entry; command = c })) is) ∙ other))

setting_seen : (s : State) (x : Event) (setting : SessionStatement) → x.command ≡ commands.Other (about.Session setting) → Seen s x (other_step s (own s x) (about.Session setting)).state
setting_seen s x (SetLevel level) is = puts s x (record (own s x) { level = level }) s.catalog refl (sets x (SetLevel level) is) (Leaves refl)
setting_seen s x (SetRewrite on) is = puts s x (record (own s x) { rewrite = on }) s.catalog refl (sets x (SetRewrite on) is) (Leaves refl)
setting_seen s x EndReadOnly is = puts s x (record (own s x) { reading = None }) s.catalog refl (sets x EndReadOnly is) (Leaves refl)
setting_seen s x ReadOnly is =
    guarded s x (session_done s (record (own s x) { reading = Some s.catalog }))
    (puts s x (record (own s x) { reading = Some s.catalog }) s.catalog refl (sets x ReadOnly is) (Leaves refl))

other_seen : (s : State) (x : Event) (statement : Statement) → x.command ≡ commands.Other statement → Seen s x (other_step s (own s x) statement).state
other_seen s x (about.Select a) is = query_seen s x (image_of s (own s x)) a (answer class_is_built (image_of s (own s x)) (own s x) a)
other_seen s x (about.ExplainQuery a) is = query_seen s x (image_of s (own s x)) a (explained class_is_built (image_of s (own s x)) (own s x) a)
other_seen s x (about.Show what) is = show_seen s x (image_of s (own s x)) what
other_seen s x (about.Session setting) is = setting_seen s x setting is
other_seen s x (about.Table t) is = guarded s x (done_or_refused s (table_change s.catalog t)) (done_seen s x (table_change s.catalog t) (table_leads s x t))
other_seen s x (about.Log l) is = guarded s x (done_or_refused s (log_change s.catalog l)) (done_seen s x (log_change s.catalog l) (log_leads s x l))
other_seen s x (about.View v) is = guarded s x (done_or_refused s (view_change s.catalog v)) (done_seen s x (view_change s.catalog v) (view_leads s x v is))
other_seen s x (about.Dimension d) is = guarded s x (done_or_refused s (dimension_change s.catalog d)) (done_seen s x (dimension_change s.catalog d) (dimension_leads s x d))
other_seen s x (about.Purge p) is = guarded s x (purged_or_refused s (purge_change s.catalog p)) (purged_seen s x (purge_change s.catalog p) (purge_leads s x p))
other_seen s x (about.Refresh r) is = guarded s x (record { state = s; reply = None }) (stays s x)
other_seen s x (about.Change c) is = guarded s x (record { state = s; reply = None }) (stays s x)

statement_seen : (s : State) (x : Event) (statement : Statement) → x.command ≡ commands.Other statement → Seen s x (statement_step s (own s x) x.entry.part statement).state
statement_seen s x (about.Refresh r) is =
    cond_step (Seen s x) (x.entry.part == 1) (record { state = begin_refresh s (own s x) r; reply = None }) (install_named s (own s x) r)
    (λ part. begin_seen s x r) (λ part. named_seen s x r)
statement_seen s x statement is = other_seen s x statement is

-- a commit and the refreshes at it make no view
dues_made : (c : Catalog) (p : Progress) → (do_dues (after_block c p) p.changes).catalog.views_made ≡ c.views_made
dues_made c p = dues_keep (λ d. d.views_made ≡ c.views_made) (record { suspends = λ d n h. h; refreshes = λ d n h. h }) (after_block c p) p.changes refl

commit_seen : (s : State) (x : Event) (b : Block) → Seen s x (commit s (own s x) b).state
commit_seen s x b =
    guarded s x (commit_result s (effect (base_now s.catalog) (kept_versions s.catalog) b.statements)) (by (effect (base_now s.catalog) (kept_versions s.catalog) b.statements))
  where
    by : (r : Result Progress Stopped) → Seen s x (commit_result s r).state
    by (Err stopped) = stays s x
    by (Ok p) = leaves s x _ (Leaves (dues_made s.catalog p))

submitted_seen : (s : State) (x : Event) → Seen s x (submitted s (own s x)).state
submitted_seen s x = guarded s x (replied s reply.Submit) (stays s x)

submit_seen : (s : State) (x : Event) (statement : Statement) → Seen s x (submit_step s (own s x) x.entry.part statement).state
submit_seen s x (about.Refresh r) =
    cond_step (Seen s x) (x.entry.part == 1) (submitted s (own s x)) (cond (x.entry.part == 2) (record { state = begin_refresh s (own s x) r; reply = None }) (install_named s (own s x) r))
    (λ first. submitted_seen s x)
    (λ later. cond_step (Seen s x) (x.entry.part == 2) (record { state = begin_refresh s (own s x) r; reply = None }) (install_named s (own s x) r)
    (λ part. begin_seen s x r) (λ part. named_seen s x r))
submit_seen s x statement = submitted_seen s x

command_seen : (s : State) (x : Event) (command : Command) → x.command ≡ command → Seen s x (step s (entry_bearer x.entry) command x.entry.part).state
command_seen s x (commands.Block b) is = commit_seen s x b
command_seen s x (commands.Other statement) is = statement_seen s x statement is
command_seen s x (commands.Submit statement) is = submit_seen s x statement

-- what each event leaves
pub seen : (s : State) (x : Event) → Seen s x (state_after s x)
seen s x = command_seen s x x.command refl
