-- Every event leaves one of the cases of Moves.
use Rattle.std.proofs.Common.{inl, inr, suc, zero, map, ◌∙◌, arith, ap, subst, sym, ◌≡◌, ◌<◌, ◌≤◌, refl, ℕ, ℤ, Bool, true, false, true≢false, not, cond, List, [], ◌∷◌, ◌++◌, length, Option, None, Some, nat_le, nat_lt, ◌==◌}
use Rattle.std.proofs.lemmas.Option.{none-some, same_Some}
use Rattle.std.specs.List.{filter, filter_map, find, cons_option, position_or_len}
use Rattle.std.specs.Prelude.{option_map, option_and_then, unwrap_or, codes, Err, Ok, Result, position, int_lt, max, nat_abs, negsuc, pos, ◌-◌}
use Rattle.std.proofs.lemmas.Bool.{eqb-true, ltb-false, ltb-true}
use Rattle.std.proofs.lemmas.List.{length-map}
use Rattle.law_trace.proofs.Listed.{Each, each_append, each_filter, each_found, each_map, each_two, each_weaker, find_has}
use Rattle.wh_base.specs.Lists.{change_where, first_of, first_some, has_text, head, is_empty, option_case, option_nat_same, or_refuse, same_text, unless, where_true, ◌>>=◌}
use Rattle.wh_base.specs.Parts.{entry_bearer}
use Rattle.wh_base.specs.Tables.{Base, Table, def_at, defs_of, table_at, table_number}
use Rattle.wh_base.specs.declared.queries.StarQuery.{StarQuery}
use Rattle.wh_base.specs.declared.replies.Counted.TheVariants as counted
use Rattle.wh_base.specs.declared.replies.Refusal.{Refusal}
use Rattle.wh_base.specs.declared.replies.Refusal.TheVariants.{FutureScn, LastPartition, NameTaken, NoLog, NoSuchObject, OnlyReading, Overtaken, PartitionBound, StillUsed, TooManyObjects}
use Rattle.wh_base.specs.declared.replies.Reply.{Reply}
use Rattle.wh_base.specs.declared.statements.Asked.{Asked}
use Rattle.wh_base.specs.declared.statements.Block.{Block}
use Rattle.wh_base.specs.declared.statements.Command.{Command}
use Rattle.wh_base.specs.declared.statements.DimensionStatement.{DimensionStatement}
use Rattle.wh_base.specs.declared.statements.DimensionStatement.TheVariants.{CreateDimension, DropDimension}
use Rattle.wh_base.specs.declared.statements.Event.{Event}
use Rattle.wh_base.specs.declared.statements.LogStatement.{LogStatement}
use Rattle.wh_base.specs.declared.statements.LogStatement.TheVariants.{CreateLog, DropLog}
use Rattle.wh_base.specs.declared.statements.NewView.{NewView}
use Rattle.wh_base.specs.declared.statements.PartChange.{PartChange}
use Rattle.wh_base.specs.declared.statements.PartChange.TheVariants.{Add, DropPart, Merge, Movement, Split, Truncate}
use Rattle.wh_base.specs.declared.statements.PurgeStatement.{PurgeStatement}
use Rattle.wh_base.specs.declared.statements.PurgeStatement.TheVariants.{PurgeLog, PurgeUndo}
use Rattle.wh_base.specs.declared.statements.RefreshView.{RefreshView}
use Rattle.wh_base.specs.declared.statements.SessionStatement.{SessionStatement}
use Rattle.wh_base.specs.declared.statements.SessionStatement.TheVariants.{EndReadOnly, ReadOnly, SetLevel, SetRewrite}
use Rattle.wh_base.specs.declared.statements.ShowStatement.{ShowStatement}
use Rattle.wh_base.specs.declared.statements.ShowStatement.TheVariants.{ExplainView, ShowLog, ShowView, ValidateDimension}
use Rattle.wh_base.specs.declared.statements.Statement.{Statement}
use Rattle.wh_base.specs.declared.statements.TableStatement.{TableStatement}
use Rattle.wh_base.specs.declared.statements.TableStatement.TheVariants.{AlterTable, CreateTable}
use Rattle.wh_base.specs.declared.statements.ViewStatement.{ViewStatement}
use Rattle.wh_base.specs.declared.statements.ViewStatement.TheVariants.{AlterView, CreateView, DropView, Unregister}
use Rattle.wh_base.specs.declared.statements.Command.TheVariants as commands
use Rattle.wh_base.specs.declared.statements.Statement.TheVariants as about
use Rattle.wh_base.specs.declared.replies.Reply.TheVariants as reply
use Rattle.def_dimensions.specs.Dimensions.{dimension_refusal, new_dimension}
use Rattle.def_effect.specs.Block.{Progress, Stopped, effect, the_table}
use Rattle.def_effect.specs.Define.{define_refusal, defined, max_objects}
use Rattle.def_effect.specs.Partitions.{Altering, add_refusal, added, alter_part, alter_table, dropped, is_only_part, merge_refusal, merged, part_named, referred_refusal, split_refusal, split_up, truncated, with_movement}
use Rattle.def_history.specs.Catalog.{Catalog, Log, View, base_now, defs_now, log_of, names_taken, view_named, view_numbered, views_over}
use Rattle.def_history.specs.History.{kept_versions, versions_kept_above}
use Rattle.def_history.specs.Logs.{log_rows, purged_log}
use Rattle.def_journal.specs.Answers.{answer, by_query, explained, star_at}
use Rattle.def_journal.specs.Committing.{commit, commit_result}
use Rattle.def_journal.specs.Explaining.{explain_view, show_log, show_view, shown, the_dimension, the_log, the_view, validated}
use Rattle.def_journal.specs.Journal.{state_after}
use Rattle.def_choice.specs.Choice.{class_is_built}
use Rattle.wh_base.specs.declared.tables.TableDef.{TableDef}
use Rattle.def_journal.specs.Listing.{all_names, all_refreshed, by_turns, computed_each, computed_list, in_turn, install_list, install_named, install_over, install_views, is_ready, list_installed, moved_refusal, names_refusal, or_having_read, reads_so_far, views_named}
use Rattle.def_journal.specs.Nesting.{drop_refusal, nested_query, unbuilt_beneath, view_beneath}
use Rattle.def_journal.specs.Refreshing.{Computed, Listed, begin_refresh, begun_view, change_view, computed_for, ended, install_begun, install_computed, install_into, install_refresh, new_point, overtaken, point_beneath, refreshed_to}
use Rattle.def_journal.specs.State.{Begun, State, Step, done_or_refused, image_of, next_scn, only_reads, refused, replied, with_base, with_catalog}
use Rattle.def_resolve.specs.Resolve.{resolve}
use Rattle.def_journal.specs.Statements.{create_over_tables, create_over_view, nested_view, without_view, Outcome, altered, build_reads, change_named_view, fast_form_refusal, new_log, new_log_refusal, new_view, purged_or_refused, switched, unread, unregistered, with_view}
use Rattle.def_journal.specs.Steps.{dimension_change, log_change, other_step, purge_change, session_done, show_step, statement_step, step, submit_step, submitted, table_change, view_change}
use Rattle.law_trace.proofs.Moves.{Adds, Alters, Begins, Born, Closes, Commits, Creates, Declares, Drops, Ends, Forgets, Gone, Installs, Keeps, KeepsView, Logs, AtScn, AtView, IsPointIn, IsSameTable, Nowhere, Over, Plain, installed, Move, Moved, Opens, Purged, Purges, PurgesLogs, Switches, Takes, Withdraws, is_block, leaves, leaves_both, own, puts, stays}
use Rattle.law_trace.proofs.Outcomes.{EachOk, bind_ok, cond_step, first_none, none_where, ok_holds, option_step, refused_not, unless_bind, unless_ok, unless_then_ok}
use Rattle.law_trace.specs.Reached.{BeginsRefresh, changes_versions, is_below_zero}

-- the catalog of an outcome
abbrev Leads : State → Event → Outcome → Type 0
Leads s x o = EachOk (λ p. Move s x p.0) o

abbrev Left : State → Event → Catalog × ℕ → Type 0
Left s x p = Move s x p.0

-- ---- tables

abbrev pub HasDef : Table → Altering → Type 0
HasDef t a = IsSameTable t.def a.table.def

same_def : (t : Table) (d : TableDef) → d ≡ t.def → IsSameTable t.def d
same_def t d is = is ∙ ap (λ (m : Bool). record t.def { movement = m }) (sym (ap (λ (d : TableDef). d.movement) is))

pub part_keeps : (kept : ℕ) (base : Base) (n : ℕ) (t : Table) (change : PartChange) → EachOk (HasDef t) (alter_part kept base n t change)
part_keeps kept base n t (Add r) =
    bind_ok (HasDef t) (or_refuse t.def.part_key (PartitionBound t.def.name r.name)) (λ key. unless (add_refusal t r key) (added t r))
    (λ key e. unless_ok (HasDef t) (add_refusal t r key) (added t r) (λ none. refl))
part_keeps kept base n t (DropPart name) =
    bind_ok (HasDef t) (or_refuse (part_named t name) (NoSuchObject name))
    (λ p. unless (first_some (referred_refusal base n ∷ where_true (is_only_part t) (LastPartition t.def.name) ∷ [])) (dropped t p))
    (λ p e. unless_ok (HasDef t) (first_some (referred_refusal base n ∷ where_true (is_only_part t) (LastPartition t.def.name) ∷ [])) (dropped t p) (λ none. refl))
part_keeps kept base n t (Truncate name) =
    bind_ok (HasDef t) (or_refuse (part_named t name) (NoSuchObject name)) (λ p. unless (referred_refusal base n) (truncated t p))
    (λ p e. unless_ok (HasDef t) (referred_refusal base n) (truncated t p) (λ none. refl))
part_keeps kept base n t (Split s) =
    bind_ok (HasDef t) (or_refuse t.def.part_key (NoSuchObject s.name)) (λ key. or_refuse (part_named t s.name) (NoSuchObject s.name) >>= (λ p. unless (split_refusal kept t s p key) (split_up t s p)))
    (λ key e. bind_ok (HasDef t) (or_refuse (part_named t s.name) (NoSuchObject s.name)) (λ p. unless (split_refusal kept t s p key) (split_up t s p))
    (λ p f. unless_ok (HasDef t) (split_refusal kept t s p key) (split_up t s p) (λ none. refl)))
part_keeps kept base n t (Merge s) =
    bind_ok (HasDef t) (or_refuse (part_named t s.lower) (NoSuchObject s.lower)) (λ p. or_refuse (part_named t s.upper) (NoSuchObject s.upper) >>= (λ q. unless (merge_refusal kept t s p q) (merged t s p q)))
    (λ p e. bind_ok (HasDef t) (or_refuse (part_named t s.upper) (NoSuchObject s.upper)) (λ q. unless (merge_refusal kept t s p q) (merged t s p q))
    (λ q f. unless_ok (HasDef t) (merge_refusal kept t s p q) (merged t s p q) (λ none. refl)))
part_keeps kept base n t (Movement on) =
    bind_ok (HasDef t) (or_refuse t.def.part_key (PartitionBound t.def.name (codes "-"))) (λ key. Ok (with_movement t on)) (λ key e. refl)

-- what becomes of a table, and the form that made it of it
record Cuts (kept : ℕ) (base : Base) (t : PartChange) (a : ℕ × Altering) : Type 0 where
  def : HasDef (table_at base a.0) a.1
  cut : alter_part kept base a.0 (table_at base a.0) t ≡ Ok a.1

table_leads : (s : State) (x : Event) (t : TableStatement) → x.command ≡ commands.Other (about.Table t) → Leads s x (table_change s.catalog t)
table_leads s x (CreateTable t) is =
    let c : Catalog = s.catalog in
    unless_bind (Left s x) (define_refusal (names_taken c) (defs_now c) t) (base_now c ++ defined (defs_now c) t ∷ []) (λ base. unread (with_base c base))
    (λ none. Creates t (first_none (has_text (names_taken c) t.name) (NameTaken t.name) _ none) none refl)
table_leads s x (AlterTable t) is =
    let c : Catalog = s.catalog in
    let kept : ℕ = kept_versions c in
    let cuts : EachOk (Cuts kept (base_now c) t.change) (alter_table kept (base_now c) t) =
    bind_ok (Cuts kept (base_now c) t.change) (the_table (base_now c) t.table)
    (λ n. alter_part kept (base_now c) n (table_at (base_now c) n) t.change >>= (λ a. Ok (n, a)))
    (λ n e. bind_ok (Cuts kept (base_now c) t.change) (alter_part kept (base_now c) n (table_at (base_now c) n) t.change) (λ a. Ok (n, a))
    (λ a same. record {
      def = ok_holds (HasDef (table_at (base_now c) n)) (alter_part kept (base_now c) n (table_at (base_now c) n) t.change) a
          (part_keeps kept (base_now c) n (table_at (base_now c) n) t.change) same;
      cut = same;
    })) in
    bind_ok (Left s x) (alter_table kept (base_now c) t) (λ a. Ok (altered c a.0 a.1, length a.1.renumbered))
    (λ a same. let h : Cuts kept (base_now c) t.change a = ok_holds (Cuts kept (base_now c) t.change) (alter_table kept (base_now c) t) a cuts same in
    Alters a.0 a.1 h.def t.change (ap changes_versions is) h.cut refl)

-- ---- logs and purges

pub within_places : {A : Type 0} (p : A → Bool) (xs : List A) (i : ℕ) → position p xs ≡ Some i → i < length xs
within_places p xs i e = by (nat_lt (position_or_len p xs) (length xs)) refl e
  where
    by : (b : Bool) → nat_lt (position_or_len p xs) (length xs) ≡ b → cond b (Some (position_or_len p xs)) None ≡ Some i → i < length xs
    by true is e = let same : position_or_len p xs ≡ i = same_Some (position_or_len p xs) i e in subst (λ n. n < length xs) same (ltb-true (position_or_len p xs) (length xs) is)
    by false is e = cc

pub named_there : (base : Base) (name : List ℕ) (n : ℕ) → the_table base name ≡ Ok n → n < length base
named_there base name n e =
    let low : n < length (defs_of base) = within_places (λ d. same_text d.name name) (defs_of base) n (refused_not (table_number (defs_of base) name) (NoSuchObject name) n e) in
    let many : length (defs_of base) ≡ length base = length-map base (λ t. t.def) in
    omega arith

purges_of : (c : Catalog) (name : List ℕ) (l : Log) → the_log c name ≡ Ok l → PurgesLogs c (change_where (λ k. k.table == l.table) (λ k. purged_log c l) c.logs)
purges_of c name l e = by (the_table (base_now c) name) e
  where
    by : (r : Result ℕ Refusal) → (r >>= (λ n. or_refuse (log_of c n) (NoLog name))) ≡ Ok l → PurgesLogs c (change_where (λ k. k.table == l.table) (λ k. purged_log c l) c.logs)
    by (Ok n) e = Purged n l (refused_not (log_of c n) (NoLog name) l e) refl
    by (Err code) e = cc

log_leads : (s : State) (x : Event) (l : LogStatement) → Leads s x (log_change s.catalog l)
log_leads s x (CreateLog l) =
    let c : Catalog = s.catalog in
    bind_ok (Left s x) (the_table (base_now c) l.table)
    (λ n. unless (new_log_refusal c n (def_at (defs_now c) n) l) (record (next_scn c) { logs = c.logs ++ new_log c n (def_at (defs_now c) n) l ∷ [] }, 0))
    (λ n e. unless_ok (Left s x) (new_log_refusal c n (def_at (defs_now c) n) l) (record (next_scn c) { logs = c.logs ++ new_log c n (def_at (defs_now c) n) l ∷ [] }, 0)
    (λ none. Logs (c.logs ++ new_log c n (def_at (defs_now c) n) l ∷ []) (Born n l (named_there (base_now c) l.table n e) none refl) refl))
log_leads s x (DropLog name) =
    let c : Catalog = s.catalog in
    bind_ok (Left s x) (the_log c name) (λ l. unread (record (next_scn c) { logs = filter (λ k. not (k.table == l.table)) c.logs }))
    (λ l e. Logs (filter (λ k. not (k.table == l.table)) c.logs) (Gone l.table refl) refl)

-- an SCN that PURGE UNDO may ask for was reached
undo_reached : (scn oldest : ℕ) (n : ℤ) → int_lt (pos scn) n ≡ false → is_below_zero n ≡ false → oldest ≤ scn → max oldest (nat_abs n) ≤ scn
undo_reached scn oldest (pos n) past above low = let most : n ≤ scn = ltb-false scn n past in omega arith
undo_reached scn oldest (negsuc n) past above low = absurd (true≢false above)

purge_leads : (s : State) (x : Event) (p : PurgeStatement) → x.command ≡ commands.Other (about.Purge p) → Leads s x (purge_change s.catalog p)
purge_leads s x (PurgeLog name) is =
    let c : Catalog = s.catalog in
    bind_ok (Left s x) (the_log c name)
    (λ l. Ok (record c { logs = change_where (λ k. k.table == l.table) (λ k. purged_log c l) c.logs }, length (log_rows c l) - length (log_rows c (purged_log c l))))
    (λ l e. Purges (change_where (λ k. k.table == l.table) (λ k. purged_log c l) c.logs) (purges_of c name l e) refl)
purge_leads s x (PurgeUndo n) is =
    let c : Catalog = s.catalog in
    unless_ok (Left s x) (where_true (int_lt (pos c.scn) n) (FutureScn n c.scn))
    (record c { oldest = max c.oldest (nat_abs n) }, kept_versions c - versions_kept_above c (max c.oldest (nat_abs n)))
    (λ none. Forgets (max c.oldest (nat_abs n)) (omega arith)
    (record { asked = n; command = is; reached = undo_reached c.scn c.oldest n (none_where (int_lt (pos c.scn) n) (FutureScn n c.scn) none) }) refl)

-- ---- views and dimensions

switched_keeps : (on : Bool) → KeepsView (switched on)
switched_keeps on = record { def = λ v. refl; point = λ v. refl; registered = λ v e. e }

unregistered_keeps : KeepsView unregistered
unregistered_keeps = record { def = λ v. refl; point = λ v. refl; registered = λ v e. absurd (true≢false (sym e)) }

named_leads : (s : State) (x : Event) (name : List ℕ) (f : View → View) → KeepsView f → Leads s x (change_named_view s.catalog name f)
named_leads s x name f keeps =
    bind_ok (Left s x) (the_view s.catalog name) (λ v. unread (change_view v.def.view f s.catalog)) (λ v e. Switches v.def.view f keeps refl)

-- the view as a CREATE makes it over tables, once its query is resolved, and over a view
abbrev over_tables : Catalog → NewView → StarQuery → Outcome
over_tables c v q = unless (fast_form_refusal c (new_view c v q)) (with_view c (new_view c v q), build_reads c (new_view c v q))

abbrev over_view : Catalog → NewView → View → StarQuery → Outcome
over_view c v u q = unless (unbuilt_beneath v u) (with_view c (nested_view c v u q), 0)

made_leads : (s : State) (x : Event) (v : NewView) → has_text (names_taken s.catalog) v.name ≡ false → (o : Option View) → view_beneath s.catalog v.asked.query ≡ o
    → Leads s x (option_case o (create_over_tables s.catalog v) (create_over_view s.catalog v))
made_leads s x v new None is =
    let c : Catalog = s.catalog in
    bind_ok (Left s x) (resolve (defs_now c) v.asked.query) (λ q. over_tables c v q)
    (λ q e. unless_ok (Left s x) (fast_form_refusal c (new_view c v q)) (with_view c (new_view c v q), build_reads c (new_view c v q))
    (λ fit. Adds v (new_view c v q) new (Plain q e refl) refl))
made_leads s x v new (Some u) is =
    let c : Catalog = s.catalog in
    bind_ok (Left s x) (nested_query v u) (λ q. over_view c v u q)
    (λ q e. unless_ok (Left s x) (unbuilt_beneath v u) (with_view c (nested_view c v u q), 0)
    (λ built. Adds v (nested_view c v u q) new (Over u q is e built refl) refl))

head_none : {A B : Type 0} (f : A → B) (xs : List A) → option_map f (head xs) ≡ None → xs ≡ []
head_none f [] e = refl
head_none f (x ∷ xs) e = absurd (cc)

view_leads : (s : State) (x : Event) (v : ViewStatement) → Leads s x (view_change s.catalog v)
view_leads s x (CreateView v) =
    let c : Catalog = s.catalog in
    unless_then_ok (Left s x)
    (first_some (where_true (has_text (names_taken c) v.name) (NameTaken v.name) ∷ where_true (nat_le max_objects (length c.views)) (TooManyObjects counted.Views) ∷ []))
    (option_case (view_beneath c v.asked.query) (create_over_tables c v) (create_over_view c v))
    (λ none. made_leads s x v (first_none (has_text (names_taken c) v.name) (NameTaken v.name) _ none) (view_beneath c v.asked.query) refl)
view_leads s x (AlterView v) = named_leads s x v.name (switched v.rewrite) (switched_keeps v.rewrite)
view_leads s x (DropView name) =
    let c : Catalog = s.catalog in
    bind_ok (Left s x) (the_view c name) (λ v. unless (drop_refusal c v) (without_view c v, 0))
    (λ v e. unless_ok (Left s x) (drop_refusal c v) (without_view c v, 0) (λ free. Drops v.def.view (head_none (λ w. StillUsed w.def.name) (views_over c v.def.view) free) refl))
view_leads s x (Unregister name) = named_leads s x name unregistered unregistered_keeps

dimension_leads : (s : State) (x : Event) (d : DimensionStatement) → Leads s x (dimension_change s.catalog d)
dimension_leads s x (CreateDimension d) =
    let c : Catalog = s.catalog in
    unless_ok (Left s x)
    (first_some (
    where_true (has_text (names_taken c) d.name) (NameTaken d.name)
    ∷ where_true (nat_le max_objects (length c.dimensions)) (TooManyObjects counted.Dimensions)
    ∷ dimension_refusal (defs_now c) d
    ∷ []))
    (record c { dimensions = c.dimensions ++ new_dimension (defs_now c) d ∷ [] }, 0)
    (λ none. Declares d (first_none (has_text (names_taken c) d.name) (NameTaken d.name) _ none) refl)
dimension_leads s x (DropDimension name) =
    let c : Catalog = s.catalog in
    bind_ok (Left s x) (the_dimension c name) (λ d. unread (record c { dimensions = filter (λ e. not (same_text e.name d.name)) c.dimensions })) (λ d e. Withdraws d.name refl)

-- ---- what is answered leaves the state

done_moves : (s : State) (e : Event) (o : Outcome) → Leads s e o → Moved s e (done_or_refused s o).state
done_moves s e (Ok p) h = leaves s e p.0 h
done_moves s e (Err code) h = stays s e

purged_moves : (s : State) (e : Event) (o : Outcome) → Leads s e o → Moved s e (purged_or_refused s o).state
purged_moves s e (Ok p) h = leaves s e p.0 h
purged_moves s e (Err code) h = stays s e

shown_moves : {A : Type 0} (s : State) (e : Event) (r : Result A Refusal) (give : A → Reply) → Moved s e (shown s r give).state
shown_moves s e (Ok x) give = stays s e
shown_moves s e (Err code) give = stays s e

abbrev given_step : State → (StarQuery → Reply) → Result StarQuery Refusal → Step
given_step s give (Err code) = refused s 0 code
given_step s give (Ok q) = replied s (give q)

given_moves : (s : State) (e : Event) (give : StarQuery → Reply) (r : Result StarQuery Refusal) → Moved s e (given_step s give r).state
given_moves s e give (Err code) = stays s e
given_moves s e give (Ok q) = stays s e

query_moves : (s : State) (e : Event) (c : Catalog) (a : Asked) (give : StarQuery → Reply) → Moved s e (by_query s c a give).state
query_moves s e c a give = given_moves s e give (star_at c a.query)

show_moves : (s : State) (e : Event) (c : Catalog) (what : ShowStatement) → Moved s e (show_step s c what).state
show_moves s e c (ShowView name) = shown_moves s e (the_view c name) (show_view c)
show_moves s e c (ShowLog name) = shown_moves s e (the_log c name) (show_log c)
show_moves s e c (ExplainView name) = shown_moves s e (the_view c name) (explain_view c)
show_moves s e c (ValidateDimension name) = shown_moves s e (the_dimension c name) (validated c)

-- ---- a refresh

-- what the install of what was begun may leave
record Installed (P : State → Type 0) (s : State) (b : Begun) : Type 0 where
  stays : P s
  installs : (ps : List (ℕ × ℕ)) → Each (Takes s.catalog b) ps → P (with_catalog s (installed ps s.catalog))

-- the point in what was computed of the list so far
listed_point : (c : Catalog) (done : List Listed) → Each (λ (l : Listed). IsPointIn c l.point) done → (v : View) → IsPointIn c (new_point c done v)
listed_point c done points v = by v.def.beneath
  where
    in_views : (n : ℕ) (o : Option View) → view_numbered c n ≡ o → IsPointIn c (unwrap_or (first_some (option_and_then (λ (u : View). u.point) o ∷ [])) 0)
    in_views n None is = Nowhere refl
    in_views n (Some u) is = at u.point refl
      where
        at : (o : Option ℕ) → u.point ≡ o → IsPointIn c (unwrap_or (first_some (o ∷ [])) 0)
        at None same = Nowhere refl
        at (Some p) same = AtView n u is same

    in_list : (n : ℕ) (o : Option Listed) → find (λ l. l.view.def.view == n) done ≡ o
        → IsPointIn c (unwrap_or (first_some (option_map (λ (l : Listed). l.point) o ∷ option_and_then (λ (u : View). u.point) (view_numbered c n) ∷ [])) 0)
    in_list n None is = in_views n (view_numbered c n) refl
    in_list n (Some l) is = each_found (λ (l : Listed). IsPointIn c l.point) (λ l. l.view.def.view == n) done l points is

    by : (o : Option ℕ) → IsPointIn c (option_case o c.scn (λ n. unwrap_or (point_beneath c done n) 0))
    by None = AtScn refl
    by (Some n) = in_list n (find (λ l. l.view.def.view == n) done) refl

plain_point : (c : Catalog) (done : List Listed) (v : View) → v.def.beneath ≡ None → new_point c done v ≡ c.scn
plain_point c done v none = ap (λ o. option_case o c.scn (λ n. unwrap_or (point_beneath c done n) 0)) none

abbrev into_step : State → Begun → Computed → View → Option Refusal → Step
into_step s b x now (Some code) = refused s x.read code
into_step s b x now None =
    replied (with_catalog s (change_view now.def.view (refreshed_to (new_point b.image [] now)) s.catalog))
    (reply.Refresh (record { method = x.used; scn = new_point b.image [] now; read = x.read; holds = length x.rows }))

into_holds : (P : State → Type 0) (s : State) (b : Begun) → Installed P s b → (x : Computed) (now : View) → Takes s.catalog b (now.def.view, new_point b.image [] now) → (o : Option Refusal) → P (into_step s b x now o).state
into_holds P s b h x now takes (Some code) = h.stays
into_holds P s b h x now takes None = h.installs ((now.def.view, new_point b.image [] now) ∷ []) (takes, tt)

-- the begin's view is one of the image
begun_test : (b : Begun) (then : View) → begun_view b ≡ Some then → (test : View → Bool) × (find test b.image.views ≡ Some then)
begun_test b then is = by b.view is
  where
    by : (o : Option ℕ) → option_and_then (view_numbered b.image) o ≡ Some then → (test : View → Bool) × (find test b.image.views ≡ Some then)
    by None e = absurd (none-some then e)
    by (Some n) e = (λ v. v.def.view == n, e)

computed_holds : (P : State → Type 0) (s : State) (b : Begun) → Installed P s b → (name : List ℕ) (then : View) → begun_view b ≡ Some then → (r : Result Computed Refusal) → P (install_computed s name b then r).state
computed_holds P s b h name then was (Err code) = h.stays
computed_holds P s b h name then was (Ok x) =
    option_step P (view_numbered s.catalog then.def.view) (refused s x.read (NoSuchObject name)) (install_into s name b x)
    h.stays (λ now found. let test = begun_test b then was in
    into_holds P s b h x now
    (record {
      then = then;
      now = now;
      test = test.0;
      was = test.1;
      found = found;
      number = refl;
      point = listed_point b.image [] tt now;
      plain = λ before none. plain_point b.image [] now none;
    }) (overtaken name b now))

begun_holds : (P : State → Type 0) (s : State) (b : Begun) → Installed P s b → (r : RefreshView) → P (install_begun s r b).state
begun_holds P s b h r =
    option_step P (begun_view b) (refused s 0 (NoSuchObject r.name)) (λ v. install_computed s r.name b v (computed_for b.image [] r v))
    h.stays (λ v found. computed_holds P s b h r.name v found (computed_for b.image [] r v))

ended_moves : (s : State) (e : Event) → Moved s e (ended s (own s e))
ended_moves s e = puts s e (record (own s e) { begun = None }) refl (Ends refl)

-- ---- a refresh of a list

-- the view is one of the image, and it is still there
record Stays (c now : Catalog) (v : View) : Type 0 where
  test : View → Bool
  was : find test c.views ≡ Some v
  found : (w : View) × (view_numbered now v.def.view ≡ Some w)

-- what was computed of a view
record IsListed (c now : Catalog) (l : Listed) : Type 0 where
  view : Stays c now l.view
  point : IsPointIn c l.point
  plain : l.view.def.beneath ≡ None → l.point ≡ c.scn

each_turn : (P : View → Type 0) (n : ℕ) (left : List View) → Each P left → Each P (in_turn n left)
each_turn P zero left h = tt
each_turn P (suc n) left h = by (λ rest k. each_turn P n rest k) (find (is_ready left) left) refl
  where
    by : ((rest : List View) → Each P rest → Each P (in_turn n rest)) → (o : Option View) → find (is_ready left) left ≡ o → Each P (option_case o [] (λ v. v ∷ in_turn n (filter (λ w. not (w.def.view == v.def.view)) left)))
    by later None e = tt
    by later (Some v) e = (each_found P (is_ready left) left v h e, later (filter (λ w. not (w.def.view == v.def.view)) left) (each_filter P (λ w. not (w.def.view == v.def.view)) left h))

having_ok : {A : Type 0} (n : ℕ) (r : Result A Refusal) (x : A) → or_having_read n r ≡ Ok x → r ≡ Ok x
having_ok n (Ok y) x e = cc
having_ok n (Err code) x e = absurd (cc)

listed_each : (c now : Catalog) (r : RefreshView) (done : List Listed) (vs : List View) → Each (IsListed c now) done → Each (Stays c now) vs → EachOk (Each (IsListed c now)) (computed_each c r done vs)
listed_each c now r done [] h k = h
listed_each c now r done (v ∷ vs) h k =
    bind_ok (Each (IsListed c now)) (or_having_read (reads_so_far done) (computed_for c done r v))
    (λ x. computed_each c r (done ++ record { view = v; point = new_point c done v; computed = x } ∷ []) vs)
    (λ x e. listed_each c now r (done ++ record { view = v; point = new_point c done v; computed = x } ∷ []) vs
    (each_append (IsListed c now) done (record { view = v; point = new_point c done v; computed = x } ∷ []) h
    (record { view = k.0; point = listed_point c done (each_weaker (IsListed c now) (λ (l : Listed). IsPointIn c l.point) (λ l i. i.point) done h) v; plain = plain_point c done v }, tt)) k.1)

-- a view that is named is one of the image
each_named : (c : Catalog) (P : View → Type 0) → ((v : View) (test : View → Bool) → find test c.views ≡ Some v → P v) → (names : List (List ℕ)) → Each P (filter_map (view_named c) names)
each_named c P k [] = tt
each_named c P k (name ∷ names) = by (each_named c P k names) (view_named c name) refl
  where
    by : Each P (filter_map (view_named c) names) → (o : Option View) → view_named c name ≡ o → Each P (cons_option o (filter_map (view_named c) names))
    by rest None e = rest
    by rest (Some v) e = (k v (λ w. same_text w.def.name name) e, rest)

none_moved : (now : Catalog) (v : View) → moved_refusal now v ≡ None → (w : View) × (view_numbered now v.def.view ≡ Some w)
none_moved now v e = by (view_numbered now v.def.view) refl e
  where
    by : (o : Option View) → view_numbered now v.def.view ≡ o
        → option_case o (Some (NoSuchObject v.def.name)) (λ w. where_true (not (option_nat_same v.point w.point)) (Overtaken v.def.name v.point w.point)) ≡ None
        → (w : View) × (view_numbered now v.def.view ≡ Some w)
    by None is e = absurd (cc)
    by (Some w) is e = (w, is)

each_moved : (now : Catalog) (vs : List View) → first_of (moved_refusal now) vs ≡ None → Each (λ v. (w : View) × (view_numbered now v.def.view ≡ Some w)) vs
each_moved now [] e = tt
each_moved now (v ∷ vs) e = by (each_moved now vs) (moved_refusal now v) refl e
  where
    by : (first_of (moved_refusal now) vs ≡ None → Each (λ v. (w : View) × (view_numbered now v.def.view ≡ Some w)) vs) → (o : Option Refusal) → moved_refusal now v ≡ o → first_some (o ∷ map (moved_refusal now) vs) ≡ None → Each (λ v. (w : View) × (view_numbered now v.def.view ≡ Some w)) (v ∷ vs)
    by rest None is e = (none_moved now v is, rest e)
    by rest (Some code) is e = absurd (cc)

-- each view's number with its point
abbrev pointed : List Listed → List (ℕ × ℕ)
pointed done = map (λ l. (l.view.def.view, l.point)) done

refreshed_installed : (done : List Listed) (c : Catalog) → installed (pointed done) c ≡ all_refreshed done c
refreshed_installed [] c = refl
refreshed_installed (l ∷ done) c = refreshed_installed done (change_view l.view.def.view (refreshed_to l.point) c)

takes_listed : (c : Catalog) (b : Begun) (l : Listed) → IsListed b.image c l → Takes c b (l.view.def.view, l.point)
takes_listed c b l h =
    record {
      then = l.view;
      now = h.view.found.0;
      test = h.view.test;
      was = h.view.was;
      found = h.view.found.1;
      number = sym (find_has (λ (v : View). v.def.view) l.view.def.view c.views h.view.found.0 h.view.found.1);
      point = h.point;
      plain = λ before none. h.plain before;
    }

views_hold : (P : State → Type 0) (s : State) (b : Begun) (r : RefreshView) → Installed P s b → (x : Result (List Listed) (ℕ × Refusal)) → computed_list b.image r ≡ x
    → P (install_views s b.image (views_named b.image r) x).state
views_hold P s b r h (Err p) is = h.stays
views_hold P s b r h (Ok done) is = by (first_of (moved_refusal s.catalog) views) refl
  where
    views : List View
    views = views_named b.image r

    by : (o : Option Refusal) → first_of (moved_refusal s.catalog) views ≡ o → P (option_case o (list_installed s b.image views done) (refused s (reads_so_far done))).state
    by (Some code) e = h.stays
    by None e =
        let both : Each (λ (v : View). ((test : View → Bool) × (find test b.image.views ≡ Some v)) × ((w : View) × (view_numbered s.catalog v.def.view ≡ Some w))) views =
        each_two (λ (v : View). (test : View → Bool) × (find test b.image.views ≡ Some v)) (λ (v : View). (w : View) × (view_numbered s.catalog v.def.view ≡ Some w)) views
        (each_named b.image (λ (v : View). (test : View → Bool) × (find test b.image.views ≡ Some v)) (λ v test found. (test, found)) (all_names r))
        (each_moved s.catalog views e) in
        let stay : Each (Stays b.image s.catalog) views =
        each_weaker (λ (v : View). ((test : View → Bool) × (find test b.image.views ≡ Some v)) × ((w : View) × (view_numbered s.catalog v.def.view ≡ Some w))) (Stays b.image s.catalog)
        (λ v k. record { test = k.0.0; was = k.0.1; found = k.1 }) views both in
        let listed : Each (IsListed b.image s.catalog) done =
        ok_holds (Each (IsListed b.image s.catalog)) (computed_list b.image r) done
        (listed_each b.image s.catalog r [] (by_turns views) tt (each_turn (Stays b.image s.catalog) (length views) views stay)) is in
        subst (λ (c : Catalog). P (with_catalog s c)) (refreshed_installed done s.catalog)
        (h.installs (pointed done) (each_map (IsListed b.image s.catalog) (Takes s.catalog b) (λ (l : Listed). (l.view.def.view, l.point)) (takes_listed s.catalog b) done listed))

over_holds : (P : State → Type 0) (s : State) (b : Begun) (r : RefreshView) → Installed P s b → P (install_over s r b.image).state
over_holds P s b r h = by (names_refusal b.image r)
  where
    by : (o : Option Refusal) → P (option_case o (install_views s b.image (views_named b.image r) (computed_list b.image r)) (refused s 0)).state
    by None = views_hold P s b r h (computed_list b.image r) refl
    by (Some code) = h.stays

-- what an install may leave, of one view or of a list
install_cases : (s : State) (e : Event) (b : Begun) → (own s e).begun ≡ Some b → Installed (Moved s e) (ended s (own s e)) b
install_cases s e b begun =
    record {
      stays = ended_moves s e;
      installs = λ ps takes. leaves_both s e (record (own s e) { begun = None }) (installed ps s.catalog) refl (Ends refl) (Installs b ps begun takes refl);
    }

install_moves : (s : State) (e : Event) (r : RefreshView) → Moved s e (install_refresh s (own s e) r).state
install_moves s e r =
    cond_step (Moved s e) (only_reads (own s e)) (refused (ended s (own s e)) 0 OnlyReading)
    (option_case (own s e).begun (refused s 0 (NoSuchObject r.name)) (install_begun (ended s (own s e)) r))
    (λ reads. ended_moves s e)
    (λ writes. option_step (Moved s e) (own s e).begun (refused s 0 (NoSuchObject r.name)) (install_begun (ended s (own s e)) r) (stays s e)
    (λ b begun. begun_holds (Moved s e) (ended s (own s e)) b (install_cases s e b begun) r))

list_moves : (s : State) (e : Event) (r : RefreshView) → Moved s e (install_list s (own s e) r).state
list_moves s e r =
    cond_step (Moved s e) (only_reads (own s e)) (refused (ended s (own s e)) 0 OnlyReading)
    (option_case (own s e).begun (refused s 0 (NoSuchObject r.name)) (λ b. install_over (ended s (own s e)) r b.image))
    (λ reads. ended_moves s e)
    (λ writes. option_step (Moved s e) (own s e).begun (refused s 0 (NoSuchObject r.name)) (λ b. install_over (ended s (own s e)) r b.image) (stays s e)
    (λ b begun. over_holds (Moved s e) (ended s (own s e)) b r (install_cases s e b begun)))

named_moves : (s : State) (e : Event) (r : RefreshView) → Moved s e (install_named s (own s e) r).state
named_moves s e r =
    cond_step (Moved s e) (is_empty r.more) (install_refresh s (own s e) r) (install_list s (own s e) r) (λ one. install_moves s e r) (λ many. list_moves s e r)

begin_moves : (s : State) (e : Event) (r : RefreshView) → BeginsRefresh e r → Moved s e (begin_refresh s (own s e) r)
begin_moves s e r begins = puts s e _ refl (Begins r begins refl)

-- ---- the commands

-- what a READ ONLY transaction refuses
guarded : (s : State) (e : Event) (next : Step) → Moved s e next.state → Moved s e (cond (only_reads (own s e)) (refused s 0 OnlyReading) next).state
guarded s e next h = cond_step (Moved s e) (only_reads (own s e)) (refused s 0 OnlyReading) next (λ reads. stays s e) (λ writes. h)

setting_moves : (s : State) (e : Event) (setting : SessionStatement) → e.command ≡ commands.Other (about.Session setting) → Moved s e (other_step s (own s e) (about.Session setting)).state
setting_moves s e (SetLevel level) is = puts s e (record (own s e) { level = level }) refl (Keeps refl refl)
setting_moves s e (SetRewrite on) is = puts s e (record (own s e) { rewrite = on }) refl (Keeps refl refl)
setting_moves s e EndReadOnly is = puts s e (record (own s e) { reading = None }) refl (Closes refl)
setting_moves s e ReadOnly is =
    guarded s e (session_done s (record (own s e) { reading = Some s.catalog })) (puts s e (record (own s e) { reading = Some s.catalog }) refl (Opens is refl))

other_moves : (s : State) (e : Event) (statement : Statement) → e.command ≡ commands.Other statement → Moved s e (other_step s (own s e) statement).state
other_moves s e (about.Select a) is = query_moves s e (image_of s (own s e)) a (answer class_is_built (image_of s (own s e)) (own s e) a)
other_moves s e (about.ExplainQuery a) is = query_moves s e (image_of s (own s e)) a (explained class_is_built (image_of s (own s e)) (own s e) a)
other_moves s e (about.Show what) is = show_moves s e (image_of s (own s e)) what
other_moves s e (about.Session setting) is = setting_moves s e setting is
other_moves s e (about.Table t) is = guarded s e (done_or_refused s (table_change s.catalog t)) (done_moves s e (table_change s.catalog t) (table_leads s e t is))
other_moves s e (about.Log l) is = guarded s e (done_or_refused s (log_change s.catalog l)) (done_moves s e (log_change s.catalog l) (log_leads s e l))
other_moves s e (about.View v) is = guarded s e (done_or_refused s (view_change s.catalog v)) (done_moves s e (view_change s.catalog v) (view_leads s e v))
other_moves s e (about.Dimension d) is = guarded s e (done_or_refused s (dimension_change s.catalog d)) (done_moves s e (dimension_change s.catalog d) (dimension_leads s e d))
other_moves s e (about.Purge p) is = guarded s e (purged_or_refused s (purge_change s.catalog p)) (purged_moves s e (purge_change s.catalog p) (purge_leads s e p is))
other_moves s e (about.Refresh r) is = guarded s e (record { state = s; reply = None }) (stays s e)
other_moves s e (about.Change c) is = guarded s e (record { state = s; reply = None }) (stays s e)

statement_moves : (s : State) (e : Event) (statement : Statement) → e.command ≡ commands.Other statement
    → Moved s e (statement_step s (own s e) e.entry.part statement).state
statement_moves s e (about.Refresh r) is =
    cond_step (Moved s e) (e.entry.part == 1) (record { state = begin_refresh s (own s e) r; reply = None }) (install_named s (own s e) r)
    (λ part. begin_moves s e r (inl (is, eqb-true e.entry.part 1 part))) (λ part. named_moves s e r)
statement_moves s e statement is = other_moves s e statement is

commit_moves : (s : State) (e : Event) (b : Block) → e.command ≡ commands.Block b → Moved s e (commit s (own s e) b).state
commit_moves s e b is = guarded s e (commit_result s (effect (base_now s.catalog) (kept_versions s.catalog) b.statements)) (by (effect (base_now s.catalog) (kept_versions s.catalog) b.statements) refl)
  where
    by : (r : Result Progress Stopped) → effect (base_now s.catalog) (kept_versions s.catalog) b.statements ≡ r → Moved s e (commit_result s r).state
    by (Err stopped) same = stays s e
    by (Ok p) same = leaves s e _ (Commits p b.statements same (ap is_block is) refl)

submitted_moves : (s : State) (e : Event) → Moved s e (submitted s (own s e)).state
submitted_moves s e = guarded s e (replied s reply.Submit) (stays s e)

submit_moves : (s : State) (e : Event) (statement : Statement) → e.command ≡ commands.Submit statement → Moved s e (submit_step s (own s e) e.entry.part statement).state
submit_moves s e (about.Refresh r) is =
    cond_step (Moved s e) (e.entry.part == 1) (submitted s (own s e)) (cond (e.entry.part == 2) (record { state = begin_refresh s (own s e) r; reply = None }) (install_named s (own s e) r))
    (λ own. submitted_moves s e)
    (λ other. cond_step (Moved s e) (e.entry.part == 2) (record { state = begin_refresh s (own s e) r; reply = None }) (install_named s (own s e) r)
    (λ part. begin_moves s e r (inr (is, eqb-true e.entry.part 2 part))) (λ part. named_moves s e r))
submit_moves s e statement is = submitted_moves s e

command_moves : (s : State) (e : Event) (command : Command) → e.command ≡ command → Moved s e (step s (entry_bearer e.entry) command e.entry.part).state
command_moves s e (commands.Block b) is = commit_moves s e b is
command_moves s e (commands.Other statement) is = statement_moves s e statement is
command_moves s e (commands.Submit statement) is = submit_moves s e statement is

-- what each event leaves
pub moves : (s : State) (e : Event) → Moved s e (state_after s e)
moves s e = command_moves s e e.command refl
