-- What one event may make of the catalog and of its session. Each law is derived from these cases.
use Rattle.std.proofs.Common.{fold, ◌≡◌, ◌∙◌, sym, ap, refl, subst, ℕ, ℤ, ◌<◌, ◌≤◌, Bool, false, true, not, List, [], ◌∷◌, ◌++◌, length, None, Some, ◌==◌}
use Rattle.std.specs.List.{filter, find}
use Rattle.std.specs.Prelude.{Ok}
use Rattle.wh_base.specs.Lists.{change_where, has_text, same_text}
use Rattle.wh_base.specs.Parts.{entry_bearer}
use Rattle.wh_base.specs.Tables.{def_at, table_at}
use Rattle.wh_base.specs.declared.queries.StarQuery.{StarQuery}
use Rattle.wh_base.specs.declared.statements.Command.{Command}
use Rattle.wh_base.specs.declared.statements.Command.TheVariants.{Other}
use Rattle.wh_base.specs.declared.statements.Event.{Event}
use Rattle.wh_base.specs.declared.statements.NewDimension.{NewDimension}
use Rattle.wh_base.specs.declared.statements.NewTable.{NewTable}
use Rattle.wh_base.specs.declared.statements.NewView.{NewView}
use Rattle.wh_base.specs.declared.statements.PartChange.{PartChange}
use Rattle.wh_base.specs.declared.statements.RefreshView.{RefreshView}
use Rattle.wh_base.specs.declared.statements.SessionStatement.TheVariants.{ReadOnly}
use Rattle.wh_base.specs.declared.statements.Statement.{Statement}
use Rattle.wh_base.specs.declared.statements.PurgeStatement.TheVariants.{PurgeUndo}
use Rattle.wh_base.specs.declared.statements.Statement.TheVariants as about
use Rattle.wh_base.specs.declared.statements.Command.TheVariants as commands
use Rattle.def_dimensions.specs.Dimensions.{new_dimension}
use Rattle.def_effect.specs.Block.{Progress, effect}
use Rattle.def_effect.specs.Define.{define_refusal, defined}
use Rattle.def_effect.specs.Partitions.{Altering, alter_part}
use Rattle.def_history.specs.Catalog.{Catalog, Log, View, base_now, defs_now, log_of, names_taken, view_numbered, views_over}
use Rattle.def_history.specs.Logs.{purged_log}
use Rattle.wh_base.specs.declared.statements.NewLog.{NewLog}
use Rattle.def_history.specs.History.{kept_versions}
use Rattle.def_journal.specs.Committing.{after_block, do_dues}
use Rattle.def_journal.specs.Nesting.{nested_query, unbuilt_beneath, view_beneath}
use Rattle.def_journal.specs.Refreshing.{change_view, refreshed_to}
use Rattle.def_journal.specs.State.{Begun, Session, State, next_scn, session_of, with_base, with_catalog, with_session}
use Rattle.def_journal.specs.Statements.{altered, nested_view, new_log, new_log_refusal, new_view, with_view}
use Rattle.def_resolve.specs.Resolve.{resolve}
use Rattle.law_trace.proofs.Seated.{own_number, put_other, put_own}
use Rattle.wh_base.specs.declared.tables.TableDef.{TableDef}
use Rattle.law_trace.proofs.Listed.{Each}
use Rattle.law_trace.specs.Reached.{BeginsRefresh, IsSameView, begun_over, changes_versions, is_below_zero, is_of, renumbers}

-- a change of a view that leaves its definition but for `rewrite`, and its point, and doesn't register it
pub record KeepsView (f : View → View) : Type 0 where
  pub def : (v : View) → IsSameView v.def (f v).def
  pub point : (v : View) → (f v).point ≡ v.point
  pub registered : (v : View) → (f v).registered ≡ true → v.registered ≡ true

-- the event's session
abbrev pub own : State → Event → Session
own s e = session_of s (entry_bearer e.entry)

-- the event is a block
abbrev pub is_block : Command → Bool
is_block (commands.Block b) = true
is_block (Other statement) = false
is_block (commands.Submit statement) = false

-- the event is a PURGE UNDO
pub record Undoes (c : Catalog) (e : Event) (oldest : ℕ) : Type 0 where
  pub asked : ℤ
  pub command : e.command ≡ Other (about.Purge (PurgeUndo asked))
  pub reached : is_below_zero asked ≡ false → c.oldest ≤ c.scn → oldest ≤ c.scn

-- the logs that a CREATE or a DROP of a log leaves
pub data MakesLogs (c : Catalog) (logs : List Log) : Type 0 where
  Born : (n : ℕ) (a : NewLog) → n < length (base_now c) → new_log_refusal c n (def_at (defs_now c) n) a ≡ None → logs ≡ c.logs ++ new_log c n (def_at (defs_now c) n) a ∷ [] → MakesLogs c logs
  Gone : (n : ℕ) → logs ≡ filter (λ k. not (k.table == n)) c.logs → MakesLogs c logs

-- the logs that a PURGE LOG leaves
pub data PurgesLogs (c : Catalog) (logs : List Log) : Type 0 where
  Purged : (n : ℕ) (l : Log) → log_of c n ≡ Some l → logs ≡ change_where (λ k. k.table == l.table) (λ k. purged_log c l) c.logs → PurgesLogs c logs

-- the view that a CREATE makes, over tables, or over a view that is there
pub data MakesView (c : Catalog) (v : NewView) (w : View) : Type 0 where
  Plain : (q : StarQuery) → resolve (defs_now c) v.asked.query ≡ Ok q → w ≡ new_view c v q → MakesView c v w
  Over : (u : View) (q : StarQuery) → view_beneath c v.asked.query ≡ Some u → nested_query v u ≡ Ok q → unbuilt_beneath v u ≡ None → w ≡ nested_view c v u q → MakesView c v w

-- the point that a refresh over an image gives: its SCN, the point of one of its views, or none
pub data IsPointIn (c : Catalog) (to : ℕ) : Type 0 where
  AtScn : to ≡ c.scn → IsPointIn c to
  AtView : (n : ℕ) (u : View) → view_numbered c n ≡ Some u → u.point ≡ Some to → IsPointIn c to
  Nowhere : to ≡ 0 → IsPointIn c to

-- the view of this number takes what was begun, with this point: the image has it, and it is still there
pub record Takes (c : Catalog) (b : Begun) (p : ℕ × ℕ) : Type 0 where
  pub then : View
  pub now : View
  pub test : View → Bool
  pub was : find test b.image.views ≡ Some then
  pub found : view_numbered c then.def.view ≡ Some now
  pub number : p.0 ≡ now.def.view
  pub point : IsPointIn b.image p.1
  pub plain : then.def.beneath ≡ None → now.def.beneath ≡ None → p.1 ≡ b.image.scn

-- the catalog in which these views, each by its number, have these points
abbrev pub installed : List (ℕ × ℕ) → Catalog → Catalog
installed ps c = fold (λ d p. change_view p.0 (refreshed_to p.1) d) c ps

-- one definition of a table is the other but for its row movement
abbrev pub IsSameTable : TableDef → TableDef → Type 0
IsSameTable d e = e ≡ record d { movement = e.movement }

-- the catalog d that the event x leaves
pub data Move (s : State) (x : Event) (d : Catalog) : Type 0 where
  Stays : d ≡ s.catalog → Move s x d
  Commits : (p : Progress) (statements : List Statement) → effect (base_now s.catalog) (kept_versions s.catalog) statements ≡ Ok p → is_block x.command ≡ true
      → d ≡ (do_dues (after_block s.catalog p) p.changes).catalog → Move s x d
  Creates : (t : NewTable) → has_text (names_taken s.catalog) t.name ≡ false → define_refusal (names_taken s.catalog) (defs_now s.catalog) t ≡ None
      → d ≡ with_base s.catalog (base_now s.catalog ++ defined (defs_now s.catalog) t ∷ []) → Move s x d
  Alters : (n : ℕ) (a : Altering) → IsSameTable (table_at (base_now s.catalog) n).def a.table.def
      → (change : PartChange) → (changes_versions x.command ≡ renumbers change) → alter_part (kept_versions s.catalog) (base_now s.catalog) n (table_at (base_now s.catalog) n) change ≡ Ok a → d ≡ altered s.catalog n a → Move s x d
  Logs : (logs : List Log) → MakesLogs s.catalog logs → d ≡ record (next_scn s.catalog) { logs = logs } → Move s x d
  Purges : (logs : List Log) → PurgesLogs s.catalog logs → d ≡ record s.catalog { logs = logs } → Move s x d
  Forgets : (oldest : ℕ) → s.catalog.oldest ≤ oldest → Undoes s.catalog x oldest → d ≡ record s.catalog { oldest = oldest } → Move s x d
  Adds : (v : NewView) (w : View) → has_text (names_taken s.catalog) v.name ≡ false → MakesView s.catalog v w → d ≡ with_view s.catalog w → Move s x d
  Switches : (n : ℕ) (f : View → View) → KeepsView f → d ≡ change_view n f s.catalog → Move s x d
  Installs : (b : Begun) (ps : List (ℕ × ℕ)) → (own s x).begun ≡ Some b → Each (Takes s.catalog b) ps → d ≡ installed ps s.catalog → Move s x d
  Drops : (n : ℕ) → views_over s.catalog n ≡ [] → d ≡ record s.catalog { views = filter (λ w. not (w.def.view == n)) s.catalog.views } → Move s x d
  Declares : (a : NewDimension) → has_text (names_taken s.catalog) a.name ≡ false
      → d ≡ record s.catalog { dimensions = s.catalog.dimensions ++ new_dimension (defs_now s.catalog) a ∷ [] } → Move s x d
  Withdraws : (name : List ℕ) → d ≡ record s.catalog { dimensions = filter (λ e. not (same_text e.name name)) s.catalog.dimensions } → Move s x d

-- the session y that it becomes
pub data Turn (s : State) (e : Event) (y : Session) : Type 0 where
  Keeps : y.reading ≡ (own s e).reading → y.begun ≡ (own s e).begun → Turn s e y
  Closes : y ≡ record (own s e) { reading = None } → Turn s e y
  Opens : e.command ≡ Other (about.Session ReadOnly) → y ≡ record (own s e) { reading = Some s.catalog } → Turn s e y
  Begins : (r : RefreshView) → BeginsRefresh e r → y ≡ record (own s e) { begun = Some (begun_over s.catalog r.name) } → Turn s e y
  Ends : y ≡ record (own s e) { begun = None } → Turn s e y

-- the state that it leaves
pub record Moved (s : State) (e : Event) (next : State) : Type 0 where
  pub catalog : Move s e next.catalog
  pub session : Turn s e (own next e)
  pub others : (n : ℕ) → is_of n e ≡ false → session_of next n ≡ session_of s n

pub stays : (s : State) (e : Event) → Moved s e s
stays s e = record { catalog = Stays refl; session = Keeps refl refl; others = λ n differ. refl }

pub leaves : (s : State) (e : Event) (d : Catalog) → Move s e d → Moved s e (with_catalog s d)
leaves s e d move = record { catalog = move; session = Keeps refl refl; others = λ n differ. refl }

pub leaves_both : (s : State) (e : Event) (y : Session) (d : Catalog) → y.number ≡ (own s e).number → Turn s e y → Move s e d
    → Moved s e (with_catalog (with_session s y) d)
leaves_both s e y d same turn move =
    let number : y.number ≡ entry_bearer e.entry = same ∙ own_number s (entry_bearer e.entry) in
    record {
      catalog = move;
      session = subst (Turn s e) (sym (put_own s y (entry_bearer e.entry) number)) turn;
      others = λ n differ. put_other s y n (ap (λ k. k == n) number ∙ differ);
    }

pub puts : (s : State) (e : Event) (y : Session) → y.number ≡ (own s e).number → Turn s e y → Moved s e (with_session s y)
puts s e y same turn = leaves_both s e y s.catalog same turn (Stays refl)
