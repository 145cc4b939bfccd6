-- The step of each entry of a journal: the state that it leaves, and its reply.
use Rattle.std.specs.Prelude.{None, Option, Some, cond, ℕ, ◌==◌}
use Rattle.wh_base.specs.Lists.{option_case}
use Rattle.wh_base.specs.declared.replies.Refusal.TheVariants.{OnlyReading}
use Rattle.wh_base.specs.declared.statements.Command.{Command}
use Rattle.wh_base.specs.declared.statements.Statement.{Statement}
use Rattle.wh_base.specs.declared.statements.Statement.TheVariants.{ExplainQuery, Refresh, Select}
use Rattle.wh_base.specs.declared.statements.TableStatement.{TableStatement}
use Rattle.wh_base.specs.declared.statements.TableStatement.TheVariants.{AlterTable, CreateTable}
use Rattle.wh_base.specs.declared.statements.LogStatement.{LogStatement}
use Rattle.wh_base.specs.declared.statements.LogStatement.TheVariants.{CreateLog, DropLog}
use Rattle.wh_base.specs.declared.statements.ViewStatement.{ViewStatement}
use Rattle.wh_base.specs.declared.statements.ViewStatement.TheVariants.{AlterView, CreateView, DropView, Unregister}
use Rattle.wh_base.specs.declared.statements.DimensionStatement.{DimensionStatement}
use Rattle.wh_base.specs.declared.statements.DimensionStatement.TheVariants.{CreateDimension, DropDimension}
use Rattle.wh_base.specs.declared.statements.PurgeStatement.{PurgeStatement}
use Rattle.wh_base.specs.declared.statements.PurgeStatement.TheVariants.{PurgeLog, PurgeUndo}
use Rattle.wh_base.specs.declared.statements.ShowStatement.{ShowStatement}
use Rattle.wh_base.specs.declared.statements.ShowStatement.TheVariants.{ExplainView, ShowLog, ShowView, ValidateDimension}
use Rattle.wh_base.specs.declared.statements.SessionStatement.{SessionStatement}
use Rattle.wh_base.specs.declared.statements.SessionStatement.TheVariants.{EndReadOnly, ReadOnly, SetLevel, SetRewrite}
use Rattle.wh_base.specs.declared.statements.Statement.TheVariants as about
use Rattle.def_history.specs.Catalog.{Catalog}
use Rattle.def_journal.specs.Answers.{explain_query, select}
use Rattle.def_journal.specs.Committing.{commit}
use Rattle.def_journal.specs.Explaining.{explain_view, show_log, show_view, shown, the_dimension, the_log, the_view, validated}
use Rattle.def_journal.specs.Listing.{install_named}
use Rattle.def_journal.specs.Refreshing.{begin_refresh}
use Rattle.def_journal.specs.State.{Session, State, Step, done_or_refused, image_of, only_reads, refused, replied, session_of, with_session}
use Rattle.def_journal.specs.Statements.{Outcome, alter, change_named_view, create_dimension, create_log, create_table, create_view, drop_dimension, drop_log, drop_view, purge_log, purge_undo, purged_or_refused, switched, unregistered}
use Rattle.wh_base.specs.declared.replies.Reply.TheVariants as reply
use Rattle.wh_base.specs.declared.statements.Command.TheVariants as commands

-- DONE: the session's own settings or image change, and the catalog doesn't.
abbrev pub session_done : State → Session → Step
session_done s x = replied (with_session s x) (reply.Catalog (record { scn = s.catalog.scn; read = 0 }))

-- SHOW VIEW, SHOW LOG, EXPLAIN MVIEW and VALIDATE DIMENSION over an image, each with its refusals.
abbrev pub show_step : State → Catalog → ShowStatement → Step
show_step s c (ShowView name) = shown s (the_view c name) (show_view c)
show_step s c (ShowLog name) = shown s (the_log c name) (show_log c)
show_step s c (ExplainView name) = shown s (the_view c name) (explain_view c)
show_step s c (ValidateDimension name) = shown s (the_dimension c name) (validated c)

-- The settings of a session that it may change at any time.
abbrev pub setting_step : State → Session → SessionStatement → Option Step
setting_step s x (SetLevel level) = Some (session_done s (record x { level = level }))
setting_step s x (SetRewrite on) = Some (session_done s (record x { rewrite = on }))
setting_step s x EndReadOnly = Some (session_done s (record x { reading = None }))
setting_step s x ReadOnly = None

-- The commands that a READ ONLY transaction allows: those answered over the session's image, ALTER SESSION, and COMMIT, which ends it. None for any other.
abbrev pub reading_step : State → Session → Statement → Option Step
reading_step s x (Select a) = Some (select s x a)
reading_step s x (ExplainQuery a) = Some (explain_query s x a)
reading_step s x (about.Show what) = Some (show_step s (image_of s x) what)
reading_step s x (about.Session setting) = setting_step s x setting
reading_step s x _ = None

-- What each catalog statement leaves, or its refusal.
abbrev pub table_change : Catalog → TableStatement → Outcome
table_change c (CreateTable t) = create_table c t
table_change c (AlterTable t) = alter c t

abbrev pub log_change : Catalog → LogStatement → Outcome
log_change c (CreateLog l) = create_log c l
log_change c (DropLog name) = drop_log c name

abbrev pub view_change : Catalog → ViewStatement → Outcome
view_change c (CreateView v) = create_view c v
view_change c (AlterView v) = change_named_view c v.name (switched v.rewrite)
view_change c (DropView name) = drop_view c name
view_change c (Unregister name) = change_named_view c name unregistered

abbrev pub dimension_change : Catalog → DimensionStatement → Outcome
dimension_change c (CreateDimension d) = create_dimension c d
dimension_change c (DropDimension name) = drop_dimension c name

abbrev pub purge_change : Catalog → PurgeStatement → Outcome
purge_change c (PurgeLog name) = purge_log c name
purge_change c (PurgeUndo n) = purge_undo c n

-- All other statements: those that change the catalog, and SET TRANSACTION READ ONLY, which takes the image. A
-- change of rows is a block, and a refresh has steps of its own, so neither stands here.
abbrev pub changing_step : State → Session → Statement → Step
changing_step s x (about.Table t) = done_or_refused s (table_change s.catalog t)
changing_step s x (about.Log l) = done_or_refused s (log_change s.catalog l)
changing_step s x (about.View v) = done_or_refused s (view_change s.catalog v)
changing_step s x (about.Dimension d) = done_or_refused s (dimension_change s.catalog d)
changing_step s x (about.Purge p) = purged_or_refused s (purge_change s.catalog p)
changing_step s x (about.Session ReadOnly) = session_done s (record x { reading = Some s.catalog })
changing_step s x _ = record { state = s; reply = None }

-- Between SET TRANSACTION and COMMIT every statement that isn't allowed is refused.
abbrev pub other_step : State → Session → Statement → Step
other_step s x statement =
    option_case (reading_step s x statement) (cond (only_reads x) (refused s 0 OnlyReading) (changing_step s x statement)) (λ step. step)

-- Part 1 of a refresh is its begin, part 2 its install. Every other command has one part.
abbrev pub statement_step : State → Session → ℕ → Statement → Step
statement_step s x part (Refresh r) = cond (part == 1) (record { state = begin_refresh s x r; reply = None }) (install_named s x r)
statement_step s x part statement = other_step s x statement

-- SUBMIT itself, which a READ ONLY transaction refuses; then there is no job.
abbrev pub submitted : State → Session → Step
submitted s x = cond (only_reads x) (refused s 0 OnlyReading) (replied s reply.Submit)

-- Part 1 of a SUBMIT is the session's own. Part 2 is the begin of the refresh and part 3 its install, both by a worker, which keeps what was begun as a session does, and never has
-- a READ ONLY image open.
abbrev pub submit_step : State → Session → ℕ → Statement → Step
submit_step s x part (Refresh r) =
    cond (part == 1) (submitted s x) (cond (part == 2) (record { state = begin_refresh s x r; reply = None }) (install_named s x r))
submit_step s x part statement = submitted s x

-- The step of an entry: of the session, or of the worker, that has this number; with this command, and of this part.
abbrev pub step : State → ℕ → Command → ℕ → Step
step s session (commands.Block b) part = commit s (session_of s session) b
step s session (commands.Other statement) part = statement_step s (session_of s session) part statement
step s session (commands.Submit statement) part = submit_step s (session_of s session) part statement
