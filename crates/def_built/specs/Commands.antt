-- Which commands the program runs so far: those of a form that is built, and for a time the conditions here. Each command is
-- built by itself, whatever stands before it.
use Rattle.def_built.specs.Forms.{block_form, change_form, is_built, statement_form}
use Rattle.def_built.specs.declared.forms.Form.TheVariants as forms
use Rattle.std.specs.List.{list_all}
use Rattle.std.specs.Prelude.{◌&&◌, Bool, List, Option, Some, false, is_none, not, true}
use Rattle.wh_base.specs.Lists.{is_empty}
use Rattle.wh_base.specs.declared.queries.RawQuery.{RawQuery}
use Rattle.wh_base.specs.declared.statements.Command.{Command}
use Rattle.wh_base.specs.declared.statements.Command.TheVariants as commands
use Rattle.wh_base.specs.declared.statements.Method.{Method}
use Rattle.wh_base.specs.declared.statements.Method.TheVariants.{Complete, Force}
use Rattle.wh_base.specs.declared.statements.NewTable.{NewTable}
use Rattle.wh_base.specs.declared.statements.NewView.{NewView}
use Rattle.wh_base.specs.declared.statements.PartChange.{PartChange}
use Rattle.wh_base.specs.declared.statements.PartChange.TheVariants.{Merge, Movement, Split}
use Rattle.wh_base.specs.declared.statements.RefreshView.{RefreshView}
use Rattle.wh_base.specs.declared.statements.ShowStatement.{ShowStatement}
use Rattle.wh_base.specs.declared.statements.ShowStatement.TheVariants.{ShowView}
use Rattle.wh_base.specs.declared.statements.Statement.{Statement}
use Rattle.wh_base.specs.declared.statements.Statement.TheVariants as about
use Rattle.wh_base.specs.declared.statements.TableStatement.{TableStatement}
use Rattle.wh_base.specs.declared.statements.TableStatement.TheVariants.{AlterTable, CreateTable}
use Rattle.wh_base.specs.declared.statements.ViewStatement.{ViewStatement}
use Rattle.wh_base.specs.declared.statements.ViewStatement.TheVariants.{CreateView}

-- ---- CREATE TABLE: all of it but PARTITION BY and ENABLE ROW MOVEMENT. What is wrong with it otherwise is refused when it runs

abbrev pub new_table_is_built : NewTable → Bool
new_table_is_built t = is_none t.partitioning && not t.movement

-- ---- ALTER TABLE: no SPLIT, no MERGE and no row movement

abbrev pub part_change_is_built : PartChange → Bool
part_change_is_built (Split s) = false
part_change_is_built (Merge s) = false
part_change_is_built (Movement on) = false
part_change_is_built c = true

abbrev pub table_statement_is_built : TableStatement → Bool
table_statement_is_built (CreateTable t) = is_built forms.CreateTable && new_table_is_built t
table_statement_is_built (AlterTable a) = is_built forms.AlterTable && part_change_is_built a.change

-- ---- SELECT: all of it but AS OF

abbrev pub query_is_built : RawQuery → Bool
query_is_built q = is_none q.as_of

-- ---- CREATE MATERIALIZED VIEW: REFRESH FORCE or REFRESH COMPLETE, and not ON COMMIT

abbrev pub method_is_built : Method → Bool
method_is_built Force = true
method_is_built Complete = true
method_is_built m = false

abbrev pub new_view_is_built : NewView → Bool
new_view_is_built v = method_is_built v.method && (not v.on_commit && query_is_built v.asked.query)

-- ALTER, DROP and UNREGISTER MATERIALIZED VIEW are built whole
abbrev pub view_statement_is_built : ViewStatement → Bool
view_statement_is_built (CreateView v) = new_view_is_built v
view_statement_is_built s = true

-- ---- DBMS_MVIEW.REFRESH: of one view, and with the letter C alone

abbrev pub is_complete : Option Method → Bool
is_complete (Some Complete) = true
is_complete m = false

abbrev pub refresh_is_built : RefreshView → Bool
refresh_is_built r = is_complete r.method && is_empty r.more

-- ---- SHOW VIEW alone of the statements that show something

abbrev pub show_is_built : ShowStatement → Bool
show_is_built (ShowView n) = true
show_is_built s = false

-- ---- commands

-- a statement that is no block. One that changes rows is always a block
abbrev pub statement_is_built : Statement → Bool
statement_is_built (about.Select a) = is_built forms.Select && query_is_built a.query
statement_is_built (about.Change s) = false
statement_is_built (about.Table s) = table_statement_is_built s
statement_is_built (about.View s) = is_built forms.View && view_statement_is_built s
statement_is_built (about.Refresh r) = is_built forms.Refresh && refresh_is_built r
statement_is_built (about.Show s) = is_built forms.Show && show_is_built s
statement_is_built s = is_built (statement_form s)

-- a statement of a block that changes rows is built by its form; every other is refused there, whatever it asks
abbrev pub part_of_block_is_built : Statement → Bool
part_of_block_is_built (about.Change s) = is_built (change_form s)
part_of_block_is_built s = true

-- a block is built by its form and by those of its statements
abbrev pub block_is_built : List Statement → Bool
block_is_built ss = is_built (block_form ss) && list_all part_of_block_is_built ss

abbrev pub command_is_built : Command → Bool
command_is_built (commands.Block b) = block_is_built b.statements
command_is_built (commands.Other s) = statement_is_built s
command_is_built (commands.Submit s) = is_built forms.Submit && statement_is_built s

abbrev pub commands_are_built : List Command → Bool
commands_are_built cs = list_all command_is_built cs
