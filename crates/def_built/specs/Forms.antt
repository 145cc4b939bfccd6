-- The table of the forms that are built so far, and the form of each statement and command.
use Rattle.def_built.specs.declared.forms.Form.{Form}
use Rattle.def_built.specs.declared.forms.Form.TheVariants as forms
use Rattle.std.specs.Prelude.{Bool, List, [], false, true, ◌∷◌}
use Rattle.wh_base.specs.declared.statements.ChangeStatement.{ChangeStatement}
use Rattle.wh_base.specs.declared.statements.ChangeStatement.TheVariants as changes
use Rattle.wh_base.specs.declared.statements.Command.{Command}
use Rattle.wh_base.specs.declared.statements.Command.TheVariants as commands
use Rattle.wh_base.specs.declared.statements.Statement.{Statement}
use Rattle.wh_base.specs.declared.statements.Statement.TheVariants as about
use Rattle.wh_base.specs.declared.statements.TableStatement.{TableStatement}
use Rattle.wh_base.specs.declared.statements.TableStatement.TheVariants as tables

-- one truth value for each form
abbrev pub is_built : Form → Bool
is_built forms.Session = true
is_built forms.Order = true
is_built forms.Block = true
is_built forms.Load = true
is_built forms.Select = true
is_built forms.Insert = true
is_built forms.Update = true
is_built forms.Delete = true
is_built forms.CreateTable = true
is_built forms.AlterTable = false
is_built forms.Log = false
is_built forms.View = true
is_built forms.Dimension = false
is_built forms.Refresh = true
is_built forms.Purge = false
is_built forms.Show = true
is_built forms.ExplainQuery = false
is_built forms.Setting = false
is_built forms.Workers = false
is_built forms.Submit = false
is_built forms.Nested = false

abbrev pub change_form : ChangeStatement → Form
change_form (changes.Insert s) = forms.Insert
change_form (changes.Update s) = forms.Update
change_form (changes.Delete s) = forms.Delete
change_form (changes.Load s) = forms.Load

abbrev pub table_form : TableStatement → Form
table_form (tables.CreateTable t) = forms.CreateTable
table_form (tables.AlterTable a) = forms.AlterTable

abbrev pub statement_form : Statement → Form
statement_form (about.Select a) = forms.Select
statement_form (about.Change s) = change_form s
statement_form (about.Table s) = table_form s
statement_form (about.Log s) = forms.Log
statement_form (about.View s) = forms.View
statement_form (about.Dimension s) = forms.Dimension
statement_form (about.Refresh s) = forms.Refresh
statement_form (about.Purge s) = forms.Purge
statement_form (about.Show s) = forms.Show
statement_form (about.ExplainQuery a) = forms.ExplainQuery
statement_form (about.Session s) = forms.Setting

-- a statement that changes rows by itself is of its own form, and no block
abbrev pub block_form : List Statement → Form
block_form (about.Change s ∷ []) = change_form s
block_form ss = forms.Block

abbrev pub command_form : Command → Form
command_form (commands.Block b) = block_form b.statements
command_form (commands.Other s) = statement_form s
command_form (commands.Submit s) = forms.Submit
