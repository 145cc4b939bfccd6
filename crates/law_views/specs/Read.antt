-- Commands whose queries are those that their tokens read as.
use Rattle.std.specs.List.{All}
use Rattle.std.specs.Prelude.{◌≡◌, List, Some}
use Rattle.def_grammar.specs.Query.{select}
use Rattle.def_grammar.specs.Reading.{whole}
use Rattle.wh_base.specs.declared.statements.Asked.{Asked}
use Rattle.wh_base.specs.declared.statements.Command.{Command}
use Rattle.wh_base.specs.declared.statements.Command.TheVariants as commands
use Rattle.wh_base.specs.declared.statements.Event.{Event}
use Rattle.wh_base.specs.declared.statements.Statement.{Statement}
use Rattle.wh_base.specs.declared.statements.Statement.TheVariants as about
use Rattle.wh_base.specs.declared.statements.ViewStatement.{ViewStatement}
use Rattle.wh_base.specs.declared.statements.ViewStatement.TheVariants.{CreateView}

-- the tokens that are kept with a query read as this query, whole
abbrev pub ReadsAs : Asked → Type 0
ReadsAs a = whole select a.tokens ≡ Some a.query

-- so it is with what the command asks, where it asks a query; what is submitted is a refresh and asks none
abbrev pub IsRead : Command → Type 0
IsRead (commands.Block b) = Unit {0}
IsRead (commands.Submit statement) = Unit {0}
IsRead (commands.Other statement) = statement_is_read statement
  where
    view_is_read : ViewStatement → Type 0
    view_is_read (CreateView v) = ReadsAs v.asked
    view_is_read v = Unit {0}

    statement_is_read : Statement → Type 0
    statement_is_read (about.Select a) = ReadsAs a
    statement_is_read (about.ExplainQuery a) = ReadsAs a
    statement_is_read (about.View v) = view_is_read v
    statement_is_read statement = Unit {0}

-- and with each command of a trace
abbrev pub AreRead : List Event → Type 0
AreRead trace = All (λ e. IsRead e.command) trace
