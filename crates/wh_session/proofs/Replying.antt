-- The replies of statements whose first part takes an image.
use Rattle.std.proofs.Common.{◌≡◌, ◌∙◌, ap, refl, sym, true, false, true≢false, List, [], ◌∷◌, Err, None, Ok, Option, Result, Some, ℕ}
use Rattle.law_lists.proofs.Options.{was_none}
use Rattle.std.proofs.lemmas.Bool.{and_parts, or_from}
use Rattle.std.specs.List.{list_any}
use Rattle.std.specs.Prelude.{unwrap_or}
use Rattle.wh_base.specs.declared.replies.Reply.{Reply}
use Rattle.wh_base.specs.declared.statements.Asked.{Asked}
use Rattle.wh_base.specs.declared.statements.Command.{Command}
use Rattle.wh_base.specs.declared.statements.Command.TheVariants as commands
use Rattle.wh_base.specs.declared.statements.Entry.{Entry}
use Rattle.wh_base.specs.declared.statements.Event.{Event}
use Rattle.wh_base.specs.declared.statements.Id.{Id}
use Rattle.wh_base.specs.declared.statements.ShowStatement.{ShowStatement}
use Rattle.wh_base.specs.declared.statements.ShowStatement.TheVariants.{ShowView}
use Rattle.wh_base.specs.declared.statements.Statement.{Statement}
use Rattle.wh_base.specs.declared.statements.Statement.TheVariants as about
use Rattle.def_built.specs.Commands.{command_is_built, commands_are_built}
use Rattle.def_history.specs.Catalog.{Catalog, View}
use Rattle.def_journal.specs.Explaining.{show_view, the_view}
use Rattle.def_output.specs.Reads.{read_of}
use Rattle.wh_base.specs.declared.replies.Refusal.{Refusal}
use Rattle.wh_base.specs.declared.replies.Reply.TheVariants as reply
use Rattle.def_journal.specs.Journal.{commands_of, event_of, reply_to, state_of}
use Rattle.def_journal.specs.State.{Session, image_of, session_of}
use Rattle.wh_answer.specs.Answered.{Selects, ShowsViews, selected, shown_view}
use Rattle.wh_core.specs.Calls.{bearer_of}
use Rattle.law_trace.specs.Reached.{catalog_of}
use Rattle.law_views.specs.Laws.{SessionsArePlain, is_setting}

-- ---- no command of a form that is built sets anything

sets_nothing : (entry : Entry) (k : Command) → command_is_built k ≡ true → is_setting (record { entry = entry; command = k }) ≡ false
sets_nothing entry (commands.Block b) built = refl
sets_nothing entry (commands.Other (about.Session s)) built = absurd (true≢false (sym built))
sets_nothing entry (commands.Other s) built = refl
sets_nothing entry (commands.Submit s) built = absurd (true≢false (sym built))

pub none_sets : (trace : List Event) → commands_are_built (commands_of trace) ≡ true → list_any is_setting trace ≡ false
none_sets [] built = refl
none_sets (e ∷ trace) built =
    or_from (is_setting e) (list_any is_setting trace) (sets_nothing e.entry e.command (and_parts (command_is_built e.command) _ built).0)
    (none_sets trace (and_parts (command_is_built e.command) _ built).1)

-- ---- so the session is as it began

module _ (plain : SessionsArePlain) (trace : List Event) (id : Id) (built : commands_are_built (commands_of trace) ≡ true) where
  pub selects : Selects → (a : Asked) → reply_to trace (event_of id (commands.Other (about.Select a))) ≡ Some (selected (catalog_of trace) true a)
  selects agree a =
      let none = none_sets trace built in
      let x : Session = session_of (state_of trace) (bearer_of id) in
      ap (λ step. step.reply) (agree.step (state_of trace) x a (plain.level trace (bearer_of id) none))
      ∙ (λ i. Some (selected (unwrap_or (plain.reading trace (bearer_of id) none i) (catalog_of trace)) (plain.rewrite trace (bearer_of id) none i) a))

  pub shows : ShowsViews → (name : List ℕ) → reply_to trace (event_of id (commands.Other (about.Show (ShowView name)))) ≡ Some (shown_view (catalog_of trace) name)
  shows agree name =
      let none = none_sets trace built in
      let x : Session = session_of (state_of trace) (bearer_of id) in
      ap (λ step. step.reply) (agree.step (state_of trace) (image_of (state_of trace) x) name)
      ∙ ap (λ (o : Option Catalog). Some (shown_view (unwrap_or o (catalog_of trace)) name)) (plain.reading trace (bearer_of id) none)

  -- for a command that is one of these
  pub select_reply : Selects → (k : Command) (s : Statement) (a : Asked) (r : Reply) → k ≡ commands.Other s → s ≡ about.Select a → r ≡ selected (catalog_of trace) true a → reply_to trace (event_of id k) ≡ Some r
  select_reply agree k s a r of is answer = ap (λ c. reply_to trace (event_of id c)) (of ∙ ap commands.Other is) ∙ selects agree a ∙ ap Some (sym answer)

  pub show_reply : ShowsViews → (k : Command) (s : Statement) (shown : ShowStatement) (name : List ℕ) (r : Reply) → k ≡ commands.Other s → s ≡ about.Show shown → shown ≡ ShowView name
      → r ≡ shown_view (catalog_of trace) name → reply_to trace (event_of id k) ≡ Some r
  show_reply agree k s shown name r of is this answer = ap (λ c. reply_to trace (event_of id c)) (of ∙ ap commands.Other (is ∙ ap about.Show this)) ∙ shows agree name ∙ ap Some (sym answer)

-- ---- SHOW VIEW reads no base rows

-- the reply by what was found
abbrev shown_by : Catalog → Result View Refusal → Reply
shown_by c (Err code) = reply.Refuse (record { code = code; at = None; read = 0 })
shown_by c (Ok v) = show_view c v

unread_of : (c : Catalog) (found : Result View Refusal) → read_of (shown_by c found) ≡ 0
unread_of c (Err code) = refl
unread_of c (Ok v) = refl

pub shows_unread : (trace : List Event) (name : List ℕ) (r : Reply) → r ≡ shown_view (catalog_of trace) name → read_of r ≡ 0
shows_unread trace name r is = ap read_of is ∙ unread_of (catalog_of trace) (the_view (catalog_of trace) name)

-- a query that is built has no AS OF
pub asks_now : (k : Command) (s : Statement) (a : Asked) → k ≡ commands.Other s → s ≡ about.Select a → command_is_built k ≡ true → a.query.as_of ≡ None
asks_now k s a command statement built = was_none a.query.as_of (sym (ap command_is_built (command ∙ ap commands.Other statement)) ∙ built)
