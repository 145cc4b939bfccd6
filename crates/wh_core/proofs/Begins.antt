-- What the first part of a SELECT, a SHOW or a refresh makes of a core: it leaves the catalog.
use Rattle.std.proofs.Common.{◌≡◌, ◌≤◌, ◌+◌, ◌∙◌, sym, ap, refl, subst, arith, ℕ, true, false, true≢false, List, [], ◌∷◌, ◌++◌, Some}
use Rattle.law_trace.proofs.Traces.{state_push}
use Rattle.std.specs.Prelude.{Err, Ok, Result}
use Rattle.wh_base.specs.declared.queries.StarQuery.{StarQuery}
use Rattle.wh_base.specs.declared.replies.Refusal.{Refusal}
use Rattle.wh_base.specs.declared.replies.Reply.{Reply}
use Rattle.wh_base.specs.declared.statements.Command.TheVariants as commands
use Rattle.wh_base.specs.declared.statements.Event.{Event}
use Rattle.wh_base.specs.declared.statements.Id.{Id}
use Rattle.wh_base.specs.declared.statements.ShowStatement.{ShowStatement}
use Rattle.wh_base.specs.declared.statements.ShowStatement.TheVariants.{ExplainView, ShowLog, ShowView, ValidateDimension}
use Rattle.wh_base.specs.declared.statements.Statement.{Statement}
use Rattle.wh_base.specs.declared.statements.Statement.TheVariants as about
use Rattle.def_choice.specs.Choice.{class_is_built}
use Rattle.def_history.specs.Catalog.{Catalog}
use Rattle.def_journal.specs.Answers.{answer, star_at}
use Rattle.def_journal.specs.Explaining.{explain_view, show_log, show_view, shown, the_dimension, the_log, the_view, validated}
use Rattle.def_journal.specs.Journal.{event_of, state_after, state_of}
use Rattle.def_journal.specs.State.{State, Step, image_of, refused, replied, session_of}
use Rattle.def_journal.specs.Steps.{show_step}
use Rattle.wh_core.proofs.Counts.{put_more}
use Rattle.wh_core.proofs.Events.{IsAccepted, as_it_was, next_core, oldest_reached}
use Rattle.wh_core.proofs.Known.{version_laws}
use Rattle.wh_core.specs.Calls.{bearer_of, begins_of, takes_image}
use Rattle.wh_core.specs.Kept.{IsCore, begun_count}
use Rattle.wh_table.specs.Stored.{Stored}
use Rattle.law_trace.specs.Reached.{begun_over, catalog_of, changes_versions}
use Rattle.wh_view.specs.Kept.{AllKept}

-- ---- what is answered leaves the state

abbrev given_step : State → (StarQuery → Reply) → Result StarQuery Refusal → Step
given_step s give (Err code) = refused s 0 code
given_step s give (Ok q) = replied s (give q)

given_stays : (s : State) (give : StarQuery → Reply) (r : Result StarQuery Refusal) → (given_step s give r).state ≡ s
given_stays s give (Err code) = refl
given_stays s give (Ok q) = refl

shown_stays : {A : Type 0} (s : State) (r : Result A Refusal) (give : A → Reply) → (shown s r give).state ≡ s
shown_stays s (Ok x) give = refl
shown_stays s (Err code) give = refl

show_stays : (s : State) (c : Catalog) (what : ShowStatement) → (show_step s c what).state ≡ s
show_stays s c (ShowView name) = shown_stays s (the_view c name) (show_view c)
show_stays s c (ShowLog name) = shown_stays s (the_log c name) (show_log c)
show_stays s c (ExplainView name) = shown_stays s (the_view c name) (explain_view c)
show_stays s c (ValidateDimension name) = shown_stays s (the_dimension c name) (validated c)

-- ---- the state after it

-- the catalog stays, and one session more may have begun a refresh
record Begins (s after : State) (begins : ℕ) : Type 0 where
  catalog : after.catalog ≡ s.catalog
  count : begun_count after.sessions ≤ begun_count s.sessions + begins

stays : (s after : State) → after ≡ s → Begins s after 0
stays s after is = record { catalog = ap (λ x. x.catalog) is; count = subst (λ n. n ≤ begun_count s.sessions + 0) (sym (ap (λ x. begun_count x.sessions) is)) (omega arith) }

begins : (s : State) (id : Id) (statement : Statement) → takes_image statement ≡ true → Begins s (state_after s (event_of id (commands.Other statement))) (begins_of statement)
begins s id (about.Select a) takes =
    let x = session_of s (bearer_of id) in
    stays s _ (given_stays s (answer class_is_built (image_of s x) x a) (star_at (image_of s x) a.query))
begins s id (about.Show what) takes = stays s _ (show_stays s (image_of s (session_of s (bearer_of id))) what)
begins s id (about.Refresh r) takes = record { catalog = refl; count = put_more s (record (session_of s (bearer_of id)) { begun = Some (begun_over s.catalog r.name) }) }
begins s id statement takes = absurd (true≢false (sym takes))

quiet : (statement : Statement) → takes_image statement ≡ true → changes_versions (commands.Other statement) ≡ false
quiet (about.Select a) takes = refl
quiet (about.Show what) takes = refl
quiet (about.Refresh r) takes = refl
quiet statement takes = absurd (true≢false (sym takes))

pub begun_core : (trace : List Event) (id : Id) (statement : Statement) (scn : ℕ) (tables : List Stored) (views : AllKept) (kept begun room : ℕ) → IsCore trace scn tables views kept begun room
    → IsAccepted (event_of id (commands.Other statement)) → takes_image statement ≡ true → (more : ℕ) → begun + begins_of statement ≤ more
    → IsCore (trace ++ event_of id (commands.Other statement) ∷ []) scn tables views kept (begun + begins_of statement) more
begun_core trace id statement scn tables views kept begun room core accepted takes more fits =
    let e : Event = event_of id (commands.Other statement) in
    let one : Begins (state_of trace) (state_after (state_of trace) e) (begins_of statement) = begins (state_of trace) id statement takes in
    let left : state_of (trace ++ e ∷ []) ≡ state_after (state_of trace) e = state_push trace e in
    next_core trace e scn tables views kept begun room core accepted (catalog_of trace) scn tables views kept (begun + begins_of statement) more
    (ap (λ s. s.catalog) left ∙ one.catalog) (as_it_was trace e scn tables views kept begun room core accepted)
    (core.counted ∙ sym (version_laws.others trace e (quiet statement takes) (oldest_reached trace core.built)))
    (subst (λ s. begun_count s.sessions ≤ begun + begins_of statement) (sym left) (omega (arith, one.count, core.enough))) fits
