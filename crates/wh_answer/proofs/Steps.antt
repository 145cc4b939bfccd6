-- The steps of SELECT and of SHOW VIEW by the replies that an image gives.
use Rattle.std.proofs.Common.{◌≡◌, ◌∙◌, refl, ℕ, Bool, List, Err, Ok, Result}
use Rattle.wh_base.specs.declared.queries.StarQuery.{StarQuery}
use Rattle.wh_base.specs.declared.replies.Refusal.{Refusal}
use Rattle.wh_base.specs.declared.replies.Reply.{Reply}
use Rattle.wh_base.specs.declared.statements.Asked.{Asked}
use Rattle.wh_base.specs.declared.statements.Level.{Level}
use Rattle.wh_base.specs.declared.statements.Level.TheVariants.{Enforced}
use Rattle.wh_base.specs.declared.statements.ShowStatement.TheVariants.{ShowView}
use Rattle.def_choice.specs.Choice.{class_is_built}
use Rattle.def_history.specs.Catalog.{Catalog, View}
use Rattle.def_journal.specs.Answers.{answer, select, star_at}
use Rattle.def_journal.specs.Explaining.{show_view, shown, the_view}
use Rattle.def_journal.specs.State.{Session, State, Step, image_of, new_session, refused, replied}
use Rattle.def_journal.specs.Steps.{show_step}
use Rattle.wh_answer.specs.Answered.{Selects, ShowsViews, enforced, refusal, selected, shown_view}

-- a step that refuses or replies, and its reply
abbrev step_by : {A : Type 0} → State → (A → Reply) → Result A Refusal → Step
step_by s give (Err code) = refused s 0 code
step_by s give (Ok x) = replied s (give x)

abbrev pub reply_by : {A : Type 0} → (A → Reply) → Result A Refusal → Reply
reply_by give (Err code) = refusal code
reply_by give (Ok x) = give x

step_replies : {A : Type 0} (s : State) (give : A → Reply) (r : Result A Refusal) → step_by s give r ≡ replied s (reply_by give r)
step_replies s give (Err code) = refl
step_replies s give (Ok x) = refl

abbrev answer_at : Catalog → Bool → Asked → StarQuery → Level → Reply
answer_at c rewrite a q level = answer class_is_built c (record (new_session 0) { level = level; rewrite = rewrite }) a q

selects_step : (s : State) (x : Session) (a : Asked) → x.level ≡ Enforced → select s x a ≡ replied s (selected (image_of s x) x.rewrite a)
selects_step s x a h =
    let c : Catalog = image_of s x in
    (λ i. step_by s (λ q. answer_at c x.rewrite a q (h i)) (star_at c a.query)) ∙ step_replies s (answer class_is_built c (enforced x.rewrite) a) (star_at c a.query)

pub selects : Selects
selects = record { step = selects_step }

shows_step : (s : State) (c : Catalog) (name : List ℕ) → show_step s c (ShowView name) ≡ replied s (shown_view c name)
shows_step s c name = by (the_view c name)
  where
    by : (r : Result View Refusal) → shown s r (show_view c) ≡ replied s (reply_by (show_view c) r)
    by (Err code) = refl
    by (Ok v) = refl

pub shows : ShowsViews
shows = record { step = shows_step }
