-- The answers of SELECT and EXPLAIN REWRITE over an image.
use Rattle.std.specs.Prelude.{Bool, Err, List, None, Ok, Option, Result, Some, [], cond, false, int_lt, map, nat_abs, pos, true, ℕ, ℤ, ◌∷◌}
use Rattle.wh_base.specs.Lists.{first_some, option_case, unless, where_true, ◌>>=◌}
use Rattle.wh_base.specs.Tables.{def_at, defs_of}
use Rattle.wh_base.specs.declared.queries.RawQuery.{RawQuery}
use Rattle.wh_base.specs.declared.queries.StarQuery.{StarQuery}
use Rattle.wh_base.specs.declared.replies.PlanLine.{PlanLine}
use Rattle.wh_base.specs.declared.replies.PlanLine.TheVariants.{BasePlan, ViewAt}
use Rattle.wh_base.specs.declared.replies.Refusal.{Refusal}
use Rattle.wh_base.specs.declared.replies.Refusal.TheVariants.{FutureScn, SnapshotTooOld}
use Rattle.wh_base.specs.declared.replies.Reply.{Reply}
use Rattle.wh_base.specs.declared.statements.Asked.{Asked}
use Rattle.wh_base.specs.declared.statements.Level.{Level}
use Rattle.wh_base.specs.declared.statements.Level.TheVariants.{Enforced, StaleTolerated, Trusted}
use Rattle.wh_base.specs.declared.values.Value.{Value}
use Rattle.wh_base.specs.declared.views.Back.{Back}
use Rattle.wh_base.specs.declared.views.Class.{Class}
use Rattle.wh_base.specs.declared.views.Plan.{Plan}
use Rattle.def_choice.specs.Choice.{asked_scn, base_then, choice, class_is_built, plan_meaning, plan_reads, verdicts}
use Rattle.def_history.specs.Catalog.{Catalog, base_at, defs_now}
use Rattle.def_history.specs.Declared.{relations_hold}
use Rattle.def_journal.specs.State.{Session, State, Step, image_of, refused, replied}
use Rattle.def_meaning.specs.Meaning.{meaning}
use Rattle.def_resolve.specs.Names.{table_refusal}
use Rattle.def_resolve.specs.Resolve.{resolve}
use Rattle.wh_base.specs.declared.replies.Reply.TheVariants as reply
use Rattle.wh_base.specs.declared.views.Plan.TheVariants as plan

-- AS OF asks for an SCN above that of the image, or below the oldest one.
abbrev pub scn_refusal : Catalog → Option ℤ → Option Refusal
scn_refusal c None = None
scn_refusal c (Some n) =
    first_some (where_true (int_lt (pos c.scn) n) (FutureScn n c.scn) ∷ where_true (int_lt n (pos c.oldest)) (SnapshotTooOld n c.oldest) ∷ [])

-- The first table of FROM that wasn't there at the SCN asked for.
abbrev pub missing_then : Catalog → RawQuery → Option Refusal
missing_then c raw = table_refusal (defs_of (base_at c (option_case raw.as_of c.scn nat_abs))) raw

-- Of these, the first: the SCN itself, and then a table.
abbrev pub time_refusal : Catalog → RawQuery → Option Refusal
time_refusal c raw = first_some (scn_refusal c raw.as_of ∷ missing_then c raw ∷ [])

-- The star form of the query; or its first refusal, those of its form before those of its SCN.
abbrev pub star_at : Catalog → RawQuery → Result StarQuery Refusal
star_at c raw = do
  q ← resolve (defs_now c) raw
  unless (time_refusal c raw) q

-- Whether the rows are the query's meaning over the base rows, whatever the plan: under ENFORCED
-- always, under TRUSTED where the declared relations hold in the image.
abbrev pub means_query : Catalog → Level → Bool
means_query c Enforced = true
means_query c Trusted = relations_hold c
means_query c StaleTolerated = false

-- The rows of an answer: the query's meaning at its SCN, or else what the plan printed gives.
abbrev pub plan_rows : Catalog → StarQuery → Level → Plan → List (List Value)
plan_rows c q level p = cond (means_query c level) (meaning q (base_then c q)) (plan_meaning c q p)

-- ---- how a plan prints

-- The names of the tables joined back.
abbrev pub back_names : Catalog → List Back → List (List ℕ)
back_names c backs = map (λ b. (def_at (defs_now c) b.table).name) backs

-- The plan as it prints.
abbrev pub plan_line : Catalog → Plan → PlanLine
plan_line c plan.Base = BasePlan
plan_line c (plan.View p) = ViewAt p.class p.name p.point (back_names c p.back)

-- ---- the replies

-- The plan that is chosen with the session's settings, where the classes that pass the test `built` are built.
abbrev pub chosen : (Class → Bool) → Catalog → Session → Asked → StarQuery → Plan
chosen built c x a q = choice built c q a.tokens x.level x.rewrite

-- ANSWER with the SCN asked for, the plan, the base rows read, and the rows.
abbrev pub answer : (Class → Bool) → Catalog → Session → Asked → StarQuery → Reply
answer built c x a q =
    let p = chosen built c x a q in
    reply.Answer (record { scn = asked_scn c q; plan = plan_line c p; read = plan_reads c q p; rows = plan_rows c q x.level p })

-- REWRITE with the plan that would be chosen, and each view's class or first failing condition. No base row is read.
abbrev pub explained : (Class → Bool) → Catalog → Session → Asked → StarQuery → Reply
explained built c x a q =
    reply.Rewrite (record { scn = asked_scn c q; plan = plan_line c (chosen built c x a q); verdicts = verdicts c q a.tokens x.level x.rewrite })

-- The refusal of the query, having read nothing, or the reply that its star form gives.
abbrev pub by_query : State → Catalog → Asked → (StarQuery → Reply) → Step
by_query s c a give = given (star_at c a.query)
  where
    given : Result StarQuery Refusal → Step
    given (Err code) = refused s 0 code
    given (Ok q) = replied s (give q)

-- The step of a SELECT.
abbrev pub select : State → Session → Asked → Step
select s x a = let c = image_of s x in by_query s c a (answer class_is_built c x a)

-- The step of an EXPLAIN REWRITE.
abbrev pub explain_query : State → Session → Asked → Step
explain_query s x a = let c = image_of s x in by_query s c a (explained class_is_built c x a)
