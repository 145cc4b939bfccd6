-- A script that is read can be run.
use Rattle.std.proofs.Common.{◌≡◌, ap, refl, subst, sym, arith, suc, zero, ◌<◌, ◌≤◌, ◌==◌, ◌||◌, ◌&&◌, true, List, [], ◌∷◌, map}
use Rattle.std.specs.List.{All, AllByRecursion, AllPairs, list_all}
use Rattle.std.proofs.lemmas.Bool.{and_from, and_parts}
use Rattle.std.proofs.lemmas.List.Elements.{All-from_recursion}
use Rattle.def_built.specs.Commands.{command_is_built, commands_are_built}
use Rattle.def_built.specs.Form.{script_is_built, section_is_built, sections_are_built, views_are_built}
use Rattle.def_built.specs.Forms.{is_built}
use Rattle.def_built.specs.declared.forms.Form.TheVariants as forms
use Rattle.wh_base.specs.Lists.{is_empty}
use Rattle.wh_base.specs.declared.statements.Command.{Command}
use Rattle.wh_base.specs.declared.statements.Command.TheVariants as commands
use Rattle.wh_base.specs.declared.statements.Script.{Script}
use Rattle.wh_base.specs.declared.statements.Section.{Section}
use Rattle.def_journal.specs.Jobs.{accepted_submits}
use Rattle.def_journal.specs.Journal.{session_numbers}
use Rattle.def_journal.proofs.NoJobs.{accepts_nothing, submit_nothing}
use Rattle.wh_order.specs.Laws.{number_twice}
use Rattle.wh_session.specs.Run.{CanRun}
use Rattle.law_views.specs.Read.{IsRead}
use Rattle.wh_top.specs.Running.{IsRunnable, most_sessions}
use Rattle.wh_top.proofs.Apart.{once_from_ascent}

one_built : (s : Section) → section_is_built s ≡ true → commands_are_built s.commands ≡ true
one_built s h = (and_parts ((s.session == 0) || is_built forms.Session) (commands_are_built s.commands) h).1

each_built : (ss : List Section) → list_all section_is_built ss ≡ true → AllByRecursion (λ s. commands_are_built s.commands ≡ true) ss
each_built [] h = tt
each_built (s ∷ ss) h =
    let parts = and_parts (section_is_built s) (list_all section_is_built ss) h in
    (one_built s parts.0, each_built ss parts.1)

all_built : (ss : List Section) → sections_are_built ss ≡ true → AllByRecursion (λ s. commands_are_built s.commands ≡ true) ss
all_built [] h = tt
all_built (s ∷ []) h = (one_built s h, tt)
all_built (s ∷ t ∷ more) h = each_built (s ∷ t ∷ more) (and_parts (is_built forms.Session) (list_all section_is_built (s ∷ t ∷ more)) h).1

within_numbers : (ss : List Section) → All (λ n. n ≤ most_sessions) (map (λ s. s.session) ss) → All (λ s. s.session ≤ most_sessions) ss
within_numbers [] h k d within = absurd (omega (arith, within))
within_numbers (s ∷ ss) h zero d within = h 0 0 (omega arith)
within_numbers (s ∷ ss) h (suc k) d within = within_numbers ss (λ j e inside. h (suc j) e (omega (arith, inside))) k d (omega (arith, within))

-- what is built of a script: its sections, and beside them what isn't told by one section
built_sections : (script : Script) → script_is_built script ≡ true → sections_are_built script.sections ≡ true
built_sections script built =
    let views = views_are_built script.sections in
    let others = (is_empty script.order || is_built forms.Order) && ((script.workers == 0) || is_built forms.Workers) in
    (and_parts (sections_are_built script.sections) views (and_parts (sections_are_built script.sections && views) others built).0).0

can_run : (script : Script) → script_is_built script ≡ true → All (λ s. All IsRead s.commands) script.sections → All CanRun script.sections
can_run script built read =
    let all_commands : All (λ s. commands_are_built s.commands ≡ true) script.sections = All-from_recursion (λ s. commands_are_built s.commands ≡ true) script.sections (all_built script.sections (built_sections script built)) in
    λ k d within. record { built = all_commands k d within; read = read k d within }

-- ---- no jobs

-- no command of a form that is built submits anything
submits_nothing : (cs : List Command) → commands_are_built cs ≡ true → submit_nothing cs ≡ true
submits_nothing [] h = refl
submits_nothing (c ∷ cs) h =
    let parts = and_parts (command_is_built c) (commands_are_built cs) h in
    by c parts.0 (submits_nothing cs parts.1)
  where
    by : (c : Command) → command_is_built c ≡ true → submit_nothing cs ≡ true → submit_nothing (c ∷ cs) ≡ true
    by (commands.Block b) built rest = rest
    by (commands.Other s) built rest = rest
    by (commands.Submit s) built rest = absurd (cc)

all_submit_nothing : (ss : List Section) → AllByRecursion (λ s. commands_are_built s.commands ≡ true) ss → list_all (λ s. submit_nothing s.commands) ss ≡ true
all_submit_nothing [] h = refl
all_submit_nothing (s ∷ ss) h = and_from (submit_nothing s.commands) (list_all (λ t. submit_nothing t.commands) ss) (submits_nothing s.commands h.0) (all_submit_nothing ss h.1)

no_jobs : (script : Script) → script_is_built script ≡ true → accepted_submits script ≡ []
no_jobs script built = accepts_nothing script (all_submit_nothing script.sections (all_built script.sections (built_sections script built)))

-- ---- the whole

pub runnable : (script : Script) → script_is_built script ≡ true → All (λ s. All IsRead s.commands) script.sections → AllPairs (λ s t. s.session < t.session) script.sections → All (λ s. s.session ≤ most_sessions) script.sections → IsRunnable script
runnable script built read ascend low =
    record {
      built = built;
      sections = can_run script built read;
      differ = once_from_ascent script ascend;
      within = low;
      no_jobs = no_jobs script built;
    }

-- a script with these sessions
few_numbers : All (λ n. n ≤ most_sessions) (0 ∷ 1 ∷ 2 ∷ 3 ∷ [])
few_numbers = All-from_recursion (λ n. n ≤ most_sessions) (0 ∷ 1 ∷ 2 ∷ 3 ∷ []) (omega arith, (omega arith, (omega arith, (omega arith, tt))))

pub three_sessions : (script : Script) → script_is_built script ≡ true → All (λ s. All IsRead s.commands) script.sections → session_numbers script ≡ 0 ∷ 1 ∷ 2 ∷ 3 ∷ [] → IsRunnable script
three_sessions script built read numbers =
    record {
      built = built;
      sections = can_run script built read;
      differ = ap number_twice numbers;
      within = within_numbers script.sections (subst (All (λ n. n ≤ most_sessions)) (sym numbers) few_numbers);
      no_jobs = no_jobs script built;
    }
