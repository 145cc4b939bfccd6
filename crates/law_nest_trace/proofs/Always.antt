-- After every trace the install of a list moves all of its views or none.
use Rattle.std.proofs.Common.{◌≡◌, sym, subst, ℕ, ◌<◌, false, cond, [], ◌∷◌, None, Some, ◌==◌}
use Rattle.std.proofs.lemmas.List.Sums.{fold-append}
use Rattle.wh_base.specs.Lists.{is_empty}
use Rattle.wh_base.specs.declared.statements.Command.{Command}
use Rattle.wh_base.specs.declared.statements.Command.TheVariants as commands
use Rattle.wh_base.specs.declared.statements.RefreshView.{RefreshView}
use Rattle.def_history.specs.Catalog.{Catalog}
use Rattle.wh_base.specs.Parts.{entry_bearer}
use Rattle.def_journal.specs.Journal.{state_after, state_of}
use Rattle.def_journal.specs.Listing.{install_list, install_named}
use Rattle.def_journal.specs.Refreshing.{begin_refresh, install_refresh}
use Rattle.def_journal.specs.State.{State, empty_state, session_of}
use Rattle.def_journal.specs.Steps.{statement_step, step, submit_step, submitted}
use Rattle.law_nest_trace.specs.Laws.{catalog_of}
use Rattle.law_nest_trace.specs.Lists.{AreNumbered, Installed, IsInstall, TracesMoveLists}
use Rattle.law_trace.proofs.Listed.{each_weaker}
use Rattle.law_nest_trace.proofs.Moving.{lists_move_law}
use Rattle.law_nest_trace.proofs.Standing.{IsOver}
use Rattle.law_nest_trace.proofs.Stepping.{Stands, good_of, trace_stands}

numbered : (c : Catalog) → Stands c → AreNumbered c
numbered c h = record {
  ascending = h.ascending;
  older = each_weaker (IsOver c.views) (λ v. (n : ℕ) → v.def.beneath ≡ Some n → n < v.def.view) (λ v is n e. (is n e).older) c.views h.over;
}

module _ (P : State → Type 0) (s : State) (n : ℕ) (r : RefreshView) (many : is_empty r.more ≡ false) (h : P (install_list s (session_of s n) r).state) where
  named : P (install_named s (session_of s n) r).state
  named = subst (λ b. P (cond b (install_refresh s (session_of s n) r) (install_list s (session_of s n) r)).state) (sym many) h

  installed : (part : ℕ) (command : Command) → IsInstall r part command → P (step s n command part).state
  installed part (commands.Block b) is = absurd is
  installed part (commands.Other statement) is =
      subst (λ x. P (statement_step s (session_of s n) part x).state) (sym is.0)
      (subst (λ b. P (cond b (record { state = begin_refresh s (session_of s n) r; reply = None }) (install_named s (session_of s n) r)).state) (sym is.1) named)
  installed part (commands.Submit statement) is =
      subst (λ x. P (submit_step s (session_of s n) part x).state) (sym is.0)
      (subst (λ b. P (cond b (submitted s (session_of s n)) (cond (part == 2) (record { state = begin_refresh s (session_of s n) r; reply = None }) (install_named s (session_of s n) r))).state) (sym is.1.0)
      (subst (λ b. P (cond b (record { state = begin_refresh s (session_of s n) r; reply = None }) (install_named s (session_of s n) r)).state) (sym is.1.1) named))

pub traces_move_lists_law : TracesMoveLists
traces_move_lists_law trace e r b is begun =
    subst (λ (s : State). Installed b.image (catalog_of trace) s.catalog r) (sym (fold-append state_after empty_state trace (e ∷ [])))
    (installed (λ s. Installed b.image (catalog_of trace) s.catalog r) (state_of trace) (entry_bearer e.entry) r is.many
    (lists_move_law (state_of trace) (session_of (state_of trace) (entry_bearer e.entry)) r b begun
    (numbered b.image (good_of (state_of trace) (entry_bearer e.entry) (trace_stands trace) b begun)))
    e.entry.part e.command is.command)
