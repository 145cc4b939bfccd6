-- Traces one event longer, and induction over them.
use Rattle.std.proofs.Common.{◌≡◌, ◌∙◌, sym, refl, subst, ℕ, false, List, [], ◌∷◌, ◌++◌}
use Rattle.std.proofs.lemmas.Bool.{or_parts}
use Rattle.std.specs.List.{fold, list_any}
use Rattle.std.proofs.lemmas.List.{append-nil, append_assoc}
use Rattle.std.proofs.lemmas.List.Sums.{fold-append}
use Rattle.wh_base.specs.declared.statements.Event.{Event}
use Rattle.def_journal.specs.Journal.{state_after, state_of}
use Rattle.def_journal.specs.State.{State, empty_state, session_of}
use Rattle.law_trace.proofs.Stepping.{moves}
use Rattle.law_trace.specs.Laws.{SessionLaws}
use Rattle.law_trace.specs.Reached.{is_of}

pub state_more : (trace more : List Event) → state_of (trace ++ more) ≡ fold state_after (state_of trace) more
state_more trace more = fold-append state_after empty_state trace more

pub state_push : (trace : List Event) (e : Event) → state_of (trace ++ e ∷ []) ≡ state_after (state_of trace) e
state_push trace e = fold-append state_after empty_state trace (e ∷ [])

from : (P : List Event → Type 0) → ((front : List Event) (e : Event) → P front → P (front ++ e ∷ [])) → (front rest : List Event) → P front → P (front ++ rest)
from P more front [] h = subst P (sym (append-nil front)) h
from P more front (e ∷ rest) h = subst P (append_assoc front (e ∷ []) rest) (from P more (front ++ e ∷ []) rest (more front e h))

-- what holds of no events, and of one more where it holds of those before, holds of every trace
pub by_events : (P : List Event → Type 0) → P [] → ((front : List Event) (e : Event) → P front → P (front ++ e ∷ [])) → (trace : List Event) → P trace
by_events P none more trace = from P more [] trace none

-- ---- sessions

events_apart : (s : State) (events : List Event) (n : ℕ) → list_any (is_of n) events ≡ false → session_of (fold state_after s events) n ≡ session_of s n
events_apart s [] n none = refl
events_apart s (e ∷ events) n none =
    events_apart (state_after s e) events n (or_parts (is_of n e) (list_any (is_of n) events) none).1
    ∙ (moves s e).others n (or_parts (is_of n e) (list_any (is_of n) events) none).0

traces_apart : (trace more : List Event) (n : ℕ) → list_any (is_of n) more ≡ false → session_of (state_of (trace ++ more)) n ≡ session_of (state_of trace) n
traces_apart trace more n none = subst (λ s. session_of s n ≡ session_of (state_of trace) n) (sym (state_more trace more)) (events_apart (state_of trace) more n none)

pub session_laws : SessionLaws
session_laws = record { event = λ s e n differ. (moves s e).others n differ; events = events_apart; traces = traces_apart }
