-- Sessions keep the settings that they began with, where no event sets any.
use Rattle.std.proofs.Common.{◌≡◌, ◌∙◌, refl, ℕ, true, false, List, [], ◌∷◌, None}
use Rattle.std.proofs.lemmas.Bool.{or_parts}
use Rattle.std.specs.List.{fold, list_any}
use Rattle.wh_base.specs.declared.statements.Event.{Event}
use Rattle.wh_base.specs.declared.statements.Level.TheVariants.{Enforced}
use Rattle.def_journal.specs.Journal.{state_after, state_of}
use Rattle.def_journal.specs.State.{Session, State, empty_state, session_of}
use Rattle.law_views.proofs.Stepping.{SameSettings, seen}
use Rattle.law_views.specs.Laws.{SessionsArePlain, is_setting}

record IsPlain (x : Session) : Type 0 where
  level : x.level ≡ Enforced
  rewrite : x.rewrite ≡ true
  reading : x.reading ≡ None

plain_on : (x y : Session) → SameSettings x y → IsPlain x → IsPlain y
plain_on x y same h = record { level = same.level ∙ h.level; rewrite = same.rewrite ∙ h.rewrite; reading = same.reading ∙ h.reading }

events_plain : (s : State) (events : List Event) (n : ℕ) → list_any is_setting events ≡ false → IsPlain (session_of s n) → IsPlain (session_of (fold state_after s events) n)
events_plain s [] n none h = h
events_plain s (e ∷ events) n none h =
    events_plain (state_after s e) events n (or_parts (is_setting e) (list_any is_setting events) none).1
    (plain_on (session_of s n) (session_of (state_after s e) n) ((seen s e).settings (or_parts (is_setting e) (list_any is_setting events) none).0 n) h)

trace_plain : (trace : List Event) (n : ℕ) → list_any is_setting trace ≡ false → IsPlain (session_of (state_of trace) n)
trace_plain trace n none = events_plain empty_state trace n none (record { level = refl; rewrite = refl; reading = refl })

pub plain_sessions : SessionsArePlain
plain_sessions =
    record {
      level = λ trace n none. (trace_plain trace n none).level;
      rewrite = λ trace n none. (trace_plain trace n none).rewrite;
      reading = λ trace n none. (trace_plain trace n none).reading;
    }
