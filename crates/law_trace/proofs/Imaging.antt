-- What a session keeps was the catalog of a front of the trace.
use Rattle.std.proofs.Common.{◌≡◌, ◌∙◌, sym, ap, refl, subst, ℕ, Bool, true, false, List, [], ◌∷◌, ◌++◌, Some}
use Rattle.std.proofs.lemmas.Option.{none-some, same_Some}
use Rattle.std.proofs.lemmas.Bool.{eqb-true}
use Rattle.std.proofs.lemmas.List.{append_assoc}
use Rattle.wh_base.specs.Parts.{entry_bearer}
use Rattle.wh_base.specs.declared.statements.Event.{Event}
use Rattle.def_history.specs.Catalog.{Catalog}
use Rattle.def_journal.specs.Journal.{state_after, state_of}
use Rattle.def_journal.specs.State.{Begun, Session, State, session_of}
use Rattle.law_trace.proofs.Moves.{Begins, Closes, Ends, Keeps, Opens, Turn, own}
use Rattle.law_trace.proofs.Stepping.{moves}
use Rattle.law_trace.proofs.Traces.{by_events, state_push}
use Rattle.law_trace.specs.Reached.{HasBegun, HasOpened, begun_over, catalog_of, is_of}

-- a trace that is one event longer
longer : (front rest trace : List Event) (event e : Event) → trace ≡ front ++ event ∷ rest → trace ++ e ∷ [] ≡ front ++ event ∷ (rest ++ e ∷ [])
longer front rest trace event e is = ap (λ events. events ++ e ∷ []) is ∙ append_assoc front (event ∷ rest) (e ∷ [])

-- ---- what was begun

begun_longer : (trace : List Event) (e : Event) (n : ℕ) (b : Begun) → HasBegun trace n b → HasBegun (trace ++ e ∷ []) n b
begun_longer trace e n b h =
    record {
      front = h.front;
      event = h.event;
      rest = h.rest ++ e ∷ [];
      asked = h.asked;
      is = longer h.front h.rest trace h.event e h.is;
      session = h.session;
      begins = h.begins;
      kept = h.kept;
    }

own_begun : (trace : List Event) (e : Event) (b : Begun) (y : Session) → ((own (state_of trace) e).begun ≡ Some b → HasBegun trace (entry_bearer e.entry) b)
    → Turn (state_of trace) e y → y.begun ≡ Some b → HasBegun (trace ++ e ∷ []) (entry_bearer e.entry) b
own_begun trace e b y h (Keeps reading begun) found = begun_longer trace e (entry_bearer e.entry) b (h (sym begun ∙ found))
own_begun trace e b y h (Closes is) found = begun_longer trace e (entry_bearer e.entry) b (h (sym (ap (λ (x : Session). x.begun) is) ∙ found))
own_begun trace e b y h (Opens command is) found = begun_longer trace e (entry_bearer e.entry) b (h (sym (ap (λ (x : Session). x.begun) is) ∙ found))
own_begun trace e b y h (Begins r begins is) found =
    record {
      front = trace;
      event = e;
      rest = [];
      asked = r;
      is = refl;
      session = refl;
      begins = begins;
      kept = same_Some b (begun_over (catalog_of trace) r.name) (sym found ∙ ap (λ (x : Session). x.begun) is);
    }
own_begun trace e b y h (Ends is) found = absurd (none-some b (sym (ap (λ (x : Session). x.begun) is) ∙ found))

begun_more : (trace : List Event) (e : Event) → ((n : ℕ) (b : Begun) → (session_of (state_of trace) n).begun ≡ Some b → HasBegun trace n b)
    → (n : ℕ) (b : Begun) → (session_of (state_of (trace ++ e ∷ [])) n).begun ≡ Some b → HasBegun (trace ++ e ∷ []) n b
begun_more trace e h n b found = by (is_of n e) refl
  where
    after : (session_of (state_after (state_of trace) e) n).begun ≡ Some b
    after = subst (λ (s : State). (session_of s n).begun ≡ Some b) (state_push trace e) found

    by : (own : Bool) → is_of n e ≡ own → HasBegun (trace ++ e ∷ []) n b
    by true is =
        let same : (entry_bearer e.entry) ≡ n = eqb-true (entry_bearer e.entry) n is in
        subst (λ k. HasBegun (trace ++ e ∷ []) k b) same
        (own_begun trace e b (session_of (state_after (state_of trace) e) (entry_bearer e.entry)) (h (entry_bearer e.entry) b) (moves (state_of trace) e).session
        (subst (λ k. (session_of (state_after (state_of trace) e) k).begun ≡ Some b) (sym same) after))
    by false is = begun_longer trace e n b (h n b (sym (ap (λ (x : Session). x.begun) ((moves (state_of trace) e).others n is)) ∙ after))

pub all_begun : (trace : List Event) (n : ℕ) (b : Begun) → (session_of (state_of trace) n).begun ≡ Some b → HasBegun trace n b
all_begun = by_events (λ trace. (n : ℕ) (b : Begun) → (session_of (state_of trace) n).begun ≡ Some b → HasBegun trace n b) (λ n b found. absurd (none-some b found)) begun_more

-- ---- what is read

opened_longer : (trace : List Event) (e : Event) (n : ℕ) (image : Catalog) → HasOpened trace n image → HasOpened (trace ++ e ∷ []) n image
opened_longer trace e n image h =
    record {
      front = h.front;
      event = h.event;
      rest = h.rest ++ e ∷ [];
      is = longer h.front h.rest trace h.event e h.is;
      session = h.session;
      command = h.command;
      kept = h.kept;
    }

own_opened : (trace : List Event) (e : Event) (image : Catalog) (y : Session) → ((own (state_of trace) e).reading ≡ Some image → HasOpened trace (entry_bearer e.entry) image)
    → Turn (state_of trace) e y → y.reading ≡ Some image → HasOpened (trace ++ e ∷ []) (entry_bearer e.entry) image
own_opened trace e image y h (Keeps reading begun) found = opened_longer trace e (entry_bearer e.entry) image (h (sym reading ∙ found))
own_opened trace e image y h (Closes is) found = absurd (none-some image (sym (ap (λ (x : Session). x.reading) is) ∙ found))
own_opened trace e image y h (Opens command is) found =
    record {
      front = trace;
      event = e;
      rest = [];
      is = refl;
      session = refl;
      command = command;
      kept = same_Some image (catalog_of trace) (sym found ∙ ap (λ (x : Session). x.reading) is);
    }
own_opened trace e image y h (Begins r begins is) found = opened_longer trace e (entry_bearer e.entry) image (h (sym (ap (λ (x : Session). x.reading) is) ∙ found))
own_opened trace e image y h (Ends is) found = opened_longer trace e (entry_bearer e.entry) image (h (sym (ap (λ (x : Session). x.reading) is) ∙ found))

opened_more : (trace : List Event) (e : Event) → ((n : ℕ) (image : Catalog) → (session_of (state_of trace) n).reading ≡ Some image → HasOpened trace n image)
    → (n : ℕ) (image : Catalog) → (session_of (state_of (trace ++ e ∷ [])) n).reading ≡ Some image → HasOpened (trace ++ e ∷ []) n image
opened_more trace e h n image found = by (is_of n e) refl
  where
    after : (session_of (state_after (state_of trace) e) n).reading ≡ Some image
    after = subst (λ (s : State). (session_of s n).reading ≡ Some image) (state_push trace e) found

    by : (own : Bool) → is_of n e ≡ own → HasOpened (trace ++ e ∷ []) n image
    by true is =
        let same : (entry_bearer e.entry) ≡ n = eqb-true (entry_bearer e.entry) n is in
        subst (λ k. HasOpened (trace ++ e ∷ []) k image) same
        (own_opened trace e image (session_of (state_after (state_of trace) e) (entry_bearer e.entry)) (h (entry_bearer e.entry) image) (moves (state_of trace) e).session
        (subst (λ k. (session_of (state_after (state_of trace) e) k).reading ≡ Some image) (sym same) after))
    by false is = opened_longer trace e n image (h n image (sym (ap (λ (x : Session). x.reading) ((moves (state_of trace) e).others n is)) ∙ after))

pub all_opened : (trace : List Event) (n : ℕ) (image : Catalog) → (session_of (state_of trace) n).reading ≡ Some image → HasOpened trace n image
all_opened = by_events (λ trace. (n : ℕ) (image : Catalog) → (session_of (state_of trace) n).reading ≡ Some image → HasOpened trace n image) (λ n image found. absurd (none-some image found)) opened_more
