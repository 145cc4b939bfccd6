-- What is so of a trace whose commands are built, and of one event more.
use Rattle.std.proofs.Common.{◌≡◌, ◌≤◌, ◌+◌, ◌∙◌, sym, ap, refl, subst, arith, ℕ, Bool, true, false, true≢false, List, [], ◌∷◌, ◌++◌, None, Option, Some}
use Rattle.law_trace.proofs.Traces.{state_push}
use Rattle.std.proofs.lemmas.Bool.{and_from, and_parts, or_from, or_left}
use Rattle.std.proofs.lemmas.List.{append-nil, append_assoc, length-append}
use Rattle.std.proofs.lemmas.List.Elements.{All-append, All-cons, All-nil, All-weaker}
use Rattle.std.proofs.lemmas.List.Folds.{list_any-append}
use Rattle.std.specs.List.{All, list_any}
use Rattle.wh_base.specs.Lists.{same_text}
use Rattle.wh_base.specs.declared.replies.Refusal.{Refusal}
use Rattle.wh_base.specs.declared.replies.Reply.{Reply}
use Rattle.wh_base.specs.declared.replies.Reply.TheVariants.{Refuse}
use Rattle.wh_base.specs.declared.statements.Command.{Command}
use Rattle.wh_base.specs.declared.statements.Event.{Event}
use Rattle.wh_base.specs.declared.statements.Command.TheVariants as commands
use Rattle.wh_base.specs.declared.statements.SessionStatement.TheVariants.{ReadOnly}
use Rattle.wh_base.specs.declared.statements.Entry.{Entry}
use Rattle.wh_base.specs.declared.statements.Statement.TheVariants as about
use Rattle.def_built.specs.Commands.{command_is_built, commands_are_built}
use Rattle.def_built.specs.Form.{created_by}
use Rattle.def_history.specs.Catalog.{Catalog}
use Rattle.def_history.specs.History.{kept_versions}
use Rattle.def_journal.specs.Journal.{commands_of, event_step, reply_to, state_of}
use Rattle.def_journal.specs.State.{only_reads, refused, replied, session_of, with_catalog}
use Rattle.wh_core.proofs.Known.{change_laws, image_laws, version_laws, view_laws}
use Rattle.wh_core.specs.Calls.{names_created}
use Rattle.wh_core.specs.Kept.{IsCore, IsNamedBy, begun_count}
use Rattle.wh_image.specs.Laws.{IsBounded}
use Rattle.wh_image.specs.Standing.{StandsFor}
use Rattle.wh_table.specs.Stored.{Stored}
use Rattle.law_trace.specs.Reached.{HasOpened, asks_below_zero, catalog_of, changes_versions}
use Rattle.wh_view.specs.Kept.{AllKept, Kept}
use Rattle.law_views.specs.Read.{IsRead}

-- ---- one event more

pub built_more : (trace : List Event) (e : Event) → commands_are_built (commands_of trace) ≡ true → command_is_built e.command ≡ true
    → commands_are_built (commands_of (trace ++ e ∷ [])) ≡ true
built_more [] e h one = and_from (command_is_built e.command) true one refl
built_more (d ∷ trace) e h one =
    and_from (command_is_built d.command) _ (and_parts (command_is_built d.command) _ h).0 (built_more trace e (and_parts (command_is_built d.command) _ h).1 one)

-- the names of the views that were created before an event, and by it
abbrev pub names_after : List Event → Event → List (List ℕ)
names_after trace e = names_created (commands_of trace) ++ created_by e.command

names_push : (trace : List Event) (e : Event) → names_created (commands_of (trace ++ e ∷ [])) ≡ names_after trace e
names_push [] e = append-nil (created_by e.command)
names_push (d ∷ trace) e =
    ap (λ names. created_by d.command ++ names) (names_push trace e)
    ∙ sym (append_assoc (created_by d.command) (names_created (commands_of trace)) (created_by e.command))

-- what is named by some is named by more
pub named_more : (names more : List (List ℕ)) (ks : List Kept) → All (IsNamedBy names) ks → All (IsNamedBy (names ++ more)) ks
named_more names more ks h =
    All-weaker (IsNamedBy names) (IsNamedBy (names ++ more))
    (λ k is. list_any-append (same_text k.view.def.name) names more ∙ or_left (list_any (same_text k.view.def.name) names) (list_any (same_text k.view.def.name) more) is) ks h

-- each event of a trace whose commands are built has one
pub built_each : (front : List Event) (e : Event) (rest : List Event) → commands_are_built (commands_of (front ++ e ∷ rest)) ≡ true → command_is_built e.command ≡ true
built_each [] e rest h = (and_parts (command_is_built e.command) _ h).0
built_each (d ∷ front) e rest h = built_each front e rest (and_parts (command_is_built d.command) _ h).1

-- ---- what no built command does

no_setting : (k : Command) → k ≡ commands.Other (about.Session ReadOnly) → command_is_built k ≡ true → ⊥
no_setting k is built = true≢false (sym built ∙ ap command_is_built is)

-- no session keeps an image of its own
pub plain_session : (trace : List Event) (n : ℕ) → commands_are_built (commands_of trace) ≡ true → (session_of (state_of trace) n).reading ≡ None
plain_session trace n built = by (session_of (state_of trace) n).reading refl
  where
    opened : (image : Catalog) → HasOpened trace n image → ⊥
    opened image h = no_setting h.event.command h.command (built_each h.front h.event h.rest (subst (λ t. commands_are_built (commands_of t) ≡ true) h.is built))

    by : (o : Option Catalog) → (session_of (state_of trace) n).reading ≡ o → o ≡ None
    by None same = refl
    by (Some image) same = absurd (opened image (image_laws.opened trace n image same))

pub not_reading : (trace : List Event) (n : ℕ) → commands_are_built (commands_of trace) ≡ true → only_reads (session_of (state_of trace) n) ≡ false
not_reading trace n built = ap (λ (o : Option Catalog). is_reading o) (plain_session trace n built)
  where
    is_reading : Option Catalog → Bool
    is_reading None = false
    is_reading (Some image) = true

-- no PURGE UNDO asks for an SCN below zero
asks_none : (entry : Entry) (k : Command) → command_is_built k ≡ true → asks_below_zero (record { entry = entry; command = k }) ≡ false
asks_none entry (commands.Block b) built = refl
asks_none entry (commands.Other (about.Purge p)) built = absurd (true≢false (sym built))
asks_none entry (commands.Other statement) built = refl
asks_none entry (commands.Submit statement) built = refl

pub none_asks : (trace : List Event) → commands_are_built (commands_of trace) ≡ true → list_any asks_below_zero trace ≡ false
none_asks [] h = refl
none_asks (e ∷ trace) h =
    or_from (asks_below_zero e) (list_any asks_below_zero trace) (asks_none e.entry e.command (and_parts (command_is_built e.command) _ h).0)
    (none_asks trace (and_parts (command_is_built e.command) _ h).1)

-- so the oldest SCN that AS OF may ask for was reached
pub oldest_reached : (trace : List Event) → commands_are_built (commands_of trace) ≡ true → (catalog_of trace).oldest ≤ (catalog_of trace).scn
oldest_reached trace built = version_laws.oldest trace (none_asks trace built)

-- nothing in the catalog is above its SCN
pub bounded : (trace : List Event) → IsBounded (catalog_of trace)
bounded trace = record { changes = change_laws.bounded trace; points = view_laws.points trace }

-- ---- what is kept of one event more

-- the event's command is built, and its text reads as what it asks
pub record IsAccepted (e : Event) : Type 0 where
  pub built : command_is_built e.command ≡ true
  pub read : IsRead e.command

-- what a core keeps after an event, and the event's reply
pub record After (trace : List Event) (e : Event) (scn : ℕ) (tables : List Stored) (views : AllKept) (kept begun : ℕ) (answer : Reply) : Type 0 where
  pub core : (room : ℕ) → begun ≤ room → IsCore (trace ++ e ∷ []) scn tables views kept begun room
  pub reply : reply_to trace e ≡ Some answer

-- what the event leaves of the image, in the catalog d: its views bear names that were created before, or by it
pub record Stands (d : Catalog) (names : List (List ℕ)) (before made scn : ℕ) (tables : List Stored) (views : AllKept) : Type 0 where
  pub stands : StandsFor scn tables views d
  pub on_demand : All (λ k. k.view.def.on_commit ≡ false) views.views
  pub named : All (IsNamedBy names) views.views
  pub scn_one : scn ≤ before + 1
  pub made_one : views.made ≤ made + 1

module _ (trace : List Event) (e : Event) (scn : ℕ) (tables : List Stored) (views : AllKept) (kept begun room : ℕ) (core : IsCore trace scn tables views kept begun room) (accepted : IsAccepted e) where
  pub next_core : (d : Catalog) (scn2 : ℕ) (tables2 : List Stored) (views2 : AllKept) (kept2 begun2 room2 : ℕ) → catalog_of (trace ++ e ∷ []) ≡ d
      → Stands d (names_after trace e) scn views.made scn2 tables2 views2 → kept2 ≡ kept_versions (catalog_of (trace ++ e ∷ []))
      → begun_count (state_of (trace ++ e ∷ [])).sessions ≤ begun2 → begun2 ≤ room2
      → IsCore (trace ++ e ∷ []) scn2 tables2 views2 kept2 begun2 room2
  next_core d scn2 tables2 views2 kept2 begun2 room2 is after counted fewer fits =
      record {
        image = record {
          stands = subst (StandsFor scn2 tables2 views2) (sym is) after.stands;
          read = All-append (λ x. IsRead x.command) trace (e ∷ []) core.image.read (All-cons (λ x. IsRead x.command) e [] accepted.read (All-nil (λ x. IsRead x.command)));
        };
        built = built_more trace e core.built accepted.built;
        on_demand = after.on_demand;
        named = subst (λ names. All (IsNamedBy names) views2.views) (sym (names_push trace e)) after.named;
        counted = counted;
        enough = fewer;
        fits = fits;
        scn_within = omega (arith, length-append trace (e ∷ []), core.scn_within, after.scn_one);
        made_within = omega (arith, length-append trace (e ∷ []), core.made_within, after.made_one);
      }

  -- an event that leaves the sessions as they are
  pub tells : (kept2 : ℕ) → kept2 ≡ kept_versions (catalog_of (trace ++ e ∷ [])) → (d : Catalog) (answer : Reply)
      → event_step (state_of trace) e ≡ replied (with_catalog (state_of trace) d) answer → (scn2 : ℕ) (tables2 : List Stored) (views2 : AllKept) → Stands d (names_after trace e) scn views.made scn2 tables2 views2
      → After trace e scn2 tables2 views2 kept2 begun answer
  tells kept2 counted d answer is scn2 tables2 views2 after =
      let left : state_of (trace ++ e ∷ []) ≡ with_catalog (state_of trace) d = state_push trace e ∙ ap (λ x. x.state) is in
      record {
        core = λ room2 fits. next_core d scn2 tables2 views2 kept2 begun room2 (ap (λ s. s.catalog) left) after counted
            (subst (λ s. begun_count s.sessions ≤ begun) (sym left) core.enough) fits;
        reply = ap (λ x. x.reply) is;
      }

  -- the same of one that is no block
  pub replies : changes_versions e.command ≡ false → (d : Catalog) (answer : Reply) → event_step (state_of trace) e ≡ replied (with_catalog (state_of trace) d) answer
      → (scn2 : ℕ) (tables2 : List Stored) (views2 : AllKept) → Stands d (names_after trace e) scn views.made scn2 tables2 views2
      → After trace e scn2 tables2 views2 kept begun answer
  replies quiet = tells kept (core.counted ∙ sym (version_laws.others trace e quiet (oldest_reached trace core.built)))

  -- the views bear the names that they bore
  pub still_named : All (IsNamedBy (names_after trace e)) views.views
  still_named = named_more (names_created (commands_of trace)) (created_by e.command) views.views core.named

  -- the image is as it was
  pub as_it_was : Stands (catalog_of trace) (names_after trace e) scn views.made scn tables views
  as_it_was = record { stands = core.image.stands; on_demand = core.on_demand; named = still_named; scn_one = omega arith; made_one = omega arith }

  -- a refusal changes nothing but the journal
  pub refuses : changes_versions e.command ≡ false → (code : Refusal) → event_step (state_of trace) e ≡ refused (state_of trace) 0 code
      → After trace e scn tables views kept begun (Refuse (record { code = code; at = None; read = 0 }))
  refuses quiet code is = replies quiet (catalog_of trace) (Refuse (record { code = code; at = None; read = 0 })) is scn tables views as_it_was
