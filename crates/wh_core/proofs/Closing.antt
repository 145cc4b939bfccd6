-- From what an event makes of a core to what a call leaves.
use Rattle.std.proofs.Common.{◌≡◌, ◌≤◌, ◌∙◌, sym, ap, subst, ℕ, IsTrue, List, [], ◌∷◌, ◌++◌, Some}
use Rattle.wh_base.specs.declared.replies.Reply.{Reply}
use Rattle.wh_base.specs.declared.statements.Command.{Command}
use Rattle.wh_base.specs.declared.statements.Event.{Event}
use Rattle.wh_base.specs.declared.statements.Id.{Id}
use Rattle.def_built.specs.Commands.{command_is_built}
use Rattle.def_journal.specs.Journal.{commands_of, event_of, reply_to}
use Rattle.wh_core.proofs.Events.{After, IsAccepted}
use Rattle.wh_core.specs.Calls.{IsOverTables, install_of}
use Rattle.wh_constraints.specs.Constraints.{AreRight}
use Rattle.wh_core.specs.Kept.{IsCore, IsIndexed}
use Rattle.wh_keys.specs.Coded.{Held}
use Rattle.wh_table.specs.Stored.{Stored}
use Rattle.wh_view.specs.Kept.{AllKept}
use Rattle.law_views.specs.Read.{IsRead}

pub accepts : (id : Id) (command k : Command) → command ≡ k → IsTrue (command_is_built command) → IsRead k → IsAccepted (event_of id k)
accepts id command k is built read = record { built = ap command_is_built (sym is) ∙ built; read = read }

pub accepts_install : (id : Id) (command k : Command) → command ≡ k → IsTrue (command_is_built command) → IsRead k → IsAccepted (install_of id k)
accepts_install id command k is built read = record { built = ap command_is_built (sym is) ∙ built; read = read }

pub stands_apart : (trace now : List Event) (command k : Command) → trace ≡ now → command ≡ k → IsOverTables (commands_of now) command → IsOverTables (commands_of trace) k
stands_apart trace now command k same is h = subst (IsOverTables (commands_of trace)) is (subst (λ t. IsOverTables (commands_of t) command) (sym same) h)

-- the journal with one entry more, and the indexes
pub closes : (trace before items : List Event) (note e : Event) (scn : ℕ) (tables : List Stored) (views : AllKept) (kept begun room : ℕ) (answer : Reply) (keys : Held)
    → After trace e scn tables views kept begun answer → AreRight scn tables keys.now → keys.before ≡ keys.now → before ≡ trace → note ≡ e → items ≡ before ++ note ∷ [] → begun ≤ room
    → IsIndexed items scn tables views kept begun room keys
closes trace before items note e scn tables views kept begun room answer keys after right settled same noted pushed fits =
    record {
      core = subst (λ t. IsCore t scn tables views kept begun room) (sym (pushed ∙ (λ i. same i ++ noted i ∷ []))) (after.core room fits);
      right = right;
      settled = settled;
    }

-- nothing has changed but the room of the journal
pub waits : (trace items : List Event) (scn : ℕ) (tables : List Stored) (views : AllKept) (kept begun room more : ℕ) (keys now : Held)
    → IsIndexed trace scn tables views kept begun room keys → items ≡ trace → now.now ≡ keys.now → now.before ≡ now.now → begun ≤ more
    → IsIndexed items scn tables views kept begun more now
waits trace items scn tables views kept begun room more keys now h same same_keys settled fits =
    let core : IsCore trace scn tables views kept begun more =
    record {
      image = h.core.image;
      built = h.core.built;
      on_demand = h.core.on_demand;
      named = h.core.named;
      counted = h.core.counted;
      enough = h.core.enough;
      fits = fits;
      scn_within = h.core.scn_within;
      made_within = h.core.made_within;
    } in
    record {
      core = subst (λ t. IsCore t scn tables views kept begun more) (sym same) core;
      right = subst (AreRight scn tables) (sym same_keys) h.right;
      settled = settled;
    }

pub answers : (trace now : List Event) (e asked : Event) (scn : ℕ) (tables : List Stored) (views : AllKept) (kept begun : ℕ) (answer told : Reply)
    → After trace e scn tables views kept begun answer → trace ≡ now → asked ≡ e → told ≡ answer → reply_to now asked ≡ Some told
answers trace now e asked scn tables views kept begun answer told after same is said =
    (λ i. reply_to (sym same i) (is i)) ∙ after.reply ∙ ap Some (sym said)
