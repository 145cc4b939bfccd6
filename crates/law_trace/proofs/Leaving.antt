-- What leaves the row versions that are kept, and how far the oldest SCN may go.
use Rattle.std.proofs.Common.{ℕ, ◌≡◌, ◌∙◌, sym, ap, refl, subst, arith, suc, ◌≤◌, true, false, List, [], ◌∷◌, ◌++◌, map, true≢false}
use Rattle.std.proofs.lemmas.Bool.{or_parts}
use Rattle.std.specs.List.{fold, list_any}
use Rattle.std.specs.Prelude.{Ok, codes}
use Rattle.std.proofs.lemmas.List.{append-nil}
use Rattle.wh_base.specs.Lists.{first_some, or_refuse, unless, where_true}
use Rattle.wh_base.specs.Tables.{Base, Table, table_at, with_table}
use Rattle.wh_base.specs.declared.replies.Refusal.TheVariants.{LastPartition, NoSuchObject, PartitionBound}
use Rattle.wh_base.specs.declared.statements.PartChange.{PartChange}
use Rattle.wh_base.specs.declared.statements.PartChange.TheVariants.{Add, DropPart, Merge, Movement, Split, Truncate}
use Rattle.def_effect.specs.Partitions.{Altering, add_refusal, added, alter_part, dropped, is_only_part, part_named, referred_refusal, truncated, with_movement}
use Rattle.def_journal.specs.Statements.{altered, renumbered}
use Rattle.law_trace.proofs.Counting.{kept_same}
use Rattle.law_trace.proofs.Outcomes.{EachOk, bind_ok, ok_holds, unless_ok}
use Rattle.wh_base.specs.declared.statements.Command.{Command}
use Rattle.wh_base.specs.declared.statements.Command.TheVariants as commands
use Rattle.wh_base.specs.declared.statements.Event.{Event}
use Rattle.def_effect.specs.Block.{Progress}
use Rattle.def_effect.specs.Define.{defined}
use Rattle.def_history.specs.Catalog.{Catalog, base_now, defs_now}
use Rattle.def_history.specs.History.{kept_versions}
use Rattle.def_journal.specs.Committing.{after_block, do_dues}
use Rattle.def_journal.specs.Journal.{state_after, state_of}
use Rattle.def_journal.specs.State.{State, empty_state, with_base}
use Rattle.law_trace.proofs.Bounding.{Known, based_kept, installed_kept, known}
use Rattle.law_trace.proofs.Growing.{SamePast, dues_past, installed_past}
use Rattle.law_trace.proofs.Moves.{Adds, Alters, Commits, Creates, Declares, Drops, Forgets, Installs, Logs, Move, Purges, Stays, Switches, Withdraws, installed, is_block}
use Rattle.law_trace.proofs.Stepping.{moves}
use Rattle.law_trace.proofs.Traces.{state_push}
use Rattle.law_trace.specs.Reached.{asks_below_zero, catalog_of, changes_versions, renumbers}

block_changes : (command : Command) → is_block command ≡ true → changes_versions command ≡ true
block_changes (commands.Block b) e = refl
block_changes (commands.Other statement) e = absurd (true≢false (sym e))
block_changes (commands.Submit statement) e = absurd (true≢false (sym e))

-- a form of ALTER TABLE that isn't a SPLIT or a MERGE gives no rowid
abbrev GivesNone : Altering → Type 0
GivesNone a = a.renumbered ≡ []

forms_give : (kept : ℕ) (base : Base) (n : ℕ) (t : Table) (change : PartChange) → renumbers change ≡ false → EachOk GivesNone (alter_part kept base n t change)
forms_give kept base n t (Add r) other =
    bind_ok GivesNone (or_refuse t.def.part_key (PartitionBound t.def.name r.name)) (λ key. unless (add_refusal t r key) (added t r)) (λ key e. unless_ok GivesNone (add_refusal t r key) (added t r) (λ none. refl))
forms_give kept base n t (DropPart name) other =
    bind_ok GivesNone (or_refuse (part_named t name) (NoSuchObject name)) (λ p. unless (first_some (referred_refusal base n ∷ where_true (is_only_part t) (LastPartition t.def.name) ∷ [])) (dropped t p))
    (λ p e. unless_ok GivesNone (first_some (referred_refusal base n ∷ where_true (is_only_part t) (LastPartition t.def.name) ∷ [])) (dropped t p) (λ none. refl))
forms_give kept base n t (Truncate name) other =
    bind_ok GivesNone (or_refuse (part_named t name) (NoSuchObject name)) (λ p. unless (referred_refusal base n) (truncated t p)) (λ p e. unless_ok GivesNone (referred_refusal base n) (truncated t p) (λ none. refl))
forms_give kept base n t (Split s) other = absurd (true≢false other)
forms_give kept base n t (Merge s) other = absurd (true≢false other)
forms_give kept base n t (Movement on) other = bind_ok GivesNone (or_refuse t.def.part_key (PartitionBound t.def.name (codes "-"))) (λ key. Ok (with_movement t on)) (λ key e. refl)

none_renumbered : (kept : ℕ) (base : Base) (n : ℕ) (t : Table) (change : PartChange) (a : Altering) → alter_part kept base n t change ≡ Ok a → renumbers change ≡ false → a.renumbered ≡ []
none_renumbered kept base n t change a cut other = ok_holds GivesNone (alter_part kept base n t change) a (forms_give kept base n t change other) cut

move_leaves : (s : State) (x : Event) (d : Catalog) → Known s.catalog → s.catalog.oldest ≤ s.catalog.scn → changes_versions x.command ≡ false → Move s x d
    → kept_versions d ≡ kept_versions s.catalog
move_leaves s x d k low other (Stays is) = ap kept_versions is
move_leaves s x d k low other (Commits p ss same block is) = absurd (true≢false (sym (block_changes x.command block) ∙ other))
move_leaves s x d k low other (Creates t new fits is) =
    ap kept_versions is ∙ based_kept s.catalog (base_now s.catalog ++ defined (defs_now s.catalog) t ∷ []) k.past k.changes low
move_leaves s x d k low other (Alters n a same change form cut is) =
    let c : Catalog = s.catalog in
    ap kept_versions is
    ∙ kept_same (with_base c (with_table (base_now c) n a.table)) (altered c n a) refl refl
    (ap (λ rs. c.renumbered ++ map (renumbered (suc c.scn) n) rs) (none_renumbered (kept_versions c) (base_now c) n (table_at (base_now c) n) change a cut (sym form ∙ other)) ∙ append-nil c.renumbered) refl
    ∙ based_kept c (with_table (base_now c) n a.table) k.past k.changes low
move_leaves s x d k low other (Logs logs made is) = ap kept_versions is
move_leaves s x d k low other (Purges logs purge is) = ap kept_versions is
move_leaves s x d k low other (Forgets oldest more undo is) = absurd (true≢false (sym (ap changes_versions undo.command) ∙ other))
move_leaves s x d k low other (Adds v w new star is) = ap kept_versions is
move_leaves s x d k low other (Switches n f keeps is) = ap kept_versions is
move_leaves s x d k low other (Installs b ps begun takes is) = ap kept_versions is ∙ installed_kept s.catalog ps
move_leaves s x d k low other (Drops n free is) = ap kept_versions is
move_leaves s x d k low other (Declares a new is) = ap kept_versions is
move_leaves s x d k low other (Withdraws name is) = ap kept_versions is

pub others_leave : (trace : List Event) (e : Event) → changes_versions e.command ≡ false → (catalog_of trace).oldest ≤ (catalog_of trace).scn
    → kept_versions (catalog_of (trace ++ e ∷ [])) ≡ kept_versions (catalog_of trace)
others_leave trace e other low =
    subst (λ (s : State). kept_versions s.catalog ≡ kept_versions (catalog_of trace)) (sym (state_push trace e))
    (move_leaves (state_of trace) e (state_after (state_of trace) e).catalog (known trace) low other (moves (state_of trace) e).catalog)

-- ---- the oldest SCN that AS OF may ask for was reached

abbrev InReach : Catalog → Type 0
InReach c = c.oldest ≤ c.scn

commit_reach : (c : Catalog) (p : Progress) → InReach c → InReach (do_dues (after_block c p) p.changes).catalog
commit_reach c p h =
    let d : Catalog = (do_dues (after_block c p) p.changes).catalog in
    let past : SamePast (after_block c p) d = dues_past c p in
    let scn : d.scn ≡ suc c.scn = past.scn in
    let oldest : d.oldest ≡ c.oldest = past.oldest in
    omega (arith, h)

later_reach : (c : Catalog) → InReach c → c.oldest ≤ suc c.scn
later_reach c h = omega (arith, h)

installed_reach : (c : Catalog) (ps : List (ℕ × ℕ)) → InReach c → InReach (installed ps c)
installed_reach c ps h = let same : SamePast c (installed ps c) = installed_past c ps in omega (arith, same.scn, same.oldest, h)

move_reach : (s : State) (x : Event) (d : Catalog) → asks_below_zero x ≡ false → InReach s.catalog → Move s x d → InReach d
move_reach s x d above h (Stays is) = subst InReach (sym is) h
move_reach s x d above h (Commits p ss same block is) = subst InReach (sym is) (commit_reach s.catalog p h)
move_reach s x d above h (Creates t new fits is) = subst InReach (sym is) (later_reach s.catalog h)
move_reach s x d above h (Alters n a same change form cut is) = subst InReach (sym is) (later_reach s.catalog h)
move_reach s x d above h (Logs logs made is) = subst InReach (sym is) (later_reach s.catalog h)
move_reach s x d above h (Purges logs purge is) = subst InReach (sym is) h
move_reach s x d above h (Forgets oldest more undo is) =
    subst InReach (sym is) (undo.reached (sym (ap (λ command. asks_below_zero (record x { command = command })) undo.command) ∙ above) h)
move_reach s x d above h (Adds v w new star is) = subst InReach (sym is) h
move_reach s x d above h (Switches n f keeps is) = subst InReach (sym is) h
move_reach s x d above h (Installs b ps begun takes is) = subst InReach (sym is) (installed_reach s.catalog ps h)
move_reach s x d above h (Drops n free is) = subst InReach (sym is) h
move_reach s x d above h (Declares a new is) = subst InReach (sym is) h
move_reach s x d above h (Withdraws name is) = subst InReach (sym is) h

events_reach : (s : State) (events : List Event) → list_any asks_below_zero events ≡ false → InReach s.catalog → InReach (fold state_after s events).catalog
events_reach s [] above h = h
events_reach s (e ∷ events) above h =
    events_reach (state_after s e) events (or_parts (asks_below_zero e) (list_any asks_below_zero events) above).1
    (move_reach s e (state_after s e).catalog (or_parts (asks_below_zero e) (list_any asks_below_zero events) above).0 h (moves s e).catalog)

pub oldest_reached : (trace : List Event) → list_any asks_below_zero trace ≡ false → (catalog_of trace).oldest ≤ (catalog_of trace).scn
oldest_reached trace above = events_reach empty_state trace above (omega arith)
