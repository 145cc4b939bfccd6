-- What a CREATE TABLE makes of a core.
use Rattle.std.proofs.Common.{◌≡◌, ◌≤◌, ◌<◌, ◌+◌, ◌∙◌, sym, ap, refl, subst, arith, suc, ℕ, cond, List, [], ◌∷◌, ◌++◌, length, None, Option, Some, is_none}
use Rattle.law_lists.proofs.Options.{was_none}
use Rattle.std.proofs.lemmas.Bool.{and_parts}
use Rattle.std.proofs.lemmas.List.{length-map}
use Rattle.std.specs.List.{All}
use Rattle.std.specs.Prelude.{Err, Ok}
use Rattle.wh_base.specs.Lists.{unless, ◌>>=◌}
use Rattle.wh_base.specs.declared.replies.Refusal.{Refusal}
use Rattle.wh_base.specs.declared.replies.Refusal.TheVariants.{OnlyReading}
use Rattle.wh_base.specs.declared.replies.Reply.TheVariants as reply
use Rattle.wh_base.specs.declared.statements.Command.TheVariants as commands
use Rattle.wh_base.specs.declared.statements.Event.{Event}
use Rattle.wh_base.specs.declared.statements.Id.{Id}
use Rattle.wh_base.specs.declared.statements.NewTable.{NewTable}
use Rattle.wh_base.specs.declared.statements.Statement.TheVariants as about
use Rattle.wh_base.specs.declared.statements.TableStatement.TheVariants.{CreateTable}
use Rattle.wh_base.specs.declared.tables.ForeignDef.{ForeignDef}
use Rattle.wh_base.specs.declared.tables.TableDef.{TableDef}
use Rattle.def_effect.specs.Define.{define_refusal, defined, table_def}
use Rattle.def_history.specs.Catalog.{Catalog, base_now, defs_now, names_taken}
use Rattle.def_journal.specs.Journal.{event_of, event_step, state_of}
use Rattle.def_journal.specs.State.{done_or_refused, refused, replied, with_base, with_catalog}
use Rattle.def_journal.specs.Statements.{create_table, unread}
use Rattle.wh_constraints.specs.Constraints.{AreRight}
use Rattle.wh_core.proofs.Events.{After, IsAccepted, bounded, not_reading, refuses, replies, still_named}
use Rattle.wh_core.proofs.Indexing.{refer_before, right_more}
use Rattle.wh_core.proofs.Known.{lookups, table_changes}
use Rattle.wh_core.specs.Calls.{bearer_of}
use Rattle.wh_core.specs.Kept.{IsCore}
use Rattle.wh_define.specs.Made.{defined_or_refused}
use Rattle.wh_define.specs.declared.define.Defined.{Defined}
use Rattle.wh_image.specs.Standing.{StandsFor}
use Rattle.wh_keys.specs.Indexes.{Indexes}
use Rattle.wh_keys.specs.Made.{empty_indexes}
use Rattle.wh_table.specs.Kept.{defs_of}
use Rattle.wh_table.specs.Stored as stored
use Rattle.law_trace.proofs.Listed.{Each}
use Rattle.law_trace.specs.Reached.{catalog_of}
use Rattle.wh_view.specs.Kept.{AllKept}

-- ---- the outcome

unless_ok : {A E : Type 0} (o : Option E) (x made : A) → Ok made ≡ unless o x → (o ≡ None) × (made ≡ x)
unless_ok None x made is = (refl, cc)
unless_ok (Some e) x made is = absurd (cc)

unless_err : {A E : Type 0} (o : Option E) (x : A) (code : E) → Err code ≡ unless o x → o ≡ Some code
unless_err None x code is = absurd (cc)
unless_err (Some e) x code is = cc

module _ (trace : List Event) (id : Id) (t : NewTable) (scn : ℕ) (tables : List stored.Stored) (views : AllKept) (kept begun room : ℕ) (core : IsCore trace scn tables views kept begun room)
    (accepted : IsAccepted (event_of id (commands.Other (about.Table (CreateTable t))))) where
  -- CREATE TABLE as the statement of the trace
  step_is : event_step (state_of trace) (event_of id (commands.Other (about.Table (CreateTable t)))) ≡ done_or_refused (state_of trace) (create_table (catalog_of trace) t)
  step_is =
      ap (λ b. cond b (refused (state_of trace) 0 OnlyReading) (done_or_refused (state_of trace) (create_table (catalog_of trace) t)))
      (not_reading trace (bearer_of id) core.built)

  outcome_at : (r : Option Refusal) → define_refusal (names_taken (catalog_of trace)) (defs_now (catalog_of trace)) t ≡ r
      → create_table (catalog_of trace) t ≡ (unless r (base_now (catalog_of trace) ++ defined (defs_now (catalog_of trace)) t ∷ []) >>= (λ base. unread (with_base (catalog_of trace) base)))
  outcome_at r is = ap (λ o. unless o (base_now (catalog_of trace) ++ defined (defs_now (catalog_of trace)) t ∷ []) >>= (λ base. unread (with_base (catalog_of trace) base))) is

  pub created : All (λ s. stored.last_scn s.versions ≤ scn) tables → (made : Defined) → Ok made ≡ defined_or_refused (names_taken (catalog_of trace)) (defs_of tables) t
      → After trace (event_of id (commands.Other (about.Table (CreateTable t)))) (scn + 1) (tables ++ stored.begun made.def ∷ []) views kept begun
      (reply.Catalog (record { scn = scn + 1; read = 0 }))
  created settled made is =
      let c : Catalog = catalog_of trace in
      let defs : defs_now c ≡ defs_of tables = lookups.definitions scn tables views c core.image.stands in
      let here : Ok made ≡ defined_or_refused (names_taken c) (defs_now c) t = subst (λ d. Ok made ≡ defined_or_refused (names_taken c) d t) (sym defs) is in
      let parted = unless_ok (define_refusal (names_taken c) (defs_now c) t) _ made here in
      let left : Catalog = with_base c (base_now c ++ defined (defs_now c) t ∷ []) in
      let later : suc c.scn ≡ scn + 1 = omega (arith, core.image.stands.scn_is) in
      let of_def : table_def (defs_now c) t ≡ made.def = ap (λ (d : Defined). d.def) (sym parted.1) in
      replies trace (event_of id (commands.Other (about.Table (CreateTable t)))) scn tables views kept begun room core accepted refl left (reply.Catalog (record { scn = scn + 1; read = 0 }))
      (step_is ∙ ap (done_or_refused (state_of trace)) (outcome_at None parted.0) ∙ ap (λ n. replied (with_catalog (state_of trace) left) (reply.Catalog (record { scn = n; read = 0 }))) later)
      (scn + 1) (tables ++ stored.begun made.def ∷ []) views
      (record {
        stands = subst (λ d. StandsFor (scn + 1) (tables ++ stored.begun d ∷ []) views left) of_def
            (table_changes.creates scn tables views c t core.image.stands (bounded trace) settled (was_none t.partitioning (and_parts (is_none t.partitioning) _ accepted.built).0));
        on_demand = core.on_demand;
        named = still_named trace (event_of id (commands.Other (about.Table (CreateTable t)))) scn tables views kept begun room core accepted;
        scn_one = omega arith;
        made_one = omega arith;
      })

  -- the indexes with those of the new table
  pub created_right : All (λ s. stored.last_scn s.versions ≤ scn) tables → (made : Defined) → Ok made ≡ defined_or_refused (names_taken (catalog_of trace)) (defs_of tables) t
      → (all : List Indexes) → AreRight scn tables all → AreRight (scn + 1) (tables ++ stored.begun made.def ∷ []) (all ++ empty_indexes made.def ∷ [])
  created_right settled made is all right =
      let e : Event = event_of id (commands.Other (about.Table (CreateTable t))) in
      let left : IsCore (trace ++ e ∷ []) (scn + 1) (tables ++ stored.begun made.def ∷ []) views kept begun begun = (created settled made is).core begun (omega arith) in
      let parted = unless_ok (define_refusal (names_taken (catalog_of trace)) (defs_of tables) t) _ made is in
      let of_def : table_def (defs_of tables) t ≡ made.def = ap (λ (d : Defined). d.def) (sym parted.1) in
      let many : length (defs_of tables) ≡ length tables = length-map tables (λ s. s.def) in
      right_more (trace ++ e ∷ []) scn (scn + 1) tables views all made.def right
      (subst (λ (d : TableDef). Each (λ (f : ForeignDef). f.table < length tables) d.foreign) of_def
      (subst (λ n. Each (λ (f : ForeignDef). f.table < n) (table_def (defs_of tables) t).foreign) many (refer_before (defs_of tables) t)))
      left.image.stands

  pub not_created : (code : Refusal) → Err code ≡ defined_or_refused (names_taken (catalog_of trace)) (defs_of tables) t
      → After trace (event_of id (commands.Other (about.Table (CreateTable t)))) scn tables views kept begun (reply.Refuse (record { code = code; at = None; read = 0 }))
  not_created code is =
      let c : Catalog = catalog_of trace in
      let defs : defs_now c ≡ defs_of tables = lookups.definitions scn tables views c core.image.stands in
      let here : Err code ≡ defined_or_refused (names_taken c) (defs_now c) t = subst (λ d. Err code ≡ defined_or_refused (names_taken c) d t) (sym defs) is in
      refuses trace (event_of id (commands.Other (about.Table (CreateTable t)))) scn tables views kept begun room core accepted refl code
      (step_is ∙ ap (done_or_refused (state_of trace)) (outcome_at (Some code) (unless_err (define_refusal (names_taken c) (defs_now c) t) _ code here)))
