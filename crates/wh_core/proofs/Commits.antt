-- What a block makes of a core.
use Rattle.std.proofs.Common.{◌≡◌, ◌≤◌, ◌+◌, ◌∙◌, sym, ap, refl, subst, arith, suc, ℕ, Bool, true, IsTrue, cond, List, [], ◌∷◌, map, ◌&&◌}
use Rattle.std.proofs.lemmas.Bool.{and_parts}
use Rattle.std.proofs.lemmas.List.Elements.{All-cons, All-head, All-nil, All-tail}
use Rattle.std.specs.List.{All, filter, fold, list_all}
use Rattle.std.specs.Prelude.{is_some, not}
use Rattle.wh_base.specs.Tables.{TableChange}
use Rattle.wh_base.specs.declared.replies.Refused.{Refused}
use Rattle.wh_base.specs.declared.replies.Refusal.TheVariants.{OnlyReading}
use Rattle.wh_base.specs.declared.replies.Reply.TheVariants as reply
use Rattle.wh_base.specs.declared.statements.Block.{Block}
use Rattle.wh_base.specs.declared.statements.Command.TheVariants as commands
use Rattle.wh_base.specs.declared.statements.Event.{Event}
use Rattle.wh_base.specs.declared.statements.Id.{Id}
use Rattle.wh_base.specs.declared.tables.ColumnDef.{ColumnDef}
use Rattle.wh_base.specs.declared.tables.Kind.{Kind}
use Rattle.wh_base.specs.declared.tables.Kind.TheVariants.{Date, Number, Text}
use Rattle.def_effect.specs.Block.{Progress, effect, max_versions, new_versions}
use Rattle.def_history.specs.Catalog.{Catalog, base_now}
use Rattle.def_history.specs.History.{kept_versions}
use Rattle.def_journal.specs.Committing.{Dues, after_block, changed_by, commit_result, committed, do_due, do_dues, is_due}
use Rattle.def_journal.specs.Journal.{event_of, event_step, state_of}
use Rattle.def_journal.specs.State.{refused, replied, with_catalog}
use Rattle.wh_check.specs.Effects.{Makes, Stops}
use Rattle.wh_load.specs.Sized.{is_sized_def, kind_is_sized}
use Rattle.wh_core.proofs.Events.{After, IsAccepted, as_it_was, bounded, not_reading, oldest_reached, still_named, tells}
use Rattle.wh_core.proofs.Known.{lookups, table_changes, version_laws}
use Rattle.wh_core.proofs.Viewed.{IsOnDemand}
use Rattle.wh_core.specs.Calls.{bearer_of}
use Rattle.wh_core.specs.Kept.{IsCore}
use Rattle.wh_image.specs.Standing.{StandsFor}
use Rattle.wh_table.specs.Kept.{defs_of}
use Rattle.wh_table.specs.Stored.{Stored, base_seen}
use Rattle.law_trace.specs.Reached.{catalog_of}
use Rattle.wh_view.specs.Kept.{AllKept, Kept}
use Rattle.law_views.specs.Laws.{TableSizes, is_sized}

-- no view is refreshed at the commit
none_due : (changes : List TableChange) (ks : List Kept) → All IsOnDemand ks → filter (is_due changes) (map (λ k. k.view) ks) ≡ []
none_due changes [] h = refl
none_due changes (k ∷ ks) h =
    ap (λ b. cond (b && (is_some k.view.point && (not k.view.suspended && changed_by changes k.view))) (k.view ∷ filter (is_due changes) (map (λ l. l.view) ks)) (filter (is_due changes) (map (λ l. l.view) ks)))
    (All-head IsOnDemand k ks h)
    ∙ none_due changes ks (All-tail IsOnDemand k ks h)

module _ (trace : List Event) (id : Id) (b : Block) (scn : ℕ) (tables : List Stored) (views : AllKept) (kept begun room : ℕ) (core : IsCore trace scn tables views kept begun room)
    (accepted : IsAccepted (event_of id (commands.Block b))) where
  block_step : event_step (state_of trace) (event_of id (commands.Block b)) ≡ commit_result (state_of trace) (effect (base_seen scn tables) kept b.statements)
  block_step =
      ap (λ reads. cond reads (refused (state_of trace) 0 OnlyReading) (commit_result (state_of trace) (effect (base_now (catalog_of trace)) (kept_versions (catalog_of trace)) b.statements)))
      (not_reading trace (bearer_of id) core.built)
      ∙ (λ i. commit_result (state_of trace) (effect (core.image.stands.base_is i) (sym core.counted i) b.statements))

  outcome_is : effect (base_now (catalog_of trace)) (kept_versions (catalog_of trace)) b.statements ≡ effect (base_seen scn tables) kept b.statements
  outcome_is = (λ i. effect (core.image.stands.base_is i) (sym core.counted i) b.statements)

  pub commits : (scn2 : ℕ) (after : List Stored) (rows versions read : ℕ) → Makes scn tables kept b.statements scn2 after rows versions read
      → After trace (event_of id (commands.Block b)) scn2 after views versions begun (reply.Commit (record { scn = scn2; rows = rows; read = read; views = [] }))
  commits scn2 after rows versions read makes =
      let c : Catalog = catalog_of trace in
      let s = state_of trace in
      let e : Event = event_of id (commands.Block b) in
      let p : Progress = makes.progress in
      let d : Catalog = after_block c p in
      let none : filter (is_due p.changes) d.views ≡ [] = ap (filter (is_due p.changes)) core.image.stands.views_are ∙ none_due p.changes views.views core.on_demand in
      let alone : do_dues d p.changes ≡ record { catalog = d; lines = []; read = 0 } = ap (fold do_due (record { catalog = d; lines = []; read = 0 })) none in
      let told : committed s p ≡ replied (with_catalog s d) (reply.Commit (record { scn = d.scn; rows = p.rows; read = p.scanned + 0; views = [] })) =
      ap (λ (dues : Dues). replied (with_catalog s dues.catalog) (reply.Commit (record { scn = dues.catalog.scn; rows = p.rows; read = p.scanned + dues.read; views = dues.lines }))) alone in
      let at : suc c.scn ≡ scn2 = omega (arith, core.image.stands.scn_is, makes.next) in
      let scanned : p.scanned + 0 ≡ read = omega (arith, makes.read_is) in
      tells trace e scn tables views kept begun room core accepted versions
      (makes.versions_are ∙ (λ i. core.counted i + new_versions_of p) ∙ sym (version_laws.block trace e b p refl (not_reading trace (bearer_of id) core.built) (outcome_is ∙ makes.is) (oldest_reached trace core.built)))
      d (reply.Commit (record { scn = scn2; rows = rows; read = read; views = [] }))
      (block_step ∙ ap (commit_result s) makes.is ∙ told ∙ (λ i. replied (with_catalog s d) (reply.Commit (record { scn = at i; rows = sym makes.rows_are i; read = scanned i; views = [] }))))
      scn2 after views
      (record {
        stands = subst (λ n. StandsFor n after views d) (sym makes.next) (table_changes.commits scn tables after views c p core.image.stands (bounded trace) makes.leaves);
        on_demand = core.on_demand;
        named = still_named trace e scn tables views kept begun room core accepted;
        scn_one = omega (arith, makes.next);
        made_one = omega arith;
      })
    where
      new_versions_of : Progress → ℕ
      new_versions_of p = new_versions p.base p.changes

  pub stops : (stopped : Refused) → Stops scn tables kept b.statements stopped → After trace (event_of id (commands.Block b)) scn tables views kept begun (reply.Refuse stopped)
  stops stopped h =
      let e : Event = event_of id (commands.Block b) in
      tells trace e scn tables views kept begun room core accepted kept
      (core.counted ∙ sym (version_laws.stopped trace e b h.stopped refl (outcome_is ∙ h.is)))
      (catalog_of trace) (reply.Refuse stopped)
      (block_step ∙ ap (commit_result (state_of trace)) h.is ∙ ap (λ r. replied (state_of trace) (reply.Refuse r)) (sym h.refused_is))
      scn tables views (as_it_was trace e scn tables views kept begun room core accepted)

-- ---- what a block needs

sized_column : (name : List ℕ) (k : Kind) (b : Bool) → is_sized (record { name = name; kind = k; not_null = b }) ≡ true → kind_is_sized k ≡ true
sized_column name (Number n) b h = h
sized_column name (Text n) b h = refl
sized_column name Date b h = refl

sized_columns : (cs : List ColumnDef) → list_all is_sized cs ≡ true → list_all (λ c. kind_is_sized c.kind) cs ≡ true
sized_columns [] h = refl
sized_columns (c ∷ cs) h =
    (λ i. sized_column c.name c.kind c.not_null (and_parts (is_sized c) _ h).0 i && sized_columns cs (and_parts (is_sized c) _ h).1 i)

sized_defs : (tables : List Stored) → All (λ d. list_all is_sized d.columns ≡ true) (defs_of tables) → All (λ s. IsTrue (is_sized_def s.def)) tables
sized_defs [] h = All-nil (λ (s : Stored). IsTrue (is_sized_def s.def))
sized_defs (s ∷ tables) h =
    All-cons (λ (t : Stored). IsTrue (is_sized_def t.def)) s tables
    (sized_columns s.def.columns (All-head (λ d. list_all is_sized d.columns ≡ true) s.def (defs_of tables) h))
    (sized_defs tables (All-tail (λ d. list_all is_sized d.columns ≡ true) s.def (defs_of tables) h))

pub tables_sized : (trace : List Event) (scn : ℕ) (tables : List Stored) (views : AllKept) (kept begun room : ℕ) → IsCore trace scn tables views kept begun room → TableSizes
    → All (λ s. IsTrue (is_sized_def s.def)) tables
tables_sized trace scn tables views kept begun room core sizes =
    sized_defs tables (subst (All (λ d. list_all is_sized d.columns ≡ true)) (lookups.definitions scn tables views (catalog_of trace) core.image.stands) (sizes.sized trace))

pub versions_few : (trace : List Event) (scn : ℕ) (tables : List Stored) (views : AllKept) (kept begun room : ℕ) → IsCore trace scn tables views kept begun room → kept ≤ max_versions
versions_few trace scn tables views kept begun room core = subst (λ n. n ≤ max_versions) (sym core.counted) (version_laws.few trace)
