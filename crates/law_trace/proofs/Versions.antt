-- The laws of the row versions that are kept.
use Rattle.std.proofs.Common.{◌≡◌, ◌∙◌, ap, refl, ◌+◌, ◌≤◌, Bool, false, true, cond, List, [], ◌∷◌, ◌++◌}
use Rattle.std.specs.Prelude.{Err, Ok}
use Rattle.wh_base.specs.Parts.{entry_bearer}
use Rattle.wh_base.specs.declared.replies.Refusal.TheVariants.{OnlyReading}
use Rattle.wh_base.specs.declared.statements.Block.{Block}
use Rattle.wh_base.specs.declared.statements.Command.TheVariants as commands
use Rattle.wh_base.specs.declared.statements.Event.{Event}
use Rattle.def_effect.specs.Block.{Progress, Stopped, effect, new_versions}
use Rattle.def_history.specs.Catalog.{Catalog, base_now}
use Rattle.def_history.specs.History.{kept_versions}
use Rattle.def_journal.specs.Committing.{after_block, commit_result, do_dues}
use Rattle.def_journal.specs.Journal.{state_after, state_of}
use Rattle.def_journal.specs.State.{State, only_reads, refused, refused_at, session_of}
use Rattle.def_journal.specs.Steps.{step}
use Rattle.law_trace.proofs.Bounding.{based_kept, trace_filled}
use Rattle.law_trace.proofs.Counting.{altered_kept, altered_places, block_counted, kept_grown, kept_same}
use Rattle.wh_base.specs.Tables.{with_table}
use Rattle.law_trace.proofs.Growing.{changes_bounded, past_bounded, reached, renumbered_bounded}
use Rattle.law_trace.proofs.Leaving.{oldest_reached, others_leave}
use Rattle.law_trace.proofs.Fitting.{trace_sound}
use Rattle.law_trace.proofs.Traces.{state_push}
use Rattle.law_trace.specs.Laws.{VersionLaws}
use Rattle.law_trace.specs.Reached.{catalog_of}

-- the catalog that an accepted block leaves
accepted : (s : State) (e : Event) (b : Block) (p : Progress) → e.command ≡ commands.Block b → only_reads (session_of s (entry_bearer e.entry)) ≡ false
    → effect (base_now s.catalog) (kept_versions s.catalog) b.statements ≡ Ok p → (state_after s e).catalog ≡ (do_dues (after_block s.catalog p) p.changes).catalog
accepted s e b p is writes same =
    ap (λ command. (step s (entry_bearer e.entry) command e.entry.part).state.catalog) is
    ∙ ap (λ reads. (cond reads (refused s 0 OnlyReading) (commit_result s (effect (base_now s.catalog) (kept_versions s.catalog) b.statements))).state.catalog) writes
    ∙ ap (λ r. (commit_result s r).state.catalog) same

-- a block that is refused leaves the catalog
stopped : (s : State) (e : Event) (b : Block) (stop : Stopped) → e.command ≡ commands.Block b → effect (base_now s.catalog) (kept_versions s.catalog) b.statements ≡ Err stop
    → (state_after s e).catalog ≡ s.catalog
stopped s e b stop is same =
    ap (λ command. (step s (entry_bearer e.entry) command e.entry.part).state.catalog) is
    ∙ ap (λ r. (cond (only_reads (session_of s (entry_bearer e.entry))) (refused s 0 OnlyReading) (commit_result s r)).state.catalog) same
    ∙ by (only_reads (session_of s (entry_bearer e.entry)))
  where
    by : (reads : Bool) → (cond reads (refused s 0 OnlyReading) (refused_at s stop)).state.catalog ≡ s.catalog
    by true = refl
    by false = refl

-- and so does one in a READ ONLY transaction
not_written : (s : State) (e : Event) (b : Block) → e.command ≡ commands.Block b → only_reads (session_of s (entry_bearer e.entry)) ≡ true → (state_after s e).catalog ≡ s.catalog
not_written s e b is reads =
    ap (λ command. (step s (entry_bearer e.entry) command e.entry.part).state.catalog) is
    ∙ ap (λ reads. (cond reads (refused s 0 OnlyReading) (commit_result s (effect (base_now s.catalog) (kept_versions s.catalog) b.statements))).state.catalog) reads

block_law : (trace : List Event) (e : Event) (b : Block) (p : Progress) → e.command ≡ commands.Block b → only_reads (session_of (state_of trace) (entry_bearer e.entry)) ≡ false
    → effect (base_now (catalog_of trace)) (kept_versions (catalog_of trace)) b.statements ≡ Ok p → (catalog_of trace).oldest ≤ (catalog_of trace).scn
    → kept_versions (catalog_of (trace ++ e ∷ [])) ≡ kept_versions (catalog_of trace) + new_versions p.base p.changes
block_law trace e b p is writes same low =
    let c : Catalog = catalog_of trace in
    ap kept_versions (ap (λ (s : State). s.catalog) (state_push trace e) ∙ accepted (state_of trace) e b p is writes same)
    ∙ block_counted c b.statements p same (trace_sound trace) (past_bounded c (reached trace)) (record { changes = changes_bounded c (reached trace); given = renumbered_bounded c (reached trace) }) low

pub version_laws : VersionLaws
version_laws =
    record {
      block = block_law;
      stopped = λ trace e b stop is same. ap kept_versions (ap (λ (s : State). s.catalog) (state_push trace e) ∙ stopped (state_of trace) e b stop is same);
      reading = λ trace e b is reads. ap kept_versions (ap (λ (s : State). s.catalog) (state_push trace e) ∙ not_written (state_of trace) e b is reads);
      based = λ trace base low. based_kept (catalog_of trace) base (past_bounded (catalog_of trace) (reached trace)) (record { changes = changes_bounded (catalog_of trace) (reached trace); given = renumbered_bounded (catalog_of trace) (reached trace) }) low;
      altered_rows = λ trace n a low.
          altered_kept (catalog_of trace) n a
          ∙ kept_grown (catalog_of trace) (with_table (base_now (catalog_of trace)) n a.table) [] (altered_places n a) (past_bounded (catalog_of trace) (reached trace))
          (record { changes = changes_bounded (catalog_of trace) (reached trace); given = renumbered_bounded (catalog_of trace) (reached trace) }) low;
      others = others_leave;
      oldest = oldest_reached;
      same = kept_same;
      few = trace_filled;
    }
