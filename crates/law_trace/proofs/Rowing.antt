-- The laws of the rows, put together.
use Rattle.std.proofs.Common.{length, ◌≤◌}
use Rattle.std.specs.List.{All, AllPairs}
use Rattle.wh_base.specs.Tables.{Base, Table}
use Rattle.def_effect.specs.Block.{enabled, max_rows}
use Rattle.def_history.specs.Catalog.{base_now}
use Rattle.law_trace.proofs.Keying.{KeysHold, trace_keys}
use Rattle.law_trace.proofs.Listed.{Each, all_from, each_weaker, pairs_from}
use Rattle.law_trace.proofs.Rising.{Rises}
use Rattle.law_trace.proofs.Fitting.{trace_rises}
use Rattle.law_trace.proofs.Defining.{trace_defined}
use Rattle.law_trace.proofs.Fitting.{AllFit, IsFew, trace_few, trace_fits}
use Rattle.law_trace.proofs.Parenting.{ParentsThere, trace_parents}
use Rattle.law_trace.specs.Laws.{RowLaws}
use Rattle.law_trace.specs.Reached.{catalog_of}
use Rattle.law_trace.specs.Rows.{Fits, HasParents, IsGiven, IsOlder, IsUnique}

-- of each table, in std's words
each_all : (P Q : Table → Type 0) → ((t : Table) → P t → Q t) → (base : Base) → Each P base → All Q base
each_all P Q f base h = all_from Q base (each_weaker P Q f base h)

pub row_laws : RowLaws
row_laws =
    record {
      older = λ trace. each_all Rises (λ t. AllPairs IsOlder t.rows) (λ t h. pairs_from IsOlder t.rows h.0) (base_now (catalog_of trace)) (trace_rises trace);
      given = λ trace. each_all Rises (λ t. All (IsGiven t.given) t.rows) (λ t h. all_from (IsGiven t.given) t.rows h.1) (base_now (catalog_of trace)) (trace_rises trace);
      keys = λ trace. each_all KeysHold (λ t. All (IsUnique t) t.def.keys) (λ t h. all_from (IsUnique t) t.def.keys h) (base_now (catalog_of trace)) (trace_keys trace);
      parents = λ trace.
          each_all (ParentsThere (base_now (catalog_of trace))) (λ t. All (HasParents (base_now (catalog_of trace)) t) (enabled t.def))
          (λ t h. all_from (HasParents (base_now (catalog_of trace)) t) (enabled t.def) h) (base_now (catalog_of trace)) (trace_parents trace);
      fits = λ trace. each_all AllFit (λ t. All (λ r. Fits t r.values) t.rows) (λ t h. all_from (λ r. Fits t r.values) t.rows h) (base_now (catalog_of trace)) (trace_fits trace);
      few = λ trace. each_all IsFew (λ t. length t.rows ≤ max_rows) (λ t h. h) (base_now (catalog_of trace)) (trace_few trace);
      defined = trace_defined;
    }
