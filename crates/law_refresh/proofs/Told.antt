-- The laws of the history and of what logs tell, over all traces.
use Rattle.std.proofs.Common.{◌≡◌, ◌∙◌, ap, arith, ℕ, ◌<◌, ◌≤◌, List, map, Some, nat_le, nat_lt, ◌==◌, ◌&&◌}
use Rattle.std.specs.List.{All}
use Rattle.std.proofs.lemmas.Bool.{and_parts, lt-ltb, ltb-true}
use Rattle.wh_base.specs.declared.logs.LogRow.{LogRow}
use Rattle.wh_base.specs.declared.statements.Event.{Event}
use Rattle.def_history.specs.Catalog.{Log, base_at, defs_now, log_of}
use Rattle.def_history.specs.History.{changes_of, within}
use Rattle.def_history.specs.Logs.{log_history}
use Rattle.law_delta.proofs.Applying.{filter_within}
use Rattle.law_delta.specs.ByRowid.{rowid_among}
use Rattle.law_delta.specs.Deltas.{new_rows, old_rows}
use Rattle.law_delta.specs.Restored.{logged_row}
use Rattle.law_refresh.proofs.Full.{base_fits}
use Rattle.law_refresh.proofs.History.{followed}
use Rattle.law_refresh.proofs.Logs.{log_fits}
use Rattle.law_refresh.proofs.ReadBack.{news_back, olds_back, rowids_back}
use Rattle.law_refresh.specs.Followed.{HistoryLaws}
use Rattle.law_refresh.specs.Logged.{IsLog}
use Rattle.law_refresh.specs.SidesRead.{ReadLaws}
use Rattle.law_trace.proofs.Changes.{IsEither, trace_either}
use Rattle.law_trace.proofs.Fitting.{AllFit}
use Rattle.law_trace.proofs.Listed.{all_from, each_filter, each_weaker, find_has}
use Rattle.law_trace.specs.Reached.{catalog_of}
use Rattle.law_trace.specs.Rows.{Fits}

pub history_laws : HistoryLaws
history_laws =
    record {
      followed = followed;
      fits = λ trace p.
          all_from (λ t. All (λ r. Fits t r.values) t.rows) (base_at (catalog_of trace) p)
          (each_weaker AllFit (λ t. All (λ r. Fits t r.values) t.rows) (λ t h. all_from (λ r. Fits t r.values) t.rows h) (base_at (catalog_of trace) p) (base_fits trace p));
    }

since_birth : (trace : List Event) (table q : ℕ) (l : Log) → log_of (catalog_of trace) table ≡ Some l → l.facts.from ≤ q → l.born ≤ q
since_birth trace table q l found low =
    let fit : IsLog (catalog_of trace).scn (defs_now (catalog_of trace)) l = log_fits trace table l found in
    omega (arith, fit.born)

of_table : (trace : List Event) (table : ℕ) (l : Log) → log_of (catalog_of trace) table ≡ Some l → l.table ≡ table
of_table trace table l found = find_has (λ (k : Log). k.table) table (catalog_of trace).logs l found

pub read_laws : ReadLaws
read_laws =
    record {
      held = λ trace l q low.
          filter_within (λ (r : LogRow). within q (catalog_of trace).scn r.scn) (λ r. nat_lt l.facts.from r.scn)
          (λ r e. lt-ltb l.facts.from r.scn (above l.facts.from q r.scn low (ltb-true q r.scn (and_parts (nat_lt q r.scn) (nat_le r.scn (catalog_of trace).scn) e).0))) (log_history (catalog_of trace) l);
      olds = λ trace table q width l found low rowids both.
          olds_back (catalog_of trace) l q (since_birth trace table q l found low) width rowids both
          ∙ ap (λ n. map (logged_row width l.facts.columns) (old_rows (changes_of (catalog_of trace) n q (catalog_of trace).scn))) (of_table trace table l found);
      news = λ trace table q width l found low rowids both.
          news_back (catalog_of trace) l q (since_birth trace table q l found low) width rowids both
          ∙ ap (λ n. map (logged_row width l.facts.columns) (new_rows (changes_of (catalog_of trace) n q (catalog_of trace).scn))) (of_table trace table l found);
      rowids = λ trace table q l v found low rowids.
          rowids_back (catalog_of trace) l q (since_birth trace table q l found low) v rowids
          (each_filter (λ n. IsEither n.change) (λ n. (n.table == l.table) && within q (catalog_of trace).scn n.scn) (catalog_of trace).changes (trace_either trace))
          ∙ ap (λ n. rowid_among (changes_of (catalog_of trace) n q (catalog_of trace).scn) v) (of_table trace table l found);
    }
  where
    above : (a b c : ℕ) → a ≤ b → b < c → a < c
    above a b c h k = omega arith
