-- What comes of the changes that stand for what a statement asks is what comes of the statement.
use Rattle.std.proofs.Common.{◌≡◌, ◌∙◌, sym, ap, refl, ℕ, ◌+◌, ◌++◌, List, [], ◌∷◌, length, map, Option, None, Some}
use Rattle.std.specs.Prelude.{Err, Ok, Result}
use Rattle.def_effect.specs.Block.{Progress, Stopped, changed_row_refusal, final_refusal, made_changes, make_changes, run_asked, stop_at}
use Rattle.wh_base.specs.Lists.{first_of, first_some}
use Rattle.wh_base.specs.Tables.{Base, TableChange, table_after, table_at, with_table}
use Rattle.wh_base.specs.declared.replies.Refusal.{Refusal}
use Rattle.wh_base.specs.declared.statements.Statement.{Statement}
use Rattle.wh_base.specs.declared.tables.Change.{Change}
use Rattle.wh_dml.specs.Asked.{AsksFor}
use Rattle.wh_dml.specs.Changes.{change_of}
use Rattle.wh_check.specs.Making.{Ends, ask_step, asks_of, done_at, statement_step}
use Rattle.wh_check.specs.declared.statement.Made.{Made}
use Rattle.wh_check.specs.declared.statement.Stop.{Stop}
use Rattle.wh_dml.specs.declared.changes.RowChange.{RowChange}
use Rattle.wh_table.specs.Stored.{Stored, base_seen}

-- ---- the second and the third step

module _ (base : Base) (kept at had rows : ℕ) (done : List TableChange) (n scanned : ℕ) where
  -- what becomes of changes that are asked of the table
  abbrev made_of : List Change → Result Progress Stopped
  made_of cs = make_changes kept at (record { base = base; changes = done; scanned = had; rows = rows }) (record { table = n; changes = cs; scanned = scanned })

  -- the changes that are made of those that are asked
  abbrev own_changes : List Change → List Change
  own_changes cs = made_changes (table_at base n) (table_at base n).given cs

  abbrev all_changes : List Change → List TableChange
  all_changes cs = done ++ map (λ c. record { table = n; change = c }) (own_changes cs)

  -- the same, where this is what the second step says
  abbrev made_by : List Change → Option Refusal → Result Progress Stopped
  made_by cs o =
      let after : Base = with_table base n (table_after (table_at base n) (own_changes cs)) in
      stop_at at (had + scanned) (first_some (o ∷ final_refusal after n kept (all_changes cs) ∷ []))
      (record { base = after; changes = all_changes cs; scanned = had + scanned; rows = rows + length cs })

  stopped : (cs : List Change) (r : Refusal) → first_of (changed_row_refusal (table_at base n)) cs ≡ Some r → made_of cs ≡ Err (record { at = at; code = r; scanned = had + scanned })
  stopped cs r e = ap (made_by cs) e

  -- changes that are refused alike, or are the same, make the same
  pub same_made : (cs ds : List Change) → first_of (changed_row_refusal (table_at base n)) cs ≡ first_of (changed_row_refusal (table_at base n)) ds
      → (first_of (changed_row_refusal (table_at base n)) cs ≡ None → cs ≡ ds) → made_of cs ≡ made_of ds
  same_made cs ds refused same = by (first_of (changed_row_refusal (table_at base n)) cs) refl
    where
      by : (o : Option Refusal) → first_of (changed_row_refusal (table_at base n)) cs ≡ o → made_of cs ≡ made_of ds
      by None e = ap made_of (same e)
      by (Some r) e = stopped cs r e ∙ sym (stopped ds r (sym refused ∙ e))

-- ---- the statement

steps : (scn kept : ℕ) (before : List Stored) (s : Statement) (n : ℕ) (cs : List RowChange) (scanned : ℕ) → AsksFor scn before s n cs scanned → (at : ℕ) (done : List TableChange) (had rows : ℕ)
    → statement_step kept s at (done_at scn before done had rows) ≡ ask_step kept (asks_of n cs scanned) at (done_at scn before done had rows)
steps scn kept before s n cs scanned asks at done had rows =
    ap (run_asked kept at (done_at scn before done had rows)) asks.is ∙ same_made (base_seen scn before) kept at had rows done n scanned asks.asked (map change_of cs) asks.refused asks.same

pub lifted : (scn kept : ℕ) (before after : List Stored) (s : Statement) (n : ℕ) (cs : List RowChange) (scanned : ℕ) (r : Result Made Stop) → AsksFor scn before s n cs scanned
    → Ends (ask_step kept (asks_of n cs scanned)) scn kept before after r → Ends (statement_step kept s) scn kept before after r
lifted scn kept before after s n cs scanned (Ok made) asks ends = record {
  table = ends.table;
  changes = ends.changes;
  is = λ at done had rows marked. steps scn kept before s n cs scanned asks at done had rows ∙ ends.is at done had rows marked;
  marked = ends.marked;
  fresh_is = ends.fresh_is;
  few = ends.few;
  few_rows = ends.few_rows;
  defs = ends.defs;
  moved = ends.moved;
  noted = ends.noted;
}
lifted scn kept before after s n cs scanned (Err stop) asks ends = record { is = λ at done had rows marked. steps scn kept before s n cs scanned asks at done had rows ∙ ends.is at done had rows marked }
