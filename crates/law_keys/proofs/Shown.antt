-- How often a value is in a column of the table that the definitions see: as often as versions have it now.
use Rattle.std.proofs.Common.{◌≡◌, ◌∙◌, sym, ap, refl, arith, ℕ, ◌+◌, ◌≤◌, Bool, true, false, cond, ◌&&◌, List, [], ◌∷◌, map, Option, None, Some, is_none, is_some}
use Rattle.std.specs.List.{filter}
use Rattle.std.specs.Prelude.{option_and_then}
use Rattle.wh_base.proofs.Sorting.{sorted_counts, times}
use Rattle.wh_base.specs.Lists.{option_case, sorted_by, where_true}
use Rattle.wh_base.specs.Tables.{Places, live_rows, rowid_cmp, value_at}
use Rattle.wh_base.specs.Values.{same_value}
use Rattle.wh_base.specs.declared.tables.RowAt.{RowAt}
use Rattle.wh_base.specs.declared.values.Value.{Value}
use Rattle.def_effect.specs.Block.{column_values}
use Rattle.def_meaning.specs.Meaning.{not_null}
use Rattle.law_keys.proofs.Counts.{length_filter, times_filter, times_map, weight}
use Rattle.law_keys.specs.Fitting.{count_in, has_value, value_of_row}
use Rattle.wh_segment.specs.Versions.{rows_at}
use Rattle.wh_segment.specs.declared.version.Version.{Version}
use Rattle.wh_table.proofs.Living.{settled}
use Rattle.wh_table.specs.Stored.{Stored, changed_at, last_scn, plain_row, rows_living, seen}

-- the row has the value, which isn't NULL
abbrev row_has : Value → ℕ → RowAt → Bool
row_has v column r = not_null (value_at r.values column) && same_value v (value_at r.values column)

one_value : (v x : Value) (b : Bool) → weight (b && same_value v x) ≡ weight (option_case (where_true b x) false (same_value v))
one_value v x true = refl
one_value v x false = refl

one_row : (v : Value) (column : ℕ) (w : Version) (rows : Places) (n : ℕ) (died : Option ℕ) (values : Option (List Value)) → times (row_has v column) (live_rows rows) ≡ n
    → times (row_has v column) (live_rows (option_case values None (λ ws. where_true (is_none died && is_some values) (record { rowid = w.rowid; mark = w.part; values = ws })) ∷ rows))
    ≡ weight (option_case (cond (is_none died && is_some values) (option_and_then (value_of_row column) values) None) false (same_value v)) + n
one_row v column w rows n None None h = omega (arith, h)
one_row v column w rows n None (Some ws) h =
    let one = one_value v (value_at ws column) (not_null (value_at ws column)) in
    omega (arith, h, one)
one_row v column w rows n (Some d) None h = omega (arith, h)
one_row v column w rows n (Some d) (Some ws) h = omega (arith, h)

living_times : (v : Value) (column scn : ℕ) (vs : List Version) → last_scn vs ≤ scn → times (row_has v column) (live_rows (rows_at scn vs)) ≡ times (has_value column v) vs
living_times v column scn [] h = refl
living_times v column scn (w ∷ vs) h =
    let in_time : changed_at w ≤ scn = omega (arith, h) in
    ap (λ b. times (row_has v column) (live_rows (option_case w.values None (λ ws. where_true b (record { rowid = w.rowid; mark = w.part; values = ws })) ∷ rows_at scn vs))) (settled scn w in_time)
    ∙ one_row v column w (rows_at scn vs) (times (has_value column v) vs) w.died w.values (living_times v column scn vs (omega (arith, h)))

-- the values of a column of rows, without the NULLs
listed_times : (v : Value) (column : ℕ) (rows : List RowAt) → times (same_value v) (filter not_null (map (λ r. value_at r.values column) (map plain_row rows))) ≡ times (row_has v column) rows
listed_times v column rows =
    times_filter (same_value v) not_null (map (λ r. value_at r.values column) (map plain_row rows))
    ∙ times_map (λ x. not_null x && same_value v x) (λ r. value_at r.values column) (map plain_row rows)
    ∙ times_map (λ r. not_null (value_at r.values column) && same_value v (value_at r.values column)) plain_row rows

pub counted_now : (s : Stored) (column : ℕ) (v : Value) → count_in s column v ≡ times (has_value column v) s.versions
counted_now s column v = length_filter (has_value column v) s.versions

pub values_seen : (v : Value) (column scn : ℕ) (s : Stored) → last_scn s.versions ≤ scn → times (same_value v) (column_values (seen scn s) column) ≡ count_in s column v
values_seen v column scn s h =
    listed_times v column (sorted_by rowid_cmp (rows_living scn s))
    ∙ sorted_counts rowid_cmp (rows_living scn s) (row_has v column)
    ∙ living_times v column scn s.versions h
    ∙ sym (counted_now s column v)
