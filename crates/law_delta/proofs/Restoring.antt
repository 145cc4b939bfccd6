-- A row read back from a log has the logged columns, and its mark where the partition key is logged.
use Rattle.std.proofs.Common.{◌≡◌, ◌∙◌, ap, refl, arith, ℕ, ◌+◌, ◌<◌, suc, zero, Bool, true, false, cond, List, [], ◌∷◌, map, Option, Some, None}
use Rattle.std.specs.Prelude.{◌==◌, ◌||◌, ◌&&◌, nat_lt, slice_get, unwrap_or, option_map}
use Rattle.std.proofs.lemmas.Bool.Decides.{Decides-eqb, Decides-ltb}
use Rattle.std.proofs.lemmas.Option.{slice_get-map}
use Rattle.std.proofs.lemmas.Bool.{and_parts}
use Rattle.wh_base.specs.Lists.{count_from, has_number, option_case}
use Rattle.wh_base.specs.Tables.{Row, Table, mark_of, part_of_key, row_at, value_at}
use Rattle.wh_base.specs.declared.columns.ColPart.{ColPart}
use Rattle.wh_base.specs.declared.columns.ColPart.TheVariants.{Col, Mark, RowId}
use Rattle.wh_base.specs.declared.tables.RowAt.{RowAt}
use Rattle.wh_base.specs.declared.values.Value.{Value}
use Rattle.wh_base.specs.declared.values.Value.TheVariants.{Null}
use Rattle.def_meaning.specs.Joined.{part_value}
use Rattle.law_delta.specs.Restored.{logged, logged_at, logged_row, restored_value}

counted_at : (start width n : ℕ) → n < width → slice_get (count_from start width) n ≡ Some (start + n)
counted_at start zero n h = absurd (omega arith)
counted_at start (suc width) zero h = ap Some (omega arith)
counted_at start (suc width) (suc n) h = let e : suc start + n ≡ start + suc n = omega arith in counted_at (suc start) width n (omega arith) ∙ ap Some e

restored_is : (columns : List ℕ) (vs : List Value) (n : ℕ) → has_number columns n ≡ true → restored_value columns (map (value_at vs) columns) n ≡ value_at vs n
restored_is [] vs n h = cc
restored_is (c ∷ cs) vs n h = by (c == n) refl h (restored_is cs vs n)
  where
    by : (b : Bool) → (c == n) ≡ b → (b || has_number cs n) ≡ true → (has_number cs n ≡ true → restored_value cs (map (value_at vs) cs) n ≡ value_at vs n) → cond b (value_at vs c) (restored_value cs (map (value_at vs) cs) n) ≡ value_at vs n
    by true e h more = ap (value_at vs) ((Decides-eqb c n).0 e)
    by false e h more = more h

-- a logged column keeps its value
pub logged_is : (width : ℕ) (columns : List ℕ) (vs : List Value) (n : ℕ) → n < width → has_number columns n ≡ true → value_at (logged width columns vs) n ≡ value_at vs n
logged_is width columns vs n h k =
    let e : 0 + n ≡ n = omega arith in
    ap (λ o. unwrap_or o Null) (slice_get-map (restored_value columns (map (value_at vs) columns)) (count_from 0 width) n ∙ ap (option_map (restored_value columns (map (value_at vs) columns))) (counted_at 0 width n h ∙ ap Some e))
    ∙ restored_is columns vs n k

mark_same : (t : Table) (vs ws : List Value) → option_map (value_at vs) t.def.part_key ≡ option_map (value_at ws) t.def.part_key → mark_of t vs ≡ mark_of t ws
mark_same t vs ws h = ap (λ o. option_case o 0 (λ key. option_case (part_of_key t key) 0 (λ p. p.0.number))) h

-- the row of a table read back from its log, as tuples have it
pub logged_row_at : (t : Table) (width : ℕ) (columns : List ℕ) (r : Row) → row_at t (logged_row width columns r) ≡ logged_at t width columns (row_at t r)
logged_row_at t width columns r =
    let m : mark_of t (logged width columns r.values) ≡ cond (option_case t.def.part_key true (λ n. has_number columns n && nat_lt n width)) (mark_of t r.values) (mark_of t (logged width columns r.values)) =
    choose (option_case t.def.part_key true (λ n. has_number columns n && nat_lt n width)) (λ h. mark_same t (logged width columns r.values) r.values (by t.def.part_key h)) in
    λ i. record { rowid = r.rowid; mark = m i; values = logged width columns r.values }
  where
    by : (o : Option ℕ) → option_case o true (λ n. has_number columns n && nat_lt n width) ≡ true → option_map (value_at (logged width columns r.values)) o ≡ option_map (value_at r.values) o
    by None h = refl
    by (Some n) h =
        let parts : (has_number columns n ≡ true) × (nat_lt n width ≡ true) = and_parts (has_number columns n) (nat_lt n width) h in
        ap Some (logged_is width columns r.values n ((Decides-ltb n width).0 parts.1) parts.0)

    choose : (b : Bool) → (b ≡ true → mark_of t (logged width columns r.values) ≡ mark_of t r.values) → mark_of t (logged width columns r.values) ≡ cond b (mark_of t r.values) (mark_of t (logged width columns r.values))
    choose true h = h refl
    choose false h = refl

-- the columns that a log keeps
abbrev pub part_logged : Table → ℕ → List ℕ → ColPart → Bool
part_logged t width columns (Col n) = has_number columns n && nat_lt n width
part_logged t width columns RowId = true
part_logged t width columns Mark = option_case t.def.part_key true (λ n. has_number columns n && nat_lt n width)

-- what `Masking.row_from_log` asks of the rows that were read back
pub logged_keeps : (t : Table) (width : ℕ) (columns : List ℕ) (r : RowAt) (p : ColPart) → part_logged t width columns p ≡ true → part_value (logged_at t width columns r) p ≡ part_value r p
logged_keeps t width columns r (Col n) h =
    let parts : (has_number columns n ≡ true) × (nat_lt n width ≡ true) = and_parts (has_number columns n) (nat_lt n width) h in
    logged_is width columns r.values n ((Decides-ltb n width).0 parts.1) parts.0
logged_keeps t width columns r RowId h = refl
logged_keeps t width columns r Mark h = ap (λ b. part_value (record { rowid = r.rowid; mark = cond b r.mark (mark_of t (logged width columns r.values)); values = logged width columns r.values }) Mark) h
