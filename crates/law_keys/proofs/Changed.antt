-- How many rows of a table have a value after changes of its rows: so many as before, without those that go, with those that come.
use Rattle.std.proofs.Common.{◌≡◌, ◌∙◌, ap, refl, arith, ℕ, ◌+◌, ◌<◌, ◌≤◌, Bool, true, false, cond, List, [], ◌∷◌, ◌++◌, length, Option, None, Some, slice_get, slice_set, IsSomeAnd, IsTrue}
use Rattle.std.proofs.lemmas.List.{length_push}
use Rattle.std.specs.List.{cons_option}
use Rattle.std.specs.Option.{ForSome}
use Rattle.std.specs.Prelude.{option_and_then}
use Rattle.wh_base.proofs.Sorting.{times}
use Rattle.wh_base.specs.Lists.{option_case, where_true}
use Rattle.wh_base.specs.Tables.{value_at}
use Rattle.wh_base.specs.Values.{same_value}
use Rattle.wh_base.specs.declared.values.Value.{Value}
use Rattle.def_meaning.specs.Meaning.{not_null}
use Rattle.wh_dml.specs.Placed.{AreNext, StandsAt, all_made, made, made_of}
use Rattle.wh_dml.specs.declared.changes.PlacedRow.{PlacedRow}
use Rattle.wh_dml.specs.declared.changes.RowChange.{RowChange}
use Rattle.law_keys.proofs.Counts.{first_append, first_set, first_times, times_append, times_set, weight}
use Rattle.law_keys.specs.Fitting.{has_value, value_in, value_of_row}
use Rattle.wh_keys.specs.Indexes.{coming, entry_in, going}
use Rattle.wh_segment.specs.Versions.{born_at, ended, ended_at, is_live}
use Rattle.wh_segment.specs.declared.version.Version.{Version}
use Rattle.wh_table.proofs.Counting.{ended_is, last_append, last_ended, length_ended}
use Rattle.wh_table.proofs.Ordered.{Each}
use Rattle.wh_table.specs.Stored.{Stored, last_scn, rowid_at}

-- ---- entries

-- the entry of a row that goes or comes
abbrev pub entry_of : ℕ → Option PlacedRow → Option (Value × ℕ)
entry_of column o = option_case o None (entry_in column)

abbrev pub is_of : Value → Value × ℕ → Bool
is_of v e = same_value v e.0

-- how many entries have the value
abbrev pub entries_with : Value → List (Value × ℕ) → ℕ
entries_with v es = times (is_of v) es

-- the entry has the value
abbrev pub has_entry : Value → Option (Value × ℕ) → Bool
has_entry v o = option_case o false (is_of v)

pub entries_more : (v : Value) (o : Option (Value × ℕ)) (es : List (Value × ℕ)) → entries_with v (cons_option o es) ≡ weight (has_entry v o) + entries_with v es
entries_more v None es = omega arith
entries_more v (Some e) es = refl

entry_has : (v : Value) (column place : ℕ) (values : List Value)
    → option_case (value_of_row column values) false (same_value v) ≡ has_entry v (entry_in column (record { place = place; values = values }))
entry_has v column place values = by (not_null (value_at values column))
  where
    by : (b : Bool) → option_case (where_true b (value_at values column)) false (same_value v) ≡ has_entry v (where_true b (value_at values column, place))
    by true = refl
    by false = refl

-- ---- the row that stands at its place

-- a live version with these values stands at the place
pub record Stands (vs : List Version) (place : ℕ) (values : List Value) : Type 0 where
  pub version : Version
  pub there : slice_get vs place ≡ Some version
  pub live : is_live version ≡ true
  pub has : version.values ≡ Some values

pub stands : (s : Stored) (rowid : ℕ) (q : PlacedRow) → StandsAt s rowid q → Stands s.versions q.place q.values
stands s rowid q h = by (slice_get s.versions q.place) refl h
  where
    by : (o : Option Version) → slice_get s.versions q.place ≡ o → IsSomeAnd o (λ v. IsTrue (is_live v) × ((v.rowid ≡ rowid) × (v.values ≡ Some q.values)))
        → Stands s.versions q.place q.values
    by None e k = absurd k
    by (Some v) e k = record { version = v; there = e; live = k.0; has = k.1.1 }

pub live_value : (column : ℕ) (v : Version) (values : List Value) → is_live v ≡ true → v.values ≡ Some values → value_in column v ≡ value_of_row column values
live_value column v values live has =
    ap (λ b. cond b (option_and_then (value_of_row column) v.values) None) live
    ∙ ap (λ o. option_and_then (value_of_row column) o) has

stood : (v : Value) (column : ℕ) (q : PlacedRow) (w : Version) → is_live w ≡ true → w.values ≡ Some q.values → weight (has_value column v w) ≡ weight (has_entry v (entry_in column q))
stood v column q w live has =
    ap (λ o. weight (option_case o false (same_value v))) (live_value column w q.values live has)
    ∙ ap weight (entry_has v column q.place q.values)

-- ---- one change

-- so many have the value in the versions with the one at a place ended
times_ended : (v : Value) (column place scn : ℕ) (vs : List Version) (w : Version) → slice_get vs place ≡ Some w
    → times (has_value column v) (ended_at place scn vs) + weight (has_value column v w) ≡ times (has_value column v) vs
times_ended v column place scn vs w there =
    let set = times_set (has_value column v) vs place w (ended scn w) there in
    let same : times (has_value column v) (ended_at place scn vs) ≡ times (has_value column v) (slice_set vs place (ended scn w)) = ap (times (has_value column v)) (ended_is vs place scn w there) in
    let gone : weight (has_value column v (ended scn w)) ≡ 0 = refl in
    omega (arith, set, same, gone)

first_ended : (v : Value) (column n place scn : ℕ) (vs : List Version) (w : Version) → place < n → slice_get vs place ≡ Some w
    → first_times (has_value column v) n (ended_at place scn vs) + weight (has_value column v w) ≡ first_times (has_value column v) n vs
first_ended v column n place scn vs w below there =
    let set = first_set (has_value column v) n vs place w (ended scn w) below there in
    let same : first_times (has_value column v) n (ended_at place scn vs) ≡ first_times (has_value column v) n (slice_set vs place (ended scn w)) = ap (first_times (has_value column v) n) (ended_is vs place scn w there) in
    let gone : weight (has_value column v (ended scn w)) ≡ 0 = refl in
    omega (arith, set, same, gone)

times_born : (v : Value) (column scn rowid : ℕ) (r : PlacedRow) (vs : List Version)
    → times (has_value column v) (vs ++ born_at scn rowid 0 r.values ∷ []) ≡ times (has_value column v) vs + weight (has_entry v (entry_in column r))
times_born v column scn rowid r vs =
    let more = times_append (has_value column v) vs (born_at scn rowid 0 r.values) in
    let same : weight (has_value column v (born_at scn rowid 0 r.values)) ≡ weight (has_entry v (entry_in column r)) = ap weight (entry_has v column r.place r.values) in
    omega (arith, more, same)

pub step_times : (v : Value) (column scn rowid : ℕ) (s : Stored) (old new : Option PlacedRow) → ForSome old (StandsAt s rowid)
    → times (has_value column v) (made_of scn old new s).versions + weight (has_entry v (entry_of column old)) ≡ times (has_value column v) s.versions + weight (has_entry v (entry_of column new))
step_times v column scn rowid s None None h = refl
step_times v column scn rowid s None (Some r) h = omega (arith, times_born v column scn (s.given + 1) r s.versions)
step_times v column scn rowid s (Some q) None h =
    let at = stands s rowid q (h q refl) in
    omega (arith, times_ended v column q.place scn s.versions at.version at.there, stood v column q at.version at.live at.has)
step_times v column scn rowid s (Some q) (Some r) h =
    let at = stands s rowid q (h q refl) in
    omega (
      arith,
      times_ended v column q.place scn s.versions at.version at.there,
      stood v column q at.version at.live at.has,
      times_born v column scn (rowid_at s q.place) r (ended_at q.place scn s.versions),
    )

-- the row that goes has its place among the first n
abbrev pub IsBelow : ℕ → RowChange → Type 0
IsBelow n c = ForSome c.old (λ q. q.place < n)

pub step_first : (v : Value) (column scn rowid n : ℕ) (s : Stored) (old new : Option PlacedRow) → ForSome old (StandsAt s rowid) → ForSome old (λ q. q.place < n) → n ≤ length s.versions
    → first_times (has_value column v) n (made_of scn old new s).versions + weight (has_entry v (entry_of column old)) ≡ first_times (has_value column v) n s.versions
step_first v column scn rowid n s None None h below within = omega arith
step_first v column scn rowid n s None (Some r) h below within =
    omega (arith, first_append (has_value column v) n s.versions (born_at scn (s.given + 1) 0 r.values) within)
step_first v column scn rowid n s (Some q) None h below within =
    let at = stands s rowid q (h q refl) in
    omega (arith, first_ended v column n q.place scn s.versions at.version (below q refl) at.there, stood v column q at.version at.live at.has)
step_first v column scn rowid n s (Some q) (Some r) h below within =
    let at = stands s rowid q (h q refl) in
    let as_long : length (ended_at q.place scn s.versions) ≡ length s.versions = length_ended s.versions q.place scn at.version at.there in
    omega (
      arith,
      first_ended v column n q.place scn s.versions at.version (below q refl) at.there,
      stood v column q at.version at.live at.has,
      first_append (has_value column v) n (ended_at q.place scn s.versions) (born_at scn (rowid_at s q.place) 0 r.values) (omega (arith, as_long, within)),
    )

pub step_length : (scn rowid : ℕ) (s : Stored) (old new : Option PlacedRow) → ForSome old (StandsAt s rowid) → length s.versions ≤ length (made_of scn old new s).versions
step_length scn rowid s None None h = omega arith
step_length scn rowid s None (Some r) h = omega (arith, length_push s.versions (born_at scn (s.given + 1) 0 r.values))
step_length scn rowid s (Some q) None h =
    let at = stands s rowid q (h q refl) in
    omega (arith, length_ended s.versions q.place scn at.version at.there)
step_length scn rowid s (Some q) (Some r) h =
    let at = stands s rowid q (h q refl) in
    omega (arith, length_ended s.versions q.place scn at.version at.there, length_push (ended_at q.place scn s.versions) (born_at scn (rowid_at s q.place) 0 r.values))

step_last : (scn rowid : ℕ) (s : Stored) (old new : Option PlacedRow) → ForSome old (StandsAt s rowid) → last_scn s.versions ≤ scn → last_scn (made_of scn old new s).versions ≤ scn
step_last scn rowid s None None h in_time = in_time
step_last scn rowid s None (Some r) h in_time = omega (arith, in_time, last_append s.versions (born_at scn (s.given + 1) 0 r.values))
step_last scn rowid s (Some q) None h in_time =
    let at = stands s rowid q (h q refl) in
    omega (arith, in_time, last_ended s.versions q.place scn at.version at.there at.live)
step_last scn rowid s (Some q) (Some r) h in_time =
    let at = stands s rowid q (h q refl) in
    omega (
      arith,
      in_time,
      last_ended s.versions q.place scn at.version at.there at.live,
      last_append (ended_at q.place scn s.versions) (born_at scn (rowid_at s q.place) 0 r.values),
    )

step_def : (scn : ℕ) (s : Stored) (old new : Option PlacedRow) → (made_of scn old new s).def ≡ s.def
step_def scn s None None = refl
step_def scn s None (Some r) = refl
step_def scn s (Some q) None = refl
step_def scn s (Some q) (Some r) = refl

-- ---- all changes

pub counts_changed : (v : Value) (column scn : ℕ) (s : Stored) (cs : List RowChange) → AreNext scn s cs
    → times (has_value column v) (all_made scn cs s).versions + entries_with v (going column cs) ≡ times (has_value column v) s.versions + entries_with v (coming column cs)
counts_changed v column scn s [] h = refl
counts_changed v column scn s (c ∷ cs) h =
    let one = step_times v column scn c.rowid s c.old c.new h.0.old in
    let rest = counts_changed v column scn (made scn c s) cs h.1 in
    let gone = entries_more v (entry_of column c.old) (going column cs) in
    let come = entries_more v (entry_of column c.new) (coming column cs) in
    omega (arith, one, rest, gone, come)

-- none goes that wasn't among the first n
pub few_go : (v : Value) (column scn n : ℕ) (s : Stored) (cs : List RowChange) → AreNext scn s cs → Each (IsBelow n) cs → n ≤ length s.versions
    → entries_with v (going column cs) ≤ first_times (has_value column v) n s.versions
few_go v column scn n s [] h below within = omega arith
few_go v column scn n s (c ∷ cs) h below within =
    let one = step_first v column scn c.rowid n s c.old c.new h.0.old below.0 within in
    let longer = step_length scn c.rowid s c.old c.new h.0.old in
    let rest = few_go v column scn n (made scn c s) cs h.1 below.1 (omega (arith, longer, within)) in
    let gone = entries_more v (entry_of column c.old) (going column cs) in
    omega (arith, one, rest, gone)

pub last_made : (scn : ℕ) (s : Stored) (cs : List RowChange) → AreNext scn s cs → last_scn s.versions ≤ scn → last_scn (all_made scn cs s).versions ≤ scn
last_made scn s [] h in_time = in_time
last_made scn s (c ∷ cs) h in_time = last_made scn (made scn c s) cs h.1 (step_last scn c.rowid s c.old c.new h.0.old in_time)

pub def_made : (scn : ℕ) (s : Stored) (cs : List RowChange) → (all_made scn cs s).def ≡ s.def
def_made scn s [] = refl
def_made scn s (c ∷ cs) = def_made scn (made scn c s) cs ∙ step_def scn s c.old c.new
