-- Each row fits its table, and no table has too many.
use Rattle.std.proofs.Common.{◌≡◌, ◌∙◌, sym, ap, refl, subst, arith, ℕ, suc, ◌+◌, ◌≤◌, Bool, true, false, cond, not, List, [], ◌∷◌, ◌++◌, length, map, Option, None, Some, ◌==◌, ◌&&◌, ◌||◌, true≢false}
use Rattle.law_lists.proofs.Each.{Each-passes}
use Rattle.std.proofs.lemmas.Option.{same_Some}
use Rattle.std.proofs.Math.Bool.{and-false}
use Rattle.std.proofs.lemmas.Bool.{and_from, and_parts, not-true, or_right}
use Rattle.std.specs.List.{enumerate_from, filter, find, list_any}
use Rattle.std.specs.Ordering.{is_ge, is_lt}
use Rattle.std.specs.Prelude.{count_by, is_none, option_map}
use Rattle.std.specs.declared.cmp.Ordering.{Ordering}
use Rattle.std.specs.declared.cmp.Ordering.TheVariants.{Equal, Greater, Less}
use Rattle.std.proofs.lemmas.List.{length-append}
use Rattle.std.proofs.lemmas.List.Sums.{count_by-le-length, length-filter}
use Rattle.wh_base.specs.Lists.{option_case}
use Rattle.wh_base.specs.Tables.{Row, Table, mark_of, part_of_key, row_key, table_at, with_intervals}
use Rattle.wh_base.specs.Values.{interval_has, value_cmp}
use Rattle.wh_base.specs.declared.statements.Event.{Event}
use Rattle.wh_base.specs.declared.statements.NewRange.{NewRange}
use Rattle.wh_base.specs.declared.tables.Part.{Part}
use Rattle.wh_base.specs.declared.values.Interval.{Interval}
use Rattle.wh_base.specs.declared.values.Value.{Value}
use Rattle.def_effect.specs.Block.{max_rows}
use Rattle.def_effect.specs.Partitions.{added, added_part, dropped, is_row_of, moved_rows, regrouped, replaced, truncated, with_movement, without_rows}
use Rattle.def_history.specs.Catalog.{base_now}
use Rattle.law_trace.proofs.Basing.{KeepsTable, Regroups, asked_changes, each_table, made, made_of}
use Rattle.law_trace.proofs.Finishing.{finished}
use Rattle.law_trace.proofs.Listed.{Each, each_append, each_filter, each_two, each_weaker}
use Rattle.law_trace.proofs.Bordering.{PartsRight, keep_parts, spans_of}
use Rattle.law_trace.proofs.Marks.{found_part}
use Rattle.law_trace.proofs.Marks.{is_below as is_below_part}
use Rattle.law_trace.proofs.Regrouping.{Spans, any_below}
pub use Rattle.law_trace.proofs.Rising.{AllFit, RowsFit}
use Rattle.law_trace.proofs.Rising.{Rises, Sound, fewer_rise, moved_many, regrouped_rises, sound_after, steps_made}
use Rattle.law_trace.specs.Reached.{catalog_of}
use Rattle.law_trace.specs.Rows.{Fits}

-- ---- partitions that come and go

abbrev Has : Value → Part × Interval → Bool
Has key p = interval_has p.1 key

abbrev is_found : Value → Option Value → List Part → Type 0
is_found key lo parts = is_none (find (Has key) (with_intervals lo parts)) ≡ false

still_found : (key : Value) (lo : Option Value) (parts more : List Part) → is_found key lo parts → is_found key lo (parts ++ more)
still_found key lo [] more e = absurd (cc)
still_found key lo (p ∷ parts) more e = by (interval_has (record { lo = lo; hi = p.below }) key) e (still_found key p.below parts more)
  where
    by : (b : Bool) → is_none (cond b (Some (p, record { lo = lo; hi = p.below })) (find (Has key) (with_intervals p.below parts))) ≡ false
        → (is_found key p.below parts → is_found key p.below (parts ++ more))
        → is_none (cond b (Some (p, record { lo = lo; hi = p.below })) (find (Has key) (with_intervals p.below (parts ++ more)))) ≡ false
    by true e k = refl
    by false e k = k e

-- the key is below the bound, and not below it
abbrev is_below : Value → Option Value → Bool
is_below key hi = option_case hi true (λ hi. is_lt (value_cmp key hi))

abbrev is_over : Value → Option Value → Bool
is_over key lo = option_case lo true (λ lo. is_ge (value_cmp key lo))

over_next : (key : Value) (hi : Option Value) → is_below key hi ≡ false → is_over key hi ≡ true
over_next key None e = absurd (cc)
over_next key (Some hi) e = by (value_cmp key hi) e
  where
    by : (o : Ordering) → is_lt o ≡ false → is_ge o ≡ true
    by Less e = absurd (cc)
    by Equal e = refl
    by Greater e = refl

-- a key below the bound of some partition has a partition
below_found : (key : Value) (lo : Option Value) (parts : List Part) → is_over key lo ≡ true → list_any (λ p. is_below key p.below) parts ≡ true → is_found key lo parts
below_found key lo [] over e = absurd (cc)
below_found key lo (p ∷ parts) over e = by (is_below key p.below) refl e (below_found key p.below parts)
  where
    by : (b : Bool) → is_below key p.below ≡ b → (b || list_any (λ p. is_below key p.below) parts) ≡ true
        → (is_over key p.below ≡ true → list_any (λ p. is_below key p.below) parts ≡ true → is_found key p.below parts) → is_found key lo (p ∷ parts)
    by true is e later =
        ap (λ b. is_none (cond b (Some (p, record { lo = lo; hi = p.below })) (find (Has key) (with_intervals p.below parts)))) (and_from (is_over key lo) (is_below key p.below) over is)
    by false is e later =
        ap (λ b. is_none (cond (is_over key lo && b) (Some (p, record { lo = lo; hi = p.below })) (find (Has key) (with_intervals p.below parts)))) is
        ∙ ap (λ b. is_none (cond b (Some (p, record { lo = lo; hi = p.below })) (find (Has key) (with_intervals p.below parts)))) (and-false (is_over key lo))
        ∙ later (over_next key p.below is) e

-- the partitions but for those of one number
abbrev others : ℕ → List Part → List Part
others n parts = filter (λ q. not (q.number == n)) parts

-- where the key has a partition of another number, it is below the bound of one of the others
found_below : (key : Value) (n : ℕ) (lo : Option Value) (parts : List Part) (q : Part × Interval) → find (Has key) (with_intervals lo parts) ≡ Some q → (q.0.number == n) ≡ false
    → list_any (λ p. is_below key p.below) (others n parts) ≡ true
found_below key n lo [] q e other = absurd (cc)
found_below key n lo (p ∷ parts) q e other = by (interval_has (record { lo = lo; hi = p.below }) key) refl e (found_below key n p.below parts q)
  where
    rest : (b : Bool) → list_any (λ p. is_below key p.below) (others n parts) ≡ true → list_any (λ p. is_below key p.below) (cond b (p ∷ others n parts) (others n parts)) ≡ true
    rest true h = or_right (is_below key p.below) (list_any (λ p. is_below key p.below) (others n parts)) h
    rest false h = h

    by : (b : Bool) → interval_has (record { lo = lo; hi = p.below }) key ≡ b
        → cond b (Some (p, record { lo = lo; hi = p.below })) (find (Has key) (with_intervals p.below parts)) ≡ Some q
        → (find (Has key) (with_intervals p.below parts) ≡ Some q → (q.0.number == n) ≡ false → list_any (λ p. is_below key p.below) (others n parts) ≡ true)
        → list_any (λ p. is_below key p.below) (others n (p ∷ parts)) ≡ true
    by true is e later =
        let same : (p, record { lo = lo; hi = p.below }) ≡ q = same_Some (p, record { lo = lo; hi = p.below }) q e in
        let apart : (p.number == n) ≡ false = ap (λ (q : Part × Interval). q.0.number == n) same ∙ other in
        ap (λ b. list_any (λ p. is_below key p.below) (cond (not b) (p ∷ others n parts) (others n parts))) apart
        ∙ ap (λ b. b || list_any (λ p. is_below key p.below) (others n parts)) (and_parts (is_over key lo) (is_below key p.below) is).1
    by false is e later = rest (not (p.number == n)) (later e other)

-- ---- a row after a partition came or went

-- by the row's key, where the table is partitioned
placed_by : (some : Value → Bool) (also : Value → Bool) → ((key : Value) → some key ≡ false → also key ≡ false) → (o : Option Value) → option_case o false some ≡ false → option_case o false also ≡ false
placed_by some also k None e = refl
placed_by some also k (Some key) e = k key e

fits_added : (t : Table) (r : NewRange) (vs : List Value) → Fits t vs → Fits (added t r).table vs
fits_added t r vs h =
    record {
      width = h.width;
      columns = h.columns;
      placed = placed_by (λ key. is_none (part_of_key t key)) (λ key. is_none (part_of_key (added t r).table key))
          (λ key e. still_found key None t.parts (added_part t r ∷ []) e) (row_key t vs) h.placed;
    }

-- the row isn't of the partition with this number
abbrev IsOutside : Table → ℕ → Row → Type 0
IsOutside t n r = not (mark_of t r.values == n) ≡ true

left_placed : (t : Table) (n : ℕ) (o : Option Value) → option_case o false (λ key. is_none (part_of_key t key)) ≡ false
    → not (option_case o 0 (λ key. option_case (part_of_key t key) 0 (λ p. p.0.number)) == n) ≡ true
    → option_case o false (λ key. is_none (find (Has key) (with_intervals None (others n t.parts)))) ≡ false
left_placed t n None e outside = refl
left_placed t n (Some key) e outside = by (part_of_key t key) refl e outside
  where
    by : (o : Option (Part × Interval)) → part_of_key t key ≡ o → is_none o ≡ false → not (option_case o 0 (λ p. p.0.number) == n) ≡ true
        → is_none (find (Has key) (with_intervals None (others n t.parts))) ≡ false
    by None is e outside = absurd (true≢false e)
    by (Some q) is e outside = below_found key None (others n t.parts) refl (found_below key n None t.parts q is (not-true (q.0.number == n) outside))

fits_dropped : (t : Table) (p : Part × Interval) (r : Row) → Fits t r.values → IsOutside t p.0.number r → Fits (dropped t p).table r.values
fits_dropped t p r h outside =
    record { width = h.width; columns = h.columns; placed = left_placed t p.0.number (row_key t r.values) h.placed outside }

fits_truncated : (t : Table) (p : Part × Interval) (vs : List Value) → Fits t vs → Fits (truncated t p).table vs
fits_truncated t p vs h = record { width = h.width; columns = h.columns; placed = h.placed }

-- ---- a table

-- a key has a partition where it is below a bound
any_joined : {A : Type 0} (p : A → Bool) (xs ys : List A) → list_any p (xs ++ ys) ≡ (list_any p xs || list_any p ys)
any_joined p [] ys = refl
any_joined p (x ∷ xs) ys = ap (λ b. p x || b) (any_joined p xs ys) ∙ sym (or_assoc (p x) (list_any p xs) (list_any p ys))
  where
    or_assoc : (a b c : Bool) → ((a || b) || c) ≡ (a || (b || c))
    or_assoc true b c = refl
    or_assoc false b c = refl

none_any : {A : Type 0} (p : A → Bool) (xs : List A) → is_none (find p xs) ≡ not (list_any p xs)
none_any p [] = refl
none_any p (x ∷ xs) = by (p x) (none_any p xs)
  where
    by : (b : Bool) → is_none (find p xs) ≡ not (list_any p xs) → is_none (cond b (Some x) (find p xs)) ≡ not (b || list_any p xs)
    by true h = refl
    by false h = h

none_mapped : {A B : Type 0} (f : A → B) (o : Option A) → is_none o ≡ is_none (option_map f o)
none_mapped f None = refl
none_mapped f (Some x) = refl

no_part : (t : Table) (key : Value) → is_none (part_of_key t key) ≡ not (any_below key t.parts)
no_part t key = none_mapped (λ (p : Part × Interval). p.0) (part_of_key t key) ∙ ap is_none (found_part t key) ∙ none_any (is_below_part key) t.parts

-- the new partitions take what those that end had
same_below : (parts news : List Part) (before after : List (Part × Interval)) (sp : Spans parts before after) (key : Value) → any_below key (sp.front ++ (sp.news ++ sp.back)) ≡ any_below key parts
same_below parts news before after sp key =
    any_joined (is_below_part key) sp.front (sp.news ++ sp.back)
    ∙ ap (λ b. any_below key sp.front || b) (any_joined (is_below_part key) sp.news sp.back ∙ ap (λ b. b || any_below key sp.back) (sym (sp.covers key)) ∙ sym (any_joined (is_below_part key) sp.mid sp.back))
    ∙ sym (any_joined (is_below_part key) sp.front (sp.mid ++ sp.back))
    ∙ ap (any_below key) (sym sp.is)

pub regrouped_parts : (t : Table) (before after : List (Part × Interval)) (sp : Spans t.parts before after) → (regrouped t before after).table.parts ≡ sp.front ++ (sp.news ++ sp.back)
regrouped_parts t before after sp = (λ i. replaced (sp.ended i) (sp.new i) t.parts) ∙ sp.replaced_by

-- the rows fit wherever each of them does that has a partition
regrouped_fits : (kept : ℕ) (t : Table) (before after : List (Part × Interval)) → Regroups kept t before after → PartsRight t → AllFit t → AllFit (regrouped t before after).table
regrouped_fits kept t before after groups right h =
    each_append (λ r. Fits u r.values) (filter (λ r. not (is_row_of ended t r)) t.rows) (moved_rows t ended)
    (each_weaker (λ r. Fits t r.values) (λ r. Fits u r.values) (λ r. fit r.values) (filter (λ r. not (is_row_of ended t r)) t.rows) (each_filter (λ r. Fits t r.values) (λ r. not (is_row_of ended t r)) t.rows h))
    (all_numbered (suc t.given) (filter (is_row_of ended t) t.rows) (each_filter (λ r. Fits t r.values) (is_row_of ended t) t.rows h))
  where
    u : Table
    u = (regrouped t before after).table

    ended : List ℕ
    ended = map (λ p. p.0.number) before

    sp : Spans t.parts before after
    sp = spans_of kept t before after groups right

    placed : (o : Option Value) → option_case o false (λ key. is_none (part_of_key t key)) ≡ false → option_case o false (λ key. is_none (part_of_key u key)) ≡ false
    placed None e = refl
    placed (Some key) e =
        no_part u key ∙ ap not (ap (any_below key) (regrouped_parts t before after sp) ∙ same_below t.parts sp.news before after sp key) ∙ sym (no_part t key) ∙ e

    fit : (vs : List Value) → Fits t vs → Fits u vs
    fit vs k = record { width = k.width; columns = k.columns; placed = placed (row_key t vs) k.placed }

    all_numbered : (m : ℕ) (rs : List Row) → Each (λ r. Fits t r.values) rs → Each (λ (r : Row). Fits u r.values) (map (λ p. record { rowid = p.0; values = p.1.values }) (enumerate_from m rs))
    all_numbered m [] k = tt
    all_numbered m (r ∷ rs) k = (fit r.values k.0, all_numbered (m + 1) rs k.1)

abbrev pub Right : Table → Type 0
Right t = Sound t × PartsRight t

keep_right : KeepsTable Right
keep_right =
    record {
      asked = λ kept p s a passes same h. (sound_after (table_at p.base a.table) (made_of p.base a) (steps_made kept p s a passes h.0) h.0, keep_parts.asked kept p s a passes same h.1);
      created = λ taken defs t fits. (((tt, tt), tt), keep_parts.created taken defs t fits);
      cut = record {
        adds = λ t r key none h. ((h.0.0, each_weaker (λ q. Fits t q.values) (λ q. Fits (added t r).table q.values) (λ q. fits_added t r q.values) t.rows h.0.1), keep_parts.cut.adds t r key none h.1);
        truncates = λ base n t p none h. (
          (
            fewer_rise t (λ r. not (mark_of t r.values == p.0.number)) h.0.0,
            each_weaker (λ q. Fits t q.values) (λ q. Fits (truncated t p).table q.values) (λ q. fits_truncated t p q.values) (without_rows t p.0) (each_filter (λ q. Fits t q.values) (λ r. not (mark_of t r.values == p.0.number)) t.rows h.0.1),
          ),
          h.1,
        );
        drops = λ base n t p none h. (
          (
            fewer_rise t (λ r. not (mark_of t r.values == p.0.number)) h.0.0,
            each_weaker (λ q. Fits t q.values × IsOutside t p.0.number q) (λ q. Fits (dropped t p).table q.values) (λ q both. fits_dropped t p q both.0 both.1) (without_rows t p.0)
                (each_two (λ q. Fits t q.values) (IsOutside t p.0.number) (without_rows t p.0) (each_filter (λ q. Fits t q.values) (λ r. not (mark_of t r.values == p.0.number)) t.rows h.0.1)
                (Each-passes (λ q. not (mark_of t q.values == p.0.number)) t.rows)),
          ),
          keep_parts.cut.drops base n t p none h.1,
        );
        regroups = λ kept t before after groups h. ((regrouped_rises t before after h.0.0, regrouped_fits kept t before after groups h.1 h.0.1), keep_parts.cut.regroups kept t before after groups h.1);
        moves = λ t on h. ((h.0.0, each_weaker (λ r. Fits t r.values) (λ r. Fits (with_movement t on).table r.values) (λ r k. record { width = k.width; columns = k.columns; placed = k.placed }) t.rows h.0.1), h.1);
      };
    }

trace_right : (trace : List Event) → Each Right (base_now (catalog_of trace))
trace_right trace = each_table Right keep_right trace

pub trace_sound : (trace : List Event) → Each Sound (base_now (catalog_of trace))
trace_sound trace = each_weaker Right Sound (λ t h. h.0) (base_now (catalog_of trace)) (trace_right trace)

pub trace_rises : (trace : List Event) → Each Rises (base_now (catalog_of trace))
trace_rises trace = each_weaker Right Rises (λ t h. h.0.0) (base_now (catalog_of trace)) (trace_right trace)

pub trace_fits : (trace : List Event) → Each AllFit (base_now (catalog_of trace))
trace_fits trace = each_weaker Right AllFit (λ t h. h.0.1) (base_now (catalog_of trace)) (trace_right trace)

-- ---- how many rows

abbrev pub IsFew : Table → Type 0
IsFew t = length t.rows ≤ max_rows

fewer_few : (t : Table) (p : Row → Bool) → IsFew t → length (filter p t.rows) ≤ max_rows
fewer_few t p h =
    let many : length (filter p t.rows) ≡ count_by p t.rows = length-filter p t.rows in
    let most : count_by p t.rows ≤ length t.rows = count_by-le-length p t.rows in
    omega (arith, h)

parted : {A : Type 0} (p : A → Bool) (xs : List A) → length (filter (λ x. not (p x)) xs) + length (filter p xs) ≡ length xs
parted p [] = refl
parted p (x ∷ xs) = by (p x) (parted p xs)
  where
    by : (b : Bool) → length (filter (λ x. not (p x)) xs) + length (filter p xs) ≡ length xs
        → length (cond (not b) (x ∷ filter (λ x. not (p x)) xs) (filter (λ x. not (p x)) xs)) + length (cond b (x ∷ filter p xs) (filter p xs)) ≡ length (x ∷ xs)
    by true h = omega (arith, h)
    by false h = omega (arith, h)

-- a SPLIT or MERGE leaves as many rows
pub regrouped_many : (t : Table) (before after : List (Part × Interval)) → length (regrouped t before after).table.rows ≡ length t.rows
regrouped_many t before after =
    let ended : List ℕ = map (λ p. p.0.number) before in
    length-append (filter (λ r. not (is_row_of ended t r)) t.rows) (moved_rows t ended)
    ∙ ap (λ n. length (filter (λ r. not (is_row_of ended t r)) t.rows) + n) (moved_many t ended)
    ∙ parted (is_row_of ended t) t.rows

same_few : {m n : ℕ} → m ≡ n → n ≤ max_rows → m ≤ max_rows
same_few e h = omega (arith, e, h)

few_of : (t u : Table) → t ≡ u → IsFew t → IsFew u
few_of t u same h = subst IsFew same h

keep_few : KeepsTable IsFew
keep_few =
    record {
      asked = λ kept p s a passes same h. few_of _ _ same (finished (made p.base a) a.table kept (p.changes ++ asked_changes p.base a) passes.whole).few;
      created = λ taken defs t fits. omega arith;
      cut = record {
        adds = λ t r key none h. h;
        truncates = λ base n t p none h. fewer_few t _ h;
        drops = λ base n t p none h. fewer_few t _ h;
        regroups = λ kept t before after groups h. same_few (regrouped_many t before after) h;
        moves = λ t on h. h;
      };
    }

pub trace_few : (trace : List Event) → Each IsFew (base_now (catalog_of trace))
trace_few trace = each_table IsFew keep_few trace
