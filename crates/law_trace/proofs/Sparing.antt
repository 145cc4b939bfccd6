-- Rows whose keys are outside of what was touched after an SCN are as they were then, each with its mark.
use Rattle.std.proofs.Common.{◌≡◌, ◌∙◌, sym, ap, refl, ℕ, ◌≤◌, Bool, true, false, true≢false, cond, not, List, [], ◌∷◌, length, map, Option, None, Some, nat_le, nat_lt, ◌==◌, ◌&&◌}
use Rattle.std.specs.List.{filter}
use Rattle.std.specs.Prelude.{is_some}
use Rattle.std.proofs.lemmas.Bool.{le-leb, ltb-false, ltb-true, not-true, or_parts}
use Rattle.wh_base.specs.Lists.{option_case}
use Rattle.wh_base.specs.Tables.{Base, Row, Table, row_at, table_at, value_at}
use Rattle.wh_base.specs.Values.{interval_has}
use Rattle.wh_base.specs.declared.statements.Event.{Event}
use Rattle.wh_base.specs.declared.tables.TableDef.{TableDef}
use Rattle.wh_base.specs.declared.tables.Part.{Part}
use Rattle.wh_base.specs.declared.tables.RowAt.{RowAt}
use Rattle.wh_base.specs.declared.values.Interval.{Interval}
use Rattle.wh_base.specs.declared.values.Value.{Value}
use Rattle.def_history.specs.Catalog.{Catalog, Touched}
use Rattle.def_history.specs.History.{touches_of, within}
use Rattle.def_meaning.specs.Joined.{rows_at}
use Rattle.def_restrictions.proofs.Union.{any_has}
use Rattle.law_trace.proofs.Fitting.{AllFit}
use Rattle.law_trace.proofs.Growing.{reached, touches_bounded}
use Rattle.law_trace.proofs.Listed.{Each, each_two, each_weaker}
use Rattle.law_trace.specs.Reached.{catalog_of, still}
use Rattle.law_trace.specs.Rows.{Fits}
use Rattle.law_trace.proofs.Blocks.{IsOutside}
use Rattle.law_trace.proofs.Changes.{table_past}
use Rattle.law_trace.proofs.Marks.{IsPlaced, kept, kept_of, marked, number_is, part_for, placed_of, row_marked, says, stays}
use Rattle.law_trace.proofs.Outside.{Avoids, IsSame}

-- ---- rows whose keys are asked for

abbrev pub keeps : (ℕ → Value → Bool) → ℕ → RowAt → Bool
keeps out k r = out r.mark (value_at r.values k)

pub seen_rows : (out : ℕ → Value → Bool) (t : Table) (k : ℕ) (rows : List Row) → t.def.part_key ≡ Some k → Each (IsPlaced t.def.part_key t.parts) rows
    → filter (keeps out k) (map (row_at t) rows) ≡ kept out t.def.part_key t.parts rows
seen_rows out t k [] is placed = refl
seen_rows out t k (r ∷ rows) is placed = by (keeps out k (row_at t r)) same (seen_rows out t k rows is placed.1)
  where
    here : is_some (part_for t.parts (value_at r.values k)) ≡ true
    here = sym (ap (λ o. option_case o true (λ k. is_some (part_for t.parts (value_at r.values k)))) is) ∙ placed.0

    by_number : (o : Option Part) → is_some o ≡ true → says out (value_at r.values k) o ≡ out (option_case o 0 (λ p. p.number)) (value_at r.values k)
    by_number None e = absurd (true≢false (sym e))
    by_number (Some p) e = refl

    same : stays out t.def.part_key t.parts r.values ≡ keeps out k (row_at t r)
    same =
        ap (λ o. stays out o t.parts r.values) is
        ∙ by_number (part_for t.parts (value_at r.values k)) here
        ∙ ap (λ m. out m (value_at r.values k)) (sym (number_is t r.values k is))

    also : (b : Bool) → filter (keeps out k) (map (row_at t) rows) ≡ kept out t.def.part_key t.parts rows
        → cond b (row_at t r ∷ filter (keeps out k) (map (row_at t) rows)) (filter (keeps out k) (map (row_at t) rows))
        ≡ map (marked t.def.part_key t.parts) (cond b (r ∷ filter (λ q. stays out t.def.part_key t.parts q.values) rows) (filter (λ q. stays out t.def.part_key t.parts q.values) rows))
    also true rest = λ i. row_marked t r i ∷ rest i
    also false rest = rest

    by : (b : Bool) → stays out t.def.part_key t.parts r.values ≡ b → filter (keeps out k) (map (row_at t) rows) ≡ kept out t.def.part_key t.parts rows
        → cond b (row_at t r ∷ filter (keeps out k) (map (row_at t) rows)) (filter (keeps out k) (map (row_at t) rows)) ≡ kept out t.def.part_key t.parts (r ∷ rows)
    by b e rest =
        also b rest
        ∙ sym (ap (λ c. map (marked t.def.part_key t.parts) (cond c (r ∷ filter (λ q. stays out t.def.part_key t.parts q.values) rows) (filter (λ q. stays out t.def.part_key t.parts q.values) rows))) e)

pub seen_kept : (out : ℕ → Value → Bool) (base : Base) (n k : ℕ) → (table_at base n).def.part_key ≡ Some k → AllFit (table_at base n) → filter (keeps out k) (rows_at base n) ≡ kept_of out (table_at base n)
seen_kept out base n k is fit =
    let t : Table = table_at base n in
    seen_rows out t k t.rows is (each_weaker (λ r. Fits t r.values) (IsPlaced t.def.part_key t.parts) (λ r h. placed_of t r h.placed) t.rows fit)

-- of a table with a partition key now, the rows that are asked for are the same at both times
pub same_kept : (out : ℕ → Value → Bool) (n k : ℕ) (then now : Base) → IsSame out n then now → (table_at now n).def.part_key ≡ Some k → AllFit (table_at now n)
    → filter (keeps out k) (rows_at then n) ≡ filter (keeps out k) (rows_at now n)
same_kept out n k then now same is fit = by (nat_lt n (length then)) refl ∙ same.rows ∙ sym (seen_kept out now n k is fit)
  where
    by : (b : Bool) → nat_lt n (length then) ≡ b → filter (keeps out k) (rows_at then n) ≡ kept_of out (table_at then n)
    by true e =
        let def : still (table_at now n).def ≡ still (table_at then n).def = same.def (ltb-true n (length then) e) in
        seen_kept out then n k (sym (ap (λ (d : TableDef). d.part_key) def) ∙ is) same.fit
    by false e =
        let none : (table_at then n).rows ≡ [] = table_past then n (ltb-false n (length then) e) in
        ap (λ (rs : List Row). filter (keeps out k) (map (row_at (table_at then n)) rs)) none
        ∙ sym (ap (λ (rs : List Row). kept out (table_at then n).def.part_key (table_at then n).parts rs) none)

-- ---- outside of the intervals that were touched

-- the value is in none of these intervals
abbrev pub outside : List Interval → ℕ → Value → Bool
outside is m v = not (any_has v is)

pub touch_outside : (test : Touched → Bool) (all : List Interval) (xs : List Touched)
    → ((v : Value) → any_has v all ≡ false → any_has v (map (λ t. t.interval) (map (λ t. t.touch) (filter test xs))) ≡ false)
    → Each (λ t. test t ≡ true → IsOutside (outside all) t.touch.number t.touch.interval) xs
touch_outside test all [] h = tt
touch_outside test all (x ∷ xs) h = by (test x) refl h (touch_outside test all xs)
  where
    by : (b : Bool) → test x ≡ b
        → ((v : Value) → any_has v all ≡ false → any_has v (map (λ t. t.interval) (map (λ t. t.touch) (cond b (x ∷ filter test xs) (filter test xs)))) ≡ false)
        → (((v : Value) → any_has v all ≡ false → any_has v (map (λ t. t.interval) (map (λ t. t.touch) (filter test xs))) ≡ false) → Each (λ t. test t ≡ true → IsOutside (outside all) t.touch.number t.touch.interval) xs)
        → (test x ≡ true → IsOutside (outside all) x.touch.number x.touch.interval) × Each (λ t. test t ≡ true → IsOutside (outside all) t.touch.number t.touch.interval) xs
    by true e k rest = (
      λ f v free. (or_parts (interval_has x.touch.interval v) (any_has v (map (λ t. t.interval) (map (λ t. t.touch) (filter test xs)))) (k v (not-true (any_has v all) free))).0,
      rest (λ v none. (or_parts (interval_has x.touch.interval v) (any_has v (map (λ t. t.interval) (map (λ t. t.touch) (filter test xs)))) (k v none)).1),
    )
    by false e k rest = (λ f. absurd (true≢false (sym f ∙ e)), rest k)

pub three_true : (a b c : Bool) → (a && b) ≡ true → c ≡ true → (a && (b && c)) ≡ true
three_true true b c h k = ap (λ x. x && c) h ∙ k
three_true false b c h k = absurd (cc)

pub avoids_touches : (trace : List Event) (n p : ℕ) → Each (Avoids (outside (map (λ t. t.interval) (touches_of (catalog_of trace) n p (catalog_of trace).scn))) n p) (catalog_of trace).touches
avoids_touches trace n p =
    let c : Catalog = catalog_of trace in
    let all : List Interval = map (λ t. t.interval) (touches_of c n p c.scn) in
    each_weaker (λ t. (t.touch.scn ≤ c.scn) × (((t.table == n) && within p c.scn t.touch.scn) ≡ true → IsOutside (outside all) t.touch.number t.touch.interval)) (Avoids (outside all) n p)
    (λ t both e. both.1 (three_true (t.table == n) (nat_lt p t.touch.scn) (nat_le t.touch.scn c.scn) e (le-leb t.touch.scn c.scn both.0))) c.touches
    (each_two (λ t. t.touch.scn ≤ c.scn) (λ t. ((t.table == n) && within p c.scn t.touch.scn) ≡ true → IsOutside (outside all) t.touch.number t.touch.interval) c.touches
    (touches_bounded c (reached trace)) (touch_outside (λ t. (t.table == n) && within p c.scn t.touch.scn) all c.touches (λ v none. none)))
