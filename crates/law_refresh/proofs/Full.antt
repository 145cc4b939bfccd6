-- What can't be NULL isn't NULL in any tuple, so COUNT(*) counts it.
use Rattle.std.proofs.Common.{◌≡◌, ◌∙◌, sym, ap, refl, subst, arith, ℕ, zero, suc, Bool, true, false, cond, not, List, [], ◌∷◌, ◌++◌, length, map, Option, None, Some, nat_le, ◌==◌, ◌&&◌, ◌||◌}
use Rattle.std.proofs.lemmas.Option.{same_Some}
use Rattle.std.specs.List.{find, flat_map, list_all}
use Rattle.std.specs.Prelude.{slice_get, zip}
use Rattle.std.proofs.lemmas.Bool.{and_parts, eq-eqb, eqb-true, not-false}
use Rattle.wh_base.specs.Columns.{expr_columns}
use Rattle.wh_base.specs.Lists.{first_of, has_number, option_case, where_true}
use Rattle.wh_base.specs.Tables.{Base, Row, Table, def_at, never_null_part, row_at, value_at, with_table}
use Rattle.wh_base.specs.Values.{is_null, product_value}
use Rattle.wh_base.specs.declared.columns.ColPart.{ColPart}
use Rattle.wh_base.specs.declared.columns.ColPart.TheVariants.{Col, Mark, RowId}
use Rattle.wh_base.specs.declared.columns.ColRef.{ColRef}
use Rattle.wh_base.specs.declared.columns.Expr.{Expr}
use Rattle.wh_base.specs.declared.columns.Expr.TheVariants as expr
use Rattle.wh_base.specs.declared.replies.Refusal.TheVariants.{NullNotAllowed, ValueDoesNotFit}
use Rattle.wh_base.specs.declared.statements.Event.{Event}
use Rattle.wh_base.specs.declared.tables.ColumnDef.{ColumnDef}
use Rattle.wh_base.specs.declared.tables.Kind.{Kind}
use Rattle.wh_base.specs.declared.tables.Kind.TheVariants as kind
use Rattle.wh_base.specs.declared.tables.RowAt.{RowAt}
use Rattle.wh_base.specs.declared.tables.TableDef.{TableDef}
use Rattle.wh_base.specs.declared.values.Value.{Value}
use Rattle.wh_base.specs.declared.values.Value.TheVariants.{Day, Null, Num, Ratio, Text}
use Rattle.def_effect.specs.Block.{column_refusal, fits_kind}
use Rattle.def_effect.specs.Define.{defined}
use Rattle.law_lists.proofs.Booleans.{and_rest}
use Rattle.law_refresh.proofs.Granting.{zip_map}
use Rattle.law_refresh.specs.Planned.{IsPlanned}
use Rattle.wh_base.specs.declared.columns.Agg.TheVariants.{Sum}
use Rattle.def_history.specs.Catalog.{Catalog, View, base_at, base_now, defs_now}
use Rattle.def_journal.specs.Committing.{after_block, do_dues}
use Rattle.def_journal.specs.Journal.{state_after, state_of}
use Rattle.def_journal.specs.State.{State, with_base}
use Rattle.def_journal.specs.Statements.{altered}
use Rattle.def_meaning.specs.Joined.{column_value, joined_over, part_value, product, row_of, tuple_true}
use Rattle.def_meaning.specs.Meaning.{expr_value}
use Rattle.def_resolve.specs.Kinds.{IsAny, IsNumber, agrees, is_plain, is_summed, part_sort, sort_of_kind}
use Rattle.def_restrictions.specs.Definition.{selects_agg, table_defs, view_never_null}
use Rattle.law_trace.proofs.Basing.{base_altered, base_committed, base_created, none_first, none_rest, none_where}
use Rattle.law_trace.proofs.Fitting.{AllFit, trace_fits}
use Rattle.law_trace.proofs.Growing.{SamePast, dues_past, installed_past}
use Rattle.law_trace.proofs.Listed.{Each, each_append, each_filter, each_found, each_map, each_weaker}
use Rattle.law_trace.proofs.Moves.{Adds, Alters, Commits, Creates, Declares, Drops, Forgets, Installs, Logs, Move, Purges, Stays, Switches, Withdraws}
use Rattle.law_trace.proofs.Stepping.{moves}
use Rattle.law_trace.proofs.Traces.{by_events, state_push}
use Rattle.law_trace.specs.Reached.{catalog_of, still}
use Rattle.law_trace.specs.Rows.{Fits}

-- ---- the rows of every past base state fit

abbrev PastFits : Catalog → Type 0
PastFits c = Each (λ (b : ℕ × Base). Each AllFit b.1) c.past

one_more : (c d : Catalog) (scn : ℕ) (base : Base) → d.past ≡ (scn, base) ∷ c.past → base_now d ≡ base → Each AllFit (base_now d) → PastFits c → PastFits d
one_more c d scn base past now fits h = subst (Each (λ (b : ℕ × Base). Each AllFit b.1)) (sym past) (subst (Each AllFit) now fits, h)

move_past : (s : State) (x : Event) (d : Catalog) → Each AllFit (base_now d) → Move s x d → PastFits s.catalog → PastFits d
move_past s x d fits (Stays is) h = subst PastFits (sym is) h
move_past s x d fits (Commits p ss same block is) h =
    let e : Catalog = (do_dues (after_block s.catalog p) p.changes).catalog in
    let past : SamePast (after_block s.catalog p) e = dues_past s.catalog p in
    subst PastFits (sym is) (one_more s.catalog e (suc s.catalog.scn) p.base past.past (base_committed s.catalog p) (subst (λ (c : Catalog). Each AllFit (base_now c)) is fits) h)
move_past s x d fits (Creates t new none is) h =
    let base : Base = base_now s.catalog ++ defined (defs_now s.catalog) t ∷ [] in
    subst PastFits (sym is) (one_more s.catalog (with_base s.catalog base) (suc s.catalog.scn) base refl (base_created s.catalog base) (subst (λ (c : Catalog). Each AllFit (base_now c)) is fits) h)
move_past s x d fits (Alters n a same change form cut is) h =
    subst PastFits (sym is) (one_more s.catalog (altered s.catalog n a) (suc s.catalog.scn) (with_table (base_now s.catalog) n a.table) refl (base_altered s.catalog n a) (subst (λ (c : Catalog). Each AllFit (base_now c)) is fits) h)
move_past s x d fits (Logs logs made is) h = subst PastFits (sym is) h
move_past s x d fits (Purges logs purge is) h = subst PastFits (sym is) h
move_past s x d fits (Forgets oldest more undo is) h = subst PastFits (sym is) h
move_past s x d fits (Adds v w new star is) h = subst PastFits (sym is) h
move_past s x d fits (Switches n f keeps is) h = subst PastFits (sym is) h
move_past s x d fits (Installs b ps begun takes is) h = subst PastFits (sym is) (subst (Each (λ (b : ℕ × Base). Each AllFit b.1)) (sym (installed_past s.catalog ps).past) h)
move_past s x d fits (Drops n free is) h = subst PastFits (sym is) h
move_past s x d fits (Declares a new is) h = subst PastFits (sym is) h
move_past s x d fits (Withdraws name is) h = subst PastFits (sym is) h

past_fits : (trace : List Event) → PastFits (catalog_of trace)
past_fits = by_events (λ trace. PastFits (catalog_of trace)) (tt, tt) step
  where
    step : (front : List Event) (e : Event) → PastFits (catalog_of front) → PastFits (catalog_of (front ++ e ∷ []))
    step front e h =
        subst (λ (s : State). PastFits s.catalog) (sym (state_push front e))
        (move_past (state_of front) e (state_after (state_of front) e).catalog (subst (λ (s : State). Each AllFit (base_now s.catalog)) (state_push front e) (trace_fits (front ++ e ∷ []))) (moves (state_of front) e).catalog h)

pub base_fits : (trace : List Event) (p : ℕ) → Each AllFit (base_at (catalog_of trace) p)
base_fits trace p = by (find (λ q. nat_le q.0 p) (catalog_of trace).past) refl
  where
    by : (o : Option (ℕ × Base)) → find (λ q. nat_le q.0 p) (catalog_of trace).past ≡ o → Each AllFit (option_case o [] (λ q. q.1))
    by None e = tt
    by (Some q) e = each_found (λ (b : ℕ × Base). Each AllFit b.1) (λ q. nat_le q.0 p) (catalog_of trace).past q (past_fits trace) e

-- ---- what a row has in a column

abbrev is_num : Value → Bool
is_num (Num n) = true
is_num v = false

-- what can't be NULL isn't, and is a number in a column of numbers
pub record IsFull (d : TableDef) (part : ColPart) (v : Value) : Type 0 where
  pub full : is_null v ≡ false
  pub number : (is_plain part && agrees (part_sort d part) IsNumber) ≡ true → is_num v ≡ true

column_holds : (d : TableDef) (columns : List ColumnDef) (vs : List Value) (n : ℕ) (col : ColumnDef) → length vs ≡ length columns → first_of (column_refusal d) (zip columns vs) ≡ None → slice_get columns n ≡ Some col
    → column_refusal d (col, value_at vs n) ≡ None
column_holds d [] vs n col many none is = cc
column_holds d (c ∷ columns) [] n col many none is = absurd (omega arith)
column_holds d (c ∷ columns) (v ∷ vs) zero col many none is = ap (λ x. column_refusal d (x, v)) (sym (same_Some c col is)) ∙ none_first (column_refusal d (c, v)) _ none
column_holds d (c ∷ columns) (v ∷ vs) (suc n) col many none is = column_holds d columns vs n col (less (length vs) (length columns) many) (none_rest (column_refusal d (c, v)) _ none) is
  where
    less : (m n : ℕ) → suc m ≡ suc n → m ≡ n
    less m n e = omega arith

number_held : (k : Kind) (v : Value) → fits_kind k v ≡ true → is_null v ≡ false → agrees (sort_of_kind k) IsNumber ≡ true → is_num v ≡ true
number_held (kind.Number p) (Num m) fits full sort = refl
number_held (kind.Number p) (Text t) fits full sort = cc
number_held (kind.Number p) (Ratio a) fits full sort = cc
number_held (kind.Number p) Null fits full sort = cc
number_held (kind.Text p) v fits full sort = cc
number_held kind.Date v fits full sort = cc
number_held (kind.Number p) (Day n) fits full sort = cc

row_full : (t : Table) (r : Row) → Fits t r.values → (part : ColPart) → never_null_part t.def part ≡ true → IsFull t.def part (part_value (row_at t r) part)
row_full t r fits RowId never = record { full = refl; number = λ e. refl }
row_full t r fits Mark never = record { full = refl; number = λ e. refl }
row_full t r fits (Col n) never = by (slice_get t.def.columns n) refl never
  where
    by : (o : Option ColumnDef) → slice_get t.def.columns n ≡ o → option_case o false (λ c. c.not_null) ≡ true → IsFull t.def (Col n) (value_at r.values n)
    by None e never = cc
    by (Some col) e never =
        let v : Value = value_at r.values n in
        let none : column_refusal t.def (col, v) ≡ None = column_holds t.def t.def.columns r.values n col fits.width fits.columns e in
        let fit : fits_kind col.kind v ≡ true = not-false (fits_kind col.kind v) (none_where (not (fits_kind col.kind v)) (ValueDoesNotFit t.def.name col.name) (none_first (where_true (not (fits_kind col.kind v)) (ValueDoesNotFit t.def.name col.name)) _ none)) in
        let null : (col.not_null && is_null v) ≡ false =
        none_where (col.not_null && is_null v) (NullNotAllowed t.def.name col.name) (none_first (where_true (col.not_null && is_null v) (NullNotAllowed t.def.name col.name)) [] (none_rest (where_true (not (fits_kind col.kind v)) (ValueDoesNotFit t.def.name col.name)) _ none)) in
        let full : is_null v ≡ false = and_rest col.not_null (is_null v) never null in
        record { full = full; number = λ s. number_held col.kind v fit full (sym (ap (λ o. agrees (option_case o IsAny (λ c. sort_of_kind c.kind)) IsNumber) e) ∙ s) }

-- ---- tuples

-- the rows of each table have such a property
abbrev pub OfEach : (ℕ → RowAt → Type 0) → List ℕ → List RowAt → Type 0
OfEach P ns t = (n : ℕ) → has_number ns n ≡ true → P n (row_of ns t n)

pub product_each : (P : ℕ → RowAt → Type 0) (f : ℕ → List RowAt) (ns : List ℕ) → ((n : ℕ) → has_number ns n ≡ true → Each (P n) (f n)) → Each (OfEach P ns) (product (map f ns))
product_each P f [] h = (λ n e. cc, tt)
product_each P f (m ∷ ns) h =
    let rest : Each (OfEach P ns) (product (map f ns)) = product_each P f ns (λ n e. h n (later (m == n) n e)) in
    fronts (f m) (h m (ap (λ b. b || has_number ns m) (eq-eqb m m refl))) rest
  where
    later : (b : Bool) (n : ℕ) → has_number ns n ≡ true → (b || has_number ns n) ≡ true
    later true n e = refl
    later false n e = e

    with_front : (x : RowAt) → P m x → (t : List RowAt) → OfEach P ns t → OfEach P (m ∷ ns) (x ∷ t)
    with_front x p t k n e = by (m == n) refl e
      where
        by : (b : Bool) → (m == n) ≡ b → (b || has_number ns n) ≡ true → P n (cond b x (row_of ns t n))
        by true s e = subst (λ j. P j x) (eqb-true m n s) p
        by false s e = k n e

    fronts : (xs : List RowAt) → Each (P m) xs → Each (OfEach P ns) (product (map f ns)) → Each (OfEach P (m ∷ ns)) (flat_map (λ x. map (λ rest. x ∷ rest) (product (map f ns))) xs)
    fronts [] h rest = tt
    fronts (x ∷ xs) h rest = each_append (OfEach P (m ∷ ns)) (map (λ rest. x ∷ rest) (product (map f ns))) (flat_map (λ x. map (λ rest. x ∷ rest) (product (map f ns))) xs)
        (each_map (OfEach P ns) (OfEach P (m ∷ ns)) (λ rest. x ∷ rest) (with_front x h.0) (product (map f ns)) rest) (fronts xs h.1 rest)

-- ---- expressions

product_full : (v w : Value) → is_num v ≡ true → is_num w ≡ true → is_null (product_value v w) ≡ false
product_full (Num m) (Num n) h k = refl
product_full v w h k = cc

never_found : (f : ℕ → TableDef) (ns : List ℕ) (m : ℕ) (part : ColPart) → option_case (find (λ (t : ℕ × TableDef). t.0 == m) (map (λ n. (n, f n)) ns)) false (λ t. never_null_part t.1 part) ≡ true
    → (has_number ns m ≡ true) × (never_null_part (f m) part ≡ true)
never_found f [] m part e = cc
never_found f (n ∷ ns) m part e = by (n == m) refl e (never_found f ns m part)
  where
    by : (b : Bool) → (n == m) ≡ b → option_case (cond b (Some (n, f n)) (find (λ (t : ℕ × TableDef). t.0 == m) (map (λ n. (n, f n)) ns))) false (λ t. never_null_part t.1 part) ≡ true
        → (option_case (find (λ (t : ℕ × TableDef). t.0 == m) (map (λ n. (n, f n)) ns)) false (λ t. never_null_part t.1 part) ≡ true → (has_number ns m ≡ true) × (never_null_part (f m) part ≡ true))
        → ((b || has_number ns m) ≡ true) × (never_null_part (f m) part ≡ true)
    by true is e more = (refl, subst (λ k. never_null_part (f k) part ≡ true) (eqb-true n m is) e)
    by false is e more = more e

-- a row of the table as now defined
abbrev pub RowFull : Catalog → ℕ → RowAt → Type 0
RowFull c n r = (part : ColPart) → never_null_part (def_at (defs_now c) n) part ≡ true → IsFull (def_at (defs_now c) n) part (part_value r part)

pub rows_full : (c : Catalog) (n : ℕ) (t : Table) → still t.def ≡ still (def_at (defs_now c) n) → AllFit t → Each (RowFull c n) (map (row_at t) t.rows)
rows_full c n t def fit =
    each_map (λ r. Fits t r.values) (RowFull c n) (row_at t)
    (λ r fits part never. told (def_at (defs_now c) n) part (part_value (row_at t r) part) (subst (λ d. IsFull d part (part_value (row_at t r) part)) def (told_still t.def part (part_value (row_at t r) part) (row_full t r fits part (kept_null t.def part (subst (λ d. never_null_part d part ≡ true) (sym def) (null_kept (def_at (defs_now c) n) part never))))))) t.rows fit
  where
    null_kept : (d : TableDef) (part : ColPart) → never_null_part d part ≡ true → never_null_part (still d) part ≡ true
    null_kept d (Col n) e = e
    null_kept d RowId e = e
    null_kept d Mark e = e

    kept_null : (d : TableDef) (part : ColPart) → never_null_part (still d) part ≡ true → never_null_part d part ≡ true
    kept_null d (Col n) e = e
    kept_null d RowId e = e
    kept_null d Mark e = e

    told : (d : TableDef) (part : ColPart) (v : Value) → IsFull (still d) part v → IsFull d part v
    told d (Col n) v h = record { full = h.full; number = h.number }
    told d RowId v h = record { full = h.full; number = h.number }
    told d Mark v h = record { full = h.full; number = h.number }

    told_still : (d : TableDef) (part : ColPart) (v : Value) → IsFull d part v → IsFull (still d) part v
    told_still d (Col n) v h = record { full = h.full; number = h.number }
    told_still d RowId v h = record { full = h.full; number = h.number }
    told_still d Mark v h = record { full = h.full; number = h.number }

module _ (c : Catalog) (v : View) (planned : IsPlanned c v) (t : List RowAt) (each : OfEach (RowFull c) v.def.query.tables t) where
  value : ColRef → Value
  value = column_value v.def.query.tables t

  column_full : (col : ColRef) → view_never_null v.def col ≡ true → IsFull (def_at (defs_now c) col.table) col.part (value col)
  unfolding value
  column_full col never =
      let is : table_defs v.def ≡ map (λ n. (n, def_at (defs_now c) n)) v.def.query.tables = ap (zip v.def.query.tables) planned.defined ∙ zip_map (def_at (defs_now c)) v.def.query.tables in
      let found : (has_number v.def.query.tables col.table ≡ true) × (never_null_part (def_at (defs_now c) col.table) col.part ≡ true) =
      never_found (def_at (defs_now c)) v.def.query.tables col.table col.part (sym (ap (λ ts. option_case (find (λ (t : ℕ × TableDef). t.0 == col.table) ts) false (λ t. never_null_part t.1 col.part)) is) ∙ never) in
      each col.table found.0 col.part found.1

  sum_full : (e : Expr) → selects_agg v.def.query (Sum e) ≡ true → list_all (view_never_null v.def) (expr_columns e) ≡ true → is_null (expr_value value e) ≡ false
  unfolding value
  sum_full (expr.Col col) selected never = (column_full col (and_parts (view_never_null v.def col) true never).0).full
  sum_full (expr.Product a b) selected never =
      let both = and_parts (view_never_null v.def a) (view_never_null v.def b && true) never in
      let numbers : (is_summed (defs_now c) a ≡ true) × (is_summed (defs_now c) b ≡ true) = planned.numbers a b selected in
      product_full (value a) (value b) ((column_full a both.0).number numbers.0) ((column_full b (and_parts (view_never_null v.def b) true both.1).0).number numbers.1)
  sum_full (expr.Lit n) selected never = refl

-- in all tuples of such rows
pub tuples_full : (c : Catalog) (v : View) → IsPlanned c v → (f : ℕ → List RowAt) → ((n : ℕ) → has_number v.def.query.tables n ≡ true → Each (RowFull c n) (f n)) → (e : Expr)
    → selects_agg v.def.query (Sum e) ≡ true → list_all (view_never_null v.def) (expr_columns e) ≡ true → Each (λ t. is_null (expr_value (column_value v.def.query.tables t) e) ≡ false) (joined_over v.def.query f)
unfolding value
tuples_full c v planned f rows e selected never =
    let all : Each (OfEach (RowFull c) v.def.query.tables) (joined_over v.def.query f) =
    each_filter (OfEach (RowFull c) v.def.query.tables) (tuple_true v.def.query) (product (map f v.def.query.tables)) (product_each (RowFull c) f v.def.query.tables rows) in
    each_weaker (OfEach (RowFull c) v.def.query.tables) (λ t. is_null (expr_value (column_value v.def.query.tables t) e) ≡ false) (λ t each. sum_full c v planned t each e selected never) (joined_over v.def.query f) all
