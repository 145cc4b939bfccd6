-- The tables and their indexes with a table more, and without any.
use Rattle.std.proofs.Common.{◌≡◌, ◌<◌, ◌∙◌, sym, ap, refl, subst, arith, ℕ, zero, suc, true, false, cond, List, [], ◌∷◌, ◌++◌, length, map, None, Option, Some}
use Rattle.law_trace.proofs.Stepping.{within_places}
use Rattle.std.proofs.lemmas.Option.{none-some, same_Some}
use Rattle.std.proofs.lemmas.List.{length-append, length-map}
use Rattle.std.proofs.lemmas.List.Elements.{All-nil}
use Rattle.std.specs.FinMap as fin
use Rattle.std.specs.List.{All, cons_option}
use Rattle.std.specs.Ordering.{nat_cmp}
use Rattle.std.specs.Prelude.{filter_map, is_some, option_and_then, option_map, slice_get, take, unwrap_or}
use Rattle.wh_base.specs.Lists.{same_text}
use Rattle.wh_base.specs.Tables.{Table, def_at, is_key, table_number}
use Rattle.wh_base.specs.Values.{value_cmp}
use Rattle.wh_base.specs.declared.statements.Event.{Event}
use Rattle.wh_base.specs.declared.statements.NewForeign.{NewForeign}
use Rattle.wh_base.specs.declared.statements.NewTable.{NewTable}
use Rattle.wh_base.specs.declared.tables.ForeignDef.{ForeignDef}
use Rattle.wh_base.specs.declared.tables.TableDef.{TableDef}
use Rattle.def_effect.specs.Block.{enabled, is_orphaned}
use Rattle.def_effect.specs.Define.{foreign_def, foreign_to, new_foreign, new_place, referred, table_def}
use Rattle.wh_constraints.specs.Constraints.{AreIndexed, AreRight, RefersBack, TableFits}
use Rattle.wh_core.proofs.Known.{lookups, row_laws}
use Rattle.wh_image.specs.Standing.{StandsFor}
use Rattle.law_keys.specs.Fitting.{KeyFits, ValuesFit}
use Rattle.wh_keys.specs.Coded.{Held}
use Rattle.wh_keys.specs.Indexes.{Indexes}
use Rattle.wh_keys.specs.Made.{empty_indexes}
use Rattle.wh_table.proofs.Counting.{all_from, each_from}
use Rattle.wh_table.specs.Kept.{defs_of}
use Rattle.wh_table.specs.Stored.{Stored, base_seen, begun}
use Rattle.law_trace.proofs.Listed.{Each, each_two, each_weaker}
use Rattle.law_trace.specs.Reached.{catalog_of}
use Rattle.law_trace.specs.Rows.{IsDefined}
use Rattle.wh_view.specs.Kept.{AllKept}

-- ---- what a push that failed leaves

take_all : {A : Type 0} (xs ys : List A) → take (length xs) (xs ++ ys) ≡ xs
take_all [] ys = refl
take_all (x ∷ xs) ys = ap (λ zs. x ∷ zs) (take_all xs ys)

-- the first so many, of those with one more
pub taken_back : (keys pushed left : Held) (i : Indexes) (count : ℕ) → length keys.now ≡ count → keys.before ≡ keys.now
    → pushed ≡ record { now = keys.now ++ i ∷ []; before = keys.before ++ i ∷ [] } → left ≡ record { now = take count pushed.now; before = take count pushed.before } → left ≡ keys
taken_back keys pushed left i count many settled is taken =
    let now : take count pushed.now ≡ keys.now =
    (λ k. take (sym many k) (is k).now) ∙ take_all keys.now (i ∷ []) in
    let before : take count pushed.before ≡ keys.before =
    (λ k. take ((sym many ∙ ap length (sym settled)) k) (is k).before) ∙ take_all keys.before (i ∷ []) in
    taken ∙ (λ k. record { now = now k; before = before k })

pub pushed_both : (keys pushed : Held) (i : Indexes) → keys.before ≡ keys.now → pushed ≡ record { now = keys.now ++ i ∷ []; before = keys.before ++ i ∷ [] }
    → pushed ≡ record { now = keys.now ++ i ∷ []; before = keys.now ++ i ∷ [] }
pushed_both keys pushed i settled is = is ∙ (λ k. record { now = keys.now ++ i ∷ []; before = settled k ++ i ∷ [] })

pub ruleset indexing = (taken_back, pushed_both)

-- ---- a table without rows and its indexes

all_like : {A B : Type 0} (y : B) (xs : List A) (k : ℕ) (m : B) → slice_get (map (λ _. y) xs) k ≡ Some m → m ≡ y
all_like y [] k m e = absurd (none-some m e)
all_like y (x ∷ xs) zero m e = sym (same_Some y m e)
all_like y (x ∷ xs) (suc k) m e = all_like y xs k m e

no_keys_fit : (d : TableDef) (column : ℕ) → KeyFits (begun d) column fin.empty
no_keys_fit d column =
    record {
      sound = λ value place there. absurd (none-some place (sym (fin.get-empty value_cmp value) ∙ there));
      tallied = λ value some. ap (λ (o : Option ℕ). cond (is_some o) 1 0) (fin.get-empty value_cmp value);
    }

no_values_fit : (d : TableDef) (column : ℕ) → ValuesFit (begun d) column fin.empty
no_values_fit d column = record { exact = λ place. fin.get-empty nat_cmp place }

begun_fits : (d : TableDef) → TableFits (begun d) (empty_indexes d)
begun_fits d =
    record {
      keys = length-map d.keys (λ _. fin.empty);
      foreign = length-map d.foreign (λ _. fin.empty);
      key_fits = λ k column m there is. subst (KeyFits (begun d) column) (sym (all_like fin.empty d.keys k m is)) (no_keys_fit d column);
      foreign_fits = λ k f m there is. subst (ValuesFit (begun d) f.column) (sym (all_like fin.empty d.foreign k m is)) (no_values_fit d f.column);
    }

-- ---- one table more

-- a table of those with one more is one of them, or that one
at_pushed : (P : ℕ → Stored → Type 0) (tables : List Stored) (t : Stored) → ((n : ℕ) (s : Stored) → slice_get tables n ≡ Some s → P n s) → P (length tables) t
    → (n : ℕ) (s : Stored) → slice_get (tables ++ t ∷ []) n ≡ Some s → P n s
at_pushed P [] t old new zero s is = subst (P 0) (same_Some t s is) new
at_pushed P [] t old new (suc n) s is = absurd (none-some s is)
at_pushed P (u ∷ tables) t old new zero s is = old zero s is
at_pushed P (u ∷ tables) t old new (suc n) s is = at_pushed (λ m. P (suc m)) tables t (λ m. old (suc m)) new n s is

fit_pushed : (tables : List Stored) (all : List Indexes) (t : Stored) (j : Indexes) → length all ≡ length tables
    → ((n : ℕ) (s : Stored) (i : Indexes) → slice_get tables n ≡ Some s → slice_get all n ≡ Some i → TableFits s i) → TableFits t j
    → (n : ℕ) (s : Stored) (i : Indexes) → slice_get (tables ++ t ∷ []) n ≡ Some s → slice_get (all ++ j ∷ []) n ≡ Some i → TableFits s i
fit_pushed [] [] t j many old new zero s i there is = subst (λ u. TableFits u i) (same_Some t s there) (subst (TableFits t) (same_Some j i is) new)
fit_pushed [] [] t j many old new (suc n) s i there is = absurd (none-some s there)
fit_pushed [] (k ∷ all) t j many old new n s i there is = absurd (omega (arith, many))
fit_pushed (u ∷ tables) [] t j many old new n s i there is = absurd (omega (arith, many))
fit_pushed (u ∷ tables) (k ∷ all) t j many old new zero s i there is = old zero s i there is
fit_pushed (u ∷ tables) (k ∷ all) t j many old new (suc n) s i there is =
    fit_pushed tables all t j (omega (arith, many)) (λ m. old (suc m)) new n s i there is

indexed_more : (tables : List Stored) (all : List Indexes) (d : TableDef) → AreIndexed tables all → AreIndexed (tables ++ begun d ∷ []) (all ++ empty_indexes d ∷ [])
indexed_more tables all d h =
    record {
      count = omega (arith, h.count, length-append tables (begun d ∷ []), length-append all (empty_indexes d ∷ []));
      fits = fit_pushed tables all (begun d) (empty_indexes d) h.count h.fits (begun_fits d);
    }

-- ---- what a new table refers to is there

abbrev to_number : NewTable → NewForeign → ℕ → ℕ → ForeignDef
to_number s f n to = record { column = unwrap_or (new_place s f.column) 0; table = n; to = to; rely = f.reference.rely }

refers_before : (defs : List TableDef) (s : NewTable) (f : NewForeign) (g : ForeignDef) → foreign_def defs s f ≡ Some g → g.table < length defs
refers_before defs s f g e = by (table_number defs f.reference.table) refl e
  where
    to_there : (n : ℕ) → n < length defs → (o : Option ℕ) → option_map (to_number s f n) o ≡ Some g → g.table < length defs
    to_there n low None e = absurd (none-some g e)
    to_there n low (Some to) e = subst (λ (h : ForeignDef). h.table < length defs) (same_Some (to_number s f n to) g e) low

    by : (o : Option ℕ) → table_number defs f.reference.table ≡ o → option_and_then (foreign_to defs s f) o ≡ Some g → g.table < length defs
    by None is e = absurd (none-some g e)
    by (Some n) is e = to_there n (within_places (λ d. same_text d.name f.reference.table) defs n is) (referred (def_at defs n) f.reference) e

each_given : {A B : Type 0} (Q : B → Type 0) (f : A → Option B) → ((x : A) (y : B) → f x ≡ Some y → Q y) → (xs : List A) → Each Q (filter_map f xs)
each_given Q f k [] = tt
each_given {B = B} Q f k (x ∷ xs) = by (f x) refl (each_given Q f k xs)
  where
    by : (o : Option B) → f x ≡ o → Each Q (filter_map f xs) → Each Q (cons_option o (filter_map f xs))
    by None is rest = rest
    by (Some y) is rest = (k x y is, rest)

pub refer_before : (defs : List TableDef) (s : NewTable) → Each (λ (f : ForeignDef). f.table < length defs) (table_def defs s).foreign
refer_before defs s = each_given (λ (f : ForeignDef). f.table < length defs) (foreign_def defs s) (λ f g e. refers_before defs s f g e) (new_foreign s)

-- ---- what holds of the tables of every trace

each_def : (P : TableDef → Type 0) (tables : List Stored) → Each P (defs_of tables) → (n : ℕ) (s : Stored) → slice_get tables n ≡ Some s → P s.def
each_def P [] h n s is = absurd (none-some s is)
each_def P (t ∷ tables) h zero s is = subst (λ (u : Stored). P u.def) (same_Some t s is) h.0
each_def P (t ∷ tables) h (suc n) s is = each_def P tables h.1 n s is

-- each foreign key of a table refers to a key of a table
defined : (trace : List Event) (scn : ℕ) (tables : List Stored) (views : AllKept) → StandsFor scn tables views (catalog_of trace) → (n : ℕ) (s : Stored) → slice_get tables n ≡ Some s
    → IsDefined (defs_of tables) s.def
defined trace scn tables views stands =
    each_def (IsDefined (defs_of tables)) tables
    (each_from (IsDefined (defs_of tables)) (defs_of tables)
    (subst (λ defs. All (IsDefined defs) defs) (lookups.definitions scn tables views (catalog_of trace) stands) (row_laws.defined trace)))

abbrev RefersTo : List TableDef → ForeignDef → Type 0
RefersTo defs f = (f.table < length defs) × (is_key (def_at defs f.table) f.to ≡ true)

-- The tables with a new one, as a trace leaves them, with its indexes.
pub right_more : (trace : List Event) (scn later : ℕ) (tables : List Stored) (views : AllKept) (all : List Indexes) (d : TableDef) → AreRight scn tables all
    → Each (λ (f : ForeignDef). f.table < length tables) d.foreign → StandsFor later (tables ++ begun d ∷ []) views (catalog_of trace)
    → AreRight later (tables ++ begun d ∷ []) (all ++ empty_indexes d ∷ [])
right_more trace scn later tables views all d right before stands =
    record {
      indexed = indexed_more tables all d right.indexed;
      parents = subst (λ base. All (λ t. All (λ f. is_orphaned base t f ≡ false) (enabled t.def)) base) stands.base_is (row_laws.parents trace);
      earlier = λ n s is.
          let defs : List TableDef = defs_of (tables ++ begun d ∷ []) in
          let known : IsDefined defs s.def = defined trace later (tables ++ begun d ∷ []) views stands n s is in
          all_from (RefersBack defs n) s.def.foreign
          (each_weaker (λ (f : ForeignDef). (f.table < n) × RefersTo defs f) (RefersBack defs n) (λ f h. (h.0, h.1.1)) s.def.foreign
          (each_two (λ (f : ForeignDef). f.table < n) (RefersTo defs) s.def.foreign (low n s is) (each_from (RefersTo defs) s.def.foreign known.parents)));
    }
  where
    low : (n : ℕ) (s : Stored) → slice_get (tables ++ begun d ∷ []) n ≡ Some s → Each (λ (f : ForeignDef). f.table < n) s.def.foreign
    low =
        at_pushed (λ n s. Each (λ (f : ForeignDef). f.table < n) s.def.foreign) tables (begun d)
        (λ n s is.
        each_weaker (RefersBack (defs_of tables) n) (λ (f : ForeignDef). f.table < n) (λ f h. h.0) s.def.foreign
        (each_from (RefersBack (defs_of tables) n) s.def.foreign (right.earlier n s is)))
        before

-- ---- no tables

pub right_none : (scn : ℕ) → AreRight scn [] []
right_none scn =
    record {
      indexed = record { count = refl; fits = λ n s i there is. absurd (none-some s there) };
      parents = All-nil (λ (t : Table). All (λ f. is_orphaned (base_seen scn []) t f ≡ false) (enabled t.def));
      earlier = λ n s is. absurd (none-some s is);
    }
