-- The tuples of a query don't change by rows of a table that stand in none of them.
use Rattle.std.proofs.Common.{◌≡◌, ◌∙◌, sym, ap, refl, subst, ℕ, Bool, true, false, true≢false, cond, not, List, [], ◌∷◌, ◌++◌, map, ◌==◌, ◌&&◌, ◌||◌}
use Rattle.law_lists.proofs.Lists.{filter-map}
use Rattle.std.specs.List.{filter, flat_map}
use Rattle.std.proofs.lemmas.Bool.{and_parts, eqb-true, not-true, or_right}
use Rattle.std.proofs.lemmas.List.Elements.{filter-append}
use Rattle.wh_base.specs.Lists.{has_number}
use Rattle.wh_base.specs.declared.queries.Edge.{Edge}
use Rattle.wh_base.specs.declared.tables.RowAt.{RowAt}
use Rattle.wh_base.specs.declared.tables.TableDef.{TableDef}
use Rattle.def_meaning.specs.Joined.{product, row_of}
use Rattle.def_resolve.specs.Star.{IsTreeFrom, is_key_column, leads_outwards}
use Rattle.law_trace.proofs.Listed.{Each, each_weaker}

-- ---- a table that stands once

abbrev NotIn : ℕ → List ℕ → Type 0
NotIn table ns = Each (λ n. (n == table) ≡ false) ns

abbrev pub Once : ℕ → List ℕ → Type 0
Once table [] = Unit {0}
Once table (n ∷ ns) = ((n == table) ≡ true → NotIn table ns) × Once table ns

still_listed : (listed more : List ℕ) (n : ℕ) → has_number listed n ≡ true → has_number (listed ++ more) n ≡ true
still_listed [] more n e = absurd (true≢false (sym e))
still_listed (m ∷ listed) more n e = by (m == n) e (still_listed listed more n)
  where
    by : (b : Bool) → (b || has_number listed n) ≡ true → (has_number listed n ≡ true → has_number (listed ++ more) n ≡ true) → (b || has_number (listed ++ more) n) ≡ true
    by true f rest = refl
    by false f rest = rest f

last_listed : (listed : List ℕ) (m n : ℕ) → (m == n) ≡ true → has_number (listed ++ m ∷ []) n ≡ true
last_listed [] m n e = ap (λ b. b || false) e
last_listed (k ∷ listed) m n e = or_right (k == n) (has_number (listed ++ m ∷ []) n) (last_listed listed m n e)

-- what the first of these joins leads to isn't listed
leads_new : (defs : List TableDef) (listed : List ℕ) (e : Edge) (es : List Edge) → leads_outwards defs listed (e ∷ es) ≡ true → has_number listed e.to.table ≡ false
leads_new defs listed e es h =
    let here = (and_parts (has_number listed e.from.table && (not (has_number listed e.to.table) && is_key_column defs e.to)) (leads_outwards defs (listed ++ e.to.table ∷ []) es) h).0 in
    let new = (and_parts (has_number listed e.from.table) (not (has_number listed e.to.table) && is_key_column defs e.to) here).1 in
    not-true (has_number listed e.to.table) (and_parts (not (has_number listed e.to.table)) (is_key_column defs e.to) new).0

leads_rest : (defs : List TableDef) (listed : List ℕ) (e : Edge) (es : List Edge) → leads_outwards defs listed (e ∷ es) ≡ true → leads_outwards defs (listed ++ e.to.table ∷ []) es ≡ true
leads_rest defs listed e es h =
    (and_parts (has_number listed e.from.table && (not (has_number listed e.to.table) && is_key_column defs e.to)) (leads_outwards defs (listed ++ e.to.table ∷ []) es) h).1

-- no join leads to a table that is listed
not_again : (defs : List TableDef) (table : ℕ) (listed : List ℕ) (es : List Edge) → leads_outwards defs listed es ≡ true → has_number listed table ≡ true → NotIn table (map (λ e. e.to.table) es)
not_again defs table listed [] h there = tt
not_again defs table listed (e ∷ es) h there = (
  by (e.to.table == table) refl,
  not_again defs table (listed ++ e.to.table ∷ []) es (leads_rest defs listed e es h) (still_listed listed (e.to.table ∷ []) table there),
)
  where
    by : (b : Bool) → (e.to.table == table) ≡ b → b ≡ false
    by true is = absurd (true≢false (sym (ap (has_number listed) (eqb-true e.to.table table is) ∙ there) ∙ leads_new defs listed e es h))
    by false is = refl

once_led : (defs : List TableDef) (table : ℕ) (listed : List ℕ) (es : List Edge) → leads_outwards defs listed es ≡ true → Once table (map (λ e. e.to.table) es)
once_led defs table listed [] h = tt
once_led defs table listed (e ∷ es) h = (
  λ is. not_again defs table (listed ++ e.to.table ∷ []) es (leads_rest defs listed e es h) (last_listed listed e.to.table table is),
  once_led defs table (listed ++ e.to.table ∷ []) es (leads_rest defs listed e es h),
)

-- each table of a tree stands once
pub once_in : (defs : List TableDef) (root : ℕ) (tables : List ℕ) (edges : List Edge) (table : ℕ) → IsTreeFrom defs root tables edges → Once table tables
once_in defs root tables edges table tree =
    subst (Once table) (sym tree.0)
    ((λ is. not_again defs table (root ∷ []) edges tree.1 (ap (λ b. b || false) is)), once_led defs table (root ∷ []) edges tree.1)

-- ---- products

filter_nothing : {A : Type 0} (p : A → Bool) (xs : List A) → ((x : A) → p x ≡ false) → filter p xs ≡ []
filter_nothing p [] h = refl
filter_nothing p (x ∷ xs) h = ap (λ b. cond b (x ∷ filter p xs) (filter p xs)) (h x) ∙ filter_nothing p xs h

abbrev Tuple : Type 0
Tuple = List RowAt

abbrev each_with : List Tuple → List RowAt → List Tuple
each_with more xs = flat_map (λ x. map (λ rest. x ∷ rest) more) xs

-- the same tuples behind each row
behind_same : (p : Tuple → Bool) (a b : List Tuple) (xs : List RowAt) → ((x : RowAt) → filter (λ t. p (x ∷ t)) a ≡ filter (λ t. p (x ∷ t)) b) → filter p (each_with a xs) ≡ filter p (each_with b xs)
behind_same p a b [] h = refl
behind_same p a b (x ∷ xs) h =
    filter-append p (map (λ t. x ∷ t) a) (each_with a xs)
    ∙ ap (λ ts. ts ++ filter p (each_with a xs)) (filter-map p (λ t. x ∷ t) a ∙ ap (map (λ t. x ∷ t)) (h x) ∙ sym (filter-map p (λ t. x ∷ t) b))
    ∙ ap (λ ts. filter p (map (λ t. x ∷ t) b) ++ ts) (behind_same p a b xs h)
    ∙ sym (filter-append p (map (λ t. x ∷ t) b) (each_with b xs))

-- without rows that are in no tuple
fewer_same : (p : Tuple → Bool) (keep : RowAt → Bool) (more : List Tuple) (xs : List RowAt) → Each (λ x. keep x ≡ false → (t : Tuple) → p (x ∷ t) ≡ false) xs
    → filter p (each_with more (filter keep xs)) ≡ filter p (each_with more xs)
fewer_same p keep more [] h = refl
fewer_same p keep more (x ∷ xs) h = by (keep x) refl (fewer_same p keep more xs h.1)
  where
    by : (b : Bool) → keep x ≡ b → filter p (each_with more (filter keep xs)) ≡ filter p (each_with more xs)
        → filter p (each_with more (cond b (x ∷ filter keep xs) (filter keep xs))) ≡ filter p (map (λ t. x ∷ t) more ++ each_with more xs)
    by true e rest =
        filter-append p (map (λ t. x ∷ t) more) (each_with more (filter keep xs))
        ∙ ap (λ ts. filter p (map (λ t. x ∷ t) more) ++ ts) rest
        ∙ sym (filter-append p (map (λ t. x ∷ t) more) (each_with more xs))
    by false e rest =
        rest
        ∙ sym (filter-append p (map (λ t. x ∷ t) more) (each_with more xs)
        ∙ ap (λ ts. ts ++ filter p (each_with more xs)) (filter-map p (λ t. x ∷ t) more ∙ ap (map (λ t. x ∷ t)) (filter_nothing (λ t. p (x ∷ t)) more (h.0 e))))

module _ (table : ℕ) (keep : RowAt → Bool) (rows : ℕ → List RowAt) where
  -- of the table only the rows that are kept
  abbrev pub fewer : ℕ → List RowAt
  fewer n = cond (n == table) (filter keep (rows n)) (rows n)

  -- a row that stands in a tuple for the table is kept
  abbrev pub IsNeeded : List ℕ → (Tuple → Bool) → RowAt → Type 0
  IsNeeded ns p r = (t : Tuple) → row_of ns t table ≡ r → p t ≡ true → keep r ≡ true

  apart : (ns : List ℕ) → NotIn table ns → map fewer ns ≡ map rows ns
  apart [] h = refl
  apart (n ∷ ns) h =
      let here : fewer n ≡ rows n = ap (λ b. cond b (filter keep (rows n)) (rows n)) h.0 in
      let rest : map fewer ns ≡ map rows ns = apart ns h.1 in
      λ i. here i ∷ rest i

  -- the tuples are those of the rows that are kept
  pub fewer_tuples : (ns : List ℕ) (p : Tuple → Bool) → Once table ns → Each (IsNeeded ns p) (rows table) → filter p (product (map fewer ns)) ≡ filter p (product (map rows ns))
  fewer_tuples [] p once needed = refl
  fewer_tuples (n ∷ ns) p once needed = by (n == table) refl (fewer_tuples ns)
    where
      first_needed : (n == table) ≡ true → (xs : List RowAt) → Each (IsNeeded (n ∷ ns) p) xs → Each (λ x. keep x ≡ false → (t : Tuple) → p (x ∷ t) ≡ false) xs
      first_needed is xs h =
          each_weaker (IsNeeded (n ∷ ns) p) (λ x. keep x ≡ false → (t : Tuple) → p (x ∷ t) ≡ false)
          (λ x k out t. none x k out t (p (x ∷ t)) refl) xs h
        where
          none : (x : RowAt) → IsNeeded (n ∷ ns) p x → keep x ≡ false → (t : Tuple) (b : Bool) → p (x ∷ t) ≡ b → b ≡ false
          none x k out t true e = absurd (true≢false (sym (k (x ∷ t) (ap (λ b. cond b x (row_of ns t table)) is) e) ∙ out))
          none x k out t false e = refl

      by : (b : Bool) → (n == table) ≡ b
          → ((q : Tuple → Bool) → Once table ns → Each (IsNeeded ns q) (rows table) → filter q (product (map fewer ns)) ≡ filter q (product (map rows ns)))
          → filter p (each_with (product (map fewer ns)) (cond b (filter keep (rows n)) (rows n))) ≡ filter p (each_with (product (map rows ns)) (rows n))
      by true is rest =
          ap (λ more. filter p (each_with (product more) (filter keep (rows n)))) (apart ns (once.0 is))
          ∙ fewer_same p keep (product (map rows ns)) (rows n)
          (first_needed is (rows n) (subst (λ m. Each (IsNeeded (n ∷ ns) p) (rows m)) (sym (eqb-true n table is)) needed))
      by false is rest =
          behind_same p (product (map fewer ns)) (product (map rows ns)) (rows n)
          (λ x. rest (λ t. p (x ∷ t)) once.1
          (each_weaker (IsNeeded (n ∷ ns) p) (IsNeeded ns (λ t. p (x ∷ t))) (λ r k t here e. k (x ∷ t) (ap (λ b. cond b x (row_of ns t table)) is ∙ here) e) (rows table) needed))
