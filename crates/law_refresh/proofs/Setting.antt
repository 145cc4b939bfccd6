-- What is common to the refreshes by the log of the root.
use Rattle.std.proofs.Common.{◌≡◌, ◌∙◌, sym, ap, refl, subst, arith, ℕ, zero, suc, ◌+◌, ◌<◌, ◌≤◌, Bool, true, false, cond, not, List, [], ◌∷◌, ◌++◌, length, map, Option, None, Some, inl, inr, ◌⊎◌, nat_lt, ◌==◌, ◌&&◌, ◌||◌}
use Rattle.std.specs.List.{cons_option, filter, find}
use Rattle.std.specs.Option.{ForSome}
use Rattle.std.proofs.Math.Nat.{eq-or-lt_of_le}
use Rattle.std.specs.Prelude.{flat_map, filter_map}
use Rattle.std.proofs.lemmas.Bool.{and_from, eq-eqb, eqb-true, not-false, lt-ltb, or_right}
use Rattle.wh_base.specs.Columns.{agg_columns, expr_columns, has_column, same_column}
use Rattle.wh_base.specs.Lists.{count_from, has_number, option_case, sorted_by}
use Rattle.wh_base.specs.Tables.{Table}
use Rattle.wh_base.specs.declared.columns.Agg.{Agg}
use Rattle.wh_base.specs.declared.columns.Agg.TheVariants.{Avg, Count, CountAll, Max, Min, Sum}
use Rattle.wh_base.specs.declared.columns.ColPart.{ColPart}
use Rattle.wh_base.specs.declared.columns.ColPart.TheVariants.{Col, Mark, RowId}
use Rattle.wh_base.specs.declared.columns.ColRef.{ColRef}
use Rattle.wh_base.specs.declared.columns.Expr.{Expr}
use Rattle.wh_base.specs.declared.columns.Expr.TheVariants as expr
use Rattle.wh_base.specs.declared.queries.Condition.{Condition}
use Rattle.wh_base.specs.declared.queries.Condition.TheVariants.{Compare, IsNull, NotNull, OneOf}
use Rattle.wh_base.specs.declared.queries.Edge.{Edge}
use Rattle.wh_base.specs.declared.queries.Item.{Item}
use Rattle.wh_base.specs.declared.queries.Item.TheVariants as item
use Rattle.wh_base.specs.declared.queries.StarQuery.{StarQuery}
use Rattle.wh_base.specs.declared.tables.RowAt.{RowAt}
use Rattle.wh_base.specs.declared.tables.TableDef.{TableDef}
use Rattle.wh_base.specs.declared.views.ViewDef.{ViewDef}
use Rattle.def_meaning.specs.Joined.{column_value, product, tuple_true}
use Rattle.def_meaning.specs.Meaning.{entries, entry_cmp, stored_over}
use Rattle.def_restrictions.specs.Definition.{condition_column, item_columns, used_columns, used_place, used_places}
use Rattle.def_restrictions.specs.Restrictions.{Known, log_says, unlogged}
use Rattle.law_refresh.specs.Planned.{IsPlace}
use Rattle.wh_base.specs.declared.logs.LogFacts.{LogFacts}
use Rattle.law_trace.proofs.Listed as listed
use Rattle.law_delta.specs.Masked.{AggUsed, ConditionUsed, Each, EdgeUsed, ExprUsed, ItemUsed, UsesOnly}
use Rattle.law_delta.specs.Moved.{with_rows}
use Rattle.wh_base.proofs.SameItems.{same_column-Decides}
use Rattle.law_delta.proofs.Restoring.{part_logged}

-- ---- the rows of the tables of a query are all that counts

pub maps_same : {B : Type 0} (f g : ℕ → B) (ns : List ℕ) → ((n : ℕ) → has_number ns n ≡ true → f n ≡ g n) → map f ns ≡ map g ns
maps_same f g [] h = refl
maps_same f g (n ∷ ns) h =
    λ i. h n (ap (λ b. b || has_number ns n) (eq-eqb n n refl)) i ∷ maps_same f g ns (λ m e. h m (or_right (n == m) (has_number ns m) e)) i

pub over_same : (q : StarQuery) (f g : ℕ → List RowAt) → ((n : ℕ) → has_number q.tables n ≡ true → f n ≡ g n) → stored_over q f ≡ stored_over q g
over_same q f g h = ap (λ ls. sorted_by entry_cmp (entries (column_value q.tables) q (filter (tuple_true q) (product ls)))) (maps_same f g q.tables h)

-- one table with its own rows
pub with_own : (n : ℕ) (f g : ℕ → List RowAt) → ((m : ℕ) → (m == n) ≡ false → f m ≡ g m) → (m : ℕ) → f m ≡ with_rows n (f n) g m
with_own n f g h m = by (m == n) refl
  where
    by : (b : Bool) → (m == n) ≡ b → f m ≡ cond b (f n) (g m)
    by true e = ap f (eqb-true m n e)
    by false e = h m e

-- the same for the tables of a query
pub with_own_in : (ns : List ℕ) (n : ℕ) (f g : ℕ → List RowAt) → ((m : ℕ) → has_number ns m ≡ true → (m == n) ≡ false → f m ≡ g m) → (m : ℕ) → has_number ns m ≡ true → f m ≡ with_rows n (f n) g m
with_own_in ns n f g h m there = by (m == n) refl
  where
    by : (b : Bool) → (m == n) ≡ b → f m ≡ cond b (f n) (g m)
    by true e = ap f (eqb-true m n e)
    by false e = h m there e

-- ---- the columns that a query uses

column_itself : (c : ColRef) (cs : List ColRef) → has_column (c ∷ cs) c ≡ true
column_itself c cs = ap (λ b. b || has_column cs c) ((same_column-Decides c c).1 refl)

any_left : (c : ColRef) (xs ys : List ColRef) → has_column xs c ≡ true → has_column (xs ++ ys) c ≡ true
any_left c [] ys h = cc
any_left c (x ∷ xs) ys h = by (same_column c x) h (any_left c xs ys)
  where
    by : (b : Bool) → (b || has_column xs c) ≡ true → (has_column xs c ≡ true → has_column (xs ++ ys) c ≡ true) → (b || has_column (xs ++ ys) c) ≡ true
    by true h more = refl
    by false h more = more h

any_right : (c : ColRef) (xs ys : List ColRef) → has_column ys c ≡ true → has_column (xs ++ ys) c ≡ true
any_right c [] ys h = h
any_right c (x ∷ xs) ys h = or_right (same_column c x) (has_column (xs ++ ys) c) (any_right c xs ys h)

-- all of a list are among these
abbrev Within : List ColRef → List ColRef → Type 0
Within all cs = (c : ColRef) → has_column cs c ≡ true → has_column all c ≡ true

expr_used : (all : List ColRef) (e : Expr) → Within all (expr_columns e) → ExprUsed (has_column all) e
expr_used all (expr.Col c) h = h c (column_itself c [])
expr_used all (expr.Product a b) h = (h a (column_itself a (b ∷ [])), h b (or_right (same_column b a) (has_column (b ∷ []) b) (column_itself b [])))
expr_used all (expr.Lit n) h = tt

agg_used : (all : List ColRef) (a : Agg) → Within all (agg_columns a) → AggUsed (has_column all) a
agg_used all CountAll h = tt
agg_used all (Count e) h = expr_used all e h
agg_used all (Sum e) h = expr_used all e h
agg_used all (Avg e) h = expr_used all e h
agg_used all (Min e) h = expr_used all e h
agg_used all (Max e) h = expr_used all e h

item_used : (all : List ColRef) (i : Item) → Within all (item_columns i) → ItemUsed (has_column all) i
item_used all (item.Col c) h = tt
item_used all (item.Agg a) h = agg_used all a h

condition_used : (all : List ColRef) (x : Condition) → has_column all (condition_column x) ≡ true → ConditionUsed (has_column all) x
condition_used all (Compare c op v) h = h
condition_used all (OneOf c vs) h = h
condition_used all (IsNull c) h = h
condition_used all (NotNull c) h = h

items_used : (all : List ColRef) (is : List Item) → Within all (flat_map item_columns is) → Each (ItemUsed (has_column all)) is
items_used all [] h = tt
items_used all (i ∷ is) h = (item_used all i (λ c e. h c (any_left c (item_columns i) (flat_map item_columns is) e)), items_used all is (λ c e. h c (any_right c (item_columns i) (flat_map item_columns is) e)))

conditions_used : (all : List ColRef) (xs : List Condition) → Within all (map condition_column xs) → Each (ConditionUsed (has_column all)) xs
conditions_used all [] h = tt
conditions_used all (x ∷ xs) h = (
  condition_used all x (h (condition_column x) (column_itself (condition_column x) (map condition_column xs))),
  conditions_used all xs (λ c e. h c (or_right (same_column c (condition_column x)) (has_column (map condition_column xs) c) e)),
)

edges_used : (all : List ColRef) (es : List Edge) → Within all (flat_map (λ e. e.from ∷ e.to ∷ []) es) → Each (EdgeUsed (has_column all)) es
edges_used all [] h = tt
edges_used all (e ∷ es) h =
    let rest : List ColRef = flat_map (λ (e : Edge). e.from ∷ e.to ∷ []) es in (
      (h e.from (column_itself e.from (e.to ∷ rest)), h e.to (or_right (same_column e.to e.from) (has_column (e.to ∷ rest) e.to) (column_itself e.to rest))),
      edges_used all es (λ c k. h c (or_right (same_column c e.from) (has_column (e.to ∷ rest) c) (or_right (same_column c e.to) (has_column rest c) k))),
    )

keys_used : (all ks : List ColRef) → Within all ks → Each (λ c. has_column all c ≡ true) ks
keys_used all [] h = tt
keys_used all (k ∷ ks) h = (h k (column_itself k ks), keys_used all ks (λ c e. h c (or_right (same_column c k) (has_column ks c) e)))

pub uses : (q : StarQuery) → UsesOnly (has_column (used_columns q)) q
uses q =
    let all : List ColRef = used_columns q in
    let is : List ColRef = flat_map item_columns q.items in
    let cs : List ColRef = map condition_column q.conditions in
    let es : List ColRef = flat_map (λ (e : Edge). e.from ∷ e.to ∷ []) q.edges in
    let hs : List ColRef = flat_map (λ t. agg_columns t.agg) q.having in
    record {
      items = items_used all q.items (λ c h. any_left c is (cs ++ (es ++ (q.keys ++ hs))) h);
      conditions = conditions_used all q.conditions (λ c h. any_right c is (cs ++ (es ++ (q.keys ++ hs))) (any_left c cs (es ++ (q.keys ++ hs)) h));
      edges = edges_used all q.edges (λ c h. any_right c is (cs ++ (es ++ (q.keys ++ hs))) (any_right c cs (es ++ (q.keys ++ hs)) (any_left c es (q.keys ++ hs) h)));
      keys = keys_used all q.keys (λ c h. any_right c is (cs ++ (es ++ (q.keys ++ hs))) (any_right c cs (es ++ (q.keys ++ hs)) (any_right c es (q.keys ++ hs) (any_left c q.keys hs h))));
    }

-- ---- what the log has of them

-- a place that is used
place_used : (d : TableDef) (n : ℕ) (table : ℕ) (col : ColRef) (cs : List ColRef) → has_column cs col ≡ true → (col.table == table) ≡ true → used_place d col.part ≡ Some n
    → has_number (filter_map (λ c. used_place d c.part) (filter (λ c. c.table == table) cs)) n ≡ true
place_used d n table col [] h of is = cc
place_used d n table col (c ∷ cs) h of is = by (same_column col c) refl h (λ k. place_used d n table col cs k of is)
  where
    rest : List ColRef
    rest = filter (λ c. c.table == table) cs

    found : (o : Option ℕ) (ns : List ℕ) → has_number ns n ≡ true → has_number (cons_option o ns) n ≡ true
    found None ns h = h
    found (Some m) ns h = or_right (m == n) (has_number ns n) h

    later : (b : Bool) → has_number (filter_map (λ c. used_place d c.part) rest) n ≡ true → has_number (filter_map (λ c. used_place d c.part) (cond b (c ∷ rest) rest)) n ≡ true
    later true h = found (used_place d c.part) (filter_map (λ c. used_place d c.part) rest) h
    later false h = h

    own : col ≡ c → has_number (filter_map (λ c. used_place d c.part) (cond (c.table == table) (c ∷ rest) rest)) n ≡ true
    own same =
        let here : (c.table == table) ≡ true = ap (λ (x : ColRef). x.table == table) (sym same) ∙ of in
        let place : used_place d c.part ≡ Some n = ap (λ (x : ColRef). used_place d x.part) (sym same) ∙ is in
        ap (λ b. has_number (filter_map (λ c. used_place d c.part) (cond b (c ∷ rest) rest)) n) here
        ∙ ap (λ o. has_number (cons_option o (filter_map (λ c. used_place d c.part) rest)) n) place
        ∙ ap (λ b. b || has_number (filter_map (λ c. used_place d c.part) rest) n) (eq-eqb n n refl)

    by : (b : Bool) → same_column col c ≡ b → (b || has_column cs col) ≡ true → (has_column cs col ≡ true → has_number (filter_map (λ c. used_place d c.part) rest) n ≡ true)
        → has_number (filter_map (λ c. used_place d c.part) (cond (c.table == table) (c ∷ rest) rest)) n ≡ true
    by true e h more = own ((same_column-Decides col c).0 e)
    by false e h more = later (c.table == table) (more h)

none_found : {A : Type 0} (p : A → Bool) (xs : List A) → find p xs ≡ None → listed.Each (λ x. p x ≡ false) xs
none_found p [] e = tt
none_found p (x ∷ xs) e = by (p x) refl e (none_found p xs)
  where
    by : (b : Bool) → p x ≡ b → cond b (Some x) (find p xs) ≡ None → (find p xs ≡ None → listed.Each (λ x. p x ≡ false) xs) → (p x ≡ false) × listed.Each (λ x. p x ≡ false) xs
    by true is e more = cc
    by false is e more = (is, more e)

counted_each : (P : ℕ → Type 0) (start many n : ℕ) → start ≤ n → n < start + many → listed.Each P (count_from start many) → P n
counted_each P start zero n low high h = absurd (omega arith)
counted_each P start (suc many) n low high h = by (eq-or-lt_of_le low) (λ above. counted_each P (suc start) many n above (omega arith) h.1)
  where
    by : (start ≡ n) ⊎ (start < n) → (start < n → P n) → P n
    by (inl e) more = subst P e h.0
    by (inr above) more = more above

-- a column that is used and isn't missing is logged
pub used_logged : (d : ViewDef) (k : Known) (f : LogFacts) (t : Table) (col : ColRef) → k.log ≡ Some f → t.def.part_key ≡ k.def.part_key → unlogged d k ≡ None
    → has_column (used_columns d.query) col ≡ true → (col.table == k.table) ≡ true → IsPlace k.def col.part → part_logged t (length k.def.columns) f.columns col.part ≡ true
used_logged d k f t col log def none used of place = by col.part refl place
  where
    logged : (n : ℕ) → used_place k.def col.part ≡ Some n → n < length k.def.columns → (has_number f.columns n && nat_lt n (length k.def.columns)) ≡ true
    logged n is low =
        let there : has_number (used_places d.query k.table k.def) n ≡ true = place_used k.def n k.table col (used_columns d.query) used of is in
        let fails : (has_number (used_places d.query k.table k.def) n && log_says k (λ f. not (has_number f.columns n))) ≡ false =
        counted_each (λ c. (has_number (used_places d.query k.table k.def) c && log_says k (λ f. not (has_number f.columns c))) ≡ false) 0 (length k.def.columns) n (omega arith) (omega arith) (none_found (λ c. has_number (used_places d.query k.table k.def) c && log_says k (λ f. not (has_number f.columns c))) (count_from 0 (length k.def.columns)) none) in
        let has : not (has_number f.columns n) ≡ false =
        sym (ap (λ (o : Option LogFacts). option_case o false (λ f. not (has_number f.columns n))) log)
        ∙ sym (ap (λ b. b && log_says k (λ f. not (has_number f.columns n))) there) ∙ fails in
        and_from (has_number f.columns n) (nat_lt n (length k.def.columns)) (not-false (has_number f.columns n) has) (lt-ltb n (length k.def.columns) low)

    marked : (o : Option ℕ) → t.def.part_key ≡ o → k.def.part_key ≡ o → used_place k.def col.part ≡ o → ForSome o (λ n. n < length k.def.columns) → option_case t.def.part_key true (λ n. has_number f.columns n && nat_lt n (length k.def.columns)) ≡ true
    marked None e g is h = ap (λ (o : Option ℕ). option_case o true (λ n. has_number f.columns n && nat_lt n (length k.def.columns))) e
    marked (Some n) e g is h = ap (λ (o : Option ℕ). option_case o true (λ n. has_number f.columns n && nat_lt n (length k.def.columns))) e ∙ logged n is (h n refl)

    by : (p : ColPart) → col.part ≡ p → IsPlace k.def col.part → part_logged t (length k.def.columns) f.columns p ≡ true
    by (Col n) is place = logged n (ap (used_place k.def) is) (place n (ap (used_place k.def) is))
    by RowId is place = refl
    by Mark is place = marked k.def.part_key def refl (ap (used_place k.def) is) (subst (λ o. ForSome o (λ n. n < length k.def.columns)) (ap (used_place k.def) is) place)
