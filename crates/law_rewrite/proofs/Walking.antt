-- Where the walk over the query's tables doesn't fail, each of its tables is there in the end, joined back by keys or not, and all that is wanted is available.
use Rattle.std.proofs.Common.{◌≡◌, ◌∙◌, sym, ap, subst, refl, ℕ, length, Bool, true, false, cond, not, List, [], ◌∷◌, ◌++◌, map, Option, Some, None}
use Rattle.std.specs.Prelude.{◌&&◌, ◌||◌, ◌==◌, find, fold, is_some, nat_eq, option_and_then, option_map}
use Rattle.std.specs.List.{filter, flat_map, list_all, list_any}
use Rattle.std.proofs.lemmas.Bool.{eq-eqb, eqb-true, and_parts, or_parts}
use Rattle.std.proofs.lemmas.List.{append_assoc, append-nil}
use Rattle.std.proofs.lemmas.List.Folds.{list_any-append}
use Rattle.std.proofs.Math.Bool.{or-true}
use Rattle.std.proofs.lemmas.Option.{same_Some}
use Rattle.wh_base.specs.Columns.{has_column, same_column}
use Rattle.wh_base.specs.Lists.{count_from, distinct_after, first_of, first_some, has_number, is_empty, option_case}
use Rattle.wh_base.specs.Tables.{Base, def_at, is_key, never_null}
use Rattle.wh_base.specs.Values.{equal_not_null, is_null, same_value}
use Rattle.wh_base.proofs.Same.{same_value-Decides}
use Rattle.wh_base.specs.declared.columns.ColPart.{ColPart}
use Rattle.wh_base.specs.declared.columns.ColPart.TheVariants.{Col, Mark, RowId}
use Rattle.wh_base.specs.declared.columns.ColRef.{ColRef}
use Rattle.wh_base.specs.declared.queries.Edge.{Edge}
use Rattle.wh_base.specs.declared.queries.StarQuery.{StarQuery}
use Rattle.wh_base.specs.declared.statements.Level.{Level}
use Rattle.wh_base.specs.declared.tables.TableDef.{TableDef}
use Rattle.wh_base.specs.declared.values.Value.{Value}
use Rattle.wh_base.specs.declared.views.Back.{Back}
use Rattle.def_dimensions.specs.Dimensions.{DimLevel, Dimension}
use Rattle.def_dimensions.specs.Relations.{determined, dimension_holds, level_agrees}
use Rattle.def_meaning.specs.Joined.{rows_at}
use Rattle.def_meaning.specs.Meaning.{not_null}
use Rattle.def_meaning.specs.Ranges.{equal_columns}
use Rattle.def_resolve.specs.Star.{is_key_column, leads_outwards}
use Rattle.def_restrictions.specs.Definition.{selects_column}
use Rattle.def_rewriting.specs.Compatible.{is_table_of, join_into, may_rely}
use Rattle.def_rewriting.specs.Reaching.{Place, Walk, available, back_alone, back_by_key, back_by_level, back_by_levels, back_by_own_key, back_column, back_common, back_layout, declared_place, gains, is_declared, join_key, layout, level_back, level_serves, mark_missing, missing, source_of, stands_at, sure_keys, view_layout, walk_alone, walk_common, walk_table, wanted}
use Rattle.law_lists.proofs.Each.{Each-both, Each-from_all, Each-from_none, Each-append, Each-filter, Each-map, Each-of_map, Each-passes, Each-unfilter}
use Rattle.wh_base.proofs.SameItems.{same_column_is, same_part-Decides}
use Rattle.law_rewrite.specs.Words.{Each}
use Rattle.law_rewrite.proofs.Envs.{Env, env_value}
use Rattle.law_rewrite.proofs.Joins.{first_leads, has_append, has_itself, has_second}
use Rattle.law_rewrite.proofs.Finding.{AtMost}
use Rattle.law_rewrite.proofs.Tuples.{EndsIn, Related}
use Rattle.law_rewrite.proofs.Reached.{found_any, itself_times, none_left, selected_stands}
use Rattle.law_rewrite.proofs.Joining.{Alone, ByLevel, Common, Step, StepsFine, TupleFact, back_of, backs_of, joins_of}
use Rattle.law_rewrite.proofs.Staging.{reached}
use Rattle.law_rewrite.proofs.Starting.{common_true}
use Rattle.law_rewrite.proofs.Whole.{Stand}
pub use Rattle.law_rewrite.specs.Fine.{Declared}

-- what the first that gives something gives
first_gives : {A B : Type 0} (P : A → Type 0) (h : A → Option B) (xs : List A) (y : B) → Each P xs → first_of h xs ≡ Some y → (x : A) × (P x × (h x ≡ Some y))
first_gives P h [] y k e = cc
first_gives {A} {B} P h (x ∷ xs) y k e = by (h x) refl e (first_gives P h xs y k.1)
  where
    by : (o : Option B) → h x ≡ o → first_some (o ∷ map h xs) ≡ Some y → (first_of h xs ≡ Some y → (z : A) × (P z × (h z ≡ Some y))) → (z : A) × (P z × (h z ≡ Some y))
    by None f g rest = rest g
    by (Some z) f g rest = (x, (k.0, f ∙ g))

-- a number stays where repeated ones are left out
has_distinct : (m : ℕ) (seen xs : List ℕ) → has_number xs m ≡ true → has_number seen m ≡ false → has_number (distinct_after nat_eq seen xs) m ≡ true
has_distinct m seen [] h k = cc
has_distinct m seen (x ∷ xs) h k = by (x == m) (list_any (nat_eq x) seen) refl refl h (has_distinct m seen xs) (has_distinct m (x ∷ seen) xs)
  where
    turned : (ys : List ℕ) → (x == m) ≡ true → list_any (nat_eq x) ys ≡ true → has_number ys m ≡ true
    turned [] e f = cc
    turned (y ∷ ys) e f = two (nat_eq x y) refl f (turned ys e)
      where
        two : (b : Bool) → nat_eq x y ≡ b → (b || list_any (nat_eq x) ys) ≡ true → (list_any (nat_eq x) ys ≡ true → has_number ys m ≡ true) → ((y == m) || has_number ys m) ≡ true
        two true g l rest = ap (λ c. c || has_number ys m) (eq-eqb y m (sym (eqb-true x y g) ∙ eqb-true x m e))
        two false g l rest = ap (λ c. (y == m) || c) (rest l) ∙ or-true (y == m)

    by : (a b : Bool) → (x == m) ≡ a → list_any (nat_eq x) seen ≡ b → (a || has_number xs m) ≡ true → (has_number xs m ≡ true → has_number seen m ≡ false → has_number (distinct_after nat_eq seen xs) m ≡ true)
        → (has_number xs m ≡ true → has_number (x ∷ seen) m ≡ false → has_number (distinct_after nat_eq (x ∷ seen) xs) m ≡ true)
        → has_number (cond b (distinct_after nat_eq seen xs) (x ∷ distinct_after nat_eq (x ∷ seen) xs)) m ≡ true
    by true true e f g r s = absurd (let l : true ≡ false = sym (turned seen e f) ∙ k in cc)
    by true false e f g r s = ap (λ c. c || has_number (distinct_after nat_eq (x ∷ seen) xs) m) e
    by false true e f g r s = r g k
    by false false e f g r s = ap (λ c. (x == m) || c) (s g (λ i. e i || k i)) ∙ or-true (x == m)

-- what is made of a thing that is there
pub map_gives : {A B : Type 0} (f : A → B) (o : Option A) (y : B) → option_map f o ≡ Some y → (x : A) × ((o ≡ Some x) × (f x ≡ y))
map_gives f None y e = cc
map_gives f (Some x) y e = (x, (refl, same_Some (f x) y e))

module _ (defs : List TableDef) (dims : List Dimension) (q v : StarQuery) (base : Base) (x : Related defs q v (rows_at base))
    (level : Level) (relies : may_rely level ≡ true → Each (λ d. dimension_holds base d ≡ true) dims)
    (unique : (c : ColRef) → is_key_column defs c ≡ true → AtMost (rows_at base) c) (declared : Each (Declared defs) (wanted q v)) where
  abbrev pub step : Walk → ℕ → Walk
  step w n = walk_table defs dims level q v w n

  abbrev theirs : ℕ → Bool
  theirs n = has_number v.tables n

  abbrev pub NoFail : Walk → Type 0
  NoFail w = (w.fails_e3 ≡ false) × (w.fails_e6 ≡ false)

  -- what a turn that doesn't fail was
  pub data Turn (w : Walk) (n : ℕ) : Type 0 where
    Nothing : theirs n ≡ true → is_empty (missing q v w.back n) ≡ true → step w n ≡ w → Turn w n
    Gained : (b : Back) → theirs n ≡ true → back_common defs dims level q v w.back n ≡ Some b → step w n ≡ gains w b → Turn w n
    Found : (b : Back) → theirs n ≡ false → back_alone defs q v w.back n ≡ Some b → step w n ≡ gains w b → Turn w n

  pub turn : (w : Walk) (n : ℕ) → NoFail (step w n) → NoFail w × (mark_missing q v n ≡ false) × Turn w n
  turn w n h = by (is_table_of v n) (mark_missing q v n) (is_empty (missing q v w.back n)) (back_alone defs q v w.back n) (back_common defs dims level q v w.back n) refl refl refl refl refl h
    where
      by : (a m b : Bool) (y z : Option Back) → is_table_of v n ≡ a → mark_missing q v n ≡ m → is_empty (missing q v w.back n) ≡ b → back_alone defs q v w.back n ≡ y → back_common defs dims level q v w.back n ≡ z
          → NoFail (cond a (walk_common m b w z) (walk_alone m w y)) → NoFail w × (mark_missing q v n ≡ false) × Turn w n
      by true true b y z e g f k l h = absurd (let r : true ≡ false = h.1 in cc)
      by true false true y z e g f k l h = (h, g, Nothing e f (λ i. cond (e i) (walk_common (g i) (f i) w (l i)) (walk_alone (g i) w (k i))))
      by true false false y None e g f k l h = absurd (let r : true ≡ false = h.1 in cc)
      by true false false y (Some b) e g f k l h = (h, g, Gained b e l (λ i. cond (e i) (walk_common (g i) (f i) w (l i)) (walk_alone (g i) w (k i))))
      by false m b None z e g f k l h = absurd (let r : true ≡ false = h.0 in cc)
      by false true b (Some y) z e g f k l h = absurd (let r : true ≡ false = h.1 in cc)
      by false false b (Some y) z e g f k l h = (h, g, Found y e k (λ i. cond (e i) (walk_common (g i) (f i) w (l i)) (walk_alone (g i) w (k i))))

  pub no_fail : (ns : List ℕ) (w : Walk) → NoFail (fold step w ns) → NoFail w
  no_fail [] w h = h
  no_fail (n ∷ ns) w h = (turn w n (no_fail ns (step w n) h)).0

  -- ---- what is wanted of a table is available

  abbrev pub Settled : List Back → ℕ → Type 0
  Settled backs n = Each (λ c. (c.table == n) ≡ true → Stand (layout q v backs) c) (wanted q v)

  stand_more : (before more : List Back) (c : ColRef) → Stand (layout q v before) c → Stand (layout q v (before ++ more)) c
  stand_more before more c h =
      ap (list_any (stands_at c)) (ap (λ xs. view_layout v ++ xs) (flat before) ∙ sym (append_assoc (view_layout v) (flat_map (back_layout q) before) (flat_map (back_layout q) more)))
      ∙ list_any-append (stands_at c) (layout q v before) (flat_map (back_layout q) more) ∙ ap (λ b. b || list_any (stands_at c) (flat_map (back_layout q) more)) h
    where
      flat : (bs : List Back) → flat_map (back_layout q) (bs ++ more) ≡ flat_map (back_layout q) bs ++ flat_map (back_layout q) more
      flat [] = refl
      flat (b ∷ bs) = ap (λ xs. back_layout q b ++ xs) (flat bs) ∙ sym (append_assoc (back_layout q b) (flat_map (back_layout q) bs) (flat_map (back_layout q) more))

  pub settled_more : (before more : List Back) (n : ℕ) → Settled before n → Settled (before ++ more) n
  settled_more before more n h =
      Each-map (λ c. (c.table == n) ≡ true → Stand (layout q v before) c) (λ c. (c.table == n) ≡ true → Stand (layout q v (before ++ more)) c) (λ c k e. stand_more before more c (k e)) (wanted q v) h

  has_self : (c : ColRef) → has_column (c ∷ []) c ≡ true
  has_self c = ap (λ b. b || false) (λ i. eq-eqb c.table c.table refl i && (same_part-Decides c.part c.part).1 refl i)

  -- a table that is joined back has the columns that it gains
  gained_at : (before : List Back) (b : Back) (c : ColRef) (m : ℕ) → b.table ≡ c.table → c.part ≡ Col m → has_number b.columns m ≡ true → Stand (layout q v (before ++ b ∷ [])) c
  gained_at before b c m own part there =
      ap (list_any (stands_at c)) (ap (λ xs. view_layout v ++ xs) (flat before) ∙ sym (append_assoc (view_layout v) (flat_map (back_layout q) before) (back_layout q b)))
      ∙ list_any-append (stands_at c) (layout q v before) (back_layout q b) ∙ ap (λ x. list_any (stands_at c) (layout q v before) || x) (among b.columns there) ∙ or-true (list_any (stands_at c) (layout q v before))
    where
      flat : (bs : List Back) → flat_map (back_layout q) (bs ++ b ∷ []) ≡ flat_map (back_layout q) bs ++ back_layout q b
      flat [] = append-nil (back_layout q b)
      flat (x ∷ bs) = ap (λ xs. back_layout q x ++ xs) (flat bs) ∙ sym (append_assoc (back_layout q x) (flat_map (back_layout q) bs) (back_layout q b))

      place : ℕ → Place
      place j = record { column = Some (back_column b j); equals = equal_columns q.edges (back_column b j) }

      among : (ms : List ℕ) → has_number ms m ≡ true → list_any (stands_at c) (map place ms) ≡ true
      among [] h = cc
      among (j ∷ ms) h = by (j == m) refl h (among ms)
        where
          by : (x : Bool) → (j == m) ≡ x → (x || has_number ms m) ≡ true → (has_number ms m ≡ true → list_any (stands_at c) (map place ms) ≡ true)
              → (has_column (equal_columns q.edges (back_column b j)) c || list_any (stands_at c) (map place ms)) ≡ true
          by true f g rest =
              let is : back_column b j ≡ c = λ i. record { table = own i; part = (ap Col (eqb-true j m f) ∙ sym part) i } in
              ap (λ x. x || list_any (stands_at c) (map place ms)) (itself_times (length q.edges) q.edges (back_column b j ∷ []) c (ap (λ y. has_column (y ∷ []) c) is ∙ has_self c))
          by false f g rest = ap (λ x. has_column (equal_columns q.edges (back_column b j)) c || x) (rest g) ∙ or-true (has_column (equal_columns q.edges (back_column b j)) c)

  -- by a key it gains all its columns
  gained_stands : (before : List Back) (n : ℕ) (k s c : ColRef) → c.table ≡ n → is_declared c.part ≡ true → Declared defs c → Stand (layout q v (before ++ back_by_key defs n k s ∷ [])) c
  gained_stands before n k s c own isd there = by c.part refl isd there
    where
      by : (p : ColPart) → c.part ≡ p → is_declared p ≡ true → Declared defs (record { table = c.table; part = p }) → Stand (layout q v (before ++ back_by_key defs n k s ∷ [])) c
      by (Col m) e isd there = gained_at before (back_by_key defs n k s) c m (sym own) e (ap (λ t. has_number (count_from 0 (length (def_at defs t).columns)) m) (sym own) ∙ there)
      by RowId e isd there = cc
      by Mark e isd there = cc

  -- by a level those that the level determines
  gained_by_level : (before : List Back) (d : Dimension) (l : DimLevel) (s c : ColRef) → l.column.table ≡ c.table → is_declared c.part ≡ true → has_column (determined d l.column) c ≡ true → Stand (layout q v (before ++ back_by_level d l s ∷ [])) c
  gained_by_level before d l s c own isd there = by c.part refl isd
    where
      in_places : (m : ℕ) → c.part ≡ Col m → (cs : List ColRef) → has_column cs c ≡ true → has_number (flat_map declared_place cs) m ≡ true
      in_places m e [] h = cc
      in_places m e (y ∷ cs) h = by (same_column c y) refl h (in_places m e cs)
        where
          by : (x : Bool) → same_column c y ≡ x → (x || has_column cs c) ≡ true → (has_column cs c ≡ true → has_number (flat_map declared_place cs) m ≡ true) → has_number (declared_place y ++ flat_map declared_place cs) m ≡ true
          by true f g rest =
              subst (λ p. has_number (declared_place (record { table = y.table; part = p }) ++ flat_map declared_place cs) m ≡ true) (sym e ∙ ap (λ (z : ColRef). z.part) (same_column_is c y f))
              (has_itself m (flat_map declared_place cs))
          by false f g rest = has_second (declared_place y) (flat_map declared_place cs) m (rest g)

      by : (p : ColPart) → c.part ≡ p → is_declared p ≡ true → Stand (layout q v (before ++ back_by_level d l s ∷ [])) c
      by (Col m) e isd = gained_at before (back_by_level d l s) c m own e (has_distinct m [] (flat_map declared_place (determined d l.column)) (in_places m e (determined d l.column) there) refl)
      by RowId e isd = cc
      by Mark e isd = cc

  -- a mark that is wanted is selected
  marks : (n : ℕ) → mark_missing q v n ≡ false → (backs : List Back) → Each (λ c. (c.table == n) ≡ true → is_declared c.part ≡ false → Stand (layout q v backs) c) (wanted q v)
  marks n h backs =
      Each-map (λ c. ((c.table == n) && (not (is_declared c.part) && not (selects_column v c))) ≡ false) (λ c. (c.table == n) ≡ true → is_declared c.part ≡ false → Stand (layout q v backs) c)
      (λ c k own no. by c (selects_column v c) refl (sym (λ i. own i && (not (no i) && not (selects_column v c))) ∙ k)) (wanted q v)
      (Each-from_none (λ c. (c.table == n) && (not (is_declared c.part) && not (selects_column v c))) (wanted q v) h)
    where
      by : (c : ColRef) (b : Bool) → selects_column v c ≡ b → (true && (true && not b)) ≡ false → Stand (layout q v backs) c
      by c true e k =
          list_any-append (stands_at c) (view_layout v) (flat_map (back_layout q) backs) ∙ ap (λ b. b || list_any (stands_at c) (flat_map (back_layout q) backs)) (selected_stands v c v.items e)
      by c false e k = cc

  settle : (n : ℕ) (backs : List Back) → mark_missing q v n ≡ false → Each (λ c. (c.table == n) ≡ true → is_declared c.part ≡ true → Stand (layout q v backs) c) (wanted q v) → Settled backs n
  settle n backs h k =
      Each-map (λ c. ((c.table == n) ≡ true → is_declared c.part ≡ true → Stand (layout q v backs) c) × ((c.table == n) ≡ true → is_declared c.part ≡ false → Stand (layout q v backs) c))
      (λ c. (c.table == n) ≡ true → Stand (layout q v backs) c) (λ c l own. by c l own (is_declared c.part) refl) (wanted q v)
      (Each-both (λ c. (c.table == n) ≡ true → is_declared c.part ≡ true → Stand (layout q v backs) c) (λ c. (c.table == n) ≡ true → is_declared c.part ≡ false → Stand (layout q v backs) c) (wanted q v) k (marks n h backs))
    where
      by : (c : ColRef) → ((c.table == n) ≡ true → is_declared c.part ≡ true → Stand (layout q v backs) c) × ((c.table == n) ≡ true → is_declared c.part ≡ false → Stand (layout q v backs) c)
          → (c.table == n) ≡ true → (b : Bool) → is_declared c.part ≡ b → Stand (layout q v backs) c
      by c l own true e = l.0 own e
      by c l own false e = l.1 own e

  pub settled_nothing : (n : ℕ) (backs : List Back) → mark_missing q v n ≡ false → is_empty (missing q v backs n) ≡ true → Settled backs n
  settled_nothing n backs h k =
      settle n backs h
      (Each-map (λ c. ((c.table == n) && (is_declared c.part && not (available q v backs c))) ≡ false) (λ c. (c.table == n) ≡ true → is_declared c.part ≡ true → Stand (layout q v backs) c)
      (λ c l own isd. by c (available q v backs c) refl isd (sym (λ i. own i && (isd i && not (available q v backs c))) ∙ l)) (wanted q v)
      (none_left (λ c. (c.table == n) && (is_declared c.part && not (available q v backs c))) (wanted q v) k))
    where
      by : (c : ColRef) (b : Bool) → available q v backs c ≡ b → is_declared c.part ≡ true → (true && (true && not b)) ≡ false → Stand (layout q v backs) c
      by c true e isd l = found_any (stands_at c) (layout q v backs) (ap (λ b. is_some (option_and_then (λ p. p.column) (find (stands_at c) (cond b (layout q v backs) (view_layout v))))) (sym isd) ∙ e)
      by c false e isd l = cc

  pub settled_gained : (n : ℕ) (before : List Back) (k s : ColRef) → mark_missing q v n ≡ false → Settled (before ++ back_by_key defs n k s ∷ []) n
  settled_gained n before k s h =
      settle n (before ++ back_by_key defs n k s ∷ []) h
      (Each-map (Declared defs) (λ c. (c.table == n) ≡ true → is_declared c.part ≡ true → Stand (layout q v (before ++ back_by_key defs n k s ∷ [])) c)
      (λ c there own isd. gained_stands before n k s c (eqb-true c.table n own) isd there) (wanted q v) declared)

  settled_by_level : (n : ℕ) (before : List Back) (d : Dimension) (l : DimLevel) (s : ColRef) → mark_missing q v n ≡ false → l.column.table ≡ n → list_all (has_column (determined d l.column)) (missing q v before n) ≡ true
      → Settled (before ++ back_by_level d l s ∷ []) n
  settled_by_level n before d l s h at serves =
      settle n (before ++ back_by_level d l s ∷ []) h
      (Each-map (λ c. ((c.table == n) && (is_declared c.part && not (available q v before c))) ≡ true → has_column (determined d l.column) c ≡ true) (λ c. (c.table == n) ≡ true → is_declared c.part ≡ true → Stand (layout q v (before ++ back_by_level d l s ∷ [])) c)
      (λ c k own isd. by c (available q v before c) refl own isd k) (wanted q v) (
      Each-unfilter (λ c. has_column (determined d l.column) c ≡ true) (λ c. (c.table == n) && (is_declared c.part && not (available q v before c))) (wanted q v)
      (Each-from_all (has_column (determined d l.column)) (filter (λ c. (c.table == n) && (is_declared c.part && not (available q v before c))) (wanted q v)) serves)))
    where
      by : (c : ColRef) (x : Bool) → available q v before c ≡ x → (c.table == n) ≡ true → is_declared c.part ≡ true
          → (((c.table == n) && (is_declared c.part && not (available q v before c))) ≡ true → has_column (determined d l.column) c ≡ true) → Stand (layout q v (before ++ back_by_level d l s ∷ [])) c
      by c true e own isd k =
          stand_more before (back_by_level d l s ∷ []) c
          (found_any (stands_at c) (layout q v before) (ap (λ b. is_some (option_and_then (λ p. p.column) (find (stands_at c) (cond b (layout q v before) (view_layout v))))) (sym isd) ∙ e))
      by c false e own isd k = gained_by_level before d l s c (at ∙ sym (eqb-true c.table n own)) isd (k (λ i. own i && (isd i && not (e i))))

  -- ---- keys of a table of both

  abbrev IsSureKey : ℕ → ColRef → Type 0
  IsSureKey n k = (k.table ≡ n) × AtMost (rows_at base) k × ((t : Env) → TupleFact defs q v base t → not_null (env_value t k) ≡ true)

  sure_key_fine : (n : ℕ) → theirs n ≡ true → Each (IsSureKey n) (sure_keys defs n)
  sure_key_fine n own =
      Each-map (λ c. (never_null defs c ≡ true) × ((c.table ≡ n) × (is_key_column defs c ≡ true))) (IsSureKey n)
      (λ c h. (h.1.0, unique c h.1.1, λ t fact. fact.sure c (ap theirs h.1.0 ∙ own) h.0)) (sure_keys defs n)
      (Each-both (λ c. never_null defs c ≡ true) (λ c. (c.table ≡ n) × (is_key_column defs c ≡ true)) (sure_keys defs n)
      (Each-passes (never_null defs) (map (λ k. record { table = n; part = Col k }) (def_at defs n).keys))
      (Each-filter (λ c. (c.table ≡ n) × (is_key_column defs c ≡ true)) (never_null defs) (map (λ k. record { table = n; part = Col k }) (def_at defs n).keys)
      (Each-of_map (λ c. (c.table ≡ n) × (is_key_column defs c ≡ true)) (λ k. record { table = n; part = Col k }) (def_at defs n).keys (all (def_at defs n).keys (λ m h. h)))))
    where
      all : (ks : List ℕ) → ((m : ℕ) → has_number ks m ≡ true → has_number (def_at defs n).keys m ≡ true) → Each (λ k. (n ≡ n) × (is_key (def_at defs n) k ≡ true)) ks
      all [] sub = tt
      all (k ∷ ks) sub = ((refl, sub k (has_itself k ks)), all ks (λ m h. sub m (ap (λ b. (k == m) || b) h ∙ or-true (k == m))))

  -- the key that a join leads to
  join_key_fine : (n : ℕ) (e : Edge) → theirs n ≡ true → e.to.table ≡ n → EndsIn q.tables e → join_into q n ≡ Some e → is_key_column defs e.to ≡ true → Each (IsSureKey n) (join_key q n)
  join_key_fine n e own at ends into key =
      subst (λ o. Each (IsSureKey n) (option_case o [] (λ d. d.to ∷ []))) (sym into)
      ((at, unique e.to key, λ t fact. second (env_value t e.from) (env_value t e.to) (common_true defs q v base x t fact e ends (ap (join_into q) at ∙ into) (ap theirs at ∙ own)).1), tt)
    where
      second : (a b : Value) → equal_not_null a b ≡ true → not_null b ≡ true
      second a b h =
          let both : (not (is_null a) ≡ true) × (same_value a b ≡ true) = and_parts (not (is_null a)) (same_value a b) h in
          ap not_null (sym ((same_value-Decides a b).0 both.1)) ∙ both.0

  -- how a table of both is joined back
  pub record JoinedBack (before : List Back) (b : Back) (n : ℕ) : Type 0 where
    pub at : Step
    pub back : b ≡ back_of defs at
    pub fine : (S : List ℕ) (rest : List Step) → StepsFine defs q v base S (before ++ back_of defs at ∷ []) rest → StepsFine defs q v base S before (at ∷ rest)
    pub joins : (rest : List Step) → joins_of (at ∷ rest) ≡ joins_of rest
    pub reached_is : (S : List ℕ) (rest : List Step) → reached S (at ∷ rest) ≡ reached S rest
    pub settled : mark_missing q v n ≡ false → Settled (before ++ back_of defs at ∷ []) n

  by_key : (n : ℕ) (before : List Back) (b : Back) → theirs n ≡ true → Each (IsSureKey n) (join_key q n) → back_by_own_key defs q v before n ≡ Some b → JoinedBack before b n
  by_key n before b own keys h =
      let found : (k : ColRef) × (IsSureKey n k × (option_map (back_by_key defs n k) (source_of q v before k) ≡ Some b))
      = first_gives (IsSureKey n) (λ k. option_map (back_by_key defs n k) (source_of q v before k)) (join_key q n ++ sure_keys defs n) b
      (Each-append (IsSureKey n) (join_key q n) (sure_keys defs n) keys (sure_key_fine n own)) h in
      let made : (s : ColRef) × ((source_of q v before found.0 ≡ Some s) × (back_by_key defs n found.0 s ≡ b)) = map_gives (back_by_key defs n found.0) (source_of q v before found.0) b found.1.1 in
      let k : ColRef = found.0 in
      let s : ColRef = made.0 in
      record {
        at = Common k s;
        back = sym made.1.1 ∙ ap (λ m. back_by_key defs m k s) (sym found.1.0.0);
        fine = λ S rest g. (record { theirs = ap theirs found.1.0.0 ∙ own; source = made.1.0; keyed = found.1.0.1; there = found.1.0.2 }, g);
        joins = λ rest. refl;
        reached_is = λ S rest. refl;
        settled = λ mark. subst (λ m. Settled (before ++ back_by_key defs m k s ∷ []) n) (sym found.1.0.0) (settled_gained n before k s mark);
      }

  level_gives : (n : ℕ) (before : List Back) (b : Back) → theirs n ≡ true → (d : Dimension) (l : DimLevel) → level_agrees (rows_at base l.column.table) l.column (determined d l.column) ≡ true
      → (x : Bool) → level_serves q v before n d l ≡ x → cond x (option_map (back_by_level d l) (source_of q v before l.column)) None ≡ Some b → JoinedBack before b n
  level_gives n before b own d l agrees true e h =
      let both : ((l.column.table == n) ≡ true) × (list_all (has_column (determined d l.column)) (missing q v before n) ≡ true) = and_parts (l.column.table == n) (list_all (has_column (determined d l.column)) (missing q v before n)) e in
      let at : l.column.table ≡ n = eqb-true l.column.table n both.0 in
      let made : (s : ColRef) × ((source_of q v before l.column ≡ Some s) × (back_by_level d l s ≡ b)) = map_gives (back_by_level d l) (source_of q v before l.column) b h in
      record {
        at = ByLevel d l made.0;
        back = sym made.1.1;
        fine = λ S rest g. (record { theirs = ap theirs at ∙ own; source = made.1.0; agrees = agrees }, g);
        joins = λ rest. refl;
        reached_is = λ S rest. refl;
        settled = λ mark. settled_by_level n before d l made.0 mark at both.1;
      }
  level_gives n before b own d l agrees false e h = cc

  by_levels : (n : ℕ) (before : List Back) (b : Back) → theirs n ≡ true → may_rely level ≡ true → back_by_levels dims q v before n ≡ Some b → JoinedBack before b n
  by_levels n before b own rely h =
      let dim : (d : Dimension) × ((dimension_holds base d ≡ true) × (first_of (level_back q v before n d) d.levels ≡ Some b)) = first_gives (λ d. dimension_holds base d ≡ true) (λ d. first_of (level_back q v before n d) d.levels) dims b (relies rely) h in
      let d : Dimension = dim.0 in
      let one : (l : DimLevel) × ((level_agrees (rows_at base l.column.table) l.column (determined d l.column) ≡ true) × (level_back q v before n d l ≡ Some b))
      = first_gives (λ l. level_agrees (rows_at base l.column.table) l.column (determined d l.column) ≡ true) (level_back q v before n d) d.levels b
      (Each-from_all (λ l. level_agrees (rows_at base l.column.table) l.column (determined d l.column)) d.levels dim.1.0) dim.1.1 in
      level_gives n before b own d one.0 one.1.0 (level_serves q v before n d one.0) refl one.1.1

  pub common_back : (n : ℕ) (before : List Back) (b : Back) → theirs n ≡ true → Each (IsSureKey n) (join_key q n) → back_common defs dims level q v before n ≡ Some b → JoinedBack before b n
  common_back n before b own keys h = by (back_by_own_key defs q v before n) (may_rely level) refl refl h
    where
      by : (o : Option Back) (x : Bool) → back_by_own_key defs q v before n ≡ o → may_rely level ≡ x → first_some (o ∷ cond x (back_by_levels dims q v before n) None ∷ []) ≡ Some b → JoinedBack before b n
      by (Some y) x e f g = by_key n before b own keys (e ∙ g)
      by None true e f g = by_levels n before b own f (last (back_by_levels dims q v before n) g)
        where
          last : (o : Option Back) → first_some (o ∷ []) ≡ Some b → o ≡ Some b
          last None g = cc
          last (Some y) g = g
      by None false e f g = cc

  -- ---- the walk

  abbrev tos : List Edge → List ℕ
  tos es = map (λ e. e.to.table) es

  pub record Walked (S : List ℕ) (before after : List Back) (es : List Edge) : Type 0 where
    pub steps : List Step
    pub backs : after ≡ before ++ backs_of defs steps
    pub fine : StepsFine defs q v base S before steps
    pub joins : joins_of steps ≡ filter (λ e. not (theirs e.to.table)) es
    pub kept : (m : ℕ) → has_number S m ≡ true → has_number (reached S steps) m ≡ true
    pub all : (m : ℕ) → has_number (tos es) m ≡ true → has_number (reached S steps) m ≡ true
    pub settled : Each (λ e. Settled after e.to.table) es

  pub record Known (S listed : List ℕ) : Type 0 where
    pub theirs_in : (m : ℕ) → theirs m ≡ true → has_number S m ≡ true
    pub listed_in : (m : ℕ) → has_number listed m ≡ true → has_number S m ≡ true
    pub no_more : (m : ℕ) → theirs m ≡ false → has_number listed m ≡ false → has_number S m ≡ false

  -- a table of both is listed
  known_common : (S listed : List ℕ) (n : ℕ) → theirs n ≡ true → Known S listed → Known S (listed ++ n ∷ [])
  known_common S listed n own k = record {
    theirs_in = k.theirs_in;
    listed_in = λ m h. by m (has_number listed m) refl (sym (has_append listed (n ∷ []) m) ∙ h);
    no_more = λ m h l. k.no_more m h (or_parts (has_number listed m) (has_number (n ∷ []) m) (sym (has_append listed (n ∷ []) m) ∙ l)).0;
  }
    where
      last : (m : ℕ) (b : Bool) → (n == m) ≡ b → (b || false) ≡ true → has_number S m ≡ true
      last m true e h = k.theirs_in m (ap theirs (sym (eqb-true n m e)) ∙ own)
      last m false e h = cc

      by : (m : ℕ) (b : Bool) → has_number listed m ≡ b → (has_number listed m || has_number (n ∷ []) m) ≡ true → has_number S m ≡ true
      by m true e h = k.listed_in m e
      by m false e h = last m (n == m) refl (ap (λ b. b || has_number (n ∷ []) m) (sym e) ∙ h)

  known_alone : (S listed : List ℕ) (n : ℕ) → Known S listed → Known (n ∷ S) (listed ++ n ∷ [])
  known_alone S listed n k = record {
    theirs_in = λ m h. wider m (k.theirs_in m h);
    listed_in = λ m h. by m (has_number listed m) refl (sym (has_append listed (n ∷ []) m) ∙ h);
    no_more = λ m h l. let both : (has_number listed m ≡ false) × (has_number (n ∷ []) m ≡ false) = or_parts (has_number listed m) (has_number (n ∷ []) m) (sym (has_append listed (n ∷ []) m) ∙ l) in
        λ i. (or_parts (n == m) false both.1).0 i || k.no_more m h both.0 i;
  }
    where
      wider : (m : ℕ) → has_number S m ≡ true → has_number (n ∷ S) m ≡ true
      wider m h = ap (λ b. (n == m) || b) h ∙ or-true (n == m)

      last : (m : ℕ) (b : Bool) → (n == m) ≡ b → (b || false) ≡ true → (b || has_number S m) ≡ true
      last m true e h = refl
      last m false e h = cc

      by : (m : ℕ) (b : Bool) → has_number listed m ≡ b → (has_number listed m || has_number (n ∷ []) m) ≡ true → has_number (n ∷ S) m ≡ true
      by m true e h = wider m (k.listed_in m e)
      by m false e h = last m (n == m) refl (ap (λ b. b || has_number (n ∷ []) m) (sym e) ∙ h)

  key_of_lead : (listed : List ℕ) (e : Edge) (es : List Edge) → leads_outwards defs listed (e ∷ es) ≡ true → is_key_column defs e.to ≡ true
  key_of_lead listed e es h =
      (and_parts (not (has_number listed e.to.table)) (is_key_column defs e.to)
      (and_parts (has_number listed e.from.table) (not (has_number listed e.to.table) && is_key_column defs e.to)
      (and_parts (has_number listed e.from.table && (not (has_number listed e.to.table) && is_key_column defs e.to)) (leads_outwards defs (listed ++ e.to.table ∷ []) es) h).0).1).1

  -- what is known of a join of the query
  abbrev Own : Edge → Type 0
  Own e = EndsIn q.tables e × (join_into q e.to.table ≡ Some e)

  head_or : (n : ℕ) (ns ms : List ℕ) → has_number ms n ≡ true → ((m : ℕ) → has_number ns m ≡ true → has_number ms m ≡ true) → (m : ℕ) → has_number (n ∷ ns) m ≡ true → has_number ms m ≡ true
  head_or n ns ms here rest m h = by (n == m) refl h
    where
      by : (b : Bool) → (n == m) ≡ b → (b || has_number ns m) ≡ true → has_number ms m ≡ true
      by true e h = ap (has_number ms) (sym (eqb-true n m e)) ∙ here
      by false e h = rest m h

  pub walked : (listed : List ℕ) (es : List Edge) (S : List ℕ) (w : Walk) → leads_outwards defs listed es ≡ true → Each Own es → Known S listed → NoFail (fold step w (tos es)) → Walked S w.back (fold step w (tos es)).back es
  walked listed [] S w leads own known h =
      record { steps = []; backs = sym (append-nil w.back); fine = tt; joins = refl; kept = λ m k. k; all = λ m k. absurd (let e : false ≡ true = k in cc); settled = tt }
  walked listed (e ∷ es) S w leads own known h =
      let at : NoFail w × (mark_missing q v e.to.table ≡ false) × Turn w e.to.table = turn w e.to.table (no_fail (tos es) (step w e.to.table) h) in
      by (λ S' known'. walked (listed ++ e.to.table ∷ []) es S' (step w e.to.table) (first_leads defs listed e es leads).2 own.1 known' h) at.1 at.2
    where
      n : ℕ
      n = e.to.table

      final : Walk
      final = fold step w (tos (e ∷ es))

      first : (has_number listed e.from.table ≡ true) × (has_number listed e.to.table ≡ false) × (leads_outwards defs (listed ++ e.to.table ∷ []) es ≡ true)
      first = first_leads defs listed e es leads

      here : (S' : List ℕ) → ((rest : Walked S' (step w n).back final.back es) → Settled (step w n).back n → Settled final.back n)
      here S' rest k = subst (λ bs. Settled bs n) (sym rest.backs) (settled_more (step w n).back (backs_of defs rest.steps) n k)

      by : ((S' : List ℕ) → Known S' (listed ++ n ∷ []) → Walked S' (step w n).back final.back es) → mark_missing q v n ≡ false → Turn w n → Walked S w.back final.back (e ∷ es)
      by go mark (Nothing theirs_n none same) =
          let rest : Walked S (step w n).back final.back es = go S (known_common S listed n theirs_n known) in
          record {
            steps = rest.steps;
            backs = rest.backs ∙ ap (λ u. u.back ++ backs_of defs rest.steps) same;
            fine = subst (λ (u : Walk). StepsFine defs q v base S u.back rest.steps) same rest.fine;
            joins = rest.joins ∙ ap (λ b. cond (not b) (e ∷ filter (λ d. not (theirs d.to.table)) es) (filter (λ d. not (theirs d.to.table)) es)) (sym theirs_n);
            kept = rest.kept;
            all = head_or n (tos es) (reached S rest.steps) (rest.kept n (known.theirs_in n theirs_n)) rest.all;
            settled = (here S rest (subst (λ (u : Walk). Settled u.back n) (sym same) (settled_nothing n w.back mark none)), rest.settled);
          }
      by go mark (Gained b theirs_n is same) =
          let rest : Walked S (step w n).back final.back es = go S (known_common S listed n theirs_n known) in
          let key : JoinedBack w.back b n = common_back n w.back b theirs_n (join_key_fine n e theirs_n refl own.0.0 own.0.1 (key_of_lead listed e es leads)) is in
          let added : (step w n).back ≡ w.back ++ back_of defs key.at ∷ [] = ap (λ (u : Walk). u.back) same ∙ ap (λ c. w.back ++ c ∷ []) key.back in
          record {
            steps = key.at ∷ rest.steps;
            backs = rest.backs ∙ ap (λ bs. bs ++ backs_of defs rest.steps) added ∙ append_assoc w.back (back_of defs key.at ∷ []) (backs_of defs rest.steps);
            fine = key.fine S rest.steps (subst (λ bs. StepsFine defs q v base S bs rest.steps) added rest.fine);
            joins = key.joins rest.steps ∙ rest.joins ∙ ap (λ b. cond (not b) (e ∷ filter (λ d. not (theirs d.to.table)) es) (filter (λ d. not (theirs d.to.table)) es)) (sym theirs_n);
            kept = λ m k. ap (λ ns. has_number ns m) (key.reached_is S rest.steps) ∙ rest.kept m k;
            all = λ m k. ap (λ ns. has_number ns m) (key.reached_is S rest.steps) ∙ head_or n (tos es) (reached S rest.steps) (rest.kept n (known.theirs_in n theirs_n)) rest.all m k;
            settled = (here S rest (subst (λ bs. Settled bs n) (sym added) (key.settled mark)), rest.settled);
          }
      by go mark (Found b alone_n is same) =
          let rest : Walked (n ∷ S) (step w n).back final.back es = go (n ∷ S) (known_alone S listed n known) in
          let made : (s : ColRef) × ((source_of q v w.back e.from ≡ Some s) × (back_by_key defs n e.to s ≡ b))
          = map_gives (back_by_key defs n e.to) (source_of q v w.back e.from) b (ap (λ o. option_and_then (λ d. option_map (back_by_key defs n d.to) (source_of q v w.back d.from)) o) (sym own.0.1) ∙ is) in
          let s : ColRef = made.0 in
          let added : (step w n).back ≡ w.back ++ back_by_key defs n e.to s ∷ [] = ap (λ (u : Walk). u.back) same ∙ ap (λ c. w.back ++ c ∷ []) (sym made.1.1) in
          record {
            steps = Alone e s ∷ rest.steps;
            backs = rest.backs ∙ ap (λ bs. bs ++ backs_of defs rest.steps) added ∙ append_assoc w.back (back_by_key defs n e.to s ∷ []) (backs_of defs rest.steps);
            fine = (
              record { own = own.0.1; new = known.no_more n alone_n first.1; from = known.listed_in e.from.table first.0; source = made.1.0 },
              subst (λ bs. StepsFine defs q v base (n ∷ S) bs rest.steps) added rest.fine,
            );
            joins = ap (λ ds. e ∷ ds) rest.joins ∙ ap (λ b. cond (not b) (e ∷ filter (λ d. not (theirs d.to.table)) es) (filter (λ d. not (theirs d.to.table)) es)) (sym alone_n);
            kept = λ m k. rest.kept m (ap (λ b. (n == m) || b) k ∙ or-true (n == m));
            all = head_or n (tos es) (reached (n ∷ S) rest.steps) (rest.kept n (has_itself n S)) rest.all;
            settled = (here (n ∷ S) rest (subst (λ bs. Settled bs n) (sym added) (settled_gained n w.back e.to s mark)), rest.settled);
          }
