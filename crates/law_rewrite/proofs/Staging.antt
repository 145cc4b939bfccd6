-- All tables that are joined back, one after another.
use Rattle.std.proofs.Common.{◌≡◌, ◌∙◌, sym, ap, subst, refl, ℕ, Bool, true, false, cond, not, List, [], ◌∷◌, ◌++◌, map, Option, Some, None}
use Rattle.std.specs.Prelude.{◌&&◌, ◌||◌, ◌==◌, filter_map, find, is_some, nat_eq, option_and_then, option_map}
use Rattle.std.specs.List.{filter, flat_map, list_all, list_any}
use Rattle.std.proofs.lemmas.Bool.{eq-eqb, eqb-true, and_parts}
use Rattle.std.proofs.lemmas.List.{append_assoc, append-nil}
use Rattle.std.proofs.Math.Bool.{or-true}
use Rattle.std.proofs.lemmas.Option.{same_Some}
use Rattle.wh_base.specs.Columns.{same_column}
use Rattle.wh_base.specs.Lists.{has_number, option_case}
use Rattle.wh_base.specs.Tables.{Base, value_at}
use Rattle.wh_base.specs.Values.{equal_not_null, is_null, same_value}
use Rattle.wh_base.proofs.Same.{same_value-Decides}
use Rattle.wh_base.proofs.Sorting.{times}
use Rattle.wh_base.specs.declared.columns.ColPart.{ColPart}
use Rattle.wh_base.specs.declared.columns.ColPart.TheVariants.{Col, Mark, RowId}
use Rattle.wh_base.specs.declared.columns.ColRef.{ColRef}
use Rattle.wh_base.specs.declared.queries.Edge.{Edge}
use Rattle.wh_base.specs.declared.queries.StarQuery.{StarQuery}
use Rattle.wh_base.specs.declared.tables.RowAt.{RowAt}
use Rattle.wh_base.specs.declared.tables.TableDef.{TableDef}
use Rattle.wh_base.specs.declared.values.Value.{Value}
use Rattle.wh_base.specs.declared.views.Back.{Back}
use Rattle.def_dimensions.specs.Relations.{determined, row_value, values_agree}
use Rattle.def_meaning.specs.Joined.{part_value, rows_at}
use Rattle.def_meaning.specs.Meaning.{Grouped}
use Rattle.def_resolve.specs.Star.{IsTreeFrom}
use Rattle.def_rewriting.specs.Compatible.{join_into}
use Rattle.def_rewriting.specs.PlanRows.{back_row, exact_value, extend_all, gained, meets_back}
use Rattle.def_rewriting.specs.Reaching.{back_column, back_layout, declared_place, layout}
use Rattle.law_lists.proofs.Each.{Each-both, Each-from_all, Each-append, Each-distinct, Each-filter, Each-map, Each-of, Each-passes}
use Rattle.law_lists.proofs.Numbers.{differs_turned}
use Rattle.law_lists.proofs.Options.{find_passes}
use Rattle.law_lists.proofs.Counts.{times-filter}
use Rattle.law_lists.proofs.Groups.{Agree, Stands}
use Rattle.law_rewrite.specs.Words.{Each}
use Rattle.law_rewrite.proofs.Envs.{Env, env_value, put}
use Rattle.law_rewrite.proofs.Joins.{has_itself, listed_differs, own_joins}
use Rattle.law_rewrite.proofs.Forgetting.{value_free}
use Rattle.law_rewrite.proofs.Finding.{found_for, with_row, with_rows}
use Rattle.law_rewrite.proofs.Tuples.{times_each}
use Rattle.law_rewrite.proofs.Linking.{Level, Sound}
use Rattle.law_rewrite.proofs.Cells.{Cells, back_cells, cells_append, cells_move, exact_right, find_gives, is_exactly}
use Rattle.law_rewrite.proofs.Backs.{Stands-back}
use Rattle.law_rewrite.proofs.Joining.{Alone, AloneFine, ByLevel, Common, Fact, LayoutFine, Step, StepsFine, back_of, backs_of, columns_more, fine_more, joins_of, layout_more, source_linked}

-- the tables that are there after these steps
abbrev pub reached : List ℕ → List Step → List ℕ
reached S [] = S
reached S (Alone d s ∷ steps) = reached (d.to.table ∷ S) steps
reached S (Common k s ∷ steps) = reached S steps
reached S (ByLevel d l s ∷ steps) = reached S steps

found_some : {A : Type 0} (p : A → Bool) (xs : List A) → list_any p xs ≡ true → is_some (find p xs) ≡ true
found_some p [] h = cc
found_some p (x ∷ xs) h = by (p x) h (found_some p xs)
  where
    by : (b : Bool) → (b || list_any p xs) ≡ true → (list_any p xs ≡ true → is_some (find p xs) ≡ true) → is_some (cond b (Some x) (find p xs)) ≡ true
    by true h k = refl
    by false h k = k h

-- what has all that all of a list have is among them
any_of : {A : Type 0} (p : A → Bool) (xs : List A) (x : A) → ((r : A → Bool) → list_all r xs ≡ true → r x ≡ true) → p x ≡ true → list_any p xs ≡ true
any_of {A} p xs x among h = by (list_any p xs) refl
  where
    none_all : (ys : List A) → list_any p ys ≡ false → list_all (λ y. not (p y)) ys ≡ true
    none_all [] e = refl
    none_all (y ∷ ys) e = two (p y) e (none_all ys)
      where
        two : (b : Bool) → (b || list_any p ys) ≡ false → (list_any p ys ≡ false → list_all (λ z. not (p z)) ys ≡ true) → (not b && list_all (λ z. not (p z)) ys) ≡ true
        two true f k = cc
        two false f k = k f

    by : (b : Bool) → list_any p xs ≡ b → b ≡ true
    by true e = refl
    by false e = absurd (let f : not (p x) ≡ true = among (λ y. not (p y)) (none_all xs e) in let g : false ≡ true = sym (ap not h) ∙ f in cc)

-- rows that agree in columns agree at their places
places_agree : (x y : RowAt) (cs : List ColRef) → values_agree (row_value x) (row_value y) cs ≡ true → Each (λ n. value_at x.values n ≡ value_at y.values n) (flat_map declared_place cs)
places_agree x y [] h = tt
places_agree x y (c ∷ cs) h =
    let both : (same_value (part_value x c.part) (part_value y c.part) ≡ true) × (values_agree (row_value x) (row_value y) cs ≡ true) = and_parts (same_value (part_value x c.part) (part_value y c.part)) (values_agree (row_value x) (row_value y) cs) h in
    Each-append (λ n. value_at x.values n ≡ value_at y.values n) (declared_place c) (flat_map declared_place cs) (by c.part ((same_value-Decides (part_value x c.part) (part_value y c.part)).0 both.0)) (places_agree x y cs both.1)
  where
    by : (p : ColPart) → part_value x p ≡ part_value y p → Each (λ n. value_at x.values n ≡ value_at y.values n) (declared_place (record { table = c.table; part = p }))
    by (Col n) e = (e, tt)
    by RowId e = tt
    by Mark e = tt

module _ (defs : List TableDef) (q v : StarQuery) (base : Base) (tree_q : IsTreeFrom defs q.root q.tables q.edges) (tree_v : IsTreeFrom defs v.root v.tables v.edges)
    (first : Grouped Env → List Value) (Kept : Grouped Env → Type 0) where
  abbrev rows : ℕ → List RowAt
  rows = rows_at base

  pub record State (S : List ℕ) (before : List Back) (ext : List Value → List Value) (fin : Env → Env) (gs : List (Grouped Env)) (rs : List (List Value)) (us : List Env) : Type 0 where
    pub stands : Stands (λ g. ext (first g)) gs rs us
    pub longer : (r : List Value) → (more : List Value) × (ext r ≡ r ++ more)
    pub fine : LayoutFine defs q v base S before
    pub cells : Each (λ g. Each (λ t. Fact defs q v base S (fin t) t × Cells (layout q v before) (ext (first g)) (env_value (fin t))) g.1) gs
    pub facts : Each (λ t. Fact defs q v base S (fin t) t) us
    pub kept : Each Kept gs

  module _ (S S' : List ℕ) (before : List Back) (ext : List Value → List Value) (fin fin' : Env → Env) (gs : List (Grouped Env)) (rs : List (List Value)) (us : List Env)
      (state : State S before ext fin gs rs us) (b : Back) where
    abbrev columns : List (Option ColRef)
    columns = map (λ p. p.column) (layout q v before)

    abbrev look : Value → Option RowAt
    look w = find (meets_back b w) (rows b.table)

    abbrev pub found_t : Env → Option RowAt
    found_t t = look (env_value (fin t) b.source)

    abbrev found : List Value → Option RowAt
    found r = look (exact_value columns r b.source)

    abbrev pub ext' : List Value → List Value
    ext' r = option_case (found (ext r)) (ext r) (λ x. ext r ++ gained b x)

    -- what a row that is found does
    abbrev pub Good : Env → RowAt → Type 0
    Good t x = Fact defs q v base S' (fin' t) t × ((c : ColRef) → has_number S c.table ≡ true → env_value (fin t) c ≡ env_value (fin' t) c)
        × Each (λ n. value_at x.values n ≡ env_value (fin' t) (back_column b n)) b.columns

    pub step_state : ((t : Env) → Fact defs q v base S (fin t) t → list_any (λ p. option_case p.column false (same_column b.source)) (layout q v before) ≡ true)
        → ((t : Env) → Fact defs q v base S (fin t) t → (x : RowAt) → found_t t ≡ Some x → Good t x)
        → ((m : ℕ) → has_number S m ≡ true → has_number S' m ≡ true) → has_number S' b.table ≡ true
        → State S' (before ++ b ∷ []) ext' fin' (filter (λ g. is_some (found (ext (first g)))) gs) (filter_map (back_row base columns b) rs) (filter (λ t. is_some (found_t t)) us)
    step_state stood good more there = record {
      stands = Stands-back (λ g. ext (first g)) found found_t (λ r x. r ++ gained b x) gs rs us agree state.stands;
      longer = λ r. by_longer (found (ext r)) r;
      fine = fine_more defs q v base tree_q tree_v S S' before b more there state.fine;
      cells =
          Each-map (λ g. (is_some (found (ext (first g))) ≡ true) × Each (λ t. Fact defs q v base S (fin t) t × Cells (layout q v before) (ext (first g)) (env_value (fin t))) g.1)
          (λ g. Each (λ t. Fact defs q v base S' (fin' t) t × Cells (layout q v (before ++ b ∷ [])) (ext' (first g)) (env_value (fin' t))) g.1)
          (λ g h. by_group g (found (ext (first g))) refl h.0 h.1) (filter (λ g. is_some (found (ext (first g)))) gs)
          (Each-both (λ g. is_some (found (ext (first g))) ≡ true) (λ g. Each (λ t. Fact defs q v base S (fin t) t × Cells (layout q v before) (ext (first g)) (env_value (fin t))) g.1)
          (filter (λ g. is_some (found (ext (first g)))) gs) (Each-passes (λ g. is_some (found (ext (first g)))) gs)
          (Each-filter (λ g. Each (λ t. Fact defs q v base S (fin t) t × Cells (layout q v before) (ext (first g)) (env_value (fin t))) g.1) (λ g. is_some (found (ext (first g)))) gs state.cells));
      facts =
          Each-map (λ t. (is_some (found_t t) ≡ true) × Fact defs q v base S (fin t) t) (λ t. Fact defs q v base S' (fin' t) t) (λ t h. by_tuple t (found_t t) refl h.0 h.1) (filter (λ t. is_some (found_t t)) us)
          (Each-both (λ t. is_some (found_t t) ≡ true) (λ t. Fact defs q v base S (fin t) t) (filter (λ t. is_some (found_t t)) us) (Each-passes (λ t. is_some (found_t t)) us)
          (Each-filter (λ t. Fact defs q v base S (fin t) t) (λ t. is_some (found_t t)) us state.facts));
      kept = Each-filter Kept (λ g. is_some (found (ext (first g)))) gs state.kept;
    }
      where
        same_found : (g : Grouped Env) (t : Env) → Fact defs q v base S (fin t) t × Cells (layout q v before) (ext (first g)) (env_value (fin t)) → found_t t ≡ found (ext (first g))
        same_found g t h = ap look (sym (exact_right (layout q v before) (ext (first g)) (env_value (fin t)) h.1 b.source (stood t h.0)))

        agree : Each (Agree (λ g. ext (first g)) found_t found) gs
        agree =
            Each-map (λ g. Each (λ t. Fact defs q v base S (fin t) t × Cells (layout q v before) (ext (first g)) (env_value (fin t))) g.1) (Agree (λ g. ext (first g)) found_t found)
            (λ g. Each-map (λ t. Fact defs q v base S (fin t) t × Cells (layout q v before) (ext (first g)) (env_value (fin t))) (λ t. found_t t ≡ found (ext (first g))) (same_found g) g.1) gs state.cells

        by_longer : (o : Option RowAt) (r : List Value) → (more : List Value) × (option_case o (ext r) (λ x. ext r ++ gained b x) ≡ r ++ more)
        by_longer None r = state.longer r
        by_longer (Some x) r =
            let e : (more : List Value) × (ext r ≡ r ++ more) = state.longer r in (e.0 ++ gained b x, ap (λ xs. xs ++ gained b x) e.1 ∙ append_assoc r e.0 (gained b x))

        by_tuple : (t : Env) (o : Option RowAt) → found_t t ≡ o → is_some o ≡ true → Fact defs q v base S (fin t) t → Fact defs q v base S' (fin' t) t
        by_tuple t None e h fact = absurd (let f : false ≡ true = h in cc)
        by_tuple t (Some x) e h fact = (good t fact x e).0

        by_group : (g : Grouped Env) (o : Option RowAt) → found (ext (first g)) ≡ o → is_some o ≡ true
            → Each (λ t. Fact defs q v base S (fin t) t × Cells (layout q v before) (ext (first g)) (env_value (fin t))) g.1
            → Each (λ t. Fact defs q v base S' (fin' t) t × Cells (layout q v (before ++ b ∷ [])) (ext' (first g)) (env_value (fin' t))) g.1
        by_group g None e h cells = absurd (let f : false ≡ true = h in cc)
        by_group g (Some x) e h cells =
            Each-map (λ t. Fact defs q v base S (fin t) t × Cells (layout q v before) (ext (first g)) (env_value (fin t)))
            (λ t. Fact defs q v base S' (fin' t) t × Cells (layout q v (before ++ b ∷ [])) (ext' (first g)) (env_value (fin' t))) one g.1 cells
          where
            one : (t : Env) → Fact defs q v base S (fin t) t × Cells (layout q v before) (ext (first g)) (env_value (fin t))
                → Fact defs q v base S' (fin' t) t × Cells (layout q v (before ++ b ∷ [])) (ext' (first g)) (env_value (fin' t))
            one t k =
                let done : Good t x = good t k.0 x (same_found g t k ∙ e) in (
                  done.0,
                  subst (λ ps. Cells ps (ext' (first g)) (env_value (fin' t))) (sym (layout_more defs q v base tree_q tree_v before b))
                      (subst (λ r. Cells (layout q v before ++ back_layout q b) r (env_value (fin' t))) (ap (λ o. option_case o (ext (first g)) (λ y. ext (first g) ++ gained b y)) (sym e))
                      (cells_append (layout q v before) (back_layout q b) (ext (first g)) (gained b x) (env_value (fin' t))
                      (cells_move (has_number S) (layout q v before) (ext (first g)) (env_value (fin t)) (env_value (fin' t)) done.1 state.fine.within k.1)
                      (back_cells q b x (env_value (fin' t)) done.2))),
                )

  -- ---- all steps

  pub record Outcome (S : List ℕ) (backs : List Back) (rs : List (List Value)) (count : (Env → Bool) → ℕ) : Type 0 where
    pub ext : List Value → List Value
    pub fin : Env → Env
    pub gs : List (Grouped Env)
    pub us : List Env
    pub state : State S backs ext fin gs rs us
    pub tuples : (r : Env → Bool) → times (λ t. r (fin t)) us ≡ count r

  abbrev found_after : List Step → (Env → Env) → List Env → (Env → Bool) → ℕ
  found_after steps fin us r = times (λ t. option_case (with_rows rows (joins_of steps) (fin t)) false r) us

  equal_of : (x y : Value) → equal_not_null x y ≡ true → x ≡ y
  equal_of x y h = (same_value-Decides x y).0 (and_parts (not (is_null x)) (same_value x y) h).1

  -- a row found for a table of the query alone
  alone_good : (S : List ℕ) (before : List Back) (w t : Env) (d : Edge) (s : ColRef) (x : RowAt) → LayoutFine defs q v base S before → AloneFine defs q v base S before d s
      → Fact defs q v base S w t → found_for rows d w ≡ Some x
      → Fact defs q v base (d.to.table ∷ S) (put d.to.table x w) t × ((c : ColRef) → has_number S c.table ≡ true → env_value w c ≡ env_value (put d.to.table x w) c)
      × ((n : ℕ) → value_at x.values n ≡ env_value (put d.to.table x w) (record { table = d.to.table; part = Col n }))
  alone_good S before w t d s x fine a fact e = (
    record {
      tuple = fact.tuple;
      same = λ m h. ap (λ b. cond b x (w m)) (apart m (fine.theirs m h)) ∙ fact.same m h;
      sound = Each-map (λ f. (join_into q f.to.table ≡ Some f) × Sound defs (has_number S) (env_value w) f) (Sound defs (has_number (d.to.table ∷ S)) (env_value (put d.to.table x w))) one q.edges
          (Each-both (λ f. join_into q f.to.table ≡ Some f) (Sound defs (has_number S) (env_value w)) q.edges (own_joins defs q tree_q) fact.sound);
    },
    still,
    λ n. ap (λ b. part_value (cond b x (w d.to.table)) (Col n)) (sym (eq-eqb d.to.table d.to.table refl)),
  )
    where
      apart : (m : ℕ) → has_number S m ≡ true → (d.to.table == m) ≡ false
      apart m h = differs_turned m d.to.table (listed_differs S m d.to.table h a.new)

      still : (c : ColRef) → has_number S c.table ≡ true → env_value w c ≡ env_value (put d.to.table x w) c
      still c h = sym (value_free c d.to.table (apart c.table h) x w)

      wider : (m : ℕ) → has_number S m ≡ true → has_number (d.to.table ∷ S) m ≡ true
      wider m h = ap (λ b. (d.to.table == m) || b) h ∙ or-true (d.to.table == m)

      level : Level (env_value (put d.to.table x w)) d
      level =
          value_free d.from d.to.table (apart d.from.table a.from) x w
          ∙ equal_of (env_value w d.from) (part_value x d.to.part) (find_passes (λ r. equal_not_null (env_value w d.from) (part_value r d.to.part)) (rows d.to.table) x e)
          ∙ ap (λ b. part_value (cond b x (w d.to.table)) d.to.part) (sym (eq-eqb d.to.table d.to.table refl))

      one : (f : Edge) → (join_into q f.to.table ≡ Some f) × Sound defs (has_number S) (env_value w) f → Sound defs (has_number (d.to.table ∷ S)) (env_value (put d.to.table x w)) f
      one f h k = by (d.to.table == f.to.table) refl k
        where
          by : (b : Bool) → (d.to.table == f.to.table) ≡ b → (b || has_number S f.to.table) ≡ true
              → (has_number (d.to.table ∷ S) f.from.table ≡ true) × Level (env_value (put d.to.table x w)) f
          by true g l =
              let is : d ≡ f = same_Some d f (sym a.own ∙ ap (join_into q) (eqb-true d.to.table f.to.table g) ∙ h.0) in
              subst (λ y. (has_number (d.to.table ∷ S) y.from.table ≡ true) × Level (env_value (put d.to.table x w)) y) is (wider d.from.table a.from, level)
          by false g l =
              let old : (has_number S f.from.table ≡ true) × Level (env_value w) f = h.1 l in
              (wider f.from.table old.0, sym (still f.from old.0) ∙ old.1 ∙ still f.to l)

  pub run : (steps : List Step) (S : List ℕ) (before : List Back) (ext : List Value → List Value) (fin : Env → Env) (gs : List (Grouped Env)) (rs : List (List Value)) (us : List Env)
      → StepsFine defs q v base S before steps → State S before ext fin gs rs us
      → Outcome (reached S steps) (before ++ backs_of defs steps) (extend_all base (map (λ p. p.column) (layout q v before)) (backs_of defs steps) rs) (found_after steps fin us)
  run [] S before ext fin gs rs us fine state =
      record { ext = ext; fin = fin; gs = gs; us = us; state = subst (λ bs. State S bs ext fin gs rs us) (sym (append-nil before)) state; tuples = λ r. refl }
  run (Alone d s ∷ steps) S before ext fin gs rs us fine state =
      subst (λ bs. Outcome (reached (d.to.table ∷ S) steps) bs (extend_all base (map (λ p. p.column) (layout q v before)) (b ∷ backs_of defs steps) rs) (found_after (Alone d s ∷ steps) fin us))
      (append_assoc before (b ∷ []) (backs_of defs steps))
      (subst (λ cs. Outcome (reached (d.to.table ∷ S) steps) ((before ++ b ∷ []) ++ backs_of defs steps) (extend_all base cs (backs_of defs steps) (filter_map (back_row base (map (λ p. p.column) (layout q v before)) b) rs)) (found_after (Alone d s ∷ steps) fin us))
      (sym (columns_more defs q v base tree_q tree_v before b))
      (counted (run steps (d.to.table ∷ S) (before ++ b ∷ []) (ext' S (d.to.table ∷ S) before ext fin fin' gs rs us state b) fin' (filter (λ g. is_some (find (meets_back b (exact_value (map (λ p. p.column) (layout q v before)) (ext (first g)) b.source)) (rows b.table))) gs)
      (filter_map (back_row base (map (λ p. p.column) (layout q v before)) b) rs) (filter (λ t. is_some (seen t)) us) fine.1
      (step_state S (d.to.table ∷ S) before ext fin fin' gs rs us state b (λ t fact. (linked t fact).1) good wider (has_itself d.to.table S)))))
    where
      b : Back
      b = back_of defs (Alone d s)

      fin' : Env → Env
      fin' t = option_case (with_row rows d (fin t)) (fin t) (λ e. e)

      seen : Env → Option RowAt
      seen t = find (meets_back b (env_value (fin t) b.source)) (rows b.table)

      linked : (t : Env) → Fact defs q v base S (fin t) t → (env_value (fin t) d.from ≡ env_value (fin t) s) × (list_any (λ p. is_exactly s p.column) (layout q v before) ≡ true)
      linked t fact = source_linked defs q v base tree_q tree_v S before (fin t) t state.fine fact d.from s fine.0.from fine.0.source

      seen_is : (t : Env) → Fact defs q v base S (fin t) t → seen t ≡ found_for rows d (fin t)
      seen_is t fact = ap (λ w. find (λ r. equal_not_null w (part_value r d.to.part)) (rows d.to.table)) (sym (linked t fact).0)

      good : (t : Env) → Fact defs q v base S (fin t) t → (x : RowAt) → seen t ≡ Some x → Good S (d.to.table ∷ S) before ext fin fin' gs rs us state b t x
      good t fact x e =
          let own : found_for rows d (fin t) ≡ Some x = sym (seen_is t fact) ∙ e in
          let is : fin' t ≡ put d.to.table x (fin t) = ap (λ o. option_case (option_map (λ r. put d.to.table r (fin t)) o) (fin t) (λ w. w)) own in
          let all = alone_good S before (fin t) t d s x state.fine fine.0 fact own in
          subst (λ w. Fact defs q v base (d.to.table ∷ S) w t × ((c : ColRef) → has_number S c.table ≡ true → env_value (fin t) c ≡ env_value w c) × Each (λ n. value_at x.values n ≡ env_value w (back_column b n)) b.columns) (sym is)
          (all.0, all.1, Each-of (λ n. value_at x.values n ≡ env_value (put d.to.table x (fin t)) (back_column b n)) all.2 b.columns)

      wider : (m : ℕ) → has_number S m ≡ true → has_number (d.to.table ∷ S) m ≡ true
      wider m h = ap (λ b. (d.to.table == m) || b) h ∙ or-true (d.to.table == m)

      counted : {T : List ℕ} {bs : List Back} {zs : List (List Value)} → Outcome T bs zs (found_after steps fin' (filter (λ t. is_some (seen t)) us)) → Outcome T bs zs (found_after (Alone d s ∷ steps) fin us)
      counted o = record {
        ext = o.ext;
        fin = o.fin;
        gs = o.gs;
        us = o.us;
        state = o.state;
        tuples = λ r. o.tuples r
            ∙ times-filter (λ t. is_some (seen t)) (λ t. option_case (with_rows rows (joins_of steps) (fin' t)) false r) us
            ∙ times_each (λ t. is_some (seen t) && option_case (with_rows rows (joins_of steps) (fin' t)) false r) (λ t. option_case (with_rows rows (d ∷ joins_of steps) (fin t)) false r) us
            (Each-map (λ t. Fact defs q v base S (fin t) t) (λ t. (is_some (seen t) && option_case (with_rows rows (joins_of steps) (fin' t)) false r) ≡ option_case (with_rows rows (d ∷ joins_of steps) (fin t)) false r)
            (λ t fact. ap (λ o. is_some o && option_case (with_rows rows (joins_of steps) (fin' t)) false r) (seen_is t fact) ∙ by r t (found_for rows d (fin t))) us state.facts);
      }
        where
          by : (r : Env → Bool) (t : Env) (o : Option RowAt)
              → (is_some o && option_case (with_rows rows (joins_of steps) (option_case (option_map (λ x. put d.to.table x (fin t)) o) (fin t) (λ e. e))) false r)
              ≡ option_case (option_and_then (with_rows rows (joins_of steps)) (option_map (λ x. put d.to.table x (fin t)) o)) false r
          by r t None = refl
          by r t (Some x) = refl
  run (Common k s ∷ steps) S before ext fin gs rs us fine state =
      subst (λ bs. Outcome (reached S steps) bs (extend_all base (map (λ p. p.column) (layout q v before)) (b ∷ backs_of defs steps) rs) (found_after (Common k s ∷ steps) fin us))
      (append_assoc before (b ∷ []) (backs_of defs steps))
      (subst (λ cs. Outcome (reached S steps) ((before ++ b ∷ []) ++ backs_of defs steps) (extend_all base cs (backs_of defs steps) (filter_map (back_row base (map (λ p. p.column) (layout q v before)) b) rs)) (found_after (Common k s ∷ steps) fin us))
      (sym (columns_more defs q v base tree_q tree_v before b))
      (counted (run steps S (before ++ b ∷ []) (ext' S S before ext fin fin gs rs us state b) fin (filter (λ g. is_some (find (meets_back b (exact_value (map (λ p. p.column) (layout q v before)) (ext (first g)) b.source)) (rows b.table))) gs)
      (filter_map (back_row base (map (λ p. p.column) (layout q v before)) b) rs) (filter (λ t. is_some (seen t)) us) fine.1
      (step_state S S before ext fin fin gs rs us state b (λ t fact. (linked t fact).1) good (λ m h. h) (state.fine.theirs k.table fine.0.theirs)))))
    where
      b : Back
      b = back_of defs (Common k s)

      seen : Env → Option RowAt
      seen t = find (meets_back b (env_value (fin t) b.source)) (rows b.table)

      linked : (t : Env) → Fact defs q v base S (fin t) t → (env_value (fin t) k ≡ env_value (fin t) s) × (list_any (λ p. is_exactly s p.column) (layout q v before) ≡ true)
      linked t fact = source_linked defs q v base tree_q tree_v S before (fin t) t state.fine fact k s (state.fine.theirs k.table fine.0.theirs) fine.0.source

      -- the row found is the tuple's own
      seen_is : (t : Env) → Fact defs q v base S (fin t) t → seen t ≡ Some (t k.table)
      seen_is t fact =
          ap (λ w. find (λ r. equal_not_null w (part_value r k.part)) (rows k.table)) (sym (linked t fact).0 ∙ ap (λ x. part_value x k.part) (fact.same k.table fine.0.theirs))
          ∙ fact.tuple.own k fine.0.theirs fine.0.keyed (fine.0.there t fact.tuple)

      good : (t : Env) → Fact defs q v base S (fin t) t → (x : RowAt) → seen t ≡ Some x → Good S S before ext fin fin gs rs us state b t x
      good t fact x e =
          let is : x ≡ fin t k.table = same_Some x (t k.table) (sym e ∙ seen_is t fact) ∙ sym (fact.same k.table fine.0.theirs) in
          (fact, (λ c h. refl), Each-of (λ n. value_at x.values n ≡ env_value (fin t) (back_column b n)) (λ n. ap (λ y. value_at y.values n) is) b.columns)

      counted : {T : List ℕ} {bs : List Back} {zs : List (List Value)} → Outcome T bs zs (found_after steps fin (filter (λ t. is_some (seen t)) us)) → Outcome T bs zs (found_after (Common k s ∷ steps) fin us)
      counted o = record {
        ext = o.ext;
        fin = o.fin;
        gs = o.gs;
        us = o.us;
        state = o.state;
        tuples = λ r. o.tuples r
            ∙ times-filter (λ t. is_some (seen t)) (λ t. option_case (with_rows rows (joins_of steps) (fin t)) false r) us
            ∙ times_each (λ t. is_some (seen t) && option_case (with_rows rows (joins_of steps) (fin t)) false r) (λ t. option_case (with_rows rows (joins_of steps) (fin t)) false r) us
            (Each-map (λ t. Fact defs q v base S (fin t) t) (λ t. (is_some (seen t) && option_case (with_rows rows (joins_of steps) (fin t)) false r) ≡ option_case (with_rows rows (joins_of steps) (fin t)) false r)
            (λ t fact. ap (λ o. is_some o && option_case (with_rows rows (joins_of steps) (fin t)) false r) (seen_is t fact)) us state.facts);
      }
  run (ByLevel d l s ∷ steps) S before ext fin gs rs us fine state =
      subst (λ bs. Outcome (reached S steps) bs (extend_all base (map (λ p. p.column) (layout q v before)) (b ∷ backs_of defs steps) rs) (found_after (ByLevel d l s ∷ steps) fin us))
      (append_assoc before (b ∷ []) (backs_of defs steps))
      (subst (λ cs. Outcome (reached S steps) ((before ++ b ∷ []) ++ backs_of defs steps) (extend_all base cs (backs_of defs steps) (filter_map (back_row base (map (λ p. p.column) (layout q v before)) b) rs)) (found_after (ByLevel d l s ∷ steps) fin us))
      (sym (columns_more defs q v base tree_q tree_v before b))
      (counted (run steps S (before ++ b ∷ []) (ext' S S before ext fin fin gs rs us state b) fin (filter (λ g. is_some (find (meets_back b (exact_value (map (λ p. p.column) (layout q v before)) (ext (first g)) b.source)) (rows b.table))) gs)
      (filter_map (back_row base (map (λ p. p.column) (layout q v before)) b) rs) (filter (λ t. is_some (seen t)) us) fine.1
      (step_state S S before ext fin fin gs rs us state b (λ t fact. (linked t fact).1) good (λ m h. h) (state.fine.theirs l.column.table fine.0.theirs)))))
    where
      b : Back
      b = back_of defs (ByLevel d l s)

      seen : Env → Option RowAt
      seen t = find (meets_back b (env_value (fin t) b.source)) (rows b.table)

      linked : (t : Env) → Fact defs q v base S (fin t) t → (env_value (fin t) l.column ≡ env_value (fin t) s) × (list_any (λ p. is_exactly s p.column) (layout q v before) ≡ true)
      linked t fact = source_linked defs q v base tree_q tree_v S before (fin t) t state.fine fact l.column s (state.fine.theirs l.column.table fine.0.theirs) fine.0.source

      -- the tuple's own row has the value
      value_is : (t : Env) → Fact defs q v base S (fin t) t → env_value (fin t) s ≡ part_value (t l.column.table) l.column.part
      value_is t fact = sym (linked t fact).0 ∙ ap (λ y. part_value y l.column.part) (fact.same l.column.table fine.0.theirs)

      same_itself : (w u : Value) → w ≡ u → same_value w u ≡ true
      same_itself w u e = (same_value-Decides w u).1 e

      seen_there : (t : Env) → Fact defs q v base S (fin t) t → is_some (seen t) ≡ true
      seen_there t fact =
          found_some (meets_back b (env_value (fin t) s)) (rows l.column.table)
          (any_of (meets_back b (env_value (fin t) s)) (rows l.column.table) (t l.column.table) (fact.tuple.among l.column.table fine.0.theirs)
          (same_itself (env_value (fin t) s) (part_value (t l.column.table) l.column.part) (value_is t fact)))

      -- the row found agrees with the tuple's own
      agrees : (t : Env) → Fact defs q v base S (fin t) t → (x : RowAt) → seen t ≡ Some x → values_agree (row_value x) (row_value (t l.column.table)) (determined d l.column) ≡ true
      agrees t fact x e =
          let said : list_all (λ r. not (same_value (row_value x l.column) (row_value r l.column)) || values_agree (row_value x) (row_value r) (determined d l.column)) (rows l.column.table) ≡ true
          = (find_gives (meets_back b (env_value (fin t) s))
          (λ y. list_all (λ r. not (same_value (row_value y l.column) (row_value r l.column)) || values_agree (row_value y) (row_value r) (determined d l.column)) (rows l.column.table) ≡ true) (rows l.column.table) x
          (Each-from_all (λ y. list_all (λ r. not (same_value (row_value y l.column) (row_value r l.column)) || values_agree (row_value y) (row_value r) (determined d l.column)) (rows l.column.table)) (rows l.column.table) fine.0.agrees) e).0 in
          let has : env_value (fin t) s ≡ part_value x l.column.part = (same_value-Decides (env_value (fin t) s) (part_value x l.column.part)).0 (find_passes (meets_back b (env_value (fin t) s)) (rows l.column.table) x e) in
          let level : same_value (row_value x l.column) (row_value (t l.column.table) l.column) ≡ true = same_itself (row_value x l.column) (row_value (t l.column.table) l.column) (sym has ∙ value_is t fact) in
          sym (ap (λ c. not c || values_agree (row_value x) (row_value (t l.column.table)) (determined d l.column)) level)
          ∙ fact.tuple.among l.column.table fine.0.theirs (λ r. not (same_value (row_value x l.column) (row_value r l.column)) || values_agree (row_value x) (row_value r) (determined d l.column)) said

      good : (t : Env) → Fact defs q v base S (fin t) t → (x : RowAt) → seen t ≡ Some x → Good S S before ext fin fin gs rs us state b t x
      good t fact x e = (
        fact,
        (λ c h. refl),
        Each-map (λ n. value_at x.values n ≡ value_at (t l.column.table).values n) (λ n. value_at x.values n ≡ env_value (fin t) (back_column b n))
            (λ n h. h ∙ ap (λ y. value_at y.values n) (sym (fact.same l.column.table fine.0.theirs))) b.columns
            (Each-distinct nat_eq (λ n. value_at x.values n ≡ value_at (t l.column.table).values n) [] (flat_map declared_place (determined d l.column))
            (places_agree x (t l.column.table) (determined d l.column) (agrees t fact x e))),
      )

      counted : {T : List ℕ} {bs : List Back} {zs : List (List Value)} → Outcome T bs zs (found_after steps fin (filter (λ t. is_some (seen t)) us)) → Outcome T bs zs (found_after (ByLevel d l s ∷ steps) fin us)
      counted o = record {
        ext = o.ext;
        fin = o.fin;
        gs = o.gs;
        us = o.us;
        state = o.state;
        tuples = λ r. o.tuples r
            ∙ times-filter (λ t. is_some (seen t)) (λ t. option_case (with_rows rows (joins_of steps) (fin t)) false r) us
            ∙ times_each (λ t. is_some (seen t) && option_case (with_rows rows (joins_of steps) (fin t)) false r) (λ t. option_case (with_rows rows (joins_of steps) (fin t)) false r) us
            (Each-map (λ t. Fact defs q v base S (fin t) t) (λ t. (is_some (seen t) && option_case (with_rows rows (joins_of steps) (fin t)) false r) ≡ option_case (with_rows rows (joins_of steps) (fin t)) false r)
            (λ t fact. ap (λ c. c && option_case (with_rows rows (joins_of steps) (fin t)) false r) (seen_there t fact)) us state.facts);
      }
