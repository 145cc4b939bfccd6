-- Joining back by keys, one table after another: the rows go on to stand for groups of the view's tuples, and have the values of
-- the tuples with the rows found.
use Rattle.std.proofs.Common.{◌≡◌, ◌∙◌, sym, ap, subst, refl, ℕ, Bool, true, false, cond, List, [], ◌∷◌, ◌++◌, map, Option, Some, None, inl, inr}
use Rattle.std.specs.Prelude.{◌&&◌, ◌||◌, find}
use Rattle.std.specs.List.{flat_map, list_all, list_any}
use Rattle.std.proofs.lemmas.Bool.{eq-eqb}
use Rattle.std.proofs.lemmas.List.{append_assoc, append-nil, map-append}
use Rattle.wh_base.specs.Columns.{has_column, same_column}
use Rattle.wh_base.specs.Lists.{has_number}
use Rattle.wh_base.specs.Tables.{Base, never_null}
use Rattle.wh_base.specs.Values.{equal_not_null}
use Rattle.wh_base.specs.declared.columns.ColRef.{ColRef}
use Rattle.wh_base.specs.declared.queries.Edge.{Edge}
use Rattle.wh_base.specs.declared.queries.StarQuery.{StarQuery}
use Rattle.wh_base.specs.declared.tables.RowAt.{RowAt}
use Rattle.wh_base.specs.declared.tables.TableDef.{TableDef}
use Rattle.wh_base.specs.declared.views.Back.{Back}
use Rattle.def_dimensions.specs.Dimensions.{DimLevel, Dimension}
use Rattle.def_dimensions.specs.Relations.{determined, level_agrees}
use Rattle.def_meaning.specs.Joined.{edge_true, part_value, rows_at}
use Rattle.def_meaning.specs.Meaning.{not_null}
use Rattle.def_resolve.specs.Star.{IsTreeFrom}
use Rattle.def_rewriting.specs.Compatible.{join_into}
use Rattle.def_rewriting.specs.PlanRows.{gained_columns}
use Rattle.def_rewriting.specs.Reaching.{Place, back_by_key, back_by_level, back_layout, is_declared, layout, source_of, stands_at, view_layout}
use Rattle.law_lists.proofs.Each.{Each-both, Each-append, Each-map}
use Rattle.wh_base.proofs.SameItems.{same_part-Decides}
use Rattle.law_rewrite.specs.Words.{Each}
use Rattle.law_rewrite.proofs.Envs.{Env, env_value}
use Rattle.law_rewrite.proofs.Finding.{AtMost}
use Rattle.law_rewrite.proofs.Tuples.{EndsIn, ends_in}
use Rattle.law_rewrite.proofs.Linking.{Level, Sound, all_level, linked_by, linked_within}
use Rattle.law_rewrite.proofs.Cells.{ColumnIn, LinksFor, PlaceFor, back_columns, back_places, back_within, found_column, found_exactly, is_exactly, source_gives}
pub use Rattle.law_rewrite.specs.Fine.{Numbers, may_be_number}

-- a table joined back: one of the query alone, by its join, or one of both, by a key of its own or by a level; each with its source
pub data Step : Type 0 where
  Alone : Edge → ColRef → Step
  Common : ColRef → ColRef → Step
  ByLevel : Dimension → DimLevel → ColRef → Step

abbrev pub back_of : List TableDef → Step → Back
back_of defs (Alone d s) = back_by_key defs d.to.table d.to s
back_of defs (Common k s) = back_by_key defs k.table k s
back_of defs (ByLevel d l s) = back_by_level d l s

abbrev pub backs_of : List TableDef → List Step → List Back
backs_of defs steps = map (back_of defs) steps

-- the joins to tables of the query alone
abbrev pub joins_of : List Step → List Edge
joins_of [] = []
joins_of (Alone d s ∷ steps) = d ∷ joins_of steps
joins_of (Common k s ∷ steps) = joins_of steps
joins_of (ByLevel d l s ∷ steps) = joins_of steps

module _ (defs : List TableDef) (q v : StarQuery) (base : Base) where
  abbrev rows : ℕ → List RowAt
  rows = rows_at base

  -- what is so of each tuple of the view
  pub record TupleFact (t : Env) : Type 0 where
    pub joins : list_all (edge_true (env_value t)) v.edges ≡ true
    -- a key that isn't NULL finds the tuple's own row
    pub own : (c : ColRef) → has_number v.tables c.table ≡ true → AtMost rows c → not_null (env_value t c) ≡ true → find (λ r. equal_not_null (env_value t c) (part_value r c.part)) (rows c.table) ≡ Some (t c.table)
    pub sure : (c : ColRef) → has_number v.tables c.table ≡ true → never_null defs c ≡ true → not_null (env_value t c) ≡ true
    pub numbers : (c : ColRef) → has_number v.tables c.table ≡ true → Numbers rows c → may_be_number (env_value t c) ≡ true
    -- its rows are among those of the tables
    pub among : (m : ℕ) → has_number v.tables m ≡ true → (p : RowAt → Bool) → list_all p (rows m) ≡ true → p (t m) ≡ true

  -- a table of the query alone, once these tables are there
  pub record AloneFine (S : List ℕ) (before : List Back) (d : Edge) (s : ColRef) : Type 0 where
    pub own : join_into q d.to.table ≡ Some d
    pub new : has_number S d.to.table ≡ false
    pub from : has_number S d.from.table ≡ true
    pub source : source_of q v before d.from ≡ Some s

  pub record CommonFine (before : List Back) (k s : ColRef) : Type 0 where
    pub theirs : has_number v.tables k.table ≡ true
    pub source : source_of q v before k ≡ Some s
    pub keyed : AtMost rows k
    pub there : (t : Env) → TupleFact t → not_null (env_value t k) ≡ true

  pub record LevelFine (before : List Back) (d : Dimension) (l : DimLevel) (s : ColRef) : Type 0 where
    pub theirs : has_number v.tables l.column.table ≡ true
    pub source : source_of q v before l.column ≡ Some s
    pub agrees : level_agrees (rows l.column.table) l.column (determined d l.column) ≡ true

  abbrev pub StepsFine : List ℕ → List Back → List Step → Type 0
  StepsFine S before [] = Unit {0}
  StepsFine S before (Alone d s ∷ steps) = AloneFine S before d s × StepsFine (d.to.table ∷ S) (before ++ back_of defs (Alone d s) ∷ []) steps
  StepsFine S before (Common k s ∷ steps) = CommonFine before k s × StepsFine S (before ++ back_of defs (Common k s) ∷ []) steps
  StepsFine S before (ByLevel d l s ∷ steps) = LevelFine before d l s × StepsFine S (before ++ back_of defs (ByLevel d l s) ∷ []) steps

  -- what is so of a tuple of the view, and of the tuple with what was found so far
  pub record Fact (S : List ℕ) (w t : Env) : Type 0 where
    pub tuple : TupleFact t
    pub same : (m : ℕ) → has_number v.tables m ≡ true → w m ≡ t m
    pub sound : Each (Sound defs (has_number S) (env_value w)) q.edges

  -- what is so of the layout so far
  pub record LayoutFine (S : List ℕ) (before : List Back) : Type 0 where
    pub theirs : (m : ℕ) → has_number v.tables m ≡ true → has_number S m ≡ true
    pub within : Each (λ p. ColumnIn (has_number S) p.column) (layout q v before)
    pub places : Each (λ p. PlaceFor q v p.column p.equals) (layout q v before)

  module _ (tree_q : IsTreeFrom defs q.root q.tables q.edges) (tree_v : IsTreeFrom defs v.root v.tables v.edges) where
    -- the view's joins hold with what was found
    pub still_level : (S : List ℕ) (w t : Env) → Fact S w t → Each (Level (env_value w)) v.edges
    still_level S w t fact = each v.edges (ends_in defs v tree_v) (all_level (env_value t) v.edges fact.tuple.joins)
      where
        each : (es : List Edge) → Each (EndsIn v.tables) es → Each (Level (env_value t)) es → Each (Level (env_value w)) es
        each [] h k = tt
        each (e ∷ es) h k =
            ((λ i. part_value (fact.same e.from.table h.0.0 i) e.from.part) ∙ k.0 ∙ (λ i. part_value (sym (fact.same e.to.table h.0.1) i) e.to.part), each es h.1 k.1)

    -- what stands at a place has the value of its column
    pub links : (S : List ℕ) (before : List Back) (w t : Env) → LayoutFine S before → Fact S w t
        → Each (λ p. LinksFor (env_value w) (has_number S) p.column p.equals) (layout q v before)
    links S before w t fine fact =
        Each-map (λ p. ColumnIn (has_number S) p.column × PlaceFor q v p.column p.equals) (λ p. LinksFor (env_value w) (has_number S) p.column p.equals)
        (λ p h. one p.column p.equals h.0 h.1) (layout q v before)
        (Each-both (λ p. ColumnIn (has_number S) p.column) (λ p. PlaceFor q v p.column p.equals) (layout q v before) fine.within fine.places)
      where
        nothing_has : (c : ColRef) → has_column [] c ≡ true → ⊥
        nothing_has c h = absurd (let e : false ≡ true = h in cc)

        one : (o : Option ColRef) (equals : List ColRef) → ColumnIn (has_number S) o → PlaceFor q v o equals → LinksFor (env_value w) (has_number S) o equals
        one None equals h k = λ c l. nothing_has c (ap (λ cs. has_column cs c) (sym k) ∙ l)
        one (Some d) equals h (inl k) = λ c own l. linked_by (env_value w) v.edges (still_level S w t fact) d c (ap (λ cs. has_column cs c) (sym k) ∙ l)
        one (Some d) equals h (inr k) = λ c own l. linked_within defs (has_number S) (q.root ∷ []) q.edges (env_value w) tree_q.1 fact.sound d c h own (ap (λ cs. has_column cs c) (sym k) ∙ l)

    -- ---- sources

    has_self : (c : ColRef) → same_column c c ≡ true
    has_self c = λ i. eq-eqb c.table c.table refl i && (same_part-Decides c.part c.part).1 refl i

    abbrev Available : List Place → ColRef → ColRef → Type 0
    Available places c s = found_column (stands_at c) places ≡ Some s

    -- the places in which a source was looked for are those of the layout or the first of them
    pub source_linked : (S : List ℕ) (before : List Back) (w t : Env) → LayoutFine S before → Fact S w t → (c s : ColRef) → has_number S c.table ≡ true → source_of q v before c ≡ Some s
        → (env_value w c ≡ env_value w s) × (list_any (λ p. is_exactly s p.column) (layout q v before) ≡ true)
    source_linked S before w t fine fact c s own h = by (is_declared c.part) h
      where
        all : Each (λ p. LinksFor (env_value w) (has_number S) p.column p.equals) (layout q v before)
        all = links S before w t fine fact

        value_by : (places : List Place) → Each (λ p. LinksFor (env_value w) (has_number S) p.column p.equals) places → found_column (stands_at c) places ≡ Some s → env_value w c ≡ env_value w s
        value_by places k e =
            let found : (x : Place) × (LinksFor (env_value w) (has_number S) x.column x.equals × (stands_at c x ≡ true) × (x.column ≡ Some s))
            = source_gives (stands_at c) (λ p. LinksFor (env_value w) (has_number S) p.column p.equals) places s k e in
            subst (λ o. LinksFor (env_value w) (has_number S) o found.0.equals) found.1.2 found.1.0 c own found.1.1

        front : {A : Type 0} (P : A → Type 0) (xs ys : List A) → Each P (xs ++ ys) → Each P xs
        front P [] ys k = tt
        front P (x ∷ xs) ys k = (k.0, front P xs ys k.1)

        any_front : {A : Type 0} (p : A → Bool) (xs ys : List A) → list_any p xs ≡ true → list_any p (xs ++ ys) ≡ true
        any_front p [] ys k = cc
        any_front p (x ∷ xs) ys k = by (p x) k (any_front p xs ys)
          where
            by : (b : Bool) → (b || list_any p xs) ≡ true → (list_any p xs ≡ true → list_any p (xs ++ ys) ≡ true) → (b || list_any p (xs ++ ys)) ≡ true
            by true k l = refl
            by false k l = l k

        by : (b : Bool) → found_column (stands_at c) (cond b (layout q v before) (view_layout v)) ≡ Some s
            → (env_value w c ≡ env_value w s) × (list_any (λ p. is_exactly s p.column) (layout q v before) ≡ true)
        by true e = (value_by (layout q v before) all e, found_exactly (stands_at c) (layout q v before) s (has_self s) e)
        by false e = (
          value_by (view_layout v) (front (λ p. LinksFor (env_value w) (has_number S) p.column p.equals) (view_layout v) (flat_map (back_layout q) before) all) e,
          any_front (λ p. is_exactly s p.column) (view_layout v) (flat_map (back_layout q) before) (found_exactly (stands_at c) (view_layout v) s (has_self s) e),
        )

    -- ---- the layout with one table more

    pub layout_more : (before : List Back) (b : Back) → layout q v (before ++ b ∷ []) ≡ layout q v before ++ back_layout q b
    layout_more before b = ap (λ xs. view_layout v ++ xs) (flat before) ∙ sym (append_assoc (view_layout v) (flat_map (back_layout q) before) (back_layout q b))
      where
        flat : (bs : List Back) → flat_map (back_layout q) (bs ++ b ∷ []) ≡ flat_map (back_layout q) bs ++ back_layout q b
        flat [] = append-nil (back_layout q b)
        flat (c ∷ bs) = ap (λ xs. back_layout q c ++ xs) (flat bs) ∙ sym (append_assoc (back_layout q c) (flat_map (back_layout q) bs) (back_layout q b))

    pub fine_more : (S S' : List ℕ) (before : List Back) (b : Back) → ((m : ℕ) → has_number S m ≡ true → has_number S' m ≡ true) → has_number S' b.table ≡ true → LayoutFine S before → LayoutFine S' (before ++ b ∷ [])
    fine_more S S' before b more there fine = record {
      theirs = λ m h. more m (fine.theirs m h);
      within = subst (Each (λ p. ColumnIn (has_number S') p.column)) (sym (layout_more before b))
          (Each-append (λ p. ColumnIn (has_number S') p.column) (layout q v before) (back_layout q b)
          (Each-map (λ p. ColumnIn (has_number S) p.column) (λ p. ColumnIn (has_number S') p.column) (λ p. wider p.column) (layout q v before) fine.within) (back_within q b (has_number S') there));
      places = subst (Each (λ p. PlaceFor q v p.column p.equals)) (sym (layout_more before b))
          (Each-append (λ p. PlaceFor q v p.column p.equals) (layout q v before) (back_layout q b) fine.places (back_places q v b));
    }
      where
        wider : (o : Option ColRef) → ColumnIn (has_number S) o → ColumnIn (has_number S') o
        wider None h = tt
        wider (Some d) h = more d.table h

    pub columns_more : (before : List Back) (b : Back) → map (λ p. p.column) (layout q v before) ++ gained_columns b ≡ map (λ p. p.column) (layout q v (before ++ b ∷ []))
    columns_more before b =
        ap (λ xs. map (λ p. p.column) (layout q v before) ++ xs) (back_columns q b) ∙ sym (map-append (λ (p : Place). p.column) (layout q v before) (back_layout q b))
        ∙ ap (map (λ (p : Place). p.column)) (sym (layout_more before b))
