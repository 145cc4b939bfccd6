-- Columns that joins link have one value, where the two columns of each join have; and where that is known of some tables alone, among these.
use Rattle.std.proofs.Common.{◌≡◌, ◌∙◌, sym, ap, refl, ℕ, zero, suc, Bool, true, false, cond, not, List, [], ◌∷◌, ◌++◌, length}
use Rattle.std.specs.Prelude.{◌&&◌, ◌||◌, ◌==◌}
use Rattle.std.specs.List.{list_all}
use Rattle.std.proofs.lemmas.Bool.{eq-eqb, eqb-true, and_parts}
use Rattle.wh_base.specs.Columns.{has_column}
use Rattle.wh_base.specs.Lists.{has_number}
use Rattle.wh_base.specs.Values.{is_null, same_value}
use Rattle.wh_base.proofs.Same.{same_value-Decides}
use Rattle.wh_base.specs.declared.columns.ColRef.{ColRef}
use Rattle.wh_base.specs.declared.queries.Edge.{Edge}
use Rattle.wh_base.specs.declared.tables.TableDef.{TableDef}
use Rattle.wh_base.specs.declared.values.Value.{Value}
use Rattle.def_meaning.specs.Joined.{edge_true}
use Rattle.def_meaning.specs.Ranges.{equal_columns, other_end, spread, spread_times}
use Rattle.def_resolve.specs.Star.{leads_outwards}
use Rattle.law_lists.proofs.Each.{Each-append, Each-map}
use Rattle.law_lists.proofs.Numbers.{differs_turned}
use Rattle.law_rewrite.specs.Words.{Each}
use Rattle.law_rewrite.proofs.Placing.{of_has}
use Rattle.law_rewrite.proofs.Joins.{first_leads, has_append, has_first, has_itself, has_second, listed_differs}

-- the two columns of a join have one value
abbrev pub Level : (ColRef → Value) → Edge → Type 0
Level f e = f e.from ≡ f e.to

pub true_level : (f : ColRef → Value) (e : Edge) → edge_true f e ≡ true → Level f e
true_level f e h = (same_value-Decides (f e.from) (f e.to)).0 (and_parts (not (is_null (f e.from))) (same_value (f e.from) (f e.to)) h).1

pub all_level : (f : ColRef → Value) (es : List Edge) → list_all (edge_true f) es ≡ true → Each (Level f) es
all_level f [] h = tt
all_level f (e ∷ es) h = let both : (edge_true f e ≡ true) × (list_all (edge_true f) es ≡ true) = and_parts (edge_true f e) (list_all (edge_true f) es) h in (true_level f e both.0, all_level f es both.1)

module _ (f : ColRef → Value) (w : Value) where
  other_level : (columns : List ColRef) (e : Edge) → Level f e → Each (λ c. f c ≡ w) columns → Each (λ c. f c ≡ w) (other_end columns e)
  other_level columns e h k = by (has_column columns e.from) (has_column columns e.to) refl refl
    where
      by : (a b : Bool) → has_column columns e.from ≡ a → has_column columns e.to ≡ b → Each (λ c. f c ≡ w) (cond (a && not b) (e.to ∷ []) (cond (b && not a) (e.from ∷ []) []))
      by true true m g = tt
      by true false m g = (sym h ∙ of_has (λ c. f c ≡ w) columns e.from k m, tt)
      by false true m g = (h ∙ of_has (λ c. f c ≡ w) columns e.to k g, tt)
      by false false m g = tt

  spread_level : (edges : List Edge) (columns : List ColRef) → Each (Level f) edges → Each (λ c. f c ≡ w) columns → Each (λ c. f c ≡ w) (spread edges columns)
  spread_level [] columns h k = k
  spread_level (e ∷ edges) columns h k = spread_level edges (columns ++ other_end columns e) h.1 (Each-append (λ c. f c ≡ w) columns (other_end columns e) k (other_level columns e h.0 k))

  times_level : (n : ℕ) (edges : List Edge) (columns : List ColRef) → Each (Level f) edges → Each (λ c. f c ≡ w) columns → Each (λ c. f c ≡ w) (spread_times n edges columns)
  times_level zero edges columns h k = k
  times_level (suc n) edges columns h k = times_level n edges (spread edges columns) h (spread_level edges columns h k)

pub linked_by : (f : ColRef → Value) (edges : List Edge) → Each (Level f) edges → (c d : ColRef) → has_column (equal_columns edges c) d ≡ true → f d ≡ f c
linked_by f edges h c d k = of_has (λ x. f x ≡ f c) (equal_columns edges c) d (times_level f (f c) (length edges) edges (c ∷ []) h (refl, tt)) k

-- ---- among some tables

-- all columns of the table that the join reaches with the value that it starts at
abbrev bend : Edge → (ColRef → Value) → ColRef → Value
bend e f c = cond (e.to.table == c.table) (f e.from) (f c)

module _ (defs : List TableDef) (within : ℕ → Bool) where
  -- a join to a table of these is level and starts at one of these
  abbrev pub Sound : (ColRef → Value) → Edge → Type 0
  Sound f e = within e.to.table ≡ true → (within e.from.table ≡ true) × Level f e

  bent : List Edge → (ColRef → Value) → ColRef → Value
  bent [] f = f
  bent (e ∷ es) f = bent es (cond (within e.to.table) f (bend e f))

  bend_apart : (e : Edge) (f : ColRef → Value) (c : ColRef) → (e.to.table == c.table) ≡ false → bend e f c ≡ f c
  bend_apart e f c h = ap (λ b. cond b (f e.from) (f c)) h

  abbrev Past : List ℕ → ColRef → Type 0
  Past listed c = has_number listed c.table ≡ true

  -- nothing that is listed or of these tables changes
  bent_keeps : (listed : List ℕ) (es : List Edge) (f : ColRef → Value) (c : ColRef) → leads_outwards defs listed es ≡ true → (b : Bool) → within c.table ≡ b → (b ≡ false → Past listed c) → bent es f c ≡ f c
  unfolding bent
  bent_keeps listed [] f c leads b e h = refl
  bent_keeps listed (d ∷ es) f c leads b e h =
      bent_keeps (listed ++ d.to.table ∷ []) es (cond (within d.to.table) f (bend d f)) c first.2 b e (λ k. has_first listed (d.to.table ∷ []) c.table (h k))
      ∙ by (within d.to.table) b refl e h
    where
      first : (has_number listed d.from.table ≡ true) × (has_number listed d.to.table ≡ false) × (leads_outwards defs (listed ++ d.to.table ∷ []) es ≡ true)
      first = first_leads defs listed d es leads

      apart : within d.to.table ≡ false → within c.table ≡ true → (b : Bool) → (d.to.table == c.table) ≡ b → b ≡ false
      apart g k true e = sym k ∙ sym (ap within (eqb-true d.to.table c.table e)) ∙ g
      apart g k false e = refl

      by : (a b : Bool) → within d.to.table ≡ a → within c.table ≡ b → (b ≡ false → Past listed c) → cond a f (bend d f) c ≡ f c
      by true b g k l = refl
      by false true g k l = bend_apart d f c (apart g k (d.to.table == c.table) refl)
      by false false g k l = bend_apart d f c (differs_turned c.table d.to.table (listed_differs listed c.table d.to.table (l refl) first.1))

  bent_sound : (listed : List ℕ) (es : List Edge) (f : ColRef → Value) → leads_outwards defs listed es ≡ true → Each (Sound f) es → Each (Level (bent es f)) es
  unfolding bent
  bent_sound listed [] f leads h = tt
  bent_sound listed (d ∷ es) f leads h = (
    here (within d.to.table) refl,
    bent_sound (listed ++ d.to.table ∷ []) es (cond (within d.to.table) f (bend d f)) (first_leads defs listed d es leads).2
        (Each-map (Sound f) (Sound (cond (within d.to.table) f (bend d f))) (λ e k m. let both : (within e.from.table ≡ true) × Level f e = k m in
        (both.0, still (within d.to.table) refl e.from both.0 ∙ both.1 ∙ sym (still (within d.to.table) refl e.to m))) es h.1),
  )
    where
      first : (has_number listed d.from.table ≡ true) × (has_number listed d.to.table ≡ false) × (leads_outwards defs (listed ++ d.to.table ∷ []) es ≡ true)
      first = first_leads defs listed d es leads

      itself : (b : Bool) (x y : Value) → b ≡ true → cond b x y ≡ x
      itself true x y e = refl
      itself false x y e = cc

      still : (a : Bool) → within d.to.table ≡ a → (c : ColRef) → within c.table ≡ true → cond a f (bend d f) c ≡ f c
      still true g c k = refl
      still false g c k = bend_apart d f c (apart (d.to.table == c.table) refl)
        where
          apart : (b : Bool) → (d.to.table == c.table) ≡ b → b ≡ false
          apart true e = sym k ∙ sym (ap within (eqb-true d.to.table c.table e)) ∙ g
          apart false e = refl

      level : (a : Bool) → within d.to.table ≡ a → cond a f (bend d f) d.from ≡ cond a f (bend d f) d.to
      level true g = (h.0 g).1
      level false g =
          bend_apart d f d.from (differs_turned d.from.table d.to.table (listed_differs listed d.from.table d.to.table first.0 first.1))
          ∙ sym (itself (d.to.table == d.to.table) (f d.from) (f d.to) (eq-eqb d.to.table d.to.table refl))

      here : (a : Bool) → within d.to.table ≡ a → Level (bent es (cond a f (bend d f))) d
      here a g =
          bent_keeps (listed ++ d.to.table ∷ []) es (cond a f (bend d f)) d.from first.2 (within d.from.table) refl
          (λ k. has_append listed (d.to.table ∷ []) d.from.table ∙ ap (λ b. b || has_number (d.to.table ∷ []) d.from.table) first.0)
          ∙ level a g
          ∙ sym (bent_keeps (listed ++ d.to.table ∷ []) es (cond a f (bend d f)) d.to first.2 (within d.to.table) refl (λ k. has_second listed (d.to.table ∷ []) d.to.table (has_itself d.to.table [])))

  -- **columns of these tables that the joins link have one value**
  pub linked_within : (listed : List ℕ) (es : List Edge) (f : ColRef → Value) → leads_outwards defs listed es ≡ true → Each (Sound f) es
      → (c d : ColRef) → within c.table ≡ true → within d.table ≡ true → has_column (equal_columns es c) d ≡ true → f d ≡ f c
  linked_within listed es f leads h c d k l m =
      sym (bent_keeps listed es f d leads true l (λ e. cc))
      ∙ linked_by (bent es f) es (bent_sound listed es f leads h) c d m
      ∙ bent_keeps listed es f c leads true k (λ e. cc)
