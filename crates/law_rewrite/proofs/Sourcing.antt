-- An aggregate that is computable has an origin of its kind, and the row of each group serves it.
use Rattle.std.proofs.Common.{◌≡◌, ◌∙◌, sym, ap, refl, ℕ, suc, ◌⊎◌, inl, inr, Bool, true, false, cond, List, [], ◌∷◌, length, Option, Some, None}
use Rattle.std.specs.Prelude.{◌&&◌, is_some, option_map, pos}
use Rattle.std.proofs.Math.IntN.{*ℤ_comm}
use Rattle.std.proofs.lemmas.Bool.Decides.{Decides-int_eq}
use Rattle.std.proofs.lemmas.List.{length-map}
use Rattle.std.proofs.lemmas.Bool.{and_parts, or_cases}
use Rattle.wh_base.specs.Columns.{same_agg_by}
use Rattle.wh_base.specs.Lists.{first_some}
use Rattle.wh_base.specs.Tables.{value_at}
use Rattle.wh_base.specs.Values.{product_value}
use Rattle.wh_base.specs.declared.values.Value.{Value}
use Rattle.wh_base.specs.declared.values.Value.TheVariants.{Null, Num}
use Rattle.wh_base.specs.declared.columns.Agg.{Agg}
use Rattle.wh_base.specs.declared.columns.Agg.TheVariants.{Avg, Count, CountAll, Max, Min, Sum}
use Rattle.wh_base.specs.declared.columns.ColRef.{ColRef}
use Rattle.wh_base.specs.declared.columns.Expr.{Expr}
use Rattle.wh_base.specs.declared.columns.Expr.TheVariants as expr
use Rattle.wh_base.specs.declared.queries.Item.{Item}
use Rattle.wh_base.specs.declared.queries.Item.TheVariants as item
use Rattle.wh_base.specs.declared.queries.StarQuery.{StarQuery}
use Rattle.wh_base.specs.declared.tables.TableDef.{TableDef}
use Rattle.def_meaning.specs.Meaning.{Grouped, agg_value, count_value, expr_value, group_item, not_null, sum_value, avg_value, min_value, max_value, values_of}
use Rattle.def_rewriting.specs.Rollup.{Origin, SumsOf, CountsOf, AveragesOf, LeastOf, GreatestOf, agg_place, both_places, counts_all, equal_expr, item_is_agg, origin}
use Rattle.law_lists.proofs.Each.{Each-of}
use Rattle.law_lists.proofs.Columns.{position_value}
use Rattle.law_lists.proofs.Aggregates.{wanted_values}
use Rattle.law_rewrite.specs.Words.{Each}
use Rattle.law_rewrite.proofs.Rolling.{Serves, Suits}
use Rattle.law_rewrite.proofs.Fresh.{group_row}
pub use Rattle.law_rewrite.specs.Words.{Sure, SureAgg}

product_comm : (v w : Value) → product_value v w ≡ product_value w v
product_comm (Num m) (Num n) = ap Num (*ℤ_comm m n)
product_comm (Num m) w = refl
product_comm v (Num n) = refl
product_comm v w = refl

module _ {T : Type 0} (value : T → ColRef → Value) (eq : ColRef → ColRef → Bool) where
  -- columns that count as one have one value in each tuple
  abbrev pub One : T → Type 0
  One t = (c d : ColRef) → eq c d ≡ true → value t c ≡ value t d

  expr_one : (t : T) → One t → (e f : Expr) → equal_expr eq e f ≡ true → expr_value (value t) e ≡ expr_value (value t) f
  expr_one t one (expr.Col c) (expr.Col d) h = one c d h
  expr_one t one (expr.Product a b) (expr.Product c d) h = by (or_cases (eq a c && eq b d) (eq a d && eq b c) h)
    where
      by : ((eq a c && eq b d) ≡ true) ⊎ ((eq a d && eq b c) ≡ true) → product_value (value t a) (value t b) ≡ product_value (value t c) (value t d)
      by (inl k) = let both : (eq a c ≡ true) × (eq b d ≡ true) = and_parts (eq a c) (eq b d) k in λ i. product_value (one a c both.0 i) (one b d both.1 i)
      by (inr k) =
          let both : (eq a d ≡ true) × (eq b c ≡ true) = and_parts (eq a d) (eq b c) k in
          (λ i. product_value (one a d both.0 i) (one b c both.1 i)) ∙ product_comm (value t d) (value t c)
  expr_one t one (expr.Lit m) (expr.Lit n) h = ap Num ((Decides-int_eq m n).0 h)
  expr_one t one e f h = cc

  values_one : (e f : Expr) → equal_expr eq e f ≡ true → (ts : List T) → Each One ts → values_of value e ts ≡ values_of value f ts
  values_one e f h [] ones = refl
  values_one e f h (t ∷ ts) ones =
      λ i. cond (not_null (expr_one t ones.0 e f h i)) (expr_one t ones.0 e f h i ∷ values_one e f h ts ones.1 i) (values_one e f h ts ones.1 i)

  pub agg_one : (a b : Agg) → same_agg_by (equal_expr eq) a b ≡ true → (ts : List T) → Each One ts → agg_value value ts a ≡ agg_value value ts b
  agg_one CountAll CountAll h ts ones = refl
  agg_one (Count e) (Count f) h ts ones = ap count_value (values_one e f h ts ones)
  agg_one (Sum e) (Sum f) h ts ones = ap sum_value (values_one e f h ts ones)
  agg_one (Avg e) (Avg f) h ts ones = ap avg_value (values_one e f h ts ones)
  agg_one (Min e) (Min f) h ts ones = ap min_value (values_one e f h ts ones)
  agg_one (Max e) (Max f) h ts ones = ap max_value (values_one e f h ts ones)
  agg_one a b h ts ones = cc

  module _ (v : StarQuery) where
    -- the value at an aggregate's place in a group's row
    pub at_place : (g : Grouped T) → Each One g.1 → (a : Agg) (n : ℕ) → agg_place eq v a ≡ Some n → value_at (group_row value v g) n ≡ agg_value value g.1 a
    at_place g ones a n e =
        position_value (item_is_agg eq a) (group_item value v.keys g) (agg_value value g.1 a) v.items
        (Each-of (λ i. item_is_agg eq a i ≡ true → group_item value v.keys g i ≡ agg_value value g.1 a) one v.items) n e
      where
        one : (i : Item) → item_is_agg eq a i ≡ true → group_item value v.keys g i ≡ agg_value value g.1 a
        one (item.Col c) h = cc
        one (item.Agg b) h = sym (agg_one a b h g.1 ones)

    module _ (defs : List TableDef) where
      all_kept : (e : Expr) (ts : List T) → Each (λ t. not_null (expr_value (value t) e) ≡ true) ts → length ts ≡ length (values_of value e ts)
      all_kept e [] h = refl
      all_kept e (t ∷ ts) h =
          ap (λ n. suc n) (all_kept e ts h.1)
          ∙ ap (λ b. length (cond b (expr_value (value t) e ∷ values_of value e ts) (values_of value e ts))) (sym h.0)

      -- the aggregate is of the kind of its origin
      abbrev pub Kind : Option Origin → Agg → Type 0
      Kind None a = ⊥
      Kind (Some o) a = Suits value a o

      pub kind_of : (a : Agg) → is_some (origin defs eq v a) ≡ true → Kind (origin defs eq v a) a
      kind_of CountAll h = by (agg_place eq v CountAll) h
        where
          by : (p : Option ℕ) → is_some (option_map CountsOf p) ≡ true → Kind (option_map CountsOf p) CountAll
          by None h = cc
          by (Some n) h = λ ts. ap (λ k. Num (pos k)) (sym (length-map ts (λ t. Null)))
      kind_of (Count e) h = by (agg_place eq v (Count e)) (counts_all defs v e) (agg_place eq v CountAll) h
        where
          by : (p : Option ℕ) (b : Bool) (r : Option ℕ) → is_some (first_some (option_map CountsOf p ∷ cond b (option_map CountsOf r) None ∷ [])) ≡ true
              → Kind (first_some (option_map CountsOf p ∷ cond b (option_map CountsOf r) None ∷ [])) (Count e)
          by (Some n) b r h = λ ts. refl
          by None true (Some n) h = λ ts. refl
          by None true None h = cc
          by None false r h = cc
      kind_of (Sum e) h = by (agg_place eq v (Sum e)) h
        where
          by : (p : Option ℕ) → is_some (option_map SumsOf p) ≡ true → Kind (option_map SumsOf p) (Sum e)
          by None h = cc
          by (Some n) h = λ ts. refl
      kind_of (Min e) h = by (agg_place eq v (Min e)) h
        where
          by : (p : Option ℕ) → is_some (option_map LeastOf p) ≡ true → Kind (option_map LeastOf p) (Min e)
          by None h = cc
          by (Some n) h = λ ts. refl
      kind_of (Max e) h = by (agg_place eq v (Max e)) h
        where
          by : (p : Option ℕ) → is_some (option_map GreatestOf p) ≡ true → Kind (option_map GreatestOf p) (Max e)
          by None h = cc
          by (Some n) h = λ ts. refl
      kind_of (Avg e) h = by (agg_place eq v (Avg e)) (agg_place eq v (Sum e)) (agg_place eq v (Count e)) h
        where
          by : (p r s : Option ℕ) → is_some (first_some (option_map AveragesOf p ∷ both_places r s ∷ [])) ≡ true → Kind (first_some (option_map AveragesOf p ∷ both_places r s ∷ [])) (Avg e)
          by (Some n) r s h = λ ts. refl
          by None None s h = cc
          by None (Some m) None h = cc
          by None (Some m) (Some n) h = λ ts. refl

      -- a group's row serves it
      abbrev pub ServedBy : List Value → Option Origin → Agg → Grouped T → Type 0
      ServedBy z None a g = ⊥
      ServedBy z (Some o) a g = Serves o z (wanted_values value a g.1)

      -- the row has the group's aggregates at their places
      abbrev pub HasAggs : List Value → Grouped T → Type 0
      HasAggs z g = (a : Agg) (n : ℕ) → agg_place eq v a ≡ Some n → value_at z n ≡ agg_value value g.1 a

      pub serves_of : (g : Grouped T) (z : List Value) → HasAggs z g → (a : Agg) → SureAgg value eq v defs a g.1 → is_some (origin defs eq v a) ≡ true → ServedBy z (origin defs eq v a) a g
      serves_of g z at CountAll sure h = by (agg_place eq v CountAll) refl h
        where
          by : (p : Option ℕ) → agg_place eq v CountAll ≡ p → is_some (option_map CountsOf p) ≡ true → ServedBy z (option_map CountsOf p) CountAll g
          by None e h = cc
          by (Some n) e h = at CountAll n e ∙ ap (λ k. Num (pos k)) (sym (length-map g.1 (λ t. Null)))
      serves_of g z at (Count x) sure h = by (agg_place eq v (Count x)) (counts_all defs v x) (agg_place eq v CountAll) refl refl refl h
        where
          by : (p : Option ℕ) (b : Bool) (r : Option ℕ) → agg_place eq v (Count x) ≡ p → counts_all defs v x ≡ b → agg_place eq v CountAll ≡ r
              → is_some (first_some (option_map CountsOf p ∷ cond b (option_map CountsOf r) None ∷ [])) ≡ true
              → ServedBy z (first_some (option_map CountsOf p ∷ cond b (option_map CountsOf r) None ∷ [])) (Count x) g
          by (Some n) b r e f k h = at (Count x) n e
          by None true (Some n) e f k h = at CountAll n k ∙ ap (λ l. Num (pos l)) (all_kept x g.1 (sure f))
          by None true None e f k h = cc
          by None false r e f k h = cc
      serves_of g z at (Sum x) sure h = by (agg_place eq v (Sum x)) refl h
        where
          by : (p : Option ℕ) → agg_place eq v (Sum x) ≡ p → is_some (option_map SumsOf p) ≡ true → ServedBy z (option_map SumsOf p) (Sum x) g
          by None e h = cc
          by (Some n) e h = at (Sum x) n e
      serves_of g z at (Min x) sure h = by (agg_place eq v (Min x)) refl h
        where
          by : (p : Option ℕ) → agg_place eq v (Min x) ≡ p → is_some (option_map LeastOf p) ≡ true → ServedBy z (option_map LeastOf p) (Min x) g
          by None e h = cc
          by (Some n) e h = at (Min x) n e
      serves_of g z at (Max x) sure h = by (agg_place eq v (Max x)) refl h
        where
          by : (p : Option ℕ) → agg_place eq v (Max x) ≡ p → is_some (option_map GreatestOf p) ≡ true → ServedBy z (option_map GreatestOf p) (Max x) g
          by None e h = cc
          by (Some n) e h = at (Max x) n e
      serves_of g z at (Avg x) sure h = by (agg_place eq v (Avg x)) (agg_place eq v (Sum x)) (agg_place eq v (Count x)) refl refl refl h
        where
          by : (p r s : Option ℕ) → agg_place eq v (Avg x) ≡ p → agg_place eq v (Sum x) ≡ r → agg_place eq v (Count x) ≡ s
              → is_some (first_some (option_map AveragesOf p ∷ both_places r s ∷ [])) ≡ true → ServedBy z (first_some (option_map AveragesOf p ∷ both_places r s ∷ [])) (Avg x) g
          by (Some n) r s e f k h = at (Avg x) n e
          by None None s e f k h = cc
          by None (Some m) None e f k h = cc
          by None (Some m) (Some n) e f k h = (at (Sum x) m f, at (Count x) n k)
