-- The query's tuples are those of the view that meet the query's own conditions.
use Rattle.std.proofs.Common.{◌≡◌, ◌∙◌, sym, ap, refl, Bool, true, false, cond, List, [], ◌∷◌, ◌++◌}
use Rattle.std.specs.Prelude.{◌&&◌, ◌||◌, not}
use Rattle.std.specs.List.{filter, list_all, list_any}
use Rattle.std.proofs.lemmas.Bool.{and_parts, not-false}
use Rattle.std.specs.Cmp.{both_ways}
use Rattle.wh_base.specs.declared.values.Value.{Value}
use Rattle.wh_base.specs.declared.columns.ColRef.{ColRef}
use Rattle.wh_base.specs.declared.queries.Condition.{Condition}
use Rattle.wh_base.specs.declared.queries.Condition.TheVariants.{Compare, IsNull, NotNull, OneOf}
use Rattle.wh_base.specs.declared.queries.StarQuery.{StarQuery}
use Rattle.wh_base.specs.declared.tables.TableDef.{TableDef}
use Rattle.wh_base.specs.Tables.{never_null}
use Rattle.def_meaning.specs.Joined.{condition_true, conditions_true, edge_true}
use Rattle.def_meaning.specs.Meaning.{not_null}
use Rattle.def_meaning.specs.Ranges.{equal_columns}
use Rattle.def_restrictions.specs.Definition.{condition_column}
use Rattle.def_rewriting.specs.Compatible.{conditions_implied, implied_by, linked, own_conditions}
use Rattle.def_rewriting.specs.Implied.{implies, is_not_null_test, same_test}
use Rattle.law_lists.proofs.Each.{Each-from_all}
use Rattle.law_rewrite.specs.Words.{Each}
use Rattle.law_rewrite.proofs.Fresh.{condition_reads}
use Rattle.law_rewrite.proofs.Placing.{linked_all, linked_equal}
use Rattle.law_rewrite.proofs.Implying.{PlainIn, implies_sound, same_test_true}
pub use Rattle.law_rewrite.specs.Words.{Promised}

-- ---- tests of lists

-- one that passes, of which P holds
any_gives : {A : Type 0} (p : A → Bool) (P : A → Type 0) (R : Type 0) (xs : List A) → list_any p xs ≡ true → Each P xs → ((x : A) → p x ≡ true → P x → R) → R
any_gives p P R [] h k f = absurd (let e : false ≡ true = h in cc)
any_gives {A} p P R (x ∷ xs) h k f = by (p x) refl h (λ e. any_gives p P R xs e k.1 f)
  where
    by : (b : Bool) → p x ≡ b → (b || list_any p xs) ≡ true → (list_any p xs ≡ true → R) → R
    by true e h more = f x e k.0
    by false e h more = more h

pub all_true : {A : Type 0} (p : A → Bool) (xs : List A) → Each (λ x. p x ≡ true) xs → list_all p xs ≡ true
all_true p [] h = refl
all_true p (x ∷ xs) h = λ i. h.0 i && all_true p xs h.1 i

all_filter : {A : Type 0} (p n : A → Bool) (xs : List A) → list_all p xs ≡ true → list_all p (filter n xs) ≡ true
all_filter p n [] h = refl
all_filter {A} p n (x ∷ xs) h =
    let both : (p x ≡ true) × (list_all p xs ≡ true) = and_parts (p x) (list_all p xs) h in by (n x) both.0 (all_filter p n xs both.1)
  where
    by : (b : Bool) → p x ≡ true → list_all p (filter n xs) ≡ true → list_all p (cond b (x ∷ filter n xs) (filter n xs)) ≡ true
    by true e k = λ i. e i && k i
    by false e k = k

all_unfilter : {A : Type 0} (p n : A → Bool) → ((x : A) → n x ≡ false → p x ≡ true) → (xs : List A) → list_all p (filter n xs) ≡ true → list_all p xs ≡ true
all_unfilter p n f [] h = refl
all_unfilter {A} p n f (x ∷ xs) h = by (n x) refl h (all_unfilter p n f xs)
  where
    by : (b : Bool) → n x ≡ b → list_all p (cond b (x ∷ filter n xs) (filter n xs)) ≡ true → (list_all p (filter n xs) ≡ true → list_all p xs ≡ true) → list_all p (x ∷ xs) ≡ true
    by true e h ih = let both : (p x ≡ true) × (list_all p (filter n xs) ≡ true) = and_parts (p x) (list_all p (filter n xs)) h in λ i. both.0 i && ih both.1 i
    by false e h ih = λ i. f x e i && ih h i

-- ---- one tuple

module _ (defs : List TableDef) (q v : StarQuery) (plain_q : Each PlainIn q.conditions) (plain_v : Each PlainIn v.conditions) (implied : conditions_implied defs q v ≡ true) where
  module _ (value : ColRef → Value) (promised : Promised defs q v value) (joins : list_all (edge_true value) (q.edges ++ v.edges) ≡ true) where
    -- a condition is one of its column's value
    at_column : (c : Condition) (w : Value) → value (condition_column c) ≡ w → condition_true value c ≡ condition_true (λ _. w) c
    at_column c w e = condition_reads value (λ _. w) c e

    moves : (d c : Condition) → linked q v (condition_column d) (condition_column c) ≡ true → value (condition_column c) ≡ value (condition_column d)
    moves d c h = linked_equal value (q.edges ++ v.edges) joins (condition_column d) (condition_column c) h

    implied_true : (d c : Condition) → PlainIn d → PlainIn c → linked q v (condition_column d) (condition_column c) ≡ true → implies d c ≡ true → condition_true value d ≡ true → condition_true value c ≡ true
    implied_true d c p r l h k =
        at_column c (value (condition_column d)) (moves d c l)
        ∙ implies_sound d c (value (condition_column d)) (promised.plain (condition_column d)) p r h (sym (at_column d (value (condition_column d)) refl) ∙ k)

    never_true : (c : Condition) → is_not_null_test c ≡ true → not_null (value (condition_column c)) ≡ true → condition_true value c ≡ true
    never_true (Compare x op a) h k = cc
    never_true (OneOf x vs) h k = cc
    never_true (IsNull x) h k = cc
    never_true (NotNull x) h k = k

    Each-two : {A : Type 0} (P Q : A → Type 0) (xs : List A) → Each P xs → Each Q xs → Each (λ x. P x × Q x) xs
    Each-two P Q [] h k = tt
    Each-two P Q (x ∷ xs) h k = ((h.0, k.0), Each-two P Q xs h.1 k.1)

    view_true : (cs : List Condition) → Each PlainIn cs → list_all (implied_by defs q v) cs ≡ true
        → Each (λ d. Each (λ c. never_null defs c ≡ true → not_null (value c) ≡ true) (equal_columns (q.edges ++ v.edges) (condition_column d))) cs
        → conditions_true value q.conditions ≡ true → conditions_true value cs ≡ true
    view_true [] p h s k = refl
    view_true (c ∷ cs) p h s k =
        let both : (implied_by defs q v c ≡ true) × (list_all (implied_by defs q v) cs ≡ true) = and_parts (implied_by defs q v c) (list_all (implied_by defs q v) cs) h in
        λ i. one both.0 i && view_true cs p.1 both.1 s.1 k i
      where
        by_query : list_any (λ d. linked q v (condition_column d) (condition_column c) && implies d c) q.conditions ≡ true → condition_true value c ≡ true
        by_query e =
            any_gives (λ d. linked q v (condition_column d) (condition_column c) && implies d c) (λ d. PlainIn d × (condition_true value d ≡ true)) (condition_true value c ≡ true) q.conditions e
            (Each-two PlainIn (λ d. condition_true value d ≡ true) q.conditions plain_q (Each-from_all (condition_true value) q.conditions k))
            (λ d l m. let two : (linked q v (condition_column d) (condition_column c) ≡ true) × (implies d c ≡ true) = and_parts (linked q v (condition_column d) (condition_column c)) (implies d c) l in
            implied_true d c m.0 p.0 two.0 two.1 m.1)

        by_table : (is_not_null_test c && list_any (never_null defs) (equal_columns (q.edges ++ v.edges) (condition_column c))) ≡ true → condition_true value c ≡ true
        by_table e =
            let two : (is_not_null_test c ≡ true) × (list_any (never_null defs) (equal_columns (q.edges ++ v.edges) (condition_column c)) ≡ true)
            = and_parts (is_not_null_test c) (list_any (never_null defs) (equal_columns (q.edges ++ v.edges) (condition_column c))) e in
            never_true c two.0
            (any_gives (never_null defs) (λ d. (never_null defs d ≡ true → not_null (value d) ≡ true) × (value d ≡ value (condition_column c))) (not_null (value (condition_column c)) ≡ true)
            (equal_columns (q.edges ++ v.edges) (condition_column c)) two.1
            (Each-two (λ d. never_null defs d ≡ true → not_null (value d) ≡ true) (λ d. value d ≡ value (condition_column c)) (equal_columns (q.edges ++ v.edges) (condition_column c))
            s.0 (linked_all value (q.edges ++ v.edges) joins (condition_column c)))
            (λ d l m. ap not_null (sym m.1) ∙ m.0 l))

        one : implied_by defs q v c ≡ true → condition_true value c ≡ true
        one e =
            by (list_any (λ d. linked q v (condition_column d) (condition_column c) && implies d c) q.conditions)
            (is_not_null_test c && list_any (never_null defs) (equal_columns (q.edges ++ v.edges) (condition_column c))) refl refl e
          where
            by : (a b : Bool) → list_any (λ d. linked q v (condition_column d) (condition_column c) && implies d c) q.conditions ≡ a
                → (is_not_null_test c && list_any (never_null defs) (equal_columns (q.edges ++ v.edges) (condition_column c))) ≡ b → (a || b) ≡ true → condition_true value c ≡ true
            by true b f g e = by_query f
            by false true f g e = by_table g
            by false false f g e = cc

    -- what the query has beyond the view, with the view's conditions, gives the query's
    query_true : conditions_true value v.conditions ≡ true → conditions_true value (own_conditions q v) ≡ true → conditions_true value q.conditions ≡ true
    query_true h k =
        all_unfilter (condition_true value) (λ c. not (list_any (λ d. linked q v (condition_column d) (condition_column c) && same_test d c) v.conditions)) shared q.conditions k
      where
        shared : (c : Condition) → not (list_any (λ d. linked q v (condition_column d) (condition_column c) && same_test d c) v.conditions) ≡ false → condition_true value c ≡ true
        shared c e =
            any_gives (λ d. linked q v (condition_column d) (condition_column c) && same_test d c) (λ d. condition_true value d ≡ true) (condition_true value c ≡ true) v.conditions
            (not-false (list_any (λ d. linked q v (condition_column d) (condition_column c) && same_test d c) v.conditions) e)
            (Each-from_all (condition_true value) v.conditions h)
            (λ d l m. let two : (linked q v (condition_column d) (condition_column c) ≡ true) × (same_test d c ≡ true) = and_parts (linked q v (condition_column d) (condition_column c)) (same_test d c) l in
            at_column c (value (condition_column d)) (moves d c two.0) ∙ sym (same_test_true d c (value (condition_column d)) two.1) ∙ sym (at_column d (value (condition_column d)) refl) ∙ m)

    -- the query's conditions are the view's and its own
    pub conditions_are : conditions_true value q.conditions ≡ (conditions_true value v.conditions && conditions_true value (own_conditions q v))
    conditions_are =
        both_ways (conditions_true value q.conditions) (conditions_true value v.conditions && conditions_true value (own_conditions q v))
        (λ h i. view_true v.conditions plain_v implied promised.sure h i
        && all_filter (condition_true value) (λ c. not (list_any (λ d. linked q v (condition_column d) (condition_column c) && same_test d c) v.conditions)) q.conditions h i)
        (λ h. let both : (conditions_true value v.conditions ≡ true) × (conditions_true value (own_conditions q v) ≡ true) = and_parts (conditions_true value v.conditions) (conditions_true value (own_conditions q v)) h in
        query_true both.0 both.1)
