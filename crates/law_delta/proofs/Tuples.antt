-- Lists that balance stay so under map, filter and products; so the tuples of a query balance where the rows of its tables do.
use Rattle.std.proofs.Common.{◌≡◌, ◌∙◌, sym, refl, arith, ℕ, Bool, cond, List, [], ◌∷◌, map}
use Rattle.std.specs.Prelude.{ℤ, pos, ◌+ℤ◌, flat_map, filter, fold}
use Rattle.std.proofs.lemmas.Int.{ints}
use Rattle.wh_base.specs.Tables.{Table, row_at, rows_after, table_after}
use Rattle.wh_base.specs.declared.tables.Change.{Change}
use Rattle.wh_base.specs.declared.tables.RowAt.{RowAt}
use Rattle.wh_base.specs.declared.queries.StarQuery.{StarQuery}
use Rattle.def_meaning.specs.Joined.{product, joined_over, tuple_true}
use Rattle.law_delta.specs.Deltas.{weight, Balanced, front_by, mixed, joined_mixed, old_rows, new_rows, old_rows_at, new_rows_at, AllApply}
use Rattle.law_delta.proofs.Weights.{weight-append, weight-map, weight-filter, weight-flat_map}
use Rattle.law_delta.proofs.Changes.{changes_balanced}

pub Balanced-map : {A B : Type 0} (g : A → B) (now olds before news : List A) → Balanced now olds before news → Balanced (map g now) (map g olds) (map g before) (map g news)
Balanced-map g now olds before news h f =
    (λ i. weight-map f g now i +ℤ weight-map f g olds i) ∙ h (λ x. f (g x)) ∙ sym (λ i. weight-map f g before i +ℤ weight-map f g news i)

pub Balanced-filter : {A : Type 0} (p : A → Bool) (now olds before news : List A) → Balanced now olds before news → Balanced (filter p now) (filter p olds) (filter p before) (filter p news)
Balanced-filter p now olds before news h f =
    (λ i. weight-filter f p now i +ℤ weight-filter f p olds i) ∙ h (λ x. cond (p x) (f x) (pos 0)) ∙ sym (λ i. weight-filter f p before i +ℤ weight-filter f p news i)

pub Balanced-flat_map : {A B : Type 0} (g : A → List B) (now olds before news : List A) → Balanced now olds before news → Balanced (flat_map g now) (flat_map g olds) (flat_map g before) (flat_map g news)
Balanced-flat_map g now olds before news h f =
    (λ i. weight-flat_map f g now i +ℤ weight-flat_map f g olds i) ∙ h (λ x. weight f (g x)) ∙ sym (λ i. weight-flat_map f g before i +ℤ weight-flat_map f g news i)

-- ---- one table

-- the rows of a table before and after changes, as tuples have them
pub table_balanced : (t : Table) (changes : List Change) → AllApply t.rows changes → Balanced (map (row_at (table_after t changes)) (table_after t changes).rows) (old_rows_at t changes) (map (row_at t) t.rows) (new_rows_at t changes)
table_balanced t changes fit = Balanced-map (row_at t) (fold rows_after t.rows changes) (old_rows changes) t.rows (new_rows changes) (λ f. changes_balanced f t.rows changes fit)

-- ---- products

weight-front_by : {A : Type 0} (f : List A → ℤ) (xs : List A) (tuples : List (List A)) → weight f (front_by xs tuples) ≡ weight (λ x. weight (λ rest. f (x ∷ rest)) tuples) xs
weight-front_by {A} f xs tuples =
    let cons : A → List A → List A = λ x rest. x ∷ rest in
    weight-flat_map f (λ x. map (cons x) tuples) xs ∙ (λ i. weight (λ x. weight-map f (cons x) tuples i) xs)

weight-plus : {A : Type 0} (f g : A → ℤ) (xs : List A) → weight f xs +ℤ weight g xs ≡ weight (λ x. f x +ℤ g x) xs
weight-plus f g [] = refl
weight-plus f g (x ∷ xs) = let h : weight f xs +ℤ weight g xs ≡ weight (λ x. f x +ℤ g x) xs = weight-plus f g xs in omega (arith, ints)

-- each tuple with a changed row is counted once
pub product_balanced : {N A : Type 0} (now olds before news : N → List A) → ((n : N) → Balanced (now n) (olds n) (before n) (news n)) → (ns : List N) → Balanced (product (map now ns)) (mixed now olds before ns) (product (map before ns)) (mixed now news before ns)
product_balanced now olds before news each [] f = refl
product_balanced {N} {A} now olds before news each (n ∷ ns) f =
    let by : A → List A → ℤ = λ x rest. f (x ∷ rest) in
    let tails : (x : A) → weight (by x) (product (map now ns)) +ℤ weight (by x) (mixed now olds before ns) ≡ weight (by x) (product (map before ns)) +ℤ weight (by x) (mixed now news before ns) = λ x. product_balanced now olds before news each ns (by x) in
    let now_now : A → ℤ = λ x. weight (by x) (product (map now ns)) in
    let now_olds : A → ℤ = λ x. weight (by x) (mixed now olds before ns) in
    let now_before : A → ℤ = λ x. weight (by x) (product (map before ns)) in
    let now_news : A → ℤ = λ x. weight (by x) (mixed now news before ns) in
    let inner : weight (λ x. now_now x +ℤ now_olds x) (now n) ≡ weight (λ x. now_before x +ℤ now_news x) (now n) = λ i. weight (λ x. tails x i) (now n) in
    let left : weight now_now (now n) +ℤ weight now_olds (now n) ≡ weight (λ x. now_now x +ℤ now_olds x) (now n) = weight-plus now_now now_olds (now n) in
    let right : weight now_before (now n) +ℤ weight now_news (now n) ≡ weight (λ x. now_before x +ℤ now_news x) (now n) = weight-plus now_before now_news (now n) in
    let outer : weight now_before (now n) +ℤ weight now_before (olds n) ≡ weight now_before (before n) +ℤ weight now_before (news n) = each n now_before in
    let a : weight f (product (map now (n ∷ ns))) ≡ weight now_now (now n) = weight-front_by f (now n) (product (map now ns)) in
    let b : weight f (product (map before (n ∷ ns))) ≡ weight now_before (before n) = weight-front_by f (before n) (product (map before ns)) in
    let c : weight f (mixed now olds before (n ∷ ns)) ≡ weight now_before (olds n) +ℤ weight now_olds (now n) =
    weight-append f (front_by (olds n) (product (map before ns))) (front_by (now n) (mixed now olds before ns)) ∙ (λ i. weight-front_by f (olds n) (product (map before ns)) i +ℤ weight-front_by f (now n) (mixed now olds before ns) i) in
    let d : weight f (mixed now news before (n ∷ ns)) ≡ weight now_before (news n) +ℤ weight now_news (now n) =
    weight-append f (front_by (news n) (product (map before ns))) (front_by (now n) (mixed now news before ns)) ∙ (λ i. weight-front_by f (news n) (product (map before ns)) i +ℤ weight-front_by f (now n) (mixed now news before ns) i) in
    sums (weight f (product (map now (n ∷ ns)))) (weight f (mixed now olds before (n ∷ ns))) (weight f (product (map before (n ∷ ns)))) (weight f (mixed now news before (n ∷ ns)))
    (weight now_now (now n)) (weight now_olds (now n)) (weight now_before (now n)) (weight now_news (now n)) (weight now_before (olds n)) (weight now_before (before n)) (weight now_before (news n))
    a c b d (left ∙ inner ∙ sym right) outer
  where
    sums : (p q r s nn n_o nb nw bo bb bw : ℤ) → p ≡ nn → q ≡ bo +ℤ n_o → r ≡ bb → s ≡ bw +ℤ nw → nn +ℤ n_o ≡ nb +ℤ nw → nb +ℤ bo ≡ bb +ℤ bw → p +ℤ q ≡ r +ℤ s
    sums p q r s nn n_o nb nw bo bb bw a c b d e o = omega (arith, ints)

-- the tuples of a query with changes in any of its tables
pub joined_balanced : (q : StarQuery) (now olds before news : ℕ → List RowAt) → ((n : ℕ) → Balanced (now n) (olds n) (before n) (news n)) → Balanced (joined_over q now) (joined_mixed q now olds before) (joined_over q before) (joined_mixed q now news before)
joined_balanced q now olds before news each =
    Balanced-filter (tuple_true q) (product (map now q.tables)) (mixed now olds before q.tables) (product (map before q.tables)) (mixed now news before q.tables)
    (product_balanced now olds before news each q.tables)
