-- A value fits a column whether a number in it is capped or not, and one that fits is not capped.
use Rattle.std.proofs.Common.{◌≡◌, ◌∙◌, ap, refl, arith, ℕ, zero, suc, ◌<◌, ◌≤◌, ◌^◌, ◌&&◌, Bool, true, false, not, List, [], ◌∷◌, map, Option, Some, None, min, nat_lt, lit<}
use Rattle.std.proofs.lemmas.Bool.{and_parts}
use Rattle.std.proofs.lemmas.Bool.Decides.{nat_tests}
use Rattle.std.proofs.Math.Nat.{pow-le-pow_right}
use Rattle.std.specs.List.{list_all}
use Rattle.std.specs.Prelude.{nat_abs, neg_ℤ, negsuc, pos, zip, ℤ}
use Rattle.def_effect.specs.Block.{column_refusal, fits_kind}
use Rattle.wh_base.specs.Lists.{first_of, first_some, where_true}
use Rattle.wh_base.specs.Values.{is_null}
use Rattle.wh_base.specs.declared.replies.Refusal.{Refusal}
use Rattle.wh_base.specs.declared.replies.Refusal.TheVariants.{NullNotAllowed, ValueDoesNotFit}
use Rattle.wh_base.specs.declared.tables.ColumnDef.{ColumnDef}
use Rattle.wh_base.specs.declared.tables.Kind.{Kind}
use Rattle.wh_base.specs.declared.tables.Kind.TheVariants.{Date, Number, Text as Bytes}
use Rattle.wh_base.specs.declared.tables.TableDef.{TableDef}
use Rattle.wh_base.specs.declared.values.Value.{Value}
use Rattle.wh_base.specs.declared.values.Value.TheVariants.{Day, Null, Num, Ratio, Text}
use Rattle.wh_load.specs.Capped.{capped, capped_number, capped_size, largest, loaded_value}
use Rattle.wh_load.specs.Sized.{kind_is_sized}

-- ---- numbers

size_of_pos : (n : ℕ) → nat_abs (neg_ℤ (pos n)) ≡ n
size_of_pos zero = refl
size_of_pos (suc n) = refl

size_capped : (n : ℤ) → nat_abs (capped_number n) ≡ capped_size (nat_abs n)
size_capped (pos n) = refl
size_capped (negsuc n) = size_of_pos (capped_size (suc n))

-- a size of at most 15 digits is far below the largest
capped_fits : (p n : ℕ) → p ≤ 15 → nat_lt (capped_size n) (10 ^ p) ≡ nat_lt n (10 ^ p)
capped_fits p n few = by (10 ^ p) (pow-le-pow_right (lit< tt) few)
  where
    by : (q : ℕ) → q ≤ 10 ^ 15 → nat_lt (min n largest) q ≡ nat_lt n q
    by q most = cases (nat_lt (min n largest) q) (nat_lt n q) refl refl
      where
        cases : (a b : Bool) → nat_lt (min n largest) q ≡ a → nat_lt n q ≡ b → a ≡ b
        cases true true x y = refl
        cases false false x y = refl
        cases true false x y =
            let below : min n largest < q = grind (arith, nat_tests) in
            let above : q ≤ n = grind (arith, nat_tests) in
            absurd (omega (arith, below, above, most))
        cases false true x y =
            let above : q ≤ min n largest = grind (arith, nat_tests) in
            let below : n < q = grind (arith, nat_tests) in
            absurd (omega (arith, below, above))

same_size : (m : ℕ) → m ≤ largest → capped_size m ≡ m
same_size m most = omega (arith, most)

number_same : (n : ℤ) → nat_abs n ≤ largest → capped_number n ≡ n
number_same (pos n) most = ap pos (same_size n most)
number_same (negsuc n) most = ap (λ m. neg_ℤ (pos m)) (same_size (suc n) most)

-- ---- values

pub fits_same : (k : Kind) (v : Value) → kind_is_sized k ≡ true → fits_kind k (capped v) ≡ fits_kind k v
fits_same (Number p) (Num n) h = let few : p ≤ 15 = grind (arith, nat_tests) in ap (λ m. nat_lt m (10 ^ p)) (size_capped n) ∙ capped_fits p (nat_abs n) few
fits_same (Bytes m) (Num n) h = refl
fits_same Date (Num n) h = refl
fits_same k (Text t) h = refl
fits_same k (Ratio a) h = refl
fits_same k (Day n) h = refl
fits_same k Null h = refl

pub null_same : (v : Value) → is_null (capped v) ≡ is_null v
null_same (Num n) = refl
null_same (Text t) = refl
null_same (Ratio a) = refl
null_same (Day n) = refl
null_same Null = refl

pub fits_exact : (k : Kind) (v : Value) → kind_is_sized k ≡ true → fits_kind k v ≡ true → capped v ≡ v
fits_exact (Number p) (Num n) h f =
    let few : p ≤ 15 = grind (arith, nat_tests) in
    let low : nat_abs n < 10 ^ p = grind (arith, nat_tests) in
    let most : 10 ^ p ≤ 10 ^ 15 = pow-le-pow_right (lit< tt) few in
    ap Num (number_same n (omega (arith, low, most)))
fits_exact (Bytes m) (Num n) h f = cc
fits_exact Date (Num n) h f = cc
fits_exact k (Text t) h f = refl
fits_exact k (Ratio a) h f = refl
fits_exact k (Day n) h f = refl
fits_exact k Null h f = refl

-- ---- columns

first_none : {A : Type 0} (o : Option A) (os : List (Option A)) → first_some (o ∷ os) ≡ None → (o ≡ None) × (first_some os ≡ None)
first_none None os h = (refl, h)
first_none (Some r) os h = cc

fits_column : (d : TableDef) (c : ColumnDef) (v : Value) → column_refusal d (c, v) ≡ None → fits_kind c.kind v ≡ true
fits_column d c v h = by (fits_kind c.kind v) refl h
  where
    by : (b : Bool) → fits_kind c.kind v ≡ b → first_some (where_true (not b) (ValueDoesNotFit d.name c.name) ∷ where_true (c.not_null && is_null v) (NullNotAllowed d.name c.name) ∷ []) ≡ None → fits_kind c.kind v ≡ true
    by true e h = e
    by false e h = cc

column_same : (d : TableDef) (c : ColumnDef) (v : Value) → kind_is_sized c.kind ≡ true → column_refusal d (c, capped v) ≡ column_refusal d (c, v)
column_same d c v h =
    (λ i. first_some (where_true (not (fits_same c.kind v h i)) (ValueDoesNotFit d.name c.name) ∷ where_true (c.not_null && null_same v i) (NullNotAllowed d.name c.name) ∷ []))

-- the columns of a line refuse its capped values as they do its values
pub line_same : (d : TableDef) (cs : List ColumnDef) (fields : List (List ℕ)) → list_all (λ c. kind_is_sized c.kind) cs ≡ true
    → first_of (column_refusal d) (zip cs (map capped (map loaded_value (zip cs fields)))) ≡ first_of (column_refusal d) (zip cs (map loaded_value (zip cs fields)))
line_same d [] fields h = refl
line_same d (c ∷ cs) [] h = refl
line_same d (c ∷ cs) (f ∷ fields) h =
    let kinds = and_parts (kind_is_sized c.kind) (list_all (λ c. kind_is_sized c.kind) cs) h in
    let one : column_refusal d (c, capped (loaded_value (c, f))) ≡ column_refusal d (c, loaded_value (c, f)) = column_same d c (loaded_value (c, f)) kinds.0 in
    both (column_refusal d (c, loaded_value (c, f))) (column_refusal d (c, capped (loaded_value (c, f)))) (map (column_refusal d) (zip cs (map capped (map loaded_value (zip cs fields))))) (map (column_refusal d) (zip cs (map loaded_value (zip cs fields)))) one
    (line_same d cs fields kinds.1)
  where
    both : (o p : Option Refusal) (ps os : List (Option Refusal)) → p ≡ o → first_some ps ≡ first_some os → first_some (p ∷ ps) ≡ first_some (o ∷ os)
    both None p ps os e h = ap (λ q. first_some (q ∷ ps)) e ∙ h
    both (Some r) p ps os e h = ap (λ q. first_some (q ∷ ps)) e

-- where the columns refuse nothing, the capped values are the values
pub line_exact : (d : TableDef) (cs : List ColumnDef) (fields : List (List ℕ)) → list_all (λ c. kind_is_sized c.kind) cs ≡ true
    → first_of (column_refusal d) (zip cs (map loaded_value (zip cs fields))) ≡ None → map capped (map loaded_value (zip cs fields)) ≡ map loaded_value (zip cs fields)
line_exact d [] fields h e = refl
line_exact d (c ∷ cs) [] h e = refl
line_exact d (c ∷ cs) (f ∷ fields) h e =
    let kinds = and_parts (kind_is_sized c.kind) (list_all (λ c. kind_is_sized c.kind) cs) h in
    let none = first_none (column_refusal d (c, loaded_value (c, f))) (map (column_refusal d) (zip cs (map loaded_value (zip cs fields)))) e in
    let one : capped (loaded_value (c, f)) ≡ loaded_value (c, f) = fits_exact c.kind (loaded_value (c, f)) kinds.0 (fits_column d c (loaded_value (c, f)) none.0) in
    (λ i. one i ∷ line_exact d cs fields kinds.1 none.1 i)
