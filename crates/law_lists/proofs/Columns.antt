-- The value of a group column in the key of a thing that has it.
use Rattle.std.proofs.Common.{◌≡◌, ◌∙◌, sym, ap, arith, ℕ, ◌+◌, ◌<◌, suc, Bool, true, false, cond, List, [], ◌∷◌, map, length, get_or, Some, None}
use Rattle.std.specs.Prelude.{◌||◌, not, position}
use Rattle.std.specs.List.{list_any, position_or_len}
use Rattle.std.proofs.lemmas.List.Quantifiers.{position-Some}
use Rattle.std.proofs.lemmas.List.{get_or-map}
use Rattle.std.proofs.lemmas.Bool.{lt-ltb}
use Rattle.std.proofs.lemmas.Option.{unwrap_or-slice_get}
use Rattle.wh_base.specs.Columns.{has_column, same_column}
use Rattle.wh_base.specs.Lists.{option_case}
use Rattle.wh_base.specs.Tables.{value_at}
use Rattle.wh_base.specs.declared.values.Value.{Value}
use Rattle.wh_base.specs.declared.values.Value.TheVariants.{Null}
use Rattle.wh_base.specs.declared.columns.ColRef.{ColRef}
use Rattle.def_meaning.specs.Meaning.{key_value}
use Rattle.law_lists.proofs.Each.{Each, Each-at}
use Rattle.wh_base.proofs.SameItems.{same_column_is}

-- ---- the value at the first place that passes

at_map : {A : Type 0} (f : A → Value) (xs : List A) (n : ℕ) (d : A) → n < length xs → value_at (map f xs) n ≡ f (get_or xs n d)
at_map f xs n d h = unwrap_or-slice_get (map f xs) n Null ∙ get_or-map f xs n d Null h

-- where all that pass have the value w
pub position_value : {A : Type 0} (p : A → Bool) (f : A → Value) (w : Value) (xs : List A) → Each (λ x. p x ≡ true → f x ≡ w) xs
    → (n : ℕ) → position p xs ≡ Some n → value_at (map f xs) n ≡ w
position_value p f w [] same n e = cc
position_value p f w (x ∷ xs) same n e =
    let found : (n < length (x ∷ xs)) × (p (get_or (x ∷ xs) n x) ≡ true) × ((k : ℕ) → k < n → p (get_or (x ∷ xs) k x) ≡ false) = position-Some p (x ∷ xs) n x e in
    at_map f (x ∷ xs) n x found.0 ∙ Each-at (λ y. p y ≡ true → f y ≡ w) (x ∷ xs) n x same found.0 found.1

first_within : {A : Type 0} (p : A → Bool) (xs : List A) → list_any p xs ≡ true → position_or_len p xs < length xs
first_within p [] h = cc
first_within {A} p (x ∷ xs) h = by (p x) h (first_within p xs)
  where
    by : (b : Bool) → (b || list_any p xs) ≡ true → (list_any p xs ≡ true → position_or_len p xs < length xs) → cond (not b) (1 + position_or_len p xs) 0 < suc (length xs)
    by true h k = omega arith
    by false h k = omega (arith, k h)

pub position_there : {A : Type 0} (p : A → Bool) (xs : List A) → list_any p xs ≡ true → position p xs ≡ Some (position_or_len p xs)
position_there p xs h = ap (λ b. cond b (Some (position_or_len p xs)) None) (lt-ltb (position_or_len p xs) (length xs) (first_within p xs h))

-- the value of what stands at the first place, where one stands
pub first_value : {A : Type 0} (p : A → Bool) (f : A → Value) (w : Value) (xs : List A) → list_any p xs ≡ true → Each (λ x. p x ≡ true → f x ≡ w) xs
    → option_case (position p xs) Null (value_at (map f xs)) ≡ w
first_value p f w xs h same =
    ap (λ o. option_case o Null (value_at (map f xs))) (position_there p xs h) ∙ position_value p f w xs same (position_or_len p xs) (position_there p xs h)

-- the value of a group column in a key
pub key_value_is : (value : ColRef → Value) (keys : List ColRef) (c : ColRef) → has_column keys c ≡ true → key_value keys (map value keys) c ≡ value c
key_value_is value keys c h = first_value (same_column c) value (value c) keys h (each_is keys)
  where
    each_is : (xs : List ColRef) → Each (λ d. same_column c d ≡ true → value d ≡ value c) xs
    each_is [] = tt
    each_is (d ∷ ds) = (λ e. ap value (sym (same_column_is c d e)), each_is ds)
