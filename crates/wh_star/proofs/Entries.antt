-- What an index finds is the row with the value, wherever it stands among the rows, where at most one has it.
use Rattle.std.proofs.Common.{◌≡◌, ◌∙◌, sym, ap, subst, refl, arith, ◌+◌, ◌≤◌, Bool, true, false, cond, not, List, [], ◌∷◌, Option, Some, None}
use Rattle.indexmap.specs.IndexMap.{insert_entry}
use Rattle.std.specs.Cmp.{eq_by_cmp_equiv}
use Rattle.std.specs.List.{find}
use Rattle.std.specs.Map.{lookup}
use Rattle.std.specs.Ordering.{eq_by_cmp, is_lt}
use Rattle.std.specs.Prelude.{◌&&◌}
use Rattle.std.specs.declared.cmp.Ordering.{Ordering}
use Rattle.std.proofs.lemmas.Bool.Decides.{same_from_decides}
use Rattle.wh_base.proofs.Same.{same_value-Decides}
use Rattle.wh_base.proofs.Sorting.{put_counts, times}
use Rattle.wh_base.specs.Lists.{option_case, put_in_order, sort_onto, sorted_by}
use Rattle.wh_base.specs.Tables.{rowid_cmp}
use Rattle.wh_base.specs.ValueLaws.{equal_values, value_total}
use Rattle.wh_base.specs.Values.{equal_not_null, is_null, same_value, value_cmp}
use Rattle.wh_base.specs.declared.columns.ColPart.{ColPart}
use Rattle.wh_base.specs.declared.tables.RowAt.{RowAt}
use Rattle.wh_base.specs.declared.values.Value.{Value}
use Rattle.wh_base.specs.declared.values.Value.TheVariants.{Null}
use Rattle.def_meaning.specs.Joined.{part_value}
use Rattle.wh_star.proofs.Products.{times-none, times-rest, times-tail, weight}
use Rattle.wh_star.specs.Found.{row_with}
use Rattle.wh_star.specs.Lookups.{Entries, entry_added, indexed, indexed_onto, row_under}

-- ---- keys of a map

abbrev equal : Value → Value → Bool
equal = eq_by_cmp value_cmp

-- the sameness by which a map of values looks keys up
same_by_cmp : (v w : Value) → equal v w ≡ same_value v w
same_by_cmp v w =
    same_from_decides (equal v w) (same_value v w)
    (equal_values v w, λ e. subst (λ u. equal v u ≡ true) e ((eq_by_cmp_equiv value_total).refl v))
    (same_value-Decides v w)

equal_itself : (v : Value) → equal v v ≡ true
equal_itself v = (eq_by_cmp_equiv value_total).refl v

lookup-insert : (v k : Value) (r : RowAt) (es : Entries) → lookup (equal v) (insert_entry equal es k r) ≡ cond (equal v k) (Some r) (lookup (equal v) es)
lookup-insert v k r [] = refl
lookup-insert v k r (e ∷ es) = by (equal k e.0) refl (lookup-insert v k r es)
  where
    here : k ≡ e.0 → (b : Bool) → equal v k ≡ b → cond (equal v e.0) (Some r) (lookup (equal v) es) ≡ cond b (Some r) (cond (equal v e.0) (Some e.1) (lookup (equal v) es))
    here same true f = ap (λ b. cond b (Some r) (lookup (equal v) es)) (ap (equal v) (sym same) ∙ f)
    here same false f =
        let d : equal v e.0 ≡ false = ap (equal v) (sym same) ∙ f in
        ap (λ b. cond b (Some r) (lookup (equal v) es)) d ∙ sym (ap (λ b. cond b (Some e.1) (lookup (equal v) es)) d)

    there : equal k e.0 ≡ false → (b c : Bool) → equal v e.0 ≡ b → equal v k ≡ c → cond b (Some e.1) (cond c (Some r) (lookup (equal v) es)) ≡ cond c (Some r) (cond b (Some e.1) (lookup (equal v) es))
    there d true true f g =
        let same : k ≡ e.0 = sym (equal_values v k g) ∙ equal_values v e.0 f in
        let said : equal k e.0 ≡ true = subst (λ w. equal k w ≡ true) same (equal_itself k) in
        cc
    there d true false f g = refl
    there d false true f g = refl
    there d false false f g = refl

    by : (b : Bool) → equal k e.0 ≡ b → lookup (equal v) (insert_entry equal es k r) ≡ cond (equal v k) (Some r) (lookup (equal v) es)
        → lookup (equal v) (cond b ((e.0, r) ∷ es) (e ∷ insert_entry equal es k r)) ≡ cond (equal v k) (Some r) (cond (equal v e.0) (Some e.1) (lookup (equal v) es))
    by true f rest = here (equal_values k e.0 f) (equal v k) refl
    by false f rest = ap (λ o. cond (equal v e.0) (Some e.1) o) rest ∙ there f (equal v e.0) (equal v k) refl refl

-- ---- rows by their values

null_same : (v w : Value) → is_null v ≡ false → is_null w ≡ true → same_value v w ≡ false
null_same Null w h k = cc
null_same v Null h k = refl
null_same v w h k = cc

module _ (part : ColPart) (v : Value) where
  abbrev has : RowAt → Bool
  has r = equal_not_null v (part_value r part)

  added-under : is_null v ≡ false → (es : Entries) (r : RowAt) → lookup (equal v) (entry_added part es r) ≡ cond (has r) (Some r) (lookup (equal v) es)
  added-under h es r = by (is_null (part_value r part)) refl
    where
      tested : has r ≡ same_value v (part_value r part)
      tested = ap (λ b. not b && same_value v (part_value r part)) h

      by : (b : Bool) → is_null (part_value r part) ≡ b → lookup (equal v) (cond b es (insert_entry equal es (part_value r part) r)) ≡ cond (has r) (Some r) (lookup (equal v) es)
      by true e = sym (ap (λ b. cond b (Some r) (lookup (equal v) es)) (tested ∙ null_same v (part_value r part) h e))
      by false e = lookup-insert v (part_value r part) r es ∙ ap (λ b. cond b (Some r) (lookup (equal v) es)) (same_by_cmp v (part_value r part) ∙ sym tested)

  -- the last row with the value
  abbrev last_with : List RowAt → Option RowAt
  last_with [] = None
  last_with (r ∷ rs) = option_case (last_with rs) (cond (has r) (Some r) None) Some

  later_first : (o p : Option RowAt) (b : Bool) (r : RowAt) → option_case o (cond b (Some r) p) Some ≡ option_case (option_case o (cond b (Some r) None) Some) p Some
  later_first None p true r = refl
  later_first None p false r = refl
  later_first (Some x) p b r = refl

  onto-under : is_null v ≡ false → (es : Entries) (rs : List RowAt) → lookup (equal v) (indexed_onto part es rs) ≡ option_case (last_with rs) (lookup (equal v) es) Some
  onto-under h es [] = refl
  onto-under h es (r ∷ rs) =
      onto-under h (entry_added part es r) rs
      ∙ ap (λ o. option_case (last_with rs) o Some) (added-under h es r)
      ∙ later_first (last_with rs) (lookup (equal v) es) (has r) r

  last-none : (rs : List RowAt) → times has rs ≡ 0 → last_with rs ≡ None
  last-none [] h = refl
  last-none (r ∷ rs) h =
      ap (λ o. option_case o (cond (has r) (Some r) None) Some) (last-none rs (omega (arith, h)))
      ∙ ap (λ b. cond b (Some r) None) (times-none has r rs h)

  some_itself : (o : Option RowAt) → option_case o None Some ≡ o
  some_itself None = refl
  some_itself (Some x) = refl

  -- where at most one row has the value, the last is the first
  last-one : (rs : List RowAt) → times has rs ≤ 1 → last_with rs ≡ find has rs
  last-one [] h = refl
  last-one (r ∷ rs) h = by (has r) refl (last-one rs (times-tail has r rs 1 h))
    where
      by : (b : Bool) → has r ≡ b → last_with rs ≡ find has rs → option_case (last_with rs) (cond b (Some r) None) Some ≡ cond b (Some r) (find has rs)
      by true e rest = ap (λ o. option_case o (Some r) Some) (last-none rs (times-rest has r rs h e))
      by false e rest = some_itself (last_with rs) ∙ rest

  none-null : is_null v ≡ true → (rs : List RowAt) → find has rs ≡ None
  none-null h [] = refl
  none-null h (r ∷ rs) = let e : has r ≡ false = ap (λ b. not b && same_value v (part_value r part)) h in rw e (none-null h rs)

  index-finds : (rs : List RowAt) → times has rs ≤ 1 → row_under (indexed part rs) v ≡ row_with part rs v
  index-finds rs one = by (is_null v) refl
    where
      by : (b : Bool) → is_null v ≡ b → cond b None (lookup (equal v) (indexed part rs)) ≡ find has rs
      by true e = sym (none-null e rs)
      by false e = onto-under e [] rs ∙ some_itself (last_with rs) ∙ last-one rs one

-- ---- rows in order

module _ {A : Type 0} (cmp : A → A → Ordering) (p : A → Bool) where
  find-put : (x : A) (ys : List A) → times p (x ∷ ys) ≤ 1 → find p (put_in_order cmp x ys) ≡ cond (p x) (Some x) (find p ys)
  find-put x [] one = refl
  find-put x (y ∷ ys) one = by (is_lt (cmp x y)) (find-put x ys (omega (arith, one)))
    where
      turned : (b c : Bool) → p x ≡ b → p y ≡ c → cond c (Some y) (cond b (Some x) (find p ys)) ≡ cond b (Some x) (cond c (Some y) (find p ys))
      turned true true e f =
          let left : weight (p x) ≡ 1 = ap weight e in
          let right : weight (p y) ≡ 1 = ap weight f in
          absurd (omega (arith, one, left, right))
      turned true false e f = refl
      turned false true e f = refl
      turned false false e f = refl

      by : (b : Bool) → find p (put_in_order cmp x ys) ≡ cond (p x) (Some x) (find p ys) → find p (cond b (x ∷ y ∷ ys) (y ∷ put_in_order cmp x ys)) ≡ cond (p x) (Some x) (cond (p y) (Some y) (find p ys))
      by true rest = refl
      by false rest = ap (λ o. cond (p y) (Some y) o) rest ∙ turned (p x) (p y) refl refl

  find-onto : (done xs : List A) → times p done + times p xs ≤ 1 → find p (sort_onto cmp done xs) ≡ option_case (find p done) (find p xs) Some
  find-onto done [] one = by (find p done)
    where
      by : (o : Option A) → o ≡ option_case o None Some
      by None = refl
      by (Some x) = refl
  find-onto done (x ∷ xs) one =
      find-onto (put_in_order cmp x done) xs (omega (arith, one, put_counts cmp p x done))
      ∙ ap (λ o. option_case o (find p xs) Some) (find-put x done (omega (arith, one)))
      ∙ by (p x) (find p done) refl refl
    where
      some-times : (ys : List A) (y : A) → find p ys ≡ Some y → 1 ≤ times p ys
      some-times [] y e = cc
      some-times (z ∷ ys) y e = each (p z) refl e (some-times ys y)
        where
          each : (b : Bool) → p z ≡ b → cond b (Some z) (find p ys) ≡ Some y → (find p ys ≡ Some y → 1 ≤ times p ys) → 1 ≤ cond (p z) 1 0 + times p ys
          each true f g more = let here : weight (p z) ≡ 1 = ap weight f in omega (arith, here)
          each false f g more = omega (arith, more g)

      by : (b : Bool) (o : Option A) → p x ≡ b → find p done ≡ o → option_case (cond b (Some x) o) (find p xs) Some ≡ option_case o (cond b (Some x) (find p xs)) Some
      by true None e f = refl
      by true (Some y) e f =
          let here : weight (p x) ≡ 1 = ap weight e in
          absurd (omega (arith, one, here, some-times done y f))
      by false None e f = refl
      by false (Some y) e f = refl

  pub find-sorted : (xs : List A) → times p xs ≤ 1 → find p (sorted_by cmp xs) ≡ find p xs
  find-sorted xs one = find-onto [] xs (omega (arith, one))

-- an index of rows finds the row with the value among them in whatever order
pub index-finds-sorted : (part : ColPart) (v : Value) (rs : List RowAt) → times (λ r. equal_not_null v (part_value r part)) rs ≤ 1 → row_under (indexed part rs) v ≡ row_with part (sorted_by rowid_cmp rs) v
index-finds-sorted part v rs one = index-finds part v rs one ∙ sym (find-sorted rowid_cmp (λ r. equal_not_null v (part_value r part)) rs one)
