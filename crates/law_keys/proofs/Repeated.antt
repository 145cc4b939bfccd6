-- Which values repeat in a list, by how often each is there.
use Rattle.std.proofs.Common.{◌≡◌, ◌∙◌, sym, ap, refl, subst, arith, ◌+◌, ◌≤◌, Bool, true, false, cond, ◌&&◌, List, [], ◌∷◌, None, Some, is_some, true≢false}
use Rattle.std.specs.Cmp.{eq_by_cmp_equiv}
use Rattle.std.specs.List.{filter, list_any}
use Rattle.std.specs.Ordering.{eq_by_cmp}
use Rattle.std.proofs.lemmas.Bool.Decides.{same_from_decides}
use Rattle.wh_base.proofs.Same.{same_value-Decides}
use Rattle.wh_base.proofs.Sorting.{times}
use Rattle.wh_base.specs.Lists.{repeated_after}
use Rattle.wh_base.specs.Values.{same_value, value_cmp}
use Rattle.wh_base.specs.ValueLaws.{equal_values, value_total}
use Rattle.wh_base.specs.declared.values.Value.{Value}
use Rattle.def_meaning.specs.Meaning.{not_null}
use Rattle.law_keys.proofs.Counts.{any_none, any_some, times_filter, times_never, weight, weight_none, weight_one}

-- ---- the same value

pub same_is : (v w : Value) → same_value v w ≡ true → v ≡ w
same_is v w = (same_value-Decides v w).0

pub same_itself : (v : Value) → same_value v v ≡ true
same_itself v = (same_value-Decides v v).1 refl

pub same_by_cmp : (v w : Value) → eq_by_cmp value_cmp v w ≡ same_value v w
same_by_cmp v w =
    same_from_decides (eq_by_cmp value_cmp v w) (same_value v w)
    (equal_values v w, λ e. subst (λ u. eq_by_cmp value_cmp v u ≡ true) e ((eq_by_cmp_equiv value_total).refl v))
    (same_value-Decides v w)

-- ---- each at the most once, and one twice

pub none_repeated : (seen xs : List Value) → ((v : Value) → times (same_value v) seen + times (same_value v) xs ≤ 1) → repeated_after same_value seen xs ≡ None
none_repeated seen [] h = refl
none_repeated seen (x ∷ xs) h =
    let one : weight (same_value x x) ≡ 1 = weight_one (same_value x x) (same_itself x) in
    let few : times (same_value x) seen + (weight (same_value x x) + times (same_value x) xs) ≤ 1 = h x in
    let absent : list_any (same_value x) seen ≡ false = any_none (same_value x) seen (omega (arith, one, few)) in
    ap (λ b. cond b (Some x) (repeated_after same_value (x ∷ seen) xs)) absent
    ∙ none_repeated (x ∷ seen) xs
    (λ v. let most : times (same_value v) seen + (weight (same_value v x) + times (same_value v) xs) ≤ 1 = h v in omega (arith, most))

pub some_repeated : (v : Value) (seen xs : List Value) → 1 ≤ times (same_value v) xs → 2 ≤ times (same_value v) seen + times (same_value v) xs
    → is_some (repeated_after same_value seen xs) ≡ true
some_repeated v seen [] one two = absurd (omega (arith, one))
some_repeated v seen (x ∷ xs) one two = by (list_any (same_value x) seen) refl (same_value v x) refl (some_repeated v (x ∷ seen) xs)
  where
    by : (b : Bool) → list_any (same_value x) seen ≡ b → (c : Bool) → same_value v x ≡ c
        → (1 ≤ times (same_value v) xs → 2 ≤ weight (same_value v x) + times (same_value v) seen + times (same_value v) xs → is_some (repeated_after same_value (x ∷ seen) xs) ≡ true)
        → is_some (cond b (Some x) (repeated_after same_value (x ∷ seen) xs)) ≡ true
    by true e c f more = refl
    by false e true f more =
        let same : v ≡ x = same_is v x f in
        let w : weight (same_value v x) ≡ 1 = weight_one (same_value v x) f in
        let not_seen : 1 ≤ times (same_value v) seen → ⊥ = λ h. true≢false (sym (any_some (same_value v) seen h) ∙ ap (λ u. list_any (same_value u) seen) same ∙ e) in
        let more_left : 1 ≤ times (same_value v) xs = omega (arith, one, two, w, not_seen) in
        more more_left (omega (arith, two))
    by false e false f more =
        let w : weight (same_value v x) ≡ 0 = weight_none (same_value v x) f in
        more (omega (arith, one, w)) (omega (arith, two))

-- ---- NULLs are left out

null_other : (v x : Value) → not_null v ≡ false → (not_null x && same_value v x) ≡ false
null_other v x h = by (not_null x) refl (same_value v x) refl
  where
    by : (b : Bool) → not_null x ≡ b → (c : Bool) → same_value v x ≡ c → (b && c) ≡ false
    by true e true f = absurd (true≢false (sym e ∙ ap not_null (sym (same_is v x f)) ∙ h))
    by true e false f = refl
    by false e c f = refl

pub no_nulls : (v : Value) (xs : List Value) → not_null v ≡ false → times (same_value v) (filter not_null xs) ≡ 0
no_nulls v xs h = times_filter (same_value v) not_null xs ∙ times_never (λ x. not_null x && same_value v x) xs (λ x. null_other v x h)
