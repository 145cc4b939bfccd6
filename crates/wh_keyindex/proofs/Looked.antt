-- A list of entries, each key once, as a finite map.
use Rattle.std.proofs.Common.{◌≡◌, ◌∙◌, sym, ap, refl, Bool, true, false, cond, List, [], ◌∷◌, ◌+◌, Some, None, Option, length, is_some, add-one}
use Rattle.std.specs.Cmp.{IsTotalOrder, eq_by_cmp_equiv}
use Rattle.std.specs.List.{IsDistinct, filter}
use Rattle.std.specs.Map.{lookup, keys_of}
use Rattle.std.specs.Ordering.{eq_by_cmp, is_eq}
use Rattle.std.specs.declared.cmp.Ordering.{Ordering}
use Rattle.std.specs.declared.cmp.Ordering.TheVariants.{Less, Equal, Greater}
use Rattle.std.specs.FinMap as map
use Rattle.std.proofs.lemmas.Map.{lookup-none}
use Rattle.std.proofs.lemmas.Map.Entries.{lookup-filter-values, option_filter, none_past_head}
use Rattle.std.proofs.lemmas.Map.Keys.{IsDistinct-tail}
use Rattle.wh_base.specs.Lists.{option_case}

pub is_equal : (o : Ordering) → is_eq o ≡ true → o ≡ Equal
is_equal Less h = cc
is_equal Equal h = refl
is_equal Greater h = cc

-- what a map finds that keeps the keys with certain values
kept_value : {X : Type 0} (p : X → Bool) (o : Option X) → option_filter p o ≡ cond (option_case o false p) o None
kept_value p None = refl
kept_value p (Some x) = refl

module _ {K X : Type 0} {R : K → K → Ordering} (o : IsTotalOrder R) (same : map.IsAntisymmetric R) where
  -- the map of entries finds what the entries have
  find-lookup : (es : List (K × X)) (q : K) → map.find R q es ≡ lookup (eq_by_cmp R q) es
  find-lookup [] q = refl
  find-lookup (e ∷ es) q = ap (cond (eq_by_cmp R q e.0) (Some e.1)) (find-lookup es q)

  pub get-lookup : (es : List (K × X)) (q : K) → map.get (map.from_entries {R = R} es) q ≡ lookup (eq_by_cmp R q) es
  get-lookup es q = map.get-from_entries o es q ∙ find-lookup es q

  -- at all keys but one the entries have what they had
  pub inserted : (old new : List (K × X)) (k : K) (v : X) → ((q : K) → lookup (eq_by_cmp R q) new ≡ cond (eq_by_cmp R k q) (Some v) (lookup (eq_by_cmp R q) old))
      → map.from_entries {R = R} new ≡ map.insert (map.from_entries old) k v
  inserted old new k v h =
      map.same_map o same _ _
      (λ q.
      get-lookup new q ∙ h q ∙ ap (λ b. cond b (Some v) (lookup (eq_by_cmp R q) old)) ((eq_by_cmp_equiv o).symm k q)
      ∙ ap (cond (eq_by_cmp R q k) (Some v)) (sym (get-lookup old q)) ∙ sym (map.get-insert o (map.from_entries old) k v q))

  pub removed : (old new : List (K × X)) (k : K) → ((q : K) → lookup (eq_by_cmp R q) new ≡ cond (eq_by_cmp R k q) None (lookup (eq_by_cmp R q) old))
      → map.from_entries {R = R} new ≡ map.remove (map.from_entries old) k
  removed old new k h =
      map.same_map o same _ _
      (λ q.
      get-lookup new q ∙ h q ∙ ap (λ b. cond b None (lookup (eq_by_cmp R q) old)) ((eq_by_cmp_equiv o).symm k q)
      ∙ ap (cond (eq_by_cmp R q k) None) (sym (get-lookup old q)) ∙ sym (map.get-remove o (map.from_entries old) k q))

  -- the entries whose values pass the test
  pub kept : (es : List (K × X)) (p : X → Bool) → IsDistinct (eq_by_cmp R) (keys_of es)
      → map.from_entries {R = R} (filter (λ e. p e.1) es) ≡ map.retain_keys (map.from_entries es) (λ key. option_case (map.get (map.from_entries {R = R} es) key) false p)
  kept es p distinct =
      let m = map.from_entries {R = R} es in
      let test : K → Bool = λ key. option_case (map.get m key) false p in
      map.same_map o same _ _
      (λ q.
      get-lookup (filter (λ e. p e.1) es) q
      ∙ lookup-filter-values (eq_by_cmp_equiv o) p q es distinct
      ∙ ap (option_filter p) (sym (get-lookup es q))
      ∙ kept_value p (map.get m q)
      ∙ sym (map.get-retain_keys m test q (λ x tied. ap test (sym (same q x tied)))))

  -- as many as there are entries
  pub counted : (es : List (K × X)) → IsDistinct (eq_by_cmp R) (keys_of es) → map.len (map.from_entries {R = R} es) ≡ length es
  counted [] distinct = map.len-empty R X
  counted (e ∷ es) distinct =
      let new : lookup (eq_by_cmp R e.0) es ≡ None = lookup-none (eq_by_cmp R e.0) es (none_past_head (eq_by_cmp_equiv o) e.0 e es distinct ((eq_by_cmp_equiv o).refl e.0)) in
      let absent : is_some (map.get (map.from_entries {R = R} es) e.0) ≡ false = ap is_some (get-lookup es e.0 ∙ new) in
      map.len-insert o (map.from_entries es) e.0 e.1
      ∙ ap (λ b. cond b (map.len (map.from_entries {R = R} es)) (map.len (map.from_entries {R = R} es) + 1)) absent
      ∙ ap (λ n. n + 1) (counted es (IsDistinct-tail (eq_by_cmp R) e.0 (keys_of es) distinct))
      ∙ add-one (length es)
