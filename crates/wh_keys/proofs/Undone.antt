-- What a note of each change takes back.
use Rattle.std.proofs.Common.{◌≡◌, ◌∙◌, sym, ap, refl, Bool, true, false, cond, List, [], ◌∷◌, ◌++◌, Some, None, Option}
use Rattle.std.specs.Cmp.{IsTotalOrder}
use Rattle.std.specs.Ordering.{eq_by_cmp}
use Rattle.std.specs.declared.cmp.Ordering.{Ordering}
use Rattle.std.specs.FinMap as map
use Rattle.wh_keyindex.proofs.Looked.{is_equal}
use Rattle.wh_keys.specs.Undoing.{set_to, undone}
use Rattle.wh_keys.specs.declared.was.Was.{Was}

module _ {K X : Type 0} {R : K → K → Ordering} (o : IsTotalOrder R) (same : map.IsAntisymmetric R) where
  -- what a key has once it is set
  get-set_to : (m : map.FinMap R X) (k : K) (v : Option X) (q : K) → map.get (set_to m k v) q ≡ cond (eq_by_cmp R q k) v (map.get m q)
  get-set_to m k None q = map.get-remove o m k q
  get-set_to m k (Some x) q = map.get-insert o m k x q

  -- a key set twice has what it is set to last
  pub set_twice : (m : map.FinMap R X) (k : K) (v w : Option X) → set_to (set_to m k v) k w ≡ set_to m k w
  set_twice m k v w =
      map.same_map o same _ _
      (λ q.
      get-set_to (set_to m k v) k w q ∙ ap (cond (eq_by_cmp R q k) w) (get-set_to m k v q) ∙ by (eq_by_cmp R q k) (map.get m q) ∙ sym (get-set_to m k w q))
    where
      by : (b : Bool) (had : Option X) → cond b w (cond b v had) ≡ cond b w had
      by true had = refl
      by false had = refl

  -- a key that is set to what it has
  pub set_as_it_is : (m : map.FinMap R X) (k : K) → set_to m k (map.get m k) ≡ m
  set_as_it_is m k = map.same_map o same _ _ (λ q. get-set_to m k (map.get m k) q ∙ by q (eq_by_cmp R q k) refl)
    where
      by : (q : K) (b : Bool) → eq_by_cmp R q k ≡ b → cond b (map.get m k) (map.get m q) ≡ map.get m q
      by q true e = map.get_tied o m q k (is_equal (R q k) e)
      by q false e = refl

  -- what is noted last is taken back first
  pub undone-push : (log : List (Was K X)) (w : Was K X) (m : map.FinMap R X) → undone (log ++ w ∷ []) m ≡ undone log (set_to m w.key w.value)
  undone-push [] w m = refl
  undone-push (v ∷ log) w m = ap (λ n. set_to n v.key v.value) (undone-push log w m)

  -- a change that is noted with what the key had
  pub undone_noted : (log : List (Was K X)) (m : map.FinMap R X) (k : K) (v : Option X) → undone (log ++ record { key = k; value = map.get m k } ∷ []) (set_to m k v) ≡ undone log m
  undone_noted log m k v =
      undone-push log (record { key = k; value = map.get m k }) (set_to m k v)
      ∙ ap (undone log) (set_twice m k v (map.get m k) ∙ set_as_it_is m k)

  -- the same where each part stands for itself
  pub undone_change : (log log1 log2 : List (Was K X)) (m m1 m2 : map.FinMap R X) (k noted : K) (v w : Option X) → log1 ≡ log → m1 ≡ m → noted ≡ k → w ≡ map.get m1 k
      → log2 ≡ log1 ++ record { key = noted; value = w } ∷ [] → m2 ≡ set_to m1 k v → undone log2 m2 ≡ undone log m
  undone_change log log1 log2 m m1 m2 k noted v w same_log same_map is_key is_value is_log is_map =
      let had : w ≡ map.get m k = is_value ∙ ap (λ n. map.get n k) same_map in
      (λ i. undone (is_log i) (is_map i))
      ∙ (λ i. undone (same_log i ++ record { key = is_key i; value = had i } ∷ []) (set_to (same_map i) k v))
      ∙ undone_noted log m k v
