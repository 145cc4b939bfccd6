-- What every step keeps of the views: their numbers ascend, their plain items are grouped, and each one over a view is composed over it.
use Rattle.std.proofs.Common.{◌≡◌, ◌∙◌, sym, ap, subst, refl, arith, ℕ, suc, ◌<◌, ◌≤◌, Bool, true, false, cond, not, List, [], ◌∷◌, ◌++◌, map, Option, Some, None, ◌==◌}
use Rattle.std.proofs.lemmas.Option.{same_Some}
use Rattle.std.specs.List.{filter, find, list_all}
use Rattle.std.specs.Prelude.{◌&&◌, option_and_then, option_map}
use Rattle.std.proofs.lemmas.Bool.{eq-eqb, eqb-true, and_parts}
use Rattle.wh_base.specs.Lists.{all_there, head, option_nat_is, where_true}
use Rattle.wh_base.specs.declared.columns.ColRef.{ColRef}
use Rattle.wh_base.specs.declared.queries.Item.{Item}
use Rattle.wh_base.specs.declared.queries.RawQuery.{RawQuery}
use Rattle.wh_base.specs.declared.queries.StarQuery.{StarQuery}
use Rattle.wh_base.specs.declared.views.ViewDef.{ViewDef}
use Rattle.def_history.specs.Catalog.{View}
use Rattle.def_nest.specs.Compose.{IsComposed, compose, composed_item, composed_query, condition_stands, may_be_nested, order_stands, parts_stand}
use Rattle.def_nest.specs.Names.{grouped_column}
use Rattle.def_resolve.specs.Resolve.{item_is_grouped}
use Rattle.law_nest.specs.Laws.{ItemsAreGrouped}
use Rattle.law_trace.proofs.Listed.{Each, Pairs, each_append, each_filter, each_found, each_map, each_weaker, find_changed, find_without, pairs_filter, pairs_map, pairs_push}
use Rattle.law_lists.proofs.Each.{Each-both}
use Rattle.law_lists.proofs.Options.{find_more}
use Rattle.law_lists.proofs.Numbers.{differs_turned}

-- one definition is the other but for ENABLE or DISABLE QUERY REWRITE
abbrev pub IsSameView : ViewDef → ViewDef → Type 0
IsSameView d e = e ≡ record d { rewrite = e.rewrite }

abbrev pub IsBefore : View → View → Type 0
IsBefore v w = v.def.view < w.def.view

abbrev pub the_number : View → ℕ
the_number v = v.def.view

-- among these views the one with the number n is beneath
pub record Over (views : List View) (v : View) (n : ℕ) : Type 0 where
  pub beneath : View
  pub found : find (λ w. w.def.view == n) views ≡ Some beneath
  pub older : n < v.def.view
  pub composed : IsComposed v.def beneath.def

abbrev pub IsOver : List View → View → Type 0
IsOver views v = (n : ℕ) → v.def.beneath ≡ Some n → Over views v n

abbrev pub IsGrouped : View → Type 0
IsGrouped v = v.def.query.grouped ≡ true → ItemsAreGrouped v.def

pub record Standing (views : List View) (made : ℕ) : Type 0 where
  pub ascending : Pairs IsBefore views
  pub few : Each (λ v. v.def.view ≤ made) views
  pub grouped : Each IsGrouped views
  pub over : Each (IsOver views) views

-- ---- what composition says

module _ (q : RawQuery) (d : ViewDef) (n : StarQuery) where
  built_says : (items : List Item) (keys : List ColRef) (b : Bool) → (may_be_nested q d && parts_stand q d items keys) ≡ b → where_true b (composed_query q d items keys) ≡ Some n
      → (d.query.grouped ≡ true) × (list_all (item_is_grouped n.keys) n.items ≡ true)
  built_says items keys false e h = cc
  built_says items keys true e h =
      let both : (may_be_nested q d ≡ true) × (parts_stand q d items keys ≡ true) = and_parts (may_be_nested q d) (parts_stand q d items keys) e in
      let five : (list_all (item_is_grouped keys) items && list_all (λ k. order_stands d q items k.what) q.order) ≡ true
      = (and_parts (list_all (condition_stands d) q.conditions) (list_all (item_is_grouped keys) items && list_all (λ k. order_stands d q items k.what) q.order) both.1).1 in (
        (and_parts d.query.grouped _ both.0).0,
        subst (λ (m : StarQuery). list_all (item_is_grouped m.keys) m.items ≡ true) (same_Some (composed_query q d items keys) n h)
            (and_parts (list_all (item_is_grouped keys) items) (list_all (λ k. order_stands d q items k.what) q.order) five).0,
      )

  parts_say : (o : Option (List Item)) (p : Option (List ColRef))
      → option_and_then (λ items. option_and_then (λ keys. where_true (may_be_nested q d && parts_stand q d items keys) (composed_query q d items keys)) p) o ≡ Some n
      → (d.query.grouped ≡ true) × (list_all (item_is_grouped n.keys) n.items ≡ true)
  parts_say None p h = cc
  parts_say (Some items) None h = cc
  parts_say (Some items) (Some keys) h = built_says items keys (may_be_nested q d && parts_stand q d items keys) refl h

  -- the view beneath is an aggregate view, and the composed plain items are group columns
  pub compose_says : compose q d ≡ Some n → (d.query.grouped ≡ true) × (list_all (item_is_grouped n.keys) n.items ≡ true)
  compose_says h = parts_say (all_there (map (λ i. composed_item d i.what) q.items)) (all_there (map (grouped_column d) q.groups)) h

-- ---- a view changed

abbrev pub changed : ℕ → (View → View) → View → View
changed n f v = cond (v.def.view == n) (f v) v

pub changed_same : (n : ℕ) (f : View → View) → ((v : View) → IsSameView v.def (f v).def) → (v : View) → IsSameView v.def (changed n f v).def
changed_same n f keeps v = by (v.def.view == n)
  where
    by : (b : Bool) → IsSameView v.def (cond b (f v) v).def
    by true = keeps v
    by false = refl

-- composition doesn't depend on `rewrite`
composed_same : (d e d' e' : ViewDef) → IsSameView d d' → IsSameView e e' → IsComposed d e → IsComposed d' e'
composed_same d e d' e' h k is =
    let asked : RawQuery = is.asked in
    let first : IsComposed (record d { rewrite = d'.rewrite }) (record e { rewrite = e'.rewrite }) = record { asked = asked; query_is = is.query_is; tables_are = is.tables_are } in
    subst (λ x. IsComposed x e') (sym h) (subst (λ x. IsComposed (record d { rewrite = d'.rewrite }) x) (sym k) first)

found_changed : (g : View → View) → ((v : View) → IsSameView v.def (g v).def) → (views : List View) (n : ℕ) (w : View) → find (λ v. v.def.view == n) views ≡ Some w → find (λ v. v.def.view == n) (map g views) ≡ Some (g w)
found_changed g keeps views n w found =
    find_changed the_number g (λ v. ap (λ (d : ViewDef). d.view) (keeps v)) n views ∙ ap (option_map g) found

pub standing_changed : (g : View → View) → ((v : View) → IsSameView v.def (g v).def) → (views : List View) (made : ℕ) → Standing views made → Standing (map g views) made
standing_changed g keeps views made h =
    let number : (v : View) → (g v).def.view ≡ v.def.view = λ v. ap (λ (d : ViewDef). d.view) (keeps v) in
    record {
      ascending = pairs_map IsBefore g (λ v w below. omega (arith, number v, number w, below)) views h.ascending;
      few = each_map (λ v. v.def.view ≤ made) (λ v. v.def.view ≤ made) g (λ v is. omega (arith, number v, is)) views h.few;
      grouped = each_map IsGrouped IsGrouped g
          (λ v is. subst (λ (d : ViewDef). d.query.grouped ≡ true → ItemsAreGrouped d) (sym (keeps v)) is) views h.grouped;
      over = each_map (IsOver views) (IsOver (map g views)) g
          (λ v is n e.
          let was : v.def.beneath ≡ Some n = sym (ap (λ (d : ViewDef). d.beneath) (keeps v)) ∙ e in
          let o : Over views v n = is n was in
          record {
            beneath = g o.beneath;
            found = found_changed g keeps views n o.beneath o.found;
            older = omega (arith, number v, o.older);
            composed = composed_same v.def o.beneath.def (g v).def (g o.beneath).def (keeps v) (keeps o.beneath) o.composed;
          }) views h.over;
    }

-- ---- a view more

over_more : (views : List View) (u v : View) → IsOver views v → IsOver (views ++ u ∷ []) v
over_more views u v is n e =
    let o : Over views v n = is n e in
    record { beneath = o.beneath; found = find_more (λ w. w.def.view == n) views (u ∷ []) o.beneath o.found; older = o.older; composed = o.composed }

pub standing_added : (views : List View) (made : ℕ) (v : View) → v.def.view ≡ suc made → IsGrouped v → IsOver views v → Standing views made → Standing (views ++ v ∷ []) (suc made)
standing_added views made v number grouped over h =
    record {
      ascending = pairs_push IsBefore views v h.ascending (each_weaker (λ w. w.def.view ≤ made) (λ w. IsBefore w v) (λ w is. omega (arith, is, number)) views h.few);
      few = each_append (λ w. w.def.view ≤ suc made) views (v ∷ []) (each_weaker (λ w. w.def.view ≤ made) (λ w. w.def.view ≤ suc made) (λ w is. omega (arith, is)) views h.few) (omega (arith, number), tt);
      grouped = each_append IsGrouped views (v ∷ []) h.grouped (grouped, tt);
      over = each_append (IsOver (views ++ v ∷ [])) views (v ∷ []) (each_weaker (IsOver views) (IsOver (views ++ v ∷ [])) (over_more views v) views h.over) (over_more views v v over, tt);
    }

-- what is found by any test is found by its number
pub found_number : (p : View → Bool) (views : List View) (w : View) → Pairs IsBefore views → find p views ≡ Some w → find (λ v. v.def.view == w.def.view) views ≡ Some w
found_number p [] w up e = cc
found_number p (v ∷ views) w up e = by (p v) e (found_number p views w up.1)
  where
    other : (b : Bool) → (v.def.view == w.def.view) ≡ b → v.def.view < w.def.view → find (λ u. u.def.view == w.def.view) views ≡ Some w
        → cond b (Some v) (find (λ u. u.def.view == w.def.view) views) ≡ Some w
    other true e below k = let same : v.def.view ≡ w.def.view = eqb-true v.def.view w.def.view e in absurd (omega (arith, same, below))
    other false e below k = k

    by : (b : Bool) → cond b (Some v) (find p views) ≡ Some w → (find p views ≡ Some w → find (λ u. u.def.view == w.def.view) views ≡ Some w)
        → find (λ u. u.def.view == w.def.view) (v ∷ views) ≡ Some w
    by true e k = subst (λ (x : View). find (λ u. u.def.view == w.def.view) (x ∷ views) ≡ Some w) (sym (same_Some v w e)) (ap (λ b. cond b (Some w) (find (λ u. u.def.view == w.def.view) views)) (eq-eqb w.def.view w.def.view refl))
    by false e k = other (v.def.view == w.def.view) refl (each_found (IsBefore v) p views w up.0 e) (k e)

-- ---- a view less

none_head : {A : Type 0} (p : A → Bool) (xs : List A) → head (filter p xs) ≡ None → Each (λ x. p x ≡ false) xs
none_head p [] e = tt
none_head p (x ∷ xs) e = by (p x) refl e (none_head p xs)
  where
    by : (b : Bool) → p x ≡ b → head (cond b (x ∷ filter p xs) (filter p xs)) ≡ None → (head (filter p xs) ≡ None → Each (λ y. p y ≡ false) xs) → Each (λ y. p y ≡ false) (x ∷ xs)
    by true h e k = cc
    by false h e k = (h, k e)

pub standing_dropped : (views : List View) (made m : ℕ) → head (filter (λ v. option_nat_is v.def.beneath m) views) ≡ None → Standing views made
    → Standing (filter (λ w. not (w.def.view == m)) views) made
standing_dropped views made m free h =
    record {
      ascending = pairs_filter IsBefore (λ w. not (w.def.view == m)) views h.ascending;
      few = each_filter (λ v. v.def.view ≤ made) (λ w. not (w.def.view == m)) views h.few;
      grouped = each_filter IsGrouped (λ w. not (w.def.view == m)) views h.grouped;
      over = each_filter (IsOver (filter (λ w. not (w.def.view == m)) views)) (λ w. not (w.def.view == m)) views
          (each_weaker (λ v. IsOver views v × (option_nat_is v.def.beneath m ≡ false)) (IsOver (filter (λ w. not (w.def.view == m)) views))
          (λ v both n e.
          let o : Over views v n = both.0 n e in
          let differ : (n == m) ≡ false = ap (λ x. option_nat_is x m) (sym e) ∙ both.1 in
          record { beneath = o.beneath; found = find_without the_number m n views (differs_turned n m differ) ∙ o.found; older = o.older; composed = o.composed })
          views (Each-both (IsOver views) (λ v. option_nat_is v.def.beneath m ≡ false) views h.over (none_head (λ v. option_nat_is v.def.beneath m) views free)));
    }
