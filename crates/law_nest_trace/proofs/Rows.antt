-- What a refresh computes of a view over a view is its query over the new rows of the view beneath.
use Rattle.std.proofs.Common.{◌≡◌, ◌∙◌, sym, ap, subst, refl, ℕ, cond, List, [], ◌∷◌, ◌++◌, map, length, Option, Some, None, ◌==◌}
use Rattle.std.proofs.lemmas.Option.{none-some, same_Some}
use Rattle.std.specs.List.{find}
use Rattle.std.specs.Prelude.{Err, Ok, Result, is_none, option_and_then, option_map, unwrap_or}
use Rattle.std.proofs.lemmas.Bool.{eqb-true}
use Rattle.wh_base.specs.Lists.{first_some, option_case, same_text, unless, ◌>>=◌}
use Rattle.wh_base.specs.declared.replies.Refusal.{Refusal}
use Rattle.wh_base.specs.declared.replies.Refusal.TheVariants.{FastRefused, PartitionRefused}
use Rattle.wh_base.specs.declared.statements.Method.{Method}
use Rattle.wh_base.specs.declared.statements.Method.TheVariants.{Complete, Fast, Force, Partition}
use Rattle.wh_base.specs.declared.statements.RefreshView.{RefreshView}
use Rattle.wh_base.specs.declared.views.ViewEntry.{ViewEntry}
use Rattle.def_history.specs.Catalog.{Catalog, View, base_at, view_named, view_numbered}
use Rattle.def_history.specs.Staleness.{part_restriction, restriction}
use Rattle.def_journal.specs.Journal.{state_of}
use Rattle.def_journal.specs.Listing.{all_names, by_turns, computed_each, computed_list, or_having_read, reads_so_far, views_named}
use Rattle.def_journal.specs.Refreshing.{Computed, Listed, asked_method, computed, computed_by, computed_for, computed_over, nested_refusal, new_point, point_beneath, refusal_by}
use Rattle.def_meaning.specs.Meaning.{stored}
use Rattle.law_nest.specs.Laws.{ItemsAreGrouped}
use Rattle.law_nest.specs.Rolled.{rolled_view}
use Rattle.law_nest.proofs.Nested.{nested_means_law}
use Rattle.law_lists.proofs.Each.{Each-both, Each-given}
use Rattle.law_lists.proofs.Options.{find_passes}
use Rattle.law_nest_trace.specs.Rolls.{ListsRoll, OneRolls, Rolls}
use Rattle.law_trace.proofs.Listed.{Each, each_append, each_found, each_weaker, each_unmap}
use Rattle.law_nest_trace.proofs.Moving.{Computes, Made, Pointed, all_pointed, computes, made_views, pointed}
use Rattle.law_nest_trace.proofs.Standing.{IsGrouped, IsOver, Over, compose_says, found_number}
use Rattle.law_nest_trace.proofs.Stepping.{Stands, good_of, trace_stands}
use Rattle.law_nest_trace.proofs.Turns.{turn_within, turns_follow}

-- ---- by whatever way, the rows are those of the definition at the new point

abbrev pub RowsAt : Catalog → View → ℕ → List ViewEntry → Type 0
RowsAt c v p rows = rows ≡ stored v.def.query (base_at c p)

unless_rows : (c : Catalog) (v : View) (p : ℕ) (o : Option Refusal) (y x : Computed) → RowsAt c v p y.rows → unless o y ≡ Ok x → RowsAt c v p x.rows
unless_rows c v p None y x h e = let same : y ≡ x = cc in subst (λ (z : Computed). RowsAt c v p z.rows) same h
unless_rows c v p (Some code) y x h e = cc

computed_rows : (c : Catalog) (v : View) (m : Method) (x : Computed) → computed c v m ≡ Ok x → RowsAt c v c.scn x.rows
computed_rows c v Fast x e = unless_rows c v c.scn (refusal_by c FastRefused (restriction c v)) (computed_by c v Fast) x refl e
computed_rows c v Partition x e = unless_rows c v c.scn (refusal_by c PartitionRefused (part_restriction c v)) (computed_by c v Partition) x refl e
computed_rows c v Complete x e = unless_rows c v c.scn None (computed_by c v Complete) x refl e
computed_rows c v Force x e = unless_rows c v c.scn None (computed_by c v (cond (is_none (restriction c v)) Fast Complete)) x refl e

for_rows : (c : Catalog) (done : List Listed) (r : RefreshView) (v : View) (x : Computed) → computed_for c done r v ≡ Ok x → RowsAt c v (new_point c done v) x.rows
for_rows c done r v x e = by v.def.beneath refl e
  where
    by : (o : Option ℕ) → v.def.beneath ≡ o → option_case o (computed c v (asked_method r v)) (λ n. unless (nested_refusal c done r v n) (computed_over c done v)) ≡ Ok x → RowsAt c v (new_point c done v) x.rows
    by None h e =
        let point : c.scn ≡ new_point c done v = sym (ap (λ o. option_case o c.scn (λ n. unwrap_or (point_beneath c done n) 0)) h) in
        subst (λ p. RowsAt c v p x.rows) point (computed_rows c v (asked_method r v) x e)
    by (Some n) h e = unless_rows c v (new_point c done v) (nested_refusal c done r v n) (computed_over c done v) x refl e

abbrev pub Rowed : Catalog → Listed → Type 0
Rowed c l = RowsAt c l.view l.point l.computed.rows

each_rowed : (c : Catalog) (r : RefreshView) (done : List Listed) (vs : List View) (out : List Listed) → computed_each c r done vs ≡ Ok out → Each (Rowed c) done → Each (Rowed c) out
each_rowed c r done [] out e h = let same : done ≡ out = cc in subst (Each (Rowed c)) same h
each_rowed c r done (v ∷ vs) out e h = by (computed_for c done r v) refl e (λ l. each_rowed c r (done ++ l ∷ []) vs out)
  where
    by : (o : Result Computed Refusal) → computed_for c done r v ≡ o
        → (or_having_read (reads_so_far done) o >>= (λ x. computed_each c r (done ++ record { view = v; point = new_point c done v; computed = x } ∷ []) vs)) ≡ Ok out
        → ((l : Listed) → computed_each c r (done ++ l ∷ []) vs ≡ Ok out → Each (Rowed c) (done ++ l ∷ []) → Each (Rowed c) out) → Each (Rowed c) out
    by (Err code) g e k = cc
    by (Ok x) g e k =
        let l : Listed = record { view = v; point = new_point c done v; computed = x } in
        k l e (each_append (Rowed c) done (l ∷ []) h (for_rows c done r v x g, tt))

-- ---- rolled from the rows beneath

abbrev pub IsFound : Catalog → View → Type 0
IsFound c v = find (λ u. u.def.view == v.def.view) c.views ≡ Some v

-- one view, with what was computed around it
rolls : (c : Catalog) (done : List Listed) → Stands c → Each (λ l. IsFound c l.view × Rowed c l) done
    → (v : View) (n p : ℕ) (rows : List ViewEntry) → Over c.views v n → RowsAt c v p rows → point_beneath c done n ≡ Some p → Rolls c done v n rows
rolls c done h around v n p rows o at point =
    let grouped : ItemsAreGrouped o.beneath.def
    = each_found IsGrouped (λ w. w.def.view == n) c.views o.beneath h.grouped o.found (compose_says o.composed.asked o.beneath.def v.def.query o.composed.query_is).0 in
    let rolled : rows ≡ rolled_view o.composed.asked o.beneath.def (stored o.beneath.def.query (base_at c p))
    = at ∙ nested_means_law v.def o.beneath.def (base_at c p) o.composed grouped in
    record {
      beneath = o.beneath;
      found = o.found;
      composed = o.composed;
      listed = λ l e.
          let here : IsFound c l.view × Rowed c l = each_found (λ m. IsFound c m.view × Rowed c m) (λ m. m.view.def.view == n) done l around e in
          let number : l.view.def.view ≡ n = eqb-true l.view.def.view n (find_passes (λ m. m.view.def.view == n) done l e) in
          let same : l.view ≡ o.beneath = same_Some l.view o.beneath (sym here.0 ∙ ap (λ k. find (λ u. u.def.view == k) c.views) number ∙ o.found) in
          let points : l.point ≡ p
          = same_Some l.point p (sym (ap (λ x. first_some (option_map (λ m. m.point) x ∷ option_and_then (λ w. w.point) (view_numbered c n) ∷ [])) e) ∙ point) in
          let beneath : l.computed.rows ≡ stored o.beneath.def.query (base_at c p)
          = here.1 ∙ ap (λ (w : View). stored w.def.query (base_at c l.point)) same ∙ ap (λ k. stored o.beneath.def.query (base_at c k)) points in
          rolled ∙ ap (rolled_view o.composed.asked o.beneath.def) (sym beneath);
      unlisted = λ e.
          let alone : first_some (option_and_then (λ w. w.point) (view_numbered c n) ∷ []) ≡ Some p
          = sym (ap (λ x. first_some (option_map (λ (m : Listed). m.point) x ∷ option_and_then (λ w. w.point) (view_numbered c n) ∷ [])) e) ∙ point in
          let own : o.beneath.point ≡ Some p = lone o.beneath.point p (sym (ap (λ x. first_some (option_and_then (λ (w : View). w.point) x ∷ [])) o.found) ∙ alone) in
          rolled ∙ ap (rolled_view o.composed.asked o.beneath.def) (sym (ap (λ x. option_case x [] (λ k. stored o.beneath.def.query (base_at c k))) own));
    }
  where
    lone : (x : Option ℕ) (p : ℕ) → first_some (x ∷ []) ≡ Some p → x ≡ Some p
    lone None p e = absurd (none-some p e)
    lone (Some m) p e = e

list_rolls : (c : Catalog) → Stands c → (r : RefreshView) (done : List Listed) → computed_list c r ≡ Ok done
    → Each (λ l. (n : ℕ) → l.view.def.beneath ≡ Some n → Rolls c done l.view n l.computed.rows) done
list_rolls c h r done is =
    each_weaker (λ l. (IsOver c.views l.view × Rowed c l) × Pointed c done l.view l.point) (λ l. (n : ℕ) → l.view.def.beneath ≡ Some n → Rolls c done l.view n l.computed.rows)
    (λ l all n e. rolls c done h around l.view n l.point l.computed.rows (all.0.0 n e) all.0.1 (all.1.1 n e)) done
    (Each-both (λ l. IsOver c.views l.view × Rowed c l) (λ l. Pointed c done l.view l.point) done
    (Each-both (λ l. IsOver c.views l.view) (Rowed c) done over rowed) points)
  where
    all : Computes c [] (by_turns (views_named c r)) done
    all = computes c r [] (by_turns (views_named c r)) done is

    made : Made c [] (by_turns (views_named c r)) done
    made = subst (Made c [] (by_turns (views_named c r))) (sym all.out_is) all.made

    views_are : map (λ l. l.view) done ≡ by_turns (views_named c r)
    views_are = made_views c [] (by_turns (views_named c r)) done made

    points : Each (λ l. Pointed c done l.view l.point) done
    points =
        all_pointed c [] (by_turns (views_named c r)) done made (turns_follow (length (views_named c r)) (views_named c r)).0 (turns_follow (length (views_named c r)) (views_named c r)).1

    rowed : Each (Rowed c) done
    rowed = each_rowed c r [] (by_turns (views_named c r)) done is tt

    within : (P : View → Type 0) → ((name : List ℕ) (v : View) → view_named c name ≡ Some v → P v) → Each (λ l. P l.view) done
    within P k = each_unmap P (λ l. l.view) done (subst (Each P) (sym views_are) (turn_within P (length (views_named c r)) (views_named c r) (Each-given P (view_named c) k (all_names r))))

    over : Each (λ l. IsOver c.views l.view) done
    over = within (IsOver c.views) (λ name v e. each_found (IsOver c.views) (λ u. same_text u.def.name name) c.views v h.over e)

    around : Each (λ l. IsFound c l.view × Rowed c l) done
    around = Each-both (λ l. IsFound c l.view) (Rowed c) done (within (IsFound c) (λ name v e. found_number (λ u. same_text u.def.name name) c.views v h.ascending e)) rowed

pub lists_roll_law : ListsRoll
lists_roll_law trace k b r done begun is = list_rolls b.image (good_of (state_of trace) k (trace_stands trace) b begun) r done is

pub one_rolls_law : OneRolls
one_rolls_law trace k b r v x begun found is n e = by b.view found
  where
    h : Stands b.image
    h = good_of (state_of trace) k (trace_stands trace) b begun

    by : (o : Option ℕ) → option_and_then (view_numbered b.image) o ≡ Some v → Rolls b.image [] v n x.rows
    by None g = absurd (none-some v g)
    by (Some m) g =
        rolls b.image [] h tt v n (new_point b.image [] v) x.rows (each_found (IsOver b.image.views) (λ u. u.def.view == m) b.image.views v h.over g n e)
        (for_rows b.image [] r v x is) ((pointed b.image [] r v x is).1 n e)
