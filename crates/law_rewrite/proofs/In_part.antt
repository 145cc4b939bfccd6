-- A view that is stale in part, and answers for its fresh keys; and with it every class that a view may be eligible with.
use Rattle.std.proofs.Common.{◌≡◌, ◌∙◌, sym, ap, subst, refl, ℕ, Bool, true, false, cond, not, List, [], Option, Some, None}
use Rattle.std.specs.Prelude.{◌&&◌, ◌==◌, is_none, option_and_then, option_map}
use Rattle.std.proofs.lemmas.Bool.{and_parts}
use Rattle.wh_base.specs.Lists.{has_number, is_empty, option_case}
use Rattle.wh_base.specs.Tables.{Base}
use Rattle.wh_base.specs.declared.columns.ColPart.TheVariants.{Col}
use Rattle.wh_base.specs.declared.queries.StarQuery.{StarQuery}
use Rattle.wh_base.specs.declared.statements.Level.{Level}
use Rattle.wh_base.specs.declared.tables.TableDef.{TableDef}
use Rattle.wh_base.specs.declared.views.Back.{Back}
use Rattle.wh_base.specs.declared.views.Class.{Class}
use Rattle.wh_base.specs.declared.views.Class.TheVariants.{Concat}
use Rattle.wh_base.specs.declared.views.ViewState.TheVariants.{Fresh, Partly, Stale, Unbuilt}
use Rattle.wh_base.specs.declared.tokens.Token.{Token}
use Rattle.def_choice.specs.Choice.{full_standing}
use Rattle.def_choice.specs.Concat.{concat_holds, fails_e8_alone, is_partly, or_concat, serves_in_part, tracks_table_of}
use Rattle.def_choice.specs.Eligible.{Eligible, Failing, Standing, asks_freshness, form_failure, holds_e8, holds_e9, earlier_failure, standing}
use Rattle.def_history.specs.Catalog.{Catalog, View, base_at, base_now, defs_now}
use Rattle.def_history.specs.Staleness.{content, facts_of, stale_intervals, view_state}
use Rattle.def_meaning.specs.Joined.{rows_at}
use Rattle.def_meaning.specs.Meaning.{in_order, meaning}
use Rattle.def_restrictions.specs.Definition.{selects_column, selects_key, tracked, tracked_key}
use Rattle.def_restrictions.specs.Restrictions.{first_part_restriction, is_fresh}
use Rattle.def_rewriting.specs.Classes.{class_rows}
use Rattle.def_rewriting.specs.Compatible.{compatible, failing}
use Rattle.def_rewriting.specs.Concat.{concat_rows}
use Rattle.def_rewriting.specs.Reaching.{reach}
use Rattle.def_rewriting.specs.Rollup.{computable}
use Rattle.law_lists.proofs.Lists.{no_elements}
use Rattle.law_lists.proofs.Each.{Each-map}
use Rattle.law_lists.proofs.Options.{was_none}
use Rattle.law_rewrite.specs.Standing.{StarsKept, TextsKept, ViewKept}
use Rattle.law_rewrite.proofs.Concat_law.{concat_means, tables_within}
use Rattle.law_rewrite.proofs.Mixed.{each_has}
use Rattle.law_rewrite.proofs.Reached.{at_own}
use Rattle.law_rewrite.proofs.Standing_law.{content_is, holds_of, earlier_none, others_same, standing_means}
use Rattle.wh_base.specs.declared.views.Requirement.{Requirement}
use Rattle.wh_base.specs.declared.views.Requirement.TheVariants as requirement

partly_by : (a b d : Bool) → is_partly (cond a Unbuilt (cond b Fresh (cond d Partly Stale))) ≡ true → d ≡ true
partly_by true b d h = cc
partly_by false true d h = cc
partly_by false false true h = refl
partly_by false false false h = cc

module _ (c : Catalog) (level : Level) (asks : asks_freshness level ≡ true) (q : StarQuery) (v : View) (p : ℕ) (built : v.point ≡ Some p) (stars : StarsKept c level q v p) (kept : ViewKept c v p) where
  abbrev at_point : Base
  at_point = base_at c p

  abbrev later : Base
  later = base_now c

  abbrev form : StarQuery
  form = v.def.query

  abbrev failed : Option Requirement
  failed = (reach (defs_now c) c.dimensions level q form).failed

  abbrev Goal : Type 0
  Goal = in_order q.order (class_rows (defs_now c) later q form (tracked_key v.def) (stale_intervals c v) Concat [] (content c v)) ≡ meaning q later

  part_means : (enabled : Bool) → concat_holds c q level enabled v ≡ true → Goal
  part_means enabled h = by_tracked (tracked v.def) refl ours.1
    where
      two : (fails_e8_alone c q level enabled v ≡ true) × (serves_in_part c q v ≡ true)
      two = and_parts (fails_e8_alone c q level enabled v) (serves_in_part c q v) (and_parts (asks_freshness level) (fails_e8_alone c q level enabled v && serves_in_part c q v) h).1

      passes : (is_none (form_failure c q level v (reach (defs_now c) c.dimensions level q form)) ≡ true) × (is_empty (reach (defs_now c) c.dimensions level q form).back ≡ true)
      passes =
          and_parts (is_none (form_failure c q level v (reach (defs_now c) c.dimensions level q form))) (is_empty (reach (defs_now c) c.dimensions level q form).back)
          (and_parts (is_none (form_failure c q level v (reach (defs_now c) c.dimensions level q form)) && is_empty (reach (defs_now c) c.dimensions level q form).back)
          (holds_e9 q enabled v && not (holds_e8 c q level (reach (defs_now c) c.dimensions level q form).back v)) two.0).0

      forms : (compatible (defs_now c) level q form ≡ None) × (earlier_failure failed (failing requirement.E7 (computable (defs_now c) q form)) ≡ None)
      forms =
          earlier_none (compatible (defs_now c) level q form) (earlier_failure failed (failing requirement.E7 (computable (defs_now c) q form)))
          (was_none (form_failure c q level v (reach (defs_now c) c.dimensions level q form)) passes.0)

      more : (failed ≡ None) × (failing requirement.E7 (computable (defs_now c) q form) ≡ None)
      more = earlier_none failed (failing requirement.E7 (computable (defs_now c) q form)) forms.1

      reaches : failed ≡ None
      reaches = more.0

      nothing : (reach (defs_now c) c.dimensions level q form).back ≡ []
      nothing = no_elements (reach (defs_now c) c.dimensions level q form).back passes.1

      state : (form.grouped ≡ true) × (is_partly (view_state c v) ≡ true)
      state = and_parts form.grouped (is_partly (view_state c v)) (and_parts (form.grouped && is_partly (view_state c v)) (selects_key v.def && tracks_table_of q v) two.1).0

      ours : (selects_key v.def ≡ true) × (tracks_table_of q v ≡ true)
      ours = and_parts (selects_key v.def) (tracks_table_of q v) (and_parts (form.grouped && is_partly (view_state c v)) (selects_key v.def && tracks_table_of q v) two.1).1

      unrestricted : first_part_restriction (facts_of c v) ≡ None
      unrestricted = was_none (first_part_restriction (facts_of c v)) (partly_by (is_none v.point) (is_fresh (facts_of c v)) (is_none (first_part_restriction (facts_of c v))) state.1)

      by_key : (x : ℕ × TableDef) (o : Option ℕ) → tracked v.def ≡ Some x → x.1.part_key ≡ o → has_number q.tables x.0 ≡ true → Goal
      by_key x None is key there =
          absurd (let e : false ≡ true
          = sym (ap (λ o. option_case o false (selects_column form)) (ap (λ o. option_and_then (λ t. option_map (λ j. record { table = t.0; part = Col j }) t.1.part_key) o) is ∙ ap (option_map (λ j. record { table = x.0; part = Col j })) key)) ∙ ours.0 in cc)
      by_key x (Some k) is key there =
          ap (λ o. in_order q.order (option_case o [] (λ j. concat_rows (defs_now c) later q form j (stale_intervals c v) (content c v)))) key_is
          ∙ ap (λ es. in_order q.order (concat_rows (defs_now c) later q form (record { table = x.0; part = Col k }) (stale_intervals c v) es)) (content_is c level asks q v p built stars kept)
          ∙ concat_means (defs_now c) c.dimensions level q form at_point later x.0 k (stale_intervals c v) stars.star_q stars.star_v stars.rows_then stars.relies_then stars.kinds_then forms.0 reaches nothing
          (holds_of requirement.E7 (computable (defs_now c) q form) more.1) state.0 (sym (ap (λ o. option_case o false (selects_column form)) key_is) ∙ ours.0) there
          (Each-map (λ m. has_number q.tables m ≡ true) Same
          (λ m h. at_own Same m m form.tables (tables_within (defs_now c) c.dimensions level q form at_point stars.star_q stars.star_v stars.rows_then stars.relies_then forms.0 reaches nothing m h)
          (Each-map Same (λ j. m ≡ j → Same m) (λ j l e. subst Same (sym e) l) form.tables (others_same c level asks q v p built stars kept x is unrestricted))) q.tables (each_has q.tables))
          (kept.outside x.0 k key_is)
        where
          Same : ℕ → Type 0
          Same m = (m == x.0) ≡ false → rows_at at_point m ≡ rows_at later m

          key_is : tracked_key v.def ≡ Some (record { table = x.0; part = Col k })
          key_is = ap (λ o. option_and_then (λ t. option_map (λ j. record { table = t.0; part = Col j }) t.1.part_key) o) is ∙ ap (option_map (λ j. record { table = x.0; part = Col j })) key

      by_tracked : (o : Option (ℕ × TableDef)) → tracked v.def ≡ o → option_case o false (λ t. has_number q.tables t.0) ≡ true → Goal
      by_tracked None is there = cc
      by_tracked (Some x) is there = by_key x x.1.part_key is refl there

eligible_same : (k class : Class) (bs backs : List Back) → Eligible k bs ≡ Eligible class backs → (k ≡ class) × (bs ≡ backs)
eligible_same k class bs backs h = (cc, cc)

-- **each class of an eligible view**
pub full_means : (c : Catalog) (q : StarQuery) (text : List Token) (level : Level) (enabled : Bool) (v : View) (p : ℕ) (class : Class) (backs : List Back)
    → asks_freshness level ≡ true → v.point ≡ Some p → StarsKept c level q v p → ViewKept c v p → TextsKept q text v
    → full_standing c q text level enabled v ≡ Eligible class backs
    → in_order q.order (class_rows (defs_now c) (base_now c) q v.def.query (tracked_key v.def) (stale_intervals c v) class backs (content c v)) ≡ meaning q (base_now c)
full_means c q text level enabled v p class backs asks built stars kept texts h = by (standing c q text level enabled v) (concat_holds c q level enabled v) refl refl h
  where
    by : (s : Standing) (b : Bool) → standing c q text level enabled v ≡ s → concat_holds c q level enabled v ≡ b → or_concat b s ≡ Eligible class backs
        → in_order q.order (class_rows (defs_now c) (base_now c) q v.def.query (tracked_key v.def) (stale_intervals c v) class backs (content c v)) ≡ meaning q (base_now c)
    by (Eligible k bs) false e f g = standing_means c q text level enabled v p class backs asks built stars kept texts (e ∙ g)
    by (Eligible k bs) true e f g = standing_means c q text level enabled v p class backs asks built stars kept texts (e ∙ g)
    by (Failing n) false e f g = cc
    by (Failing n) true e f g =
        let same : (Concat ≡ class) × ([] ≡ backs) = eligible_same Concat class [] backs g in
        (λ i. in_order q.order (class_rows (defs_now c) (base_now c) q v.def.query (tracked_key v.def) (stale_intervals c v) (sym same.0 i) (sym same.1 i) (content c v)))
        ∙ part_means c level asks q v p built stars kept enabled f
