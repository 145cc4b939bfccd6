-- What a view of an image stores over its base rows.
use Rattle.std.proofs.Common.{◌≡◌, ◌∙◌, sym, ap, subst, arith, ℕ, ◌+◌, ◌≤◌, List, map, Some, Ok, Result}
use Rattle.std.specs.List.{find}
use Rattle.std.specs.Prelude.{option_map}
use Rattle.wh_base.specs.Lists.{option_case}
use Rattle.wh_base.specs.Tables.{Base}
use Rattle.wh_base.specs.declared.queries.StarQuery.{StarQuery}
use Rattle.wh_base.specs.declared.replies.Refusal.{Refusal}
use Rattle.wh_base.specs.declared.statements.Event.{Event}
use Rattle.wh_base.specs.declared.statements.Method.TheVariants.{Complete}
use Rattle.def_history.specs.Catalog.{Catalog, View, base_now, view_numbered}
use Rattle.def_journal.specs.Refreshing.{Computed, computed}
use Rattle.def_meaning.specs.Meaning.{stored}
use Rattle.def_meaning.specs.Ranges.{base_reads}
use Rattle.wh_answer.specs.Answered.{CanAnswer, IsKnown, most_reads}
use Rattle.wh_answer.specs.Over.{IsImage, IsImageOf}
use Rattle.wh_evaluate.specs.Shown.{CanEvaluate, Shows}
use Rattle.wh_image.proofs.Lookup.{lookups}
use Rattle.wh_table.specs.Kept.{no_key, no_part, tables_at}
use Rattle.wh_table.specs.Stored.{Stored}
use Rattle.law_trace.specs.Reached.{catalog_of}
use Rattle.wh_view.specs.Kept.{AllKept, Kept, is_numbered}

abbrev pub ShowsBase : ℕ → List Stored → Base → Type 0
ShowsBase scn tables base = Shows (tables_at scn tables) (map no_key tables) (map no_part tables) base

-- no more is read than by a query that can be answered
pub few_read : (scn : ℕ) (tables : List Stored) (c : Catalog) (q : StarQuery) (old new : ℕ) → CanAnswer scn tables c q
    → ((base : Base) → ShowsBase scn tables base → new ≤ old + base_reads q base) → new ≤ old + most_reads
few_read scn tables c q old new can most = let here : new ≤ old + base_reads q (base_now c) = most (base_now c) can.shown in omega (arith, here, can.few)

module _ (scn : ℕ) (tables : List Stored) (views : AllKept) (n : ℕ) (k : Kept) (q : StarQuery) (known : IsKnown scn tables views)
    (found : find (is_numbered n) views.views ≡ Some k) (same : q ≡ k.view.def.query) where
  can : (trace : List Event) → IsImageOf trace scn tables views → CanAnswer scn tables (catalog_of trace) q
  can trace is = subst (CanAnswer scn tables (catalog_of trace)) (sym same) (known.kept trace n k is found)

  pub evaluates : IsImage scn tables views → CanEvaluate (tables_at scn tables) (map no_key tables) (map no_part tables) q
  evaluates is = (can is.trace is.is).known

  pub at_most : (old new : ℕ) → IsImage scn tables views → ((base : Base) → ShowsBase scn tables base → new ≤ old + base_reads q base) → new ≤ old + most_reads
  at_most old new is most = few_read scn tables (catalog_of is.trace) q old new (can is.trace is.is) most

  pub computes :
      (x : Computed) → ((base : Base) → ShowsBase scn tables base → x ≡ record { used = Complete; rows = stored q base; read = base_reads q base })
      → (trace : List Event) (v : View) → IsImageOf trace scn tables views → view_numbered (catalog_of trace) n ≡ Some v → computed (catalog_of trace) v Complete ≡ Ok x
  computes x is trace v image there =
      let c : Catalog = catalog_of trace in
      let listed : view_numbered c n ≡ Some k.view = lookups.numbered scn tables views c n image.stands ∙ ap (option_map (λ (k : Kept). k.view)) found in
      let view : v ≡ k.view = ap (λ o. option_case o v (λ (w : View). w)) (sym there ∙ listed) in
      let query : v.def.query ≡ q = ap (λ (w : View). w.def.query) view ∙ sym same in
      let result : x ≡ record { used = Complete; rows = stored q (base_now c); read = base_reads q (base_now c) } = is (base_now c) (can trace image).shown in
      ap (result_of c) query ∙ ap ok (sym result)
    where
      result_of : Catalog → StarQuery → Result Computed Refusal
      result_of c q = Ok (record { used = Complete; rows = stored q (base_now c); read = base_reads q (base_now c) })

      ok : Computed → Result Computed Refusal
      ok x = Ok x
