-- What a view over a view holds, after every trace.
use Rattle.std.proofs.Common.{◌≡◌, ◌∙◌, sym, ap, ℕ, [], Some, ◌==◌}
use Rattle.wh_base.specs.Lists.{option_case}
use Rattle.def_history.specs.Catalog.{Catalog, View, base_at}
use Rattle.def_history.specs.Staleness.{content}
use Rattle.def_meaning.specs.Meaning.{stored}
use Rattle.law_nest.specs.Laws.{ItemsAreGrouped}
use Rattle.law_nest.specs.Rolled.{rolled_view}
use Rattle.law_nest.proofs.Nested.{nested_means_law}
use Rattle.law_nest_trace.specs.Laws.{NestedStand, StandsOver, catalog_of}
use Rattle.law_trace.proofs.Listed.{each_found, each_weaker}
use Rattle.law_nest_trace.proofs.Standing.{IsGrouped, IsOver, Over, compose_says}
use Rattle.law_nest_trace.proofs.Stepping.{Stands, trace_stands}

content_at : (c : Catalog) (v : View) (p : ℕ) → v.point ≡ Some p → content c v ≡ stored v.def.query (base_at c p)
content_at c v p e = ap (λ x. option_case x [] (λ n. stored v.def.query (base_at c n))) e

stands_over : (c : Catalog) → Stands c → (v : View) (n : ℕ) → Over c.views v n → StandsOver c v n
stands_over c h v n o =
    let grouped : ItemsAreGrouped o.beneath.def
    = each_found IsGrouped (λ w. w.def.view == n) c.views o.beneath h.grouped o.found (compose_says o.composed.asked o.beneath.def v.def.query o.composed.query_is).0 in
    let rolls : (p : ℕ) → v.point ≡ Some p → content c v ≡ rolled_view o.composed.asked o.beneath.def (stored o.beneath.def.query (base_at c p))
    = λ p e. content_at c v p e ∙ nested_means_law v.def o.beneath.def (base_at c p) o.composed grouped in
    record {
      beneath = o.beneath;
      found = o.found;
      older = o.older;
      composed = o.composed;
      at_point = rolls;
      at_one_point = λ p e k. rolls p e ∙ ap (rolled_view o.composed.asked o.beneath.def) (sym (content_at c o.beneath p k));
    }

pub nested_stand_law : NestedStand
nested_stand_law trace =
    each_weaker (IsOver (catalog_of trace).views) (λ v. (n : ℕ) → v.def.beneath ≡ Some n → StandsOver (catalog_of trace) v n)
    (λ v is n e. stands_over (catalog_of trace) (trace_stands trace).0 v n (is n e)) (catalog_of trace).views (trace_stands trace).0.over
