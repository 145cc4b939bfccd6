-- The empty image is the empty catalog.
use Rattle.std.proofs.Common.{◌≡◌, ℕ, ◌<◌, List, [], refl, arith, subst, sym}
use Rattle.def_history.specs.Catalog.{empty_catalog}
use Rattle.wh_image.specs.Standing.{StandsFor}
use Rattle.wh_table.specs.Stored.{Stored}
use Rattle.wh_view.specs.Kept.{AllKept, none_kept}

never : (p : ℕ) → p < 0 → ⊥
never p h = omega (arith, h)

empty_stands : StandsFor 0 [] none_kept empty_catalog
empty_stands =
    record {
      scn_is = refl;
      base_is = refl;
      views_are = refl;
      made_is = refl;
      contents = λ k d h. absurd (never k h);
      still = λ n p h. refl;
      moved = λ n p h. absurd (never p h);
      noted = λ k d h. absurd (never k h);
      whole = λ k d h. absurd (never k h);
      whole_then = λ k d h. absurd (never k h);
      over_tables = λ k d h. absurd (never k h);
      touches = refl;
      logs = refl;
      dimensions = refl;
    }

pub stands_empty : (scn : ℕ) (tables : List Stored) (views : AllKept) → scn ≡ 0 → tables ≡ [] → views ≡ none_kept → StandsFor scn tables views empty_catalog
stands_empty scn tables views s t v =
    subst (λ n. StandsFor n tables views empty_catalog) (sym s)
    (subst (λ ts. StandsFor 0 ts views empty_catalog) (sym t) (subst (λ vs. StandsFor 0 [] vs empty_catalog) (sym v) empty_stands))

pub ruleset beginning = (stands_empty)
