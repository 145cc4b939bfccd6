-- What an empty core keeps.
use Rattle.std.proofs.Common.{◌≡◌, ◌∙◌, sym, ap, refl, subst, arith, ℕ, false, List, [], ◌∷◌, map}
use Rattle.std.proofs.lemmas.List.Elements.{All-nil}
use Rattle.std.specs.List.{All}
use Rattle.wh_base.specs.declared.statements.Event.{Event}
use Rattle.def_history.specs.Catalog.{empty_catalog}
use Rattle.wh_constraints.specs.Constraints.{AreRight}
use Rattle.wh_core.proofs.Indexing.{right_none}
use Rattle.wh_core.specs.Kept.{IsCore, IsIndexed, IsNamedBy}
use Rattle.wh_image.specs.Standing.{StandsFor}
use Rattle.wh_keys.specs.Coded.{Held}
use Rattle.wh_table.specs.Stored.{Stored, seen}
use Rattle.wh_view.specs.Kept.{AllKept, Kept}
use Rattle.law_views.specs.Read.{IsRead}

no_items : {A B : Type 0} (f : A → B) (xs : List A) → [] ≡ map f xs → xs ≡ []
no_items f [] e = refl
no_items f (x ∷ xs) e = absurd (cc)

empty_core : (scn : ℕ) (tables : List Stored) (views : AllKept) (room : ℕ) → StandsFor scn tables views empty_catalog → IsCore [] scn tables views 0 0 room
empty_core scn tables views room h =
    let no_views : views.views ≡ [] = no_items (λ (k : Kept). k.view) views.views h.views_are in
    record {
      image = record { stands = h; read = All-nil (λ (e : Event). IsRead e.command) };
      built = refl;
      on_demand = subst (All (λ k. k.view.def.on_commit ≡ false)) (sym no_views) (All-nil (λ (k : Kept). k.view.def.on_commit ≡ false));
      named = subst (All (IsNamedBy [])) (sym no_views) (All-nil (IsNamedBy []));
      counted = refl;
      enough = omega arith;
      fits = omega arith;
      scn_within = omega (arith, h.scn_is);
      made_within = omega (arith, h.made_is);
    }

pub beginning : (scn : ℕ) (tables : List Stored) (views : AllKept) (room : ℕ) (keys : Held) → StandsFor scn tables views empty_catalog → keys ≡ record { now = []; before = [] }
    → IsIndexed [] scn tables views 0 0 room keys
beginning scn tables views room keys h none =
    let no_tables : tables ≡ [] = no_items (seen scn) tables h.base_is in
    record {
      core = empty_core scn tables views room h;
      right = subst (λ ts. AreRight scn ts keys.now) (sym no_tables) (subst (λ (k : Held). AreRight scn [] k.now) (sym none) (right_none scn));
      settled = ap (λ (k : Held). k.before) none ∙ ap (λ (k : Held). k.now) (sym none);
    }
