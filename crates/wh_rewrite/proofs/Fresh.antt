-- The state of a view in a catalog, by what its image stores.
use Rattle.std.proofs.Common.{◌≡◌, ◌∙◌, sym, ap, refl, subst, arith, cond, not, true, false, true≢false, zero, suc, Bool, ℕ, ◌<◌, ◌≤◌, ◌&&◌, ◌||◌, ◌==◌, List, [], ◌∷◌, Option, None, Some, find, filter, is_none, is_some, map, nat_le, slice_get, zip}
use Rattle.std.proofs.lemmas.Option.{none-some, same_Some}
use Rattle.std.specs.List.{All, list_all, list_any}
use Rattle.std.proofs.lemmas.Bool.Decides.{nat_tests}
use Rattle.std.proofs.lemmas.List.Elements.{All-head, All-tail}
use Rattle.wh_base.specs.Lists.{first_of, first_some, is_empty, where_true}
use Rattle.wh_base.specs.Tables.{is_insert, is_removal}
use Rattle.wh_base.specs.declared.tables.Change.{Change}
use Rattle.wh_base.specs.declared.tables.TableDef.{TableDef}
use Rattle.wh_base.specs.declared.views.Restriction.{Restriction}
use Rattle.wh_base.specs.declared.views.Restriction.TheVariants.{F1, P1}
use Rattle.wh_base.specs.declared.views.ViewState.{ViewState}
use Rattle.wh_base.specs.declared.views.ViewState.TheVariants.{Fresh, Partly, Stale, Unbuilt}
use Rattle.def_history.specs.Catalog.{Catalog, Noted, Touched, View}
use Rattle.def_history.specs.History.{changes_of, within}
use Rattle.def_history.specs.Staleness.{facts_of, known, maintained_after, point_of, view_state}
use Rattle.def_restrictions.specs.Definition.{table_defs}
use Rattle.def_restrictions.specs.Restrictions.{check_p2, check_p3, is_fresh, moved}
use Rattle.wh_image.specs.Standing.{StandsFor, changed_at, is_change}
use Rattle.wh_rewrite.specs.Served.{is_still, seen_state, state_since}
use Rattle.wh_table.specs.Stored.{Stored}
use Rattle.wh_view.specs.Kept.{AllKept, Kept}

-- ---- changes

-- an insert or a removal is among these
abbrev any_change : List Change → Bool
any_change xs = list_any is_insert xs || list_any is_removal xs

or_grows : (a b c d : Bool) → (a || b) ≡ true → ((a || c) || (b || d)) ≡ true
or_grows true b c d h = refl
or_grows false true true d h = refl
or_grows false true false d h = refl
or_grows false false c d h = absurd (true≢false (sym h))

some_change : (f : Noted → Bool) (xs : List Noted) → All (λ n. is_change n.change ≡ true) xs → is_empty (map (λ n. n.change) (filter f xs)) ≡ false → any_change (map (λ n. n.change) (filter f xs)) ≡ true
some_change f [] all some = absurd (true≢false some)
some_change f (x ∷ xs) all some =
    here (f x) (All-head (λ n. is_change n.change ≡ true) x xs all) (some_change f xs (All-tail (λ n. is_change n.change ≡ true) x xs all)) some
  where
    here : (b : Bool) → is_change x.change ≡ true → (is_empty (map (λ n. n.change) (filter f xs)) ≡ false → any_change (map (λ n. n.change) (filter f xs)) ≡ true)
        → is_empty (map (λ n. n.change) (cond b (x ∷ filter f xs) (filter f xs))) ≡ false → any_change (map (λ n. n.change) (cond b (x ∷ filter f xs) (filter f xs))) ≡ true
    here true one later h =
        let rest : List Change = map (λ n. n.change) (filter f xs) in
        or_grows (is_insert x.change) (is_removal x.change) (list_any is_insert rest) (list_any is_removal rest) one
    here false one later h = later h

le_true : (a b : ℕ) → nat_le a b ≡ true → a ≤ b
le_true a b e = grind (arith, nat_tests, e)

le_false : (a b : ℕ) → nat_le a b ≡ false → b < a
le_false a b e = grind (arith, nat_tests, e)

-- ---- freshness

-- the three marks of a table together
moved_is : (changes : List Change) (kept : Bool) → kept ≡ false → (list_any is_insert changes || (list_any is_removal changes || kept)) ≡ any_change changes
moved_is changes kept h = by (list_any is_insert changes) (list_any is_removal changes) kept h
  where
    by : (a b k : Bool) → k ≡ false → (a || (b || k)) ≡ (a || b)
    by true b k e = refl
    by false true k e = refl
    by false false k e = e

module _ (scn : ℕ) (tables : List Stored) (views : AllKept) (c : Catalog) (stands : StandsFor scn tables views c) where
  unmaintained : (v : View) (n : ℕ) → maintained_after c v n ≡ false
  unmaintained v n = ap (λ (ts : List Touched). list_any (λ (t : Touched). t.by_maintenance) (filter (λ (t : Touched). (t.table == n) && within (point_of v) c.scn t.touch.scn) ts)) stands.touches

  still_is : (n p : ℕ) → any_change (changes_of c n p c.scn) ≡ not (nat_le (changed_at tables n) p)
  still_is n p = by (nat_le (changed_at tables n) p) refl
    where
      by : (b : Bool) → nat_le (changed_at tables n) p ≡ b → any_change (changes_of c n p c.scn) ≡ not b
      by true e = ap any_change (stands.still n p (le_true (changed_at tables n) p e))
      by false e = some_change (λ (x : Noted). (x.table == n) && within p c.scn x.scn) c.changes stands.noted (stands.moved n p (le_false (changed_at tables n) p e))

  table_still : (v : View) (t : ℕ × TableDef) → moved (known c v t) ≡ not (is_still tables (point_of v) t)
  table_still v t = moved_is (changes_of c t.0 (point_of v) c.scn) (maintained_after c v t.0) (unmaintained v t.0) ∙ still_is t.0 (point_of v)

  fresh_is : (v : View) (ts : List (ℕ × TableDef)) → not (list_any moved (map (known c v) ts)) ≡ list_all (is_still tables (point_of v)) ts
  fresh_is v [] = refl
  fresh_is v (t ∷ ts) = ap (λ b. not (b || list_any moved (map (known c v) ts))) (table_still v t) ∙ by (is_still tables (point_of v) t) (fresh_is v ts)
    where
      by : (b : Bool) → not (list_any moved (map (known c v) ts)) ≡ list_all (is_still tables (point_of v)) ts → not (not b || list_any moved (map (known c v) ts)) ≡ (b && list_all (is_still tables (point_of v)) ts)
      by true h = h
      by false h = refl

-- ---- no table is tracked

abbrev IsPlain : TableDef → Type 0
IsPlain d = d.part_key ≡ None

none_tracked : (ns : List ℕ) (ds : List TableDef) → All IsPlain ds → find (λ t. is_some t.1.part_key) (zip ns ds) ≡ None
none_tracked [] ds h = refl
none_tracked (n ∷ ns) [] h = refl
none_tracked (n ∷ ns) (d ∷ ds) h =
    ap (λ (o : Option ℕ). cond (is_some o) (Some (n, d)) (find (λ t. is_some t.1.part_key) (zip ns ds))) (All-head IsPlain d ds h)
    ∙ none_tracked ns ds (All-tail IsPlain d ds h)

-- the state by its parts
abbrev state_from : Option ℕ → Bool → Option (ℕ × TableDef) → List (Option Restriction) → ViewState
state_from point fresh table more =
    cond (is_none point) Unbuilt (cond fresh Fresh (cond (is_none (first_some (where_true (is_none point) F1 ∷ where_true (is_none table) P1 ∷ more))) Partly Stale))

untracked : (point : Option ℕ) (fresh : Bool) (more : List (Option Restriction)) → state_from point fresh None more ≡ cond (is_none point) Unbuilt (state_since fresh)
untracked None fresh more = refl
untracked (Some p) true more = refl
untracked (Some p) false more = refl

pub state_is : (scn : ℕ) (tables : List Stored) (views : AllKept) (c : Catalog) → StandsFor scn tables views c → (v : View) → All (λ d. d.part_key ≡ None) v.def.tables → view_state c v ≡ seen_state tables v
state_is scn tables views c stands v whole =
    let more : List (Option Restriction) = check_p2 v.def ∷ first_of (check_p3 v.def) (facts_of c v).tables ∷ [] in
    ap (λ o. state_from v.point (is_fresh (facts_of c v)) o more) (none_tracked v.def.query.tables v.def.tables whole)
    ∙ untracked v.point (is_fresh (facts_of c v)) more
    ∙ ap (λ b. cond (is_none v.point) Unbuilt (state_since b)) (fresh_is scn tables views c stands v (table_defs v.def))

-- ---- the views of the catalog

abbrev pub IsWhole : View → Type 0
IsWhole v = All (λ d. d.part_key ≡ None) v.def.tables

whole_at : (ks : List Kept) (n : ℕ) (k : Kept) → All IsWhole (map (λ j. j.view) ks) → slice_get ks n ≡ Some k → IsWhole k.view
whole_at [] n k all e = absurd (none-some k e)
whole_at (j ∷ ks) zero k all e = subst (λ x. IsWhole x.view) (same_Some j k e) (All-head IsWhole j.view (map (λ x. x.view) ks) all)
whole_at (j ∷ ks) (suc n) k all e = whole_at ks n k (All-tail IsWhole j.view (map (λ x. x.view) ks) all) e

pub all_whole : (scn : ℕ) (tables : List Stored) (views : AllKept) (c : Catalog) → StandsFor scn tables views c → All IsWhole (map (λ k. k.view) views.views)
all_whole scn tables views c stands = subst (All IsWhole) stands.views_are stands.whole_then

-- the view is over tables
abbrev pub IsOverTables : View → Type 0
IsOverTables v = v.def.beneath ≡ None

pub all_over_tables : (scn : ℕ) (tables : List Stored) (views : AllKept) (c : Catalog) → StandsFor scn tables views c → All IsOverTables (map (λ k. k.view) views.views)
all_over_tables scn tables views c stands = subst (All IsOverTables) stands.views_are stands.over_tables

-- what is seen of a view is its state
pub seen_is : (scn : ℕ) (tables : List Stored) (k : Kept) (result : ViewState) → result ≡ seen_state tables k.view
    → (c : Catalog) (views : AllKept) (n : ℕ) → StandsFor scn tables views c → slice_get views.views n ≡ Some k → result ≡ view_state c k.view
seen_is scn tables k result seen c views n stands at =
    seen ∙ sym (state_is scn tables views c stands k.view (whole_at views.views n k (all_whole scn tables views c stands) at))
