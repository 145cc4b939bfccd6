-- The image after a change of its views.
use Rattle.std.proofs.Common.{◌≡◌, ◌∙◌, sym, ap, refl, subst, arith, ℕ, zero, suc, ◌≤◌, Bool, true, false, cond, not, List, [], ◌∷◌, ◌++◌, map, Option, None, Some, ◌==◌}
use Rattle.std.proofs.lemmas.Bool.Decides.{nat_tests}
use Rattle.std.proofs.lemmas.List.{map-append}
use Rattle.std.specs.List.{All, filter, find}
use Rattle.std.specs.Option.{ForSome}
use Rattle.std.specs.Prelude.{is_some, option_map}
use Rattle.wh_base.specs.Lists.{change_where, option_case, where_true}
use Rattle.wh_base.specs.Tables.{def_at}
use Rattle.wh_base.specs.declared.queries.StarQuery.{StarQuery}
use Rattle.wh_base.specs.declared.statements.NewView.{NewView}
use Rattle.wh_base.specs.declared.views.ViewDef.{ViewDef}
use Rattle.wh_base.specs.declared.views.ViewEntry.{ViewEntry}
use Rattle.def_history.specs.Catalog.{Catalog, View, base_at, base_now, defs_now, view_numbered}
use Rattle.def_history.specs.Staleness.{content}
use Rattle.def_journal.specs.Refreshing.{change_view, refreshed_to}
use Rattle.def_journal.specs.Statements.{new_view, view_def, with_view}
use Rattle.def_journal.specs.Statements as statement
use Rattle.def_meaning.specs.Meaning.{stored}
use Rattle.wh_image.proofs.Listed.{Each, all_from, each_append, each_changed, each_filter, each_from, each_made, each_unmap, map_changed, map_filter}
use Rattle.wh_image.proofs.Lookup.{definitions, lookups}
use Rattle.wh_image.specs.Laws.{ViewChanges}
use Rattle.wh_image.specs.Standing.{StandsFor}
use Rattle.wh_table.specs.Kept.{defs_of}
use Rattle.wh_table.specs.Stored.{Stored}
use Rattle.wh_view.specs.Kept.{AllKept, AreNumbered, Ascend, Kept, added, changed, is_numbered, new_kept, refreshed, removed, switched, unregistered}

-- the view stores its content
abbrev Stores : Catalog → Kept → Type 0
Stores c k = k.entries ≡ content c k.view

-- no table was partitioned when the view was made
abbrev IsWhole : View → Type 0
IsWhole v = All (λ d. d.part_key ≡ None) v.def.tables

-- the view is over tables
abbrev IsOverTables : View → Type 0
IsOverTables v = v.def.beneath ≡ None

abbrev view_of : ViewDef → Bool → Option ℕ → View
view_of def registered point = record { def = def; point = point; registered = registered; suspended = false }

-- ---- one view is changed

changes : (scn : ℕ) (tables : List Stored) (views : AllKept) (c : Catalog) (n : ℕ) (f : Kept → Kept) (g : View → View) → StandsFor scn tables views c
    → ((k : Kept) → IsOverTables k.view → (f k).view ≡ g k.view) → ((v : View) → IsWhole v → IsWhole (g v)) → ((v : View) → IsOverTables v → IsOverTables (g v))
    → Each (Stores c) (change_where (is_numbered n) f views.views) → StandsFor scn tables (changed n f views) (change_view n g c)
changes scn tables views c n f g h same whole over contents =
    let all_over : Each IsOverTables c.views = each_from IsOverTables c.views h.over_tables in
    record {
      scn_is = h.scn_is;
      base_is = h.base_is;
      views_are =
          ap (change_where (λ v. v.def.view == n) g) h.views_are
          ∙ sym (map_changed (λ (k : Kept). IsOverTables k.view) (λ (k : Kept). k.view) (λ v. v.def.view == n) f g same views.views
          (each_unmap IsOverTables (λ (k : Kept). k.view) views.views (subst (Each IsOverTables) h.views_are all_over)));
      made_is = h.made_is;
      contents = all_from (Stores c) (change_where (is_numbered n) f views.views) contents;
      still = h.still;
      moved = h.moved;
      noted = h.noted;
      whole = h.whole;
      whole_then = all_from IsWhole (change_where (λ v. v.def.view == n) g c.views) (each_changed IsWhole (λ v. v.def.view == n) g whole c.views (each_from IsWhole c.views h.whole_then));
      over_tables = all_from IsOverTables (change_where (λ v. v.def.view == n) g c.views) (each_changed IsOverTables (λ v. v.def.view == n) g over c.views all_over);
      touches = h.touches;
      logs = h.logs;
      dimensions = h.dimensions;
    }

switches : (scn : ℕ) (tables : List Stored) (views : AllKept) (c : Catalog) (n : ℕ) (on : Bool) → StandsFor scn tables views c
    → StandsFor scn tables (changed n (switched on) views) (change_view n (statement.switched on) c)
switches scn tables views c n on h =
    changes scn tables views c n (switched on) (statement.switched on) h (λ k o. refl) (λ v w. w) (λ v o. o)
    (each_changed (Stores c) (is_numbered n) (switched on) (λ k s. s) views.views (each_from (Stores c) views.views h.contents))

unregisters : (scn : ℕ) (tables : List Stored) (views : AllKept) (c : Catalog) (n : ℕ) → StandsFor scn tables views c
    → StandsFor scn tables (changed n unregistered views) (change_view n statement.unregistered c)
unregisters scn tables views c n h =
    changes scn tables views c n unregistered statement.unregistered h (λ k o. refl) (λ v w. w) (λ v o. o)
    (each_changed (Stores c) (is_numbered n) unregistered (λ k s. s) views.views (each_from (Stores c) views.views h.contents))

drops : (scn : ℕ) (tables : List Stored) (views : AllKept) (c : Catalog) (n : ℕ) → StandsFor scn tables views c
    → StandsFor scn tables (removed n views) (record c { views = filter (λ w. not (w.def.view == n)) c.views })
drops scn tables views c n h =
    record {
      scn_is = h.scn_is;
      base_is = h.base_is;
      views_are = ap (filter (λ w. not (w.def.view == n))) h.views_are ∙ sym (map_filter (λ (k : Kept). k.view) (λ w. not (w.def.view == n)) views.views);
      made_is = h.made_is;
      contents = all_from (Stores c) (filter (λ k. not (is_numbered n k)) views.views) (each_filter (Stores c) (λ k. not (is_numbered n k)) views.views (each_from (Stores c) views.views h.contents));
      still = h.still;
      moved = h.moved;
      noted = h.noted;
      whole = h.whole;
      whole_then = all_from IsWhole (filter (λ w. not (w.def.view == n)) c.views) (each_filter IsWhole (λ w. not (w.def.view == n)) c.views (each_from IsWhole c.views h.whole_then));
      over_tables = all_from IsOverTables (filter (λ w. not (w.def.view == n)) c.views) (each_filter IsOverTables (λ w. not (w.def.view == n)) c.views (each_from IsOverTables c.views h.over_tables));
      touches = h.touches;
      logs = h.logs;
      dimensions = h.dimensions;
    }

-- ---- a refresh

module _ (c : Catalog) (n p : ℕ) (entries : List ViewEntry) where
  -- views of greater numbers stay
  others_store : (low made : ℕ) (ks : List Kept) → n ≤ low → Ascend low made ks → Each (Stores c) ks → Each (Stores c) (change_where (is_numbered n) (refreshed p entries) ks)
  others_store low made [] near a h = tt
  others_store low made (k ∷ ks) near a h =
      let other : is_numbered n k ≡ false = grind (arith, nat_tests, near, a.0) in (
        subst (λ b. Stores c (cond b (refreshed p entries k) k)) (sym other) h.0,
        others_store k.view.def.view made ks (omega (arith, near, a.0)) a.1 h.1,
      )

  refresh_stores : (low made : ℕ) (ks : List Kept) → Ascend low made ks → ((k : Kept) → find (is_numbered n) ks ≡ Some k → entries ≡ stored k.view.def.query (base_at c p))
      → Each (Stores c) ks → Each (Stores c) (change_where (is_numbered n) (refreshed p entries) ks)
  refresh_stores low made [] a fits h = tt
  refresh_stores low made (k ∷ ks) a fits h = by (is_numbered n k) refl fits (refresh_stores k.view.def.view made ks a.1)
    where
      by : (b : Bool) → is_numbered n k ≡ b → ((l : Kept) → cond b (Some k) (find (is_numbered n) ks) ≡ Some l → entries ≡ stored l.view.def.query (base_at c p))
          → (((l : Kept) → find (is_numbered n) ks ≡ Some l → entries ≡ stored l.view.def.query (base_at c p)) → Each (Stores c) ks → Each (Stores c) (change_where (is_numbered n) (refreshed p entries) ks))
          → Stores c (cond b (refreshed p entries k) k) × Each (Stores c) (change_where (is_numbered n) (refreshed p entries) ks)
      by true is now later =
          let same : n ≤ k.view.def.view = grind (arith, nat_tests, is) in
          (now k refl, others_store k.view.def.view made ks same a.1 h.1)
      by false is now later = (h.0, later now h.1)

refreshes : (scn : ℕ) (tables : List Stored) (views : AllKept) (c : Catalog) (n p : ℕ) (entries : List ViewEntry) → StandsFor scn tables views c
    → AreNumbered views → ForSome (view_numbered c n) (λ v. entries ≡ stored v.def.query (base_at c p))
    → StandsFor scn tables (changed n (refreshed p entries) views) (change_view n (refreshed_to p) c)
refreshes scn tables views c n p entries h numbers fits =
    changes scn tables views c n (refreshed p entries) (refreshed_to p) h (λ k o. ap (λ b. view_of k.view.def (not (is_some b)) (Some p)) (sym o)) (λ v w. w) (λ v o. o)
    (refresh_stores c n p entries 0 views.made views.views numbers
    (λ k found. fits k.view (lookups.numbered scn tables views c n h ∙ ap (option_map (λ (l : Kept). l.view)) found))
    (each_from (Stores c) views.views h.contents))

-- ---- a new view

adds : (scn : ℕ) (tables : List Stored) (views : AllKept) (c : Catalog) (v : View) (k : Kept) → StandsFor scn tables views c
    → v ≡ k.view → IsWhole v → IsOverTables v → Stores c k → StandsFor scn tables (added k views) (with_view c v)
adds scn tables views c v k h same whole over stores =
    record {
      scn_is = h.scn_is;
      base_is = h.base_is;
      views_are = (λ i. h.views_are i ++ same i ∷ []) ∙ sym (map-append (λ (l : Kept). l.view) views.views (k ∷ []));
      made_is = omega (arith, h.made_is);
      contents = all_from (Stores c) (views.views ++ k ∷ []) (each_append (Stores c) views.views (k ∷ []) (each_from (Stores c) views.views h.contents) (stores, tt));
      still = h.still;
      moved = h.moved;
      noted = h.noted;
      whole = h.whole;
      whole_then = all_from IsWhole (c.views ++ v ∷ []) (each_append IsWhole c.views (v ∷ []) (each_from IsWhole c.views h.whole_then) (whole, tt));
      over_tables = all_from IsOverTables (c.views ++ v ∷ []) (each_append IsOverTables c.views (v ∷ []) (each_from IsOverTables c.views h.over_tables) (over, tt));
      touches = h.touches;
      logs = h.logs;
      dimensions = h.dimensions;
    }

-- no table of the image is partitioned, nor the one that isn't there
whole_at : (tables : List Stored) (n : ℕ) → Each (λ s. s.def.part_key ≡ None) tables → (def_at (defs_of tables) n).part_key ≡ None
whole_at [] n h = refl
whole_at (s ∷ tables) zero h = h.0
whole_at (s ∷ tables) (suc n) h = whole_at tables n h.1

new_is : (def : ViewDef) (deferred : Bool) (scn now : ℕ) (entries : List ViewEntry) → now ≡ scn
    → view_of def (not deferred) (where_true (not deferred) now) ≡ (new_kept def (where_true (not deferred) scn) entries).view
new_is def true scn now entries same = refl
new_is def false scn now entries same = ap (λ n. view_of def true (Some n)) same

new_stores : (c : Catalog) (q : StarQuery) (deferred : Bool) (scn : ℕ) (entries : List ViewEntry) → c.scn ≡ scn → entries ≡ cond deferred [] (stored q (base_now c))
    → entries ≡ option_case (where_true (not deferred) scn) [] (λ p. stored q (base_at c p))
new_stores c q true scn entries same is = is
new_stores c q false scn entries same is = is ∙ ap (λ p. stored q (base_at c p)) same

creates : (scn : ℕ) (tables : List Stored) (views : AllKept) (c : Catalog) (s : NewView) (q : StarQuery) (entries : List ViewEntry) → StandsFor scn tables views c
    → entries ≡ cond s.deferred [] (stored q (base_now c))
    → StandsFor scn tables (added (new_kept (view_def c s q) (where_true (not s.deferred) scn) entries) views) (with_view c (new_view c s q))
creates scn tables views c s q entries h is =
    adds scn tables views c (new_view c s q) (new_kept (view_def c s q) (where_true (not s.deferred) scn) entries) h
    (new_is (view_def c s q) s.deferred scn c.scn entries h.scn_is)
    (all_from (λ d. d.part_key ≡ None) (map (def_at (defs_now c)) q.tables)
    (each_made (λ d. d.part_key ≡ None) (def_at (defs_now c))
    (λ n. ap (λ defs. (def_at defs n).part_key) (definitions scn tables views c h) ∙ whole_at tables n (each_from (λ t. t.def.part_key ≡ None) tables h.whole)) q.tables))
    refl (new_stores c q s.deferred scn entries h.scn_is is)

pub view_changes : ViewChanges
view_changes = record { switches = switches; unregisters = unregisters; drops = drops; refreshes = refreshes; creates = creates }
