-- SHOW VIEW of a kept view.
use Rattle.std.proofs.Common.{◌≡◌, ◌∙◌, sym, ap, refl, subst, ℕ, Bool, true, false, cond, not, List, [], ◌∷◌, map, Option, None, Some, nat_lt, ◌==◌, ◌&&◌, ◌||◌}
use Rattle.std.proofs.lemmas.Bool.{ltb-false, ltb-true}
use Rattle.std.specs.List.{All, filter, find, list_any, zip}
use Rattle.std.specs.Prelude.{is_none, is_some, unwrap_or}
use Rattle.wh_base.specs.Lists.{first_of, first_some, is_empty, option_case, where_true}
use Rattle.wh_base.specs.Tables.{is_insert, is_removal}
use Rattle.wh_base.specs.declared.tables.Change.{Change}
use Rattle.wh_base.specs.declared.tables.TableDef.{TableDef}
use Rattle.wh_base.specs.declared.values.Interval.{Interval}
use Rattle.wh_base.specs.declared.views.Restriction.TheVariants.{P1}
use Rattle.wh_base.specs.declared.views.ViewDef.{ViewDef}
use Rattle.wh_base.specs.declared.views.ViewState.{ViewState}
use Rattle.wh_base.specs.declared.views.ViewState.TheVariants.{Fresh, Partly, Stale, Unbuilt}
use Rattle.wh_base.specs.declared.replies.Reply.TheVariants as reply
use Rattle.def_history.specs.Catalog.{Catalog, Noted, Touched, View}
use Rattle.def_history.specs.History.{changes_of, noted_changes, within}
use Rattle.def_history.specs.Staleness.{content, known, point_of, shown_intervals, stale_intervals, view_state}
use Rattle.def_journal.specs.Explaining.{show_view}
use Rattle.def_meaning.specs.Meaning.{in_order}
use Rattle.def_restrictions.specs.Definition.{table_defs, tracked}
use Rattle.def_restrictions.specs.Restrictions.{Facts, Known, check_p2, check_p3, first_part_restriction, moved, state_by}
use Rattle.wh_image.proofs.Listed.{Each, all_from, each_both, each_filter, each_from, each_map, each_unmap}
use Rattle.wh_image.specs.Laws.{Shows}
use Rattle.wh_image.specs.Standing.{StandsFor, changed_at, is_change, state_shown, view_shown}
use Rattle.wh_table.specs.Stored.{Stored}
use Rattle.wh_view.specs.Kept.{AllKept, Kept}

-- ---- the tables of a view

-- changes are inserts or removals where there are some
changed_by : (xs : List Change) (m : Bool) → is_empty xs ≡ false → Each (λ x. is_change x ≡ true) xs → (list_any is_insert xs || (list_any is_removal xs || m)) ≡ true
changed_by [] m some h = absurd (cc)
changed_by (x ∷ xs) m some h = by (is_insert x) (is_removal x) (list_any is_insert xs) h.0
  where
    by : (a b d : Bool) → (a || b) ≡ true → ((a || d) || ((b || list_any is_removal xs) || m)) ≡ true
    by true b d is = refl
    by false true true is = refl
    by false true false is = refl
    by false false d is = absurd (cc)

moved_is : (scn : ℕ) (tables : List Stored) (views : AllKept) (c : Catalog) (v : View) (t : ℕ × TableDef) → StandsFor scn tables views c
    → moved (known c v t) ≡ nat_lt (point_of v) (changed_at tables t.0)
moved_is scn tables views c v t h = by (nat_lt (point_of v) (changed_at tables t.0)) refl
  where
    by : (b : Bool) → nat_lt (point_of v) (changed_at tables t.0) ≡ b → moved (known c v t) ≡ b
    by true is =
        changed_by (changes_of c t.0 (point_of v) c.scn) (known c v t).maintained
        (h.moved t.0 (point_of v) (ltb-true (point_of v) (changed_at tables t.0) is))
        (each_map (λ (m : Noted). is_change m.change ≡ true) (λ x. is_change x ≡ true) (λ (m : Noted). m.change) (λ m real. real) (noted_changes c t.0 (point_of v) c.scn)
        (each_filter (λ m. is_change m.change ≡ true) (λ m. (m.table == t.0) && within (point_of v) c.scn m.scn) c.changes (each_from (λ m. is_change m.change ≡ true) c.changes h.noted)))
    by false is =
        let none : changes_of c t.0 (point_of v) c.scn ≡ [] = h.still t.0 (point_of v) (ltb-false (point_of v) (changed_at tables t.0) is) in
        (λ i. list_any is_insert (none i)
        || (list_any is_removal (none i) || list_any (λ (u : Touched). u.by_maintenance) (filter (λ u. (u.table == t.0) && within (point_of v) c.scn u.touch.scn) (h.touches i))))

any_moved : (scn : ℕ) (tables : List Stored) (views : AllKept) (c : Catalog) (v : View) (ts : List (ℕ × TableDef)) → StandsFor scn tables views c
    → list_any moved (map (known c v) ts) ≡ list_any (λ t. nat_lt (point_of v) (changed_at tables t.0)) ts
any_moved scn tables views c v [] h = refl
any_moved scn tables views c v (t ∷ ts) h = (λ i. moved_is scn tables views c v t h i || any_moved scn tables views c v ts h i)

none_tracked : (ns : List ℕ) (ds : List TableDef) → Each (λ d. d.part_key ≡ None) ds → find (λ t. is_some t.1.part_key) (zip ns ds) ≡ None
none_tracked [] ds h = refl
none_tracked (n ∷ ns) [] h = refl
none_tracked (n ∷ ns) (d ∷ ds) h = ap (λ o. cond (is_some o) (Some (n, d)) (find (λ t. is_some t.1.part_key) (zip ns ds))) h.0 ∙ none_tracked ns ds h.1

-- ---- the state

state_of : (def : ViewDef) (point : Option ℕ) (registered : Bool) (ts : List Known) (b : Bool) → list_any moved ts ≡ b → tracked def ≡ None
    → state_by (record { def = def; point = point; registered = registered; tables = ts }) ≡ option_case point Unbuilt (λ p. cond b Stale Fresh)
state_of def None registered ts b is none = refl
state_of def (Some p) registered ts b is none =
    let facts : Facts = record { def = def; point = Some p; registered = registered; tables = ts } in
    let refused : first_part_restriction facts ≡ Some P1 =
    ap (λ o. first_some (None ∷ where_true (is_none o) P1 ∷ check_p2 def ∷ first_of (check_p3 def) ts ∷ [])) none in
    (λ i. cond (not (is i)) Fresh (cond (is_none (refused i)) Partly Stale)) ∙ either b
  where
    either : (a : Bool) → cond (not a) Fresh Stale ≡ cond a Stale Fresh
    either true = refl
    either false = refl

state_is : (scn : ℕ) (tables : List Stored) (views : AllKept) (c : Catalog) (v : View) → StandsFor scn tables views c → All (λ d. d.part_key ≡ None) v.def.tables
    → view_state c v ≡ state_shown tables v
state_is scn tables views c v h whole =
    state_of v.def v.point v.registered (map (known c v) (table_defs v.def)) (list_any (λ t. nat_lt (point_of v) (changed_at tables t.0)) (table_defs v.def))
    (any_moved scn tables views c v (table_defs v.def) h)
    (none_tracked v.def.query.tables v.def.tables (each_from (λ d. d.part_key ≡ None) v.def.tables whole))
    ∙ at v.point
  where
    at : (o : Option ℕ) → option_case o Unbuilt (λ p. cond (list_any (λ t. nat_lt (unwrap_or o 0) (changed_at tables t.0)) (table_defs v.def)) Stale Fresh)
        ≡ option_case o Unbuilt (λ p. cond (list_any (λ t. nat_lt p (changed_at tables t.0)) (table_defs v.def)) Stale Fresh)
    at None = refl
    at (Some p) = refl

-- ---- the intervals

abbrev intervals_in : Catalog → View → ViewState → List Interval
intervals_in c v Unbuilt = []
intervals_in c v Fresh = []
intervals_in c v Partly = stale_intervals c v
intervals_in c v Stale = []

no_intervals : (c : Catalog) (v : View) (o : Option ℕ) (late : ℕ → Bool) → intervals_in c v (option_case o Unbuilt (λ p. cond (late p) Stale Fresh)) ≡ []
no_intervals c v None late = refl
no_intervals c v (Some p) late = by (late p)
  where
    by : (b : Bool) → intervals_in c v (cond b Stale Fresh) ≡ []
    by true = refl
    by false = refl

-- ---- all of it

shown_is : (scn : ℕ) (tables : List Stored) (views : AllKept) (c : Catalog) (k : Kept) → StandsFor scn tables views c → k.entries ≡ content c k.view
    → All (λ d. d.part_key ≡ None) k.view.def.tables → show_view c k.view ≡ view_shown tables k
shown_is scn tables views c k h stores whole =
    let state : view_state c k.view ≡ state_shown tables k.view = state_is scn tables views c k.view h whole in
    let intervals : shown_intervals c k.view ≡ [] =
    ap (intervals_in c k.view) state ∙ no_intervals c k.view k.view.point (λ p. list_any (λ t. nat_lt p (changed_at tables t.0)) (table_defs k.view.def)) in
    (λ i. reply.View (record {
      view = k.view.def.name;
      point = k.view.point;
      state = state i;
      registered = k.view.registered;
      suspended = k.view.suspended;
      intervals = intervals i;
      rows = in_order [] (map (λ e. e.row) (sym stores i));
    }))

shown : (scn : ℕ) (tables : List Stored) (views : AllKept) (c : Catalog) → StandsFor scn tables views c → All (λ k. show_view c k.view ≡ view_shown tables k) views.views
shown scn tables views c h =
    all_from (λ k. show_view c k.view ≡ view_shown tables k) views.views
    (each_both (λ (k : Kept). k.entries ≡ content c k.view) (λ (k : Kept). All (λ d. d.part_key ≡ None) k.view.def.tables) (λ k. show_view c k.view ≡ view_shown tables k)
    (λ k stores whole. shown_is scn tables views c k h stores whole) views.views (each_from (λ k. k.entries ≡ content c k.view) views.views h.contents)
    (each_unmap (λ v. All (λ d. d.part_key ≡ None) v.def.tables) (λ (k : Kept). k.view) views.views
    (subst (Each (λ v. All (λ d. d.part_key ≡ None) v.def.tables)) h.views_are (each_from (λ v. All (λ d. d.part_key ≡ None) v.def.tables) c.views h.whole_then))))

pub shows : Shows
shows = record { shown = shown }
