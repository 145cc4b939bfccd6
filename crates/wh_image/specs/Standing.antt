-- Which catalog an image is: its tables and views at an SCN.
use Rattle.std.specs.List.{All, list_any}
use Rattle.std.specs.Prelude.{◌≡◌, ◌<◌, ◌≤◌, ◌||◌, Bool, List, None, [], cond, false, map, nat_lt, slice_get, true, ℕ}
use Rattle.wh_base.specs.Lists.{is_empty, option_case}
use Rattle.wh_base.specs.Tables.{is_insert, is_removal}
use Rattle.wh_base.specs.declared.replies.Reply.{Reply}
use Rattle.wh_base.specs.declared.tables.Change.{Change}
use Rattle.wh_base.specs.declared.views.ViewState.{ViewState}
use Rattle.wh_base.specs.declared.views.ViewState.TheVariants.{Fresh, Stale, Unbuilt}
use Rattle.def_history.specs.Catalog.{Catalog, View, base_now}
use Rattle.def_history.specs.History.{changes_of}
use Rattle.def_history.specs.Staleness.{content}
use Rattle.def_meaning.specs.Meaning.{in_order}
use Rattle.def_restrictions.specs.Definition.{table_defs}
use Rattle.wh_table.specs.Stored.{Stored, base_seen, last_scn}
use Rattle.wh_view.specs.Kept.{AllKept, Kept}
use Rattle.wh_base.specs.declared.replies.Reply.TheVariants as reply

-- the SCN of the last change of a table's rows; 0 where there is no such table
abbrev pub changed_at : List Stored → ℕ → ℕ
changed_at tables n = option_case (slice_get tables n) 0 (λ s. last_scn s.versions)

-- an insert, a delete or an update: it has an old or a new row
abbrev pub is_change : Change → Bool
is_change c = is_insert c || is_removal c

-- The image with these tables at this SCN and these views is this catalog: it has the base state of now, the views with what they store, and
-- of the past as much as tells how fresh they are. There are no partitions, logs and dimensions, and no view is over another.
pub record StandsFor (scn : ℕ) (tables : List Stored) (views : AllKept) (c : Catalog) : Type 0 where
  pub scn_is : c.scn ≡ scn
  pub base_is : base_now c ≡ base_seen scn tables
  pub views_are : c.views ≡ map (λ k. k.view) views.views
  pub made_is : c.views_made ≡ views.made
  -- each view stores its content
  pub contents : All (λ k. k.entries ≡ content c k.view) views.views
  -- a table has a change after an SCN exactly where its last one is above it
  pub still : (n p : ℕ) → changed_at tables n ≤ p → changes_of c n p c.scn ≡ []
  pub moved : (n p : ℕ) → p < changed_at tables n → is_empty (changes_of c n p c.scn) ≡ false
  pub noted : All (λ n. is_change n.change ≡ true) c.changes
  -- no table is partitioned, as it was when a view over it was made
  pub whole : All (λ s. s.def.part_key ≡ None) tables
  pub whole_then : All (λ v. All (λ d. d.part_key ≡ None) v.def.tables) c.views
  -- each view is over tables
  pub over_tables : All (λ v. v.def.beneath ≡ None) c.views
  pub touches : c.touches ≡ []
  pub logs : c.logs ≡ []
  pub dimensions : c.dimensions ≡ []

-- UNBUILT without a point, STALE where a table of the view has a change after it, else FRESH
abbrev pub state_shown : List Stored → View → ViewState
state_shown tables v = option_case v.point Unbuilt (λ p. cond (list_any (λ t. nat_lt p (changed_at tables t.0)) (table_defs v.def)) Stale Fresh)

-- SHOW VIEW of a kept view, by the tables and what the view stores
abbrev pub view_shown : List Stored → Kept → Reply
view_shown tables k =
    reply.View (record {
      view = k.view.def.name;
      point = k.view.point;
      state = state_shown tables k.view;
      registered = k.view.registered;
      suspended = k.view.suspended;
      intervals = [];
      rows = in_order [] (map (λ e. e.row) k.entries);
    })
