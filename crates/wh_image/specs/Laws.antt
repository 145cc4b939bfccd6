-- What is found in an image by the catalog that it is, and which catalog it is after each event.
use Rattle.std.specs.List.{All, find, list_any}
use Rattle.std.specs.Option.{ForSome}
use Rattle.std.specs.Prelude.{◌≡◌, ◌≤◌, Bool, List, None, [], cond, filter, map, not, option_map, true, ℕ, ◌++◌, ◌+◌, ◌==◌, ◌||◌, ◌∷◌}
use Rattle.wh_base.specs.Lists.{has_text, same_text, where_true}
use Rattle.wh_base.specs.Tables.{TableChange}
use Rattle.wh_base.specs.declared.queries.StarQuery.{StarQuery}
use Rattle.wh_base.specs.declared.statements.NewTable.{NewTable}
use Rattle.wh_base.specs.declared.statements.NewView.{NewView}
use Rattle.wh_base.specs.declared.views.ViewEntry.{ViewEntry}
use Rattle.def_effect.specs.Block.{Progress}
use Rattle.def_effect.specs.Define.{defined, table_def}
use Rattle.def_history.specs.Catalog.{Catalog, base_at, base_now, defs_now, names_taken, view_named, view_numbered, views_over}
use Rattle.def_journal.specs.Committing.{after_block}
use Rattle.def_journal.specs.Explaining.{show_view}
use Rattle.def_journal.specs.Refreshing.{change_view, refreshed_to}
use Rattle.def_journal.specs.State.{with_base}
use Rattle.def_journal.specs.Statements.{new_view, view_def, with_view}
use Rattle.def_journal.specs.Statements as statement
use Rattle.def_meaning.specs.Meaning.{stored}
use Rattle.wh_image.specs.Standing.{StandsFor, changed_at, is_change, view_shown}
use Rattle.wh_table.specs.Kept.{defs_of}
use Rattle.wh_table.specs.Stored.{Stored, base_seen, begun, last_scn}
use Rattle.wh_view.specs.Kept.{AllKept, AreNumbered, added, changed, is_named, is_numbered, new_kept, refreshed, removed, switched, unregistered}

-- What is looked up in the catalog is found in the image.
pub record Lookups : Type 0 where
  pub definitions : (scn : ℕ) (tables : List Stored) (views : AllKept) (c : Catalog) → StandsFor scn tables views c → defs_now c ≡ defs_of tables
  pub named : (scn : ℕ) (tables : List Stored) (views : AllKept) (c : Catalog) (name : List ℕ) → StandsFor scn tables views c
      → view_named c name ≡ option_map (λ k. k.view) (find (is_named name) views.views)
  pub numbered : (scn : ℕ) (tables : List Stored) (views : AllKept) (c : Catalog) (n : ℕ) → StandsFor scn tables views c
      → view_numbered c n ≡ option_map (λ k. k.view) (find (is_numbered n) views.views)
  pub names : (scn : ℕ) (tables : List Stored) (views : AllKept) (c : Catalog) → StandsFor scn tables views c
      → names_taken c ≡ map (λ s. s.def.name) tables ++ map (λ k. k.view.def.name) views.views
  -- a name is taken exactly where a table or a view has it
  pub taken : (scn : ℕ) (tables : List Stored) (views : AllKept) (c : Catalog) (name : List ℕ) → StandsFor scn tables views c
      → has_text (names_taken c) name ≡ (list_any (λ s. same_text name s.def.name) tables || list_any (λ k. same_text name k.view.def.name) views.views)
  -- no view is over the one of this number
  pub over : (scn : ℕ) (tables : List Stored) (views : AllKept) (c : Catalog) (n : ℕ) → StandsFor scn tables views c → views_over c n ≡ []

-- The image after a change of its views is the catalog after it, at the same SCN.
pub record ViewChanges : Type 0 where
  -- ENABLE or DISABLE QUERY REWRITE
  pub switches : (scn : ℕ) (tables : List Stored) (views : AllKept) (c : Catalog) (n : ℕ) (on : Bool) → StandsFor scn tables views c
      → StandsFor scn tables (changed n (switched on) views) (change_view n (statement.switched on) c)
  pub unregisters : (scn : ℕ) (tables : List Stored) (views : AllKept) (c : Catalog) (n : ℕ) → StandsFor scn tables views c
      → StandsFor scn tables (changed n unregistered views) (change_view n statement.unregistered c)
  pub drops : (scn : ℕ) (tables : List Stored) (views : AllKept) (c : Catalog) (n : ℕ) → StandsFor scn tables views c
      → StandsFor scn tables (removed n views) (record c { views = filter (λ w. not (w.def.view == n)) c.views })
  -- a refresh to any SCN, with the entries that the view of this number stores there
  pub refreshes : (scn : ℕ) (tables : List Stored) (views : AllKept) (c : Catalog) (n p : ℕ) (entries : List ViewEntry) → StandsFor scn tables views c
      → AreNumbered views → ForSome (view_numbered c n) (λ v. entries ≡ stored v.def.query (base_at c p))
      → StandsFor scn tables (changed n (refreshed p entries) views) (change_view n (refreshed_to p) c)
  -- CREATE MATERIALIZED VIEW with the entries that it stores now, or with none where it is deferred
  pub creates : (scn : ℕ) (tables : List Stored) (views : AllKept) (c : Catalog) (s : NewView) (q : StarQuery) (entries : List ViewEntry) → StandsFor scn tables views c
      → entries ≡ cond s.deferred [] (stored q (base_now c))
      → StandsFor scn tables (added (new_kept (view_def c s q) (where_true (not s.deferred) scn) entries) views) (with_view c (new_view c s q))

-- No change of a catalog and no point of a view in it is above its SCN, as after every trace.
pub record IsBounded (c : Catalog) : Type 0 where
  pub changes : All (λ n. n.scn ≤ c.scn) c.changes
  pub points : All (λ v. ForSome v.point (λ p. p ≤ c.scn)) c.views

-- the block has a change of the table with this number
abbrev pub is_in : List TableChange → ℕ → Bool
is_in changes n = list_any (λ d. d.table == n) changes

-- A commit at the SCN after this one of what the block makes leaves these tables of those before.
pub record Leaves (scn : ℕ) (tables after : List Stored) (p : Progress) : Type 0 where
  pub base : base_seen (scn + 1) after ≡ p.base
  pub defs : defs_of after ≡ defs_of tables
  -- the last change of a table is at that SCN where the block changes it, and else as it was
  pub moved : (n : ℕ) → changed_at after n ≡ cond (is_in p.changes n) (scn + 1) (changed_at tables n)
  pub noted : All (λ d. is_change d.change ≡ true) p.changes

-- The image after a change of its tables is the catalog after it, at the next SCN.
pub record TableChanges : Type 0 where
  -- CREATE TABLE without partitions, where no table was changed after the SCN
  pub creates : (scn : ℕ) (tables : List Stored) (views : AllKept) (c : Catalog) (s : NewTable) → StandsFor scn tables views c → IsBounded c
      → All (λ t. last_scn t.versions ≤ scn) tables → s.partitioning ≡ None
      → StandsFor (scn + 1) (tables ++ begun (table_def (defs_now c) s) ∷ []) views (with_base c (base_now c ++ defined (defs_now c) s ∷ []))
  -- a commit, also of a block that changes nothing
  pub commits : (scn : ℕ) (tables after : List Stored) (views : AllKept) (c : Catalog) (p : Progress) → StandsFor scn tables views c → IsBounded c
      → Leaves scn tables after p → StandsFor (scn + 1) after views (after_block c p)

-- SHOW VIEW of each view of the image is what its tables and its entries say.
pub record Shows : Type 0 where
  pub shown : (scn : ℕ) (tables : List Stored) (views : AllKept) (c : Catalog) → StandsFor scn tables views c
      → All (λ k. show_view c k.view ≡ view_shown tables k) views.views
