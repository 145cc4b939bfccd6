-- A refresh at a commit is computed over the catalog that the block and the refreshes before it left. It differs from that which the
-- commit leaves in its views alone, so what is said of the catalogs of traces, of any view, is said of it too.
use Rattle.std.specs.Prelude.{List, [], fold, ◌≡◌}
use Rattle.def_effect.specs.Block.{Progress}
use Rattle.def_history.specs.Catalog.{Catalog, View}
use Rattle.def_journal.specs.Committing.{after_block, do_due, do_dues}

-- The catalog after the block and the refreshes of these views.
abbrev pub catalog_midway : Catalog → Progress → List View → Catalog
catalog_midway c p vs = (fold do_due (record { catalog = after_block c p; lines = []; read = 0 }) vs).catalog

pub record CommitLaws : Type 0 where
  pub midway : (c : Catalog) (p : Progress) (vs : List View) → catalog_midway c p vs ≡ record (do_dues (after_block c p) p.changes).catalog { views = (catalog_midway c p vs).views }
