-- Between the refreshes at a commit the views alone change.
use Rattle.std.proofs.Common.{◌≡◌, ◌∙◌, sym, ap, refl, List, [], ◌==◌}
use Rattle.std.specs.List.{filter}
use Rattle.def_effect.specs.Block.{Progress}
use Rattle.def_history.specs.Catalog.{Catalog, View}
use Rattle.def_journal.specs.Committing.{after_block, do_dues, is_due}
use Rattle.law_refresh.specs.Midway.{CommitLaws, catalog_midway}
use Rattle.def_journal.specs.Refreshing.{refreshed_to}
use Rattle.wh_base.specs.Lists.{change_where}
use Rattle.law_trace.proofs.Due.{KeepsDue, fold_keeps, suspended}

-- the catalog b with other views
abbrev HasViews : Catalog → Catalog → Type 0
HasViews b d = d ≡ record b { views = d.views }

keeps_views : (b : Catalog) → KeepsDue (HasViews b)
keeps_views b =
    record {
      suspends = λ c n h. λ i. record (h i) { views = change_where (λ v. v.def.view == n) suspended c.views };
      refreshes = λ c n h. λ i. record (h i) { views = change_where (λ v. v.def.view == n) (refreshed_to c.scn) c.views };
    }

midway : (c : Catalog) (p : Progress) (vs : List View) → catalog_midway c p vs ≡ record (do_dues (after_block c p) p.changes).catalog { views = (catalog_midway c p vs).views }
midway c p vs =
    let b : Catalog = after_block c p in
    let mid : HasViews b (catalog_midway c p vs) = fold_keeps (HasViews b) (keeps_views b) (record { catalog = b; lines = []; read = 0 }) vs refl in
    let end : HasViews b (do_dues b p.changes).catalog = fold_keeps (HasViews b) (keeps_views b) (record { catalog = b; lines = []; read = 0 }) (filter (is_due p.changes) b.views) refl in
    mid ∙ sym (ap (λ (d : Catalog). record d { views = (catalog_midway c p vs).views }) end)

pub commit_laws : CommitLaws
commit_laws = record { midway = midway }
