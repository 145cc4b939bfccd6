-- What the refreshes at a commit leave as it was.
use Rattle.std.proofs.Common.{ℕ, true, List, [], ◌∷◌, Option, None, Some}
use Rattle.std.specs.List.{filter, fold}
use Rattle.wh_base.specs.Tables.{TableChange}
use Rattle.wh_base.specs.declared.statements.Method.{Method}
use Rattle.wh_base.specs.declared.statements.Method.TheVariants.{Complete, Fast, Force, Partition}
use Rattle.wh_base.specs.declared.views.Restriction.{Restriction}
use Rattle.def_history.specs.Catalog.{Catalog, View, defs_now}
use Rattle.def_history.specs.Staleness.{restriction}
use Rattle.def_journal.specs.Committing.{Dues, do_due, do_dues, is_due, refresh_due, suspend}
use Rattle.def_journal.specs.Refreshing.{change_view, refreshed_to}
use Rattle.def_restrictions.specs.Restrictions.{restricted}
use Rattle.law_trace.proofs.Listed.{Each}
use Rattle.law_trace.proofs.Moves.{installed}

abbrev pub suspended : View → View
suspended v = record v { suspended = true }

-- what a suspension keeps and a refresh to the SCN of now
pub record KeepsDue (R : Catalog → Type 0) : Type 0 where
  pub suspends : (c : Catalog) (n : ℕ) → R c → R (change_view n suspended c)
  pub refreshes : (c : Catalog) (n : ℕ) → R c → R (change_view n (refreshed_to c.scn) c)

abbrev due_by : Dues → View → Method → Option Restriction → Dues
due_by d v Fast None = refresh_due d v Fast
due_by d v Fast (Some r) = suspend d v (restricted (defs_now d.catalog) r)
due_by d v Force None = refresh_due d v Fast
due_by d v Force (Some r) = refresh_due d v Complete
due_by d v Complete r = refresh_due d v Complete
due_by d v Partition r = refresh_due d v Complete

by_keeps : (R : Catalog → Type 0) → KeepsDue R → (d : Dues) (v : View) (m : Method) (o : Option Restriction) → R d.catalog → R (due_by d v m o).catalog
by_keeps R k d v Fast None h = k.refreshes d.catalog v.def.view h
by_keeps R k d v Fast (Some r) h = k.suspends d.catalog v.def.view h
by_keeps R k d v Force None h = k.refreshes d.catalog v.def.view h
by_keeps R k d v Force (Some r) h = k.refreshes d.catalog v.def.view h
by_keeps R k d v Complete o h = k.refreshes d.catalog v.def.view h
by_keeps R k d v Partition o h = k.refreshes d.catalog v.def.view h

due_keeps : (R : Catalog → Type 0) → KeepsDue R → (d : Dues) (v : View) → R d.catalog → R (do_due d v).catalog
due_keeps R k d v h = by_keeps R k d v v.def.method (restriction d.catalog v) h

pub fold_keeps : (R : Catalog → Type 0) → KeepsDue R → (d : Dues) (vs : List View) → R d.catalog → R (fold do_due d vs).catalog
fold_keeps R k d [] h = h
fold_keeps R k d (v ∷ vs) h = fold_keeps R k (do_due d v) vs (due_keeps R k d v h)

pub dues_keep : (R : Catalog → Type 0) → KeepsDue R → (c : Catalog) (changes : List TableChange) → R c → R (do_dues c changes).catalog
dues_keep R k c changes h = fold_keeps R k (record { catalog = c; lines = []; read = 0 }) (filter (is_due changes) c.views) h

-- what installs keep: each view of a list, one after another
pub installs_keep : (R : Catalog → Type 0) (Q : ℕ × ℕ → Type 0) → ((c : Catalog) (p : ℕ × ℕ) → Q p → R c → R (change_view p.0 (refreshed_to p.1) c)) → (c : Catalog) (ps : List (ℕ × ℕ)) → Each Q ps → R c
    → R (installed ps c)
installs_keep R Q k c [] each h = h
installs_keep R Q k c (p ∷ ps) each h = installs_keep R Q k (change_view p.0 (refreshed_to p.1) c) ps each.1 (k c p each.0 h)
