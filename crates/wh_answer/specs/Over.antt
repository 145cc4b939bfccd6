-- Which trace an image is the catalog of.
use Rattle.std.specs.Prelude.{List, ℕ}
use Rattle.wh_base.specs.declared.statements.Event.{Event}
use Rattle.wh_image.specs.Standing.{StandsFor}
use Rattle.wh_table.specs.Stored.{Stored}
use Rattle.law_trace.specs.Reached.{catalog_of}
use Rattle.wh_view.specs.Kept.{AllKept}
use Rattle.law_views.specs.Read.{AreRead}

-- The image with these tables and views at this SCN is the catalog that the trace leaves, and each command of the trace asks what its text reads as.
pub record IsImageOf (trace : List Event) (scn : ℕ) (tables : List Stored) (views : AllKept) : Type 0 where
  pub stands : StandsFor scn tables views (catalog_of trace)
  pub read : AreRead trace

-- The image is that of some trace.
pub record IsImage (scn : ℕ) (tables : List Stored) (views : AllKept) : Type 0 where
  pub trace : List Event
  pub is : IsImageOf trace scn tables views
