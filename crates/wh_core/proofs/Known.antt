-- The laws of the crates below that the steps rest on.
use Rattle.wh_image.proofs.Lookup as looking
use Rattle.wh_image.proofs.Tabling as tabling
use Rattle.wh_image.proofs.Viewing as viewing
use Rattle.wh_image.specs.Laws.{Lookups, TableChanges, ViewChanges}
use Rattle.law_trace.proofs.Growing as growing
use Rattle.law_trace.proofs.Installing as installing
use Rattle.law_trace.proofs.Pointing as pointing
use Rattle.law_trace.proofs.Preceding as preceding
use Rattle.law_trace.proofs.Rowing as rowing
use Rattle.law_trace.proofs.Traces as traces
use Rattle.law_trace.proofs.Versions as versions
use Rattle.law_trace.specs.Laws.{ChangeLaws, ImageLaws, InstallLaws, RowLaws, SessionLaws, VersionLaws, ViewLaws}

pub lookups : Lookups
lookups = looking.lookups

pub view_changes : ViewChanges
view_changes = viewing.view_changes

pub table_changes : TableChanges
table_changes = tabling.table_changes

pub change_laws : ChangeLaws
change_laws = growing.change_laws

pub image_laws : ImageLaws
image_laws = preceding.image_laws

pub install_laws : InstallLaws
install_laws = installing.install_laws

pub version_laws : VersionLaws
version_laws = versions.version_laws

pub view_laws : ViewLaws
view_laws = pointing.view_laws

pub row_laws : RowLaws
row_laws = rowing.row_laws

pub session_laws : SessionLaws
session_laws = traces.session_laws
