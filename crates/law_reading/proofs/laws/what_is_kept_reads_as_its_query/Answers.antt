use Rattle.law_reading.proofs.Kept.{kept-reads}
use Rattle.law_reading.proofs.laws.what_is_kept_reads_as_its_query.Goals as goal

pub returns : goal.returns
returns c = kept-reads
