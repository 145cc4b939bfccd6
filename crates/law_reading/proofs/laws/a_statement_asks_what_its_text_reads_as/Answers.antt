use Rattle.law_reading.proofs.Statements.{statement-reads}
use Rattle.law_reading.proofs.laws.a_statement_asks_what_its_text_reads_as.Goals as goal

pub returns : goal.returns
returns c = statement-reads
