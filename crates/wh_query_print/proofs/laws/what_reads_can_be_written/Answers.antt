use Rattle.wh_query_print.proofs.Back.{spelled-written, text-written}
use Rattle.wh_query_print.proofs.laws.what_reads_can_be_written.Goals as goal

pub returns : goal.returns
returns c = record { spelled = spelled-written; text = text-written }
