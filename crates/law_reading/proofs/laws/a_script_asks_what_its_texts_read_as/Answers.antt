use Rattle.law_reading.proofs.Scripts.{built-script-reads, script-reads}
use Rattle.law_reading.proofs.laws.a_script_asks_what_its_texts_read_as.Goals as goal

pub returns : goal.returns
returns c = record { tested = script-reads; built = built-script-reads }
