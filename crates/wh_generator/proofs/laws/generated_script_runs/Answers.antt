use Rattle.law_views.specs.Read.{IsRead}
use Rattle.wh_generator.proofs.Built.{all-built, command-count, sessions-are}
use Rattle.wh_generator.proofs.Reading.{script-holds}
use Rattle.wh_generator.proofs.laws.generated_script_runs.Goals as goal

pub returns : goal.returns
returns c = record {
  built = all-built;
  reads =
      script-holds IsRead (record { blocks = λ b. tt; statements = c.a_statement_asks_what_its_text_reads_as.ensures });
  sessions = sessions-are;
  commands = command-count;
}
