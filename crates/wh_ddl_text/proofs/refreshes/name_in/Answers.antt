use Rattle.std.proofs.Common.{sym}
use Rattle.wh_ddl_text.proofs.TextNames.{name_in-by, name_in-fault}
use Rattle.wh_ddl_text.proofs.refreshes.name_in.Goals as goal

pub returns-in-Ok : goal.returns-in-Ok
returns-in-Ok c = rw (name_in-by c.args.text.now c.in-Ok.statement c.in-Ok.ensures.part) c.only_name.ensures

pub returns-in-Err-BadCharacter : goal.returns-in-Err-BadCharacter
returns-in-Err-BadCharacter c = sym (name_in-fault c.args.text.now _ (rw c.in-Err-BadCharacter.field-0-is at c.in-Err-BadCharacter.ensures.fault))

pub returns-in-Err-OpenQuote : goal.returns-in-Err-OpenQuote
returns-in-Err-OpenQuote c = sym (name_in-fault c.args.text.now _ (rw c.in-Err-OpenQuote.field-0-is at c.in-Err-OpenQuote.ensures.fault))
