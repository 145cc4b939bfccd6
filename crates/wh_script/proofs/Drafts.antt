-- The steps of a draft.
use Rattle.std.proofs.Common.{◌≡◌, ℕ, Err, List, None, Ok, Result, Some, cond}
use Rattle.def_grammar.specs.Forms.{submit_of}
use Rattle.def_grammar.specs.Script.{Draft, OpenBlockAt, bad, in_setup, take_closed, take_command, take_inner, take_own, with_command}
use Rattle.wh_base.specs.declared.statements.Command.TheVariants as commands
use Rattle.wh_base.specs.declared.statements.ScriptKind.TheVariants.{Misplaced}
use Rattle.wh_base.specs.declared.statements.Statement.{Statement}
use Rattle.wh_base.specs.declared.tokens.Token.{Token}
use Rattle.wh_script.specs.Sections.{Gives}
use Rattle.wh_script.specs.declared.fault.ScriptFault.{ScriptFault}

-- a statement in a block
pub closed-inner : (r : Result Draft ScriptFault) (d : Draft) (b : OpenBlockAt) (line : ℕ) (ts : List Token) → d.block ≡ Some b → Gives r (take_inner (record d { block = None }) b line ts) → Gives r (take_closed d line ts)
closed-inner r d b line ts e h = rw e h

pub ruleset blocks = (closed-inner)

-- a statement outside blocks that submits nothing, and one that does
pub command-own : (r : Result Draft ScriptFault) (d : Draft) (line : ℕ) (ts : List Token) → submit_of ts ≡ None → Gives r (take_own d line ts) → Gives r (take_command d line ts)
command-own r d line ts e h = rw e h

pub command-submit : (r : Result Draft ScriptFault) (d : Draft) (line : ℕ) (ts : List Token) (s : Statement) → submit_of ts ≡ Some s → Gives r (cond (in_setup d) (Err (bad line Misplaced)) (Ok (with_command d (commands.Submit s)))) → Gives r (take_command d line ts)
command-submit r d line ts s e h = rw e h

pub ruleset submits = (command-own, command-submit)
