use Rattle.std.proofs.Common.{◌≡◌, drop}
use Rattle.std.specs.List.{list_all}
use Rattle.def_built.specs.Commands.{part_of_block_is_built}
use Rattle.wh_script.proofs.built.parts_of_block_are_built.Given as goal

abbrev pub invariant-loop-statement : goal.invariant-loop-statement
invariant-loop-statement l = list_all part_of_block_is_built (drop l.statement-index l.statements) ≡ list_all part_of_block_is_built l.statements
