use Rattle.std.proofs.Common.{◌≡◌, drop}
use Rattle.std.specs.List.{list_any}
use Rattle.def_grammar.specs.Script.{is_unknown}
use Rattle.wh_script.proofs.order.has_unknown.Given as goal

abbrev pub invariant-loop-number : goal.invariant-loop-number
invariant-loop-number l = list_any (is_unknown l.sections) (drop l.number-index l.numbers) ≡ list_any (is_unknown l.sections) l.numbers
