use Rattle.std.proofs.Common.{◌≡◌, drop}
use Rattle.std.specs.List.{list_any}
use Rattle.wh_ddl_text.specs.Pieces.{is_option}
use Rattle.wh_ddl_text.proofs.logs.has_option.Given as goal

-- it is one of the options from here on where it is one of them at all
abbrev pub invariant-loop-option : goal.invariant-loop-option
invariant-loop-option l = list_any (is_option l.wanted) (drop l.option-index l.options) ≡ list_any (is_option l.wanted) l.options
