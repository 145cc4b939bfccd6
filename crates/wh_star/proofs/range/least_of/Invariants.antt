use Rattle.std.proofs.Common.{◌≡◌, drop}
use Rattle.std.specs.List.{filter}
use Rattle.std.specs.Option.{option_copied}
use Rattle.std.specs.Prelude.{unwrap_or}
use Rattle.wh_base.specs.declared.values.Value.TheVariants.{Null}
use Rattle.def_meaning.specs.Meaning.{either_value, lesser, min_value, not_null}
use Rattle.wh_star.proofs.range.least_of.Given as goal

abbrev pub invariant-loop-value : goal.invariant-loop-value
invariant-loop-value l =
    either_value lesser (unwrap_or (option_copied l.least) Null) (min_value (filter not_null (drop l.value-index l.values)))
    ≡ min_value (filter not_null l.values)
