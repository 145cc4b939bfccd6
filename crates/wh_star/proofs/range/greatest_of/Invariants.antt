use Rattle.std.proofs.Common.{◌≡◌, drop}
use Rattle.std.specs.List.{filter}
use Rattle.std.specs.Option.{option_copied}
use Rattle.std.specs.Prelude.{unwrap_or}
use Rattle.wh_base.specs.declared.values.Value.TheVariants.{Null}
use Rattle.def_meaning.specs.Meaning.{either_value, greater, max_value, not_null}
use Rattle.wh_star.proofs.range.greatest_of.Given as goal

abbrev pub invariant-loop-value : goal.invariant-loop-value
invariant-loop-value l =
    either_value greater (unwrap_or (option_copied l.greatest) Null) (max_value (filter not_null (drop l.value-index l.values)))
    ≡ max_value (filter not_null l.values)
