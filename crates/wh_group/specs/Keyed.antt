-- What contracts see of a value that stands in a tuple.
use Rattle.wh_base.specs.declared.values.Value.{Value}

abbrev pub PartValue : Type 0
PartValue = Value
