-- What the code's kinds of columns and literals stand for.
use Rattle.def_resolve.specs.Kinds as kinds
use Rattle.wh_resolve.specs.declared.kinds.Sort.{Sort}
use Rattle.wh_resolve.specs.declared.kinds.Sort.TheVariants.{Any, Day, Number, Text}

abbrev pub meant : Sort → kinds.Sort
meant Number = kinds.IsNumber
meant Text = kinds.IsText
meant Day = kinds.IsDay
meant Any = kinds.IsAny
