use Rattle.std.proofs.Common.{◌≡◌, ◌++◌, drop}
use Rattle.std.specs.Option.{option_copied}
use Rattle.wh_base.specs.declared.columns.ColPart.TheVariants.{Col}
use Rattle.def_meaning.specs.Ranges.{admitted_parts, query_range}
use Rattle.wh_star.specs.Lookups.{admitted_from}
use Rattle.wh_star.proofs.joining.admitted_parts.Given as goal

abbrev pub invariant-loop-part : goal.invariant-loop-part
invariant-loop-part l = record {
  numbers : l.numbers.items ++ admitted_from l.query l.key (option_copied l.lo) (drop l.part-index l.parts) ≡ admitted_parts l.query l.parts l.key;
  range : l.range ≡ query_range l.query (record { table = l.query.root; part = Col l.key });
}
