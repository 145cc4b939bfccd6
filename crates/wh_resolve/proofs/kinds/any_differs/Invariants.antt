use Rattle.std.proofs.Common.{◌≡◌, drop, not}
use Rattle.std.specs.List.{list_any}
use Rattle.def_resolve.specs.Kinds.{agrees, literal_sort}
use Rattle.wh_resolve.specs.Sorts.{meant}
use Rattle.wh_resolve.proofs.kinds.any_differs.Given as goal

abbrev pub invariant-loop-literal : goal.invariant-loop-literal
invariant-loop-literal l = list_any (λ x. not (agrees (meant l.sort) (literal_sort x))) (drop l.literal-index l.literals) ≡ list_any (λ x. not (agrees (meant l.sort) (literal_sort x))) l.literals
