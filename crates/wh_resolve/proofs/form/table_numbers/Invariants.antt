use Rattle.std.proofs.Common.{◌≡◌, ◌++◌, drop, map}
use Rattle.wh_resolve.proofs.form.table_numbers.Given as goal

abbrev pub invariant-loop-source : goal.invariant-loop-source
invariant-loop-source l = l.all.items ++ map (λ s. s.table) (drop l.source-index l.sources) ≡ map (λ s. s.table) l.sources
