use Rattle.std.proofs.Common.{◌≡◌, drop, Some, None}
use Rattle.wh_base.specs.Lists.{first_of, option_case}
use Rattle.wh_base.specs.Tables.{table_number}
use Rattle.wh_base.specs.declared.replies.Refusal.TheVariants.{NoSuchObject}
use Rattle.wh_resolve.proofs.sources.table_refusal.Given as goal

abbrev pub invariant-loop-table : goal.invariant-loop-table
invariant-loop-table l = first_of (λ t. option_case (table_number l.defs t.table) (Some (NoSuchObject t.table)) (λ _. None)) (drop l.table-index l.table-items) ≡ first_of (λ t. option_case (table_number l.defs t.table) (Some (NoSuchObject t.table)) (λ _. None)) l.table-items
