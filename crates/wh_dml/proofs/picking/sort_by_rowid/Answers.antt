use Rattle.std.proofs.Common.{rules}
use Rattle.std.proofs.lemmas.Cmp.{nat_cmp_total, on_total}
use Rattle.std.proofs.lemmas.List.Sorted.{answers_always}
use Rattle.wh_dml.specs.Picking.{picked_cmp}
use Rattle.wh_dml.proofs.Stable.{stable-sorted}
use Rattle.wh_dml.proofs.picking.sort_by_rowid.Goals as goal

-- a stable sort by rowid leaves the rows in order
pub returns : goal.returns
returns c =
    stable-sorted picked_cmp (on_total (λ p. p.rowid) nat_cmp_total) c.args.rows.now.items c.sort_by_key.new.self.items
    (c.in_ok-sort_by_key.ensures.sorted (λ p. p.rowid) (answers_always _ _ _ (λ f a r f' called. search rules)))
    (c.in_ok-sort_by_key.ensures.stable (λ p. p.rowid) (answers_always _ _ _ (λ f a r f' called. search rules)))
