use Rattle.std.proofs.Common.{subst, sym, ◌∙◌, ap, ◌++◌, ◌∷◌, [], Some, List, Option}
use Rattle.atomic_table.specs.Table.{opening}
use Rattle.scn_lock.specs.Rule.{Orderly}
use Rattle.scn_lock.specs.Steps.{opener}
use Rattle.scn_lock.proofs.Sharing.{starts}
use Rattle.scn_lock.proofs.lock.ScnLock.new.Goals as goal

pub new-requires : goal.new-requires
new-requires g c = subst (λ (xs : List (Option g.row.C.Denot)). Orderly g.C.Journaled.journal g.C.Journaled.number (opening (0 ∷ 0 ∷ 0 ∷ []) xs opener))
    (sym (c.push_reserved.ensures.items ∙ ap (λ (xs : List (Option g.row.C.Denot)). xs ++ Some c.args.value ∷ []) c.in-Ok.ensures.items)) (starts g.C.Journaled.journal g.C.Journaled.number c.args.value c.requires)
