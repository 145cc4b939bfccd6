use Rattle.std.proofs.Common.{ap, List, [], ◌∷◌, ◌++◌, ◌≡◌, ◌∙◌}
use Rattle.wh_base.specs.declared.tables.TableDef.{TableDef}
use Rattle.wh_table.proofs.Changing.{pushed_kept}
use Rattle.wh_table.proofs.tables.Tables.push_table.Goals as goal

pub invariant_of-self-2 : goal.invariant_of-self-2
invariant_of-self-2 g c =
    let all : c.in_ok-defs.defs ≡ c.args.self.now.defs ++ c.args.def ∷ [] = c.in_ok-defs.ensures ∙ ap (λ (ds : List TableDef). ds ++ c.args.def ∷ []) c.get.ensures in
    record {
      kept = pushed_kept c.args.self.now.scn c.args.self.now.tables.items c.push_to.new.tables.items c.args.self.now.defs c.in_ok-defs.defs c.args.self.now.no_parts c.in_ok-table.table c.args.def c.args.self.now.kept
          c.in_ok-table.ensures all c.in_ok-push_to.ensures.ok c.in_ok-push_to.ensures.few;
    }
