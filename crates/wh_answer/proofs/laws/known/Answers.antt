use Rattle.wh_answer.proofs.Evaluated.{can_answer, view_can}
use Rattle.wh_answer.proofs.laws.known.Goals as goal

pub returns : goal.returns
returns g c =
    record {
      asked = λ trace raw q is resolved.
          can_answer c.args.image.now.tables.scn c.args.image.now.tables.tables.items c.args.image.now.views trace is c.tables_law.ensures.shows c.tables_law.ensures.numbered c.tables_law.ensures.parts
          c.rows_are_right.ensures c.tables_have_sizes.ensures raw q resolved;
      kept = λ trace n k is found.
          view_can c.args.image.now.tables.scn c.args.image.now.tables.tables.items c.args.image.now.views trace is c.tables_law.ensures.shows c.tables_law.ensures.numbered c.tables_law.ensures.parts
          c.rows_are_right.ensures c.tables_have_sizes.ensures c.views_are_of_texts.ensures n k found;
    }
