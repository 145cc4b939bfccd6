-- The laws of deltas.
use Rattle.law_delta.proofs.Changes.{changes_balanced}
use Rattle.law_delta.proofs.Inserted.{refreshed_by_inserts}
use Rattle.law_delta.proofs.Made.{delta_is}
use Rattle.law_delta.proofs.Parted.{refreshed_parts}
use Rattle.law_delta.proofs.Refreshed.{refreshed}
use Rattle.law_delta.proofs.Whole.{star_refresh}
use Rattle.law_delta.specs.Laws.{DeltaLaws}

pub delta_laws : DeltaLaws
delta_laws =
    record {
      balance = changes_balanced;
      moved = λ value q having keyed rows grouped now olds before news h counted es apart found. refreshed value q having keyed rows grouped now olds before news h counted es apart found;
      made = λ value q having keyed rows grouped now olds before news h counted. delta_is value q having keyed rows grouped now olds before news h counted;
      inserted = λ value q having keyed grouped now before news h es apart found. refreshed_by_inserts value q having keyed grouped now before news h es apart found;
      star = star_refresh;
      parts = λ value q place col selected test keyed before now same. refreshed_parts value q place col selected test keyed before now same;
    }
