-- The names of conditions, one condition after another.
use Rattle.std.proofs.lemmas.List.Folds.{list_all-append}

pub ruleset plain = (list_all-append)
