-- The admitted partitions, one after another, from a lower bound on.
use Rattle.std.proofs.Common.{◌≡◌, ◌∙◌, ◌+◌, ◌<◌, ◌≤◌, ℕ, Bool, true, false, cond, not, List, [], ◌∷◌, ◌++◌, Option, length, map, drop, get_or, refl, arith, sym, ap, append_assoc}
use Rattle.std.proofs.Math.ListN.{drop_of_length-le}
use Rattle.std.proofs.lemmas.List.{append-nil, drop_more}
use Rattle.wh_base.specs.declared.columns.ColPart.TheVariants.{Col}
use Rattle.wh_base.specs.declared.queries.StarQuery.{StarQuery}
use Rattle.wh_base.specs.declared.tables.Part.{Part}
use Rattle.wh_base.specs.declared.values.Value.{Value}
use Rattle.def_meaning.specs.Ranges.{misses}
use Rattle.wh_star.specs.Lookups.{admitted_from}

-- one partition more is admitted, or it isn't
pub admitted-more :
    (q : StarQuery) (key : ℕ) (lo : Option Value) (parts : List Part) (at : ℕ) (d : Part) → at < length parts
    → misses q (record { table = q.root; part = Col key }) (record { lo = lo; hi = (get_or parts at d).below }) ≡ false
    → admitted_from q key lo (drop at parts) ≡ (get_or parts at d).number ∷ admitted_from q key (get_or parts at d).below (drop (at + 1) parts)
admitted-more q key lo parts at d h e = rw (drop_more parts at d h, e) refl

pub missed-more :
    (q : StarQuery) (key : ℕ) (lo : Option Value) (parts : List Part) (at : ℕ) (d : Part) → at < length parts
    → misses q (record { table = q.root; part = Col key }) (record { lo = lo; hi = (get_or parts at d).below }) ≡ true
    → admitted_from q key lo (drop at parts) ≡ admitted_from q key (get_or parts at d).below (drop (at + 1) parts)
missed-more q key lo parts at d h e = rw (drop_more parts at d h, e) refl

pub admitted-done : (q : StarQuery) (key : ℕ) (lo : Option Value) (parts : List Part) (at : ℕ) → length parts ≤ at → admitted_from q key lo (drop at parts) ≡ []
admitted-done q key lo parts at h = rw (drop_of_length-le parts h) refl

pub ruleset parts = (admitted-more, missed-more, admitted-done, append_assoc, append-nil)
