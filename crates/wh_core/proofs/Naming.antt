-- Names among definitions are names among tables.
use Rattle.std.proofs.Common.{◌≡◌, ap, refl, List, [], ◌∷◌, ◌||◌}
use Rattle.std.specs.List.{list_any}
use Rattle.wh_base.specs.Lists.{same_text}
use Rattle.std.specs.Prelude.{ℕ}
use Rattle.wh_table.specs.Kept.{defs_of}
use Rattle.wh_table.specs.Stored.{Stored}

pub named_defs : (name : List ℕ) (tables : List Stored) → list_any (λ d. same_text name d.name) (defs_of tables) ≡ list_any (λ s. same_text name s.def.name) tables
named_defs name [] = refl
named_defs name (s ∷ tables) = ap (λ b. same_text name s.def.name || b) (named_defs name tables)

pub ruleset naming = named_defs
