-- A tree that grows table by table, and stays where no table can be added.
use Rattle.std.proofs.Common.{◌≡◌, ◌∙◌, ap, refl, sym, ℕ, zero, suc, List, Some, None}
use Rattle.def_resolve.specs.Star.{Tree, grow, next_branch, with_branch}
use Rattle.wh_base.specs.declared.queries.Edge.{Edge}
use Rattle.wh_base.specs.declared.tables.TableDef.{TableDef}

-- one table more
pub added : (k n : ℕ) (defs : List TableDef) (joins : List Edge) (from : List ℕ) (tree : Tree) (e : Edge) → k ≡ suc n → Some e ≡ next_branch defs joins from tree → grow n defs joins from (with_branch tree (Some e)) ≡ grow k defs joins from tree
added k n defs joins from tree e same h = rw (same, sym h) refl

-- no table can be added
pub stuck : (k : ℕ) (defs : List TableDef) (joins : List Edge) (from : List ℕ) (tree : Tree) → None ≡ next_branch defs joins from tree → tree ≡ grow k defs joins from tree
stuck zero defs joins from tree h = refl
stuck (suc n) defs joins from tree h = stuck n defs joins from tree h ∙ ap (λ o. grow n defs joins from (with_branch tree o)) h

-- all turns are over
pub grown : (k : ℕ) (defs : List TableDef) (joins : List Edge) (from : List ℕ) (tree : Tree) → k ≡ 0 → tree ≡ grow k defs joins from tree
grown k defs joins from tree h = rw h refl

pub ruleset growing = (added, stuck, grown)
