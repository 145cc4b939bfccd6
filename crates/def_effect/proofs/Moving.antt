-- Where no row moves, the changes that are made are those that are asked.
use Rattle.std.proofs.Common.{◌≡◌, ◌∙◌, ap, refl, ℕ, suc, Bool, true, false, cond, not, List, [], ◌∷◌, ◌++◌}
use Rattle.std.specs.Prelude.{None, Option, Some, option_map, ◌&&◌, ◌==◌}
use Rattle.wh_base.specs.Lists.{option_case}
use Rattle.wh_base.specs.Tables.{Table, is_insert, mark_of, part_of_key, value_at}
use Rattle.wh_base.specs.declared.tables.Change.{Change}
use Rattle.wh_base.specs.declared.values.Value.{Value}
use Rattle.def_effect.specs.Block.{is_moved, made_changes, moved_changes, moves_row}

-- in a table without row movement no change moves a row
pub unmoved-held : (t : Table) → t.def.movement ≡ false → (c : Change) → is_moved t c ≡ false
unmoved-held t h c = ap (λ b. b && option_case c.new false (moves_row t c.old)) h

-- nor in a table without partitions
pub unmoved-whole : (t : Table) → t.def.part_key ≡ None → (c : Change) → is_moved t c ≡ false
unmoved-whole t h c = by t.def.movement c.new c.old
  where
    mark : (vs : List Value) → mark_of t vs ≡ 0
    mark vs = ap (λ k. option_case (option_map (value_at vs) k) 0 (λ key. option_case (part_of_key t key) 0 (λ p. p.0.number))) h

    by : (b : Bool) → (new old : Option (List Value)) → (b && option_case new false (moves_row t old)) ≡ false
    by false new old = refl
    by true None old = refl
    by true (Some vs) None = refl
    by true (Some vs) (Some ws) = ap (λ m. not (m == mark_of t vs)) (mark ws) ∙ ap (λ m. not (0 == m)) (mark vs)

-- the changes that are made are those that are asked
pub made-as_asked : (t : Table) → ((c : Change) → is_moved t c ≡ false) → (given : ℕ) (cs : List Change) → made_changes t given cs ≡ cs
made-as_asked t none given [] = refl
made-as_asked t none given (c ∷ cs) =
    ap (λ b. cond b (moved_changes c (suc given) ++ made_changes t (suc given) cs) (c ∷ made_changes t (cond (is_insert c) (suc given) given) cs)) (none c)
    ∙ ap (λ more. c ∷ more) (made-as_asked t none (cond (is_insert c) (suc given) given) cs)
