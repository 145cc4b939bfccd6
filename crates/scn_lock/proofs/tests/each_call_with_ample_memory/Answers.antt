use Rattle.std.proofs.Common.{rules, arith, ◌≡◌, ℕ, ◌∷◌, [], List, ap, ◌∙◌}
use mathlib.Core.Option.{some}
use lib.ListN.{get_elem?}
use Rattle.scn_lock.specs.Words.{view}
use Rattle.scn_lock.specs.declared.tests.Entry.{Entry}
use Rattle.scn_lock.proofs.tests.each_call_with_ample_memory.Goals as goal

pub close-log-requires-clause-alone : goal.close-log-requires-clause-alone
close-log-requires-clause-alone g c =
    let last = view c.join.new.pass in let one = view c.add-2.new.pass in
    let kept : last.joined ≡ (one.number, one.own) ∷ [] = search rules in
    let made : last.made ≡ 2 = search rules in
    let first : one.number ≡ 1 = search rules in
    λ n low high. (one.own, (0, ap (λ (l : List (ℕ × List Entry)). get_elem? l 0) kept ∙ ap (λ (m : ℕ). some (m, one.own)) (omega (arith, first, made))))
