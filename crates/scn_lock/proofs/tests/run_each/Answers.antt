use Rattle.std.proofs.Common.{rules, arith, ◌≡◌, ◌<◌, ◌+◌, ◌∙◌, ap, subst, length}
use Rattle.scn_lock.specs.Words.{IsOf, IsFree, number_of}
use Rattle.scn_lock.specs.declared.pass.PassOf.{PassOf}
use Rattle.scn_lock.specs.declared.tests.Entry.{Entry}
use Rattle.scn_lock.specs.declared.tests.Log.{Log}
use Rattle.scn_lock.proofs.tests.run_each.Goals as goal

pub returns : goal.returns
returns g c = let same : length c.for_each_mut.new.s ≡ length c.args.passes.now = search rules in (
  same,
  λ k d h. let low : k < length c.args.passes.now = omega arith in let t = (c.for_each_mut.ensures k d low).1 in let was = c.requires.0 k d low in
      let left = t.left in let from = t.argument_is in let did = t.call in
      subst (λ (p : PassOf Log Entry). IsOf c.args.lock.now p × IsFree p × (number_of p ≡ k + 1)) left (did.0, did.1, did.2 ∙ (ap (λ (p : PassOf Log Entry). number_of p) from ∙ was.2)),
)
