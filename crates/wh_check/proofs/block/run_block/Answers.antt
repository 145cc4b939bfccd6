use Rattle.std.proofs.Common.{Some, ap, arith, refl, subst, ◌+◌, ◌≡◌, ◌≤◌, ◌∙◌}
use Rattle.def_effect.specs.Block.{max_rows}
use Rattle.wh_check.specs.Making.{Ends, StayRight, read_in, statement_step}
use Rattle.wh_check.proofs.Running.{all_done, begins, cut_at, goes_on, right_begins, sized_now, stops, whole_now}
use Rattle.wh_check.proofs.block.run_block.Goals as goal

pub loop-at-init : goal.loop-at-init
loop-at-init g c = record {
  way = begins c.args.tables.now.scn c.args.kept c.args.tables.now.tables.items c.args.statements.now c.raise.new.self.scn c.raise.new.self.tables.items c.args.tables.now.kept.settled
      (c.raise.ensures.scn ∙ ap (λ n. n + 1) c.in_ok-after.ensures.scn) (c.raise.ensures.tables ∙ c.in_ok-after.ensures.tables) c.requires.kept;
  raised = omega arith;
  same = refl;
  right = right_begins c.args.tables.now.scn c.args.tables.now.tables.items c.raise.new.self.scn c.raise.new.self.tables.items c.args.keys.now.now c.args.tables.now.kept.settled
      (c.raise.ensures.scn ∙ ap (λ n. n + 1) c.in_ok-after.ensures.scn) (c.raise.ensures.tables ∙ c.in_ok-after.ensures.tables) c.requires.right;
}

pub run_statement-requires-clause-whole : goal.run_statement-requires-clause-whole
run_statement-requires-clause-whole g c =
    let l = c.loop-at in
    whole_now c.args.tables.now.scn c.args.kept c.args.tables.now.tables.items c.args.statements.now l.at l.after.scn l.after.tables.items l.rows l.fresh l.read c.requires.whole l.invariant.way

pub run_statement-requires-clause-sized : goal.run_statement-requires-clause-sized
run_statement-requires-clause-sized g c =
    let l = c.loop-at in
    sized_now c.args.tables.now.scn c.args.kept c.args.tables.now.tables.items c.args.statements.now l.at l.after.scn l.after.tables.items l.rows l.fresh l.read c.requires.sized l.invariant.way

pub returns-in-Err-clause-outcome : goal.returns-in-Err-clause-outcome
returns-in-Err-clause-outcome g c =
    let l = c.loop-at in
    let st = c.index-statements-at.result in
    let cut = cut_at c.args.statements.now l.at st c.loop-at-test.true c.index-statements-at.is in
    let fails = subst (Ends (statement_step c.args.kept st) l.after.scn c.args.kept l.after.tables.items c.run_statement.new.tables.tables.items) c.in-Err.is c.in_ok-made.ensures.ends in
    record {
      stopped = record { at = l.at + 1; code = c.in-Err.stop.code; scanned = l.read + c.in-Err.stop.read };
      is = stops c.args.tables.now.scn c.args.kept c.args.tables.now.tables.items c.args.statements.now l.at l.after.scn l.after.tables.items l.rows l.fresh l.read l.invariant.way st cut c.in-Err.stop.code c.in-Err.stop.read fails;
      refused_is = ap (λ n. record { code = c.in-Err.stop.code; at = Some n; read = l.read + c.in-Err.stop.read }) c.in_ok-number.ensures;
    }

pub loop-at-preserved : goal.loop-at-preserved
loop-at-preserved g c =
    let l = c.loop-at in
    let st = c.index-statements-at.result in
    let cut = cut_at c.args.statements.now l.at st c.loop-at-test.true c.index-statements-at.is in
    let goes = subst (Ends (statement_step c.args.kept st) l.after.scn c.args.kept l.after.tables.items c.run_statement.new.tables.tables.items) c.in-Ok.is c.in_ok-made.ensures.ends in
    let more : c.run_statement.new.reads ≡ l.reads + c.in-Ok.made.read = c.in_ok-made.ensures.raised ∙ ap (λ r. l.reads + read_in r) c.in-Ok.is in
    let most = c.in_ok-made.ensures.most in
    let had = l.invariant.raised in
    let few : c.in-Ok.made.read ≤ max_rows = omega (arith, more, most) in
    record {
      way = goes_on c.args.tables.now.scn c.args.kept c.args.tables.now.tables.items c.args.statements.now l.at l.after.scn l.after.tables.items l.rows l.fresh l.read l.invariant.way st cut
          c.run_statement.new.tables.tables.items c.run_statement.new.tables.scn c.in-Ok.made.rows c.in-Ok.made.fresh c.in-Ok.made.read c.in_ok-made.ensures.scn goes few;
      raised = omega (arith, more, had);
      same = c.in_ok-made.ensures.same ∙ l.invariant.same;
      right = subst (StayRight c.run_statement.new.tables.scn c.run_statement.new.tables.tables.items c.run_statement.new.keys.now) c.in-Ok.is c.in_ok-made.ensures.right;
    }

pub returns-clause-outcome : goal.returns-clause-outcome
returns-clause-outcome g c =
    let l = c.loop-at in
    all_done c.args.tables.now.scn c.args.kept c.args.tables.now.tables.items c.args.statements.now l.at l.after.scn l.after.tables.items l.rows l.fresh l.read (c.args.kept + l.fresh) l.invariant.way
    l.after.kept.stored l.after.kept.settled c.loop-at-test.false refl
