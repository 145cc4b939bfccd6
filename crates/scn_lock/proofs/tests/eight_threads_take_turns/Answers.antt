use Rattle.std.proofs.Common.{rules}
use Rattle.scn_lock.specs.Words.{view, kept_of}
use Rattle.scn_lock.proofs.Joined.{all_joined}
use Rattle.scn_lock.proofs.tests.eight_threads_take_turns.Goals as goal

pub close-log-requires-clause-alone : goal.close-log-requires-clause-alone
close-log-requires-clause-alone g c = all_joined kept_of c.run_all.new.passes.items (view c.join_all.new.first) (λ k p low. (c.run_all.ensures.1 k p low).2) (search rules) (search rules)
