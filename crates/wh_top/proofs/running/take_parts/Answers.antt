use Rattle.std.proofs.Common.{◌<◌, sym, subst, arith, length, take, drop, suc, [], get_or}
use Rattle.wh_base.specs.declared.statements.Entry.{Entry}
use Rattle.wh_top.proofs.SoFar.{SoFar, entry_within, front_at, legal_at, next_so_far, start_so_far, step_so_far}
use Rattle.wh_top.proofs.running.take_parts.Goals as goal

abbrev none : Entry
none = record { session = 0; command = 0; part = 0; worker = 0 }

pub loop-entry-init : goal.loop-entry-init
loop-entry-init g c =
    let script = c.args.script.value in
    subst (λ t. SoFar c.args.version.value script [] t c.args.sessions.now c.args.reads.now c.args.reads.now) (sym c.in_ok-core.ensures) (start_so_far c.args.version.value script c.args.sessions.now c.args.reads.now c.requires.sessions c.requires.counters)

pub take_part-requires-clause-next : goal.take_part-requires-clause-next
take_part-requires-clause-next g c =
    let script = c.args.script.value in
    let journal = c.args.journal.now in
    let entries = c.as_slice-entry-items.result.now in
    let i = c.loop-entry.entry-index in
    let within : i < length entries = omega arith in
    let legal = legal_at script journal entries i none c.as_slice-entry-items.ensures.items within c.requires.legal in
    next_so_far c.args.version.value script (take i journal) (drop (suc i) journal) (get_or entries i none) c.loop-entry.core c.loop-entry.sessions c.args.reads.now c.loop-entry.reads c.requires.runnable legal c.loop-entry.invariant

pub take_part-requires-clause-counter : goal.take_part-requires-clause-counter
take_part-requires-clause-counter g c =
    let script = c.args.script.value in
    let journal = c.args.journal.now in
    let entries = c.as_slice-entry-items.result.now in
    let i = c.loop-entry.entry-index in
    let within : i < length entries = omega arith in
    let legal = legal_at script journal entries i none c.as_slice-entry-items.ensures.items within c.requires.legal in
    let low = entry_within script (take i journal) (drop (suc i) journal) (get_or entries i none) c.requires.runnable legal in
    omega (arith, low, c.loop-entry.invariant.many)

pub loop-entry-preserved : goal.loop-entry-preserved
loop-entry-preserved g c =
    let script = c.args.script.value in
    let journal = c.args.journal.now in
    let entries = c.as_slice-entry-items.result.now in
    let i = c.loop-entry.entry-index in
    let e = get_or entries i none in
    let within : i < length entries = omega arith in
    let same = c.as_slice-entry-items.ensures.items in
    let legal = legal_at script journal entries i none same within c.requires.legal in
    let step = step_so_far c.args.version.value script (take i journal) (drop (suc i) journal) e c.loop-entry.core c.take_part.new.core c.loop-entry.sessions c.take_part.new.sessions c.args.reads.now c.loop-entry.reads c.take_part.new.reads c.requires.runnable legal c.requires.counters c.loop-entry.invariant c.in_ok-take_part.ensures in
    subst (λ front. SoFar c.args.version.value script front c.take_part.new.core c.take_part.new.sessions c.args.reads.now c.take_part.new.reads) (front_at journal entries i none same within) step
