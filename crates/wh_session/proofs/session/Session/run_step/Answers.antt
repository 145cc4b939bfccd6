use Rattle.std.proofs.Common.{◌≡◌, ◌∙◌, ◌+◌, ap, subst, sym, List, [], None}
use Rattle.std.specs.Vec.Iter.{into_iter_items, into_iter_len}
use Rattle.wh_session.proofs.Taking.{held_as, held_first, held_none, held_started, is_built, is_over, is_read, takes_first}
use Rattle.wh_session.specs.Held.{run_of}
use Rattle.wh_session.specs.Run.{AreOverTables, Run, Takes}
use Rattle.wh_base.specs.Lists.{option_case}
use Rattle.wh_base.specs.declared.statements.Event.{Event}
use Rattle.wh_session.proofs.session.Session.run_step.Goals as goal

pub start-requires-clause-built : goal.start-requires-clause-built
start-requires-clause-built g c =
    is_built _ _ _ _ _ _ (held_none (sym c.take.ensures.value ∙ c.in_default.is) c.self.invariant) c.in-Some-next.command (into_iter_items c.next.new.self) c.in-Some-next.ensures.cases.0

pub start-requires-clause-read : goal.start-requires-clause-read
start-requires-clause-read g c =
    is_read _ _ _ _ _ _ (held_none (sym c.take.ensures.value ∙ c.in_default.is) c.self.invariant) c.in-Some-next.command (into_iter_items c.next.new.self) c.in-Some-next.ensures.cases.0

pub start-requires-clause-over_tables : goal.start-requires-clause-over_tables
start-requires-clause-over_tables g c =
    is_over _ _ _ _ _ _ (held_none (sym c.take.ensures.value ∙ c.in_default.is) c.self.invariant) c.in-Some-next.command (into_iter_items c.next.new.self) c.in-Some-next.ensures.cases.0
    c.args.core.now (subst (λ r. AreOverTables c.args.core.now r.section) (sym c.self.view_is) c.requires.over_tables)

-- also after an error the commands that are left are those behind the ones that have begun
pub invariant_of-self-in_err-self-inside : goal.invariant_of-self-in_err-self-inside
invariant_of-self-in_err-self-inside g c =
    held_as c.take.ensures.after
    (held_first _ _ _ _ _ _ (held_none (sym c.take.ensures.value ∙ c.in_default.is) c.self.invariant) c.in-Some-next.command (into_iter_items c.next.new.self) c.in-Some-next.ensures.cases.0
    _ None (into_iter_len c.next.new.self) c.in-Some-next.ensures.cases.1 tt)

pub invariant_of-self-2 : goal.invariant_of-self-2
invariant_of-self-2 g c =
    held_started _ _ _ _ _ _ (held_none (sym c.take.ensures.value ∙ c.in_default.is) c.self.invariant) c.in-Some-next.command (into_iter_items c.next.new.self) c.in-Some-next.ensures.cases.0
    c.args.core.now c.start.new.core c.of-2.result.value c.in_ok-self-inside.field-0 c.self.inside.telling c.start.new.telling c.args.reads.now c.start.new.reads (into_iter_len c.next.new.self)
    c.of-2.ensures c.in-Some-next.ensures.cases.1 c.in_ok-self-inside.ensures.started

pub returns-clause-takes : goal.returns-clause-takes
returns-clause-takes g c = λ took.
    let seen : List Event = option_case c.self.inside.seen [] (λ s. s.value) in
    let none : c.self.inside.pending ≡ None = sym c.take.ensures.value ∙ c.in_default.is in
    let before : run_of c.self.inside.section.value seen c.self.inside.number c.self.inside.taken None (into_iter_items c.self.inside.rest) c.self.inside.telling ≡ c.args.self.now =
    ap (λ p. run_of c.self.inside.section.value seen c.self.inside.number c.self.inside.taken p (into_iter_items c.self.inside.rest) c.self.inside.telling) (sym none) ∙ c.self.view_is in
    let after : Run = run_of c.self.inside.section.value c.of-2.result.value c.self.inside.number (c.self.inside.taken + 1) c.in_ok-self-inside.field-0 (into_iter_items c.next.new.self) c.start.new.telling in
    subst (λ r. Takes r after c.args.core.now c.start.new.core c.args.reads.now c.start.new.reads) before
    (takes_first _ seen _ _ _ _ c.self.inside.telling (held_none none c.self.invariant) c.in-Some-next.command (into_iter_items c.next.new.self) c.in-Some-next.ensures.cases.0
    c.args.core.now c.start.new.core c.of-2.result.value c.in_ok-self-inside.ensures.trace c.of-2.ensures c.start.new.telling c.args.reads.now c.start.new.reads c.in_ok-self-inside.field-0
    c.in_ok-self-inside.ensures.started)
