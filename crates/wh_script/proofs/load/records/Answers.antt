use Rattle.std.proofs.Common.{ℕ, ◌≡◌, ◌∙◌, ◌+◌, ◌-◌, arith, inl, inr, length, refl, suc}
use Rattle.csv.specs.Reading.{strip_bom}
use Rattle.wh_script.proofs.Records.{records-found, records-none, step-found, step-none}
use Rattle.wh_script.proofs.load.records.Goals as goal

pub loop-turn-init : goal.loop-turn-init
loop-turn-init c =
    let fr = c.from_reader-reader.ensures in
    let e1 = c.has_headers.ensures in
    let e2 = c.flexible.ensures in
    let n : length c.args.block.now + 1 - 0 ≡ suc (length c.args.block.now) = omega arith in (
      rw (e2, e1) at fr.trim ∙ c.new.ensures.trim,
      inr (inr (rw (e2, e1) at fr.has_headers, fr.headers)),
      rw (e2, e1) at fr.config ∙ c.new.ensures.config,
      strip_bom c.args.block.now,
      fr.source,
      rw (c.new-rows.ensures, fr.state, n) refl,
    )

pub returns-in-Ok-false : goal.returns-in-Ok-false
returns-in-Ok-false c =
    let inv = c.loop-turn.invariant in
    let s = rw c.in-Ok-false.field-0-test at (c.in-Ok-false.ensures.reads inv.0 inv.1) in
    let n : ℕ = length c.args.block.now - c.loop-turn.turn in
    let more : length c.args.block.now + 1 - c.loop-turn.turn ≡ suc n = omega (arith, c.loop-turn-test.true) in
    let none = records-none n c.loop-turn.reader.state inv.3 _ _ c.read_byte_record.new.self.state (rw (inv.2, inv.4) at s.0) in
    step-none c.loop-turn.rows _ n c.loop-turn.reader.state inv.3 _ more inv.5 none

pub loop-turn-preserved : goal.loop-turn-preserved
loop-turn-preserved c =
    let inv = c.loop-turn.invariant in
    let s = rw c.in-Ok-true.field-0-test at (c.in-Ok-true.ensures.reads inv.0 inv.1) in
    let n : ℕ = length c.args.block.now - c.loop-turn.turn in
    let more : length c.args.block.now + 1 - c.loop-turn.turn ≡ suc n = omega (arith, c.loop-turn-test.true) in
    let less : length c.args.block.now + 1 - (c.loop-turn.turn + 1) ≡ n = omega arith in
    let m = records-found n c.loop-turn.reader.state inv.3 _ _ c.read_byte_record.new.self.state (rw (inv.2, inv.4) at s.0) in (
      s.3 ∙ inv.0,
      inl (c.in-Ok-true.ensures.ready inv.0),
      s.2 ∙ inv.2,
      m.0,
      rw s.1 m.1,
      step-found c.loop-turn.rows c.push.new.self c.in_ok-row_of-in-Ok-true.field-0 _ _ _ n c.loop-turn.reader.state c.read_byte_record.new.self.state inv.3 m.0 _ more less
          c.in_ok-push-in-Ok-true.ensures.ok c.in_ok-row_of-in-Ok-true.ensures inv.5 m.2,
    )
