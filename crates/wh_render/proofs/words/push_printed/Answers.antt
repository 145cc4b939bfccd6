use Rattle.std.proofs.Common.{◌≡◌, ◌≢◌, length, arith}
use Rattle.wh_render.proofs.Joined.{printed-nothing, printed-word}
use Rattle.wh_render.proofs.words.push_printed.Goals as goal

pub returns-then-len-bare : goal.returns-then-len-bare
returns-then-len-bare g c =
    let a = c.args.out.now.items in
    let b = c.push.new.self.items in
    let d = c.push_text.new.out.items in
    let few : c.len-before.result ≡ length a = omega (arith, c.len-before.ensures, c.args.out.now.ok) in
    let same : length d ≡ length b = omega (arith, c.if-len-bare.true, c.len.ensures, c.len-bare.ensures, c.push.new.self.ok, c.push_text.new.out.ok) in
    rw c.truncate.ensures.items (printed-nothing c.len-before.result a b d (g.T.Printed.text c.args.item.now) few c.in_ok-push.ensures.items c.in_ok-push_text.ensures same)

pub returns-else-len-bare : goal.returns-else-len-bare
returns-else-len-bare g c =
    let a = c.args.out.now.items in
    let b = c.push.new.self.items in
    let d = c.push_text.new.out.items in
    let differ : length d ≢ length b = λ same. c.if-len-bare.false (omega (arith, same, c.len.ensures, c.len-bare.ensures, c.push.new.self.ok, c.push_text.new.out.ok)) in
    printed-word a b d (g.T.Printed.text c.args.item.now) c.in_ok-push.ensures.items c.in_ok-push_text.ensures differ
