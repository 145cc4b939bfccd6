use Rattle.std.proofs.Common.{◌+◌, ◌≤◌, List, length, drop, arith, ap}
use Rattle.std.specs.Option.{option_copied, option_to_list}
use Rattle.wh_base.specs.Tables.{live_rows, most_live, place_of, places_of}
use Rattle.wh_base.specs.declared.tables.RowAt.{RowAt}
use Rattle.wh_star.proofs.Scans.{one_further, rows_in-few, rows-more, so_far}
use Rattle.wh_star.specs.Lookups.{rows_in}
use Rattle.wh_star.proofs.scan.read_table.Goals as goal

pub row_at-requires-clause-room : goal.row_at-requires-clause-room
row_at-requires-clause-room g c =
    let live : List RowAt = live_rows (places_of (g.R.RowsOf.tables c.args.rows.now) c.args.table) in
    let all : List RowAt = rows_in (option_copied c.args.numbers) live in
    let few : length live ≤ most_live = g.R.RowsOf.few c.args.rows.now c.args.table in
    let bound : length all ≤ most_live = omega (arith, few, rows_in-few (option_copied c.args.numbers) live) in
    let rest : List RowAt = rows_in (option_copied c.args.numbers) (live_rows (drop c.loop-place.place (places_of (g.R.RowsOf.tables c.args.rows.now) c.args.table))) in
    let found : length c.loop-place.found.items ≤ most_live = so_far c.loop-place.found.items rest all most_live c.loop-place.invariant.found bound in
    omega (arith, found, c.loop-place.invariant.raised)

pub returns-in_err-push-clause-most : goal.returns-in_err-push-clause-most
returns-in_err-push-clause-most g c =
    let numbers = option_copied c.args.numbers in
    let tables = g.R.RowsOf.tables c.args.rows.now in
    let places = places_of tables c.args.table in
    let one : List RowAt = rows_in numbers (option_to_list (place_of tables c.args.table c.loop-place.place)) in
    let more : List RowAt = rows_in numbers (live_rows (drop (c.loop-place.place + 1) places)) in
    let step = rows-more numbers tables c.args.table c.loop-place.place (omega arith) in
    let further : length c.loop-place.found.items + length one ≤ length (rows_in numbers (live_rows places)) =
    one_further c.loop-place.found.items (rows_in numbers (live_rows (drop c.loop-place.place places))) one more (rows_in numbers (live_rows places)) c.loop-place.invariant.found step in
    omega (arith, further, c.loop-place.invariant.raised, c.in-Some.ensures.raised, ap length {y = one} c.in-Some.ensures.row)
