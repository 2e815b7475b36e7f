use Rattle.std.proofs.Common.{length, ap, ◌∙◌, arith, length-take-le}
use Rattle.volume.proofs.Plays.{item_at, known_stop, known_more}
use Rattle.volume.proofs.replays.try_records.Goals as goal

pub returns-then-cell_of-cells : goal.returns-then-cell_of-cells
returns-then-cell_of-cells g c =
    let K = g.K.Kind.model in
    let rs = c.args.records.now in
    let r = c.r-item.result in
    let long = ap length c.first_records-r-items.ensures ∙ length-take-le c.args.moment rs c.requires in
    let is = item_at K rs c.loop-i.i c.args.moment c.first_records-r-items.result.now r c.first_records-r-items.ensures c.requires c.loop-i-test.true c.r-item.is in
    known_stop K rs c.loop-i.i c.args.cells r c.loop-i.invariant is c.args.moment (omega (arith, long, c.loop-i-test.true)) (omega arith)

pub loop-i-preserved : goal.loop-i-preserved
loop-i-preserved g c =
    let K = g.K.Kind.model in
    let rs = c.args.records.now in
    let r = c.r-item.result in
    let is = item_at K rs c.loop-i.i c.args.moment c.first_records-r-items.result.now r c.first_records-r-items.ensures c.requires c.loop-i-test.true c.r-item.is in
    known_more K rs c.loop-i.i c.args.cells r c.loop-i.invariant is (omega arith)
