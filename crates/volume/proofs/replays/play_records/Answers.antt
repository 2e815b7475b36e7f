use Rattle.std.proofs.Common.{ap, ◌∙◌, length, arith, length-take-le}
use Rattle.volume.proofs.Plays.{item_at, tried_low, plays_more}
use Rattle.volume.proofs.replays.play_records.Goals as goal

pub play_record-requires : goal.play_record-requires
play_record-requires g c =
    let K = g.K.Kind.model in
    let rs = c.args.records.now in
    let r = c.r-item.result in
    let long = ap length c.first_records-r-items.ensures ∙ length-take-le c.args.moment rs c.requires.0 in
    let is = item_at K rs c.loop-r.r-index c.args.moment c.first_records-r-items.result.now r c.first_records-r-items.ensures c.requires.0 c.loop-r-test.true c.r-item.is in
    let low = tried_low K rs c.loop-r.r-index (length c.args.image.now) c.args.moment r c.requires.1 (omega arith) is in
    omega arith

pub loop-r-preserved : goal.loop-r-preserved
loop-r-preserved g c =
    let K = g.K.Kind.model in
    let rs = c.args.records.now in
    let r = c.r-item.result in
    plays_more K rs c.loop-r.r-index (length c.fill_with.new.slice) c.loop-r.image c.play_record.new.image r c.loop-r.invariant
    (item_at K rs c.loop-r.r-index c.args.moment c.first_records-r-items.result.now r c.first_records-r-items.ensures c.requires.0 c.loop-r-test.true c.r-item.is)
    c.play_record.ensures
