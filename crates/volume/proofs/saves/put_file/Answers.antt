use Rattle.std.proofs.Common.{◌≡◌, length, ap, ◌∙◌, arith, length-take-le}
use Rattle.file.specs.Forms.{written}
use Rattle.volume.specs.Saves.{lines_of}
use Rattle.volume.proofs.Laid.{record_fits, header_put, laid_more, laid_behind}
use Rattle.volume.proofs.Plays.{item_at}
use Rattle.volume.proofs.saves.put_file.Goals as goal

pub put_record-requires : goal.put_record-requires
put_record-requires g c =
    let long = ap length c.first_records-r-items.ensures ∙ length-take-le c.args.count c.args.records.now c.requires.there in
    record_fits g.K.Kind.model.width c.args.count c.loop-i.i (length c.loop-i.area) (omega (arith, long, c.loop-i-test.true)) (omega arith)

pub loop-i-preserved : goal.loop-i-preserved
loop-i-preserved g c =
    let K = g.K.Kind.model in
    let rs = c.args.records.now in
    let r = c.r-item.result in
    let long = ap length c.first_records-r-items.ensures ∙ length-take-le c.args.count rs c.requires.there in
    let is = item_at K rs c.loop-i.i c.args.count c.first_records-r-items.result.now r c.first_records-r-items.ensures c.requires.there c.loop-i-test.true c.r-item.is in
    laid_more K g.K.Kind.laws rs c.args.cells c.args.count c.loop-i.i c.loop-i.area c.put_record.new.area c.write_header.new.out r (omega (arith, long, c.loop-i-test.true, c.requires.there)) is c.loop-i.invariant c.put_record.ensures

pub returns : goal.returns
returns g c =
    let K = g.K.Kind.model in
    let laws = g.K.Kind.laws in
    let rs = c.args.records.now in
    let out = c.write_header.new.out in
    let long = ap length c.first_records-r-items.ensures ∙ length-take-le c.args.count rs c.requires.there in
    let all : c.loop-i.i ≡ c.args.count = omega (arith, long) in
    let head = header_put K laws c.args.cells c.args.count c.LETTER.result c.write_header.result c.args.area.now out (c.LETTER.ensures ∙ g.met.K.Kind.letter_is) (omega arith) c.write_header.ensures.done c.write_header.ensures.area in
    c.loop-i.invariant ∙ ap (λ n. written K c.args.cells c.args.count (lines_of K rs n) out) all ∙ laid_behind K laws rs c.args.cells c.args.count c.args.count out c.args.area.now head
