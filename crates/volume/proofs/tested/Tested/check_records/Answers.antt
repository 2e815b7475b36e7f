use Rattle.std.proofs.Common.{◌≡◌, ◌+◌, ◌-◌, length, sym, ap, ◌∙◌}
use Rattle.kind.specs.Answers.{each_below}
use Rattle.volume.specs.Checks.{newest_to, record_right}
use Rattle.volume.proofs.Examined.{took, left_out}
use Rattle.volume.proofs.tested.Tested.check_records.Goals as goal

pub returns-then-not-take_in : goal.returns-then-not-take_in
returns-then-not-take_in g c =
    let K = g.K.Kind.model in
    let rs = c.args.self.now.records.now in
    let cells = length c.fill.new.self in
    let i = c.loop-i.i in
    let out = left_out K rs cells i c.loop-i.work c.take_in.new.work c.take_in.result c.loop-i.auto.work c.loop-i.invariant.0 c.take_in.ensures.answer c.take_in.ensures.after c.loop-i.invariant.1 c.args.self.now.count c.loop-i-test.true c.if-not-take_in.true in
    let long : cells ≡ length c.args.work.now = c.fill.auto.self in
    record {
      answer = sym (ap (λ n. each_below (record_right K n rs) c.args.self.now.count) (sym long) ∙ out.1);
      after = out.0 ∙ ap (λ n. newest_to K n rs ((i + 1) - 1)) long;
    }

pub loop-i-preserved : goal.loop-i-preserved
loop-i-preserved g c =
    let K = g.K.Kind.model in
    let rs = c.args.self.now.records.now in
    let cells = length c.fill.new.self in
    took K rs cells c.loop-i.i c.loop-i.work c.take_in.new.work c.take_in.result c.loop-i.auto.work c.loop-i.invariant.0 c.take_in.ensures.answer c.take_in.ensures.after c.loop-i.invariant.1 c.if-not-take_in.false
