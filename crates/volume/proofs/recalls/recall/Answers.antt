use Rattle.std.proofs.Common.{◌++◌, length, drop, sym, ap, ◌∙◌, arith}
use Rattle.std.proofs.lemmas.Bool.{le-leb, cond-true}
use Rattle.kind.specs.Answers.{told}
use Rattle.volume.specs.Recalls.{recalled}
use Rattle.volume.specs.Areas.{area_after}
use Rattle.volume.proofs.Recalled.{told_right}
use Rattle.volume.proofs.recalls.recall.Goals as goal

pub returns : goal.returns
unfolding recalled
returns g c =
    let K = g.K.Kind.model in
    let laws = g.K.Kind.laws in
    let out = c.args.out.now in
    let s = K.state c.in_ok-state.state in
    let e =
    told_right K laws c.args.file.now c.args.cell c.args.moment (length out) c.in_ok-header.header c.in_ok-state.state
    c.in_ok-header.ensures.value (omega arith) (omega arith) (omega arith) c.in_ok-state.ensures in
    let fits = c.write_state.ensures.0 ∙ le-leb K.width (length out) (omega arith) in
    record {
      answer = ap (told tt) (sym e);
      area =
          c.write_state.ensures.1 ∙ cond-true _ _ _ fits
          ∙ ap (λ w. K.state_form s ++ drop w out) (sym (laws.state_width s).0) ∙ ap (area_after out) (sym e);
    }
