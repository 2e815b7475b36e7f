use Rattle.std.proofs.Common.{◌≡◌, length, min, Some, None, Ok, Err, sym, ap, ◌∙◌, arith}
use Rattle.std.specs.Option.{option_map as mapped_some}
use Rattle.std.specs.Result.{result_map_both}
use Rattle.std.proofs.lemmas.List.{length_push}
use Rattle.std.proofs.lemmas.Result.{err_from_is_err_and}
use Rattle.file.specs.States.{replayed}
use Rattle.file.proofs.Numbered.{turn_taken, end_taken}
use Rattle.file.proofs.Replay.{said, said_is, state_more, last_some, last_none, refused_at}
use Rattle.file.proofs.states.replayed.Goals as goal

pub returns-in_err-change : goal.returns-in_err-change
returns-in_err-change g c =
    let K = g.K.Kind.model in
    let file = c.args.file in
    let f = file.bytes.now in
    let i = length c.loop-n.yielded in
    let t = turn_taken file (min c.args.moment file.header.count) c.records_to-n-items.result c.into_iter-n-iterator.result c.records_to-n-items.ensures.file c.records_to-n-items.ensures.given c.records_to-n-items.ensures.last c.into_iter-n-iterator.ensures.into_iter_gives c.loop-n.yielded c.loop-n.n-iterator c.loop-n.yielded_by c.next.result c.next.new.self (c.in-Some.n, c.in-Some.saved) c.in-Some.is c.next.ensures.steps in
    let q = said_is K f c.args.cell i c.in-Some.n file.header.cells c.loop-n.last file.width _ (Err c.in_err-change.field-0.0) file.fits.cells c.loop-n.invariant.1 c.requires.of_kind t.1 t.2 c.in_err-change.ensures in
    let p = err_from_is_err_and c.from_residual.result c.from_residual.ensures.1 in
    rw (p.1, p.2) (ap (result_map_both K.plain_state (λ e. e)) (refused_at K f c.args.cell i (min c.args.moment file.header.count) (K.state c.loop-n.state) c.in_err-change.field-0.0 (omega (arith, t.0)) c.loop-n.invariant.0 q))

pub loop-n-preserved-in-Some-2 : goal.loop-n-preserved-in-Some-2
loop-n-preserved-in-Some-2 g c =
    let K = g.K.Kind.model in
    let file = c.args.file in
    let f = file.bytes.now in
    let i = length c.loop-n.yielded in
    let t = turn_taken file (min c.args.moment file.header.count) c.records_to-n-items.result c.into_iter-n-iterator.result c.records_to-n-items.ensures.file c.records_to-n-items.ensures.given c.records_to-n-items.ensures.last c.into_iter-n-iterator.ensures.into_iter_gives c.loop-n.yielded c.loop-n.n-iterator c.loop-n.yielded_by c.next.result c.next.new.self (c.in-Some.n, c.in-Some.saved) c.in-Some.is c.next.ensures.steps in
    let q = said_is K f c.args.cell i c.in-Some.n file.header.cells c.loop-n.last file.width _ (Ok (mapped_some K.change c.in_ok-change.field-0)) file.fits.cells c.loop-n.invariant.1 c.requires.of_kind t.1 t.2 c.in_ok-change.ensures in
    let own : Ok (Some (K.change c.in-Some-2.change)) ≡ said K f c.args.cell i = ap (λ o. Ok (mapped_some K.change o)) (sym c.in-Some-2.is) ∙ q in
    let s = K.state c.loop-n.state in
    let t2 = K.act (K.change c.in-Some-2.change) s in
    let taken : K.state c.act-state.result ≡ t2 = ap K.state {y = K.plain_state t2} c.act-state.ensures ∙ g.K.Kind.laws.state_plain t2 in
    let more = length_push c.loop-n.yielded (c.in-Some.n, c.in-Some.saved) in
    rw more (
      ap (λ s. Ok s) taken ∙ state_more K f c.args.cell i s (Some (K.change c.in-Some-2.change)) c.loop-n.invariant.0 own,
      t.1 ∙ last_some K f c.args.cell i _ own,
      c.act-state.ensures ∙ ap K.plain_state (sym taken),
    )

pub loop-n-preserved : goal.loop-n-preserved
loop-n-preserved g c =
    let K = g.K.Kind.model in
    let file = c.args.file in
    let f = file.bytes.now in
    let i = length c.loop-n.yielded in
    let t = turn_taken file (min c.args.moment file.header.count) c.records_to-n-items.result c.into_iter-n-iterator.result c.records_to-n-items.ensures.file c.records_to-n-items.ensures.given c.records_to-n-items.ensures.last c.into_iter-n-iterator.ensures.into_iter_gives c.loop-n.yielded c.loop-n.n-iterator c.loop-n.yielded_by c.next.result c.next.new.self (c.in-Some.n, c.in-Some.saved) c.in-Some.is c.next.ensures.steps in
    let q = said_is K f c.args.cell i c.in-Some.n file.header.cells c.loop-n.last file.width _ (Ok (mapped_some K.change c.in_ok-change.field-0)) file.fits.cells c.loop-n.invariant.1 c.requires.of_kind t.1 t.2 c.in_ok-change.ensures in
    let other : Ok None ≡ said K f c.args.cell i = ap (λ o. Ok (mapped_some K.change o)) (sym c.in_default.is) ∙ q in
    let more = length_push c.loop-n.yielded (c.in-Some.n, c.in-Some.saved) in
    rw more (
      state_more K f c.args.cell i (K.state c.loop-n.state) None c.loop-n.invariant.0 other,
      c.loop-n.invariant.1 ∙ last_none K f c.args.cell i other,
      c.loop-n.invariant.2,
    )

pub returns : goal.returns
returns g c =
    let K = g.K.Kind.model in
    let file = c.args.file in
    let n = end_taken file (min c.args.moment file.header.count) c.records_to-n-items.result c.into_iter-n-iterator.result c.records_to-n-items.ensures.file c.records_to-n-items.ensures.given c.records_to-n-items.ensures.last c.into_iter-n-iterator.ensures.into_iter_gives c.loop-n.yielded c.loop-n.n-iterator c.loop-n.yielded_by c.next.result c.next.new.self c.in-None.is c.next.ensures.steps in
    ap (λ s. Ok s) c.loop-n.invariant.2 ∙ ap (result_map_both K.plain_state (λ e. e)) (c.loop-n.invariant.0 ∙ ap (replayed K file.bytes.now c.args.cell) n)
