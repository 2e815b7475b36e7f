use Rattle.std.proofs.Common.{◌≤◌, length, Ok, sym, ap, ◌∙◌, arith, rules}
use Rattle.volume.specs.Areas.{length_of, area_after}
use Rattle.volume.specs.Memory.{held}
use Rattle.volume.specs.Saves.{saved}
use Rattle.volume.proofs.Laid.{file_long, laid_all, saved_right}
use Rattle.volume.proofs.Volume.save.Goals as goal

pub returns : goal.returns
unfolding saved
returns g c =
    let K = g.K.Kind.model in
    let laws = g.K.Kind.laws in
    let m = held c.args.self.now in
    let out = c.args.area.now in
    let within : m.count ≤ length m.records = search rules in
    let e = saved_right K m (length out) c.in_ok-check_memory.ensures (omega arith) c.in_ok-try_records.ensures in
    record {
      answer = ap (λ n. Ok n) (c.file_length-length.ensures ∙ sym (file_long K laws m.records (length m.cells) m.count within)) ∙ ap length_of (sym e);
      after = c.put_file.ensures ∙ laid_all K laws m.records (length m.cells) m.count out within ∙ ap (area_after out) (sym e);
    }
